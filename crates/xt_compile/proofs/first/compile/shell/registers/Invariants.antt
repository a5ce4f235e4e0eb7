use Rattle.std.proofs.Common.{◌≡◌, map, take}
use Rattle.std.specs.Prelude.{All}
use Rattle.xt_bits.specs.Word.{IsKept}
use Rattle.xt_compile.proofs.first.compile.shell.registers.Given as goal

abbrev pub invariant-loop-var : goal.invariant-loop-var
invariant-loop-var l = record {
  values : l.starts.items ≡ map (λ v. v.start) (take l.var-index l.var-items);
  kept : All (λ k. IsKept k.width k.value) l.starts.items;
}
