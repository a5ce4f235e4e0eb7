use Rattle.std.proofs.Common.{◌≡◌, suc, ◌*◌}
use Rattle.el_design.specs.Value.{copies}
use Rattle.el_width.proofs.values.copies.Given as goal

abbrev pub invariant-loop : goal.invariant-loop
invariant-loop l = record { copied : l.all ≡ copies l.counter l.value; wide : l.all.width ≡ suc l.counter * l.value.width }
