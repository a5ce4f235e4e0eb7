use Rattle.std.proofs.Common.{◌≡◌, take, map}
use Rattle.xt_bits.specs.Word.{word}
use Rattle.nt_run.proofs.runner.zero_row.Given as goal

abbrev pub invariant-loop-pin : goal.invariant-loop-pin
invariant-loop-pin l = l.row.items ≡ map (λ p. word p.width 0) (take l.pin-index l.pins)
