use Rattle.std.proofs.Common.{◌≡◌, replicate}
use Rattle.xt_bits.specs.Word.{word}
use Rattle.nt_core.proofs.evaluation.zeros.Given as goal

abbrev pub invariant-loop-word : goal.invariant-loop-word
invariant-loop-word l = l.zeros.items ≡ replicate l._word (word l.width 0)
