use Rattle.std.proofs.Common.{arith}
use Rattle.std.proofs.lemmas.Int.{to_z-of_z, ints}
use Rattle.xt_bits.proofs.Vectors.{lowered_under, lowered_over}
use Rattle.xt_bits.proofs.Bits.lowered.Goals as goal

pub returns-then-by-lt0 : goal.returns-then-by-lt0
returns-then-by-lt0 c = λ i h. grind (arith, ints, to_z-of_z, lowered_under)

pub returns-else-by-lt0 : goal.returns-else-by-lt0
returns-else-by-lt0 c = λ i h. grind (arith, ints, to_z-of_z, lowered_over)
