-- The rows of operators and targets, computed from the definitions.
use Rattle.std.proofs.Common.{refl}
use Rattle.xt_bits.specs.Word as words
use Rattle.xt_bits.specs.Operators as operators
use Rattle.el_witness.specs.Bench.{bench, IsMade, AreRight, IsStored, AreStored, AreCopied}
use Rattle.el_witness.specs.Operators as row
use Rattle.el_design.specs.Sound.{IsStatement}
use Rattle.el_witness.specs.Targets.{targets, copied, wide_loop}
use Rattle.el_witness.proofs.SoundTests.{answered, each, expression, target, statement}

pub mentioned : AreRight row.mentioned
unfolding words.number_of words.bit_of operators.selected_bit operators.turned_bit operators.extended_bit operators.shifted_bit operators.replaced_bit
mentioned = (answered (each IsMade (λ r. expression bench r.0) row.mentioned) refl, refl)

pub arithmetic : AreRight row.arithmetic
unfolding words.number_of words.bit_of operators.selected_bit operators.turned_bit operators.extended_bit operators.shifted_bit operators.replaced_bit
arithmetic = (answered (each IsMade (λ r. expression bench r.0) row.arithmetic) refl, refl)

pub comparisons : AreRight row.comparisons
unfolding words.number_of words.bit_of operators.selected_bit operators.turned_bit operators.extended_bit operators.shifted_bit operators.replaced_bit
comparisons = (answered (each IsMade (λ r. expression bench r.0) row.comparisons) refl, refl)

pub logical : AreRight row.logical
unfolding words.number_of words.bit_of operators.selected_bit operators.turned_bit operators.extended_bit operators.shifted_bit operators.replaced_bit
logical = (answered (each IsMade (λ r. expression bench r.0) row.logical) refl, refl)

pub bitwise : AreRight row.bitwise
unfolding words.number_of words.bit_of operators.selected_bit operators.turned_bit operators.extended_bit operators.shifted_bit operators.replaced_bit
bitwise = (answered (each IsMade (λ r. expression bench r.0) row.bitwise) refl, refl)

pub reductions : AreRight row.reductions
unfolding words.number_of words.bit_of operators.selected_bit operators.turned_bit operators.extended_bit operators.shifted_bit operators.replaced_bit lib.Count.ones
reductions = (answered (each IsMade (λ r. expression bench r.0) row.reductions) refl, refl)

pub shifts : AreRight row.shifts
unfolding words.number_of words.bit_of operators.selected_bit operators.turned_bit operators.extended_bit operators.shifted_bit operators.replaced_bit
shifts = (answered (each IsMade (λ r. expression bench r.0) row.shifts) refl, refl)

pub put_together : AreRight row.put_together
unfolding words.number_of words.bit_of operators.selected_bit operators.turned_bit operators.extended_bit operators.shifted_bit operators.replaced_bit
put_together = (answered (each IsMade (λ r. expression bench r.0) row.put_together) refl, refl)

pub names : AreRight row.names
unfolding words.number_of words.bit_of operators.selected_bit operators.turned_bit operators.extended_bit operators.shifted_bit operators.replaced_bit
names = (answered (each IsMade (λ r. expression bench r.0) row.names) refl, refl)

pub stored : AreStored targets
unfolding words.number_of words.bit_of operators.selected_bit operators.turned_bit operators.extended_bit operators.shifted_bit operators.replaced_bit
stored = (answered (each IsStored (λ r. target bench r.0) targets) refl, refl)

pub copied_out : AreCopied copied
unfolding words.number_of words.bit_of operators.selected_bit operators.turned_bit operators.extended_bit operators.shifted_bit operators.replaced_bit
copied_out = refl

pub wide_loop_is_sound : IsStatement bench wide_loop
wide_loop_is_sound = answered (statement bench wide_loop) refl
