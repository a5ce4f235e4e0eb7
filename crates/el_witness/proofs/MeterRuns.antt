-- The run of the meter that takes the first event each time, and that every other run has its trace.
use Rattle.std.proofs.Common.{◌≡◌, ◌<◌, ◌^◌, ℕ, List, [], ◌∷◌, refl, arith}
use Rattle.xt_bits.specs.Word as words
use Rattle.xt_bits.specs.Operators as operators
use Rattle.xt_bits.specs.Trace.{Trace}
use Rattle.el_design.specs.Laws.{EdgeBegins}
use Rattle.el_design.specs.Queue.{Config, Event}
use Rattle.el_design.specs.Run.{IsStimulus, IsRow, Runs}
use Rattle.el_design.proofs.OrderLaws.{every_order}
use Rattle.el_witness.specs.Meter.{meter}
use Rattle.el_witness.specs.MeterRun.{HasTrace, EdgeTells, byte, given, seen, after_start, after_255, after_5, start_tells, edge_255_tells, edge_5_tells, last_tells}
use Rattle.std.proofs.lemmas.List.Elements.{All-nil}
use Rattle.el_witness.proofs.SoundTests.{all_cons}
use Rattle.el_witness.proofs.RunTests.{runs, first_edge, next_edge, edge_end, begins, goes_on, edge_tells}
use Rattle.el_witness.proofs.MeterClean.{meter_is_checked}

pub meter_runs : HasTrace meter given seen
unfolding words.number_of words.bit_of operators.selected_bit operators.turned_bit operators.extended_bit operators.shifted_bit operators.replaced_bit
meter_runs = runs meter (byte 0 ∷ []) after_start given.replies refl (refl, refl, (refl, refl, (refl, refl, refl)))

row_fits : (n : ℕ) → (byte n).value < 2 ^ 8 → IsRow meter (byte n ∷ [])
row_fits n h = (refl, all_cons (λ v. v.value < 2 ^ v.width) (byte n) [] h (All-nil (λ v. v.value < 2 ^ v.width)))

pub given_fits : IsStimulus meter given
given_fits = record {
  some_row = λ e. cc;
  rows = all_cons (IsRow meter) (byte 0 ∷ []) after_start (row_fits 0 (omega arith)) (all_cons (IsRow meter) (byte 255 ∷ []) ((byte 5 ∷ []) ∷ (byte 0 ∷ []) ∷ []) (row_fits 255 (omega arith))
      (all_cons (IsRow meter) (byte 5 ∷ []) ((byte 0 ∷ []) ∷ []) (row_fits 5 (omega arith)) (all_cons (IsRow meter) (byte 0 ∷ []) [] (row_fits 0 (omega arith)) (All-nil (IsRow meter)))));
  replies = refl;
}

pub seen_alone : (plays : List (List Event)) (trace : Trace) → Runs meter given plays trace → trace ≡ seen
seen_alone plays trace r = every_order meter (0 ∷ 1 ∷ 2 ∷ []) meter_is_checked given plays meter_runs.0 trace seen r meter_runs.1

-- ---- what its events tell, edge by edge

abbrev start_begin : Config
start_begin = first_edge meter (byte 0 ∷ []) given.replies

abbrev begin_255 : Config
begin_255 = next_edge meter (edge_end meter start_begin) (byte 255 ∷ [])

abbrev begin_5 : Config
begin_5 = next_edge meter (edge_end meter begin_255) (byte 5 ∷ [])

abbrev last_begin : Config
last_begin = next_edge meter (edge_end meter begin_5) (byte 0 ∷ [])

start_begins : EdgeBegins meter given after_start start_begin
unfolding words.number_of words.bit_of operators.selected_bit operators.turned_bit operators.extended_bit operators.shifted_bit operators.replaced_bit
start_begins = begins meter (byte 0 ∷ []) after_start given.replies refl

begins_255 : EdgeBegins meter given after_255 begin_255
unfolding words.number_of words.bit_of operators.selected_bit operators.turned_bit operators.extended_bit operators.shifted_bit operators.replaced_bit
begins_255 = goes_on meter given (byte 255 ∷ []) after_255 start_begin start_begins refl refl

begins_5 : EdgeBegins meter given after_5 begin_5
unfolding words.number_of words.bit_of operators.selected_bit operators.turned_bit operators.extended_bit operators.shifted_bit operators.replaced_bit
begins_5 = goes_on meter given (byte 5 ∷ []) after_5 begin_255 begins_255 refl refl

last_begins : EdgeBegins meter given [] last_begin
unfolding words.number_of words.bit_of operators.selected_bit operators.turned_bit operators.extended_bit operators.shifted_bit operators.replaced_bit
last_begins = goes_on meter given (byte 0 ∷ []) [] begin_5 begins_5 refl refl

pub start_told : EdgeTells meter given after_start start_tells
unfolding words.number_of words.bit_of operators.selected_bit operators.turned_bit operators.extended_bit operators.shifted_bit operators.replaced_bit
start_told = edge_tells meter given after_start start_begin start_tells start_begins refl refl

pub told_255 : EdgeTells meter given after_255 edge_255_tells
unfolding words.number_of words.bit_of operators.selected_bit operators.turned_bit operators.extended_bit operators.shifted_bit operators.replaced_bit
told_255 = edge_tells meter given after_255 begin_255 edge_255_tells begins_255 refl refl

pub told_5 : EdgeTells meter given after_5 edge_5_tells
unfolding words.number_of words.bit_of operators.selected_bit operators.turned_bit operators.extended_bit operators.shifted_bit operators.replaced_bit
told_5 = edge_tells meter given after_5 begin_5 edge_5_tells begins_5 refl refl

pub last_told : EdgeTells meter given [] last_tells
unfolding words.number_of words.bit_of operators.selected_bit operators.turned_bit operators.extended_bit operators.shifted_bit operators.replaced_bit
last_told = edge_tells meter given [] last_begin last_tells last_begins refl refl
