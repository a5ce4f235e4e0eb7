-- what is there with what is left is all
use Rattle.std.proofs.Common.{◌≡◌, drop}
use Rattle.std.specs.Prelude.{fold}
use Rattle.ck_call.specs.inner.Measures.{measured_next}
use Rattle.ck_call.proofs.measures.measure_all.Given as goal

abbrev pub invariant-loop-routine : goal.invariant-loop-routine
invariant-loop-routine l = fold (measured_next l.graph l.weights) l.fn.table l.order ≡ fold (measured_next l.graph l.weights) l.table (drop l.routine-index l.order)
