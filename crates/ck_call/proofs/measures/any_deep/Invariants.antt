-- what is there with what is left is all
use Rattle.std.proofs.Common.{◌≡◌, drop}
use Rattle.std.specs.Prelude.{nat_le}
use Rattle.std.specs.List.{list_any}
use Rattle.ck_call.specs.inner.Measures.{measure_at}
use Rattle.ck_call.proofs.measures.any_deep.Given as goal

abbrev pub invariant-loop-routine : goal.invariant-loop-routine
invariant-loop-routine l = list_any (λ r. nat_le 64 (measure_at l.table r).depth) l.routines ≡ list_any (λ r. nat_le 64 (measure_at l.table r).depth) (drop l.routine-index l.routines)
