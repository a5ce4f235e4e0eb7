-- what is there with what is left is all
use Rattle.std.proofs.Common.{◌≡◌, max, drop}
use Rattle.ck_call.specs.inner.Measures.{nesting}
use Rattle.ck_call.proofs.measures.nesting.Given as goal

abbrev pub invariant-loop-routine : goal.invariant-loop-routine
invariant-loop-routine l = nesting l.table l.routines ≡ max l.depth (nesting l.table (drop l.routine-index l.routines))
