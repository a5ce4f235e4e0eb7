-- of each process so far
use Rattle.ck_call.specs.inner.Placed.{AreReaches}
use Rattle.ck_call.proofs.reach.reaches.Given as goal

abbrev pub invariant-loop-text : goal.invariant-loop-text
invariant-loop-text l = AreReaches l.texts l.all l.text-index
