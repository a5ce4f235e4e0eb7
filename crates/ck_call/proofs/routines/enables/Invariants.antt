-- what is there with what is left is all
use Rattle.std.proofs.Common.{◌≡◌, ◌++◌, drop}
use Rattle.ck_call.specs.inner.Routines.{text_enables}
use Rattle.ck_call.proofs.routines.enables.Given as goal

abbrev pub invariant-loop-line : goal.invariant-loop-line
invariant-loop-line l = text_enables l.counts.tasks l.line-items ≡ l.all ++ text_enables l.counts.tasks (drop l.line-index l.line-items)
