-- what is there with what is left is all
use Rattle.std.proofs.Common.{◌≡◌, ◌++◌, drop, map}
use Rattle.ck_call.specs.inner.Routines.{text_enables}
use Rattle.ck_call.proofs.routines.enabled_tasks.Given as goal

abbrev pub invariant-loop-text : goal.invariant-loop-text
invariant-loop-text l = map (text_enables l.counts.tasks) l.text-items ≡ l.graph ++ map (text_enables l.counts.tasks) (drop l.text-index l.text-items)
