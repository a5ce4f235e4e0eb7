-- what is there with what is left is all
use Rattle.std.proofs.Common.{◌≡◌, ◌++◌, drop, map}
use Rattle.ck_call.specs.inner.Routines.{text_targets}
use Rattle.ck_call.proofs.routines.push_routines.Given as goal

abbrev pub invariant-loop-text : goal.invariant-loop-text
invariant-loop-text l = l.fn.graph ++ map (text_targets l.counts.tasks l.counts.funcs) l.texts ≡ l.graph ++ map (text_targets l.counts.tasks l.counts.funcs) (drop l.text-index l.texts)
