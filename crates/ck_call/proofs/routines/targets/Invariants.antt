-- what is there with what is left is all
use Rattle.std.proofs.Common.{◌≡◌, ◌++◌, drop}
use Rattle.ck_call.specs.inner.Routines.{text_targets}
use Rattle.ck_call.proofs.routines.targets.Given as goal

abbrev pub invariant-loop-line : goal.invariant-loop-line
invariant-loop-line l = text_targets l.counts.tasks l.counts.funcs l.line-items ≡ l.all ++ text_targets l.counts.tasks l.counts.funcs (drop l.line-index l.line-items)
