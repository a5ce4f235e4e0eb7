-- what was found with what is left is what is found with all
use Rattle.std.proofs.Common.{◌≡◌, drop}
use Rattle.std.specs.Prelude.{fold}
use Rattle.xt_base.specs.First.{sooner}
use Rattle.ck_call.specs.inner.Breaks.{breaks_by}
use Rattle.ck_call.specs.inner.Routines.{leads_back}
use Rattle.ck_call.proofs.recursion.report_text.Given as goal

abbrev pub invariant-loop-line : goal.invariant-loop-line
invariant-loop-line l =
    fold sooner l.fn.finder.first (breaks_by (leads_back l.labels l.counts.tasks l.counts.funcs l.from) 51 l.line-items)
    ≡ fold sooner l.finder.first (breaks_by (leads_back l.labels l.counts.tasks l.counts.funcs l.from) 51 (drop l.line-index l.line-items))
