-- what was found with what is left is what is found with all
use Rattle.std.proofs.Common.{◌≡◌, drop}
use Rattle.std.specs.Prelude.{fold}
use Rattle.xt_base.specs.First.{sooner}
use Rattle.ck_call.specs.inner.Breaks.{breaks_by}
use Rattle.ck_call.specs.inner.Placed.{is_disable}
use Rattle.ck_call.proofs.places.report_disables.Given as goal

abbrev pub invariant-loop-line : goal.invariant-loop-line
invariant-loop-line l =
    fold sooner l.fn.finder.first (breaks_by is_disable 53 l.line-items)
    ≡ fold sooner l.finder.first (breaks_by is_disable 53 (drop l.line-index l.line-items))
