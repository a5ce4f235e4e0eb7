-- what was found with what is left is what is found with all
use Rattle.std.proofs.Common.{◌≡◌, drop}
use Rattle.std.specs.Prelude.{fold}
use Rattle.xt_base.specs.First.{sooner}
use Rattle.el_design.specs.View.{flat_of}
use Rattle.ck_call.specs.inner.Breaks.{breaks_by, misfits}
use Rattle.ck_call.proofs.arguments.report_text.Given as goal

abbrev pub invariant-loop-line : goal.invariant-loop-line
invariant-loop-line l =
    fold sooner l.fn.finder.first (breaks_by (misfits (flat_of l.design)) 52 l.line-items)
    ≡ fold sooner l.finder.first (breaks_by (misfits (flat_of l.design)) 52 (drop l.line-index l.line-items))
