-- what was found with what is left is what is found with all
use Rattle.std.proofs.Common.{◌≡◌, drop}
use Rattle.std.specs.Prelude.{fold, flat_map}
use Rattle.xt_base.specs.First.{sooner}
use Rattle.el_design.specs.View.{flat_of}
use Rattle.ck_call.specs.inner.Breaks.{breaks_by, misfits}
use Rattle.ck_call.proofs.arguments.report_texts.Given as goal

abbrev pub invariant-loop-text : goal.invariant-loop-text
invariant-loop-text l =
    fold sooner l.fn.finder.first (flat_map (breaks_by (misfits (flat_of l.design)) 52) l.texts)
    ≡ fold sooner l.finder.first (flat_map (breaks_by (misfits (flat_of l.design)) 52) (drop l.text-index l.texts))
