-- what was found with what is left is what is found with all
use Rattle.std.proofs.Common.{◌≡◌, drop}
use Rattle.std.specs.Prelude.{fold, flat_map}
use Rattle.xt_base.specs.First.{sooner}
use Rattle.ck_call.specs.inner.Breaks.{breaks_by}
use Rattle.ck_call.specs.inner.Placed.{is_disable}
use Rattle.ck_call.proofs.places.report_functions.Given as goal

abbrev pub invariant-loop-text : goal.invariant-loop-text
invariant-loop-text l =
    fold sooner l.fn.finder.first (flat_map (breaks_by is_disable 53) l.texts)
    ≡ fold sooner l.finder.first (flat_map (breaks_by is_disable 53) (drop l.text-index l.texts))
