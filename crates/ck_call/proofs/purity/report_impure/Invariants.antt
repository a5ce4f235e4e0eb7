-- what was found with what is left is what is found with all
use Rattle.std.proofs.Common.{◌≡◌, drop, map}
use Rattle.std.specs.Prelude.{fold, flat_map}
use Rattle.xt_base.specs.First.{sooner}
use Rattle.el_design.specs.View.{flat_of, func_of}
use Rattle.ck_call.specs.inner.Breaks.{function_breaks}
use Rattle.ck_call.proofs.purity.report_impure.Given as goal

abbrev pub invariant-loop-func : goal.invariant-loop-func
invariant-loop-func l =
    fold sooner l.fn.finder.first (flat_map (function_breaks (flat_of l.design)) (map func_of l.func-items))
    ≡ fold sooner l.finder.first (flat_map (function_breaks (flat_of l.design)) (map func_of (drop l.func-index l.func-items)))
