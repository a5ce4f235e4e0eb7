-- what is there with what is left is all
use Rattle.std.proofs.Common.{◌≡◌, drop}
use Rattle.std.specs.Prelude.{fold}
use Rattle.xt_base.specs.First.{sooner}
use Rattle.ck_call.specs.inner.Breaks.{breaks_by}
use Rattle.ck_call.specs.inner.Measures.{is_deep_net}
use Rattle.ck_call.proofs.measures.report_nets.Given as goal

abbrev pub invariant-loop-line : goal.invariant-loop-line
invariant-loop-line l =
    fold sooner l.fn.finder.first (breaks_by (is_deep_net l.table l.counts.tasks l.counts.funcs) 82 l.line-items)
    ≡ fold sooner l.finder.first (breaks_by (is_deep_net l.table l.counts.tasks l.counts.funcs) 82 (drop l.line-index l.line-items))
