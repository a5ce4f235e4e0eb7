-- what is there with what is left is all
use Rattle.std.proofs.Common.{◌≡◌, drop}
use Rattle.std.specs.Prelude.{fold}
use Rattle.xt_base.specs.First.{sooner}
use Rattle.ck_call.specs.inner.Measures.{deep_processes}
use Rattle.ck_call.proofs.measures.report_processes.Given as goal

abbrev pub invariant-loop-process : goal.invariant-loop-process
invariant-loop-process l =
    fold sooner l.fn.finder.first (deep_processes l.table l.counts.tasks l.counts.funcs l.places 0 l.procs)
    ≡ fold sooner l.finder.first (deep_processes l.table l.counts.tasks l.counts.funcs l.places l.process (drop l.process l.procs))
