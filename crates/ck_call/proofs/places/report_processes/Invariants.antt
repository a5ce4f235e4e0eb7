-- what was found with what is left is what is found with all
use Rattle.std.proofs.Common.{◌≡◌, drop}
use Rattle.std.specs.Prelude.{fold}
use Rattle.xt_base.specs.First.{sooner}
use Rattle.ck_call.specs.inner.Placed.{process_breaks}
use Rattle.ck_call.proofs.places.report_processes.Given as goal

abbrev pub invariant-loop-process : goal.invariant-loop-process
invariant-loop-process l =
    fold sooner l.fn.finder.first (process_breaks l.scope.owners.now l.scope.funcs l.scope.tasks.now l.reaches 0 l.procs)
    ≡ fold sooner l.finder.first (process_breaks l.scope.owners.now l.scope.funcs l.scope.tasks.now l.reaches l.process (drop l.process l.procs))
