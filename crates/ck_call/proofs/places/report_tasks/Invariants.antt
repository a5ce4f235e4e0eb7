-- what was found with what is left is what is found with all
use Rattle.std.proofs.Common.{◌≡◌, drop}
use Rattle.std.specs.Prelude.{fold, flat_map}
use Rattle.xt_base.specs.First.{sooner}
use Rattle.ck_call.specs.inner.Placed.{line_breaks, text_at}
use Rattle.ck_call.proofs.places.report_tasks.Given as goal

abbrev pub invariant-loop-task : goal.invariant-loop-task
invariant-loop-task l =
    fold sooner l.fn.finder.first (flat_map (line_breaks l.scope.owners.now l.scope.funcs l.process) (flat_map (text_at l.scope.tasks.now) l.reach))
    ≡ fold sooner l.finder.first (flat_map (line_breaks l.scope.owners.now l.scope.funcs l.process) (flat_map (text_at l.scope.tasks.now) (drop l.task-index l.reach)))
