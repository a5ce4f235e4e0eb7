-- what is there with what is left is all
use Rattle.std.proofs.Common.{◌≡◌, ◌++◌, map, drop}
use Rattle.el_design.specs.View.{task_of}
use Rattle.ck_call.specs.inner.Lines.{lines}
use Rattle.ck_call.proofs.texts.task_texts.Given as goal

abbrev pub invariant-loop-task : goal.invariant-loop-task
invariant-loop-task l = map (λ t. lines t.body) (map task_of l.tasks) ≡ l.all ++ map (λ t. lines t.body) (map task_of (drop l.task-index l.tasks))
