-- what is noted with what is left is what is noted with all
use Rattle.std.proofs.Common.{◌≡◌, drop}
use Rattle.std.specs.Prelude.{flat_map}
use Rattle.el_design.specs.View.{flat_of}
use Rattle.ck_call.specs.inner.Placed.{notes, text_at}
use Rattle.ck_call.proofs.owners.note_tasks.Given as goal

abbrev pub invariant-loop-task : goal.invariant-loop-task
invariant-loop-task l = notes (flat_of l.design) l.process l.fn.owners (flat_map (text_at l.tasks) l.reach) ≡ notes (flat_of l.design) l.process l.owners (flat_map (text_at l.tasks) (drop l.task-index l.reach))
