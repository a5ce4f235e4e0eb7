-- what is noted with what is left is what is noted with all
use Rattle.std.proofs.Common.{◌≡◌, drop}
use Rattle.el_design.specs.View.{flat_of}
use Rattle.ck_call.specs.inner.Placed.{all_notes}
use Rattle.ck_call.proofs.owners.note_all.Given as goal

abbrev pub invariant-loop-process : goal.invariant-loop-process
invariant-loop-process l = all_notes (flat_of l.design) l.tasks l.reaches 0 l.fn.owners l.procs ≡ all_notes (flat_of l.design) l.tasks l.reaches l.process l.owners (drop l.process l.procs)
