-- what is noted with what is left is what is noted with all
use Rattle.std.proofs.Common.{◌≡◌, drop}
use Rattle.el_design.specs.View.{flat_of}
use Rattle.ck_call.specs.inner.Placed.{notes}
use Rattle.ck_call.proofs.owners.note_lines.Given as goal

abbrev pub invariant-loop-line : goal.invariant-loop-line
invariant-loop-line l = notes (flat_of l.design) l.process l.fn.owners l.lines ≡ notes (flat_of l.design) l.process l.owners (drop l.line-index l.lines)
