use Rattle.std.proofs.Common.{ap}
use Rattle.std.proofs.lemmas.List.{take_all}
use Rattle.nt_core.specs.Text.{next_line, numbered}
use Rattle.nt_write.specs.Lines.{ended, lines}
use Rattle.nt_write.proofs.LineLists.{each_numbered_number}
use Rattle.nt_write.proofs.Taking.{takes_is, pieces2}
use Rattle.nt_write.proofs.pen.Pen.next_lines.Goals as goal

pub loop-place-preserved : goal.loop-place-preserved
loop-place-preserved g c = takes_is _ _ _ _ (pieces2 c.loop-place.invariant c.next_line.ensures) (each_numbered_number ended next_line _ _ c.loop-place-test.true)

pub returns : goal.returns
returns g c = takes_is _ _ _ _ c.loop-place.invariant (ap (λ xs. lines (numbered next_line xs)) (take_all _ _ c.loop-place-test.false))
