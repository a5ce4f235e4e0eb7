use Rattle.std.proofs.Common.{map, ap}
use Rattle.std.proofs.lemmas.List.{take_all}
use Rattle.nt_core.specs.Text.{write_line}
use Rattle.nt_write.specs.Lines.{ended, lines}
use Rattle.std.proofs.lemmas.List.{get_or_default}
use Rattle.nt_write.proofs.LineLists.{each_more}
use Rattle.nt_write.proofs.Taking.{takes_is, pieces2}
use Rattle.nt_write.proofs.pen.Pen.write_lines.Goals as goal

pub loop-write-preserved : goal.loop-write-preserved
loop-write-preserved g c = takes_is _ _ _ _ (pieces2 c.loop-write.invariant c.write_line.ensures) (each_more ended write_line _ _ _ c.loop-write-test.true (get_or_default _ _ _ _ c.loop-write-test.true))

pub returns : goal.returns
returns g c = takes_is _ _ _ _ c.loop-write.invariant (ap (λ xs. lines (map write_line xs)) (take_all _ _ c.loop-write-test.false))
