use Rattle.std.proofs.Common.{ap}
use Rattle.std.proofs.lemmas.List.{take_all}
use Rattle.nt_core.specs.Text.{numbered, memory_line}
use Rattle.nt_write.specs.Lines.{ended, lines}
use Rattle.std.proofs.lemmas.List.{get_or_default}
use Rattle.nt_write.proofs.LineLists.{each_numbered}
use Rattle.nt_write.proofs.Taking.{takes_is, pieces2}
use Rattle.nt_write.proofs.pen.Pen.memory_lines.Goals as goal

pub loop-place-preserved : goal.loop-place-preserved
loop-place-preserved g c = takes_is _ _ _ _ (pieces2 c.loop-place.invariant c.memory_line.ensures) (each_numbered ended memory_line _ _ _ c.loop-place-test.true (get_or_default _ _ _ _ c.loop-place-test.true))

pub returns : goal.returns
returns g c = takes_is _ _ _ _ c.loop-place.invariant (ap (λ xs. lines (numbered memory_line xs)) (take_all _ _ c.loop-place-test.false))
