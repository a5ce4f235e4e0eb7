use Rattle.std.proofs.Common.{map, ap}
use Rattle.std.proofs.lemmas.List.{take_all}
use Rattle.nt_core.specs.Text.{function_line}
use Rattle.nt_write.specs.Lines.{ended, lines}
use Rattle.nt_write.proofs.LineLists.{each_more}
use Rattle.nt_write.proofs.Taking.{takes_is, pieces2}
use Rattle.nt_write.proofs.pen.Pen.functions.Goals as goal

pub loop-function-preserved : goal.loop-function-preserved
loop-function-preserved g c = takes_is _ _ _ _ (pieces2 c.loop-function.invariant c.function.ensures) (each_more ended function_line _ _ _ c.loop-function-test.true c.function-item.is)

pub returns : goal.returns
returns g c = takes_is _ _ _ _ c.loop-function.invariant (ap (λ xs. lines (map function_line xs)) (take_all _ _ c.loop-function-test.false))
