use Rattle.std.proofs.Common.{ap}
use Rattle.std.proofs.lemmas.List.{take_all}
use Rattle.nt_core.specs.Text.{input_line, ret_name, numbered}
use Rattle.nt_write.specs.Lines.{ended, lines}
use Rattle.nt_write.proofs.LineLists.{each_numbered_number}
use Rattle.nt_write.proofs.Taking.{takes_is, pieces2}
use Rattle.nt_write.proofs.pen.Pen.input_rets.Goals as goal

pub loop-item-preserved : goal.loop-item-preserved
loop-item-preserved g c = takes_is _ _ _ _ (pieces2 c.loop-item.invariant c.input_ret.ensures) (each_numbered_number ended (λ i w. input_line w (ret_name c.args.process i)) _ _ c.loop-item-test.true)

pub returns : goal.returns
returns g c = takes_is _ _ _ _ c.loop-item.invariant (ap (λ xs. lines (numbered (λ i w. input_line w (ret_name c.args.process i)) xs)) (take_all _ _ c.loop-item-test.false))
