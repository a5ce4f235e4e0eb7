use Rattle.std.proofs.Common.{ap}
use Rattle.std.proofs.lemmas.List.{take_all}
use Rattle.nt_core.specs.Text.{numbered, node_line}
use Rattle.nt_write.specs.Lines.{ended, lines}
use Rattle.nt_write.proofs.LineLists.{each_numbered}
use Rattle.nt_write.proofs.Taking.{takes_is, pieces2}
use Rattle.nt_write.proofs.pen.Pen.node_lines.Goals as goal

pub loop-place-preserved : goal.loop-place-preserved
loop-place-preserved g c = takes_is _ _ _ _ (pieces2 c.loop-place.invariant c.node_line.ensures) (each_numbered ended (node_line c.args.netlist.now) _ _ _ c.loop-place-test.true c.index-nodes-place.is)

pub returns : goal.returns
returns g c = takes_is _ _ _ _ c.loop-place.invariant (ap (λ xs. lines (numbered (node_line c.args.netlist.now) xs)) (take_all _ _ c.loop-place-test.false))
