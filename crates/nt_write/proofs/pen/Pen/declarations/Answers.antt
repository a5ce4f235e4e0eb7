use Rattle.std.proofs.Common.{ap, ◌∙◌}
use Rattle.nt_core.specs.Text.{numbered, register_line, memory_line, node_line}
use Rattle.nt_write.specs.Lines.{lines}
use Rattle.nt_write.proofs.Taking.{lines_then}
use Rattle.nt_write.proofs.Taking.{takes_is}
use Rattle.nt_write.proofs.pen.Pen.declarations.Goals as goal

pub returns : goal.returns
returns g c = lines_then _ _ (lines_then _ _ (takes_is _ _ _ _ c.register_lines.ensures (ap (λ xs. lines (numbered register_line xs)) (c.as_slice.ensures.value ∙ ap (λ n. n.registers) c.netlist.view_is))) (takes_is _ _ _ _ c.memory_lines.ensures (ap (λ xs. lines (numbered memory_line xs)) (c.as_slice-2.ensures.value ∙ ap (λ n. n.memories) c.netlist.view_is)))) (takes_is _ _ _ _ c.node_lines.ensures (ap (λ xs. lines (numbered (node_line c.args.netlist.now) xs)) (c.as_slice-3.ensures.value ∙ ap (λ n. n.nodes) c.netlist.view_is)))
