use Rattle.std.proofs.Common.{map, ap, ◌∙◌}
use Rattle.nt_core.specs.Text.{numbered, next_line, write_line}
use Rattle.nt_write.specs.Lines.{lines}
use Rattle.nt_write.proofs.Taking.{lines_then}
use Rattle.nt_write.proofs.Taking.{takes_is, pieces2}
use Rattle.nt_write.proofs.pen.Pen.clock.Goals as goal

pub returns : goal.returns
returns g c = pieces2 c.put.ensures (lines_then _ _ (lines_then _ _ (takes_is _ _ _ _ c.next_lines.ensures (ap (λ xs. lines (numbered next_line xs)) (c.as_slice.ensures.value ∙ ap (λ n. n.nexts) c.netlist.view_is))) (takes_is _ _ _ _ c.write_lines.ensures (ap (λ xs. lines (map write_line xs)) (c.as_slice-2.ensures.value ∙ ap (λ n. n.writes) c.netlist.view_is)))) (pieces2 c.put-2.ensures c.put-3.ensures))
