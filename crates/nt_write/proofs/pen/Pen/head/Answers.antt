use Rattle.std.proofs.Common.{map, codes, decimal, ap, ◌∙◌}
use Rattle.nt_core.specs.Text.{function_line}
use Rattle.nt_write.specs.Lines.{ended, lines}
use Rattle.nt_write.proofs.LineLists.{flat_one}
use Rattle.nt_write.proofs.Taking.{takes_is, pieces2, pieces3}
use Rattle.nt_write.proofs.pen.Pen.head.Goals as goal

pub returns : goal.returns
returns g c = pieces2 (pieces3 c.put.ensures (takes_is _ _ _ _ c.number.ensures (ap (λ n. decimal n.version) c.netlist.view_is)) c.put-2.ensures) (pieces2 (pieces3 c.put-3.ensures (takes_is _ _ _ _ c.number-2.ensures (ap (λ n. decimal n.processes) c.netlist.view_is)) c.put-4.ensures) (takes_is _ _ _ _ (pieces2 (takes_is _ _ _ _ c.functions.ensures (ap (λ fs. lines (map function_line fs)) (c.as_slice.ensures.value ∙ ap (λ n. n.functions) c.netlist.view_is))) c.put-5.ensures) (flat_one ended _ (codes "module xtc_design ("))))
