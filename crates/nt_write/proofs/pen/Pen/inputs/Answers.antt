use Rattle.std.proofs.Common.{map, sym, ap, ◌∙◌}
use Rattle.std.specs.Prelude.{flat_map}
use Rattle.nt_core.specs.Text.{input_line, host_input_lines}
use Rattle.nt_write.specs.Lines.{ended, lines}
use Rattle.nt_write.proofs.LineLists.{lines-append}
use Rattle.nt_write.proofs.Taking.{takes_is, pieces2}
use Rattle.nt_write.proofs.pen.Pen.inputs.Goals as goal

pub returns : goal.returns
returns g c = pieces2 c.put.ensures (takes_is _ _ _ _ (pieces2 (takes_is _ _ _ _ c.input_pins.ensures (ap (λ ps. lines (map (λ i. input_line i.width i.name) ps)) (c.as_slice.ensures.value ∙ ap (λ n. n.inputs) c.netlist.view_is))) (takes_is _ _ _ _ c.input_hosts.ensures (ap (λ hs. lines (flat_map host_input_lines hs)) (c.as_slice-2.ensures.value ∙ ap (λ n. n.hosts) c.netlist.view_is)))) (sym (lines-append _ _)))
