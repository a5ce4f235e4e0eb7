use Rattle.std.proofs.Common.{codes, map, ap, ◌∙◌}
use Rattle.std.specs.Prelude.{flat_map}
use Rattle.nt_core.specs.Text.{output_line}
use Rattle.nt_write.specs.Lines.{ended, followings, host_output_lines}
use Rattle.nt_write.proofs.LineLists.{flat_one}
use Rattle.nt_write.proofs.PortLists.{output_text}
use Rattle.nt_write.proofs.Taking.{takes_is, pieces2, pieces4}
use Rattle.nt_write.proofs.pen.Pen.outputs.Goals as goal

pub returns : goal.returns
returns g c = takes_is _ _ _ _ (pieces2 (takes_is _ _ _ _ (pieces4 c.put.ensures (takes_is _ _ _ _ c.output_pins.ensures (ap (λ ps. followings (map (λ o. output_line o.width o.name) ps)) (c.as_slice.ensures.value ∙ ap (λ n. n.outputs) c.netlist.view_is))) (takes_is _ _ _ _ c.output_hosts.ensures (ap (λ hs. followings (flat_map host_output_lines hs)) (c.as_slice-2.ensures.value ∙ ap (λ n. n.hosts) c.netlist.view_is))) c.put-2.ensures) (output_text c.args.netlist.now)) c.put-3.ensures) (flat_one ended _ (codes ");"))
