use Rattle.std.proofs.Common.{codes, ◌≡◌, ◌≤◌, map, length, drop, get_or, ap, ◌∙◌, length-drop, arith}
use Rattle.std.specs.Prelude.{flat_map}
use Rattle.nt_core.specs.View.{parts_of}
use Rattle.nt_core.specs.Text.{host_port_names, assign_line, assign_lines}
use Rattle.nt_write.specs.Lines.{ended, lines, assigned}
use Rattle.nt_write.proofs.LineLists.{split_whole}
use Rattle.nt_write.proofs.PortLists.{drives_fit, assigned_all}
use Rattle.nt_write.proofs.Taking.{takes_is, pieces2}
use Rattle.nt_write.proofs.pen.Pen.assigns.Goals as goal

pub assign_hosts-requires : goal.assign_hosts-requires
assign_hosts-requires g c =
    let others : c.split_at.result.1.now ≡ drop 1 c.as_slice-drives.result.now = c.split_at.ensures.back in
    omega (arith, drives_fit (parts_of c.netlist.inside) c.netlist.invariant, ap length c.split_at-2.ensures.back, length-drop c.len.result c.split_at.result.1.now, ap length others, length-drop 1 c.as_slice-drives.result.now, ap length c.as_slice-drives.ensures.value, c.len.ensures, c.netlist.inside.outputs.ok.0, ap (λ t. length (flat_map host_port_names t)) c.as_slice-2.ensures.value)

pub returns : goal.returns
returns g c =
    let n = parts_of c.netlist.inside in
    let pins = c.split_at-2.result.0.now in
    let hosts = c.split_at-2.result.1.now in
    let fit = drives_fit n c.netlist.invariant in
    let some : 1 ≤ length n.drives = omega (arith, fit) in
    let same : length pins ≡ length n.outputs = omega (arith, c.split_at-2.ensures.front_len, c.len.ensures, c.netlist.inside.outputs.ok.0) in
    takes_is _ _ _ _
    (pieces2 (takes_is _ _ _ _ c.assign_edge.ensures (ap (λ ds. ended (assign_line (codes "xtc_edge") (get_or ds 0 0))) c.as_slice-drives.ensures.value))
    (pieces2 (takes_is _ _ _ _ c.assign_pins.ensures (ap (λ ps. assigned (map (λ o. o.name) ps) pins) c.as_slice.ensures.value))
    (takes_is _ _ _ _ c.assign_hosts.ensures (ap (λ hs. assigned (flat_map host_port_names hs) hosts) c.as_slice-2.ensures.value))))
    (assigned_all n pins hosts some (split_whole pins hosts _ _ c.split_at-2.ensures.front c.split_at-2.ensures.back ∙ c.split_at.ensures.back ∙ ap (λ ds. drop 1 ds) c.as_slice-drives.ensures.value) same ∙ ap (λ m. lines (assign_lines m)) c.netlist.view_is)
