-- All ports of the hosts are among those of the design.
use Rattle.std.proofs.Common.{◌≡◌, ◌<◌, ◌∙◌, subst, sym, ap, arith, length, get_or}
use Rattle.nt_core.specs.HostLine.{HostLine}
use Rattle.nt_core.specs.Parts.{Parts}
use Rattle.nt_core.specs.Conditions.{IsNetlist, port_widths}
use Rattle.nt_run.proofs.PortLemmas.{host_within, length-drives}
use Rattle.nt_run.proofs.ports.request_ports.Goals as goal

pub overflow_add-port-in-loop-host-2 : goal.overflow_add-port-in-loop-host-2
overflow_add-port-in-loop-host-2 c =
    let n : Parts = c.args.netlist.now in
    let is : IsNetlist n = subst IsNetlist c.netlist.view_is c.netlist.invariant in
    let i = c.loop-host.host-index in
    let host : HostLine = c.host-item.result in
    let same : c.as_slice-host-items.result.now ≡ n.hosts = c.as_slice-host-items.ensures.value ∙ ap (λ p. p.hosts) c.netlist.view_is in
    let here : i < length n.hosts = subst (λ l. i < length l) same c.loop-host-test.true in
    let at : get_or n.hosts i host ≡ host = ap (λ l. get_or l i host) (sym same) ∙ sym c.host-item.is in
    let args : length (get_or n.hosts i host).args ≡ length c.host.inside.args.items = ap (λ (h : HostLine). length h.args) (at ∙ sym c.host.view_is) in
    let drives : length c.netlist.inside.drives.items ≡ length (port_widths n) =
    ap (λ (p : Parts). length p.drives) c.netlist.view_is ∙ length-drives n.nodes n.drives (port_widths n) is.shell.connected.drives in
    omega (arith, host_within n i host here, args, drives, c.loop-host.invariant.port, c.netlist.inside.drives.ok, c.netlist.inside.drives.small, c.host.inside.args.ok, c.len.ensures)

pub returns : goal.returns
returns c =
    let n : Parts = c.args.netlist.now in
    let is : IsNetlist n = subst IsNetlist c.netlist.view_is c.netlist.invariant in
    let same : c.as_slice-host-items.result.now ≡ n.hosts = c.as_slice-host-items.ensures.value ∙ ap (λ p. p.hosts) c.netlist.view_is in
    let all : length n.hosts ≡ c.loop-host.host-index = omega (arith, ap length same, c.loop-host-test.false) in
    let drives : length c.netlist.inside.drives.items ≡ length (port_widths n) =
    ap (λ (p : Parts). length p.drives) c.netlist.view_is ∙ length-drives n.nodes n.drives (port_widths n) is.shell.connected.drives in
    record {
      small = omega (arith, drives, c.netlist.inside.drives.ok, c.netlist.inside.drives.small);
      count = c.loop-host.invariant.count ∙ sym all;
      each = λ h k. c.loop-host.invariant.each h (subst (λ m. h < m) all k);
    }
