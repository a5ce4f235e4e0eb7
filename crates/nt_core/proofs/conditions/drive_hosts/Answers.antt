-- Each host's ports stand behind those of the hosts before it.
use Rattle.std.proofs.Common.{◌≡◌, ◌≤◌, ◌+◌, ℕ, List, ◌++◌, length, take, drop, sym, subst, ap, ◌∙◌, arith}
use Rattle.std.specs.Prelude.{flat_map}
use Rattle.nt_core.specs.Conditions.{Drive, host_port_widths}
use Rattle.nt_core.proofs.Drives.{drive_more, drive_rest, hosts_step}
use Rattle.nt_core.proofs.conditions.drive_hosts.Goals as goal

pub returns-then-not-drive_host : goal.returns-then-not-drive_host
returns-then-not-drive_host c = (
  λ h. cc,
  λ d.
      let nodes = c.args.nodes.now in
      let rest = c.loop-host.rest.now in
      let u : List ℕ = host_port_widths c.host-item.result in
      let v : List ℕ = flat_map host_port_widths (drop (c.loop-host.host-index + 1) c.args.hosts.now) in
      let n : ℕ = 2 + length c.as_slice-arguments.result.now in
      let args : length c.as_slice-arguments.result.now ≡ length c.host-item.result.args = ap length (c.as_slice-arguments.ensures.value ∙ ap (λ h. h.args) c.host.view_is) in
      let step = hosts_step c.args.hosts.now c.loop-host.host-index c.host-item.result c.loop-host-test.true c.host-item.is in
      let whole : Drive nodes rest (u ++ v) = subst (λ l. Drive nodes rest l) step (c.loop-host.invariant.0 d) in
      let size : n ≡ length u = omega (arith, args) in
      let fits : n ≤ length rest = omega arith in
      sym c.if-not-drive_host.true ∙ c.drive_host.ensures.1 (subst (λ l. Drive nodes l u) (sym c.split_at.ensures.front) (drive_more nodes rest u v n size fits whole).0),
)

pub loop-host-preserved : goal.loop-host-preserved
loop-host-preserved c =
    let nodes = c.args.nodes.now in
    let rest = c.loop-host.rest.now in
    let u : List ℕ = host_port_widths c.host-item.result in
    let v : List ℕ = flat_map host_port_widths (drop (c.loop-host.host-index + 1) c.args.hosts.now) in
    let n : ℕ = 2 + length c.as_slice-arguments.result.now in
    let args : length c.as_slice-arguments.result.now ≡ length c.host-item.result.args = ap length (c.as_slice-arguments.ensures.value ∙ ap (λ h. h.args) c.host.view_is) in
    let step = hosts_step c.args.hosts.now c.loop-host.host-index c.host-item.result c.loop-host-test.true c.host-item.is in
    let size : n ≡ length u = omega (arith, args) in
    let fits : n ≤ length rest = omega arith in
    let own : Drive nodes (take n rest) u = subst (λ l. Drive nodes l u) c.split_at.ensures.front (c.drive_host.ensures.0 c.if-not-drive_host.false) in (
      λ d. subst (λ l. Drive nodes l v) (sym c.split_at.ensures.back)
          (drive_more nodes rest u v n size fits (subst (λ l. Drive nodes rest l) step (c.loop-host.invariant.0 d))).1,
      λ d. c.loop-host.invariant.1
          (subst (λ l. Drive nodes rest l) (sym step) (drive_rest nodes rest u v n own (subst (λ l. Drive nodes l v) c.split_at.ensures.back d))),
    )
