-- The hosts' ports stand behind the others.
use Rattle.std.proofs.Common.{◌≡◌, ◌≤◌, ◌+◌, ℕ, List, ◌∷◌, length, take, map, sym, subst, ◌∙◌, arith}
use Rattle.std.specs.Prelude.{flat_map}
use Rattle.std.proofs.lemmas.List.{length-map}
use Rattle.nt_core.specs.declared.netlist.Wire.{Wire}
use Rattle.nt_core.specs.Conditions.{Drive, host_port_widths}
use Rattle.nt_core.proofs.Drives.{drive_more, drive_rest}
use Rattle.nt_core.proofs.conditions.drive_ports.Goals as goal

pub returns-then-not-drive_own : goal.returns-then-not-drive_own
returns-then-not-drive_own c = (
  λ h. cc,
  λ d.
      let nodes = c.args.nodes.now in
      let drives = c.args.drives.now in
      let width : Wire → ℕ = λ o. o.width in
      let u : List ℕ = 1 ∷ map width c.args.outputs.now in
      let v : List ℕ = flat_map host_port_widths c.args.hosts.now in
      let n : ℕ = length c.args.outputs.now + 1 in
      let size : n ≡ length u = omega (arith, length-map c.args.outputs.now width) in
      let fits : n ≤ length drives = omega arith in
      sym c.if-not-drive_own.true ∙ c.drive_own.ensures.1 (subst (λ l. Drive nodes l u) (sym c.split_at.ensures.front) (drive_more nodes drives u v n size fits d).0),
)

pub returns : goal.returns
returns c =
    let nodes = c.args.nodes.now in
    let drives = c.args.drives.now in
    let width : Wire → ℕ = λ o. o.width in
    let u : List ℕ = 1 ∷ map width c.args.outputs.now in
    let v : List ℕ = flat_map host_port_widths c.args.hosts.now in
    let n : ℕ = length c.args.outputs.now + 1 in
    let size : n ≡ length u = omega (arith, length-map c.args.outputs.now width) in
    let fits : n ≤ length drives = omega arith in
    let own : Drive nodes (take n drives) u = subst (λ l. Drive nodes l u) c.split_at.ensures.front (c.drive_own.ensures.0 c.if-not-drive_own.false) in (
      λ h. drive_rest nodes drives u v n own (subst (λ l. Drive nodes l v) c.split_at.ensures.back (c.drive_hosts.ensures.0 h)),
      λ d. c.drive_hosts.ensures.1 (subst (λ l. Drive nodes l v) (sym c.split_at.ensures.back) (drive_more nodes drives u v n size fits d).1),
    )
