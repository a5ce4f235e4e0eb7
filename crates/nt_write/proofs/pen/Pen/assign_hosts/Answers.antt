use Rattle.std.proofs.Common.{◌≡◌, ◌+◌, ◌≤◌, ◌++◌, length, take, sym, ap, ◌∙◌, arith}
use Rattle.std.specs.Prelude.{flat_map}
use Rattle.std.proofs.lemmas.List.{take_all}
use Rattle.nt_core.specs.Text.{host_port_names}
use Rattle.nt_write.specs.Lines.{assigned}
use Rattle.nt_write.proofs.LineLists.{flat_more, halves, split_whole}
use Rattle.nt_write.proofs.PortLists.{room_left, names_more, all_done, assigned-append}
use Rattle.nt_write.proofs.Taking.{takes_is, pieces2}
use Rattle.nt_write.proofs.pen.Pen.assign_hosts.Goals as goal

pub split_at-requires : goal.split_at-requires
split_at-requires g c =
    let room : 2 + length c.host-item.result.args ≤ length c.loop-host.rest.now =
    room_left _ _ c.host-item.result c.loop-host.invariant.0 _ _ c.requires c.loop-host.invariant.1 c.loop-host-test.true c.host-item.is c.loop-host.invariant.2 in
    omega (arith, room, c.len.ensures, c.host.inside.args.ok.0, ap (λ h. length h.args) c.host.view_is)

pub loop-host-preserved : goal.loop-host-preserved
loop-host-preserved g c =
    let done = c.loop-host.invariant.0 in
    let own = c.split_at.result.0.now in
    let count : length own ≡ 2 + length c.host-item.result.args = omega (arith, c.split_at.ensures.front_len, c.len.ensures, c.host.inside.args.ok.0, ap (λ h. length h.args) c.host.view_is) in (
      done ++ own,
      halves done own _ _ _ c.loop-host.invariant.1 (split_whole own _ _ _ c.split_at.ensures.front c.split_at.ensures.back),
      names_more _ _ c.host-item.result done own c.loop-host-test.true c.host-item.is c.loop-host.invariant.2 count,
      takes_is _ _ _ _ (pieces2 c.loop-host.invariant.3 c.assign_host.ensures) (assigned-append _ _ done own (sym c.loop-host.invariant.2) ∙ ap (λ t. assigned t (done ++ own)) (flat_more host_port_names _ _ _ c.loop-host-test.true c.host-item.is)),
    )

pub returns : goal.returns
returns g c =
    let done = c.loop-host.invariant.0 in
    let names : flat_map host_port_names (take c.loop-host.host-index c.args.hosts.now) ≡ flat_map host_port_names c.args.hosts.now = ap (λ t. flat_map host_port_names t) (take_all _ _ c.loop-host-test.false) in
    takes_is _ _ _ _ c.loop-host.invariant.3 (ap (λ t. assigned t done) names ∙ ap (λ t. assigned (flat_map host_port_names c.args.hosts.now) t) (all_done done _ _ c.loop-host.invariant.1 (c.loop-host.invariant.2 ∙ ap (λ t. length t) names ∙ sym c.requires)))
