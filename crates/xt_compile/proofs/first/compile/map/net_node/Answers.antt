use Rattle.el_design.specs.View.{flat_of}
use Rattle.xt_compile.proofs.first_form.Maps.{pin_there, pin_found, pin_at, pin_nowhere}
use Rattle.xt_compile.proofs.first_form.Growing.{means_as}
use Rattle.xt_compile.proofs.first_form.Sums.{if_ok}
use Rattle.xt_compile.proofs.first.compile.map.net_node.Goals as goal

pub pin_node-requires-clause-there : goal.pin_node-requires-clause-there
pin_node-requires-clause-there c =
    pin_there c.args.design.now c.in-Some.pin c.args.place c.args.width (pin_found c.args.design.now.inputs c.in-Some.pin c.in_ok-net.net c.args.place c.in-Some.ensures c.in_ok-net.ensures) c.requires.there

pub returns-in-Some : goal.returns-in-Some
returns-in-Some c =
    if_ok _ _ _ (λ i is. means_as _ _ _ i c.args.width _ _ is (λ s. pin_at (flat_of c.args.design.now) s.inputs.row c.args.width c.in-Some.pin c.in_ok-net.net c.args.place c.in-Some.ensures c.in_ok-net.ensures))
    c.pin_node.ensures

pub returns-in-None : goal.returns-in-None
returns-in-None c =
    if_ok _ _ _ (λ i is. means_as _ _ _ i c.args.width _ _ is (λ s. pin_nowhere (flat_of c.args.design.now) s.inputs.row c.args.width c.in_ok-net.net c.args.place c.in-None.ensures c.in_ok-net.ensures))
    c.zero_node.ensures
