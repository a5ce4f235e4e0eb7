use Rattle.std.proofs.Common.{◌+◌, ℕ, List, sym, subst, arith}
use Rattle.std.proofs.lemmas.List.{length-map}
use Rattle.el_design.specs.declared.designs.Net.{Net}
use Rattle.el_design.specs.Queue.{pin_value}
use Rattle.el_design.specs.View.{flat_of}
use Rattle.xt_compile.specs.first.Form.{net_widths}
use Rattle.xt_compile.proofs.first_form.Maps.{EachSoFar, each_none, each_more, each_all}
use Rattle.xt_compile.proofs.first.compile.map.nets.Goals as goal

pub loop-place-init : goal.loop-place-init
loop-place-init c = subst (λ (is : List ℕ). EachSoFar c.args.design.now c.args.builder.now c.args.builder.now is (net_widths c.args.design.now) 0 (λ s x. pin_value (flat_of c.args.design.now) s.inputs.row x.0 x.1)) (sym c.new-nodes.ensures.items) (each_none c.args.design.now c.args.builder.now (net_widths c.args.design.now) (λ s x. pin_value (flat_of c.args.design.now) s.inputs.row x.0 x.1))

pub loop-place-preserved : goal.loop-place-preserved
loop-place-preserved c =
    subst (λ (is : List ℕ). EachSoFar c.args.design.now c.args.builder.now c.net_node.new.builder is (net_widths c.args.design.now) (c.loop-place.place + 1) (λ s x. pin_value (flat_of c.args.design.now) s.inputs.row x.0 x.1)) (sym c.in_ok-push.ensures.items)
    (each_more c.args.design.now c.args.builder.now c.loop-place.builder c.net_node.new.builder c.loop-place.nodes.items (net_widths c.args.design.now) c.loop-place.place _ c.net_width-width.result (λ s x. pin_value (flat_of c.args.design.now) s.inputs.row x.0 x.1)
    c.loop-place.invariant c.in_ok-net_node.ensures c.net_width-width.ensures.there)

pub returns : goal.returns
returns c =
    each_all c.args.design.now c.args.builder.now c.loop-place.builder c.loop-place.nodes.items (net_widths c.args.design.now) c.loop-place.place (λ s x. pin_value (flat_of c.args.design.now) s.inputs.row x.0 x.1)
    (omega (arith, length-map c.args.design.now.nets (λ (x : Net). x.width))) c.loop-place.invariant
