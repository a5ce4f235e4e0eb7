use Rattle.std.proofs.Common.{ℕ, refl, ap, ◌∙◌, arith}
use Rattle.std.specs.Prelude.{◌==◌}
use Rattle.xt_bits.specs.Word.{Word, truth}
use Rattle.xt_bits.proofs.Numbers.{mod_small}
use Rattle.nt_core.specs.NodeValue.{node_value}
use Rattle.xt_compile.specs.first.Nodes.{state_width}
use Rattle.xt_compile.proofs.first_form.Growing.{added_means, alike, width_grows, value_grows, means_later}
use Rattle.xt_compile.proofs.first_form.Sums.{if_ok}
use Rattle.xt_compile.proofs.first.compile.process.is_at.Goals as goal

pub node-requires : goal.node-requires
node-requires c = alike _ _ _ _ (width_grows _ _ _ _ c.in_ok-point.ensures.extends.grows c.requires) c.in_ok-point.ensures.width

pub returns : goal.returns
returns c =
    if_ok _ _ _ (λ i is.
    means_later _ _ _ _ i 1 _ c.in_ok-point.ensures.extends
    (added_means c.args.design.now _ _ _ i 1 _ is tt refl
    (λ s.
    ap (λ (k : Word). truth (k.value == (node_value c.constant.new.builder s c.in_ok-point.point).value)) (value_grows _ _ c.args.state state_width c.in_ok-point.ensures.extends.grows c.requires s)
    ∙ ap (λ (k : ℕ). truth ((node_value c.args.builder.now s c.args.state).value == k)) (ap (λ (k : Word). k.value) (c.in_ok-point.ensures.value s) ∙ mod_small c.args.point 16 (omega arith)))))
    c.node.ensures.ok
