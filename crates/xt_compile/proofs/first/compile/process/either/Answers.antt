use Rattle.std.proofs.Common.{refl}
use Rattle.xt_compile.proofs.first_form.Growing.{added_means, alike, width_within}
use Rattle.xt_compile.proofs.first_form.Sums.{if_ok}
use Rattle.xt_compile.proofs.first.compile.process.either.Goals as goal

pub node-requires : goal.node-requires
node-requires c = alike _ _ _ _ c.requires.left c.requires.right

pub returns : goal.returns
returns c = if_ok _ _ _ (λ i is. added_means c.args.design.now _ _ _ i 1 _ is tt (width_within c.args.builder.now c.args.left 1 c.requires.left).1 (λ s. refl)) c.node.ensures.ok
