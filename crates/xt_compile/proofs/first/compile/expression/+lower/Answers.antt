use Rattle.std.proofs.Common.{rules}
use Rattle.el_design.specs.declared.expressions.Kind.TheViews.{the_lemmas}
use Rattle.xt_compile.proofs.first_form.Growing.{map_grows, added_means, width_grows, node_there}
use Rattle.xt_compile.proofs.first_form.Sums.{if_ok, sum_num, sum_net, sum_var, sum_add, sum_same, num_value, net_means, var_means, add_means, means_same}
use Rattle.xt_compile.proofs.first.compile.expression.+lower.Goals as goal

pub net-requires : goal.net-requires
net-requires t c = node_there _ _ _ _ _ c.requires.map.nets (sum_net _ _ _ _ _ c.in-Net.is c.requires.sum.1)

pub var-requires : goal.var-requires
var-requires t c = node_there _ _ _ _ _ c.requires.map.vars (sum_var _ _ _ _ _ c.in-Var.is c.requires.sum.1)

pub returns-in-Num : goal.returns-in-Num
returns-in-Num t c = λ w h. if_ok _ _ _ (λ i is. added_means c.args.design.now _ _ _ i w _ is tt (sum_num _ _ w _ _ c.in-Num.is h) (λ s. num_value _ _ _ _ c.in-Num.is)) c.node.ensures.ok

pub returns-in-Net : goal.returns-in-Net
returns-in-Net t c = λ w h. net_means _ _ _ _ _ _ w c.requires.map (sum_net _ _ w _ _ c.in-Net.is h) c.in-Net.is c.net.ensures

pub returns-in-Var : goal.returns-in-Var
returns-in-Var t c = λ w h. var_means _ _ _ _ _ _ w c.requires.map (sum_var _ _ w _ _ c.in-Var.is h) c.in-Var.is c.var.ensures

pub lower-requires : goal.lower-requires
lower-requires t c =
    let sums = sum_add _ _ _ _ _ _ _ c.in-Binary.is c.requires.sum.1 in
    (search (rules, the_lemmas), (c.requires.map, (c.requires.sum.0, sum_same _ _ _ _ _ c.get.ensures sums.1)))

pub lower-requires-in-Binary : goal.lower-requires-in-Binary
lower-requires-in-Binary t c =
    let sums = sum_add _ _ _ _ _ _ _ c.in-Binary.is c.requires.sum.1 in
    let left = c.in_ok-left-in-Binary.ensures _ (sum_same _ _ _ _ _ c.get.ensures sums.1) in
    (search (rules, the_lemmas), (map_grows _ _ _ _ left.extends c.requires.map, (c.requires.sum.0, sum_same _ _ _ _ _ c.get-in-Binary.ensures sums.2)))

pub combine-requires-clause-op : goal.combine-requires-clause-op
combine-requires-clause-op t c = (sum_add _ _ _ _ _ _ _ c.in-Binary.is c.requires.sum.1).0

pub combine-requires-clause-alike : goal.combine-requires-clause-alike
combine-requires-clause-alike t c =
    let sums = sum_add _ _ _ _ _ _ _ c.in-Binary.is c.requires.sum.1 in
    let left = c.in_ok-left-in-Binary.ensures _ (sum_same _ _ _ _ _ c.get.ensures sums.1) in
    let right = c.in_ok-right-in-Binary.ensures _ (sum_same _ _ _ _ _ c.get-in-Binary.ensures sums.2) in
    (c.requires.sum.0, width_grows _ _ _ _ right.extends.grows left.width, right.width)

pub returns-in_ok-right-in-Binary : goal.returns-in_ok-right-in-Binary
returns-in_ok-right-in-Binary t c = λ w h.
    let sums = sum_add _ _ w _ _ _ _ c.in-Binary.is h in
    let left = c.in_ok-left-in-Binary.ensures w (sum_same _ _ _ _ _ c.get.ensures sums.1) in
    let right = c.in_ok-right-in-Binary.ensures w (sum_same _ _ _ _ _ c.get-in-Binary.ensures sums.2) in
    if_ok _ _ _ (λ k sum.
    add_means c.args.design.now c.args.builder.now c.lower.new.builder c.lower-in-Binary.new.builder _ c.args.map.now c.args.expr.now c.in-Binary.left c.in-Binary.right c.in-Binary.op
    c.in_ok-left-in-Binary.left c.in_ok-right-in-Binary.right k w c.requires.map c.in-Binary.is sums.0
    (means_same _ _ _ c.args.map.now _ w _ _ c.get.ensures left) (means_same _ _ _ c.args.map.now _ w _ _ c.get-in-Binary.ensures right) sum)
    (c.combine.ensures w (width_grows _ _ _ _ right.extends.grows left.width))
