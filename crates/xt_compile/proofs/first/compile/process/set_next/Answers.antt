use Rattle.std.proofs.Common.{◌<◌, length, arith}
use Rattle.el_design.specs.View.{expr_of}
use Rattle.xt_compile.specs.first.Form.{var_widths, net_widths}
use Rattle.xt_compile.proofs.first_form.Growing.{width_grows, node_there}
use Rattle.xt_compile.proofs.first_form.Nexts.{some_sum, next_width, next_node}
use Rattle.xt_compile.proofs.first_form.Walks.{assigns_set}
use Rattle.xt_compile.proofs.first.compile.process.set_next.Goals as goal

pub lower-requires-clause-sum : goal.lower-requires-clause-sum
lower-requires-clause-sum c = let s = some_sum (var_widths c.args.design.now) (net_widths c.args.design.now) c.args.var (expr_of c.args.value.now) c.requires.value in (s.0, s.2)

pub index-requires : goal.index-requires
index-requires c = let s = some_sum (var_widths c.args.design.now) (net_widths c.args.design.now) c.args.var (expr_of c.args.value.now) c.requires.value in let there : c.args.var < length c.args.nexts.now.items = node_there _ _ _ _ s.0 c.requires.nexts s.1 in omega (arith, there, c.args.nexts.now.ok.0)

pub choice-requires-clause-test : goal.choice-requires-clause-test
choice-requires-clause-test c =
    let s = some_sum (var_widths c.args.design.now) (net_widths c.args.design.now) c.args.var (expr_of c.args.value.now) c.requires.value in
    width_grows _ _ _ _ (c.in_ok-value.ensures s.0 s.2).extends.grows c.requires.here

pub choice-requires-clause-alike : goal.choice-requires-clause-alike
choice-requires-clause-alike c =
    let s = some_sum (var_widths c.args.design.now) (net_widths c.args.design.now) c.args.var (expr_of c.args.value.now) c.requires.value in
    let value = c.in_ok-value.ensures s.0 s.2 in
    (s.0, value.width, width_grows _ _ _ _ value.extends.grows (next_width _ _ _ _ _ _ c.requires.nexts s.1 c.index.ensures))

pub index_mut-requires : goal.index_mut-requires
index_mut-requires c = let s = some_sum (var_widths c.args.design.now) (net_widths c.args.design.now) c.args.var (expr_of c.args.value.now) c.requires.value in let there : c.args.var < length c.args.nexts.now.items = node_there _ _ _ _ s.0 c.requires.nexts s.1 in omega (arith, there, c.args.nexts.now.ok.0)

pub returns : goal.returns
returns c =
    let s = some_sum (var_widths c.args.design.now) (net_widths c.args.design.now) c.args.var (expr_of c.args.value.now) c.requires.value in
    let value = c.in_ok-value.ensures s.0 s.2 in
    assigns_set c.args.design.now c.args.builder.now c.lower.new.builder c.choice.new.builder c.args.map.now c.args.nexts.now.items c.args.here c.args.var s.0 c.in_ok-value.value c.index.result.now c.in_ok-next.next
    (expr_of c.args.value.now) c.requires.map c.requires.nexts c.requires.here s.1 value (next_node _ _ _ _ _ _ c.requires.nexts s.1 c.index.ensures) (c.in_ok-next.ensures s.0 value.width)
