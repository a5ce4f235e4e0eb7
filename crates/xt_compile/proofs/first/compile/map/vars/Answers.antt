use Rattle.std.proofs.Common.{◌+◌, ℕ, List, get_or, sym, subst, arith}
use Rattle.std.proofs.lemmas.List.{length-map}
use Rattle.xt_bits.specs.Word.{word}
use Rattle.el_design.specs.declared.designs.Var.{Var}
use Rattle.xt_compile.specs.first.Form.{var_widths}
use Rattle.xt_compile.proofs.first_form.Maps.{EachSoFar, each_none, each_more, each_all}
use Rattle.xt_compile.proofs.first.compile.map.vars.Goals as goal

pub loop-place-init : goal.loop-place-init
loop-place-init c = subst (λ (is : List ℕ). EachSoFar c.args.design.now c.args.builder.now c.args.builder.now is (var_widths c.args.design.now) 0 (λ s x. get_or s.state.registers x.0 (word x.1 0))) (sym c.new-nodes.ensures.items) (each_none c.args.design.now c.args.builder.now (var_widths c.args.design.now) (λ s x. get_or s.state.registers x.0 (word x.1 0)))

pub loop-place-preserved : goal.loop-place-preserved
loop-place-preserved c =
    subst (λ (is : List ℕ). EachSoFar c.args.design.now c.args.builder.now c.register.new.builder is (var_widths c.args.design.now) (c.loop-place.place + 1) (λ s x. get_or s.state.registers x.0 (word x.1 0))) (sym c.in_ok-push.ensures.items)
    (each_more c.args.design.now c.args.builder.now c.loop-place.builder c.register.new.builder c.loop-place.nodes.items (var_widths c.args.design.now) c.loop-place.place _ c.var_width-width.result (λ s x. get_or s.state.registers x.0 (word x.1 0))
    c.loop-place.invariant c.in_ok-register.ensures c.var_width-width.ensures.there)

pub returns : goal.returns
returns c =
    each_all c.args.design.now c.args.builder.now c.loop-place.builder c.loop-place.nodes.items (var_widths c.args.design.now) c.loop-place.place (λ s x. get_or s.state.registers x.0 (word x.1 0))
    (omega (arith, length-map c.args.design.now.vars (λ (x : Var). x.width))) c.loop-place.invariant
