use Rattle.std.proofs.Common.{◌∙◌, length, sym, Err, rules}
use Rattle.std.proofs.lemmas.Result.{err_from_is_err_and}
use Rattle.vl_expr.proofs.Turns.{gives_along}
use Rattle.vl_tree.specs.declared.terminals.Terminal.TheVariants as lex
use Rattle.vl_parse.specs.Declarations.{lvalue_of}
use Rattle.vl_parse.proofs.Turns.{before, separated_more, separated_stuck}
use Rattle.vl_parse.proofs.declarations.+lvalue.Goals as goal

pub further-turns-preserved : goal.further-turns-preserved
further-turns-preserved t c =
    c.turns.invariant
    ∙ separated_more c.args.input.now.terminals (lvalue_of c.args.input.now.terminals c.args.depth) lex.Comma c.turns.turn
    (length c.args.input.now.terminals) c.turns.all c.in_ok-all.all c.in_ok-next.next (before c.len-turn-end.ensures.value c.turns-test.true)
    (sym c.is_at.ensures.value ∙ c.if-not-is_at.false) c.in_ok-next.ensures c.in_ok-all.ensures

pub further-returns-in_err-next : goal.further-returns-in_err-next
further-returns-in_err-next t c =
    let p = err_from_is_err_and c.from_residual.result c.from_residual.ensures.1 in
    rw (p.1, p.2)
    (gives_along (Err c.in_err-next.field-0.0) _ _ c.turns.invariant
    (separated_stuck c.args.input.now.terminals (lvalue_of c.args.input.now.terminals c.args.depth) lex.Comma c.turns.turn
    (length c.args.input.now.terminals) c.turns.all _ (before c.len-turn-end.ensures.value c.turns-test.true)
    (sym c.is_at.ensures.value ∙ c.if-not-is_at.false) c.in_err-next.ensures))
