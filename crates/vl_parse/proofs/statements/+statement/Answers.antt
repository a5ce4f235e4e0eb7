use Rattle.std.proofs.Common.{◌∙◌, ◌-◌, ◌||◌, length, sym, ap, Err, arith, rules}
use Rattle.std.proofs.lemmas.Result.{err_from_is_err_and}
use Rattle.vl_expr.proofs.Turns.{gives_along}
use Rattle.vl_parse.specs.Statements.{opens_stmt, opens_citem, stmt_of}
use Rattle.vl_parse.proofs.Turns.{before, many_more, citems_more, citems_stuck, citems_over, citems_full}
use Rattle.vl_parse.proofs.StatementHeads.{next_same, stmt_up, stmt_stuck}
use Rattle.vl_parse.proofs.statements.+statement.Goals as goal
use Rattle.vl_parse.proofs.statements.+statement.Goals.{further_citems-else-turns-test, further_citems-then-turns-test+then-not-opens_citem}

pub stmts-turns-preserved : goal.stmts-turns-preserved
stmts-turns-preserved t c =
    c.turns.invariant
    ∙ many_more c.args.input.now.terminals (stmt_of c.args.input.now.terminals c.args.input.now.names c.args.depth) opens_stmt c.turns.turn
    (length c.args.input.now.terminals) c.turns.all c.in_ok-all.all c.in_ok-next.next (before c.len-turn-end.ensures.value c.turns-test.true)
    (ap opens_stmt (sym c.get.ensures.value) ∙ sym c.opens_stmt.ensures ∙ c.if-not-opens_stmt.false) c.in_ok-next.ensures c.in_ok-all.ensures

pub further_citems-turns-preserved : goal.further_citems-turns-preserved
further_citems-turns-preserved t c =
    c.turns.invariant
    ∙ citems_more c.args.input.now.terminals (stmt_of c.args.input.now.terminals c.args.input.now.names c.args.depth) c.args.depth c.turns.turn
    (length c.args.input.now.terminals) c.turns.defaulted _ c.turns.all c.in_ok-all.all c.in_ok-next.next
    (before c.len-turn-end.ensures.value c.turns-test.true)
    (ap opens_citem (sym c.get.ensures.value) ∙ sym c.opens_citem.ensures ∙ c.if-not-opens_citem.false)
    (next_same c.args.input.now.terminals (stmt_of c.args.input.now.terminals c.args.input.now.names c.args.depth) c.args.depth c.turns.defaulted
    c.turns.all.end ∙ c.in_ok-next.ensures)
    (ap (λ b. c.turns.defaulted || b) c.is_at-defaulted.ensures.value) c.in_ok-all.ensures

pub further_citems-returns-in_err-next : goal.further_citems-returns-in_err-next
further_citems-returns-in_err-next t c =
    let p = err_from_is_err_and c.from_residual.result c.from_residual.ensures.1 in
    rw (p.1, p.2)
    (gives_along (Err c.in_err-next.field-0.0) _ _ c.turns.invariant
    (citems_stuck c.args.input.now.terminals (stmt_of c.args.input.now.terminals c.args.input.now.names c.args.depth) c.args.depth c.turns.turn
    (length c.args.input.now.terminals) c.turns.defaulted c.turns.all _ (before c.len-turn-end.ensures.value c.turns-test.true)
    (ap opens_citem (sym c.get.ensures.value) ∙ sym c.opens_citem.ensures ∙ c.if-not-opens_citem.false)
    (gives_along (Err c.in_err-next.field-0.0) _ _
    (next_same c.args.input.now.terminals (stmt_of c.args.input.now.terminals c.args.input.now.names c.args.depth) c.args.depth c.turns.defaulted
    c.turns.all.end) c.in_err-next.ensures)))

pub further_citems-returns : goal.further_citems-returns
further_citems-returns t c =
    elim c.turns-test.branch [
      | further_citems-else-turns-test w ↦
          let f = w.turns-test.false in
          let v = c.len-turn-end.ensures.value in
          c.turns.invariant
          ∙ citems_full c.args.input.now.terminals (stmt_of c.args.input.now.terminals c.args.input.now.names c.args.depth) c.args.depth c.turns.turn
          (length c.args.input.now.terminals) c.turns.defaulted c.turns.all (omega arith)
      | further_citems-then-turns-test+then-not-opens_citem w ↦
          c.turns.invariant
          ∙ citems_over c.args.input.now.terminals (stmt_of c.args.input.now.terminals c.args.input.now.names c.args.depth) c.args.depth
          (length c.args.input.now.terminals - c.turns.turn) c.turns.defaulted c.turns.all
          (ap opens_citem (sym w.get.ensures.value) ∙ sym w.opens_citem.ensures ∙ w.if-not-opens_citem.true)
    ]

pub stmt-returns : goal.stmt-returns
stmt-returns t c =
    stmt_up c.args.input.now.terminals c.args.input.now.names c.args.depth c.args.at c.in_ok-head.head c.rest.result c.if-depth-eq0.false
    c.in_ok-head.ensures.exact c.rest.ensures

pub stmt-returns-in_err-head : goal.stmt-returns-in_err-head
stmt-returns-in_err-head t c =
    let p = err_from_is_err_and c.from_residual.result c.from_residual.ensures.1 in
    rw (p.1, p.2)
    (stmt_stuck c.args.input.now.terminals c.args.input.now.names c.args.depth c.args.at c.in_err-head.field-0.0 c.if-depth-eq0.false
    c.in_err-head.ensures.exact)
