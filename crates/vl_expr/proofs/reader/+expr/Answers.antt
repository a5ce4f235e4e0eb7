-- The turns of the loops, and the step from one level to the next.
use Rattle.std.proofs.Common.{◌≡◌, ◌≤◌, ◌∙◌, length, max, Err, sym, ap, arith}
use Rattle.std.proofs.lemmas.Result.{err_from_is_err_and}
use Rattle.vl_expr.specs.Reading.{reader_of, added}
use Rattle.vl_expr.proofs.Turns.{gives_along, tail_more, tail_stuck, exprs_more, exprs_stuck, level_up}
use Rattle.vl_expr.proofs.reader.+expr.Goals as goal

pub level_at-returns-clause-exact : goal.level_at-returns-clause-exact
level_at-returns-clause-exact t c =
    level_up c.args.terminals.now (reader_of c.args.terminals.now c.args.depth) c.args.depth c.args.level c.args.at c.in_ok-left.left c.rest_at.result
    c.if-level-eq0.false c.in_ok-left.ensures.exact c.rest_at.ensures.exact

pub tail_at-turns-preserved : goal.tail_at-turns-preserved
tail_at-turns-preserved t c = record {
  shallow = c.in_ok-left-in-Some.ensures.fits;
  gives = c.turns.invariant.gives
      ∙ tail_more c.args.terminals.now (reader_of c.args.terminals.now c.args.depth) c.args.depth c.args.level c.args.from c.turns.turn c.args.depth
      c.turns.left c.in_ok-left-in-Some.left c.in-Some.op c.turns-test.true (sym c.in-Some.ensures.value) c.in_ok-left-in-Some.ensures.exact;
}

pub tail_at-returns-in_err-left-in-Some-clause-exact : goal.tail_at-returns-in_err-left-in-Some-clause-exact
tail_at-returns-in_err-left-in-Some-clause-exact t c =
    let p = err_from_is_err_and c.from_residual.result c.from_residual.ensures.1 in
    rw (p.1, p.2)
    (gives_along (Err c.in_err-left-in-Some.field-0.0) _ _ c.turns.invariant.gives
    (tail_stuck c.args.terminals.now (reader_of c.args.terminals.now c.args.depth) c.args.depth c.args.level c.args.from c.turns.turn c.args.depth
    c.turns.left c.in-Some.op _ c.turns-test.true (sym c.in-Some.ensures.value) c.in_err-left-in-Some.ensures.exact))

pub exprs_behind-turns-preserved : goal.exprs_behind-turns-preserved
exprs_behind-turns-preserved t c =
    let is : c.in_ok-all.all ≡ added c.turns.all c.in_ok-next.next = c.in_ok-all.ensures in
    let deep : c.in_ok-all.all.depth ≡ max c.turns.all.depth c.in_ok-next.next.depth = ap (λ p. p.depth) is in
    let below : c.in_ok-next.next.depth ≤ c.args.depth = c.in_ok-next.ensures.fits in
    let before : c.turns.all.depth ≤ c.args.depth = c.turns.invariant.shallow in
    record {
      shallow = rw deep (omega arith);
      gives = c.turns.invariant.gives
          ∙ exprs_more c.args.terminals.now (reader_of c.args.terminals.now c.args.depth) c.turns.turn (length c.args.terminals.now)
          c.turns.all c.in_ok-all.all c.in_ok-next.next c.turns-test.true (sym c.is_at.ensures.value ∙ c.if-not-is_at.false) c.in_ok-next.ensures.exact is;
    }

pub exprs_behind-returns-in_err-next-clause-exact : goal.exprs_behind-returns-in_err-next-clause-exact
exprs_behind-returns-in_err-next-clause-exact t c =
    let p = err_from_is_err_and c.from_residual.result c.from_residual.ensures.1 in
    rw (p.1, p.2)
    (gives_along (Err c.in_err-next.field-0.0) _ _ c.turns.invariant.gives
    (exprs_stuck c.args.terminals.now (reader_of c.args.terminals.now c.args.depth) c.turns.turn (length c.args.terminals.now)
    c.turns.all _ c.turns-test.true (sym c.is_at.ensures.value ∙ c.if-not-is_at.false) c.in_err-next.ensures.exact))
