use Rattle.std.proofs.Common.{◌≡◌, ◌∙◌, ap, rules}
use Rattle.std.specs.Prelude.{slice_get}
use Rattle.el_scope.proofs.Connections.{ordered_done}
use Rattle.el_scope.proofs.connecting.put_ordered.Goals as goal

pub loop-expr-preserved : goal.loop-expr-preserved
loop-expr-preserved c =
    let place : c.copied-place.result ≡ slice_get c.args.places.now c.loop-expr.before = c.copied-place.ensures ∙ c.at.ensures in
    record {
      count = search rules;
      rest = ordered_done c.args.table.now c.args.scope c.args.places.now c.args.exprs.now c.loop-expr.expr-index c.expr-item.result _ _ _ _ (search rules) (search rules)
          (place ∙ ap (slice_get c.args.places.now) c.loop-expr.invariant.count) c.loop-expr.invariant.rest c.in_ok-put_expr.ensures;
    }
