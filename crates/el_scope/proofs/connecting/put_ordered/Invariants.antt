-- what is there with what is left is what was there with all
use Rattle.std.proofs.Common.{◌≡◌, ◌++◌, drop}
use Rattle.el_scope.specs.Connecting.{ordered_connections}
use Rattle.el_scope.proofs.connecting.put_ordered.Given as goal

abbrev pub invariant-loop-expr : goal.invariant-loop-expr
invariant-loop-expr l = record {
  count : l.before ≡ l.expr-index;
  rest : l.fn.into.items ++ ordered_connections l.table l.scope l.places 0 l.exprs
      ≡ l.into.items ++ ordered_connections l.table l.scope l.places l.expr-index (drop l.expr-index l.exprs);
}
