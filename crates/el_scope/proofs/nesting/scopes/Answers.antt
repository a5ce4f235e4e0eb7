use Rattle.std.proofs.Common.{None, rules}
use Rattle.el_scope.specs.Nesting.{scope_at}
use Rattle.el_scope.proofs.Lists.{one_put}
use Rattle.el_scope.proofs.Nested.{passed}
use Rattle.el_scope.proofs.nesting.scopes.Goals as goal

pub loop-at-preserved : goal.loop-at-preserved
loop-at-preserved c = record {
  count = search rules;
  open_here = passed c.args.table.now c.loop-at.at _ _ c.loop-at.invariant.open_here c.in_ok-pass.ensures;
  each = one_put (scope_at c.args.table.now) None c.loop-at.all.items _ c.copied.result c.loop-at.at c.loop-at.invariant.count (search rules) (search rules) c.loop-at.invariant.each;
}
