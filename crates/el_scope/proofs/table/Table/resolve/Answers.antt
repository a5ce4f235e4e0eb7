use Rattle.std.proofs.Common.{rules}
use Rattle.el_scope.proofs.Climbs.{one_out}
use Rattle.el_scope.proofs.table.Table.resolve.Goals as goal

pub loop-preserved : goal.loop-preserved
loop-preserved c = record {
  whole = c.loop.invariant.whole;
  rest = one_out c.args.self.now c.args.name.now c.loop.here _ c.loop.counter (search rules) _ c.in-Some-declared_at.around c.loop.invariant.rest (search rules) (search rules);
}
