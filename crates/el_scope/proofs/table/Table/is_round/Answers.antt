use Rattle.std.proofs.Common.{rules}
use Rattle.el_scope.proofs.Climbs.{further_out}
use Rattle.el_scope.proofs.table.Table.is_round.Goals as goal

pub loop-preserved : goal.loop-preserved
loop-preserved c = record {
  whole = c.loop.invariant.whole;
  rest = further_out c.args.self.now c.args.outer c.loop.here _ c.loop.counter (search rules) _ c.in-Some.around c.loop.invariant.rest (search rules) (search rules);
}
