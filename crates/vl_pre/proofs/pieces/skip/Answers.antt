use Rattle.std.proofs.Common.{arith, rules, ◌∙◌}
use Rattle.vl_pre.specs.Cursors.{passes}
use Rattle.vl_pre.proofs.PieceLemmas.{passed_over}
use Rattle.vl_pre.proofs.pieces.skip.Goals as goal

pub loop-piece-preserved : goal.loop-piece-preserved
loop-piece-preserved c = record {
  within = c.in-Some.ensures.within;
  forward = omega (arith, c.in-Some.ensures.forward);
  same = passed_over (passes c.args.over) _ _ _ c.in-Some.ensures.some (search rules) ∙ c.loop-piece.invariant.same;
}
