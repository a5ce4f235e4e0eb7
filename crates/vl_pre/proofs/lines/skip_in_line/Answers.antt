use Rattle.std.proofs.Common.{arith, rules, ◌∙◌}
use Rattle.vl_pre.specs.Cursors.{passes}
use Rattle.vl_pre.specs.Lines.{in_line}
use Rattle.vl_pre.proofs.PieceLemmas.{passed_over}
use Rattle.vl_pre.proofs.LineLemmas.{goes_further}
use Rattle.vl_pre.proofs.lines.skip_in_line.Goals as goal

pub loop-piece-preserved : goal.loop-piece-preserved
loop-piece-preserved c = record {
  within = c.in-Some.ensures.within;
  forward = omega (arith, c.in-Some.ensures.forward);
  goes = goes_further _ _ _ c.loop-piece.invariant.goes c.in-Some.ensures.goes;
  same = passed_over (passes c.args.over) (in_line c.args.text.now c.loop-piece.cursor) _ _ c.in-Some.ensures.some (search rules) ∙ c.loop-piece.invariant.same;
}
