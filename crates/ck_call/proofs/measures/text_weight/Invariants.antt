-- what is there with what is left is all
use Rattle.std.proofs.Common.{◌≡◌, ◌+◌, ◌≤◌, drop}
use Rattle.ck_call.specs.inner.Weights.{capped}
use Rattle.ck_call.specs.inner.Measures.{lines_weight}
use Rattle.ck_call.proofs.measures.text_weight.Given as goal

abbrev pub invariant-loop-line : goal.invariant-loop-line
invariant-loop-line l = record {
  low : l.weight ≤ 20001;
  whole : capped (lines_weight l.line-items) ≡ capped (l.weight + lines_weight (drop l.line-index l.line-items));
}
