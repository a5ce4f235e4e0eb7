-- what is there with what is left is all
use Rattle.std.proofs.Common.{◌≡◌, ◌++◌, drop, map}
use Rattle.ck_call.specs.inner.Measures.{text_weight}
use Rattle.ck_call.proofs.measures.put_weights.Given as goal

abbrev pub invariant-loop-text : goal.invariant-loop-text
invariant-loop-text l = l.fn.into ++ map text_weight l.texts ≡ l.into ++ map text_weight (drop l.text-index l.texts)
