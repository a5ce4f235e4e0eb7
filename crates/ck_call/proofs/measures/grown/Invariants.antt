-- what is there with what is left is all
use Rattle.std.proofs.Common.{◌≡◌, ◌+◌, ◌≤◌, drop}
use Rattle.ck_call.specs.inner.Weights.{capped}
use Rattle.ck_call.specs.inner.Measures.{sizes}
use Rattle.ck_call.proofs.measures.grown.Given as goal

abbrev pub invariant-loop-routine : goal.invariant-loop-routine
invariant-loop-routine l = record {
  low : l.size ≤ 20001;
  whole : capped (l.weight + sizes l.table l.routines) ≡ capped (l.size + sizes l.table (drop l.routine-index l.routines));
}
