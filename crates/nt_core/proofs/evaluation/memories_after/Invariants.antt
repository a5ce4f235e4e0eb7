use Rattle.std.proofs.Common.{◌≡◌, take, map}
use Rattle.std.specs.Prelude.{fold}
use Rattle.nt_core.specs.Tick.{written}
use Rattle.nt_core.proofs.evaluation.memories_after.Given as goal

abbrev pub invariant-loop-entry : goal.invariant-loop-entry
invariant-loop-entry l = map (λ v. v.items) l.memories.items ≡ fold (written l.values) (map (λ v. v.items) l.initial.memories.items) (take l.entry-index l.entry-items)
