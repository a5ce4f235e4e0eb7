use Rattle.std.proofs.Common.{◌≡◌, take, map, replicate}
use Rattle.xt_bits.specs.Word.{word}
use Rattle.nt_core.proofs.evaluation.start_state.Given as goal

abbrev pub invariant-loop-memory : goal.invariant-loop-memory
invariant-loop-memory l = map (λ v. v.items) l.memories.items ≡ map (λ m. replicate m.words (word m.width 0)) (take l.memory-index l.memory-items)
