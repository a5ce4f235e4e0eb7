use Rattle.std.proofs.Common.{ℕ, ◌+◌, ◌<◌, map}
use Rattle.std.specs.Prelude.{slice_index}
use Rattle.nt_core.proofs.conditions.are_rising.Given as goal

abbrev pub invariant-loop-i : goal.invariant-loop-i
invariant-loop-i l = (k : ℕ) → k + 1 < l.i → slice_index (map (λ h. h.process) l.hosts) k < slice_index (map (λ h. h.process) l.hosts) (k + 1)
