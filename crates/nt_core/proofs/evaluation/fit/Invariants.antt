use Rattle.std.proofs.Common.{◌≡◌, ℕ, ◌<◌, map}
use Rattle.std.specs.Prelude.{slice_index}
use Rattle.nt_core.specs.Fitting.{value_widths}
use Rattle.nt_core.proofs.evaluation.fit.Given as goal

abbrev pub invariant-loop-i : goal.invariant-loop-i
invariant-loop-i l = (k : ℕ) → k < l.i → slice_index (value_widths l.values) k ≡ slice_index (map (λ p. p.width) l.pins) k
