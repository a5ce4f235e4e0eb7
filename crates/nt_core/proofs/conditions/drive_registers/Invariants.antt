use Rattle.std.proofs.Common.{◌≡◌, ℕ, ◌<◌, map, Some}
use Rattle.std.specs.Prelude.{slice_get, slice_index}
use Rattle.nt_core.specs.Forms.{widths}
use Rattle.nt_core.proofs.conditions.drive_registers.Given as goal

abbrev pub invariant-loop-i : goal.invariant-loop-i
invariant-loop-i l = (k : ℕ) → k < l.i → slice_get (widths l.nodes) (slice_index l.drives k) ≡ Some (slice_index (map (λ k. k.width) l.registers) k)
