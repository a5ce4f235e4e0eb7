use Rattle.std.proofs.Common.{◌≢◌, ℕ, ◌<◌, length, get_or}
use Rattle.nt_core.specs.declared.netlist.Wire.{Wire}
use Rattle.nt_core.proofs.conditions.are_apart.Given as goal

abbrev pub invariant-loop-i : goal.invariant-loop-i
invariant-loop-i l = (a b : ℕ) (d : Wire) → a < l.i → a < b → b < length l.pins → (get_or l.pins a d).name ≢ (get_or l.pins b d).name
