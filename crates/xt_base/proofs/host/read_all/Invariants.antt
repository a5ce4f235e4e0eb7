use Rattle.std.proofs.Common.{◌≡◌, ◌+◌, ◌≤◌, ◌++◌, ℕ, List, length}
use Rattle.xt_base.specs.Outside.{max_file}
use Rattle.xt_base.proofs.host.read_all.Given as goal

-- what was appended so far leaves the room that is left
abbrev pub invariant-loop : goal.invariant-loop
invariant-loop g l = (bytes : List ℕ) × (l.into.items ≡ l.fn.into.items ++ bytes) × (length bytes + l.room ≤ max_file)
