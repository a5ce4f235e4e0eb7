use Rattle.std.proofs.Common.{◌≡◌, ◌≤◌, ◌+◌, ◌-◌, ◌==◌, drop, length}
use Rattle.std.specs.List.{position_or_len}
use Rattle.nt_read.proofs.words.line_bytes.Given as goal

abbrev pub invariant-loop-end : goal.invariant-loop-end
invariant-loop-end l = record { within : l.end ≤ length l.text; rest : l.end + position_or_len (λ c. c == 10) (drop l.end l.text) ≡ position_or_len (λ c. c == 10) l.text }

abbrev pub decreases-loop-end : goal.decreases-loop-end
decreases-loop-end l = length l.text - l.end
