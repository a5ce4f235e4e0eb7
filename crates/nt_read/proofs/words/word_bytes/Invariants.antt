use Rattle.std.proofs.Common.{◌≡◌, ◌≤◌, ◌+◌, ◌-◌, drop, length}
use Rattle.std.specs.List.{prefix_len}
use Rattle.xt_base.specs.Identifiers.{is_in_word}
use Rattle.nt_read.proofs.words.word_bytes.Given as goal

abbrev pub invariant-loop-end : goal.invariant-loop-end
invariant-loop-end l = record { within : l.end ≤ length l.text; rest : l.end + prefix_len is_in_word (drop l.end l.text) ≡ prefix_len is_in_word l.text }

abbrev pub decreases-loop-end : goal.decreases-loop-end
decreases-loop-end l = length l.text - l.end
