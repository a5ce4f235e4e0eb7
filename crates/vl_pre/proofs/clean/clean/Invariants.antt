use Rattle.std.proofs.Common.{◌≡◌, ◌≤◌, ◌+◌, ◌-◌, length, drop}
use Rattle.vl_pre.specs.Clean.{clean_file, cleaned}
use Rattle.vl_pre.proofs.CleanLemmas.{in_front}
use Rattle.vl_pre.proofs.clean.clean.Given as goal

abbrev pub invariant-loop-at : goal.invariant-loop-at
invariant-loop-at l = record {
  inside : l.at ≤ length l.bytes;
  line : l.line ≤ l.at + 1;
  size : length l.text.items ≤ l.at;
  told : in_front l.text.items (cleaned l.within 0 l.line (drop l.at l.bytes)) ≡ clean_file l.bytes;
}

abbrev pub decreases-loop-at : goal.decreases-loop-at
decreases-loop-at l = length l.bytes - l.at
