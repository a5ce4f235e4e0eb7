use Rattle.std.proofs.Common.{◌≡◌, ◌≤◌, ◌+◌, length, drop}
use Rattle.vl_pre.specs.Text.{begun, with_lines}
use Rattle.vl_pre.proofs.text.Text.plain.Given as goal

abbrev pub invariant-loop-byte : goal.invariant-loop-byte
invariant-loop-byte l = record {
  whole : with_lines l.text l.line (drop l.byte-index l.bytes) ≡ with_lines (begun l.fn.name) 1 l.bytes;
  size : length l.text.bytes ≡ l.byte-index;
  names : length l.text.names ≡ 1;
  line : l.line ≤ l.byte-index + 1;
}
