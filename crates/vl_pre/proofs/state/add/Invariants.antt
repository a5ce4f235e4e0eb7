use Rattle.std.proofs.Common.{◌≡◌, ◌+◌, length, drop}
use Rattle.vl_pre.specs.Files.{added}
use Rattle.vl_pre.proofs.state.add.Given as goal

abbrev pub invariant-loop-byte : goal.invariant-loop-byte
invariant-loop-byte l = record {
  whole : added l.text l.line (drop l.byte-index l.bytes) ≡ added l.fn.text l.line l.bytes;
  size : length l.text.bytes ≡ length l.fn.text.bytes + l.byte-index;
  names : l.text.names ≡ l.fn.text.names;
}
