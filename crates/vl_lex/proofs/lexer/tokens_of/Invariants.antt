use Rattle.std.proofs.Common.{◌≡◌, ◌-◌, ◌<◌, ◌≤◌, false, length, get_or}
use Rattle.vl_lex.specs.Bytes.{is_blank}
use Rattle.vl_lex.specs.Tokens.{Reads}
use Rattle.vl_lex.proofs.lexer.tokens_of.Given as goal

abbrev pub invariant-loop-at : goal.invariant-loop-at
invariant-loop-at l = record { within : l.at ≤ length l.bytes; reads : Reads l.bytes 0 l.tokens.items l.at; stops : l.at < length l.bytes → is_blank (get_or l.bytes l.at 0) ≡ false }

abbrev pub decreases-loop-at : goal.decreases-loop-at
decreases-loop-at l = length l.bytes - l.at
