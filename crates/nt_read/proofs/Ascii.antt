-- Words are ASCII text.
use Rattle.std.proofs.Common.{◌≡◌, ℕ, ◌<◌, true, List, arith, subst, sym, rules}
use Rattle.std.specs.Prelude.{Result, Ok, Err, MatchResult, IsOk}
use Rattle.std.specs.List.{prefix_len}
use Rattle.std.specs.Str.{IsAscii, IsUtf8}
use Rattle.std.proofs.lemmas.Bool.Decides.{nat_tests}
use Rattle.std.proofs.lemmas.List.{get_or-take}
use Rattle.std.proofs.lemmas.List.Sums.{prefix_len_passes}
use Rattle.std.proofs.lemmas.List.Folds.{length-prefix_len}
use Rattle.std.proofs.lemmas.Str.{IsUtf8-from_ascii}
use Rattle.std.proofs.lemmas.Str.Ascii.{IsAscii-from_reads}
use Rattle.xt_base.specs.Identifiers.{is_in_word}
use Rattle.nt_read.specs.Words.{word_of}

byte_ascii : (c : ℕ) → is_in_word c ≡ true → c < 128
byte_ascii c h = grind (arith, nat_tests, h)

pub word_ascii : (text : List ℕ) → IsAscii (word_of text)
word_ascii text = IsAscii-from_reads _ (prefix_len is_in_word text) (omega (arith, length-prefix_len is_in_word text)) (λ k h. subst (λ c. c < 128) (sym (get_or-take (prefix_len is_in_word text) text k 0 h)) (byte_ascii _ (prefix_len_passes is_in_word text k 0 h)))

-- bytes that are ASCII text are not refused
pub text_is : {X Y : Type 0} (r : Result X Y) (bytes : List ℕ) (P : X → Type 0) (Q : Y → Type 0) → IsAscii bytes → MatchResult r P Q → ((y : Y) → Q y → IsUtf8 bytes → ⊥) → IsOk r
text_is (Ok x) bytes P Q ascii cases never = search rules
text_is (Err y) bytes P Q ascii cases never = absurd (never y cases (IsUtf8-from_ascii bytes ascii))
