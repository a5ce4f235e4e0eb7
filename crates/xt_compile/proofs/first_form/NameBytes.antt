-- What the names of ports are made of.
use Rattle.std.proofs.Common.{◌≡◌, ◌<◌, ℕ, List, [], ◌∷◌, true, Result, Ok, Err, subst, sym, arith}
use Rattle.std.specs.List.{list_all}
use Rattle.std.specs.Prelude.{IsTrue, MatchResult, not}
use Rattle.std.specs.Str.{IsAscii}
use Rattle.std.proofs.lemmas.Bool.{and_parts}
use Rattle.std.proofs.lemmas.Bool.Decides.{nat_tests}
use Rattle.std.proofs.lemmas.Str.Ascii.{IsAscii-cons, IsAscii-nil}
use Rattle.xt_base.specs.Identifiers.{begins_word, is_in_word, is_word, is_identifier}
use Rattle.nt_core.specs.Names.{is_pin_name}
use Rattle.xt_base.specs.Reserved.{is_reserved}

letter_small : (c : ℕ) → begins_word c ≡ true → c < 128
letter_small c h = grind (arith, nat_tests)

word_byte_small : (c : ℕ) → is_in_word c ≡ true → c < 128
word_byte_small c h = grind (arith, nat_tests)

word_bytes_small : (cs : List ℕ) → list_all is_in_word cs ≡ true → IsAscii cs
word_bytes_small [] h = IsAscii-nil
word_bytes_small (c ∷ cs) h = let parts = and_parts (is_in_word c) (list_all is_in_word cs) h in IsAscii-cons c cs (word_byte_small c parts.0) (word_bytes_small cs parts.1)

word_small : (w : List ℕ) → is_word w ≡ true → IsAscii w
word_small [] h = IsAscii-nil
word_small (c ∷ cs) h = let parts = and_parts (begins_word c) (list_all is_in_word cs) h in IsAscii-cons c cs (letter_small c parts.0) (word_bytes_small cs parts.1)

-- a port's name is ASCII text
pub pin_name_is_ascii : (text word : List ℕ) → text ≡ word → IsTrue (is_pin_name word) → IsAscii text
pin_name_is_ascii text word same h = subst IsAscii (sym same) (word_small word (and_parts (is_word word) (not (is_reserved word)) (and_parts (is_identifier word) _ h).0).0)

-- what holds of a result's value
pub ok_part : {A E : Type 0} (P : A → Type 0) (Q : E → Type 0) (result : Result A E) (x : A) → MatchResult result P Q → result ≡ Ok x → P x
ok_part P Q (Ok y) x m e = let same : y ≡ x = cc in subst P same m
ok_part P Q (Err f) x m e = cc
