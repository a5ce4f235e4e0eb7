-- Each text is tokens, or has a byte at which none begins.
use Rattle.std.proofs.Common.{◌≡◌, ◌≢◌, ℕ, zero, suc, ⊎_elim, ◌⊎◌, inl, inr, ◌+◌, ◌<◌, ◌≤◌, List, [], ◌∷◌, ◌++◌, Bool, true, false, Option, Some, None, length, get_or, take, drop, sym, refl, ◌∙◌, subst, arith, length-take, length-drop}
use Rattle.std.specs.List.{prefix_len}
use Rattle.std.specs.Char.{is_digit}
use Rattle.std.proofs.lemmas.Bool.{cases_eq, cases_lt}
use Rattle.std.proofs.lemmas.List.{drop_more}
use Rattle.std.proofs.lemmas.List.Sums.{prefix_len-le-length}
use Rattle.xt_base.specs.Reserved.{is_reserved}
use Rattle.xt_base.specs.Identifiers.{begins_word, is_in_word}
use Rattle.vl_lex.specs.Bytes.{is_blank, is_in_number, is_in_string, is_sign, radix_of}
use Rattle.vl_lex.specs.Fronts.{HasNoFront, LongestFront, HasForm, begun_by}
use Rattle.vl_lex.specs.Spelling.{IsWord, AreDigits, IsBaseWithDigits, IsBased, IsQuoted, IsSystem, Spells}
use Rattle.vl_lex.specs.Tokens.{AreBlanks, IsTokenOf, Reads, BeginsNoToken, AreTokens, FailsAt}
use Rattle.vl_lex.specs.declared.kinds.Kind.{Kind}
use Rattle.vl_lex.specs.declared.kinds.Kind.TheVariants.{Word, Reserved, Decimal, Based, Quoted, Operator, System}
use Rattle.vl_lex.specs.declared.kinds.Token.{Token}
use Rattle.vl_lex.proofs.Families.{token_longest, no_token}
use Rattle.vl_lex.proofs.Marks.{operator_front}
use Rattle.vl_lex.proofs.Numbers.{number_longest, no_base, no_digits, based_longest, no_quote, no_number}
use Rattle.vl_lex.proofs.Readings.{token_here, stuck_here, blanks_here, blanks_stop}
use Rattle.vl_lex.proofs.Runs.{none_from, run_longest, no_run}
use Rattle.vl_lex.proofs.Strings.{system_longest, no_system, quoted_read, quoted_longest, no_quoted}

-- a longest front, or none
abbrev Found : (List ℕ → Type 0) → List ℕ → Type 0
Found Has rest = (found : Option ℕ) × LongestFront Has rest found

nothing : (Has : List ℕ → Type 0) → (Has [] → ⊥) → HasNoFront Has []
nothing Has empty = none_from [] (λ others beyond same has. never others beyond same has) where
  never : (others beyond : List ℕ) → [] ≡ others ++ beyond → Has others → ⊥
  never [] beyond same has = empty has
  never (x ∷ others) beyond same has = cc

found_word : (b : ℕ) (bytes : List ℕ) → Found IsWord (b ∷ bytes)
found_word b bytes = go (begins_word b) refl where
  go : (t : Bool) → begins_word b ≡ t → Found IsWord (b ∷ bytes)
  go true is = (Some (1 + prefix_len is_in_word bytes), run_longest begins_word is_in_word (b ∷ bytes) b bytes _ refl is refl)
  go false is = (None, no_run begins_word is_in_word (b ∷ bytes) b bytes refl is)

found_digits : (radix : ℕ) (rest : List ℕ) → Found (AreDigits radix) rest
found_digits radix [] = (None, nothing (AreDigits radix) (λ has. has))
found_digits radix (b ∷ bytes) = go (is_digit b radix) refl where
  go : (t : Bool) → is_digit b radix ≡ t → Found (AreDigits radix) (b ∷ bytes)
  go true is = (Some (1 + prefix_len (is_in_number radix) bytes), run_longest (λ c. is_digit c radix) (is_in_number radix) (b ∷ bytes) b bytes _ refl is refl)
  go false is = (None, no_run (λ c. is_digit c radix) (is_in_number radix) (b ∷ bytes) b bytes refl is)

found_number : (rest : List ℕ) → Found IsBaseWithDigits rest
found_number [] = (None, nothing IsBaseWithDigits (λ has. let whole = has.whole in cc))
found_number (b ∷ bytes) = go (radix_of b) refl where
  behind : (radix : ℕ) → radix_of b ≡ Some radix → (found : Option ℕ) → LongestFront (AreDigits radix) (drop (prefix_len is_blank bytes) bytes) found → Found IsBaseWithDigits (b ∷ bytes)
  behind radix is None none = (None, no_digits (b ∷ bytes) b bytes radix _ refl is refl none)
  behind radix is (Some len) front = (Some (1 + prefix_len is_blank bytes + len), number_longest (b ∷ bytes) b bytes radix _ len refl is refl front)

  go : (o : Option ℕ) → radix_of b ≡ o → Found IsBaseWithDigits (b ∷ bytes)
  go None is = (None, no_base (b ∷ bytes) b bytes refl is)
  go (Some radix) is = let digits = found_digits radix (drop (prefix_len is_blank bytes) bytes) in behind radix is digits.0 digits.1

found_based : (b : ℕ) (bytes : List ℕ) → Found IsBased (b ∷ bytes)
found_based b bytes = ⊎_elim (λ quote. let number = found_number (drop (prefix_len is_sign (take 1 bytes)) bytes) in behind quote number.0 number.1) (λ other. (None, no_quote (b ∷ bytes) b bytes refl other)) (cases_eq b 39) where
  behind : b ≡ 39 → (found : Option ℕ) → LongestFront IsBaseWithDigits (drop (prefix_len is_sign (take 1 bytes)) bytes) found → Found IsBased (b ∷ bytes)
  behind quote None none = (None, no_number (b ∷ bytes) b bytes _ refl refl none)
  behind quote (Some len) front = (
    Some (1 + prefix_len is_sign (take 1 bytes) + len),
    based_longest (b ∷ bytes) b bytes _ len refl quote refl (omega (arith, prefix_len-le-length is_sign (take 1 bytes), length-take 1 bytes)) front,
  )

found_quoted : (b : ℕ) (bytes : List ℕ) → Found IsQuoted (b ∷ bytes)
found_quoted b bytes =
    ⊎_elim
    (λ opens.
    ⊎_elim
    (λ inside.
    ⊎_elim (λ closes. (Some (prefix_len is_in_string bytes + 2), quoted_longest (b ∷ bytes) b bytes _ refl opens refl inside closes))
    (λ other. (None, no_quoted (b ∷ bytes) b bytes _ refl refl (λ within closes. other closes)))
    (cases_eq (get_or bytes (prefix_len is_in_string bytes) 0) 34))
    (λ past. (None, no_quoted (b ∷ bytes) b bytes _ refl refl (λ within closes. absurd (omega arith))))
    (cases_lt (prefix_len is_in_string bytes) (length bytes)))
    (λ other. (None, none_from (b ∷ bytes) (λ others beyond same has. other (quoted_read b bytes others beyond same has).opens)))
    (cases_eq b 34)

found_system : (b : ℕ) (bytes : List ℕ) → Found IsSystem (b ∷ bytes)
found_system b bytes =
    ⊎_elim
    (λ dollar.
    ⊎_elim (λ none. (None, no_system (b ∷ bytes) b bytes _ refl refl none))
    (λ some. (Some (1 + prefix_len is_in_word bytes), system_longest (b ∷ bytes) b bytes _ refl dollar refl some))
    (cases_eq (prefix_len is_in_word bytes) 0))
    (λ other. (None, none_from (b ∷ bytes) (λ others beyond same has. never other others beyond same has)))
    (cases_eq b 36) where
      never : b ≢ 36 → (others beyond : List ℕ) → b ∷ bytes ≡ others ++ beyond → IsSystem others → ⊥
      never other [] beyond same has = has
      never other (x ∷ others) beyond same has = let head : b ≡ x = cc in other (head ∙ has.0)

found_form : (kind : Kind) (b : ℕ) (bytes : List ℕ) → Found (HasForm kind) (b ∷ bytes)
found_form Word b bytes = found_word b bytes
found_form Reserved b bytes = found_word b bytes
found_form Decimal b bytes = found_digits 10 (b ∷ bytes)
found_form Based b bytes = found_based b bytes
found_form Quoted b bytes = found_quoted b bytes
found_form Operator b bytes = (_, operator_front (b ∷ bytes))
found_form System b bytes = found_system b bytes

-- a word is a token, reserved or not
word_spelled : (bytes : List ℕ) → IsWord bytes → (kind : Kind) × Spells kind bytes
word_spelled bytes has = go (is_reserved bytes) refl where
  go : (r : Bool) → is_reserved bytes ≡ r → (kind : Kind) × Spells kind bytes
  go true is = (Reserved, (has, is))
  go false is = (Word, (has, is))

-- bytes with a form are a token
spelled_by : (form : Kind) (bytes : List ℕ) → HasForm form bytes → (kind : Kind) × Spells kind bytes
spelled_by Word bytes has = word_spelled bytes has
spelled_by Reserved bytes has = word_spelled bytes has
spelled_by Decimal bytes has = (Decimal, has)
spelled_by Based bytes has = (Based, has)
spelled_by Quoted bytes has = (Quoted, has)
spelled_by Operator bytes has = (Operator, has)
spelled_by System bytes has = (System, has)

-- the text from a place on is tokens, or fails behind tokens
data Covered (text : List ℕ) (from : ℕ) : Type 0 where
  whole : (ts : List Token) → Reads text from ts (length text) → Covered text from
  fails : (at : ℕ) (before : List Token) → Reads text from before at → BeginsNoToken text at → Covered text from

with_token : (text : List ℕ) (from : ℕ) (t : Token) → AreBlanks text from t.start → IsTokenOf text t → Covered text t.end → Covered text from
with_token text from t blanks token (whole ts reads) = whole (t ∷ ts) (blanks, token, reads)
with_token text from t blanks token (fails at before reads stuck) = fails at (t ∷ before) (blanks, token, reads) stuck

-- behind the blanks at a place the text ends, a token begins or none does
step : (text : List ℕ) (from : ℕ) → from ≤ length text → ((next : ℕ) → from < next → next ≤ length text → Covered text next) → Covered text from
step text from inside rest = ⊎_elim token (λ past. whole [] (subst (AreBlanks text from) (end past) blanks)) (cases_lt (from + prefix_len is_blank (drop from text)) (length text)) where
  blanks : AreBlanks text from (from + prefix_len is_blank (drop from text))
  blanks = blanks_here text from (prefix_len is_blank (drop from text)) refl

  end : length text ≤ from + prefix_len is_blank (drop from text) → from + prefix_len is_blank (drop from text) ≡ length text
  end past = omega (arith, past, inside, prefix_len-le-length is_blank (drop from text), length-drop from text)

  found : (at : ℕ) → AreBlanks text from at → at < length text → is_blank (get_or text at 0) ≡ false → drop at text ≡ get_or text at 0 ∷ drop (at + 1) text → (o : Option ℕ) → LongestFront (HasForm (begun_by (get_or text at 0))) (drop at text) o → Covered text from
  found at before below no_blank front None none = fails at [] before (stuck_here text at below no_blank (no_token (drop at text) _ _ (begun_by (get_or text at 0)) front refl none))
  found at before below no_blank front (Some len) longest =
      let spelled = spelled_by (begun_by (get_or text at 0)) (take len (drop at text)) longest.holds in
      let token : IsTokenOf text (record { kind = spelled.0; start = at; end = at + len }) = token_here text at len spelled.0 below (token_longest (drop at text) _ _ (begun_by (get_or text at 0)) spelled.0 len front refl longest spelled.1) spelled.1 in
      with_token text from (record { kind = spelled.0; start = at; end = at + len }) before token (rest (at + len) (omega (arith, before.order, token.order)) token.within)

  token : from + prefix_len is_blank (drop from text) < length text → Covered text from
  token below =
      let at = from + prefix_len is_blank (drop from text) in
      let front : drop at text ≡ get_or text at 0 ∷ drop (at + 1) text = drop_more text at 0 below in
      let form = found_form (begun_by (get_or text at 0)) (get_or text at 0) (drop (at + 1) text) in
      found at blanks below (blanks_stop text from (prefix_len is_blank (drop from text)) refl below) front form.0 (subst (λ l. LongestFront (HasForm (begun_by (get_or text at 0))) l form.0) (sym front) form.1)

covered : (n : ℕ) (text : List ℕ) (from : ℕ) → from ≤ length text → length text ≤ from + n → Covered text from
covered zero text from inside enough = whole [] (record { order = inside; each = λ at above below. absurd (omega arith) })
covered (suc n) text from inside enough = step text from inside (λ next above within. covered n text next within (omega arith))

pub some_reading : (text : List ℕ) → ((ts : List Token) × AreTokens text ts) ⊎ ((at : ℕ) × FailsAt text at)
some_reading text = go (covered (length text) text 0 (omega arith) (omega arith)) where
  go : Covered text 0 → ((ts : List Token) × AreTokens text ts) ⊎ ((at : ℕ) × FailsAt text at)
  go (whole ts reads) = inl (ts, reads)
  go (fails at before reads stuck) = inr (at, record { before = before; reads = reads; stuck = stuck })
