-- What spells a token of each kind (IEEE 1364-2005, clause 3). Escaped identifiers and the digits x, z and ? are left out.
use Rattle.std.specs.Prelude.{◌≡◌, ℕ, List, [], ◌∷◌, ◌++◌, Bool, false, Some, IsTrue}
use Rattle.std.specs.Char.{is_digit}
use Rattle.std.specs.List.{AllPass}
use Rattle.xt_base.specs.Identifiers.{begins_word, is_in_word}
use Rattle.vl_lex.specs.Bytes.{is_blank, is_in_number, is_in_string, is_sign, radix_of}
use Rattle.vl_lex.specs.Operators.{IsOperator}
use Rattle.xt_base.specs.Reserved.{is_reserved}
use Rattle.vl_lex.specs.declared.kinds.Kind.{Kind}
use Rattle.vl_lex.specs.declared.kinds.Kind.TheVariants.{Word, Reserved, Decimal, Based, Quoted, Operator, System}

-- a first byte that passes one test, and then bytes that pass another
abbrev pub IsRun : (ℕ → Bool) → (ℕ → Bool) → List ℕ → Type 0
IsRun first others [] = ⊥
IsRun first others (b ∷ bytes) = IsTrue (first b) × AllPass others bytes

-- an identifier, reserved or not (3.7)
abbrev pub IsWord : List ℕ → Type 0
IsWord bytes = IsRun begins_word is_in_word bytes

-- digits to a radix, with `_` after the first (3.5.1)
abbrev pub AreDigits : ℕ → List ℕ → Type 0
AreDigits radix bytes = IsRun (λ b. is_digit b radix) (is_in_number radix) bytes

-- no sign, or one
abbrev pub IsSign : List ℕ → Type 0
IsSign [] = Unit {0}
IsSign (b ∷ []) = IsTrue (is_sign b)
IsSign (b ∷ c ∷ bytes) = ⊥

-- a base, blanks, and digits to the radix of the base (3.5.1)
pub record IsBaseWithDigits (bytes : List ℕ) : Type 0 where
  pub base : ℕ
  pub radix : ℕ
  pub blanks : List ℕ
  pub digits : List ℕ
  pub is_base : radix_of base ≡ Some radix
  pub are_blanks : AllPass is_blank blanks
  pub are_digits : AreDigits radix digits
  pub whole : bytes ≡ base ∷ blanks ++ digits

-- a based number (3.5.1): a quote, a sign or none, a base and its digits
pub record IsBased (bytes : List ℕ) : Type 0 where
  pub sign : List ℕ
  pub number : List ℕ
  pub is_sign : IsSign sign
  pub is_number : IsBaseWithDigits number
  pub whole : bytes ≡ 39 ∷ sign ++ number

-- a string on one line (3.6, without escapes)
pub record IsQuoted (bytes : List ℕ) : Type 0 where
  pub inner : List ℕ
  pub on_line : AllPass is_in_string inner
  pub whole : bytes ≡ 34 ∷ inner ++ 34 ∷ []

-- the name of a system function (3.7.3): `$`, and then at least one of the bytes of a word
abbrev pub IsSystem : List ℕ → Type 0
IsSystem [] = ⊥
IsSystem (b ∷ bytes) = (b ≡ 36) × IsRun is_in_word is_in_word bytes

-- these bytes, by themselves, are a token of this kind
abbrev pub Spells : Kind → List ℕ → Type 0
Spells Word bytes = IsWord bytes × (is_reserved bytes ≡ false)
Spells Reserved bytes = IsWord bytes × IsTrue (is_reserved bytes)
Spells Decimal bytes = AreDigits 10 bytes
Spells Based bytes = IsBased bytes
Spells Quoted bytes = IsQuoted bytes
Spells Operator bytes = IsOperator bytes
Spells System bytes = IsSystem bytes
