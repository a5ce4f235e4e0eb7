-- How a token is found: the first byte tells its form, and the longest front of the form is the token. It is this project's own.
use Rattle.std.specs.Prelude.{◌<◌, ◌≤◌, ◌==◌, ℕ, List, Option, MatchOption, length, take, if◌then◌else◌}
use Rattle.std.specs.Char.{is_digit}
use Rattle.xt_base.specs.Identifiers.{begins_word}
use Rattle.vl_lex.specs.Operators.{IsOperator}
use Rattle.vl_lex.specs.Spelling.{IsWord, AreDigits, IsBased, IsQuoted, IsSystem, Spells}
use Rattle.vl_lex.specs.declared.kinds.Kind.{Kind}
use Rattle.vl_lex.specs.declared.kinds.Kind.TheVariants.{Word, Reserved, Decimal, Based, Quoted, Operator, System}

-- so many bytes at the front have the form, and no more have it
pub record IsLongestFront (Has : List ℕ → Type 0) (rest : List ℕ) (len : ℕ) : Type 0 where
  pub within : len ≤ length rest
  pub holds : Has (take len rest)
  pub longest : (n : ℕ) → len < n → n ≤ length rest → Has (take n rest) → ⊥

-- no front has the form
pub record HasNoFront (Has : List ℕ → Type 0) (rest : List ℕ) : Type 0 where
  pub none : (n : ℕ) → n ≤ length rest → Has (take n rest) → ⊥

-- the length of the longest front of the form, where there is one
abbrev pub LongestFront : (List ℕ → Type 0) → List ℕ → Option ℕ → Type 0
LongestFront Has rest found = MatchOption found (HasNoFront Has rest) (λ len. IsLongestFront Has rest len)

-- the form of a kind: reserved words are words
abbrev pub HasForm : Kind → List ℕ → Type 0
HasForm Word bytes = IsWord bytes
HasForm Reserved bytes = IsWord bytes
HasForm Decimal bytes = AreDigits 10 bytes
HasForm Based bytes = IsBased bytes
HasForm Quoted bytes = IsQuoted bytes
HasForm Operator bytes = IsOperator bytes
HasForm System bytes = IsSystem bytes

-- these bytes are a token of some kind
abbrev pub IsToken : List ℕ → Type 0
IsToken bytes = (kind : Kind) × Spells kind bytes

-- the one kind of token that a byte can begin; a word may be a reserved one too
abbrev pub begun_by : ℕ → Kind
begun_by b =
    if begins_word b then Word
    else (if is_digit b 10 then Decimal
    else (if b == 39 then Based
    else (if b == 34 then Quoted
    else (if b == 36 then System
    else Operator))))
