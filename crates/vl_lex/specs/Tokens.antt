-- The tokens of a text: the longest at each place, with nothing but blanks round them (IEEE 1364-2005, 3.1).
use Rattle.std.specs.Prelude.{◌≡◌, ◌<◌, ◌≤◌, ℕ, List, [], ◌∷◌, false, IsTrue, All, AllPairs, length, slice_index, slice_range}
use Rattle.vl_lex.specs.Bytes.{is_blank}
use Rattle.vl_lex.specs.Spelling.{Spells}
use Rattle.vl_lex.specs.declared.kinds.Kind.{Kind}
use Rattle.vl_lex.specs.declared.kinds.Token.{Token}

-- from one place to another stand blanks alone
pub record AreBlanks (text : List ℕ) (from to : ℕ) : Type 0 where
  pub order : from ≤ to
  pub each : (at : ℕ) → from ≤ at → at < to → IsTrue (is_blank (slice_index text at))

-- a token of the text: its bytes spell it, and no longer token begins where it does
pub record IsTokenOf (text : List ℕ) (t : Token) : Type 0 where
  pub order : t.start < t.end
  pub within : t.end ≤ length text
  pub spelled : Spells t.kind (slice_range text t.start t.end)
  pub longest : (kind : Kind) (end : ℕ) → t.end < end → end ≤ length text → Spells kind (slice_range text t.start end) → ⊥

-- the text between two places is these tokens, with blanks between them and at both ends
abbrev pub Reads : List ℕ → ℕ → List Token → ℕ → Type 0
Reads text from [] to = AreBlanks text from to
Reads text from (t ∷ ts) to = AreBlanks text from t.start × IsTokenOf text t × Reads text t.end ts to

-- the whole text is these tokens
abbrev pub AreTokens : List ℕ → List Token → Type 0
AreTokens text ts = Reads text 0 ts (length text)

-- spans in order, none over another, within a text of that length
pub record AreSpans (ts : List Token) (len : ℕ) : Type 0 where
  pub each : All (λ t. (t.start < t.end) × (t.end ≤ len)) ts
  pub order : AllPairs (λ t u. t.end ≤ u.start) ts

-- a byte that is no blank, and at which no token begins
pub record BeginsNoToken (text : List ℕ) (at : ℕ) : Type 0 where
  pub within : at < length text
  pub no_blank : is_blank (slice_index text at) ≡ false
  pub none : (kind : Kind) (end : ℕ) → at < end → end ≤ length text → Spells kind (slice_range text at end) → ⊥

-- the first such byte, behind these tokens
pub record FailsAt (text : List ℕ) (at : ℕ) : Type 0 where
  pub before : List Token
  pub reads : Reads text 0 before at
  pub stuck : BeginsNoToken text at
