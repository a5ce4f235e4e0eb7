-- How a text without tokens is refused. It is this project's own.
use Rattle.std.specs.Prelude.{◌≡◌, ◌<◌, ℕ, length}
use Rattle.xt_base.specs.declared.refusals.Refusal.{Refusal}
use Rattle.vl_pre.specs.Text.{Expanded, place_of}
use Rattle.vl_lex.specs.Tokens.{FailsAt}

-- rule 14, at the place of a byte
abbrev pub no_token : Expanded → ℕ → Refusal
no_token text at = record { rule = record { 0 = 14 }; place = place_of text at }

-- the refusal of the first byte at which no token begins; its place lies in a file of the text
pub record IsRefused (text : Expanded) (refusal : Refusal) : Type 0 where
  pub at : ℕ
  pub fails : FailsAt text.bytes at
  pub is : refusal ≡ no_token text at
  pub named : refusal.place.file < length text.names
