-- What an environment says: for each name of one instance what it means there. The names themselves are resolved elsewhere. All of it is this project's own.
use Rattle.std.specs.Prelude.{ℕ, List, [], Option, length, replicate, slice_get, slice_set, unwrap_or, option_and_then}
use Rattle.xt_base.specs.declared.refusals.Place.{Place}
use Rattle.xt_base.specs.declared.refusals.Refusal.{Refusal}
use Rattle.el_width.specs.declared.environment.Meaning.{Meaning}
use Rattle.el_width.specs.declared.environment.Meaning.TheVariants as meaning

pub record Environment : Type 0 where
  -- by token: its bytes, and where it stands
  pub spellings : List (List ℕ)
  pub places : List Place
  -- by token of a name: the token at which what it names is declared
  pub bound : List ℕ
  -- by token of a declared name: what it means in this instance
  pub meanings : List Meaning
  pub instance : ℕ

-- nothing is known of any name
abbrev pub begun : List (List ℕ) → List Place → List ℕ → ℕ → Environment
begun spellings places bound instance = record {
  spellings = spellings;
  places = places;
  bound = bound;
  meanings = replicate (length spellings) meaning.Unknown;
  instance = instance;
}

-- what is declared at a token means this
abbrev pub with_meaning : Environment → ℕ → Meaning → Environment
with_meaning env at m = record env { meanings = slice_set env.meanings at m }

abbrev pub bound_at : Environment → ℕ → Option Meaning
bound_at env name = option_and_then (λ at. slice_get env.meanings at) (slice_get env.bound name)

-- what the name at a token means
abbrev pub means : Environment → ℕ → Meaning
means env name = unwrap_or (bound_at env name) meaning.Unknown

-- the bytes of a token
abbrev pub spelled : Environment → ℕ → List ℕ
spelled env token = unwrap_or (slice_get env.spellings token) []

abbrev pub nowhere : Place
nowhere = record { file = 0; line = 0; instance = 0 }

-- the break of a rule at a token, in this instance
abbrev pub break_at : Environment → ℕ → ℕ → Refusal
break_at env token rule = record { rule = record { 0 = rule }; place = record (unwrap_or (slice_get env.places token) nowhere) { instance = env.instance } }
