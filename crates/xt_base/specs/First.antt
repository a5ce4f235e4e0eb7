-- The order of breaks: which broken rule of a source is named. All of it is this project's own.
use Rattle.std.specs.Prelude.{◌≡◌, ◌<◌, ℕ, Bool, false, ◌&&◌, ◌||◌, ◌==◌, nat_lt, List, [], Option, Some, None, Contains, fold, if◌then◌else◌}
use Rattle.xt_base.specs.declared.refusals.Refusal.{Refusal}

-- one number is less than another, or is the same and what follows decides
abbrev pub less_or : ℕ → ℕ → Bool → Bool
less_or a b more = nat_lt a b || a == b && more

-- one break stands before another: by instance, then by stretch of the text and line, which never fall along the text, then by
-- the rule's number
abbrev pub stands_before : Refusal → Refusal → Bool
stands_before a b =
    less_or a.place.instance b.place.instance (less_or a.place.file b.place.file (less_or a.place.line b.place.line (nat_lt a.rule.0 b.rule.0)))

-- the first of the breaks that there are: one that no other stands before
pub record IsFirst (Broken : Refusal → Type 0) (first : Refusal) : Type 0 where
  pub broken : Broken first
  pub least : (other : Refusal) → Broken other → stands_before other first ≡ false

-- the break that is named, of those that the passes find: the first of the first pass that finds one
pub record IsNamed (Broken : ℕ → Refusal → Type 0) (pass : ℕ) (named : Refusal) : Type 0 where
  pub first : IsFirst (Broken pass) named
  pub clean_before : (earlier : ℕ) (other : Refusal) → earlier < pass → Broken earlier other → ⊥

-- of a break that may be there and a further one, the one that stands first
abbrev pub sooner : Option Refusal → Refusal → Option Refusal
sooner None b = Some b
sooner (Some a) b = if stands_before b a then Some b else Some a

-- the first of a list of breaks, if there is one
abbrev pub first : List Refusal → Option Refusal
first breaks = fold sooner None breaks

-- what a pass answers for its list of breaks: the first of them, or None where it is empty
abbrev pub IsFound : List Refusal → Option Refusal → Type 0
IsFound breaks None = breaks ≡ []
IsFound breaks (Some named) = IsFirst (Contains breaks) named
