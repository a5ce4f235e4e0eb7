-- Rules that are broken in a file, and the limits of a source. All of it is this project's own.
use Rattle.std.specs.Prelude.{ℕ, Result, Ok, Err}

-- one thing after another: the first that is broken ends it
infixl 10 ◌>>=◌
abbrev pub ◌>>=◌ : {A B E : Type 0} → Result A E → (A → Result B E) → Result B E
(Ok x) >>= f = f x
(Err e) >>= f = Err e

-- a rule that is broken, and the line in the file that is read
pub record Break : Type 0 where
  pub rule : ℕ
  pub line : ℕ

abbrev pub breaks : {A : Type 0} → ℕ → ℕ → Result A Break
breaks rule line = Err (record { rule = rule; line = line })

-- the greatest length of a text, in bytes
abbrev pub max_text : ℕ
max_text = 4194304

-- how many uses may be expanded
abbrev pub max_uses : ℕ
max_uses = 65536

-- how many uses may stand in one another
abbrev pub max_nesting : ℕ
max_nesting = 64

-- how many files may be loaded
abbrev pub max_loads : ℕ
max_loads = 256

-- how many includes may stand in one another
abbrev pub max_includes : ℕ
max_includes = 16
