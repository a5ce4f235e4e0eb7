-- What the parser sees of a text. It is this project's own.
use Rattle.std.specs.Prelude.{ℕ, List, Option, Some, None, Bool, true, false, bytes_eq, slice_get}
use Rattle.vl_tree.specs.declared.terminals.Terminal.{Terminal}

-- what the tokens are for the grammar, and their spellings
pub record Input : Type 0 where
  pub terminals : List Terminal
  pub names : List (List ℕ)

abbrev pub same_bytes : Option (List ℕ) → Option (List ℕ) → Bool
same_bytes (Some a) (Some b) = bytes_eq a b
same_bytes None None = true
same_bytes _ _ = false

-- whether two tokens are spelled alike
abbrev pub same_name : List (List ℕ) → ℕ → ℕ → Bool
same_name names i j = same_bytes (slice_get names i) (slice_get names j)
