-- Repeated and optional parts of the grammar. P says what one part is; like each relation of the grammar it is of the
-- place where the part begins, the place behind it, and its tree. All of it is this project's own.
use Rattle.std.specs.Prelude.{ℕ, ◌+◌, List, [], ◌∷◌, Option, Some, None, Bool, true, false, is_some}
use Rattle.vl_tree.specs.declared.terminals.Terminal.{Terminal}
use Rattle.vl_tree.specs.declared.terminals.Terminal.TheVariants as lex
use Rattle.vl_tree.specs.Places.{At, IsName}

-- part { "," part }
pub data Commas {X : Type 0} (ls : List Terminal) (P : ℕ → ℕ → X → Type 0) : ℕ → ℕ → List X → Type 0 where
  last : {i j : ℕ} {x : X} → P i j x → Commas ls P i j (x ∷ [])
  more : {i j k : ℕ} {x : X} {xs : List X} →
      P i j x → At ls j lex.Comma → Commas ls P (j + 1) k xs → Commas ls P i k (x ∷ xs)

-- [ part { "," part } ]
pub data MaybeCommas {X : Type 0} (ls : List Terminal) (P : ℕ → ℕ → X → Type 0) : ℕ → ℕ → List X → Type 0 where
  none : {i : ℕ} → MaybeCommas ls P i i []
  some : {i j : ℕ} {xs : List X} → Commas ls P i j xs → MaybeCommas ls P i j xs

-- { part }
pub data Many {X : Type 0} (P : ℕ → ℕ → X → Type 0) : ℕ → ℕ → List X → Type 0 where
  end : {i : ℕ} → Many P i i []
  next : {i j k : ℕ} {x : X} {xs : List X} → P i j x → Many P j k xs → Many P i k (x ∷ xs)

-- [ part ]
pub data Maybe {X : Type 0} (P : ℕ → ℕ → X → Type 0) : ℕ → ℕ → Option X → Type 0 where
  absent : {i : ℕ} → Maybe P i i None
  present : {i j : ℕ} {x : X} → P i j x → Maybe P i j (Some x)

-- one quoted token that may be left out
pub data Flag (ls : List Terminal) (l : Terminal) : ℕ → ℕ → Bool → Type 0 where
  unset : {i : ℕ} → Flag ls l i i false
  set : {i : ℕ} → At ls i l → Flag ls l i (i + 1) true

-- the first of a list of parts has its leading words
abbrev pub first_led : {X W : Type 0} → (X → Option W) → List X → Bool
first_led words [] = true
first_led words (x ∷ xs) = is_some (words x)

-- ID, whose tree is the number of its token
pub data Name (ls : List Terminal) : ℕ → ℕ → ℕ → Type 0 where
  id : {i : ℕ} → IsName ls i → Name ls i (i + 1) i
