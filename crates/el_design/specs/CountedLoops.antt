-- Where a counted `for` ends: its test is asked for just those values that its variable takes. All of it is this project's own.
use Rattle.std.specs.Prelude.{◌≡◌, ◌⊎◌, ◌^◌, ◌<◌, ℕ, Bool, true, false}
use Rattle.xt_base.specs.declared.refusals.Place.{Place}
use Rattle.xt_bits.specs.Word.{word}
use Rattle.xt_bits.specs.Operators.{neg_of}
use Rattle.el_design.specs.declared.expressions.BinOp.TheVariants as binary
use Rattle.el_design.specs.Plain.{Expr, Binary, Resize, ToVariable, Statement, For, Flat}
use Rattle.el_design.specs.Store.{Store, empty_store, width_of, put_all}
use Rattle.el_design.specs.Value.{value, is_up}
use Rattle.el_design.specs.Assign.{writes_of}
use Rattle.el_design.specs.Turns.{fixed, goes_on, HasTurns, IsEndlessFor}
use Rattle.el_design.specs.Progression.{value_after, IsAlike}

-- the first value of the variable
abbrev pub first_of : Flat → Expr → ℕ
first_of d first = (value d (fixed d) first).value

-- what a step adds: c in `v + c`, and in `v - c` minus c in two's complement
abbrev pub step_of : Flat → Expr → ℕ
step_of d (Binary s binary.Add a b) = (value d (fixed d) b).value
step_of d (Binary s binary.Sub a b) = (neg_of (value d (fixed d) b)).value
step_of d (Resize s e) = step_of d e
step_of d e = 0

-- each variable at 0 but this one, which holds a number
abbrev pub holding : Flat → ℕ → ℕ → Store
holding d v x = put_all (empty_store d) (writes_of d (fixed d) (ToVariable v) (word (width_of d v) x))

-- what a test says there
abbrev pub tests : Flat → ℕ → Expr → ℕ → Bool
tests d v test x = is_up (value d (record (fixed d) { store = holding d v x }) test)

-- the variable takes this value: it is alike to the first by the lowest bit of the step
pub record IsTaken (d : Flat) (v : ℕ) (first next : Expr) (x : ℕ) : Type 0 where
  pub fits : x < 2 ^ width_of d v
  pub alike : IsAlike (width_of d v) (step_of d next) x (first_of d first)

-- a loop that takes so many turns, whatever their number is
abbrev pub Ends : Flat → Statement → Type 0
Ends d s = (n : ℕ) × HasTurns d s n

-- A counted `for` is endless where its test holds of all values that its variable takes, and ends where it fails of one; it does either.
pub record EndsByValues (d : Flat) (at : Place) (v : ℕ) (first test next : Expr) (body : Statement) : Type 0 where
  pub each_turn : (k : ℕ) → goes_on d v first test next k ≡ tests d v test (value_after (width_of d v) (first_of d first) (step_of d next) k)
  pub endless : ((x : ℕ) → IsTaken d v first next x → tests d v test x ≡ true) → IsEndlessFor d (For at v first test next body)
  pub ends : (x : ℕ) → IsTaken d v first next x → tests d v test x ≡ false → Ends d (For at v first test next body)
  pub either : IsEndlessFor d (For at v first test next body) ⊎ Ends d (For at v first test next body)
