-- What is told of each `for`, decided by its text and, where it is counted, by running it on its variable alone. All of it is this project's own.
use Rattle.std.specs.Prelude.{ℕ, zero, suc, ◌^◌, ◌&&◌, not, Bool, if◌then◌else◌, List, [], ◌∷◌, ◌++◌, flat_map, length, Option, Some, None, slice_get}
use Rattle.el_design.specs.Plain.{Expr, Statement, For, Enable, FlatTask, Flat}
use Rattle.el_design.specs.Store.{width_of}
use Rattle.el_design.specs.Names.{is_constant}
use Rattle.el_design.specs.Purity.{contains_number}
use Rattle.el_design.specs.Texts.{texts}
use Rattle.el_design.specs.Turns.{is_test_of, is_step_of, stored_by, goes_on}
use Rattle.el_design.specs.Exits.{Told, NotCounted, Finite, Endless}

-- ---- the variables to which a statement in place stores

-- the task that a statement itself enables
abbrev pub enabled_by : Statement → List ℕ
enabled_by (Enable at t ins outs) = t ∷ []
enabled_by s = []

-- what a text stores to; `tasks` gives the same of a task's body, by the task's number
abbrev pub stored_in : Flat → (ℕ → List ℕ) → Statement → List ℕ
stored_in d tasks s = flat_map (λ x. stored_by d x ++ flat_map tasks (enabled_by x)) (texts s)

abbrev pub body_stores : Flat → (ℕ → List ℕ) → Option FlatTask → List ℕ
body_stores d tasks None = []
body_stores d tasks (Some t) = stored_in d tasks t.body

-- where enables nest so deep at most
abbrev pub stores_to : Flat → ℕ → ℕ → List ℕ
stores_to d zero t = []
stores_to d (suc n) t = body_stores d (stores_to d n) (slice_get d.tasks t)

-- In a design in which no task leads back to itself, no chain of enables is longer than there are tasks.
abbrev pub stored_in_place : Flat → Statement → List ℕ
stored_in_place d s = stored_in d (stores_to d (length d.tasks)) s

-- ---- loops

-- the loop is `for (v = c; v REL c; v = v + c)`, and no statement of its body in place stores to v
abbrev pub is_counted : Flat → ℕ → Expr → Expr → Expr → Statement → Bool
is_counted d v first test next body =
    is_constant first && is_test_of v test && is_step_of v next && not (contains_number (stored_in_place d body) v)

-- the first number below a bound at which a test fails
abbrev pub first_off : (ℕ → Bool) → ℕ → Option ℕ
first_off f zero = None
first_off f (suc n) = elim (first_off f n) [ Some k ↦ Some k | None ↦ if f n then None else Some n ]

-- after so many turns as a variable has values, these come again
abbrev pub told_of_turns : Option ℕ → Told
told_of_turns None = Endless
told_of_turns (Some n) = Finite n

abbrev pub told_of : Flat → Statement → Told
told_of d (For at v first test next body) =
    if is_counted d v first test next body then told_of_turns (first_off (goes_on d v first test next) (2 ^ width_of d v)) else NotCounted
told_of d s = NotCounted
