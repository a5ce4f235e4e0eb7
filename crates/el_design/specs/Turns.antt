-- Loops whose number of turns stands in the text. All of it is this project's own.
use Rattle.std.specs.Prelude.{Option, Some, None, ◌≡◌, ◌<◌, ◌==◌, ◌&&◌, ℕ, zero, suc, Bool, true, false, nat_le, List, [], ◌++◌, Contains, flat_map, slice_get, unwrap_or, option_map}
use Rattle.xt_base.specs.declared.refusals.Place.{Place}
use Rattle.el_design.specs.declared.expressions.BinOp.{BinOp}
use Rattle.el_design.specs.declared.expressions.BinOp.TheVariants as binary
use Rattle.el_design.specs.Plain.{Shape, Expr, Variable, Binary, Resize, ToVariable, Statement, For, While, Repeat, Forever, Enable, Flat}
use Rattle.el_design.specs.Store.{Store, empty_store, put_all}
use Rattle.el_design.specs.Value.{Scene, shape_of, value, is_up}
use Rattle.el_design.specs.Assign.{writes_of, count_of}
use Rattle.el_design.specs.Function.{call_of}
use Rattle.el_design.specs.Names.{is_constant, own_targets, target_variables}
use Rattle.el_design.specs.InPlace.{InPlace}

-- what constants are evaluated in: they name nothing
abbrev pub fixed : Flat → Scene
fixed d = record { call = call_of d; nets = []; store = empty_store d }

-- a constant test holds
abbrev pub holds : Flat → Expr → Bool
holds d e = is_up (value d (fixed d) e)

-- ---- `for (v = c; v REL c; v = v + c)`, or the same with `v - c`; each c is constant

-- bringing an expression to this width cuts no bit off
abbrev pub is_kept : Shape → Expr → Bool
is_kept s e = nat_le (shape_of e).width s.width

-- an expression that is a variable; a name that is brought to a width which cuts nothing off is the name still
abbrev pub is_variable : ℕ → Expr → Bool
is_variable v (Variable s w) = w == v
is_variable v (Resize s e) = is_kept s e && is_variable v e
is_variable v e = false

-- REL is one of `< <= > >= !=`
abbrev pub is_relation : BinOp → Bool
is_relation binary.Lt = true
is_relation binary.Le = true
is_relation binary.Gt = true
is_relation binary.Ge = true
is_relation binary.Ne = true
is_relation op = false

abbrev pub is_advance : BinOp → Bool
is_advance binary.Add = true
is_advance binary.Sub = true
is_advance op = false

abbrev pub is_test_of : ℕ → Expr → Bool
is_test_of v (Binary s op a b) = is_relation op && is_variable v a && is_constant b
is_test_of v (Resize s e) = is_test_of v e
is_test_of v e = false

abbrev pub is_step_of : ℕ → Expr → Bool
is_step_of v (Binary s op a b) = is_advance op && is_variable v a && is_constant b
is_step_of v (Resize s e) = is_kept s e && is_step_of v e
is_step_of v e = false

-- the input formals of the task of an enable
abbrev pub formals_in : Flat → Statement → List ℕ
formals_in d (Enable at t ins outs) = unwrap_or (option_map (λ x. x.ins) (slice_get d.tasks t)) []
formals_in d s = []

-- and its output formals
abbrev pub outputs_in : Flat → Statement → List ℕ
outputs_in d (Enable at t ins outs) = unwrap_or (option_map (λ x. x.outs) (slice_get d.tasks t)) []
outputs_in d s = []

-- the variables that a statement itself stores to: by its targets, and a task's input formals
abbrev pub stored_by : Flat → Statement → List ℕ
stored_by d x = formals_in d x ++ flat_map target_variables (own_targets x)

-- no statement of a body in place stores to the variable
abbrev pub IsFreeOf : Flat → ℕ → Statement → Type 0
IsFreeOf d v body = (x : Statement) → InPlace d.tasks x body → Contains (stored_by d x) v → ⊥

-- the loop has this form
pub record IsCounted (d : Flat) (v : ℕ) (first test next : Expr) (body : Statement) : Type 0 where
  pub start_is : is_constant first ≡ true
  pub test_is : is_test_of v test ≡ true
  pub step_is : is_step_of v next ≡ true
  pub free : IsFreeOf d v body

-- the store after so many turns of the loop run on its variable alone, in the variable's width
abbrev pub turned : Flat → ℕ → Expr → Expr → ℕ → Store
turned d v first next zero = put_all (empty_store d) (writes_of d (fixed d) (ToVariable v) (value d (fixed d) first))
turned d v first next (suc n) =
    let s = record (fixed d) { store = turned d v first next n } in put_all s.store (writes_of d s (ToVariable v) (value d s next))

-- the test after so many turns
abbrev pub goes_on : Flat → ℕ → Expr → Expr → Expr → ℕ → Bool
goes_on d v first test next n = is_up (value d (record (fixed d) { store = turned d v first next n }) test)

-- ---- constant loops

-- A loop of constant bound has one of these forms. Whether a `for` of that form ever ends isn't asked.
pub data HasBound (d : Flat) : Statement → Type 0 where
  bound_repeat : {at : Place} {count : Expr} {body : Statement} → is_constant count ≡ true → HasBound d (Repeat at count body)
  bound_while : {at : Place} {test : Expr} {body : Statement} → is_constant test ≡ true → holds d test ≡ false → HasBound d (While at test body)
  bound_for : {at : Place} {v : ℕ} {first test next : Expr} {body : Statement} → IsCounted d v first test next body → HasBound d (For at v first test next body)

-- such a loop takes so many turns: the count of a `repeat`, none of a `while` of 0, those of a counted `for` until its test fails
pub data HasTurns (d : Flat) : Statement → ℕ → Type 0 where
  of_repeat : {at : Place} {count : Expr} {body : Statement} →
      is_constant count ≡ true → HasTurns d (Repeat at count body) (count_of d (fixed d) count)
  of_while : {at : Place} {test : Expr} {body : Statement} →
      is_constant test ≡ true → holds d test ≡ false → HasTurns d (While at test body) 0
  of_for : {at : Place} {v n : ℕ} {first test next : Expr} {body : Statement} →
      IsCounted d v first test next body → ((k : ℕ) → k < n → goes_on d v first test next k ≡ true) →
      goes_on d v first test next n ≡ false → HasTurns d (For at v first test next body) n

-- a counted `for` whose test never fails
pub data IsEndlessFor (d : Flat) : Statement → Type 0 where
  endless_for : {at : Place} {v : ℕ} {first test next : Expr} {body : Statement} →
      IsCounted d v first test next body → ((k : ℕ) → goes_on d v first test next k ≡ true) →
      IsEndlessFor d (For at v first test next body)

-- a `while` of a constant that isn't 0
pub data IsEndlessWhile (d : Flat) : Statement → Type 0 where
  endless_while : {at : Place} {test : Expr} {body : Statement} →
      is_constant test ≡ true → holds d test ≡ true → IsEndlessWhile d (While at test body)

-- the body of a loop
abbrev pub body_of : Statement → Option Statement
body_of (For at v first test next body) = Some body
body_of (While at test body) = Some body
body_of (Repeat at count body) = Some body
body_of (Forever at body) = Some body
body_of s = None
