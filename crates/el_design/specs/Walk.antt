-- Walks of a statement that pass no clock wait, with the store forgotten. All of it is this project's own.
use Rattle.std.specs.Prelude.{◌≡◌, ℕ, ◌&&◌, Bool, true, false, List, [], ◌∷◌, Option, Some, None, Contains, slice_get}
use Rattle.std.specs.List.{list_all}
use Rattle.xt_base.specs.declared.refusals.Place.{Place}
use Rattle.el_design.specs.Plain.{Expr, Lvalue, Statement, Assign, If, Case, Arm, For, Enable, Disable, Host, FlatTask, Flat}
use Rattle.el_design.specs.Assign.{arm_chosen}
use Rattle.el_design.specs.Stack.{Work, Do, Return, Turns, quiet_step, below_mark}
use Rattle.el_design.specs.Act.{turn}
use Rattle.el_design.specs.Names.{is_constant, labels_in}
use Rattle.el_design.specs.Turns.{fixed, holds, HasBound, HasTurns, IsEndlessFor, IsEndlessWhile, body_of}

-- the statements that a `case` may choose: the bodies of its arms, then the default
abbrev pub choices : Statement → List Statement
choices (Arm on labels body others) = body ∷ choices others
choices s = s ∷ []

-- a `case` whose expression and labels are constant
abbrev pub is_constant_case : Expr → Statement → Bool
is_constant_case on arms = is_constant on && list_all is_constant (labels_in arms)

-- a test may go this way: a constant one goes its way alone
abbrev pub MayGo : Flat → Expr → Bool → Type 0
MayGo d test way = is_constant test ≡ true → holds d test ≡ way

-- a loop may take another turn, or none: the constant test of a `for` goes its way
abbrev pub MayTurn : Flat → Statement → Bool → Type 0
MayTurn d (For at v first test next body) way = MayGo d test way
MayTurn d s way = Unit {0}

-- a loop whose number of turns no text tells: it takes any number of them, or none
pub record IsFreeLoop (d : Flat) (s body : Statement) : Type 0 where
  pub body_is : body_of s ≡ Some body
  pub no_bound : HasBound d s → ⊥
  pub no_end : IsEndlessWhile d s → ⊥

-- One step of a walk: a quiet step, or an event in which the store is forgotten. The stack is what lies above the place where the walk began;
-- these marks are open there, so a `disable` of one of them leaves the place and leads nowhere. A wait has no step.
pub data Steps (d : Flat) (marks : List ℕ) : List Work → List Work → Type 0 where
  quietly : {k next : List Work} → quiet_step k ≡ Some next → Steps d marks k next
  assigns : {at : Place} {to : Lvalue} {e : Expr} {held : Bool} {k : List Work} → Steps d marks (Do (Assign at to e held) ∷ k) k
  goes_yes : {at : Place} {test : Expr} {a b : Statement} {k : List Work} → MayGo d test true → Steps d marks (Do (If at test a b) ∷ k) (Do a ∷ k)
  goes_no : {at : Place} {test : Expr} {a b : Statement} {k : List Work} → MayGo d test false → Steps d marks (Do (If at test a b) ∷ k) (Do b ∷ k)
  chooses : {at : Place} {on : Expr} {arms x : Statement} {k : List Work} →
      Contains (choices arms) x → (is_constant_case on arms ≡ true → x ≡ arm_chosen d (fixed d) arms) → Steps d marks (Do (Case at on arms) ∷ k) (Do x ∷ k)
  -- a constant loop takes its turns
  begins_turns : (at : Place) → {s body : Statement} {n : ℕ} {k : List Work} →
      body_of s ≡ Some body → HasTurns d s n → Steps d marks (Do s ∷ k) (turn at n body k)
  takes_turn : {at : Place} {body : Statement} {n : ℕ} {k : List Work} → Steps d marks (Turns at n body ∷ k) (turn at n body k)
  -- an endless one takes one after another
  goes_on_for : {s body : Statement} {k : List Work} → body_of s ≡ Some body → IsEndlessFor d s → Steps d marks (Do s ∷ k) (Do body ∷ Do s ∷ k)
  goes_on_while : {s body : Statement} {k : List Work} → body_of s ≡ Some body → IsEndlessWhile d s → Steps d marks (Do s ∷ k) (Do body ∷ Do s ∷ k)
  -- any other loop but a `forever`, whose steps are quiet
  takes_none : {s body : Statement} {k : List Work} → IsFreeLoop d s body → MayTurn d s false → quiet_step (Do s ∷ k) ≡ None → Steps d marks (Do s ∷ k) k
  takes_one : {s body : Statement} {k : List Work} → IsFreeLoop d s body → MayTurn d s true → quiet_step (Do s ∷ k) ≡ None → Steps d marks (Do s ∷ k) (Do body ∷ Do s ∷ k)
  enables : {at : Place} {t : ℕ} {ins : List Expr} {outs : List Lvalue} {task : FlatTask} {k : List Work} →
      slice_get d.tasks t ≡ Some task → Steps d marks (Do (Enable at t ins outs) ∷ k) (Do task.body ∷ Return at task.mark [] ∷ k)
  returns : {at : Place} {m : ℕ} {outs : List (ℕ × Lvalue)} {k : List Work} → Steps d marks (Return at m outs ∷ k) k
  -- a `disable` goes to the end of its block or enable where that is open, else on
  ends : {at : Place} {m : ℕ} {k below : List Work} → below_mark m k ≡ Some below → Steps d marks (Do (Disable at m) ∷ k) below
  passes : {at : Place} {m : ℕ} {k : List Work} → below_mark m k ≡ None → (Contains marks m → ⊥) → Steps d marks (Do (Disable at m) ∷ k) k
  calls : {at : Place} {f : ℕ} {ins : List Expr} {result : Option Lvalue} {outs : List Lvalue} {k : List Work} → Steps d marks (Do (Host at f ins result outs) ∷ k) k

-- steps one after another
pub data Walks (d : Flat) (marks : List ℕ) : List Work → List Work → Type 0 where
  stays : {k : List Work} → Walks d marks k k
  then : {k mid end : List Work} → Steps d marks k mid → Walks d marks mid end → Walks d marks k end

-- a statement has a walk from its start to its end without a clock wait, where these marks are open round it
abbrev pub HasWalk : Flat → List ℕ → Statement → Type 0
HasWalk d marks s = Walks d marks (Do s ∷ []) []

-- a constant loop of so many turns whose body has such a walk is unrolled
pub record IsUnrolled (d : Flat) (marks : List ℕ) (s : Statement) (turns : ℕ) : Type 0 where
  pub turns_are : HasTurns d s turns
  pub body : Statement
  pub body_is : body_of s ≡ Some body
  pub walk : HasWalk d marks body
