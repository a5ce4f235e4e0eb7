-- A process as a stack of work, and its steps that are no events (IEEE 1364-2005, 9.6, 9.8 and 9.9; where a process may stop between events is this project's own).
use Rattle.std.specs.Prelude.{◌≡◌, ℕ, Bool, true, false, ◌==◌, if◌then◌else◌, List, [], ◌∷◌, Option, Some, None}
use Rattle.xt_base.specs.declared.refusals.Place.{Place}
use Rattle.el_design.specs.Plain.{Expr, Lvalue, Statement, Null, Skip, Seq, Block, Forever, Wait, FlatProc}

-- Work that is left: a statement; the end of a named block, with its mark; the end of an enable, with its place, its task's mark,
-- and the output formals with the targets to which they are copied; the next test, and the next step, of a `for`;
-- a `repeat` with so many turns left; a call that waits for its reply.
pub data Work : Type 0 where
  Do : Statement → Work
  End : ℕ → Work
  Return : Place → ℕ → List (ℕ × Lvalue) → Work
  Test : Place → ℕ → Expr → Expr → Statement → Work
  Step : Place → ℕ → Expr → Expr → Statement → Work
  Turns : Place → ℕ → Statement → Work
  Await : Place → ℕ → Option Lvalue → List Lvalue → Work

-- One step that is no event: a null statement or an ended block is dropped, a block becomes its statements and its end if it is named,
-- `forever` becomes its body and itself. None where the stack is still.
abbrev pub quiet_step : List Work → Option (List Work)
quiet_step (Do Null ∷ k) = Some k
quiet_step (Do Skip ∷ k) = Some k
quiet_step (Do (Seq a b) ∷ k) = Some (Do a ∷ Do b ∷ k)
quiet_step (Do (Block at None body) ∷ k) = Some (Do body ∷ k)
quiet_step (Do (Block at (Some m) body) ∷ k) = Some (Do body ∷ End m ∷ k)
quiet_step (Do (Forever at body) ∷ k) = Some (Do body ∷ Do (Forever at body) ∷ k)
quiet_step (End m ∷ k) = Some k
quiet_step k = None

abbrev pub IsStill : List Work → Type 0
IsStill k = quiet_step k ≡ None

-- The still stack to which a statement above `below` comes by such steps, where `below` itself comes to `still`.
-- A `forever` whose body is no more than such steps never comes to one, and stays as it is; a design that breaks no rule has none.
abbrev pub enter : Statement → List Work → List Work → List Work
enter Null below still = still
enter Skip below still = still
enter (Seq a b) below still = enter a (Do b ∷ below) (enter b below still)
enter (Block at None body) below still = enter body below still
enter (Block at (Some m) body) below still = enter body (End m ∷ below) still
enter (Forever at body) below still = enter body (Do (Forever at body) ∷ below) (Do (Forever at body) ∷ below)
enter s below still = Do s ∷ below

abbrev pub settle : List Work → List Work
settle [] = []
settle (Do s ∷ k) = enter s k (settle k)
settle (End m ∷ k) = settle k
settle k = k

-- an `always` is its statement for ever (IEEE 1364-2005, 9.9.2)
abbrev pub start_stack : FlatProc → List Work
start_stack p = settle ((if p.always then Do (Forever p.place p.body) else Do p.body) ∷ [])

abbrev pub is_waiting : List Work → Bool
is_waiting (Do (Wait at falling) ∷ k) = true
is_waiting k = false

-- a process that has ended: only one that is no `always` comes to it
abbrev pub is_ended : List Work → Bool
is_ended [] = true
is_ended k = false

-- past the wait, at the edge
abbrev pub wake : List Work → List Work
wake (Do (Wait at falling) ∷ k) = settle k
wake k = k

-- what lies below the nearest end with the mark, if there is one: a `disable` ends all above it (IEEE 1364-2005, 10.3), and copies nothing out, which is this project's own
abbrev pub below_mark : ℕ → List Work → Option (List Work)
below_mark m [] = None
below_mark m (End n ∷ k) = if n == m then Some k else below_mark m k
below_mark m (Return at n outs ∷ k) = if n == m then Some k else below_mark m k
below_mark m (w ∷ k) = below_mark m k
