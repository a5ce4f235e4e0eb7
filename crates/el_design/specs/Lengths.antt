-- How long the walks are at most by which a statement may be left without a clock wait, by its structure; `Exits` says alike which exits there are.
-- All of it is this project's own.
use Rattle.std.specs.Prelude.{◌≡◌, ◌==◌, ◌≤◌, ℕ, zero, suc, max, Bool, true, false, if◌then◌else◌, List, [], ◌∷◌, Option, Some, None, slice_get, length}
use Rattle.xt_base.specs.declared.refusals.Place.{Place}
use Rattle.el_design.specs.Plain.{Statement, Null, Skip, Seq, Block, Assign, If, Case, Arm, For, While, Repeat, Forever, Wait, Enable, Disable, Host, FlatTask, FlatProc, Flat}
use Rattle.el_design.specs.Assign.{has_label, count_of}
use Rattle.el_design.specs.Names.{is_constant}
use Rattle.el_design.specs.Purity.{contains_number}
use Rattle.el_design.specs.Stack.{Work, Do, End, Return, Turns}
use Rattle.el_design.specs.InPlace.{Stands}
use Rattle.el_design.specs.Places.{open_on, ArePlaced}
use Rattle.el_design.specs.Turns.{fixed, HasTurns, body_of}
use Rattle.el_design.specs.Walk as walk
use Rattle.el_design.specs.Walk.{is_constant_case, Steps, Walks, HasWalk}
use Rattle.el_design.specs.Exits.{Exit, Past, Away, may_hold, may_fail, Told, NotCounted, Finite, Endless, Arms, Alone, takes, skips, arms_of, exits, exits_in_place, WalksAway}

-- what lies ahead of a statement: from each exit on so many steps at most; None where no walk that is meant goes on there
abbrev pub Ahead : Type 0
Ahead = Exit → Option ℕ

-- from a statement's start on so many steps at most, by what lies ahead; None where no walk leads to what is meant
abbrev pub Lengths : Type 0
Lengths = Ahead → Option ℕ

abbrev pub one_more : Option ℕ → Option ℕ
one_more None = None
one_more (Some n) = Some (suc n)

abbrev pub longer : Option ℕ → Option ℕ → Option ℕ
longer None b = b
longer (Some n) None = Some n
longer (Some n) (Some m) = Some (max n m)

abbrev pub where_so : Bool → Option ℕ → Option ℕ
where_so true a = a
where_so false a = None

-- with this past the end
abbrev pub past_to : Option ℕ → Ahead → Ahead
past_to a ahead Past = a
past_to a ahead (Away m) = ahead (Away m)

-- before the end of a block or task with this mark, which is a step, as a `disable` to it is one
abbrev pub ended : ℕ → Ahead → Ahead
ended m ahead Past = one_more (ahead Past)
ended m ahead (Away n) = if m == n then one_more (ahead Past) else ahead (Away n)

-- ---- parts of statements

-- one step
abbrev pub passed : Lengths
passed ahead = one_more (ahead Past)

-- a step to what begins there
abbrev pub stepped : Lengths → Lengths
stepped a ahead = one_more (a ahead)

-- one after another
abbrev pub in_turn : Lengths → Lengths → Lengths
in_turn a b ahead = one_more (a (past_to (b ahead) ahead))

-- a block or task with this mark
abbrev pub marked : ℕ → Lengths → Lengths
marked m a ahead = one_more (a (ended m ahead))

-- the one where p, and the other where q
abbrev pub either_of : Bool → Lengths → Bool → Lengths → Lengths
either_of p a q b ahead = longer (where_so p (a ahead)) (where_so q (b ahead))

-- a `disable` of an open mark leaves there, and any other does nothing
abbrev pub leaving : Bool → ℕ → Lengths
leaving true m ahead = ahead (Away m)
leaving false m ahead = one_more (ahead Past)

-- so many turns of a loop
abbrev pub turns_left : ℕ → Lengths → Lengths
turns_left zero a ahead = ahead Past
turns_left (suc n) a ahead = a (past_to (one_more (turns_left n a ahead)) ahead)

-- One turn after another, for ever, of a body that has no walk past its end.
abbrev pub over_again : Lengths → Lengths
over_again a ahead = one_more (a (past_to None ahead))

-- any number of turns, or none, of such a body: it may take no turn; it may take one
abbrev pub any_turns : Bool → Bool → Lengths → Lengths
any_turns none some a ahead = one_more (longer (where_so none (ahead Past)) (where_so some (a (past_to None ahead))))

abbrev pub for_lengths : Told → Bool → Bool → Lengths → Lengths
for_lengths NotCounted hold fail a = any_turns fail hold a
for_lengths (Finite n) hold fail a = stepped (turns_left n a)
for_lengths Endless hold fail a = over_again a

abbrev pub repeat_lengths : Bool → ℕ → Lengths → Lengths
repeat_lengths true n a = stepped (turns_left n a)
repeat_lengths false n a = any_turns true true a

-- ---- statements

-- those of a task's body, by the task's number and the marks that are open round the enable
abbrev pub TaskLengths : Type 0
TaskLengths = ℕ → List ℕ → Lengths

abbrev pub enable_lengths : Option FlatTask → Lengths → Lengths
enable_lengths None a ahead = None
enable_lengths (Some t) a ahead = marked t.mark a ahead

-- with these marks open round it, and this at a clock wait
abbrev pub lengths : Flat → (Statement → Told) → Option ℕ → TaskLengths → Arms → List ℕ → Statement → Lengths
lengths d told waits tasks arms marks Null = passed
lengths d told waits tasks arms marks Skip = passed
lengths d told waits tasks arms marks (Seq a b) = in_turn (lengths d told waits tasks Alone marks a) (lengths d told waits tasks Alone marks b)
lengths d told waits tasks arms marks (Block at None body) = stepped (lengths d told waits tasks Alone marks body)
lengths d told waits tasks arms marks (Block at (Some m) body) = marked m (lengths d told waits tasks Alone (m ∷ marks) body)
lengths d told waits tasks arms marks (Assign at to e held) = passed
lengths d told waits tasks arms marks (If at test a b) =
    stepped (either_of (may_hold d test) (lengths d told waits tasks Alone marks a) (may_fail d test) (lengths d told waits tasks Alone marks b))
lengths d told waits tasks arms marks (Case at on others) = stepped (lengths d told waits tasks (arms_of (is_constant_case on others)) marks others)
lengths d told waits tasks arms marks (Arm on labels body others) =
    either_of (takes arms (has_label d (fixed d) on labels)) (lengths d told waits tasks Alone marks body)
    (skips arms (has_label d (fixed d) on labels)) (lengths d told waits tasks arms marks others)
lengths d told waits tasks arms marks (For at v first test next body) =
    for_lengths (told (For at v first test next body)) (may_hold d test) (may_fail d test) (lengths d told waits tasks Alone marks body)
lengths d told waits tasks arms marks (While at test body) = any_turns (may_fail d test) (may_hold d test) (lengths d told waits tasks Alone marks body)
lengths d told waits tasks arms marks (Repeat at count body) =
    repeat_lengths (is_constant count) (count_of d (fixed d) count) (lengths d told waits tasks Alone marks body)
lengths d told waits tasks arms marks (Forever at body) = over_again (lengths d told waits tasks Alone marks body)
lengths d told waits tasks arms marks (Wait at falling) = λ ahead. waits
lengths d told waits tasks arms marks (Enable at t ins outs) = enable_lengths (slice_get d.tasks t) (tasks t marks)
lengths d told waits tasks arms marks (Disable at m) = leaving (contains_number marks m) m
lengths d told waits tasks arms marks (Host at f ins result outs) = passed

-- ---- in place, with the bodies of tasks

abbrev pub no_length : Lengths
no_length ahead = None

abbrev pub body_lengths : Flat → (Statement → Told) → Option ℕ → TaskLengths → List ℕ → Option FlatTask → Lengths
body_lengths d told waits tasks marks None = no_length
body_lengths d told waits tasks marks (Some t) = lengths d told waits tasks Alone (t.mark ∷ marks) t.body

-- where enables nest so deep at most
abbrev pub lengths_to : Flat → (Statement → Told) → Option ℕ → ℕ → TaskLengths
lengths_to d told waits zero t marks = no_length
lengths_to d told waits (suc n) t marks = body_lengths d told waits (lengths_to d told waits n) marks (slice_get d.tasks t)

-- In a design in which no task leads back to itself, no chain of enables is longer than there are tasks.
abbrev pub lengths_in_place : Flat → (Statement → Told) → Option ℕ → List ℕ → Statement → Lengths
lengths_in_place d told waits marks s = lengths d told waits (lengths_to d told waits (length d.tasks)) Alone marks s

-- ---- what is meant

-- nothing but to leave by this exit
abbrev pub to_exit : Exit → Ahead
to_exit Past Past = Some 0
to_exit Past (Away n) = None
to_exit (Away m) Past = None
to_exit (Away m) (Away n) = if m == n then Some 0 else None

-- where no loop spins, no walk from a statement's start out of it by this exit, without a clock wait, has more steps; None where there is no such walk
abbrev pub way_out : Flat → (Statement → Told) → List ℕ → Statement → Exit → Option ℕ
way_out d told marks s e = lengths_in_place d told None marks s (to_exit e)

-- and none to a clock wait in it has more
abbrev pub way_to_wait : Flat → (Statement → Told) → List ℕ → Statement → Option ℕ
way_to_wait d told marks s = lengths_in_place d told (Some 0) marks s (λ e. None)

-- what lies ahead of a stack's pieces of work, where this lies ahead of all of it
abbrev pub aheads : Flat → (Statement → Told) → Option ℕ → List ℕ → Ahead → List Work → Ahead
aheads d told waits marks ahead [] = ahead
aheads d told waits marks ahead (Do s ∷ k) =
    let below = aheads d told waits marks ahead k in past_to (lengths_in_place d told waits (open_on k marks) s below) below
aheads d told waits marks ahead (End m ∷ k) = ended m (aheads d told waits marks ahead k)
aheads d told waits marks ahead (Return at m outs ∷ k) = ended m (aheads d told waits marks ahead k)
aheads d told waits marks ahead (Turns at n body ∷ k) =
    let below = aheads d told waits marks ahead k in past_to (one_more (turns_left n (lengths_in_place d told waits (open_on k marks) body) below)) below
aheads d told waits marks ahead (w ∷ k) = past_to None (aheads d told waits marks ahead k)

-- ---- what these numbers say of walks

-- a loop that takes no certain number of turns has no walk through its body, wherever it stands in a statement in place
abbrev pub NoneSpins : Flat → List ℕ → Statement → Type 0
NoneSpins d marks s =
    (o : List ℕ) (x body : Statement) → Stands d.tasks marks s o x → body_of x ≡ Some body → ((n : ℕ) → HasTurns d x n → ⊥) → HasWalk d o body → ⊥

-- a process's statement, which an `always` repeats for ever
abbrev pub whole_of : FlatProc → Statement
whole_of p = if p.always then Forever p.place p.body else p.body

-- so many steps are no more than this
abbrev pub IsWithin : ℕ → Option ℕ → Type 0
IsWithin n None = ⊥
IsWithin n (Some most) = n ≤ most

-- the steps of a walk
abbrev pub steps_of : {d : Flat} {marks : List ℕ} {k end : List Work} → Walks d marks k end → ℕ
steps_of walk.stays = 0
steps_of (walk.then step rest) = suc (steps_of rest)

-- Each step of a walk lowers the number that the walk's stack has by its structure, where the next stack has one. The stack need not have been come to from the
-- statement's start: it is enough that each piece of work on it stands in the statement, as behind a clock wait.
abbrev pub StepsGoDown : Flat → (Statement → Told) → List ℕ → Statement → Type 0
StepsGoDown d told marks s =
    (waits : Option ℕ) (ahead : Ahead) (k next : List Work) (n : ℕ) → ArePlaced d marks s k → Steps d marks k next →
    aheads d told waits marks ahead next Past ≡ Some n → IsWithin (suc n) (aheads d told waits marks ahead k Past)

-- A statement has a walk out of it by an exit exactly where it has a length for it, and none is longer; nor is one to a clock wait longer than its length.
pub record LengthsBoundWalks (d : Flat) (told : Statement → Told) (marks : List ℕ) (s : Statement) : Type 0 where
  pub past : (w : HasWalk d marks s) → IsWithin (steps_of w) (way_out d told marks s Past)
  pub past_only : (n : ℕ) → way_out d told marks s Past ≡ Some n → HasWalk d marks s
  pub away : (m : ℕ) (w : WalksAway d marks s m) → IsWithin (steps_of w.walk) (way_out d told marks s (Away m))
  pub away_only : (m n : ℕ) → way_out d told marks s (Away m) ≡ Some n → WalksAway d marks s m
  pub waits : (at : Place) (falling : Bool) (k : List Work) (w : Walks d marks (Do s ∷ []) (Do (Wait at falling) ∷ k)) → IsWithin (steps_of w) (way_to_wait d told marks s)

-- an enable has the lengths of the task's body in place, with the task's mark open round it
abbrev pub LengthsUnfold : Flat → (Statement → Told) → Option ℕ → Type 0
LengthsUnfold d told waits =
    (t : ℕ) (task : FlatTask) (marks : List ℕ) → slice_get d.tasks t ≡ Some task →
    lengths_to d told waits (length d.tasks) t marks ≡ lengths_in_place d told waits (task.mark ∷ marks) task.body

-- What lies ahead of an exit that the statement hasn't doesn't matter.
abbrev pub LengthsAreOfExits : Flat → (Statement → Told) → List ℕ → Statement → Type 0
LengthsAreOfExits d told marks s =
    (waits : Option ℕ) (one other : Ahead) → ((e : Exit) → exits d told (exits_in_place d told) Alone marks s e ≡ true → one e ≡ other e) →
    lengths_in_place d told waits marks s one ≡ lengths_in_place d told waits marks s other
