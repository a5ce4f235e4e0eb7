-- How a statement may be left without a clock wait, by its structure; the walks of `Walk` say the same step by step. All of it is this project's own.
use Rattle.std.specs.Prelude.{◌≡◌, ◌==◌, ◌&&◌, ◌||◌, not, ℕ, zero, suc, Bool, true, false, List, [], ◌∷◌, Option, Some, None, Contains, slice_get, length}
use Rattle.xt_base.specs.declared.refusals.Place.{Place}
use Rattle.el_design.specs.Plain.{Expr, Statement, Null, Skip, Seq, Block, Assign, If, Case, Arm, For, While, Repeat, Forever, Wait, Enable, Disable, Host, FlatTask, Flat}
use Rattle.el_design.specs.Assign.{has_label, count_of}
use Rattle.el_design.specs.Stack.{Work, Do, below_mark}
use Rattle.el_design.specs.Names.{is_constant}
use Rattle.el_design.specs.Purity.{contains_number}
use Rattle.el_design.specs.InPlace.{InPlace}
use Rattle.el_design.specs.Turns.{fixed, holds, HasBound, HasTurns, IsEndlessFor}
use Rattle.el_design.specs.Walk.{is_constant_case, Walks, HasWalk}

-- past its end, or by a `disable` of a mark that is open round it
pub data Exit : Type 0 where
  Past : Exit
  Away : ℕ → Exit

-- the exits that a statement has
abbrev pub Exits : Type 0
Exits = Exit → Bool

abbrev pub no_exit : Exits
no_exit e = false

abbrev pub past_alone : Exits
past_alone Past = true
past_alone (Away m) = false

-- one after another
abbrev pub after : Exits → Exits → Exits
after a b Past = a Past && b Past
after a b (Away m) = a (Away m) || (a Past && b (Away m))

-- a block or task with this mark
abbrev pub inside : ℕ → Exits → Exits
inside m a Past = a Past || a (Away m)
inside m a (Away n) = not (m == n) && a (Away n)

-- the one where p, and the other where q
abbrev pub choosing : Bool → Exits → Bool → Exits → Exits
choosing p a q b e = (p && a e) || (q && b e)

-- a loop: it may take no turn; it ends when turns are over; it may take a turn
abbrev pub looping : Bool → Bool → Bool → Exits → Exits
looping none ends some a Past = none || (ends && a Past)
looping none ends some a (Away m) = some && a (Away m)

-- a `disable` of an open mark leaves there, and any other does nothing
abbrev pub stopping : Bool → ℕ → Exits
stopping here m Past = not here
stopping here m (Away n) = (m == n) && here

-- a test may go this way
abbrev pub may_hold : Flat → Expr → Bool
may_hold d test = not (is_constant test) || holds d test

abbrev pub may_fail : Flat → Expr → Bool
may_fail d test = not (is_constant test && holds d test)

-- ---- loops

-- what is told of a `for`
pub data Told : Type 0 where
  NotCounted : Told
  Finite : ℕ → Told
  Endless : Told

abbrev pub is_zero : ℕ → Bool
is_zero zero = true
is_zero (suc n) = false

-- so many turns
abbrev pub turns_of : ℕ → Exits → Exits
turns_of n a = looping (is_zero n) true (not (is_zero n)) a

-- one turn after another, for ever
abbrev pub endless_of : Exits → Exits
endless_of a = looping false false true a

abbrev pub for_exits : Told → Bool → Bool → Exits → Exits
for_exits NotCounted hold fail a = looping fail false hold a
for_exits (Finite n) hold fail a = turns_of n a
for_exits Endless hold fail a = endless_of a

-- a `repeat` of a constant, and one of which no text tells the count
abbrev pub repeat_exits : Bool → ℕ → Exits → Exits
repeat_exits true n a = turns_of n a
repeat_exits false n a = looping true false true a

-- ---- the arms of a `case`

-- they stand alone, or are those of a `case` that isn't constant, or of one that is
pub data Arms : Type 0 where
  Alone : Arms
  Any : Arms
  Fixed : Arms

abbrev pub takes : Arms → Bool → Bool
takes Alone label = false
takes Any label = true
takes Fixed label = label

abbrev pub skips : Arms → Bool → Bool
skips Alone label = false
skips Any label = true
skips Fixed label = not label

abbrev pub arms_of : Bool → Arms
arms_of true = Fixed
arms_of false = Any

-- ---- statements

-- the exits of a task's body, by the task's number and the marks that are open round the enable
abbrev pub TaskExits : Type 0
TaskExits = ℕ → List ℕ → Exits

abbrev pub enable_exits : Option FlatTask → Exits → Exits
enable_exits None a = no_exit
enable_exits (Some t) a = inside t.mark a

-- with these marks open round it
abbrev pub exits : Flat → (Statement → Told) → TaskExits → Arms → List ℕ → Statement → Exits
exits d told tasks arms marks Null = past_alone
exits d told tasks arms marks Skip = past_alone
exits d told tasks arms marks (Seq a b) = after (exits d told tasks Alone marks a) (exits d told tasks Alone marks b)
exits d told tasks arms marks (Block at None body) = exits d told tasks Alone marks body
exits d told tasks arms marks (Block at (Some m) body) = inside m (exits d told tasks Alone (m ∷ marks) body)
exits d told tasks arms marks (Assign at to e held) = past_alone
exits d told tasks arms marks (If at test a b) = choosing (may_hold d test) (exits d told tasks Alone marks a) (may_fail d test) (exits d told tasks Alone marks b)
exits d told tasks arms marks (Case at on others) = exits d told tasks (arms_of (is_constant_case on others)) marks others
exits d told tasks arms marks (Arm on labels body others) =
    choosing (takes arms (has_label d (fixed d) on labels)) (exits d told tasks Alone marks body) (skips arms (has_label d (fixed d) on labels)) (exits d told tasks arms marks others)
exits d told tasks arms marks (For at v first test next body) =
    for_exits (told (For at v first test next body)) (may_hold d test) (may_fail d test) (exits d told tasks Alone marks body)
exits d told tasks arms marks (While at test body) = looping (may_fail d test) false (may_hold d test) (exits d told tasks Alone marks body)
exits d told tasks arms marks (Repeat at count body) = repeat_exits (is_constant count) (count_of d (fixed d) count) (exits d told tasks Alone marks body)
exits d told tasks arms marks (Forever at body) = endless_of (exits d told tasks Alone marks body)
exits d told tasks arms marks (Wait at falling) = no_exit
exits d told tasks arms marks (Enable at t ins outs) = enable_exits (slice_get d.tasks t) (tasks t marks)
exits d told tasks arms marks (Disable at m) = stopping (contains_number marks m) m
exits d told tasks arms marks (Host at f ins result outs) = past_alone

-- ---- what is given is right

-- what is told of a `for` is so
abbrev pub Says : Flat → Statement → Told → Type 0
Says d s NotCounted = HasBound d s → ⊥
Says d s (Finite n) = HasTurns d s n
Says d s Endless = IsEndlessFor d s

-- it is told rightly of each `for` that stands in place in a statement
abbrev pub TellsRightly : Flat → (Statement → Told) → Statement → Type 0
TellsRightly d told s = (at : Place) (v : ℕ) (first test next : Expr) (body : Statement) → InPlace d.tasks (For at v first test next body) s → Says d (For at v first test next body) (told (For at v first test next body))

-- of each task the exits of its body
abbrev pub AreOfTasks : Flat → (Statement → Told) → TaskExits → Type 0
AreOfTasks d told tasks = (t : ℕ) (task : FlatTask) (marks : List ℕ) → slice_get d.tasks t ≡ Some task → tasks t marks ≡ exits d told tasks Alone (task.mark ∷ marks) task.body

-- ---- in place, with the bodies of tasks

abbrev pub body_exits : Flat → (Statement → Told) → TaskExits → List ℕ → Option FlatTask → Exits
body_exits d told tasks marks None = no_exit
body_exits d told tasks marks (Some t) = exits d told tasks Alone (t.mark ∷ marks) t.body

-- where enables nest so deep at most
abbrev pub exits_to : Flat → (Statement → Told) → ℕ → TaskExits
exits_to d told zero t marks = no_exit
exits_to d told (suc n) t marks = body_exits d told (exits_to d told n) marks (slice_get d.tasks t)

-- In a design in which no task leads back to itself, no chain of enables is longer than there are tasks.
abbrev pub exits_in_place : Flat → (Statement → Told) → TaskExits
exits_in_place d told = exits_to d told (length d.tasks)

-- ---- walks

-- a walk from the start of a statement to a `disable` of a mark that is open round it, and not within
pub record WalksAway (d : Flat) (marks : List ℕ) (s : Statement) (m : ℕ) : Type 0 where
  pub at : Place
  pub below : List Work
  pub walk : Walks d marks (Do s ∷ []) (Do (Disable at m) ∷ below)
  pub not_within : below_mark m below ≡ None
  pub open_round : Contains marks m

-- a statement has just those exits to which a walk without a clock wait leads
pub record ExitsAreWalks (d : Flat) (told : Statement → Told) (tasks : TaskExits) (marks : List ℕ) (s : Statement) : Type 0 where
  pub past : exits d told tasks Alone marks s Past ≡ true → HasWalk d marks s
  pub past_only : HasWalk d marks s → exits d told tasks Alone marks s Past ≡ true
  pub away : (m : ℕ) → exits d told tasks Alone marks s (Away m) ≡ true → WalksAway d marks s m
  pub away_only : (m : ℕ) → WalksAway d marks s m → exits d told tasks Alone marks s (Away m) ≡ true
