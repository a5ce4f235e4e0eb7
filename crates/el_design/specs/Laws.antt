-- Laws that say the definitions again in the words of the rules of execution. All of it is this project's own.
use Rattle.std.specs.Prelude.{◌≡◌, ◌⊎◌, ◌≤◌, ◌==◌, ℕ, zero, suc, Bool, true, false, not, ◌&&◌, if◌then◌else◌, List, [], ◌∷◌, ◌++◌, map, length, slice_get, Some, is_some}
use Rattle.std.specs.List.{list_any}
use Rattle.xt_bits.specs.Word.{Word}
use Rattle.xt_bits.specs.Stimulus.{Stimulus}
use Rattle.xt_bits.specs.Trace.{Trace}
use Rattle.el_design.specs.Plain.{Expr, Statement, Null, Skip, Seq, Block, Arm, Forever, FlatProc, Flat}
use Rattle.el_design.specs.Store.{Store}
use Rattle.el_design.specs.Value.{Scene, value}
use Rattle.el_design.specs.Function.{body_store}
use Rattle.el_design.specs.Sound.{width}
use Rattle.el_design.specs.Heights.{stack_height}
use Rattle.el_design.specs.Fits.{IsWordOf, FitsStore, FitsScene, IsWellMade, IsSoundText, FitsConfig}
use Rattle.el_design.specs.Stack.{Work, Do, quiet_step, IsStill, settle, is_waiting, is_ended}
use Rattle.el_design.specs.Act.{Process, act}
pub use Rattle.el_design.specs.Queue.{is_empty}
use Rattle.el_design.specs.Queue.{Config, has_value, is_stuck, can_run, Event, Run, Follow, Update, take, told, ready, IsStarved, IsAtRest}
use Rattle.el_design.specs.Run.{IsRow, IsStimulus, Starts, Continues, Takes, Any, Runs}
use Rattle.el_design.specs.Sizes.{CountsTurns, CountsStops, u_of, s_of, nets_size}
use Rattle.el_design.specs.Rules.{most_turns}

-- so many steps that are no events lead from a stack to another
abbrev pub QuietSteps : ℕ → List Work → List Work → Type 0
QuietSteps zero k end = k ≡ end
QuietSteps (suc n) k end = (mid : List Work) × (quiet_step k ≡ Some mid) × QuietSteps n mid end

-- a statement that is dropped by such steps alone
abbrev pub is_nothing : Statement → Bool
is_nothing Null = true
is_nothing Skip = true
is_nothing (Seq a b) = is_nothing a && is_nothing b
is_nothing (Block at mark body) = is_nothing body
is_nothing s = false

-- on top is a `forever` around such a statement, whose steps never end
abbrev pub is_spinning : List Work → Bool
is_spinning (Do (Forever at body) ∷ k) = is_nothing body
is_spinning k = false

-- Steps that are no events lead from each stack to the one that `settle` gives; it is still, or has a `forever` of nothing on top; and no such step changes what `settle` gives.
abbrev pub StacksSettle : List Work → Type 0
StacksSettle k =
    ((n : ℕ) × QuietSteps n k (settle k))
    × (IsStill (settle k) ⊎ (is_spinning (settle k) ≡ true))
    × ((next : List Work) → quiet_step k ≡ Some next → settle next ≡ settle k)

-- arms stand inside a `case` alone
abbrev pub has_arm : List Work → Bool
has_arm (Do (Arm on labels body others) ∷ k) = true
has_arm k = false

-- A process has an event, in each scene, exactly where `can_run` holds of it; where its stack is still, with no arm on top, that is
-- where it is neither waiting, nor ended, nor at a call for which no reply is left.
abbrev pub ProcessesRun : Flat → Scene → Process → Type 0
ProcessesRun d s p =
    (is_some (act d s p) ≡ can_run p)
    × (IsStill p.stack → has_arm p.stack ≡ false → can_run p ≡ (not (is_waiting p.stack) && not (is_ended p.stack) && not (is_stuck p)))

-- the places, from n on, at which the test holds
abbrev pub places_from : {X : Type 0} → ℕ → (ℕ → X → Bool) → List X → List ℕ
places_from n test [] = []
places_from n test (x ∷ xs) = if test n x then n ∷ places_from (suc n) test xs else places_from (suc n) test xs

abbrev pub has_updates : Process → Bool
has_updates p = elim p.updates [ [] ↦ false | ws ∷ more ↦ true ]

-- Each process, by number, that has an event; each net, by number, whose value differs from the one that it takes; and where there is none of these,
-- and no process is at a call for which no reply is left, the oldest update of each process, by number, that has one.
abbrev pub listed : Flat → Config → List Event
listed d c =
    let runs = map Run (places_from 0 (λ i p. can_run p) c.procs) in
    let follows = map Follow (places_from 0 (λ n net. not (has_value d c n net)) d.nets) in
    let updates = map Update (places_from 0 (λ i p. has_updates p) c.procs) in
    runs ++ follows ++ (if is_empty runs && is_empty follows && not (list_any is_stuck c.procs) then updates else [])

abbrev pub EventsAreListed : Flat → Config → Type 0
EventsAreListed d c = ready d c ≡ listed d c

-- Each event that may be taken tells something, and one of a process tells something exactly where it may be taken.
abbrev pub EventsTell : Flat → Config → Type 0
EventsTell d c =
    ((e : Event) → is_some (take d c e) ≡ true → is_some (told d c e) ≡ true)
    × ((i : ℕ) → is_some (told d c (Run i)) ≡ is_some (take d c (Run i)))

-- ---- edges of runs

-- an edge of a run begins in a state, with these rows left after its own
pub data EdgeBegins (d : Flat) (x : Stimulus) : List (List Word) → Config → Type 0 where
  first_edge : {row : List Word} {more : List (List Word)} {begin : Config} → x.rows ≡ row ∷ more → Starts d x row begin → EdgeBegins d x more begin
  next_edge : {row : List Word} {more : List (List Word)} {begin end next : Config} (es : List Event) →
      EdgeBegins d x (row ∷ more) begin → Takes d Any 0 begin es end → IsAtRest d end → Continues d end row next → EdgeBegins d x more next

-- an edge that is over
abbrev pub IsOver : Flat → Config → Type 0
IsOver d c = IsAtRest d c ⊎ IsStarved d c

-- In each edge of each run: no sequence of events is longer than some number; one that no event can follow came to rest or starved; and some do.
abbrev pub EveryEdgeEnds : Flat → Type 0
EveryEdgeEnds d =
    (x : Stimulus) (rows : List (List Word)) (begin : Config) → EdgeBegins d x rows begin →
    ((n : ℕ) × ((es : List Event) (end : Config) → Takes d Any 0 begin es end → length es ≤ n))
    × ((es : List Event) (end : Config) → Takes d Any 0 begin es end → ready d end ≡ [] → IsOver d end)
    × ((es : List Event) × (end : Config) × Takes d Any 0 begin es end × IsOver d end)

-- how many events of a process are among these; its updates are events of their own
abbrev pub is_event_of : ℕ → Event → Bool
is_event_of p (Run i) = i == p
is_event_of p (Follow n) = false
is_event_of p (Update i) = false

abbrev pub events_of : ℕ → List Event → ℕ
events_of p [] = 0
events_of p (e ∷ es) = if is_event_of p e then suc (events_of p es) else events_of p es

-- in each edge of each run no process has more events than its U, each loop counting so many times
abbrev pub HasAtMostU : Flat → (List ℕ → Statement → ℕ) → Type 0
HasAtMostU d times =
    (x : Stimulus) (rows : List (List Word)) (begin end : Config) (es : List Event) → EdgeBegins d x rows begin → Takes d Any 0 begin es end →
    (p : ℕ) (process : FlatProc) → slice_get d.procs p ≡ Some process → events_of p es ≤ u_of d times process

-- an unrolled loop of T turns counts T + 1 times, and any other loop once
abbrev pub AtMostUEvents : Flat → Type 0
AtMostUEvents d = (times : List ℕ → Statement → ℕ) → CountsTurns d times → HasAtMostU d times

-- How often each loop counts where it stands is a number, in U and in S.
abbrev pub LoopsCount : Flat → Type 0
LoopsCount d = ((times : List ℕ → Statement → ℕ) × CountsTurns d times) × ((often : List ℕ → Statement → ℕ) × CountsStops d often)

-- Any two ways of counting the loops' turns that both count rightly give the same U of each process, the same S, and the same sum over nets of their expressions' sizes, functions in place.
abbrev pub SizesAreOne : Flat → Type 0
SizesAreOne d =
    ((a b : List ℕ → Statement → ℕ) → CountsTurns d a → CountsTurns d b → (p : ℕ) (process : FlatProc) → slice_get d.procs p ≡ Some process → u_of d a process ≡ u_of d b process)
    × ((a b : List ℕ → Statement → ℕ) → CountsStops d a → CountsStops d b → (p : ℕ) (process : FlatProc) → slice_get d.procs p ≡ Some process → s_of d a process ≡ s_of d b process)
    × ((a b : List ℕ → Statement → ℕ) → CountsTurns d a → CountsTurns d b → nets_size d a ≡ nets_size d b)

-- each loop counts as often as an unrolled one may
abbrev pub AtMostMaxEvents : Flat → Type 0
AtMostMaxEvents d = HasAtMostU d most_turns

-- whatever events are taken, two runs under one stimulus have one trace
abbrev pub EveryOrder : Flat → Type 0
EveryOrder d = (x : Stimulus) (plays others : List (List Event)) (trace other : Trace) → Runs d x plays trace → Runs d x others other → trace ≡ other

-- there is a run for each stimulus that fits
abbrev pub EveryStimulusRuns : Flat → Type 0
EveryStimulusRuns d = (x : Stimulus) → IsStimulus d x → (plays : List (List Event)) × ((trace : Trace) × Runs d x plays trace)

-- ---- what fits a sound design goes on to fit it

-- in what fits, each well made expression has a word of its node's width
abbrev pub ValuesFit : Flat → Type 0
ValuesFit d = (s : Scene) (e : Expr) → FitsScene d s → IsWellMade d e → IsWordOf (width e) (value d s e)

-- a sound statement of a function's body leaves a store that fits
abbrev pub BodiesFit : Flat → Type 0
BodiesFit d = (call : ℕ → List Word → Word) (s : Statement) (store : Store) → IsSoundText d s → FitsStore d store → FitsStore d (body_store d call s store)

-- the start edge begins in a state that fits
abbrev pub StartFits : Flat → Type 0
StartFits d = (x : Stimulus) (row : List Word) (c : Config) → IsStimulus d x → IsRow d row → Starts d x row c → FitsConfig d c

-- and so does a further edge, after one that ended so
abbrev pub NextEdgeFits : Flat → Type 0
NextEdgeFits d = (last : Config) (row : List Word) (c : Config) → FitsConfig d last → IsRow d row → Continues d last row c → FitsConfig d c

-- each event leads from a state that fits to one that does
abbrev pub EventsFit : Flat → Type 0
EventsFit d = (c : Config) (e : Event) (next : Config) → FitsConfig d c → take d c e ≡ Some next → FitsConfig d next

-- in each edge of each run no stack has more pieces of work than its process's statement in place may put on it
abbrev pub StacksStayLow : Flat → Type 0
StacksStayLow d =
    (x : Stimulus) (rows : List (List Word)) (begin end : Config) (es : List Event) → EdgeBegins d x rows begin → Takes d Any 0 begin es end →
    (i : ℕ) (process : FlatProc) (p : Process) → slice_get d.procs i ≡ Some process → slice_get end.procs i ≡ Some p → length p.stack ≤ stack_height d process
