-- What the meter is given over four edges, what is seen of it, and what its events tell. All of it is this project's own.
use Rattle.std.specs.Prelude.{◌≡◌, ℕ, List, [], ◌∷◌, ◌++◌, map, Option, Some, None}
use Rattle.xt_bits.specs.Word.{Word, word}
use Rattle.xt_bits.specs.Stimulus.{Stimulus}
use Rattle.xt_bits.specs.Trace.{Call, Called, Seen, Rested, Trace}
use Rattle.el_design.specs.Plain.{Flat}
use Rattle.el_design.specs.Act.{Ran, Asked, Replied}
use Rattle.el_design.specs.Laws.{EdgeBegins}
use Rattle.el_design.specs.Queue.{Config, Event, take, Telling, OfProcess, OfNet, OfUpdate, told, IsAtRest}
use Rattle.el_design.specs.Run.{Runs, Takes, First}

-- a run under a stimulus has a trace
abbrev pub HasTrace : Flat → Stimulus → Trace → Type 0
HasTrace d x trace = (plays : List (List Event)) × Runs d x plays trace

-- and each run under it has this trace
abbrev pub HasNoOther : Flat → Stimulus → Trace → Type 0
HasNoOther d x trace = (plays : List (List Event)) (other : Trace) → Runs d x plays other → other ≡ trace

abbrev pub byte : ℕ → Word
byte n = word 8 n

-- d is 0 at the start edge, then 255, 5 and 0. The first process is given one reply, which lets its call wait for two ticks: the result 9, and 3 for the output.
abbrev pub given : Stimulus
given = record {
  rows = (byte 0 ∷ []) ∷ (byte 255 ∷ []) ∷ (byte 5 ∷ []) ∷ (byte 0 ∷ []) ∷ [];
  replies = (record { wait = 2; items = 9 ∷ 3 ∷ [] } ∷ []) ∷ [] ∷ [];
}

-- an edge: the calls of the first process, the ticks, and the values of `q` and `peak`
abbrev pub edge : List Call → ℕ → ℕ → ℕ → Seen
edge calls ticks q peak = record { calls = calls ∷ [] ∷ []; ending = Rested ticks (byte q ∷ byte peak ∷ []) }

-- The start edge leaves the first process waiting in `until_up`. At the next, 255 makes it disable `txn` over both enables, and `peak` takes `next`, which is 1.
-- Then it takes 5, calls `ask(5, ..)`, adds 3 to each of `sums` and takes the larger of 9 and 3. At last `peak` takes the larger of 10, which is `next`, and 1.
abbrev pub seen : Trace
seen = edge [] 1 0 0 ∷ edge [] 1 0 1 ∷ edge (Called 0 (byte 5 ∷ []) ∷ []) 4 9 1 ∷ edge [] 1 9 10 ∷ []

-- ---- what events tell

-- what events tell, one after another, each in the state in which it is taken
abbrev pub tellings : Flat → Config → List Event → List (Option Telling)
tellings d c [] = []
tellings d c (e ∷ es) = told d c e ∷ elim (take d c e) [ None ↦ [] | Some next ↦ tellings d next es ]

-- The events of an edge of a run tell this, where the first that may be taken is taken each time; the edge begins with these rows left after its own.
abbrev pub EdgeTells : Flat → Stimulus → List (List Word) → List Telling → Type 0
EdgeTells d x rows telling =
    (begin : Config) × (es : List Event) × (end : Config) × EdgeBegins d x rows begin × Takes d First 0 begin es end × IsAtRest d end × (tellings d begin es ≡ map Some telling)

-- an event of the first process at a line, and of the second
abbrev pub first : ℕ → Telling
first line = OfProcess 0 Ran line

abbrev pub second : ℕ → Telling
second line = OfProcess 1 Ran line

-- the rows that are left after the start edge, and after each further one
abbrev pub after_start : List (List Word)
after_start = (byte 255 ∷ []) ∷ (byte 5 ∷ []) ∷ (byte 0 ∷ []) ∷ []

abbrev pub after_255 : List (List Word)
after_255 = (byte 5 ∷ []) ∷ (byte 0 ∷ []) ∷ []

abbrev pub after_5 : List (List Word)
after_5 = (byte 0 ∷ []) ∷ []

-- `fetch` is enabled, in it `until_up`, whose `while` holds and waits
abbrev pub start_tells : List Telling
start_tells = first 33 ∷ first 27 ∷ first 19 ∷ []

-- the `if` and the `disable`; and the update of `peak`
abbrev pub edge_255_tells : List Telling
edge_255_tells = first 21 ∷ first 22 ∷ second 43 ∷ OfUpdate 1 ∷ []

-- a turn of the `for`: its test, its body and its step
abbrev pub turn_tells : List Telling
turn_tells = first 35 ∷ first 36 ∷ first 35 ∷ []

-- Both enables, the `while` that fails, the return of `until_up`, the assignment in `fetch` and its return; the call, and its reply; the first assignment of the `for`,
-- four turns and the test that fails; the last assignment. Then `next` follows the update of `q`.
abbrev pub edge_5_tells : List Telling
edge_5_tells =
    first 33 ∷ first 27 ∷ first 19 ∷ first 27 ∷ first 28 ∷ first 33 ∷ OfProcess 0 Asked 34 ∷ OfProcess 0 Replied 34
    ∷ first 35 ∷ turn_tells ++ turn_tells ++ turn_tells ++ turn_tells ++ first 35 ∷ first 37
    ∷ second 43 ∷ OfUpdate 0 ∷ OfNet 2 ∷ OfUpdate 1 ∷ []

abbrev pub last_tells : List Telling
last_tells = first 33 ∷ first 27 ∷ first 19 ∷ second 43 ∷ OfUpdate 1 ∷ []
