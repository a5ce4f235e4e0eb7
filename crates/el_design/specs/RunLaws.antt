-- Laws of runs: choosers and their runs, nets settle, and an event leaves as it was what isn't its process's own. All of it is this project's own.
use Rattle.std.specs.Prelude.{◌≡◌, ◌≢◌, ◌%◌, ℕ, Bool, true, false, List, [], ◌∷◌, Some, Contains, get_or, slice_get, length}
use Rattle.std.specs.List.{list_all}
use Rattle.xt_bits.specs.Word.{Word}
use Rattle.xt_bits.specs.Stimulus.{Stimulus}
use Rattle.xt_bits.specs.Trace.{Trace}
use Rattle.el_design.specs.Plain.{Flat}
use Rattle.el_design.specs.Store.{Store}
use Rattle.el_design.specs.Queue.{Config, Event, Run, Follow, Update, take}
use Rattle.el_design.specs.Run.{IsSettled, Takes, Any, First, Picked, RunsBy, Runs}
use Rattle.el_design.specs.Fits.{FitsConfig}
use Rattle.el_design.specs.Touches.{WritesBlocking, WritesNonblocking}
use Rattle.el_design.specs.Laws.{EdgeBegins}

-- under a chooser a stimulus has just one run: its events edge by edge, and its trace
abbrev pub HasOneRun : Flat → (ℕ → List Event → Event → Type 0) → Stimulus → Type 0
HasOneRun d C x =
    (plays : List (List Event)) × (trace : Trace) × RunsBy d C x plays trace
    × ((others : List (List Event)) (other : Trace) → RunsBy d C x others other → (others ≡ plays) × (other ≡ trace))

-- The choosers of which the laws speak: any event; the first; the one at a pick's place; the one at the place, modulo how many they are, that a function
-- gives of the event's number in the run and of the events that may be taken; each that passes a test.
pub data Chooser : Type 0 where
  TakesAny : Chooser
  TakesFirst : Chooser
  TakesPicked : ℕ → Chooser
  TakesAt : (ℕ → List Event → ℕ) → Chooser
  TakesTested : (ℕ → List Event → Event → Bool) → Chooser

-- what a chooser lets pass
abbrev pub passed_by : Chooser → ℕ → List Event → Event → Type 0
passed_by TakesAny = Any
passed_by TakesFirst = First
passed_by (TakesPicked pick) = Picked pick
passed_by (TakesAt place) = λ k es e. slice_get es (place k es % length es) ≡ Some e
passed_by (TakesTested test) = λ k es e. test k es e ≡ true

-- it passes just one event of each list that has some
abbrev pub PassesOne : Chooser → Type 0
PassesOne c =
    (k : ℕ) (e : Event) (es : List Event) →
    (chosen : Event) × Contains (e ∷ es) chosen × passed_by c k (e ∷ es) chosen × ((other : Event) → passed_by c k (e ∷ es) other → other ≡ chosen)

-- what runs under a chooser is a run
abbrev pub RunsAmongAll : Flat → Chooser → Type 0
RunsAmongAll d c = (x : Stimulus) (plays : List (List Event)) (trace : Trace) → RunsBy d (passed_by c) x plays trace → Runs d x plays trace

-- a run under one chooser and a run under another, of one stimulus, have one trace
abbrev pub HaveOneTrace : Flat → Chooser → Chooser → Type 0
HaveOneTrace d a b =
    (x : Stimulus) (plays others : List (List Event)) (trace other : Trace) →
    RunsBy d (passed_by a) x plays trace → RunsBy d (passed_by b) x others other → trace ≡ other

-- ---- nets

-- of each row and store there are settled nets
abbrev pub NetsSettle : Flat → Type 0
NetsSettle d = (row : List Word) (store : Store) → (nets : List Word) × IsSettled d row store nets

-- and they are one
abbrev pub SettledNetsAreOne : Flat → Type 0
SettledNetsAreOne d = (row : List Word) (store : Store) (a b : List Word) → IsSettled d row store a → IsSettled d row store b → a ≡ b

abbrev pub is_net_event : Event → Bool
is_net_event (Run i) = false
is_net_event (Follow n) = true
is_net_event (Update i) = false

-- Where nets had settled and variables have changed since, events of nets alone lead to settled nets, and change nothing else.
abbrev pub NetEventsSettle : Flat → Type 0
NetEventsSettle d =
    (k : ℕ) (c : Config) (before : Store) → IsSettled d c.row before c.nets →
    (es : List Event) × (nets : List Word) × (list_all is_net_event es ≡ true) × Takes d Any k c es (record c { nets = nets }) × IsSettled d c.row c.store nets

-- So they do from each state that fits the design, in the middle of an edge too.
abbrev pub FittingNetsSettle : Flat → Type 0
FittingNetsSettle d =
    (k : ℕ) (c : Config) → FitsConfig d c →
    (es : List Event) × (nets : List Word) × (list_all is_net_event es ≡ true) × Takes d Any k c es (record c { nets = nets }) × IsSettled d c.row c.store nets

-- ---- what an event leaves as it was

-- each variable that isn't of these
abbrev pub KeepsVariables : (ℕ → Type 0) → Config → Config → Type 0
KeepsVariables Writes c t = (v : ℕ) → (Writes v → ⊥) → get_or t.store v [] ≡ get_or c.store v []

-- each process but one
abbrev pub KeepsOthers : ℕ → Config → Config → Type 0
KeepsOthers i c t = (j : ℕ) → j ≢ i → slice_get t.procs j ≡ slice_get c.procs j

-- the edge's number, the row and the nets
abbrev pub KeepsNets : Config → Config → Type 0
KeepsNets c t = (t.edge ≡ c.edge) × (t.row ≡ c.row) × (t.nets ≡ c.nets)

-- An event of a process changes the process and the variables that it writes by blocking alone; an update those that it writes by nonblocking;
-- an event of a net that net alone.
abbrev pub Keeps : Flat → Event → Config → Config → Type 0
Keeps d (Run i) c t = KeepsNets c t × KeepsOthers i c t × KeepsVariables (WritesBlocking d i) c t
Keeps d (Update i) c t = KeepsNets c t × KeepsOthers i c t × KeepsVariables (WritesNonblocking d i) c t
Keeps d (Follow n) c t = (nets : List Word) × (t ≡ record c { nets = nets }) × ((m : ℕ) → m ≢ n → slice_get nets m ≡ slice_get c.nets m)

-- so does each event of each run
abbrev pub EventsKeep : Flat → Type 0
EventsKeep d =
    (x : Stimulus) (rows : List (List Word)) (begin c t : Config) (es : List Event) (e : Event) →
    EdgeBegins d x rows begin → Takes d Any 0 begin es c → take d c e ≡ Some t → Keeps d e c t
