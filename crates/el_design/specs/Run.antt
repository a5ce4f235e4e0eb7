-- Edges, runs and traces. All of it is this project's own, but that any event may be the next (IEEE 1364-2005, 11.4.2).
use Rattle.std.specs.Prelude.{◌≡◌, ◌≢◌, ◌⊎◌, ℕ, zero, suc, ◌+◌, ◌*◌, ◌/◌, ◌%◌, ◌^◌, List, [], ◌∷◌, map, length, get_or, slice_get, Some, zip, All, unwrap_or, option_map}
use Rattle.xt_bits.specs.Word.{Word, word}
use Rattle.el_design.specs.declared.designs.Source.{Source}
use Rattle.el_design.specs.declared.designs.Source.TheVariants as sources
use Rattle.xt_bits.specs.Trace.{Seen, Rested, Starved, Trace}
use Rattle.el_design.specs.Ticks.{ticks_of}
use Rattle.el_design.specs.Plain.{FlatNet, FlatProc, Flat}
use Rattle.el_design.specs.Store.{Store, start_store, stored, width_of}
use Rattle.el_design.specs.Stack.{start_stack, wake}
use Rattle.el_design.specs.Act.{Process}
use Rattle.xt_bits.specs.Stimulus.{Reply, Stimulus, FitPins}
use Rattle.el_design.specs.Queue.{Config, scene_of, net_aim, Event, take, ready, IsStarved, IsAtRest}

abbrev pub net_width : Flat → ℕ → ℕ
net_width d n = unwrap_or (option_map (λ x. x.width) (slice_get d.nets n)) 0

-- one value for each input pin, which fits it
abbrev pub IsRow : Flat → List Word → Type 0
IsRow d row = FitPins (map (net_width d) d.inputs) row

pub record IsStimulus (d : Flat) (x : Stimulus) : Type 0 where
  pub some_row : x.rows ≢ []
  pub rows : All (IsRow d) x.rows
  pub replies : length x.replies ≡ length d.procs

-- the nets are settled: each has its value
pub record IsSettled (d : Flat) (row : List Word) (store : Store) (nets : List Word) : Type 0 where
  pub size : length nets ≡ length d.nets
  pub each : (n : ℕ) (net : FlatNet) → slice_get d.nets n ≡ Some net → slice_get nets n ≡ Some (net_aim d row (scene_of d store nets) n net)

abbrev pub started : FlatProc × List Reply → Process
started x = record { stack = start_stack x.0; updates = []; replies = x.1; calls = []; delays = [] }

-- how edge 0 begins: variables at their start values, every process at its beginning, the nets settled
pub record Starts (d : Flat) (x : Stimulus) (pins : List Word) (c : Config) : Type 0 where
  pub edge : c.edge ≡ 0
  pub row : c.row ≡ pins
  pub store : c.store ≡ start_store d
  pub procs : c.procs ≡ map started (zip d.procs x.replies)
  pub nets : IsSettled d c.row c.store c.nets

abbrev pub woken : Process → Process
woken p = record p { stack = wake p.stack; calls = []; delays = [] }

-- how the next edge begins where the last one came to rest: the next row, no calls, each waiting process past its wait, the nets settled
pub record Continues (d : Flat) (last : Config) (pins : List Word) (c : Config) : Type 0 where
  pub edge : c.edge ≡ suc last.edge
  pub row : c.row ≡ pins
  pub store : c.store ≡ last.store
  pub procs : c.procs ≡ map woken last.procs
  pub nets : IsSettled d c.row c.store c.nets

-- The events, one by one, lead from a state to another. The first is the k-th of the run, and each is one that the chooser C lets pass at its number
-- among those that may be taken.
abbrev pub Takes : Flat → (ℕ → List Event → Event → Type 0) → ℕ → Config → List Event → Config → Type 0
Takes d C k c [] end = c ≡ end
Takes d C k c (e ∷ es) end = C k (ready d c) e × ((mid : Config) × (take d c e ≡ Some mid) × Takes d C (suc k) mid es end)

-- an output pin shows a variable or a net
abbrev pub source_value : Config → Flat → Source → Word
source_value c d (sources.Var v) = stored c.store v 0 (width_of d v)
source_value c d (sources.Net n) = get_or c.nets n (word (net_width d n) 0)

abbrev pub pins_of : Flat → Config → List Word
pins_of d c = map (λ pin. source_value c d pin.from) d.outputs

-- what is seen of an edge that came to rest, and of one that starved
abbrev pub rest_seen : Flat → Config → Seen
rest_seen d c = record { calls = map (λ p. p.calls) c.procs; ending = Rested (ticks_of (map (λ p. p.delays) c.procs)) (pins_of d c) }

abbrev pub starved_seen : Config → Seen
starved_seen c = record { calls = map (λ p. p.calls) c.procs; ending = Starved }

-- The rows that follow an edge that ended in `last`, after k events of the run: `plays` has each further edge's events in order.
-- A starved edge is the last one.
abbrev pub Goes : Flat → (ℕ → List Event → Event → Type 0) → ℕ → Config → List (List Word) → List (List Event) → Trace → Type 0
Goes d C k last rows [] trace = (IsStarved d last × (trace ≡ starved_seen last ∷ [])) ⊎ (IsAtRest d last × (rows ≡ []) × (trace ≡ rest_seen d last ∷ []))
Goes d C k last rows (es ∷ plays) trace =
    IsAtRest d last
    × ((row : List Word) × (more : List (List Word)) × (begin : Config) × (end : Config) × (later : Trace)
    × (rows ≡ row ∷ more) × (trace ≡ rest_seen d last ∷ later)
    × Continues d last row begin × Takes d C k begin es end × Goes d C (k + length es) end more plays later)

-- a run of a design under a chooser: the first row's edge, by the first of `plays`, and then the others; and its trace
abbrev pub RunsBy : Flat → (ℕ → List Event → Event → Type 0) → Stimulus → List (List Event) → Trace → Type 0
RunsBy d C x [] trace = ⊥
RunsBy d C x (es ∷ plays) trace =
    (row : List Word) × (more : List (List Word)) × (begin : Config) × (end : Config)
    × (x.rows ≡ row ∷ more) × Starts d x row begin × Takes d C 0 begin es end × Goes d C (length es) end more plays trace

-- ---- choosers

-- any event that may be taken (IEEE 1364-2005, 11.4.2: the order is arbitrary)
abbrev pub Any : ℕ → List Event → Event → Type 0
Any k es e = Unit {0}

-- the first one: processes by number, then nets, then updates
abbrev pub First : ℕ → List Event → Event → Type 0
First k es e = slice_get es 0 ≡ Some e

-- the number that the pick has come to after so many events; this formula is this project's own
abbrev pub pick_after : ℕ → ℕ → ℕ
pick_after pick zero = pick
pick_after pick (suc k) = (pick_after pick k * 6364136223846793005 + 1442695040888963407) % 2 ^ 64

-- the one at the place that the pick gives
abbrev pub Picked : ℕ → ℕ → List Event → Event → Type 0
Picked pick k es e = slice_get es ((pick_after pick (suc k) / 2 ^ 33) % length es) ≡ Some e

-- every run that the event queue may take
abbrev pub Runs : Flat → Stimulus → List (List Event) → Trace → Type 0
Runs d x plays trace = RunsBy d Any x plays trace
