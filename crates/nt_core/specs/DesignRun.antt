-- The run of a written design by its driver, and its trace. All of it is this project's own.
use Rattle.std.specs.Prelude.{◌≡◌, ℕ, zero, suc, ◌+◌, List, [], ◌∷◌, map, Option, Some, None, option_map, option_and_then, if◌then◌else◌}
use Rattle.xt_bits.specs.Word.{Word}
use Rattle.nt_core.specs.Parts.{Parts}
use Rattle.nt_core.specs.Sources.{State}
use Rattle.nt_core.specs.Tick.{start, settled, tick_values, next}
use Rattle.nt_core.specs.Ports.{edge_up, outputs}
use Rattle.nt_core.specs.Driver.{Agent, Free, listen, halt, driven, pass}
use Rattle.xt_bits.specs.Stimulus.{Reply, Stimulus}
use Rattle.xt_bits.specs.Trace.{Ending, Rested, Starved, Stalled, Seen, Trace}

-- a design in its run: what it holds, and its processes as the host sees them
pub record Run : Type 0 where
  pub state : State
  pub agents : List Agent

-- a process at first has all its replies before it
abbrev pub agent_start : List Reply → Agent
agent_start replies = record { standing = Free; left = replies; calls = [] }

-- a run at first: the design at its start, and each process with its replies before it
abbrev pub run_start : Parts → Stimulus → Run
run_start n stimulus = record { state = start n; agents = map agent_start stimulus.replies }

-- a run before a tick, its new requests recorded
abbrev pub heard : Parts → List Word → Run → Run
heard n row r = record r { agents = listen n (settled n row r.state) r.agents }

-- the values of the nodes in the tick that follows
abbrev pub in_tick : Parts → List Word → Run → List Word
in_tick n row r = tick_values n (driven row r.agents) r.state

-- a run after that tick
abbrev pub ticked : Parts → List Word → Run → Run
ticked n row r = record { state = next n (in_tick n row r) r.state; agents = map pass r.agents }

-- an edge that has come to its end, and the run there
pub record Ended : Type 0 where
  pub ending : Ending
  pub run : Run

-- the edge has ended at rest: the pins are those of a settling with the same row
abbrev pub at_rest : Parts → List Word → ℕ → Run → Ended
at_rest n row ticks r = record { ending = Rested ticks (outputs n (settled n row r.state)); run = r }

-- one tick, and what follows it where the edge isn't ended by it
abbrev pub tick_on : (ℕ → Run → Option Ended) → Parts → List Word → ℕ → Run → Option Ended
tick_on go n row ticks r =
    if edge_up n (in_tick n row r) then Some (at_rest n row (ticks + 1) (ticked n row r)) else go (ticks + 1) (ticked n row r)

-- what goes on where nothing halts it, else the end of the edge
abbrev pub halt_or : Option Ending → Run → Option Ended → Option Ended
halt_or None r on = on
halt_or (Some ending) r on = Some (record { ending = ending; run = r })

-- before a tick, where so many were made in the edge: its first tick is always made, and each other one where nothing halts it
abbrev pub step_on : (ℕ → Run → Option Ended) → Parts → List Word → ℕ → Run → Option Ended
step_on go n row zero r = tick_on go n row zero r
step_on go n row (suc ticks) r = halt_or (halt r.agents) r (tick_on go n row (suc ticks) r)

-- the end of an edge in which so many ticks were made, where it comes within so many steps more: a tick is one, and so is the look at which nothing goes on
abbrev pub edge_within : ℕ → Parts → List Word → ℕ → Run → Option Ended
edge_within zero n row ticks r = None
edge_within (suc more) n row ticks r = step_on (edge_within more n row) n row ticks (heard n row r)

-- what an edge shows
abbrev pub shown : Ended → Seen
shown e = record { calls = map (λ a. a.calls) e.run.agents; ending = e.ending }

-- an edge begins: no calls yet
abbrev pub without_calls : Agent → Agent
without_calls a = record a { calls = [] }

-- and so for all processes
abbrev pub edge_start : Run → Run
edge_start r = record r { agents = map without_calls r.agents }

-- what follows an edge: nothing where it starved or stalled
abbrev pub after : (Run → Option Trace) → Ended → Ending → Option Trace
after go e (Rested ticks pins) = option_map (λ t. shown e ∷ t) (go e.run)
after go e Starved = Some (shown e ∷ [])
after go e Stalled = Some (shown e ∷ [])

-- the trace over these rows, where each edge ends within so many steps
abbrev pub trace_within : ℕ → Parts → List (List Word) → Run → Option Trace
trace_within most n [] r = Some []
trace_within most n (row ∷ rows) r = option_and_then (λ e. after (trace_within most n rows) e e.ending) (edge_within most n row 0 (edge_start r))

-- the trace of a written design for a stimulus
abbrev pub IsDesignTrace : Parts → Stimulus → Trace → Type 0
IsDesignTrace n stimulus t = (most : ℕ) × (trace_within most n stimulus.rows (run_start n stimulus) ≡ Some t)
