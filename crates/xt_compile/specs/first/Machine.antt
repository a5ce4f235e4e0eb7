-- One process of waits and nonblocking assignments in big steps, from one wait to the next. All of it is this project's own; what its single events do stands in el_design.
use Rattle.std.specs.Prelude.{◌≡◌, ℕ, Bool, true, false, if◌then◌else◌, List, [], ◌∷◌, ◌++◌, map, fold, Option, Some, None, unwrap_or}
use Rattle.std.specs.List.{enumerate_from}
use Rattle.xt_base.specs.declared.refusals.Place.{Place}
use Rattle.xt_bits.specs.Word.{Word}
use Rattle.xt_bits.specs.Trace.{Seen, Rested, Trace}
use Rattle.el_design.specs.Plain.{Statement, Block, Wait, Assign, Flat}
use Rattle.el_design.specs.Store.{Store, Write, put_all, start_store}
use Rattle.el_design.specs.Value.{Scene, value}
use Rattle.el_design.specs.Assign.{writes_of}
use Rattle.el_design.specs.Queue.{Config, scene_of, pin_value}
use Rattle.el_design.specs.Run.{source_value}
use Rattle.el_design.specs.View.{statement_of, seq_of}
use Rattle.el_design.specs.declared.statements.Stmt.{Stmt}

-- the design has one process, an `always` of these statements
pub record HasBody (d : Flat) (body : List Statement) : Type 0 where
  pub at : Place
  pub place : Place
  pub is : d.procs ≡ record { always = true; body = Block at None (seq_of body); place = place } ∷ []

-- a list of statements as plain data
abbrev pub statements_of : List Stmt → List Statement
statements_of = map statement_of

-- ---- from wait to wait

abbrev pub is_wait : Statement → Bool
is_wait (Wait at falling) = true
is_wait s = false

-- the statements before the first wait
abbrev pub before : List Statement → List Statement
before [] = []
before (s ∷ ss) = if is_wait s then [] else s ∷ before ss

-- what stands behind the first wait, if there is one
abbrev pub behind : List Statement → Option (List Statement)
behind [] = None
behind (s ∷ ss) = if is_wait s then Some ss else behind ss

-- what a process comes to up to its next wait, where `rest` is left of its body: behind the body's end it begins again
abbrev pub from_start : List Statement → Option (List Statement) → List Statement
from_start body None = before body
from_start body (Some rest) = []

abbrev pub stretch : List Statement → List Statement → List Statement
stretch body rest = before rest ++ from_start body (behind rest)

-- and what is left of its body behind that wait
abbrev pub onward : List Statement → List Statement → List Statement
onward body rest = unwrap_or (behind rest) (unwrap_or (behind body) [])

-- ---- edges

-- what an assignment writes
abbrev pub update : Flat → Scene → Statement → List Write
update d s (Assign at to e held) = writes_of d s to (value d s e)
update d s other = []

-- the store after the updates of these statements, all of which are evaluated before the first of them is written
abbrev pub updated : Flat → List Word → Store → List Statement → Store
updated d nets store ss = fold put_all store (map (update d (scene_of d store nets)) ss)

-- a process between two edges: the store, and what is left of its body
pub record Point : Type 0 where
  pub store : Store
  pub rest : List Statement

abbrev pub start_point : Flat → List Statement → Point
start_point d body = record { store = start_store d; rest = body }

abbrev pub edge : Flat → List Statement → List Word → Point → Point
edge d body nets p = record { store = updated d nets p.store (stretch body p.rest); rest = onward body p.rest }

-- ---- what is seen

-- the values of the pins of nets of these widths, from net 0 on
abbrev pub read_pins : Flat → List ℕ → List Word → List Word
read_pins d ws row = map (λ x. pin_value d row x.0 x.1) (enumerate_from 0 ws)

-- the nets: each has its pin's value
abbrev pub nets_of : Flat → List Word → List Word
nets_of d row = read_pins d (map (λ n. n.width) d.nets) row

-- a state of the queue between two edges
abbrev pub between : List Word → Store → List Word → Config
between row store nets = record { edge = 0; row = row; store = store; nets = nets; procs = [] }

abbrev pub pins_seen : Flat → List Word → Store → List Word
pins_seen d row store = map (λ p. source_value (between row store (nets_of d row)) d p.from) d.outputs

-- an edge takes one tick, and the process calls nothing
abbrev pub seen : Flat → List Word → Point → Seen
seen d row p = record { calls = [] ∷ []; ending = Rested 1 (pins_seen d row p.store) }

abbrev pub trace_of : Flat → List Statement → List (List Word) → Point → Trace
trace_of d body [] p = []
trace_of d body (row ∷ rows) p = seen d row (edge d body (nets_of d row) p) ∷ trace_of d body rows (edge d body (nets_of d row) p)
