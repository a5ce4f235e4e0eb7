-- A run of a design under a pick, computed from the definitions, and parts of small designs.
use Rattle.std.proofs.Common.{ℕ, zero, suc, ◌/◌, ◌%◌, ◌^◌, true, false, List, [], ◌∷◌, map, length, slice_get, zip, Option, Some, None}
use Rattle.std.specs.List.{list_any}
use Rattle.xt_base.specs.declared.refusals.Place.{Place}
use Rattle.xt_bits.specs.Word.{Word, word}
use Rattle.el_design.specs.declared.designs.Var.{Var}
use Rattle.el_design.specs.declared.designs.Pin.{Pin}
use Rattle.el_design.specs.declared.designs.Source.TheVariants as source
use Rattle.xt_bits.specs.Trace.{Trace}
use Rattle.el_design.specs.Plain.{Shape, Expr, Number, Exprs, NoExpr, More, ToVariable, Statement, Skip, Seq, Assign, Wait, FlatNet, FlatProc, Flat}
use Rattle.el_design.specs.Store.{Store, start_store}
use Rattle.xt_bits.specs.Stimulus.{Reply}
use Rattle.el_design.specs.Queue.{Config, scene_of, net_aim, Event, take, ready, is_stuck}
use Rattle.el_design.specs.Run.{started, woken, rest_seen, starved_seen, pick_after}

-- ---- a run

abbrev pub nets_once : Flat → List Word → Store → List Word → ℕ → List FlatNet → List Word
nets_once d row store nets n [] = []
nets_once d row store nets n (x ∷ xs) = net_aim d row (scene_of d store nets) n x ∷ nets_once d row store nets (suc n) xs

abbrev pub nets_after : ℕ → Flat → List Word → Store → List Word → List Word
nets_after zero d row store nets = nets
nets_after (suc n) d row store nets = nets_after n d row store (nets_once d row store nets 0 d.nets)

abbrev pub settled : Flat → List Word → Store → List Word
settled d row store = nets_after (length d.nets) d row store (map (λ x. word x.width 0) d.nets)

abbrev pub choose : ℕ → ℕ → List Event → Option Event
choose pick k es = slice_get es ((pick_after pick (suc k) / 2 ^ 33) % length es)

abbrev pub play : ℕ → Flat → ℕ → ℕ → Config → Config × ℕ
play zero d pick k c = (c, k)
play (suc more) d pick k c = elim (choose pick k (ready d c)) [ None ↦ (c, k) | Some e ↦ elim (take d c e) [ None ↦ (c, k) | Some next ↦ play more d pick (suc k) next ] ]

abbrev pub go_on : Flat → ℕ → Config × ℕ → List (List Word) → Trace
go_on d pick x [] = (elim (list_any is_stuck x.0.procs) [ true ↦ starved_seen x.0 | false ↦ rest_seen d x.0 ]) ∷ []
go_on d pick x (row ∷ rows) = elim (list_any is_stuck x.0.procs) [
  | true ↦ starved_seen x.0 ∷ []
  | false ↦
      rest_seen d x.0 ∷ go_on d pick (play 1000 d pick x.1 (record { edge = suc x.0.edge; row = row; store = x.0.store; nets = settled d row x.0.store; procs = map woken x.0.procs })) rows
]

abbrev pub trace_of : Flat → ℕ → List (List Word) → List (List Reply) → Trace
trace_of d pick [] replies = []
trace_of d pick (row ∷ rows) replies =
    go_on d pick (play 1000 d pick 0 (record { edge = 0; row = row; store = start_store d; nets = settled d row (start_store d); procs = map started (zip d.procs replies) })) rows

-- how many events edge 0 has
abbrev pub events_of : Flat → List Word → List (List Reply) → ℕ
events_of d row replies =
    (play 1000 d 0 0 (record { edge = 0; row = row; store = start_store d; nets = settled d row (start_store d); procs = map started (zip d.procs replies) })).1

-- ---- parts of designs, each kind of part on a line of its own, and each statement that a row writes out from line 10 on

abbrev pub at : ℕ → Place
at line = record { file = 0; line = line; instance = 0 }

abbrev pub reg : ℕ → Var
reg w = record { name = []; width = w; signed = false; lsb = 0; words = 0; low = 0; start = word w 0; place = at 3 }

abbrev pub input : ℕ → FlatNet
input w = record { width = w; signed = false; lsb = 0; value = None; place = at 4 }

abbrev pub clock : FlatNet
clock = record (input 1) { place = at 2 }

abbrev pub out : ℕ → Pin
out v = record { name = []; from = source.Var v }

abbrev pub u : ℕ → Shape
u w = record { width = w; signed = false }

abbrev pub posedge : Statement
posedge = Wait (at 8) false

abbrev pub block : List Statement → Statement
block [] = Skip
block (s ∷ ss) = Seq s (block ss)

abbrev pub always : Statement → FlatProc
always s = record { always = true; body = s; place = at 5 }

abbrev pub bytes : List ℕ → List (List Word)
bytes ns = map (λ n. word 8 n ∷ []) ns

abbrev pub assign : ℕ → Expr → Statement
assign v e = Assign (at 6) (ToVariable v) e false

abbrev pub later : ℕ → Expr → Statement
later v e = Assign (at 7) (ToVariable v) e true

abbrev pub signed : ℕ → Shape
signed w = record { width = w; signed = true }

abbrev pub byte : ℕ → Expr
byte n = Number (u 8) (word 8 n)

abbrev pub int : ℕ → Expr
int n = Number (signed 32) (word 32 n)

abbrev pub initial : Statement → FlatProc
initial s = record { always = false; body = s; place = at 5 }

abbrev pub exprs : List Expr → Exprs
exprs [] = NoExpr
exprs (e ∷ es) = More e (exprs es)

-- a design of these variables and nets, of which the first net is the clock and the others are input pins, with these processes and output variables
abbrev pub design : List Var → List FlatNet → List FlatProc → List ℕ → List ℕ → Flat
design vars nets procs pins outs = record { vars = vars; nets = clock ∷ nets; tasks = []; funcs = []; imports = []; procs = procs; marks = 0; inputs = pins; outputs = map out outs; head = at 1 }

-- no replies for so many processes
abbrev pub none_for : ℕ → List (List Reply)
none_for zero = []
none_for (suc n) = [] ∷ none_for n
