-- The event queue (IEEE 1364-2005, clause 11): what the state of a run is, and which events may be taken in it.
use Rattle.std.specs.Prelude.{◌≡◌, ℕ, zero, suc, Bool, true, false, not, ◌&&◌, ◌==◌, if◌then◌else◌, List, [], ◌∷◌, ◌++◌, map, filter, length, get_or, set, slice_get, Option, Some, None, is_some, option_map, position}
use Rattle.std.specs.List.{list_any}
use Rattle.xt_bits.specs.Word.{Word, word}
use Rattle.xt_bits.specs.Operators.{eq_of}
use Rattle.el_design.specs.Plain.{Statement, Null, Skip, Seq, Block, Arm, Forever, Wait, FlatNet, Flat}
use Rattle.el_design.specs.Store.{Store, Write, put_all}
use Rattle.el_design.specs.Value.{Scene, value}
use Rattle.el_design.specs.Function.{call_of}
use Rattle.el_design.specs.Stack.{Work, Do, End, Await}
use Rattle.el_design.specs.Act.{Process, Did, Acted, act}
use Rattle.xt_bits.specs.Stimulus.{Reply}

-- the number of the edge, the row on the input pins, the variables, the nets' values, and the processes
pub record Config : Type 0 where
  pub edge : ℕ
  pub row : List Word
  pub store : Store
  pub nets : List Word
  pub procs : List Process

abbrev pub scene_of : Flat → Store → List Word → Scene
scene_of d store nets = record { call = call_of d; nets = nets; store = store }

abbrev pub scene : Flat → Config → Scene
scene d c = scene_of d c.store c.nets

-- an input pin's value by the net's number; a net that is none and has no expression is 0, which is this project's own
abbrev pub pin_value : Flat → List Word → ℕ → ℕ → Word
pin_value d row n w = elim (position (λ k. k == n) d.inputs) [ None ↦ word w 0 | Some i ↦ get_or row i (word w 0) ]

-- the value that a net takes: its expression's, cut to its width, or its pin's
abbrev pub net_aim : Flat → List Word → Scene → ℕ → FlatNet → Word
net_aim d row s n net = elim net.value [ None ↦ pin_value d row n net.width | Some e ↦ word net.width (value d s e).value ]

-- a net has its value
abbrev pub has_value : Flat → Config → ℕ → FlatNet → Bool
has_value d c n net = eq_of (get_or c.nets n (word net.width 0)) (net_aim d c.row (scene d c) n net)

abbrev pub is_empty : {X : Type 0} → List X → Bool
is_empty [] = true
is_empty (x ∷ xs) = false

-- a process at a call for which no reply is left
abbrev pub is_stuck_at : List Work → List Reply → Bool
is_stuck_at (Await at f result outs ∷ k) rs = is_empty rs
is_stuck_at k rs = false

abbrev pub is_stuck : Process → Bool
is_stuck p = is_stuck_at p.stack p.replies

abbrev pub can_do : Statement → Bool
can_do Null = false
can_do Skip = false
can_do (Seq a b) = false
can_do (Block at mark body) = false
can_do (Arm on labels body others) = false
can_do (Forever at body) = false
can_do (Wait at falling) = false
can_do x = true

-- a process has an event: its still stack is neither empty, nor has on top a wait, an arm of a `case` outside it, or a call for which no reply is left
abbrev pub can_run_at : List Work → List Reply → Bool
can_run_at [] rs = false
can_run_at (Do x ∷ k) rs = can_do x
can_run_at (End m ∷ k) rs = false
can_run_at (Await at f result outs ∷ k) rs = not (is_empty rs)
can_run_at (w ∷ k) rs = true

abbrev pub can_run : Process → Bool
can_run p = can_run_at p.stack p.replies

-- one event: of a process, of a net, or the oldest update of a process
pub data Event : Type 0 where
  Run : ℕ → Event
  Follow : ℕ → Event
  Update : ℕ → Event

abbrev pub with_process : Config → ℕ → List Write → Process → Config
with_process c i ws p = record c { store = put_all c.store ws; procs = set c.procs i p }

abbrev pub take_run : Flat → Config → ℕ → Option Process → Option Config
take_run d c i None = None
take_run d c i (Some p) = option_map (λ a. with_process c i a.writes a.process) (act d (scene d c) p)

abbrev pub take_net : Flat → Config → ℕ → Option FlatNet → Option Config
take_net d c n None = None
take_net d c n (Some net) = if has_value d c n net then None else Some (record c { nets = set c.nets n (net_aim d c.row (scene d c) n net) })

abbrev pub take_oldest : Config → ℕ → Process → List (List Write) → Option Config
take_oldest c i p [] = None
take_oldest c i p (ws ∷ more) = Some (with_process c i ws (record p { updates = more }))

abbrev pub take_update : Config → ℕ → Option Process → Option Config
take_update c i None = None
take_update c i (Some p) = take_oldest c i p p.updates

-- so many numbers from i on
abbrev pub numbers_from : ℕ → ℕ → List ℕ
numbers_from i zero = []
numbers_from i (suc n) = i ∷ numbers_from (suc i) n

abbrev pub numbers : ℕ → List ℕ
numbers n = numbers_from 0 n

abbrev pub are_valued : Flat → Config → ℕ → List FlatNet → Bool
are_valued d c n [] = true
are_valued d c n (net ∷ nets) = has_value d c n net && are_valued d c (suc n) nets

-- Updates come only where no process has an event, each net has its value, and no process is at a call for which no reply is left (IEEE 1364-2005, 11.3). Those of one
-- process come in order (11.4.1); that those of several come in any order, one at a time, and nets between them, is this project's own.
abbrev pub is_quiet : Flat → Config → Bool
is_quiet d c = not (list_any can_run c.procs) && are_valued d c 0 d.nets && not (list_any is_stuck c.procs)

-- the state after an event, where it may be taken
abbrev pub take : Flat → Config → Event → Option Config
take d c (Run i) = take_run d c i (slice_get c.procs i)
take d c (Follow n) = take_net d c n (slice_get d.nets n)
take d c (Update i) = if is_quiet d c then take_update c i (slice_get c.procs i) else None

-- What an event tells: of a process's, its number, what it did and at which line; of a net's, the net's number; of an update, its process's number.
pub data Telling : Type 0 where
  OfProcess : ℕ → Did → ℕ → Telling
  OfNet : ℕ → Telling
  OfUpdate : ℕ → Telling

abbrev pub told_by : ℕ → Option Acted → Option Telling
told_by i acted = option_map (λ a. OfProcess i a.did a.at.line) acted

-- what an event that may be taken tells; the line is that of the statement to which it belongs
abbrev pub told : Flat → Config → Event → Option Telling
told d c (Run i) = elim (slice_get c.procs i) [ None ↦ None | Some p ↦ told_by i (act d (scene d c) p) ]
told d c (Follow n) = Some (OfNet n)
told d c (Update i) = Some (OfUpdate i)

-- the events that may be taken, in the order of the pick
abbrev pub ready : Flat → Config → List Event
ready d c =
    let procs = numbers (length c.procs) in
    filter (λ e. is_some (take d c e)) (map Run procs ++ map Follow (numbers (length d.nets)) ++ map Update procs)

-- no event may be taken, and a process is at a call for which no reply is left
abbrev pub IsStarved : Flat → Config → Type 0
IsStarved d c = (ready d c ≡ []) × (list_any is_stuck c.procs ≡ true)

-- no event may be taken, and none is
abbrev pub IsAtRest : Flat → Config → Type 0
IsAtRest d c = (ready d c ≡ []) × (list_any is_stuck c.procs ≡ false)
