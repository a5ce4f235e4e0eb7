-- A process run alone, in one big step by the structure of its statements: what it comes to, and where it stops. This project's own.
-- Loops iterate, tasks are taken in place; a stack alone does what this says.
use Rattle.std.specs.Prelude.{◌≡◌, ℕ, zero, suc, Bool, true, false, if◌then◌else◌, ◌==◌, List, [], ◌∷◌, ◌++◌, Option, Some, None, zip, slice_get, option_map, map, fold}
use Rattle.xt_base.specs.declared.refusals.Place.{Place}
use Rattle.xt_bits.specs.Word.{Word}
use Rattle.xt_bits.specs.Stimulus.{Reply}
use Rattle.xt_bits.specs.Trace.{Call, Called}
use Rattle.el_design.specs.Plain.{Expr, Lvalue, ToVariable, Statement, Null, Skip, Seq, Block, Assign, If, Case, Arm, For, While, Repeat, Forever, Wait, Enable, Disable, Host, FlatTask, Flat}
use Rattle.el_design.specs.Store.{Store, Write, put_all}
use Rattle.el_design.specs.Value.{Scene, value, is_up}
use Rattle.el_design.specs.Assign.{writes_of, has_label, count_of}
use Rattle.el_design.specs.Stack.{Work, Do, End, Return, Test, Step, Turns, Await, below_mark}
use Rattle.el_design.specs.Act.{Process, act, copied_in, copied_out, arguments, import_at, reply_written}
use Rattle.el_design.specs.Queue.{is_empty, Config, scene_of, is_stuck}
use Rattle.std.specs.List.{list_any}

-- the variables, what a process has beside its stack, and how many events it has had
pub record Doing : Type 0 where
  pub store : Store
  pub updates : List (List Write)
  pub replies : List Reply
  pub calls : List Call
  pub delays : List ℕ
  pub events : ℕ

-- What a statement comes to: it falls through to what is below it; it stops, with this stack, at a wait, at a call without a reply or at the end;
-- it jumps past the nearest end with this mark below it; or it takes too many turns or enables, which a design that breaks no rule never does.
pub data Outcome : Type 0 where
  Falls : Doing → Outcome
  Stops : List Work → Doing → Outcome
  Jumps : ℕ → Doing → Outcome
  Lost : Outcome

-- the design, the nets' values, how many turns a `for` or `while` takes at most, and what the body of a task comes to above a stack
pub record Setting : Type 0 where
  pub design : Flat
  pub nets : List Word
  pub turns : ℕ
  pub enabled : FlatTask → List Work → Doing → Outcome

abbrev pub seen : Setting → Doing → Scene
seen c x = scene_of c.design x.store c.nets

-- ---- one event

abbrev pub counted : Doing → Doing
counted x = record x { events = suc x.events }

abbrev pub writing : List Write → Doing → Doing
writing ws x = record x { store = put_all x.store ws; events = suc x.events }

abbrev pub assigning : List Write → Bool → Doing → Doing
assigning ws false x = writing ws x
assigning ws true x = record x { updates = x.updates ++ ws ∷ []; events = suc x.events }

-- a variable takes an expression's value
abbrev pub stepped : Setting → ℕ → Expr → Doing → Doing
stepped c v e x = writing (writes_of c.design (seen c x) (ToVariable v) (value c.design (seen c x) e)) x

abbrev pub asking : Setting → ℕ → List Expr → Doing → Doing
asking c f ins x = record x { calls = x.calls ++ Called f (arguments c.design (seen c x) (zip (import_at c.design f [] (λ i. i.ins)) ins)) ∷ []; events = suc x.events }

abbrev pub replying : Setting → ℕ → Option Lvalue → List Lvalue → Reply → List Reply → Doing → Doing
replying c f result outs r rs x =
    record x { store = put_all x.store (reply_written c.design (seen c x) r f result outs); replies = rs; delays = x.delays ++ r.wait ∷ []; events = suc x.events }

abbrev pub is_tested : Setting → Expr → Doing → Bool
is_tested c e x = is_up (value c.design (seen c x) e)

-- ---- outcomes put together

abbrev pub and_then : Outcome → (Doing → Outcome) → Outcome
and_then (Falls y) f = f y
and_then (Stops k y) f = Stops k y
and_then (Jumps m y) f = Jumps m y
and_then Lost f = Lost

-- the end of a named block
abbrev pub closed : ℕ → Outcome → Outcome
closed m (Falls y) = Falls y
closed m (Stops k y) = Stops k y
closed m (Jumps n y) = if m == n then Falls y else Jumps n y
closed m Lost = Lost

-- the end of an enable: a `disable` of it copies nothing out
abbrev pub returned : (Doing → Doing) → ℕ → Outcome → Outcome
returned out m (Falls y) = Falls (out y)
returned out m (Stops k y) = Stops k y
returned out m (Jumps n y) = if m == n then Falls y else Jumps n y
returned out m Lost = Lost

-- a test, a turn where it holds, and so on, so many times at most
abbrev pub loop : ℕ → (Doing → Bool) → (Doing → Outcome) → Doing → Outcome
loop zero test turn x = Lost
loop (suc n) test turn x = if test x then and_then (turn (counted x)) (loop n test turn) else Falls (counted x)

-- so many turns, each with the number of those after it
abbrev pub turns_of : ℕ → (ℕ → Doing → Outcome) → Doing → Outcome
turns_of zero turn x = Falls x
turns_of (suc n) turn x = and_then (turn n x) (λ y. turns_of n turn (counted y))

-- ---- statements

abbrev pub enabling : Setting → Place → List Expr → List Lvalue → List Work → Doing → Option FlatTask → Outcome
enabling c at ins outs below x None = Falls (counted x)
enabling c at ins outs below x (Some t) =
    returned (λ y. writing (copied_out c.design (seen c y) (zip t.outs outs)) y) t.mark
    (c.enabled t (Return at t.mark (zip t.outs outs) ∷ below) (writing (copied_in c.design (seen c x) (zip t.ins ins)) x))

abbrev pub disabling : ℕ → Doing → Option (List Work) → Outcome
disabling m x None = Falls (counted x)
disabling m x (Some k) = Jumps m (counted x)

-- at a call that has been made
abbrev pub awaiting : Setting → Place → ℕ → Option Lvalue → List Lvalue → List Work → Doing → List Reply → Outcome
awaiting c at f result outs below x [] = Stops (Await at f result outs ∷ below) x
awaiting c at f result outs below x (r ∷ rs) = Falls (replying c f result outs r rs x)

-- What a statement above a stack comes to. `chosen` is up for the arms of a `case` whose event has been.
abbrev pub go : Setting → Bool → Statement → List Work → Doing → Outcome
go c chosen Null below x = Falls x
go c chosen Skip below x = Falls x
go c chosen (Seq a b) below x = and_then (go c false a (Do b ∷ below) x) (go c false b below)
go c chosen (Block at None body) below x = go c false body below x
go c chosen (Block at (Some m) body) below x = closed m (go c false body (End m ∷ below) x)
go c chosen (Assign at to e held) below x = Falls (assigning (writes_of c.design (seen c x) to (value c.design (seen c x) e)) held x)
go c chosen (If at test a b) below x = if is_tested c test x then go c false a below (counted x) else go c false b below (counted x)
go c chosen (Case at on arms) below x = go c true arms below (counted x)
go c true (Arm on labels body others) below x = if has_label c.design (seen c x) on labels then go c false body below x else go c true others below x
go c false (Arm on labels body others) below x = Stops (Do (Arm on labels body others) ∷ below) x
go c chosen (For at v first test next body) below x =
    loop c.turns (is_tested c test) (λ y. and_then (go c false body (Step at v test next body ∷ below) y) (λ z. Falls (stepped c v next z))) (stepped c v first x)
go c chosen (While at test body) below x = loop c.turns (is_tested c test) (go c false body (Do (While at test body) ∷ below)) x
go c chosen (Repeat at count body) below x =
    turns_of (count_of c.design (seen c x) count) (λ left. go c false body (Turns at left body ∷ below)) (counted x)
go c chosen (Forever at body) below x = and_then (go c false body (Do (Forever at body) ∷ below) x) (λ y. Lost)
go c chosen (Wait at falling) below x = Stops (Do (Wait at falling) ∷ below) x
go c chosen (Enable at t ins outs) below x = enabling c at ins outs below x (slice_get c.design.tasks t)
go c chosen (Disable at m) below x = disabling m x (below_mark m below)
go c chosen (Host at f ins result outs) below x = awaiting c at f result outs below (asking c f ins x) x.replies

-- tasks in place, so deep at most
abbrev pub enabled_at : Flat → List Word → ℕ → ℕ → FlatTask → List Work → Doing → Outcome
enabled_at d nets turns zero t below x = Lost
enabled_at d nets turns (suc n) t below x = go (record { design = d; nets = nets; turns = turns; enabled = enabled_at d nets turns n }) false t.body below x

abbrev pub setting : Flat → List Word → ℕ → ℕ → Setting
setting d nets turns depth = record { design = d; nets = nets; turns = turns; enabled = enabled_at d nets turns depth }

-- ---- stacks

-- what one piece of work above a stack comes to
abbrev pub go_work : Setting → Work → List Work → Doing → Outcome
go_work c (Do s) below x = go c false s below x
go_work c (End m) below x = Falls x
go_work c (Return at m outs) below x = Falls (writing (copied_out c.design (seen c x) outs) x)
go_work c (Test at v test next body) below x =
    loop c.turns (is_tested c test) (λ y. and_then (go c false body (Step at v test next body ∷ below) y) (λ z. Falls (stepped c v next z))) x
go_work c (Step at v test next body) below x =
    loop c.turns (is_tested c test) (λ y. and_then (go c false body (Step at v test next body ∷ below) y) (λ z. Falls (stepped c v next z))) (stepped c v next x)
go_work c (Turns at left body) below x = turns_of left (λ n. go c false body (Turns at n body ∷ below)) (counted x)
go_work c (Await at f result outs) below x = awaiting c at f result outs below x x.replies

abbrev mutual
  -- what a whole stack comes to: it stops, or is lost
  pub go_stack : Setting → List Work → Doing → Outcome
  go_stack c [] x = Stops [] x
  go_stack c (w ∷ k) x = elim (go_work c w k x) [ Falls y ↦ go_stack c k y | Stops l y ↦ Stops l y | Jumps m y ↦ leave c m k y | Lost ↦ Lost ]

  -- past the nearest end with the mark, and on
  pub leave : Setting → ℕ → List Work → Doing → Outcome
  leave c m [] x = Lost
  leave c m (End n ∷ k) x = if n == m then go_stack c k x else leave c m k x
  leave c m (Return at n outs ∷ k) x = if n == m then go_stack c k x else leave c m k x
  leave c m (w ∷ k) x = leave c m k x

-- a stack at which a process stops: the empty one, at a wait, at a call for which no reply is left, or at what is no statement
abbrev pub is_stop : List Work → List Reply → Bool
is_stop [] rs = true
is_stop (Do (Wait at falling) ∷ k) rs = true
is_stop (Do (Arm on labels body others) ∷ k) rs = true
is_stop (Await at f result outs ∷ k) rs = is_empty rs
is_stop k rs = false

-- ---- a process alone: no other takes an event, and nets stay as they are

pub record Lone : Type 0 where
  pub store : Store
  pub process : Process

abbrev pub lone_step : Flat → List Word → Lone → Option Lone
lone_step d nets a = option_map (λ e. record { store = put_all a.store e.writes; process = e.process }) (act d (scene_of d a.store nets) a.process)

abbrev pub process_of : List Work → Doing → Process
process_of k x = record { stack = k; updates = x.updates; replies = x.replies; calls = x.calls; delays = x.delays }

abbrev pub lone : List Work → Doing → Lone
lone k x = record { store = x.store; process = process_of k x }

-- events of the process alone lead from one stack and state to another
pub data Goes (d : Flat) (nets : List Word) : List Work → Doing → List Work → Doing → Type 0 where
  stays : {k : List Work} {x : Doing} → Goes d nets k x k x
  takes : {k mid end : List Work} {x y z : Doing} → lone_step d nets (lone k x) ≡ Some (lone mid y) → y.events ≡ suc x.events → Goes d nets mid y end z → Goes d nets k x end z

-- ---- what an edge makes of the variables and processes, process after process and then the updates of each; nets are left out, they stay as they were

abbrev pub doing : Store → Process → Doing
doing store p = record { store = store; updates = p.updates; replies = p.replies; calls = p.calls; delays = p.delays; events = 0 }

-- the variables and the process after work that it has to do
abbrev pub alone_end : Setting → List Work → Store → Process → Store × Process
alone_end c work store p = elim (go_stack c work (doing store p)) [ Falls y ↦ (store, p) | Stops l y ↦ (y.store, process_of l y) | Jumps m y ↦ (store, p) | Lost ↦ (store, p) ]

-- processes one after another, each with its work
abbrev pub round : Setting → Store → List (List Work × Process) → Store × List Process
round c store [] = (store, [])
round c store (x ∷ xs) = ((round c (alone_end c x.0 store x.1).0 xs).0, (alone_end c x.0 store x.1).1 ∷ (round c (alone_end c x.0 store x.1).0 xs).1)

abbrev pub update_all : Store → List Process → Store
update_all store [] = store
update_all store (p ∷ ps) = update_all (fold put_all store p.updates) ps

abbrev pub without_updates : Process → Process
without_updates p = record p { updates = [] }

-- the updates come where no process is at a call for which no reply is left
abbrev pub after_round : Config → Store → List Process → Config
after_round c store ps = if list_any is_stuck ps then record c { store = store; procs = ps } else record c { store = update_all store ps; procs = map without_updates ps }

abbrev pub edge_end : Setting → Config → List (List Work × Process) → Config
edge_end c k xs = after_round k (round c k.store xs).0 (round c k.store xs).1
