-- Every edge of a run ends, and no process has more than U events in it.
use Rattle.std.proofs.Common.{◌≡◌, ◌≢◌, ◌⊎◌, inl, inr, ℕ, zero, suc, ◌+◌, ◌<◌, ◌≤◌, max, ◌==◌, Bool, true, false, if◌then◌else◌, List, [], ◌∷◌, ◌++◌, Option, Some, None, slice_get, map, zip, length, refl, sym, ◌∙◌, ap, ap₂, subst, arith, add-zero}
use Rattle.std.specs.List.{list_any}
use Rattle.xt_base.specs.declared.refusals.Place.{Place}
use Rattle.xt_bits.specs.Word.{Word}
use Rattle.xt_bits.specs.Stimulus.{Reply, Stimulus}
use Rattle.el_design.specs.declared.designs.Var.{Var}
use Rattle.el_design.specs.Plain.{Statement, Null, Skip, Seq, Block, Assign, If, Case, Arm, For, While, Repeat, Forever, Wait, Enable, Disable, Host, FlatProc, Flat}
use Rattle.el_design.specs.Store.{Store, start_store, start_word}
use Rattle.el_design.specs.Stack.{Work, Do, End, Return, Test, Step, Turns, Await, settle, start_stack, is_waiting, wake}
use Rattle.el_design.specs.Act.{Process}
use Rattle.el_design.specs.Queue.{Config, is_stuck_at, is_stuck, Event, Run, Follow, Update}
use Rattle.el_design.specs.Run.{IsSettled, started, Starts, woken, Continues}
use Rattle.el_design.specs.Checked.{IsChecked}
use Rattle.el_design.specs.Sizes.{u_of}
use Rattle.el_design.specs.Rules.{max_turns, most_turns}
use Rattle.el_design.specs.Alone.{setting, is_stop, edge_end}
use Rattle.el_design.proofs.OrderRule.{CountsEnough, most_enough, IsShaped}
use Rattle.el_design.proofs.OrderOutcome.{Paused}
use Rattle.el_design.proofs.OrderStop.{root, deep}
use Rattle.el_design.proofs.OrderDiamond.{count, Path, Ended}
use Rattle.el_design.proofs.OrderFollows.{room, ends, at_most_so_many, one_core}
use Rattle.el_design.proofs.OrderCommute.{step, Fine, diamond}
use Rattle.el_design.proofs.OrderDigits.{weight, digits}
use Rattle.el_design.proofs.OrderCore.{taking, core, is_agent, Good}
use Rattle.el_design.proofs.OrderRest.{follows}
use Rattle.el_design.proofs.OrderBegins.{starts_fine, continues_fine, begins_good, good_fine}
use Rattle.el_design.proofs.OrderPath.{is_run}
use Rattle.el_design.proofs.OrderRound.{Done, Todo, Dones, Todos}
use Rattle.el_design.proofs.OrderEdge.{Edge, edge}

-- ---- how edges begin

-- work that a process has to do, where it waits
abbrev pub work_of : List Work → List Work
work_of (Do (Wait at falling) ∷ k) = k
work_of k = k

-- a stack that has stopped without waiting for a reply waits for the clock, or has nothing to do
abbrev Waits : List Work → Type 0
Waits k = ((at : Place) × (falling : Bool) × (j : List Work) × (k ≡ Do (Wait at falling) ∷ j)) ⊎ ((wake k ≡ k) × (settle k ≡ k) × (is_waiting k ≡ false) × (work_of k ≡ k))

waits : (k : List Work) (rs : List Reply) → is_stop k rs ≡ true → is_stuck_at k rs ≡ false → Waits k
waits [] rs s f = inr (refl, refl, refl, refl)
waits (Do (Wait at falling) ∷ k) rs s f = inl (at, falling, k, refl)
waits (Do (Arm on labels body others) ∷ k) rs s f = inr (refl, refl, refl, refl)
waits (Await at f result outs ∷ k) rs s g = absurd (let e : true ≡ false = sym s ∙ g in cc)
waits (Do Null ∷ k) rs s f = cc
waits (Do Skip ∷ k) rs s f = cc
waits (Do (Seq u v) ∷ k) rs s f = cc
waits (Do (Block at mark body) ∷ k) rs s f = cc
waits (Do (Assign at to v held) ∷ k) rs s f = cc
waits (Do (If at v l r) ∷ k) rs s f = cc
waits (Do (Case at on arms) ∷ k) rs s f = cc
waits (Do (For at v l r q body) ∷ k) rs s f = cc
waits (Do (While at v body) ∷ k) rs s f = cc
waits (Do (Repeat at v body) ∷ k) rs s f = cc
waits (Do (Forever at body) ∷ k) rs s f = cc
waits (Do (Enable at t ins outs) ∷ k) rs s f = cc
waits (Do (Disable at m) ∷ k) rs s f = cc
waits (Do (Host at g ins result outs) ∷ k) rs s f = cc
waits (End m ∷ k) rs s f = cc
waits (Return at m outs ∷ k) rs s f = cc
waits (Test at v l r body ∷ k) rs s f = cc
waits (Step at v l r body ∷ k) rs s f = cc
waits (Turns at n body ∷ k) rs s f = cc

-- a state in which an edge begins
pub record Begins (d : Flat) (c : Config) : Type 0 where
  pub fine : Fine d c
  pub settled : IsSettled d c.row c.store c.nets
  pub shaped : IsShaped d c.store
  pub work : List (List Work × Process)
  pub procs : c.procs ≡ map (λ x. x.1) work
  pub todos : Todos d 0 c.store work

start_shaped : (d : Flat) → IsShaped d (start_store d)
start_shaped d = go d.vars
  where
    go : (vs : List Var) → map length (map (λ v. Rattle.std.specs.Prelude.replicate (max 1 v.words) (start_word v)) vs) ≡ map (λ x. max 1 x.words) vs
    go [] = refl
    go (v ∷ vs) = ap₂ (λ a b. a ∷ b) (Rattle.std.proofs.lemmas.List.length-replicate _ _) (go vs)

abbrev pub start_work : FlatProc × List Reply → List Work × Process
start_work y = (Do (root y.0) ∷ [], started y)

start_is : (p : FlatProc) → start_stack p ≡ settle (Do (root p) ∷ [])
start_is p = go p.always
  where
    go : (b : Bool) → settle ((if b then Do (Forever p.place p.body) else Do p.body) ∷ []) ≡ settle (Do (if b then Forever p.place p.body else p.body) ∷ [])
    go true = refl
    go false = refl

start_todos : (d : Flat) (store : Store) (ps : List FlatProc) (rs : List (List Reply)) (i : ℕ) → ((j : ℕ) (p : FlatProc) → slice_get ps j ≡ Some p → slice_get d.procs (i + j) ≡ Some p) → Todos d i store (map start_work (zip ps rs))
start_todos d store [] rs i f = tt
start_todos d store (p ∷ ps) [] i f = tt
start_todos d store (p ∷ ps) (r ∷ rs) i f = (
  (p, subst (λ n. slice_get d.procs n ≡ Some p) (add-zero i) (f 0 p refl), start_is p, inl refl),
  start_todos d store ps rs (suc i) (λ j q e. subst (λ n. slice_get d.procs n ≡ Some q) (let a : i + suc j ≡ suc i + j = omega arith in a) (f (suc j) q e)),
)

map_twice : (ys : List (FlatProc × List Reply)) → map started ys ≡ map (λ x. x.1) (map start_work ys)
map_twice [] = refl
map_twice (y ∷ ys) = ap (λ l. started y ∷ l) (map_twice ys)

pub starts_begins : (d : Flat) (order : List ℕ) → IsChecked d order → (x : Stimulus) (pins : List Word) (c : Config) → Starts d x pins c → Begins d c
starts_begins d order checked x pins c h = record {
  fine = starts_fine d x pins c checked.sound h;
  settled = h.nets;
  shaped = ap (map length) h.store ∙ start_shaped d;
  work = map start_work (zip d.procs x.replies);
  procs = h.procs ∙ map_twice (zip d.procs x.replies);
  todos = start_todos d c.store d.procs x.replies 0 (λ j p e. subst (λ n. slice_get d.procs n ≡ Some p) (let a : j ≡ 0 + j = omega arith in a) e);
}

-- a state in which an edge came to rest
pub record Rested (d : Flat) (c : Config) : Type 0 where
  pub fine : Fine d c
  pub shaped : IsShaped d c.store
  pub dones : Dones d 0 c.store c.procs

abbrev pub next_work : Process → List Work × Process
next_work p = (work_of p.stack, woken p)

next_todo : (d : Flat) (i : ℕ) (store : Store) (p : Process) → Done d i store p → is_stuck p ≡ false → Todo d i store (next_work p)
next_todo d i store p x free = go (waits p.stack p.replies x.2 free)
  where
    go : Waits p.stack → Todo d i store (next_work p)
    go (inl w) = (x.0, x.1, ap wake w.3 ∙ sym (ap (λ k. settle (work_of k)) w.3), inr (inl (subst (λ k. Paused d store [] (root x.0) [] (work_of k)) (sym w.3) (x.3 w.0 w.1 w.2 w.3))))
    go (inr w) = (
      x.0,
      x.1,
      w.0 ∙ sym w.1 ∙ sym (ap settle w.3),
      inr (inr (ap settle w.3 ∙ w.1 ∙ sym w.3, ap (λ k. is_stop k p.replies) w.3 ∙ x.2, ap is_waiting w.3 ∙ w.2, ap (λ k. is_stuck_at k p.replies) w.3 ∙ free)),
    )

or_left : (a b : Bool) → Rattle.std.specs.Prelude.◌||◌ a b ≡ false → a ≡ false
or_left true b e = cc
or_left false b e = refl

or_right : (a b : Bool) → Rattle.std.specs.Prelude.◌||◌ a b ≡ false → b ≡ false
or_right true b e = cc
or_right false b e = e

next_todos : (d : Flat) (i : ℕ) (store : Store) (ps : List Process) → Dones d i store ps → list_any is_stuck ps ≡ false → Todos d i store (map next_work ps)
next_todos d i store [] x free = tt
next_todos d i store (p ∷ ps) x free = (next_todo d i store p x.0 (or_left (is_stuck p) (list_any is_stuck ps) free), next_todos d (suc i) store ps x.1 (or_right (is_stuck p) (list_any is_stuck ps) free))

map_next : (ps : List Process) → map woken ps ≡ map (λ x. x.1) (map next_work ps)
map_next [] = refl
map_next (p ∷ ps) = ap (λ l. woken p ∷ l) (map_next ps)

pub continues_begins : (d : Flat) (last : Config) (pins : List Word) (c : Config) → Rested d last → list_any is_stuck last.procs ≡ false → Continues d last pins c → Begins d c
continues_begins d last pins c r free h = record {
  fine = continues_fine d last pins c r.fine h;
  settled = h.nets;
  shaped = ap (map length) h.store ∙ r.shaped;
  work = map next_work last.procs;
  procs = h.procs ∙ map_next last.procs;
  todos = subst (λ st. Todos d 0 st (map next_work last.procs)) (sym h.store) (next_todos d 0 last.store last.procs r.dones free);
}

-- ---- an edge

module _ (d : Flat) (order : List ℕ) (checked : IsChecked d order) where
  the_edge : (times : List ℕ → Statement → ℕ) (counts : CountsEnough d times) (c : Config) (b : Begins d c) →
      Edge d checked.clean checked.sound times counts c.nets (suc max_turns) (Rattle.std.proofs.Common.le_refl (suc max_turns)) c (edge_end (setting d c.nets (suc max_turns) (deep d)) c b.work)
  the_edge times counts c b = edge d checked.clean checked.sound times counts c.nets (suc max_turns) (Rattle.std.proofs.Common.le_refl (suc max_turns)) b.work c refl b.procs b.shaped b.todos b.fine

  -- so many events, at most
  pub edge_bound : (c : Config) → Begins d c → (n : ℕ) × ((es : List Event) (t : Config) → Path (taking d) es c t → length es ≤ n)
  edge_bound c b =
      let e = the_edge most_turns (most_enough d checked.clean) c b in (
        room (weight order) (length e.events) + weight order,
        λ es t run. ends Config Config Event (taking d) (step d) (core c.nets) is_agent (Fine d) (Good d c.row c.store c.nets) (digits d order) (weight order)
            (diamond d checked.sound checked.clean) (follows d order checked c.row c.store c.nets b.settled) c t (edge_end (setting d c.nets (suc max_turns) (deep d)) c b.work) e.events es
            (begins_good d c b.fine b.settled) e.path e.ended run,
      )

  run_agent : (q : ℕ) (e : Event) → is_run q e ≡ true → is_agent e ≡ true
  run_agent q (Run i) h = refl
  run_agent q (Follow n) h = cc
  run_agent q (Update i) h = refl

  -- and so many of a process
  pub edge_few : (times : List ℕ → Statement → ℕ) → CountsEnough d times → (c : Config) → Begins d c → (q : ℕ) (process : FlatProc) → slice_get d.procs q ≡ Some process →
      (es : List Event) (t : Config) → Path (taking d) es c t → count (is_run q) es ≤ u_of d times process
  edge_few times counts c b q process here es t run =
      let e = the_edge times counts c b in
      let a : count (is_run q) es ≤ count (is_run q) e.events =
      at_most_so_many Config Config Event (taking d) (step d) (core c.nets) is_agent (Fine d) (Good d c.row c.store c.nets) (digits d order) (weight order)
      (diamond d checked.sound checked.clean) (follows d order checked c.row c.store c.nets b.settled) c t (edge_end (setting d c.nets (suc max_turns) (deep d)) c b.work) e.events es (is_run q) (run_agent q)
      (begins_good d c b.fine b.settled) e.path e.ended run in
      let f : count (is_run q) e.events ≤ u_of d times process = e.few q process here in omega arith

  -- where it ends, what processes changed is as process after process, and then the updates, leave it
  pub edge_rest : (c : Config) (b : Begins d c) (es : List Event) (t : Config) → Path (taking d) es c t → Ended (taking d) t →
      (core c.nets t ≡ edge_end (setting d c.nets (suc max_turns) (deep d)) c b.work) × Rested d t
  edge_rest c b es t run done =
      let e = the_edge most_turns (most_enough d checked.clean) c b in
      let x : (core c.nets t ≡ edge_end (setting d c.nets (suc max_turns) (deep d)) c b.work) × Good d c.row c.store c.nets t =
      one_core Config Config Event (taking d) (step d) (core c.nets) is_agent (Fine d) (Good d c.row c.store c.nets) (digits d order) (weight order)
      (diamond d checked.sound checked.clean) (follows d order checked c.row c.store c.nets b.settled) c t (edge_end (setting d c.nets (suc max_turns) (deep d)) c b.work) e.events es
      (begins_good d c b.fine b.settled) e.path e.ended run done in (
        x.0,
        record {
          fine = good_fine d c.row c.store c.nets t x.1;
          shaped = ap (λ k. map length k.store) x.0 ∙ e.shape ∙ b.shaped;
          dones = subst (λ k. Dones d 0 k.store k.procs) (sym x.0) e.dones;
        },
      )
