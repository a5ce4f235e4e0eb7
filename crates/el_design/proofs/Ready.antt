-- Which events may be taken.
use Rattle.std.proofs.Common.{◌≡◌, ℕ, zero, suc, ◌+◌, Bool, true, false, not, ◌&&◌, List, [], ◌∷◌, ◌++◌, length, map, filter, slice_get, if◌then◌else◌, Option, Some, None, is_some, option_map, refl, sym, ◌∙◌, ap, subst, add-zero, zero-add, arith}
use Rattle.std.specs.List.{list_any}
use Rattle.std.proofs.lemmas.List.Elements.{filter-append}
use Rattle.el_design.specs.Store.{Write}
use Rattle.el_design.specs.Plain.{Statement, Null, Skip, Seq, Block, Assign, If, Case, Arm, For, While, Repeat, Forever, Wait, Enable, Disable, Host, FlatNet, FlatTask, Flat}
use Rattle.el_design.specs.Value.{Scene}
use Rattle.el_design.specs.Stack.{Work, Do, End, Return, Test, Step, Turns, Await, IsStill, is_waiting, is_ended}
use Rattle.el_design.specs.Act.{Process, act, act_do, act_top, assigned, enabled, replied}
use Rattle.xt_bits.specs.Stimulus.{Reply}
use Rattle.el_design.specs.Queue.{Config, scene, has_value, is_stuck_at, is_stuck, can_do, can_run_at, can_run, Event, Run, Follow, Update, with_process, take_run, take_net, take_oldest, take_update, numbers_from, are_valued, is_quiet, take, told, told_by, ready}
use Rattle.el_design.specs.Laws.{has_arm, ProcessesRun, places_from, has_updates, is_empty, EventsAreListed, EventsTell}

-- ---- a process has an event exactly where its stack shows it

assigned_acts : (at : _) (ws : List Write) (held : Bool) (p : Process) (k : List Work) → is_some (assigned at ws held p k) ≡ true
assigned_acts at ws true p k = refl
assigned_acts at ws false p k = refl

enabled_acts : (d : Flat) (s : Scene) (p : Process) (k : List Work) (at : _) (ins : _) (outs : _) (t : Option FlatTask) → is_some (enabled d s p k at ins outs t) ≡ true
enabled_acts d s p k at ins outs None = refl
enabled_acts d s p k at ins outs (Some t) = refl

replied_acts : (d : Flat) (s : Scene) (p : Process) (k : List Work) (at : _) (f : ℕ) (result : _) (outs : _) (rs : List Reply) → is_some (replied d s p k at f result outs rs) ≡ not (Rattle.el_design.specs.Queue.is_empty rs)
replied_acts d s p k at f result outs [] = refl
replied_acts d s p k at f result outs (r ∷ rs) = refl

do_acts : (d : Flat) (s : Scene) (p : Process) (k : List Work) (x : Statement) → is_some (act_do d s p k x) ≡ can_do x
do_acts d s p k Null = refl
do_acts d s p k Skip = refl
do_acts d s p k (Seq a b) = refl
do_acts d s p k (Block at mark body) = refl
do_acts d s p k (Assign at to e held) = assigned_acts at _ held p k
do_acts d s p k (If at e a b) = refl
do_acts d s p k (Case at on arms) = refl
do_acts d s p k (Arm on labels body others) = refl
do_acts d s p k (For at v a b e body) = refl
do_acts d s p k (While at e body) = refl
do_acts d s p k (Repeat at e body) = refl
do_acts d s p k (Forever at body) = refl
do_acts d s p k (Wait at falling) = refl
do_acts d s p k (Enable at t ins outs) = enabled_acts d s p k at ins outs (slice_get d.tasks t)
do_acts d s p k (Disable at m) = refl
do_acts d s p k (Host at f ins result outs) = refl

top_acts : (d : Flat) (s : Scene) (p : Process) (k : List Work) → is_some (act_top d s p k) ≡ can_run_at k p.replies
top_acts d s p [] = refl
top_acts d s p (Do x ∷ k) = do_acts d s p k x
top_acts d s p (End m ∷ k) = refl
top_acts d s p (Return at m outs ∷ k) = refl
top_acts d s p (Test at v a b body ∷ k) = refl
top_acts d s p (Step at v a b body ∷ k) = refl
top_acts d s p (Turns at n body ∷ k) = refl
top_acts d s p (Await at f result outs ∷ k) = replied_acts d s p k at f result outs p.replies

pub acts : (d : Flat) (s : Scene) (p : Process) → is_some (act d s p) ≡ can_run p
acts d s p = top_acts d s p p.stack

worded : (k : List Work) (rs : List Reply) → IsStill k → has_arm k ≡ false → can_run_at k rs ≡ (not (is_waiting k) && not (is_ended k) && not (is_stuck_at k rs))
worded [] rs h a = refl
worded (Do Null ∷ k) rs h a = cc
worded (Do Skip ∷ k) rs h a = cc
worded (Do (Seq x y) ∷ k) rs h a = cc
worded (Do (Block at None body) ∷ k) rs h a = cc
worded (Do (Block at (Some m) body) ∷ k) rs h a = cc
worded (Do (Assign at to e held) ∷ k) rs h a = refl
worded (Do (If at e x y) ∷ k) rs h a = refl
worded (Do (Case at on arms) ∷ k) rs h a = refl
worded (Do (Arm on labels body others) ∷ k) rs h a = cc
worded (Do (For at v x y e body) ∷ k) rs h a = refl
worded (Do (While at e body) ∷ k) rs h a = refl
worded (Do (Repeat at e body) ∷ k) rs h a = refl
worded (Do (Forever at body) ∷ k) rs h a = cc
worded (Do (Wait at falling) ∷ k) rs h a = refl
worded (Do (Enable at t ins outs) ∷ k) rs h a = refl
worded (Do (Disable at m) ∷ k) rs h a = refl
worded (Do (Host at f ins result outs) ∷ k) rs h a = refl
worded (End m ∷ k) rs h a = cc
worded (Return at m outs ∷ k) rs h a = refl
worded (Test at v x y body ∷ k) rs h a = refl
worded (Step at v x y body ∷ k) rs h a = refl
worded (Turns at n body ∷ k) rs h a = refl
worded (Await at f result outs ∷ k) rs h a = refl

pub processes_run : (d : Flat) (s : Scene) (p : Process) → ProcessesRun d s p
processes_run d s p = (acts d s p, λ h a. worded p.stack p.replies h a)

-- ---- the list of events

option_map_some : {A B : Type 0} (f : A → B) (o : Option A) → is_some (option_map f o) ≡ is_some o
option_map_some f None = refl
option_map_some f (Some x) = refl

pick_cons : (can : Event → Bool) (e : Event) (es : List Event) (b : Bool) (make : ℕ → Event) (n : ℕ) (ms : List ℕ) → e ≡ make n → can e ≡ b
    → filter can es ≡ map make ms → filter can (e ∷ es) ≡ map make (if b then n ∷ ms else ms)
pick_cons can e es true make n ms is c h = rw c (rw (h, is) refl)
pick_cons can e es false make n ms is c h = rw c h

first_place : {X : Type 0} (make : ℕ → Event) (can : Event → Bool) (test : ℕ → X → Bool) (n : ℕ) (x : X) (xs : List X)
    → ((i : ℕ) (y : X) → slice_get (x ∷ xs) i ≡ Some y → can (make (n + i)) ≡ test (n + i) y) → can (make n) ≡ test n x
first_place make can test n x xs h = subst (λ m. can (make m) ≡ test m x) (add-zero n) (h zero x refl)

next_place : {X : Type 0} (make : ℕ → Event) (can : Event → Bool) (test : ℕ → X → Bool) (n i : ℕ) (y : X)
    → can (make (n + suc i)) ≡ test (n + suc i) y → can (make (suc n + i)) ≡ test (suc n + i) y
next_place make can test n i y h = let e : n + suc i ≡ suc n + i = omega arith in subst (λ m. can (make m) ≡ test m y) e h

-- Of the places of a list, those at which a test holds that looks at the element.
filter_places : {X : Type 0} (make : ℕ → Event) (can : Event → Bool) (test : ℕ → X → Bool) (n : ℕ) (xs : List X)
    → ((i : ℕ) (x : X) → slice_get xs i ≡ Some x → can (make (n + i)) ≡ test (n + i) x)
    → filter can (map make (numbers_from n (length xs))) ≡ map make (places_from n test xs)
filter_places make can test n [] h = refl
filter_places make can test n (x ∷ xs) h =
    pick_cons can (make n) (map make (numbers_from (suc n) (length xs))) (test n x) make n (places_from (suc n) test xs) refl (first_place make can test n x xs h)
    (filter_places make can test (suc n) xs (λ i y e. next_place make can test n i y (h (suc i) y e)))

-- whether a place of a list has an element that passes
got : {X Y : Type 0} (xs : List X) (i : ℕ) (x : X) (f : Option X → Option Y) (b : Bool) → slice_get xs i ≡ Some x → is_some (f (Some x)) ≡ b → is_some (f (slice_get xs i)) ≡ b
got xs i x f b e h = rw e h

run_can : (d : Flat) (c : Config) (i : ℕ) (p : Process) → slice_get c.procs i ≡ Some p → is_some (take d c (Run i)) ≡ can_run p
run_can d c i p e = got c.procs i p (take_run d c i) (can_run p) e (option_map_some (λ a. with_process c i a.writes a.process) (act d (scene d c) p) ∙ acts d (scene d c) p)

net_can_go : (d : Flat) (c : Config) (n : ℕ) (net : FlatNet) (b : Bool) → has_value d c n net ≡ b → is_some (take_net d c n (Some net)) ≡ not b
net_can_go d c n net true e = rw e refl
net_can_go d c n net false e = rw e refl

net_can : (d : Flat) (c : Config) (n : ℕ) (net : FlatNet) → slice_get d.nets n ≡ Some net → is_some (take d c (Follow n)) ≡ not (has_value d c n net)
net_can d c n net e = got d.nets n net (take_net d c n) (not (has_value d c n net)) e (net_can_go d c n net (has_value d c n net) refl)

oldest_can : (c : Config) (i : ℕ) (p : Process) (us : List (List Write)) → is_some (take_oldest c i p us) ≡ (elim us [ [] ↦ false | ws ∷ more ↦ true ])
oldest_can c i p [] = refl
oldest_can c i p (ws ∷ more) = refl

update_can : (d : Flat) (c : Config) (i : ℕ) (p : Process) → is_quiet d c ≡ true → slice_get c.procs i ≡ Some p → is_some (take d c (Update i)) ≡ has_updates p
update_can d c i p q e = rw q (got c.procs i p (take_update c i) (has_updates p) e (oldest_can c i p p.updates))

update_never : (d : Flat) (c : Config) (i : ℕ) → is_quiet d c ≡ false → is_some (take d c (Update i)) ≡ false
update_never d c i q = rw q refl

none_left : (can : Event → Bool) (make : ℕ → Event) (ns : List ℕ) → ((n : ℕ) → can (make n) ≡ false) → filter can (map make ns) ≡ []
none_left can make [] h = refl
none_left can make (n ∷ ns) h = rw (h n) (none_left can make ns h)

-- no place passes exactly where no element does
empty_places : {X : Type 0} (make : ℕ → Event) (test : X → Bool) (n : ℕ) (xs : List X) → is_empty (map make (places_from n (λ i x. test x) xs)) ≡ not (list_any test xs)
empty_places make test n [] = refl
empty_places make test n (x ∷ xs) = go (test x) refl (empty_places make test (suc n) xs)
  where
    go : (b : Bool) → test x ≡ b → is_empty (map make (places_from (suc n) (λ i y. test y) xs)) ≡ not (list_any test xs)
        → is_empty (map make (places_from n (λ i y. test y) (x ∷ xs))) ≡ not (list_any test (x ∷ xs))
    go true e h = rw e refl
    go false e h = rw e h

empty_nets : (d : Flat) (c : Config) (make : ℕ → Event) (n : ℕ) (nets : List FlatNet) → is_empty (map make (places_from n (λ i net. not (has_value d c i net)) nets)) ≡ are_valued d c n nets
empty_nets d c make n [] = refl
empty_nets d c make n (net ∷ nets) = go (has_value d c n net) refl (empty_nets d c make (suc n) nets)
  where
    go : (b : Bool) → has_value d c n net ≡ b → is_empty (map make (places_from (suc n) (λ i x. not (has_value d c i x)) nets)) ≡ are_valued d c (suc n) nets
        → is_empty (map make (places_from n (λ i x. not (has_value d c i x)) (net ∷ nets))) ≡ are_valued d c n (net ∷ nets)
    go true e h = rw e h
    go false e h = rw e refl

at_zero : {X : Type 0} (xs : List X) (i : ℕ) (x : X) → slice_get xs i ≡ Some x → slice_get xs (0 + i) ≡ Some x
at_zero xs i x e = subst (λ m. slice_get xs m ≡ Some x) (sym (zero-add i)) e

updates_listed : (d : Flat) (c : Config) (b : Bool) → is_quiet d c ≡ b
    → filter (λ e. is_some (take d c e)) (map Update (numbers_from 0 (length c.procs))) ≡ (if b then map Update (places_from 0 (λ i p. has_updates p) c.procs) else [])
updates_listed d c true q = filter_places Update (λ e. is_some (take d c e)) (λ i p. has_updates p) 0 c.procs (λ i p e. update_can d c (0 + i) p q (at_zero c.procs i p e))
updates_listed d c false q = none_left (λ e. is_some (take d c e)) Update (numbers_from 0 (length c.procs)) (λ i. update_never d c i q)

runs_listed : (d : Flat) (c : Config) → filter (λ e. is_some (take d c e)) (map Run (numbers_from 0 (length c.procs))) ≡ map Run (places_from 0 (λ i p. can_run p) c.procs)
runs_listed d c = filter_places Run (λ e. is_some (take d c e)) (λ i p. can_run p) 0 c.procs (λ i p e. run_can d c (0 + i) p (at_zero c.procs i p e))

nets_listed : (d : Flat) (c : Config) → filter (λ e. is_some (take d c e)) (map Follow (numbers_from 0 (length d.nets))) ≡ map Follow (places_from 0 (λ n net. not (has_value d c n net)) d.nets)
nets_listed d c = filter_places Follow (λ e. is_some (take d c e)) (λ n net. not (has_value d c n net)) 0 d.nets (λ n net e. net_can d c (0 + n) net (at_zero d.nets n net e))

quiet_listed : (d : Flat) (c : Config)
    → is_quiet d c ≡ (is_empty (map Run (places_from 0 (λ i p. can_run p) c.procs)) && is_empty (map Follow (places_from 0 (λ n net. not (has_value d c n net)) d.nets)) && not (list_any is_stuck c.procs))
quiet_listed d c = rw (empty_places Run can_run 0 c.procs, empty_nets d c Follow 0 d.nets) refl

pub events_are_listed : (d : Flat) (c : Config) → EventsAreListed d c
events_are_listed d c =
    let can : Event → Bool = λ e. is_some (take d c e) in
    let runs = map Run (numbers_from 0 (length c.procs)) in
    let follows = map Follow (numbers_from 0 (length d.nets)) in
    let updates = map Update (numbers_from 0 (length c.procs)) in
    filter-append can (runs ++ follows) updates
    ∙ ap (λ es. es ++ filter can updates) (filter-append can runs follows)
    ∙ rw (runs_listed d c, nets_listed d c, updates_listed d c (is_quiet d c) refl, quiet_listed d c) refl

-- ---- what events tell

told_where_taken : (d : Flat) (c : Config) (i : ℕ) (o : Option Process) → is_some (elim o [ None ↦ None | Some p ↦ told_by i (act d (scene d c) p) ]) ≡ is_some (take_run d c i o)
told_where_taken d c i None = refl
told_where_taken d c i (Some p) = option_map_some _ (act d (scene d c) p) ∙ sym (option_map_some (λ a. with_process c i a.writes a.process) (act d (scene d c) p))

pub events_tell : (d : Flat) (c : Config) → EventsTell d c
events_tell d c = (tells, λ i. told_where_taken d c i (slice_get c.procs i))
  where
    tells : (e : Event) → is_some (take d c e) ≡ true → is_some (told d c e) ≡ true
    tells (Run i) h = told_where_taken d c i (slice_get c.procs i) ∙ h
    tells (Follow n) h = refl
    tells (Update i) h = refl
