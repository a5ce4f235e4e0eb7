-- Where nets stay as they are, events of different processes change places.
use Rattle.std.proofs.Common.{◌≡◌, ◌⊎◌, inl, inr, ℕ, ◌<◌, Bool, true, false, not, ◌&&◌, if◌then◌else◌, List, [], ◌∷◌, All, length, set, slice_get, Option, Some, None, is_some, option_map, refl, sym, ◌∙◌, ap, ap₂, subst, arith, length-set}
use Rattle.std.specs.List.{list_any}
use Rattle.std.proofs.lemmas.Bool.{cases_eq}
use Rattle.std.proofs.lemmas.List.{set_comm}
use Rattle.std.proofs.lemmas.Option.{slice_get_within}
use Rattle.std.proofs.lemmas.List.Elements.{All-head, All-tail, All-append}
use Rattle.el_design.specs.declared.designs.Var.{Var}
use Rattle.el_design.specs.Plain.{Flat}
use Rattle.el_design.specs.Store.{Write}
use Rattle.el_design.specs.Act.{Process, Acted, act}
use Rattle.el_design.specs.Queue.{Config, scene, is_stuck_at, is_stuck, can_run_at, can_run, Event, Run, Follow, Update, with_process, take_run, take_oldest, take_update}
use Rattle.el_design.specs.Touches.{WritesBlocking, WritesNonblocking, Writes, by_blocking, by_nonblocking, Reads, ReadsNet}
use Rattle.el_design.specs.Rules.{two_write, variable_across, two_writers, across, IsClean}
use Rattle.el_design.specs.Sound.{IsSound}
use Rattle.el_design.proofs.Ready.{acts}
use Rattle.el_design.proofs.OrderPlaces.{got_one, set_got, set_other, got_below, any_got, any_set}
use Rattle.el_design.proofs.OrderWrites.{WritesIn}
use Rattle.el_design.proofs.OrderSame.{length_all, Same}
use Rattle.el_design.proofs.OrderSwap.{kept_in, put_swap}
use Rattle.el_design.proofs.OrderShare.{StackShared}
use Rattle.el_design.proofs.OrderActs.{Acts, act_shared, act_same}
use Rattle.el_design.proofs.OrderDiamond.{Diamond}

-- no process has an event, nor is one at a call for which no reply is left
abbrev pub is_calm : Config → Bool
is_calm k = not (list_any can_run k.procs) && not (list_any is_stuck k.procs)

-- the events of processes alone
abbrev pub step : Flat → Event → Config → Option Config
step d (Run i) k = take_run d k i (slice_get k.procs i)
step d (Follow n) k = None
step d (Update i) k = if is_calm k then take_update k i (slice_get k.procs i) else None

pub record ProcessShared (d : Flat) (i : ℕ) (p : Process) : Type 0 where
  pub stack : StackShared d i p.stack
  pub updates : All (WritesIn (WritesNonblocking d i)) p.updates

-- each process has left what is its own
pub record Fine (d : Flat) (k : Config) : Type 0 where
  pub size : length k.store ≡ length d.vars
  pub procs : (i : ℕ) (p : Process) → slice_get k.procs i ≡ Some p → ProcessShared d i p

-- ---- what an event did

pub record Ran (d : Flat) (k a : Config) (i : ℕ) : Type 0 where
  pub process : Process
  pub is : slice_get k.procs i ≡ Some process
  pub acted : Acted
  pub acts : act d (scene d k) process ≡ Some acted
  pub end : with_process k i acted.writes acted.process ≡ a

pub ran_is : (d : Flat) (k a : Config) (i : ℕ) → take_run d k i (slice_get k.procs i) ≡ Some a → Ran d k a i
ran_is d k a i h = go (slice_get k.procs i) refl h
  where
    go : (o : Option Process) → slice_get k.procs i ≡ o → take_run d k i o ≡ Some a → Ran d k a i
    go None e m = cc
    go (Some p) e m = choose (act d (scene d k) p) refl m
      where
        choose : (o : Option Acted) → act d (scene d k) p ≡ o → option_map (λ x. with_process k i x.writes x.process) o ≡ Some a → Ran d k a i
        choose None f g = cc
        choose (Some x) f g = record { process = p; is = e; acted = x; acts = f; end = cc }

pub record Updated (d : Flat) (k a : Config) (i : ℕ) : Type 0 where
  pub process : Process
  pub is : slice_get k.procs i ≡ Some process
  pub writes : List Write
  pub more : List (List Write)
  pub updates : process.updates ≡ writes ∷ more
  pub end : with_process k i writes (record process { updates = more }) ≡ a

pub updated_is : (d : Flat) (k a : Config) (i : ℕ) → take_update k i (slice_get k.procs i) ≡ Some a → Updated d k a i
updated_is d k a i h = go (slice_get k.procs i) refl h
  where
    go : (o : Option Process) → slice_get k.procs i ≡ o → take_update k i o ≡ Some a → Updated d k a i
    go None e m = cc
    go (Some p) e m = choose p.updates refl m
      where
        choose : (us : List (List Write)) → p.updates ≡ us → take_oldest k i p us ≡ Some a → Updated d k a i
        choose [] f g = cc
        choose (ws ∷ more) f g = record { process = p; is = e; writes = ws; more = more; updates = f; end = cc }

pub if_some : {X : Type 0} (b : Bool) (o : Option X) (x : X) → (if b then o else None) ≡ Some x → (b ≡ true) × (o ≡ Some x)
if_some true o x h = (refl, h)
if_some false o x h = cc

pub update_is : (d : Flat) (k a : Config) (i : ℕ) → step d (Update i) k ≡ Some a → (is_calm k ≡ true) × Updated d k a i
update_is d k a i h = let x : (is_calm k ≡ true) × (take_update k i (slice_get k.procs i) ≡ Some a) = if_some (is_calm k) (take_update k i (slice_get k.procs i)) a h in (x.0, updated_is d k a i x.1)

-- a process that has an event isn't calm
calm_not : (a b : Bool) → (not a && not b) ≡ true → a ≡ true → ⊥
calm_not true b h e = cc
calm_not false b h e = cc

pub ran_can : (d : Flat) (k a : Config) (i : ℕ) → Ran d k a i → list_any can_run k.procs ≡ true
ran_can d k a i r = any_got can_run k.procs i r.process r.is (sym (acts d (scene d k) r.process) ∙ ap is_some r.acts)

-- another process and store
pub set_fine : (d : Flat) (k : Config) (i : ℕ) (ws : List Write) (p : Process) → Fine d k → ProcessShared d i p → Fine d (with_process k i ws p)
set_fine d k i ws p fine shared = record { size = length_all k.store ws ∙ fine.size; procs = procs }
  where
    procs : (j : ℕ) (q : Process) → slice_get (set k.procs i p) j ≡ Some q → ProcessShared d j q
    procs j q h = go (cases_eq j i)
      where
        go : (j ≡ i) ⊎ (j ≡ i → ⊥) → ProcessShared d j q
        go (inr n) = fine.procs j q (sym (set_other k.procs i j p n) ∙ h)
        go (inl e) =
            let at : slice_get (set k.procs i p) i ≡ Some q = subst (λ m. slice_get (set k.procs i p) m ≡ Some q) e h in
            let l : i < length (set k.procs i p) = slice_get_within (set k.procs i p) i q at in
            let s : length (set k.procs i p) ≡ length k.procs = length-set k.procs i p in
            subst (λ m. ProcessShared d m q) (sym e) (subst (ProcessShared d i) (got_one (slice_get (set k.procs i p) i) p q (set_got k.procs i p (omega arith)) at) shared)

module _ (d : Flat) (sound : IsSound d) where
  pub ran_shared : (k a : Config) (i : ℕ) → Fine d k → (r : Ran d k a i) → Acts d i r.process r.acted
  ran_shared k a i fine r = act_shared d i sound (scene d k) r.process r.acted (fine.procs i r.process r.is).stack r.acts

  pub ran_fine : (k a : Config) (i : ℕ) → Fine d k → Ran d k a i → Fine d a
  ran_fine k a i fine r =
      let x : Acts d i r.process r.acted = ran_shared k a i fine r in
      subst (Fine d) r.end (set_fine d k i r.acted.writes r.acted.process fine (record {
        stack = x.stack;
        updates = subst (All (WritesIn (WritesNonblocking d i))) (sym x.updates) (All-append (WritesIn (WritesNonblocking d i)) r.process.updates x.more (fine.procs i r.process r.is).updates x.held);
      }))

  pub updated_shared : (k a : Config) (i : ℕ) → Fine d k → (r : Updated d k a i) → WritesIn (WritesNonblocking d i) r.writes × All (WritesIn (WritesNonblocking d i)) r.more
  updated_shared k a i fine r =
      let h : All (WritesIn (WritesNonblocking d i)) (r.writes ∷ r.more) = subst (All (WritesIn (WritesNonblocking d i))) r.updates (fine.procs i r.process r.is).updates in
      (All-head (WritesIn (WritesNonblocking d i)) r.writes r.more h, All-tail (WritesIn (WritesNonblocking d i)) r.writes r.more h)

  pub updated_fine : (k a : Config) (i : ℕ) → Fine d k → Updated d k a i → Fine d a
  updated_fine k a i fine r =
      subst (Fine d) r.end (set_fine d k i r.writes (record r.process { updates = r.more }) fine (record { stack = (fine.procs i r.process r.is).stack; updates = (updated_shared k a i fine r).1 }))

  pub step_fine : (k a : Config) (e : Event) → Fine d k → step d e k ≡ Some a → Fine d a
  step_fine k a (Run i) fine h = ran_fine k a i fine (ran_is d k a i h)
  step_fine k a (Follow n) fine h = cc
  step_fine k a (Update i) fine h = updated_fine k a i fine (update_is d k a i h).1

  module _ (clean : IsClean d) where
    no_two : (i j v : ℕ) → (i ≡ j → ⊥) → v < length d.vars → Writes d i v → Writes d j v → ⊥
    no_two i j v n l a b = let x : (var : Var) × (slice_get d.vars v ≡ Some var) = got_below d.vars v l in clean 14 70 x.0.place (two_writers (two_write x.1 n a b))

    no_across : (i j v : ℕ) → (j ≡ i → ⊥) → v < length d.vars → WritesBlocking d i v → Reads d j v → ⊥
    no_across i j v n l a b = let x : (var : Var) × (slice_get d.vars v ≡ Some var) = got_below d.vars v l in clean 14 72 x.0.place (across (variable_across x.1 a n b))

    -- an event of another process leaves what a process reads
    other_same : (k : Config) (i j : ℕ) (ws : List Write) (q : Process) → (j ≡ i → ⊥) → Fine d k → WritesIn (WritesBlocking d i) ws → Same (Reads d j) (ReadsNet d j) (scene d (with_process k i ws q)) (scene d k)
    other_same k i j ws q n fine w = record {
      agree = record {
        calls = refl;
        words = λ v r. kept_in (WritesBlocking d i) k.store ws v w (λ l b. no_across i j v n (subst (λ m. v < m) fine.size l) b r);
        values = λ m x r. refl;
      };
      size = length_all k.store ws;
    }

    run_after : (k b : Config) (i j : ℕ) (ws : List Write) (q : Process) → (j ≡ i → ⊥) → Fine d k → WritesIn (WritesBlocking d i) ws → (r : Ran d k b j) →
        step d (Run j) (with_process k i ws q) ≡ Some (with_process (with_process k i ws q) j r.acted.writes r.acted.process)
    run_after k b i j ws q n fine w r =
        let other : Config = with_process k i ws q in
        ap (take_run d other j) (set_other k.procs i j q n ∙ r.is)
        ∙ ap (option_map (λ x. with_process other j x.writes x.process))
        (act_same d j sound (scene d other) (scene d k) (other_same k i j ws q n fine w) r.process (fine.procs j r.process r.is).stack ∙ r.acts)

    update_after : (k b : Config) (i j : ℕ) (ws : List Write) (p q : Process) → (j ≡ i → ⊥) → slice_get k.procs i ≡ Some p → q.stack ≡ p.stack → q.replies ≡ p.replies → is_calm k ≡ true → (r : Updated d k b j) →
        step d (Update j) (with_process k i ws q) ≡ Some (with_process (with_process k i ws q) j r.writes (record r.process { updates = r.more }))
    update_after k b i j ws p q n is stack replies calm r =
        let other : Config = with_process k i ws q in
        let run : list_any can_run (set k.procs i q) ≡ list_any can_run k.procs = any_set can_run k.procs i p q is (ap₂ (λ s rs. can_run_at s rs) stack replies) in
        let stuck : list_any is_stuck (set k.procs i q) ≡ list_any is_stuck k.procs = any_set is_stuck k.procs i p q is (ap₂ (λ s rs. is_stuck_at s rs) stack replies) in
        let still : is_calm other ≡ true = ap₂ (λ x y. not x && not y) run stuck ∙ calm in
        ap (λ c. if c then take_update other j (slice_get (set k.procs i q) j) else None) still
        ∙ ap (take_update other j) (set_other k.procs i j q n ∙ r.is)
        ∙ ap (take_oldest other j r.process) r.updates

    -- the two in either order
    both_orders : (k : Config) (i j : ℕ) (ws us : List Write) (p q : Process) (A B : ℕ → Type 0) → (i ≡ j → ⊥) → Fine d k → WritesIn A ws → WritesIn B us → ((v : ℕ) → A v → Writes d i v) → ((v : ℕ) → B v → Writes d j v) →
        with_process (with_process k i ws p) j us q ≡ with_process (with_process k j us q) i ws p
    both_orders k i j ws us p q A B n fine w u f g =
        ap₂ (λ store procs. record k { store = store; procs = procs })
        (put_swap A B k.store ws us w u (λ v l a b. no_two i j v n (subst (λ m. v < m) fine.size l) (f v a) (g v b)))
        (set_comm k.procs i j p q n)

    abbrev Meeting : Config → Config → Event → Event → Type 0
    Meeting a b p q = (p ≡ q) ⊎ ((c : Config) × (step d q a ≡ Some c) × (step d p b ≡ Some c))

    runs_swap : (k a b : Config) (i j : ℕ) → Fine d k → Ran d k a i → Ran d k b j → Meeting a b (Run i) (Run j)
    runs_swap k a b i j fine r s = go (cases_eq i j)
      where
        go : (i ≡ j) ⊎ (i ≡ j → ⊥) → Meeting a b (Run i) (Run j)
        go (inl e) = inl (ap Run e)
        go (inr n) =
            let x : Acts d i r.process r.acted = ran_shared k a i fine r in
            let y : Acts d j s.process s.acted = ran_shared k b j fine s in
            inr (
              with_process (with_process k i r.acted.writes r.acted.process) j s.acted.writes s.acted.process,
              ap (step d (Run j)) (sym r.end) ∙ run_after k b i j r.acted.writes r.acted.process (λ e. n (sym e)) fine x.writes s,
              ap (step d (Run i)) (sym s.end) ∙ run_after k a j i s.acted.writes s.acted.process n fine y.writes r
                  ∙ ap Some (sym (both_orders k i j r.acted.writes s.acted.writes r.acted.process s.acted.process (WritesBlocking d i) (WritesBlocking d j) n fine x.writes y.writes (λ v h. by_blocking h) (λ v h. by_blocking h))),
            )

    updates_swap : (k a b : Config) (i j : ℕ) → Fine d k → is_calm k ≡ true → Updated d k a i → Updated d k b j → Meeting a b (Update i) (Update j)
    updates_swap k a b i j fine calm r s = go (cases_eq i j)
      where
        go : (i ≡ j) ⊎ (i ≡ j → ⊥) → Meeting a b (Update i) (Update j)
        go (inl e) = inl (ap Update e)
        go (inr n) =
            let p : Process = record r.process { updates = r.more } in
            let q : Process = record s.process { updates = s.more } in
            inr (
              with_process (with_process k i r.writes p) j s.writes q,
              ap (step d (Update j)) (sym r.end) ∙ update_after k b i j r.writes r.process p (λ e. n (sym e)) r.is refl refl calm s,
              ap (step d (Update i)) (sym s.end) ∙ update_after k a j i s.writes s.process q n s.is refl refl calm r
                  ∙ ap Some (sym (both_orders k i j r.writes s.writes p q (WritesNonblocking d i) (WritesNonblocking d j) n fine (updated_shared k a i fine r).0 (updated_shared k b j fine s).0 (λ v h. by_nonblocking h) (λ v h. by_nonblocking h))),
            )

    mixed_not : (k a b : Config) (i : ℕ) → Ran d k a i → is_calm k ≡ true → ⊥
    mixed_not k a b i r calm = calm_not (list_any can_run k.procs) (list_any is_stuck k.procs) calm (ran_can d k a i r)

    swap : (k a b : Config) (p q : Event) → Fine d k → step d p k ≡ Some a → step d q k ≡ Some b → Meeting a b p q
    swap k a b (Run i) (Run j) fine h g = runs_swap k a b i j fine (ran_is d k a i h) (ran_is d k b j g)
    swap k a b (Run i) (Follow n) fine h g = cc
    swap k a b (Run i) (Update j) fine h g = absurd (mixed_not k a b i (ran_is d k a i h) (update_is d k b j g).0)
    swap k a b (Follow n) q fine h g = cc
    swap k a b (Update i) (Run j) fine h g = absurd (mixed_not k b a j (ran_is d k b j g) (update_is d k a i h).0)
    swap k a b (Update i) (Follow n) fine h g = cc
    swap k a b (Update i) (Update j) fine h g = updates_swap k a b i j fine (update_is d k a i h).0 (update_is d k a i h).1 (update_is d k b j g).1

    pub diamond : Diamond Config Event (step d) (Fine d)
    diamond = record { kept = λ k a e fine h. step_fine k a e fine h; swap = swap }
