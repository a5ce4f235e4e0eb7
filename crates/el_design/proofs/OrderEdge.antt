-- A whole edge in the order of the first place: the processes, and then their updates, after which no event of a process is left.
use Rattle.std.proofs.Common.{◌≡◌, ◌⊎◌, inl, inr, ℕ, zero, suc, ◌+◌, ◌<◌, ◌≤◌, not, ◌&&◌, Bool, true, false, if◌then◌else◌, List, [], ◌∷◌, ◌++◌, All, Option, Some, None, is_some, slice_get, get_or, set, map, fold, length, refl, sym, ◌∙◌, ap, ap₂, subst, arith, append_assoc}
use Rattle.std.specs.List.{list_any}
use Rattle.std.proofs.lemmas.Bool.{cases_eq}
use Rattle.std.proofs.lemmas.List.Elements.{All-head}
use Rattle.xt_bits.specs.Word.{Word}
use Rattle.xt_bits.specs.Stimulus.{Reply}
use Rattle.el_design.specs.Plain.{Statement, Null, Skip, Seq, Block, Assign, If, Case, Arm, For, While, Repeat, Forever, Wait, Enable, Disable, Host, FlatProc, Flat}
use Rattle.el_design.specs.Store.{Store, Write, put_all}
use Rattle.el_design.specs.Stack.{Work, Do, End, Return, Test, Step, Turns, Await}
use Rattle.el_design.specs.Act.{Process, Acted, act}
use Rattle.el_design.specs.Queue.{Config, scene, can_run_at, can_run, is_stuck, Event, Run, Follow, Update, with_process, take_run, take_oldest, take_update}
use Rattle.el_design.specs.Touches.{WritesBlocking, WritesNonblocking, by_blocking, by_nonblocking}
use Rattle.el_design.specs.Sizes.{u_of}
use Rattle.el_design.specs.Rules.{max_turns, IsClean, two_write, two_writers, both_ways, both_kinds}
use Rattle.el_design.specs.Sound.{IsSound}
use Rattle.el_design.specs.Alone.{setting, is_stop, round, update_all, without_updates, edge_end}
use Rattle.el_design.proofs.Ready.{acts}
use Rattle.el_design.proofs.OrderRule.{CountsEnough, IsShaped, shaped_all}
use Rattle.el_design.proofs.OrderWrites.{WritesIn}
use Rattle.el_design.proofs.OrderSwap.{kept_in}
use Rattle.el_design.proofs.OrderStop.{deep}
use Rattle.el_design.proofs.OrderDiamond.{count, Path, Ended}
use Rattle.el_design.proofs.OrderCommute.{is_calm, step, Fine, step_fine}
use Rattle.el_design.proofs.OrderPlaces.{got_middle, got_below, any_set}
use Rattle.el_design.proofs.OrderPath.{path_on, path_fine, count_both, is_run}
use Rattle.el_design.proofs.OrderRound.{Dones, Todos, dones_moved, set_middle, Rounded, rounds}

-- ---- where all have stopped

pub stop_not : (k : List Work) (rs : List Reply) → is_stop k rs ≡ true → can_run_at k rs ≡ false
stop_not [] rs e = refl
stop_not (Do (Wait at falling) ∷ k) rs e = refl
stop_not (Do (Arm on labels body others) ∷ k) rs e = refl
stop_not (Await at f result outs ∷ k) rs e = ap not e
stop_not (Do Null ∷ k) rs e = refl
stop_not (Do Skip ∷ k) rs e = refl
stop_not (Do (Seq u v) ∷ k) rs e = refl
stop_not (Do (Block at mark body) ∷ k) rs e = refl
stop_not (Do (Assign at to v held) ∷ k) rs e = cc
stop_not (Do (If at v l r) ∷ k) rs e = cc
stop_not (Do (Case at on arms) ∷ k) rs e = cc
stop_not (Do (For at v l r q body) ∷ k) rs e = cc
stop_not (Do (While at v body) ∷ k) rs e = cc
stop_not (Do (Repeat at v body) ∷ k) rs e = cc
stop_not (Do (Forever at body) ∷ k) rs e = refl
stop_not (Do (Enable at t ins outs) ∷ k) rs e = cc
stop_not (Do (Disable at m) ∷ k) rs e = cc
stop_not (Do (Host at f ins result outs) ∷ k) rs e = cc
stop_not (End m ∷ k) rs e = refl
stop_not (Return at m outs ∷ k) rs e = cc
stop_not (Test at v l r body ∷ k) rs e = cc
stop_not (Step at v l r body ∷ k) rs e = cc
stop_not (Turns at n body ∷ k) rs e = cc

none_can : (d : Flat) (i : ℕ) (store : Store) (ps : List Process) → Dones d i store ps → list_any can_run ps ≡ false
none_can d i store [] x = refl
none_can d i store (p ∷ ps) x = ap₂ (λ a b. Rattle.std.specs.Prelude.◌||◌ a b) (stop_not p.stack p.replies x.0.2) (none_can d (suc i) store ps x.1)

same_can : (ps : List Process) → list_any can_run (map without_updates ps) ≡ list_any can_run ps
same_can [] = refl
same_can (p ∷ ps) = ap (λ b. Rattle.std.specs.Prelude.◌||◌ (can_run p) b) (same_can ps)

any_none : {X : Type 0} (f : X → Bool) (xs : List X) (i : ℕ) (x : X) → list_any f xs ≡ false → slice_get xs i ≡ Some x → f x ≡ false
any_none f [] i x n e = cc
any_none f (y ∷ ys) zero x n e = go (f y) refl n
  where
    some_is : {X : Type 0} (a b : X) → Some a ≡ Some b → a ≡ b
    some_is a b e = cc

    go : (b : Bool) → f y ≡ b → Rattle.std.specs.Prelude.◌||◌ b (list_any f ys) ≡ false → f x ≡ false
    go true h m = cc
    go false h m = subst (λ z. f z ≡ false) (some_is y x e) h
any_none f (y ∷ ys) (suc i) x n e = any_none f ys i x (go (f y) n) e
  where
    go : (b : Bool) → Rattle.std.specs.Prelude.◌||◌ b (list_any f ys) ≡ false → list_any f ys ≡ false
    go true m = cc
    go false m = m

no_event : (d : Flat) (k : Config) (i : ℕ) → list_any can_run k.procs ≡ false → step d (Run i) k ≡ None
no_event d k i n = go (slice_get k.procs i) refl
  where
    go : (o : Option Process) → slice_get k.procs i ≡ o → take_run d k i o ≡ None
    go None e = refl
    go (Some p) e = acted (act d (scene d k) p) (acts d (scene d k) p ∙ any_none can_run k.procs i p n e)
      where
        acted : (o : Option Acted) → is_some o ≡ false → Rattle.std.specs.Prelude.option_map (λ a. with_process k i a.writes a.process) o ≡ None
        acted None h = refl
        acted (Some a) h = cc

module _ (d : Flat) (clean : IsClean d) (sound : IsSound d) where
  -- the updates of a process change no variable that one writes by blocking
  untouched : (i j : ℕ) (store : Store) (ws : List Write) → length store ≡ length d.vars → WritesIn (WritesNonblocking d i) ws → (v : ℕ) → WritesBlocking d j v → get_or (put_all store ws) v [] ≡ get_or store v []
  untouched i j store ws l w v b = kept_in (WritesNonblocking d i) store ws v w (λ h n. go (got_below d.vars v (let e : length store ≡ length d.vars = l in omega arith)) n (cases_eq i j))
    where
      go : (x : Rattle.el_design.specs.declared.designs.Var.Var) × (slice_get d.vars v ≡ Some x) → WritesNonblocking d i v → (i ≡ j) ⊎ (i ≡ j → ⊥) → ⊥
      go var n (inl e) = clean 14 71 _ (both_kinds (both_ways var.1 b (subst (λ m. WritesNonblocking d m v) e n)))
      go var n (inr e) = clean 14 70 _ (two_writers (two_write var.1 e (by_nonblocking n) (by_blocking b)))

  -- from a calm state updates alone lead to another
  pub record Cleared (c e : Config) : Type 0 where
    pub events : List Event
    pub path : Path (step d) events c e
    pub calm : is_calm e ≡ true
    pub fine : Fine d e
    pub shape : map length e.store ≡ map length c.store
    pub words : (j v : ℕ) → WritesBlocking d j v → get_or e.store v [] ≡ get_or c.store v []
    pub runs : (q : ℕ) → count (is_run q) events ≡ 0

  cleared_on : (a b c : Config) → Cleared a b → Cleared b c → Cleared a c
  cleared_on a b c x y = record {
    events = x.events ++ y.events;
    path = path_on d x.events y.events a b c x.path y.path;
    calm = y.calm;
    fine = y.fine;
    shape = y.shape ∙ x.shape;
    words = λ j v w. y.words j v w ∙ x.words j v w;
    runs = λ q. let e : count (is_run q) (x.events ++ y.events) ≡ count (is_run q) x.events + count (is_run q) y.events = count_both (is_run q) x.events y.events in let f : count (is_run q) x.events ≡ 0 = x.runs q in let g : count (is_run q) y.events ≡ 0 = y.runs q in omega arith;
  }

  cleared_itself : (c e : Config) → c ≡ e → is_calm c ≡ true → Fine d c → Cleared c e
  cleared_itself c e same calm fine = subst (Cleared c) same (record { events = []; path = refl; calm = calm; fine = fine; shape = refl; words = λ j v w. refl; runs = λ q. refl })

  clear : (us : List (List Write)) (p : Process) (done rest : List Process) (c : Config) → p.updates ≡ us → c.procs ≡ done ++ p ∷ rest → is_calm c ≡ true → Fine d c →
      Cleared c (record c { store = fold put_all c.store us; procs = done ++ without_updates p ∷ rest })
  clear [] p done rest c u e calm fine = cleared_itself c _ (ap (λ ps. record c { procs = ps }) (e ∙ ap (λ us. done ++ record p { updates = us } ∷ rest) u)) calm fine
  clear (ws ∷ more) p done rest c u e calm fine = cleared_on c c2 _ first (clear more p2 done rest c2 refl placed calm2 fine2)
    where
      i : ℕ
      i = length done

      p2 : Process
      p2 = record p { updates = more }

      c2 : Config
      c2 = with_process c i ws p2

      got : slice_get c.procs i ≡ Some p
      got = ap (λ ps. slice_get ps i) e ∙ got_middle done rest p

      placed : c2.procs ≡ done ++ p2 ∷ rest
      placed = ap (λ ps. set ps i p2) e ∙ set_middle done rest p p2

      taken : step d (Update i) c ≡ Some c2
      taken = ap (λ b. if b then take_update c i (slice_get c.procs i) else None) calm ∙ ap (take_update c i) got ∙ ap (take_oldest c i p) u

      calm2 : is_calm c2 ≡ true
      calm2 = ap₂ (λ a b. not a && not b) (any_set can_run c.procs i p p2 got refl) (any_set is_stuck c.procs i p p2 got refl) ∙ calm

      fine2 : Fine d c2
      fine2 = step_fine d sound c c2 (Update i) fine taken

      writes : WritesIn (WritesNonblocking d i) ws
      writes = All-head (WritesIn (WritesNonblocking d i)) ws more (subst (All (WritesIn (WritesNonblocking d i))) u (fine.procs i p got).updates)

      first : Cleared c c2
      first = record {
        events = Update i ∷ [];
        path = (c2, taken, refl);
        calm = calm2;
        fine = fine2;
        shape = shaped_all c.store ws;
        words = λ j v w. untouched i j c.store ws fine.size writes v w;
        runs = λ q. refl;
      }

  clear_all : (rest done : List Process) (c : Config) → c.procs ≡ done ++ rest → is_calm c ≡ true → Fine d c → Cleared c (record c { store = update_all c.store rest; procs = done ++ map without_updates rest })
  clear_all [] done c e calm fine = cleared_itself c _ (ap (λ ps. record c { procs = ps }) e) calm fine
  clear_all (p ∷ rest) done c e calm fine =
      let first : Cleared c (record c { store = fold put_all c.store p.updates; procs = done ++ without_updates p ∷ rest }) = clear p.updates p done rest c refl e calm fine in
      cleared_on c _ _ first
      (subst (λ ps. Cleared (record c { store = fold put_all c.store p.updates; procs = done ++ without_updates p ∷ rest }) (record c { store = update_all (fold put_all c.store p.updates) rest; procs = ps })) (append_assoc done (without_updates p ∷ []) (map without_updates rest))
      (clear_all rest (done ++ without_updates p ∷ []) (record c { store = fold put_all c.store p.updates; procs = done ++ without_updates p ∷ rest }) (sym (append_assoc done (without_updates p ∷ []) rest)) first.calm first.fine))

  dones_cleared : (i : ℕ) (store : Store) (ps : List Process) → Dones d i store ps → Dones d i store (map without_updates ps)
  dones_cleared i store [] x = tt
  dones_cleared i store (p ∷ ps) x = ((x.0.0, x.0.1, x.0.2, x.0.3), dones_cleared (suc i) store ps x.1)

  no_update : (k : Config) (ps : List Process) (i : ℕ) → k.procs ≡ map without_updates ps → take_update k i (slice_get k.procs i) ≡ None
  no_update k ps i e = ap (λ qs. take_update k i (slice_get qs i)) e ∙ go ps i
    where
      go : (ps : List Process) (j : ℕ) → take_update k i (slice_get (map without_updates ps) j) ≡ None
      go [] j = refl
      go (p ∷ ps) zero = refl
      go (p ∷ ps) (suc j) = go ps j

  module _ (times : List ℕ → Statement → ℕ) (counts : CountsEnough d times) (nets : List Word) (turns : ℕ) (enough : max_turns < turns) where
    -- a schedule of the events of processes that ends
    pub record Edge (c e : Config) : Type 0 where
      pub events : List Event
      pub path : Path (step d) events c e
      pub ended : Ended (step d) e
      pub few : (q : ℕ) (process : FlatProc) → slice_get d.procs q ≡ Some process → count (is_run q) events ≤ u_of d times process
      pub dones : Dones d 0 e.store e.procs
      pub shape : map length e.store ≡ map length c.store
      pub fine : Fine d e

    if_none : (b : Bool) (o : Option Config) → (b ≡ true → o ≡ None) → (if b then o else None) ≡ None
    if_none true o h = h refl
    if_none false o h = refl

    pub edge : (xs : List (List Work × Process)) (c : Config) → c.nets ≡ nets → c.procs ≡ map (λ x. x.1) xs → IsShaped d c.store → Todos d 0 c.store xs → Fine d c → Edge c (edge_end (setting d nets turns (deep d)) c xs)
    edge xs c n e sh ts fine = choose (list_any is_stuck ps) refl
      where
        store : Store
        store = (round (setting d nets turns (deep d)) c.store xs).0

        ps : List Process
        ps = (round (setting d nets turns (deep d)) c.store xs).1

        r : Rounded d clean sound times counts nets turns enough c [] store ps
        r = rounds d clean sound times counts nets turns enough xs [] c n e sh tt ts

        middle : Config
        middle = record c { store = store; procs = ps }

        stopped : list_any can_run ps ≡ false
        stopped = none_can d 0 store ps r.dones

        fine_middle : Fine d middle
        fine_middle = path_fine d sound r.events c middle r.path fine

        choose : (b : Bool) → list_any is_stuck ps ≡ b → Edge c (if b then middle else record c { store = update_all store ps; procs = map without_updates ps })
        choose true f = record { events = r.events; path = r.path; ended = ended; few = r.few; dones = r.dones; shape = r.shape; fine = fine_middle }
          where
            ended : Ended (step d) middle
            ended (Run i) = no_event d middle i stopped
            ended (Follow i) = refl
            ended (Update i) = if_none (is_calm middle) _ (λ g. absurd (let h : false ≡ true = sym (ap₂ (λ a b. not a && not b) stopped f) ∙ g in cc))
        choose false f = record {
          events = r.events ++ x.events;
          path = path_on d r.events x.events c middle _ r.path x.path;
          ended = ended;
          few = λ q process h. let a : count (is_run q) r.events ≤ u_of d times process = r.few q process h in let b : count (is_run q) x.events ≡ 0 = x.runs q in
              let s : count (is_run q) (r.events ++ x.events) ≡ count (is_run q) r.events + count (is_run q) x.events = count_both (is_run q) r.events x.events in omega arith;
          dones = dones_cleared 0 (update_all store ps) ps (dones_moved d clean 0 store (update_all store ps) ps (λ j v a b w. x.words j v w) r.dones);
          shape = x.shape ∙ r.shape;
          fine = x.fine;
        }
          where
            x : Cleared middle (record c { store = update_all store ps; procs = map without_updates ps })
            x = clear_all ps [] middle refl (ap₂ (λ a b. not a && not b) stopped f) fine_middle

            ended : Ended (step d) (record c { store = update_all store ps; procs = map without_updates ps })
            ended (Run i) = no_event d _ i (same_can ps ∙ stopped)
            ended (Follow i) = refl
            ended (Update i) = if_none (is_calm (record c { store = update_all store ps; procs = map without_updates ps })) _ (λ g. no_update (record c { store = update_all store ps; procs = map without_updates ps }) ps i refl)
