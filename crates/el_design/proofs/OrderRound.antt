-- Process after process, in the order of the first place.
use Rattle.std.proofs.Common.{◌≡◌, ◌≢◌, ◌⊎◌, inl, inr, ℕ, zero, suc, ◌+◌, ◌<◌, ◌≤◌, ◌==◌, Bool, true, false, if◌then◌else◌, List, [], ◌∷◌, ◌++◌, Option, Some, None, Contains, slice_get, get_or, set, map, fold, length, refl, sym, ◌∙◌, ap, ap₂, subst, arith, append_assoc, append-nil, eq-eqb, T, eqb→eq}
use Rattle.std.proofs.lemmas.List.{get_or_past}
use Rattle.xt_base.specs.declared.refusals.Place.{Place}
use Rattle.xt_bits.specs.Word.{Word}
use Rattle.el_design.specs.Plain.{Expr, Statement, Null, Skip, Seq, Block, Assign, If, Case, Arm, For, While, Repeat, Forever, Wait, Enable, Disable, Host, FlatProc, Flat}
use Rattle.el_design.specs.Store.{Store}
use Rattle.el_design.specs.Names.{target_variables}
use Rattle.el_design.specs.Stack.{Work, Do, End, Return, Test, Step, Turns, Await, settle, is_waiting}
use Rattle.el_design.specs.Act.{Process}
use Rattle.el_design.specs.Queue.{Config, is_stuck_at, Event}
use Rattle.el_design.specs.InPlace.{Stands, itself, HasInPlace, Meets}
use Rattle.el_design.specs.InPlace as place
use Rattle.el_design.specs.Turns.{stored_by}
use Rattle.el_design.specs.Touches.{WritesBlocking, writes_blocking, writes_nonblocking, Writes, by_blocking, by_nonblocking}
use Rattle.el_design.specs.Sizes.{u_of}
use Rattle.el_design.specs.Rules.{max_turns, IsClean, two_write, two_writers}
use Rattle.el_design.specs.Sound.{IsSound}
use Rattle.el_design.specs.Alone.{Doing, Falls, Stops, Jumps, Lost, Setting, go_stack, setting, is_stop, process_of, Goes, stays, doing, alone_end, round}
use Rattle.el_design.proofs.OrderLists.{con_nil, con_head}
use Rattle.el_design.proofs.Texts.{met_in_place}
use Rattle.el_design.proofs.OrderRule.{CountsEnough, split, IsShaped}
use Rattle.el_design.proofs.OrderOutcome.{FreeIn, Kept, kept_store, Paused, at_wait, in_first, in_rest, in_block, in_named, in_then, in_else, in_case, in_arm, in_others, in_for, in_while, in_repeat, in_forever, in_task}
use Rattle.el_design.proofs.OrderStop.{root, deep, Stopped, starts, goes_from}
use Rattle.el_design.proofs.OrderDiamond.{count, Path}
use Rattle.el_design.proofs.OrderCommute.{step}
use Rattle.el_design.proofs.OrderPlaces.{got_one, got_middle, got_below}
use Rattle.el_design.proofs.OrderPath.{path_on, count_both, is_run, further, Ways, ways}

-- ---- what a process stores to, it writes

nonblocking_only : (d : Flat) (p : ℕ) (x : Statement) (v : ℕ) → HasInPlace d p x → Contains (stored_by d x) v → Writes d p v
nonblocking_only d p (Assign at to e true) v m c = by_nonblocking (writes_nonblocking m (subst (λ l. Contains l v) (append-nil (target_variables to)) c))
nonblocking_only d p (Assign at to e false) v m c = by_blocking (writes_blocking m c)
nonblocking_only d p Null v m c = by_blocking (writes_blocking m c)
nonblocking_only d p Skip v m c = by_blocking (writes_blocking m c)
nonblocking_only d p (Seq a b) v m c = by_blocking (writes_blocking m c)
nonblocking_only d p (Block at mark body) v m c = by_blocking (writes_blocking m c)
nonblocking_only d p (If at test a b) v m c = by_blocking (writes_blocking m c)
nonblocking_only d p (Case at on arms) v m c = by_blocking (writes_blocking m c)
nonblocking_only d p (Arm on labels body others) v m c = by_blocking (writes_blocking m c)
nonblocking_only d p (For at w first test next body) v m c = by_blocking (writes_blocking m c)
nonblocking_only d p (While at test body) v m c = by_blocking (writes_blocking m c)
nonblocking_only d p (Repeat at n body) v m c = by_blocking (writes_blocking m c)
nonblocking_only d p (Forever at body) v m c = by_blocking (writes_blocking m c)
nonblocking_only d p (Wait at falling) v m c = by_blocking (writes_blocking m c)
nonblocking_only d p (Enable at t ins outs) v m c = by_blocking (writes_blocking m c)
nonblocking_only d p (Disable at n) v m c = by_blocking (writes_blocking m c)
nonblocking_only d p (Host at f ins result outs) v m c = by_blocking (writes_blocking m c)

module _ (d : Flat) (p : ℕ) (process : FlatProc) (here : slice_get d.procs p ≡ Some process) where
  meets : (o : List ℕ) (x : Statement) → Stands d.tasks [] process.body o x → Meets d p o x
  meets o x st = record { process = process; is = here; stands = st }

  pub root_writes : (o : List ℕ) (x : Statement) (v : ℕ) → Stands d.tasks [] (root process) o x → Contains (stored_by d x) v → Writes d p v
  root_writes o x v st c = go process.always st
    where
      always : Stands d.tasks [] (Forever process.place process.body) o x → Writes d p v
      always st = pick st c
        where
          pick : {q : List ℕ} {y : Statement} → Stands d.tasks [] (Forever process.place process.body) q y → Contains (stored_by d y) v → Writes d p v
          pick itself c = absurd (con_nil v c)
          pick {q} {y} (place.in_forever st) c = nonblocking_only d p y v (met_in_place (meets q y st)) c

      go : (b : Bool) → Stands d.tasks [] (if b then Forever process.place process.body else process.body) o x → Writes d p v
      go true st = always st
      go false st = nonblocking_only d p x v (met_in_place (meets o x st)) c

  -- the variables of the `for` loops in a statement
  abbrev Loops : List ℕ → Statement → Type 0
  Loops marks s = (o : List ℕ) (at : Place) (v : ℕ) (a b c : Expr) (body : Statement) → Stands d.tasks marks s o (For at v a b c body) → WritesBlocking d p v

  -- a stack waits also where other variables have other values
  paused_moved : (store other : Store) → ((v : ℕ) → WritesBlocking d p v → get_or other v [] ≡ get_or store v []) → {marks : List ℕ} {s : Statement} {below k : List Work} → Loops marks s → Paused d store marks s below k → Paused d other marks s below k
  paused_moved store other f l at_wait = at_wait
  paused_moved store other f l (in_first q) = in_first (paused_moved store other f (λ o at v a b c body st. l o at v a b c body (place.in_first st)) q)
  paused_moved store other f l (in_rest q) = in_rest (paused_moved store other f (λ o at v a b c body st. l o at v a b c body (place.in_rest st)) q)
  paused_moved store other f l (in_block q) = in_block (paused_moved store other f (λ o at v a b c body st. l o at v a b c body (place.in_block st)) q)
  paused_moved store other f l (in_named q) = in_named (paused_moved store other f (λ o at v a b c body st. l o at v a b c body (place.in_named st)) q)
  paused_moved store other f l (in_then q) = in_then (paused_moved store other f (λ o at v a b c body st. l o at v a b c body (place.in_then st)) q)
  paused_moved store other f l (in_else q) = in_else (paused_moved store other f (λ o at v a b c body st. l o at v a b c body (place.in_else st)) q)
  paused_moved store other f l (in_case q) = in_case (paused_moved store other f (λ o at v a b c body st. l o at v a b c body (place.in_case st)) q)
  paused_moved store other f l (in_arm q) = in_arm (paused_moved store other f (λ o at v a b c body st. l o at v a b c body (place.in_arm st)) q)
  paused_moved store other f l (in_others q) = in_others (paused_moved store other f (λ o at v a b c body st. l o at v a b c body (place.in_others st)) q)
  paused_moved store other f {marks = marks} l (in_for {at = at} {v = v} {first = first} {test = test} {next = next} {body = body} j t q) =
      in_for j (λ c. (f v (l marks at v first test next body itself) ∙ (t c).0, (t c).1)) (paused_moved store other f (λ o at v a b c body st. l o at v a b c body (place.in_for st)) q)
  paused_moved store other f l (in_while q) = in_while (paused_moved store other f (λ o at v a b c body st. l o at v a b c body (place.in_while st)) q)
  paused_moved store other f l (in_repeat left b q) = in_repeat left b (paused_moved store other f (λ o at v a b c body st. l o at v a b c body (place.in_repeat st)) q)
  paused_moved store other f l (in_forever q) = in_forever (paused_moved store other f (λ o at v a b c body st. l o at v a b c body (place.in_forever st)) q)
  paused_moved store other f l (in_task e q) = in_task e (paused_moved store other f (λ o at v a b c body st. l o at v a b c body (place.in_task e st)) q)

  root_loops : Loops [] (root process)
  root_loops o at v a b c body st = go process.always st
    where
      met : Stands d.tasks [] process.body o (For at v a b c body) → WritesBlocking d p v
      met st = writes_blocking (met_in_place (meets o (For at v a b c body) st)) (con_head v [])

      inside : {q : List ℕ} {y : Statement} → Stands d.tasks [] (Forever process.place process.body) q y → y ≡ For at v a b c body → WritesBlocking d p v
      inside itself e = cc
      inside {q} {y} (place.in_forever st) e = writes_blocking (met_in_place (meets q (For at v a b c body) (subst (λ y. Stands d.tasks [] process.body q y) e st))) (con_head v [])

      go : (t : Bool) → Stands d.tasks [] (if t then Forever process.place process.body else process.body) o (For at v a b c body) → WritesBlocking d p v
      go true st = inside st refl
      go false st = met st

  pub root_moved : (store other : Store) (k : List Work) → ((v : ℕ) → WritesBlocking d p v → get_or other v [] ≡ get_or store v []) → Paused d store [] (root process) [] k → Paused d other [] (root process) [] k
  root_moved store other k f q = paused_moved store other f root_loops q

-- ---- processes that have stopped, and those that are to run

abbrev pub Done : Flat → ℕ → Store → Process → Type 0
Done d i store p = (process : FlatProc) × (slice_get d.procs i ≡ Some process) × (is_stop p.stack p.replies ≡ true) × ((at : Place) (falling : Bool) (k : List Work) → p.stack ≡ Do (Wait at falling) ∷ k → Paused d store [] (root process) [] k)

abbrev pub Idle : List Work → Process → Type 0
Idle work p = (settle work ≡ work) × (is_stop work p.replies ≡ true) × (is_waiting work ≡ false) × (is_stuck_at work p.replies ≡ false)

abbrev pub Todo : Flat → ℕ → Store → List Work × Process → Type 0
Todo d i store x = (process : FlatProc) × (slice_get d.procs i ≡ Some process) × (x.1.stack ≡ settle x.0) × ((x.0 ≡ Do (root process) ∷ []) ⊎ (Paused d store [] (root process) [] x.0 ⊎ Idle x.0 x.1))

abbrev pub Dones : Flat → ℕ → Store → List Process → Type 0
Dones d i store [] = Unit {0}
Dones d i store (p ∷ ps) = Done d i store p × Dones d (suc i) store ps

abbrev pub Todos : Flat → ℕ → Store → List (List Work × Process) → Type 0
Todos d i store [] = Unit {0}
Todos d i store (x ∷ xs) = Todo d i store x × Todos d (suc i) store xs

-- a process that has nothing to do
idle_goes : (c : Setting) (work : List Work) (x : Doing) → is_stop work x.replies ≡ true → is_waiting work ≡ false → is_stuck_at work x.replies ≡ false → go_stack c work x ≡ Stops work x
idle_goes c [] x a b e = refl
idle_goes c (Do (Arm on labels body others) ∷ k) x a b e = refl
idle_goes c (Do (Wait at falling) ∷ k) x a b e = cc
idle_goes c (Await at f result outs ∷ k) x a b e = absurd (let g : true ≡ false = sym a ∙ e in cc)
idle_goes c (Do Null ∷ k) x a b e = cc
idle_goes c (Do Skip ∷ k) x a b e = cc
idle_goes c (Do (Seq u v) ∷ k) x a b e = cc
idle_goes c (Do (Block at mark body) ∷ k) x a b e = cc
idle_goes c (Do (Assign at to v held) ∷ k) x a b e = cc
idle_goes c (Do (If at v l r) ∷ k) x a b e = cc
idle_goes c (Do (Case at on arms) ∷ k) x a b e = cc
idle_goes c (Do (For at v l r q body) ∷ k) x a b e = cc
idle_goes c (Do (While at v body) ∷ k) x a b e = cc
idle_goes c (Do (Repeat at v body) ∷ k) x a b e = cc
idle_goes c (Do (Forever at body) ∷ k) x a b e = cc
idle_goes c (Do (Enable at t ins outs) ∷ k) x a b e = cc
idle_goes c (Do (Disable at m) ∷ k) x a b e = cc
idle_goes c (Do (Host at f ins result outs) ∷ k) x a b e = cc
idle_goes c (End m ∷ k) x a b e = cc
idle_goes c (Return at m outs ∷ k) x a b e = cc
idle_goes c (Test at v l r body ∷ k) x a b e = cc
idle_goes c (Step at v l r body ∷ k) x a b e = cc
idle_goes c (Turns at n body ∷ k) x a b e = cc

eqb_not : (i q : ℕ) → (i ≡ q → ⊥) → (i == q) ≡ false
eqb_not i q n = go (i == q) refl
  where
    go : (b : Bool) → (i == q) ≡ b → b ≡ false
    go true e = absurd (n (eqb→eq i q (subst T (sym e) tt)))
    go false e = refl

module _ (d : Flat) (clean : IsClean d) where
  -- what a process stores to, no other writes by blocking
  pub apart : (i j : ℕ) (process : FlatProc) → slice_get d.procs i ≡ Some process → (i ≡ j → ⊥) → (v : ℕ) → v < length d.vars → WritesBlocking d j v → FreeIn d [] (root process) v
  apart i j process here n v inside w o x st c =
      let var = got_below d.vars v inside in clean 14 70 _ (two_writers (two_write var.1 n (root_writes d i process here o x v st c) (by_blocking w)))

  pub done_moved : (i : ℕ) (store other : Store) (p : Process) → ((v : ℕ) → WritesBlocking d i v → get_or other v [] ≡ get_or store v []) → Done d i store p → Done d i other p
  done_moved i store other p f x = (x.0, x.1, x.2, λ at falling k e. root_moved d i x.0 x.1 store other k f (x.3 at falling k e))

  pub dones_moved : (i : ℕ) (store other : Store) (ps : List Process) → ((j v : ℕ) → i ≤ j → j < i + length ps → WritesBlocking d j v → get_or other v [] ≡ get_or store v []) → Dones d i store ps → Dones d i other ps
  dones_moved i store other [] f x = tt
  dones_moved i store other (p ∷ ps) f x = (done_moved i store other p (λ v. f i v (omega arith) (omega arith)) x.0, dones_moved (suc i) store other ps (λ j v a b. f j v (omega arith) (omega arith)) x.1)

  todo_moved : (i : ℕ) (store other : Store) (x : List Work × Process) → ((v : ℕ) → WritesBlocking d i v → get_or other v [] ≡ get_or store v []) → Todo d i store x → Todo d i other x
  todo_moved i store other x f t = (t.0, t.1, t.2, go t.3)
    where
      go : (x.0 ≡ Do (root t.0) ∷ []) ⊎ (Paused d store [] (root t.0) [] x.0 ⊎ Idle x.0 x.1) → (x.0 ≡ Do (root t.0) ∷ []) ⊎ (Paused d other [] (root t.0) [] x.0 ⊎ Idle x.0 x.1)
      go (inl e) = inl e
      go (inr (inl q)) = inr (inl (root_moved d i t.0 t.1 store other x.0 f q))
      go (inr (inr q)) = inr (inr q)

  todos_moved : (i : ℕ) (store other : Store) (xs : List (List Work × Process)) → ((j v : ℕ) → i ≤ j → WritesBlocking d j v → get_or other v [] ≡ get_or store v []) → Todos d i store xs → Todos d i other xs
  todos_moved i store other [] f t = tt
  todos_moved i store other (x ∷ xs) f t = (todo_moved i store other x (λ v. f i v (omega arith)) t.0, todos_moved (suc i) store other xs (λ j v a. f j v (omega arith)) t.1)

dones_join : (d : Flat) (i n : ℕ) (store : Store) (ps : List Process) (q : Process) → n ≡ i + length ps → Dones d i store ps → Done d n store q → Dones d i store (ps ++ q ∷ [])
dones_join d i n store [] q e x y = (subst (λ m. Done d m store q) (let f : n ≡ i = omega arith in f) y, tt)
dones_join d i n store (p ∷ ps) q e x y = (x.0, dones_join d (suc i) n store ps q (omega arith) x.1 y)

pub set_middle : {X : Type 0} (xs ys : List X) (x y : X) → set (xs ++ x ∷ ys) (length xs) y ≡ xs ++ y ∷ ys
set_middle [] ys x y = refl
set_middle (z ∷ xs) ys x y = ap (λ l. z ∷ l) (set_middle xs ys x y)

module _ (d : Flat) (clean : IsClean d) (sound : IsSound d) (times : List ℕ → Statement → ℕ) (counts : CountsEnough d times) (nets : List Word) (turns : ℕ) (enough : max_turns < turns) where
  stops : (i : ℕ) (store : Store) (x : List Work × Process) → IsShaped d store → (t : Todo d i store x) → Stopped d nets turns t.0 (u_of d times t.0) x.0 (doing store x.1)
  stops i store x sh t = go t.3
    where
      go : (x.0 ≡ Do (root t.0) ∷ []) ⊎ (Paused d store [] (root t.0) [] x.0 ⊎ Idle x.0 x.1) → Stopped d nets turns t.0 (u_of d times t.0) x.0 (doing store x.1)
      go (inl e) = subst (λ w. Stopped d nets turns t.0 (u_of d times t.0) w (doing store x.1)) (sym e) (starts d i clean sound times counts nets turns enough t.0 t.1 (doing store x.1) sh)
      go (inr (inl q)) = goes_from d i clean sound times counts nets turns enough t.0 t.1 x.0 (doing store x.1) sh q
      go (inr (inr q)) = record {
        stack = x.0;
        end = doing store x.1;
        goes = subst (λ k. Goes d nets k (doing store x.1) x.0 (doing store x.1)) (sym q.0) stays;
        still = q.1;
        spent = omega arith;
        rests = λ at falling k e. absurd (let f : true ≡ false = sym (ap is_waiting e) ∙ q.2 in cc);
        kept = kept_store (FreeIn d [] (root t.0)) (doing store x.1) (doing store x.1) refl;
        is = idle_goes (setting d nets turns (deep d)) x.0 (doing store x.1) q.1 q.2 q.3;
      }

  abbrev place_setting : Setting
  place_setting = setting d nets turns (deep d)

  abbrev pub with_all : Config → Store → List Process → Config
  with_all c store ps = record c { store = store; procs = ps }

  pub record Rounded (c : Config) (done : List Process) (store : Store) (ps : List Process) : Type 0 where
    pub events : List Event
    pub path : Path (step d) events c (with_all c store (done ++ ps))
    pub dones : Dones d 0 store (done ++ ps)
    pub shape : map length store ≡ map length c.store
    pub few : (q : ℕ) (process : FlatProc) → slice_get d.procs q ≡ Some process → count (is_run q) events ≤ u_of d times process
    pub none : (q : ℕ) → q < length done → count (is_run q) events ≡ 0

  length_of : (d : Flat) (store : Store) → IsShaped d store → length store ≡ length d.vars
  length_of d store s = sym (Rattle.std.proofs.lemmas.List.length-map store length) ∙ ap length s ∙ Rattle.std.proofs.lemmas.List.length-map d.vars _

  -- after one process, the variables that others write by blocking are as before
  others_keep : (i j : ℕ) (process : FlatProc) (x y : Doing) → slice_get d.procs i ≡ Some process → IsShaped d x.store → Kept (FreeIn d [] (root process)) x y → (i ≡ j → ⊥) → (v : ℕ) → WritesBlocking d j v → get_or y.store v [] ≡ get_or x.store v []
  others_keep i j process x y here sh k n v w = go (split (length d.vars) v)
    where
      go : (length d.vars ≤ v) ⊎ (v < length d.vars) → get_or y.store v [] ≡ get_or x.store v []
      go (inr h) = k.words v (apart d clean i j process here n v h w)
      go (inl h) = get_or_past y.store v [] (let e : length y.store ≡ length d.vars = length_of d y.store (k.shape ∙ sh) in omega arith) ∙ sym (get_or_past x.store v [] (let e : length x.store ≡ length d.vars = length_of d x.store sh in omega arith))

  pub rounds : (xs : List (List Work × Process)) (done : List Process) (c : Config) → c.nets ≡ nets → c.procs ≡ done ++ map (λ x. x.1) xs → IsShaped d c.store → Dones d 0 c.store done → Todos d (length done) c.store xs →
      Rounded c done (round place_setting c.store xs).0 (round place_setting c.store xs).1
  rounds [] done c n e sh ds ts = record {
    events = [];
    path = ap (λ ps. record c { procs = ps }) e;
    dones = subst (Dones d 0 c.store) (sym (append-nil done)) ds;
    shape = refl;
    few = λ q process h. omega arith;
    none = λ q h. refl;
  }
  rounds (x ∷ xs) done c n e sh ds ts =
      whole (stops (length done) c.store x sh ts.0) (λ c2 done2 a b f g h. rounds xs done2 c2 a b f g h)
    where
      i : ℕ
      i = length done

      process : FlatProc
      process = ts.0.0

      p : Process
      p = x.1

      got : slice_get c.procs i ≡ Some p
      got = ap (λ ps. slice_get ps i) e ∙ got_middle done (map (λ x. x.1) xs) p

      whole : Stopped d nets turns process (u_of d times process) x.0 (doing c.store p) →
          ((c2 : Config) (done2 : List Process) → c2.nets ≡ nets → c2.procs ≡ done2 ++ map (λ x. x.1) xs → IsShaped d c2.store → Dones d 0 c2.store done2 → Todos d (length done2) c2.store xs → Rounded c2 done2 (round place_setting c2.store xs).0 (round place_setting c2.store xs).1) →
          Rounded c done (round place_setting c.store (x ∷ xs)).0 (round place_setting c.store (x ∷ xs)).1
      whole s more = subst (λ z. Rounded c done (round place_setting z.0 xs).0 (z.1 ∷ (round place_setting z.0 xs).1)) (sym ended) joined
        where
          q : Process
          q = process_of s.stack s.end

          ended : alone_end place_setting x.0 c.store p ≡ (s.end.store, q)
          ended = ap (λ o. elim o [ Falls y ↦ (c.store, p) | Stops l y ↦ (y.store, process_of l y) | Jumps m y ↦ (c.store, p) | Lost ↦ (c.store, p) ]) s.is

          way : Ways d i c s.stack (doing c.store p) s.end
          way = ways i c n refl got (eq-eqb i i refl) (subst (λ k. Goes d nets k (doing c.store p) s.stack s.end) (sym ts.0.2) s.goes)

          c2 : Config
          c2 = further c i s.stack s.end

          done2 : List Process
          done2 = done ++ q ∷ []

          long : length done2 ≡ suc i
          long = let f : length (done ++ q ∷ []) ≡ length done + length (q ∷ []) = Rattle.std.proofs.Common.length-append done (q ∷ []) in omega arith

          placed : c2.procs ≡ done2 ++ map (λ x. x.1) xs
          placed = ap (λ ps. set ps i q) e ∙ set_middle done (map (λ x. x.1) xs) p q ∙ sym (append_assoc done (q ∷ []) (map (λ x. x.1) xs))

          keeps : (j v : ℕ) → (i ≡ j → ⊥) → WritesBlocking d j v → get_or s.end.store v [] ≡ get_or c.store v []
          keeps j v f w = others_keep i j process (doing c.store p) s.end ts.0.1 sh s.kept f v w

          rest : Rounded c2 done2 (round place_setting s.end.store xs).0 (round place_setting s.end.store xs).1
          rest = more c2 done2 n placed (s.kept.shape ∙ sh)
              (dones_join d 0 i s.end.store done q (omega arith) (dones_moved d clean 0 c.store s.end.store done (λ j v a b w. keeps j v (λ f. let g : i ≡ j = f in omega arith) w) ds) (process, ts.0.1, s.still, s.rests))
              (subst (λ m. Todos d m s.end.store xs) (sym long) (todos_moved d clean (suc i) c.store s.end.store xs (λ j v a w. keeps j v (λ f. let g : i ≡ j = f in omega arith) w) ts.1))

          joined : Rounded c done (round place_setting s.end.store xs).0 (q ∷ (round place_setting s.end.store xs).1)
          joined = record {
            events = way.events ++ rest.events;
            path = path_on d way.events rest.events c c2 _ way.path (subst (λ ps. Path (step d) rest.events c2 (with_all c (round place_setting s.end.store xs).0 ps)) regroup rest.path);
            dones = subst (Dones d 0 (round place_setting s.end.store xs).0) regroup rest.dones;
            shape = rest.shape ∙ s.kept.shape;
            few = few;
            none = none;
          }
            where
              regroup : done2 ++ (round place_setting s.end.store xs).1 ≡ done ++ q ∷ (round place_setting s.end.store xs).1
              regroup = append_assoc done (q ∷ []) (round place_setting s.end.store xs).1

              sum : (r : ℕ) → count (is_run r) (way.events ++ rest.events) ≡ count (is_run r) way.events + count (is_run r) rest.events
              sum r = count_both (is_run r) way.events rest.events

              few : (r : ℕ) (other : FlatProc) → slice_get d.procs r ≡ Some other → count (is_run r) (way.events ++ rest.events) ≤ u_of d times other
              few r other h = go (i == r) refl
                where
                  go : (b : Bool) → (i == r) ≡ b → count (is_run r) (way.events ++ rest.events) ≤ u_of d times other
                  go false f = let a : count (is_run r) way.events ≡ 0 = way.others r f in let b : count (is_run r) rest.events ≤ u_of d times other = rest.few r other h in let c : count (is_run r) (way.events ++ rest.events) ≡ count (is_run r) way.events + count (is_run r) rest.events = sum r in omega arith
                  go true f = subst (λ m. count (is_run m) (way.events ++ rest.events) ≤ u_of d times other) same (subst (λ o. count (is_run i) (way.events ++ rest.events) ≤ u_of d times o) (got_one (slice_get d.procs r) process other (subst (λ m. slice_get d.procs m ≡ Some process) same ts.0.1) h) own)
                    where
                      same : i ≡ r
                      same = eqb→eq i r (subst T (sym f) tt)

                      own : count (is_run i) (way.events ++ rest.events) ≤ u_of d times process
                      own = let a : count (is_run i) way.events + 0 ≡ s.end.events = way.own in let b : s.end.events ≤ u_of d times process + 0 = s.spent in
                          let c : count (is_run i) rest.events ≡ 0 = rest.none i (let l : length done2 ≡ suc i = long in omega arith) in let t : count (is_run i) (way.events ++ rest.events) ≡ count (is_run i) way.events + count (is_run i) rest.events = sum i in omega arith

              none : (r : ℕ) → r < length done → count (is_run r) (way.events ++ rest.events) ≡ 0
              none r h = let a : count (is_run r) way.events ≡ 0 = way.others r (eqb_not i r (λ f. let g : i ≡ r = f in omega arith)) in
                  let b : count (is_run r) rest.events ≡ 0 = rest.none r (let l : length done2 ≡ suc i = long in omega arith) in
                  let c : count (is_run r) (way.events ++ rest.events) ≡ count (is_run r) way.events + count (is_run r) rest.events = sum r in omega arith
