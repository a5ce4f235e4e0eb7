-- No stack of a run grows higher than its process's statement in place.
use Rattle.std.proofs.Common.{◌≡◌, ℕ, zero, suc, ◌+◌, ◌≤◌, ◌==◌, max, Bool, true, false, if◌then◌else◌, List, [], ◌∷◌, ◌++◌, zip, map, set, Option, Some, None, IfSome, Contains, slice_get, length, option_map, unwrap_or, refl, sym, ap, ap₂, subst, arith}
use Rattle.std.proofs.Math.Nat.{le-max_left, le-max_right}
use Rattle.std.proofs.lemmas.List.Elements.{Contains-append_left, Contains-append_right}
use Rattle.xt_base.specs.declared.refusals.Place.{Place}
use Rattle.xt_bits.specs.Stimulus.{Reply, Stimulus}
use Rattle.xt_bits.specs.Word.{Word}
use Rattle.el_design.specs.Plain.{Expr, Lvalue, Statement, Null, Skip, Seq, Block, Assign, If, Case, Arm, For, While, Repeat, Forever, Wait, Enable, Disable, Host, FlatTask, FlatNet, FlatProc, Flat}
use Rattle.el_design.specs.Texts.{texts}
use Rattle.el_design.specs.Store.{Write}
use Rattle.el_design.specs.Value.{Scene, value, is_up}
use Rattle.el_design.specs.Assign.{writes_of, has_label, arm_chosen, count_of}
use Rattle.el_design.specs.Stack.{Work, Do, End, Return, Test, Step, Turns, Await, enter, settle, start_stack, wake, below_mark}
use Rattle.el_design.specs.Act.{Process, Acted, ran, turn, enabled, replied, assigned, act_do, act_top, act}
use Rattle.el_design.specs.Queue.{Config, Event, Run, Follow, Update, scene, has_value, net_aim, with_process, take_run, take_net, take_oldest, take_update, is_quiet, take}
use Rattle.el_design.specs.Run.{started, woken, Takes, Any}
use Rattle.el_design.specs.Rules.{IsFinite}
use Rattle.el_design.specs.Heights.{height, body_height, heights_to, stack_height}
use Rattle.el_design.specs.Laws.{EdgeBegins, first_edge, next_edge, StacksStayLow}
use Rattle.el_design.proofs.OrderLists.{con_head, con_tail}
use Rattle.el_design.proofs.Nested.{made_of_task}

-- ---- heights

-- the same where the tasks that a text enables are as high
same : (c e : ℕ → ℕ) (s : Statement) → ((at : Place) (t : ℕ) (ins : List Expr) (outs : List Lvalue) → Contains (texts s) (Enable at t ins outs) → c t ≡ e t) → height c s ≡ height e s
same c e (Seq a b) f =
    ap₂ (λ m n. max (suc m) n) (same c e a (λ at t ins outs h. f at t ins outs (con_tail _ _ (texts a ++ texts b) (Contains-append_left (texts a) (texts b) _ h))))
    (same c e b (λ at t ins outs h. f at t ins outs (con_tail _ _ (texts a ++ texts b) (Contains-append_right (texts a) (texts b) _ h))))
same c e (Block at None body) f = same c e body (λ at t ins outs h. f at t ins outs (con_tail _ _ (texts body) h))
same c e (Block at (Some m) body) f = ap suc (same c e body (λ at t ins outs h. f at t ins outs (con_tail _ _ (texts body) h)))
same c e (If at test a b) f =
    ap₂ (λ m n. max m n) (same c e a (λ at t ins outs h. f at t ins outs (con_tail _ _ (texts a ++ texts b) (Contains-append_left (texts a) (texts b) _ h))))
    (same c e b (λ at t ins outs h. f at t ins outs (con_tail _ _ (texts a ++ texts b) (Contains-append_right (texts a) (texts b) _ h))))
same c e (Case at on arms) f = same c e arms (λ at t ins outs h. f at t ins outs (con_tail _ _ (texts arms) h))
same c e (Arm on labels a b) f =
    ap₂ (λ m n. max m n) (same c e a (λ at t ins outs h. f at t ins outs (con_tail _ _ (texts a ++ texts b) (Contains-append_left (texts a) (texts b) _ h))))
    (same c e b (λ at t ins outs h. f at t ins outs (con_tail _ _ (texts a ++ texts b) (Contains-append_right (texts a) (texts b) _ h))))
same c e (For at v first test next body) f = ap suc (same c e body (λ at t ins outs h. f at t ins outs (con_tail _ _ (texts body) h)))
same c e (While at test body) f = ap suc (same c e body (λ at t ins outs h. f at t ins outs (con_tail _ _ (texts body) h)))
same c e (Repeat at count body) f = ap suc (same c e body (λ at t ins outs h. f at t ins outs (con_tail _ _ (texts body) h)))
same c e (Forever at body) f = ap suc (same c e body (λ at t ins outs h. f at t ins outs (con_tail _ _ (texts body) h)))
same c e (Enable at t ins outs) f = ap suc (f at t ins outs (con_head _ []))
same c e Null f = refl
same c e Skip f = refl
same c e (Assign at to x held) f = refl
same c e (Wait at falling) f = refl
same c e (Disable at m) f = refl
same c e (Host at g ins result outs) f = refl

some_height : (c : ℕ → ℕ) (s : Statement) → 1 ≤ height c s
some_height c (Seq a b) = let h : suc (height c a) ≤ max (suc (height c a)) (height c b) = le-max_left (suc (height c a)) (height c b) in omega (arith, h)
some_height c (Block at None body) = some_height c body
some_height c (Block at (Some m) body) = omega arith
some_height c (If at test a b) = let h : height c a ≤ max (height c a) (height c b) = le-max_left (height c a) (height c b) in let k : 1 ≤ height c a = some_height c a in omega (arith, h, k)
some_height c (Case at on arms) = some_height c arms
some_height c (Arm on labels a b) = let h : height c a ≤ max (height c a) (height c b) = le-max_left (height c a) (height c b) in let k : 1 ≤ height c a = some_height c a in omega (arith, h, k)
some_height c (For at v first test next body) = omega arith
some_height c (While at test body) = omega arith
some_height c (Repeat at count body) = omega arith
some_height c (Forever at body) = omega arith
some_height c (Enable at t ins outs) = omega arith
some_height c Null = omega arith
some_height c Skip = omega arith
some_height c (Assign at to x held) = omega arith
some_height c (Wait at falling) = omega arith
some_height c (Disable at m) = omega arith
some_height c (Host at g ins result outs) = omega arith

-- ---- stacks that stay low

-- the pieces of work that one puts on a stack
abbrev rise : (ℕ → ℕ) → Work → ℕ
rise c (Do s) = height c s
rise c (Test at v test next body) = suc (height c body)
rise c (Step at v test next body) = suc (height c body)
rise c (Turns at left body) = suc (height c body)
rise c w = 1

-- there is room for what each piece may put on those below it
abbrev Low : (ℕ → ℕ) → ℕ → List Work → Type 0
Low c room [] = Unit {0}
Low c room (w ∷ k) = (length k + rise c w ≤ room) × Low c room k

some_rise : (c : ℕ → ℕ) (w : Work) → 1 ≤ rise c w
some_rise c (Do s) = some_height c s
some_rise c (End m) = omega arith
some_rise c (Return at m outs) = omega arith
some_rise c (Test at v test next body) = omega arith
some_rise c (Step at v test next body) = omega arith
some_rise c (Turns at left body) = omega arith
some_rise c (Await at f result outs) = omega arith

low_length : (c : ℕ → ℕ) (room : ℕ) (k : List Work) → Low c room k → length k ≤ room
low_length c room [] h = omega arith
low_length c room (w ∷ k) h = let a : length k + rise c w ≤ room = h.0 in let b : 1 ≤ rise c w = some_rise c w in omega (arith, a, b)

module _ (c : ℕ → ℕ) (room : ℕ) where
  enter_low : (s : Statement) (below still : List Work) → length below + height c s ≤ room → Low c room below → Low c room still → Low c room (enter s below still)
  enter_low Null below still r h k = k
  enter_low Skip below still r h k = k
  enter_low (Seq a b) below still r h k =
      let first : suc (height c a) ≤ max (suc (height c a)) (height c b) = le-max_left (suc (height c a)) (height c b) in
      let later : height c b ≤ max (suc (height c a)) (height c b) = le-max_right (suc (height c a)) (height c b) in
      let rest : length below + height c b ≤ room = omega (arith, r, later) in
      enter_low a (Do b ∷ below) (enter b below still) (omega (arith, r, first)) (rest, h) (enter_low b below still rest h k)
  enter_low (Block at None body) below still r h k = enter_low body below still r h k
  enter_low (Block at (Some m) body) below still r h k = enter_low body (End m ∷ below) still (omega (arith, r)) (let b : 1 ≤ height c body = some_height c body in omega (arith, r, b), h) k
  enter_low (Forever at body) below still r h k = enter_low body (Do (Forever at body) ∷ below) (Do (Forever at body) ∷ below) (omega (arith, r)) (r, h) (r, h)
  enter_low (Assign at to x held) below still r h k = (r, h)
  enter_low (If at test a b) below still r h k = (r, h)
  enter_low (Case at on arms) below still r h k = (r, h)
  enter_low (Arm on labels a b) below still r h k = (r, h)
  enter_low (For at v first test next body) below still r h k = (r, h)
  enter_low (While at test body) below still r h k = (r, h)
  enter_low (Repeat at count body) below still r h k = (r, h)
  enter_low (Wait at falling) below still r h k = (r, h)
  enter_low (Enable at t ins outs) below still r h k = (r, h)
  enter_low (Disable at m) below still r h k = (r, h)
  enter_low (Host at g ins result outs) below still r h k = (r, h)

  settle_low : (k : List Work) → Low c room k → Low c room (settle k)
  settle_low [] h = h
  settle_low (Do s ∷ k) h = enter_low s k (settle k) h.0 h.1 (settle_low k h.1)
  settle_low (End m ∷ k) h = settle_low k h.1
  settle_low (Return at m outs ∷ k) h = h
  settle_low (Test at v test next body ∷ k) h = h
  settle_low (Step at v test next body ∷ k) h = h
  settle_low (Turns at left body ∷ k) h = h
  settle_low (Await at f result outs ∷ k) h = h

  wake_low : (k : List Work) → Low c room k → Low c room (wake k)
  wake_low (Do (Wait at falling) ∷ k) h = settle_low k h.1
  wake_low k h = h

  below_low : (m : ℕ) (k : List Work) → Low c room k → IfSome (below_mark m k) (Low c room)
  below_low m [] h = tt
  below_low m (w ∷ k) h = go w h.1 (below_low m k h.1)
    where
      this : (b : Bool) → Low c room k → IfSome (below_mark m k) (Low c room) → IfSome (if b then Some k else below_mark m k) (Low c room)
      this true here later = here
      this false here later = later

      go : (w : Work) → Low c room k → IfSome (below_mark m k) (Low c room) → IfSome (below_mark m (w ∷ k)) (Low c room)
      go (End n) here later = this (n == m) here later
      go (Return at n outs) here later = this (n == m) here later
      go (Do s) here later = later
      go (Test at v test next body) here later = later
      go (Step at v test next body) here later = later
      go (Turns at left body) here later = later
      go (Await at f result outs) here later = later

-- ---- events

module _ (d : Flat) (finite : IsFinite d) where
  abbrev tasks : ℕ → ℕ
  tasks = heights_to d (length d.tasks)

  task_height : (t : ℕ) (task : FlatTask) → slice_get d.tasks t ≡ Some task → tasks t ≡ height tasks task.body
  task_height t task e =
      made_of_task d finite (Unit {0}) ℕ 0 (λ c x i. height (λ q. c q tt) x.body) (λ c o i. body_height (λ q. c q tt) o) (λ n q i. heights_to d n q) (λ c i. refl) (λ c x i. refl) (λ q i. refl) (λ n q i. refl)
      (λ c e x f i. same (λ q. c q tt) (λ q. e q tt) x.body (λ at q ins outs h. f at q ins outs h tt)) t task e tt

  module _ (room : ℕ) where
    abbrev Leaves : Option Acted → Type 0
    Leaves o = IfSome o (λ a. Low tasks room a.process.stack)

    module _ (s : Scene) (p : Process) (k : List Work) (below : Low tasks room k) where
      ran_low : (at : Place) (ws : List Write) (next : List Work) → Low tasks room next → Leaves (ran at ws p next)
      ran_low at ws next h = settle_low tasks room next h

      assigned_low : (at : Place) (ws : List Write) (held : Bool) → Leaves (assigned at ws held p k)
      assigned_low at ws false = settle_low tasks room k below
      assigned_low at ws true = settle_low tasks room k below

      chosen_low : (b : Bool) (x y : Statement) → length k + max (height tasks x) (height tasks y) ≤ room → length k + rise tasks (if b then Do x else Do y) ≤ room
      chosen_low true x y h = let m : height tasks x ≤ max (height tasks x) (height tasks y) = le-max_left (height tasks x) (height tasks y) in omega (arith, h, m)
      chosen_low false x y h = let m : height tasks y ≤ max (height tasks x) (height tasks y) = le-max_right (height tasks x) (height tasks y) in omega (arith, h, m)

      arm_low : (arms : Statement) → length k + height tasks arms ≤ room → length k + height tasks (arm_chosen d s arms) ≤ room
      arm_low (Arm on labels body others) h = go (has_label d s on labels) (arm_low others)
        where
          m : height tasks body ≤ max (height tasks body) (height tasks others)
          m = le-max_left (height tasks body) (height tasks others)

          n : height tasks others ≤ max (height tasks body) (height tasks others)
          n = le-max_right (height tasks body) (height tasks others)

          go : (b : Bool) → (length k + height tasks others ≤ room → length k + height tasks (arm_chosen d s others) ≤ room) → length k + height tasks (if b then body else arm_chosen d s others) ≤ room
          go true more = omega (arith, h, m)
          go false more = more (omega (arith, h, n))
      arm_low Null h = h
      arm_low Skip h = h
      arm_low (Seq a b) h = h
      arm_low (Block at mark body) h = h
      arm_low (Assign at to e held) h = h
      arm_low (If at test a b) h = h
      arm_low (Case at on arms) h = h
      arm_low (For at v first test next body) h = h
      arm_low (While at test body) h = h
      arm_low (Repeat at count body) h = h
      arm_low (Forever at body) h = h
      arm_low (Wait at falling) h = h
      arm_low (Enable at t ins outs) h = h
      arm_low (Disable at m) h = h
      arm_low (Host at f ins result outs) h = h

      -- a body above what goes on after it
      body_low : (body : Statement) (later : Work) → length k + suc (height tasks body) ≤ room → length k + rise tasks later ≤ room → Low tasks room (Do body ∷ later ∷ k)
      body_low body later h l = (omega (arith, h), (l, below))

      turn_low : (at : Place) (n : ℕ) (body : Statement) → length k + suc (height tasks body) ≤ room → Low tasks room (turn at n body k)
      turn_low at zero body h = below
      turn_low at (suc left) body h = body_low body (Turns at left body) h h

      test_low : (at : Place) (b : Bool) (body : Statement) (later : Work) → length k + suc (height tasks body) ≤ room → length k + rise tasks later ≤ room → Leaves (ran at [] p (if b then Do body ∷ later ∷ k else k))
      test_low at true body later h l = settle_low tasks room (Do body ∷ later ∷ k) (body_low body later h l)
      test_low at false body later h l = settle_low tasks room k below

      enabled_low : (at : Place) (t : ℕ) (ins : List Expr) (outs : List Lvalue) (o : Option FlatTask) → slice_get d.tasks t ≡ o → length k + suc (tasks t) ≤ room → Leaves (enabled d s p k at ins outs o)
      enabled_low at t ins outs None e h = settle_low tasks room k below
      enabled_low at t ins outs (Some task) e h =
          let same_height : tasks t ≡ height tasks task.body = task_height t task e in
          settle_low tasks room (Do task.body ∷ Return at task.mark (zip task.outs outs) ∷ k) (omega (arith, h, same_height), (omega (arith, h), below))

      disabled_low : (o : Option (List Work)) → IfSome o (Low tasks room) → Low tasks room (unwrap_or o k)
      disabled_low None h = below
      disabled_low (Some next) h = h

      do_low : (x : Statement) → length k + height tasks x ≤ room → Leaves (act_do d s p k x)
      do_low (Assign at to e held) h = assigned_low at (writes_of d s to (value d s e)) held
      do_low (If at test a b) h = ran_low at [] ((if is_up (value d s test) then Do a else Do b) ∷ k) (chosen_low (is_up (value d s test)) a b h, below)
      do_low (Case at on arms) h = ran_low at [] (Do (arm_chosen d s arms) ∷ k) (arm_low arms h, below)
      do_low (While at test body) h = test_low at (is_up (value d s test)) body (Do (While at test body)) h h
      do_low (Repeat at count body) h = ran_low at [] (turn at (count_of d s count) body k) (turn_low at (count_of d s count) body h)
      do_low (For at v first test next body) h = (h, below)
      do_low (Enable at t ins outs) h = enabled_low at t ins outs (slice_get d.tasks t) refl h
      do_low (Disable at m) h = ran_low at [] (unwrap_or (below_mark m k) k) (disabled_low (below_mark m k) (below_low tasks room m k below))
      do_low (Host at f ins result outs) h = (h, below)
      do_low Null h = tt
      do_low Skip h = tt
      do_low (Seq a b) h = tt
      do_low (Block at mark body) h = tt
      do_low (Arm on labels body others) h = tt
      do_low (Forever at body) h = tt
      do_low (Wait at falling) h = tt

      replied_low : (at : Place) (f : ℕ) (result : Option Lvalue) (outs : List Lvalue) (rs : List Reply) → Leaves (replied d s p k at f result outs rs)
      replied_low at f result outs [] = tt
      replied_low at f result outs (r ∷ rs) = settle_low tasks room k below

    top_low : (s : Scene) (p : Process) (k : List Work) → Low tasks room k → Leaves (act_top d s p k)
    top_low s p [] h = tt
    top_low s p (w ∷ k) h = go w h.0 h.1
      where
        go : (w : Work) → length k + rise tasks w ≤ room → Low tasks room k → Leaves (act_top d s p (w ∷ k))
        go (Do x) r below = do_low s p k below x r
        go (End m) r below = tt
        go (Return at m outs) r below = settle_low tasks room k below
        go (Test at v test next body) r below = test_low s p k below at (is_up (value d s test)) body (Step at v test next body) r r
        go (Step at v test next body) r below = (r, below)
        go (Turns at left body) r below = ran_low s p k below at [] (turn at left body k) (turn_low s p k below at left body r)
        go (Await at f result outs) r below = replied_low s p k below at f result outs p.replies

    act_low : (s : Scene) (p : Process) (a : Acted) → Low tasks room p.stack → act d s p ≡ Some a → Low tasks room a.process.stack
    act_low s p a h e = subst Leaves e (top_low s p p.stack h)

  -- ---- runs

  -- each process by its own room
  abbrev LowAll : List FlatProc → List Process → Type 0
  LowAll [] ps = Unit {0}
  LowAll (x ∷ xs) [] = Unit {0}
  LowAll (x ∷ xs) (p ∷ ps) = Low tasks (stack_height d x) p.stack × LowAll xs ps

  start_low : (x : FlatProc) → Low tasks (stack_height d x) (start_stack x)
  start_low x = go x.always
    where
      go : (b : Bool) → Low tasks (height tasks (if b then Forever x.place x.body else x.body)) (settle ((if b then Do (Forever x.place x.body) else Do x.body) ∷ []))
      go true = settle_low tasks _ (Do (Forever x.place x.body) ∷ []) (omega arith, tt)
      go false = settle_low tasks _ (Do x.body ∷ []) (omega arith, tt)

  started_low : (xs : List FlatProc) (rs : List (List Reply)) → LowAll xs (map started (zip xs rs))
  started_low [] rs = tt
  started_low (x ∷ xs) [] = tt
  started_low (x ∷ xs) (r ∷ rs) = (start_low x, started_low xs rs)

  woken_low : (xs : List FlatProc) (ps : List Process) → LowAll xs ps → LowAll xs (map woken ps)
  woken_low [] ps h = tt
  woken_low (x ∷ xs) [] h = tt
  woken_low (x ∷ xs) (p ∷ ps) h = (wake_low tasks (stack_height d x) p.stack h.0, woken_low xs ps h.1)

  -- a process with another stack
  set_low : (xs : List FlatProc) (ps : List Process) (i : ℕ) (p q : Process) → slice_get ps i ≡ Some p → ((x : FlatProc) → Low tasks (stack_height d x) p.stack → Low tasks (stack_height d x) q.stack) →
      LowAll xs ps → LowAll xs (set ps i q)
  set_low [] ps i p q e f h = tt
  set_low (x ∷ xs) [] i p q e f h = tt
  set_low (x ∷ xs) (y ∷ ps) zero p q e f h = (let same : y ≡ p = cc in f x (subst (λ z. Low tasks (stack_height d x) z.stack) same h.0), h.1)
  set_low (x ∷ xs) (y ∷ ps) (suc i) p q e f h = (h.0, set_low xs ps i p q e f h.1)

  low_at : (xs : List FlatProc) (ps : List Process) (i : ℕ) (x : FlatProc) (p : Process) → slice_get xs i ≡ Some x → slice_get ps i ≡ Some p → LowAll xs ps → length p.stack ≤ stack_height d x
  low_at [] ps i x p e f h = cc
  low_at (y ∷ xs) [] i x p e f h = cc
  low_at (y ∷ xs) (q ∷ ps) zero x p e f h =
      let one : y ≡ x = cc in
      let two : q ≡ p = cc in
      subst (λ z. length z.stack ≤ stack_height d x) two (low_length tasks (stack_height d x) q.stack (subst (λ z. Low tasks (stack_height d z) q.stack) one h.0))
  low_at (y ∷ xs) (q ∷ ps) (suc i) x p e f h = low_at xs ps i x p e f h.1

  module _ (c : Config) (h : LowAll d.procs c.procs) where
    abbrev Leads : Option Config → Type 0
    Leads o = IfSome o (λ next. LowAll d.procs next.procs)

    ran_leads : (i : ℕ) (o : Option Process) → slice_get c.procs i ≡ o → Leads (take_run d c i o)
    ran_leads i None e = tt
    ran_leads i (Some p) e = go (act d (scene d c) p) refl
      where
        go : (a : Option Acted) → act d (scene d c) p ≡ a → Leads (option_map (λ a. with_process c i a.writes a.process) a)
        go None is = tt
        go (Some a) is = set_low d.procs c.procs i p a.process e (λ x l. act_low (stack_height d x) (scene d c) p a l is) h

    net_leads : (n : ℕ) (o : Option FlatNet) → Leads (take_net d c n o)
    net_leads n None = tt
    net_leads n (Some net) = go (has_value d c n net)
      where
        go : (b : Bool) → Leads (if b then None else Some (record c { nets = set c.nets n (net_aim d c.row (scene d c) n net) }))
        go true = tt
        go false = h

    update_leads : (i : ℕ) (o : Option Process) → slice_get c.procs i ≡ o → Leads (take_update c i o)
    update_leads i None e = tt
    update_leads i (Some p) e = go p.updates
      where
        go : (us : List (List Write)) → Leads (take_oldest c i p us)
        go [] = tt
        go (ws ∷ more) = set_low d.procs c.procs i p (record p { updates = more }) e (λ x l. l) h

    leads : (e : Event) → Leads (take d c e)
    leads (Run i) = ran_leads i (slice_get c.procs i) refl
    leads (Follow n) = net_leads n (slice_get d.nets n)
    leads (Update i) = go (is_quiet d c)
      where
        go : (b : Bool) → Leads (if b then take_update c i (slice_get c.procs i) else None)
        go true = update_leads i (slice_get c.procs i) refl
        go false = tt

  takes_low : (k : ℕ) (c : Config) (es : List Event) (end : Config) → LowAll d.procs c.procs → Takes d Any k c es end → LowAll d.procs end.procs
  takes_low k c [] end h t = subst (λ x. LowAll d.procs x.procs) t h
  takes_low k c (e ∷ es) end h t = takes_low (suc k) t.1.0 es end (subst (λ o. IfSome o (λ next. LowAll d.procs next.procs)) t.1.1 (leads c h e)) t.1.2

  begins_low : {x : Stimulus} {rows : List (List Word)} {begin : Config} → EdgeBegins d x rows begin → LowAll d.procs begin.procs
  begins_low {x = x} (first_edge e s) = subst (LowAll d.procs) (sym s.procs) (started_low d.procs x.replies)
  begins_low (next_edge {begin = begin} {end = end} es b t r n) =
      subst (LowAll d.procs) (sym n.procs) (woken_low d.procs end.procs (takes_low 0 begin es end (begins_low b) t))

  pub stacks_stay_low : StacksStayLow d
  stacks_stay_low x rows begin end es b t i process p e f = low_at d.procs end.procs i process p e f (takes_low 0 begin es end (begins_low b) t)
