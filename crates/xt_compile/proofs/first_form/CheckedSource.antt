-- The design of a source whose process waits is checked: it is sound, breaks no rule, and its nets have an order. Where the process doesn't wait, it spins.
use Rattle.std.proofs.Common.{◌≡◌, ◌≢◌, ◌↔◌, ◌⊎◌, inl, inr, ◌<◌, ◌≤◌, ◌+◌, ◌*◌, ◌^◌, ◌++◌, ℕ, zero, suc, Bool, true, false, List, [], ◌∷◌, Option, Some, None, length, map, flat_map, get_or, slice_get, refl, sym, ap, ◌∙◌, subst, arith}
use Rattle.std.specs.Prelude.{All, AllPairs, Contains, nat_le, option_map}
use Rattle.std.specs.List.{enumerate_from, list_any, sum_by}
use Rattle.std.proofs.Math.Nat.{max-le, mul-le-mul_left}
use Rattle.std.proofs.lemmas.Bool.{leb-true, leb-false}
use Rattle.std.proofs.lemmas.List.{length-map}
use Rattle.std.proofs.lemmas.List.Elements.{All-nil, All-cons}
use Rattle.std.proofs.lemmas.List.Sums.{sum_by-cons}
use Rattle.std.proofs.lemmas.Nat.{mod_below, pow_pos}
use Rattle.std.proofs.lemmas.Option.{slice_get-get_or}
use Rattle.xt_base.specs.declared.refusals.Place.{Place}
use Rattle.el_design.specs.declared.designs.Net.{Net}
use Rattle.el_design.specs.Plain as plain
use Rattle.el_design.specs.Plain.{Expr, Lvalue, ToVariable, Statement, Skip, Seq, Block, Enable, Disable, Host, FlatNet, FlatProc, FlatTask, FlatFunc, Flat}
use Rattle.el_design.specs.InPlace.{Stands, itself, in_first, in_rest, in_block, Holds, HasInPlace, Meets, LoopAt, loop_of_process, loop_of_function}
use Rattle.el_design.specs.Walk as walk
use Rattle.el_design.specs.Walk.{HasWalk, Walks, Steps}
use Rattle.el_design.specs.Stack.{Do, Work}
use Rattle.el_design.specs.Turns.{body_of}
use Rattle.el_design.specs.Touches.{blocking_writes, WritesBlocking, writes_blocking, Writes, by_blocking, by_nonblocking, writes_nonblocking, DependsOn, depends, depends_through}
use Rattle.el_design.specs.Names.{own_expressions, nodes_of, calls_in, called}
use Rattle.el_design.specs.Queue.{numbers_from, numbers}
use Rattle.el_design.specs.Sizes.{Counting, Stopping, size_of, stops_in, u_of, s_of, once, nets_size, in_place, stopping}
use Rattle.el_design.specs.Calls as calls
use Rattle.el_design.specs.Rules as rules
use Rattle.el_design.specs.Rules.{SpinsAt, Breaks, IsClean, IsCleanBefore, IsOrder}
use Rattle.el_design.specs.Sound as sound
use Rattle.el_design.specs.Sound.{IsSound, IsStatement, bodies_of}
use Rattle.el_design.specs.Checked.{IsChecked}
use Rattle.el_design.specs.View as view
use Rattle.el_design.specs.View.{flat_of}
use Rattle.el_design.proofs.OrderLists.{con_nil, con_head, con_tail, con_cases, con_mapped, some_is}
use Rattle.el_design.proofs.Texts.{in_place_met}
use Rattle.xt_compile.specs.declared.first.source.Source.{Source}
use Rattle.xt_compile.specs.declared.first.source.Port.{Port}
use Rattle.xt_compile.specs.declared.first.source.Step.{Step}
use Rattle.xt_compile.specs.declared.first.source.Step.TheVariants.{Wait, Assign}
use Rattle.xt_compile.specs.declared.first.source.Sum.{Sum}
use Rattle.xt_compile.specs.first.Flatten.{var_of, net_of, input_of, pin_of, design_of}
use Rattle.xt_compile.specs.first.Source.{IsPort, IsSource, IsStep, is_wait, tokens_of, waits, widths}
use Rattle.xt_compile.specs.Hardware.{hosts_of}
use Rattle.xt_compile.proofs.Hosts.{none_without_imports}
use Rattle.xt_compile.proofs.first_form.Lists.{all_mapped}
use Rattle.xt_compile.proofs.first_form.PlainSource.{total, step, steps, process, flat, flat_is}
use Rattle.xt_compile.proofs.first_form.SourceSums.{IsSummed, input_at, output_at, variable_of, total_is, wide_output}

-- ---- sizes, in which nothing but the process stands

-- how often steps wait
waits_in : List Step → ℕ
waits_in [] = 0
waits_in (Wait at ∷ xs) = suc (waits_in xs)
waits_in (Assign at i x ∷ xs) = waits_in xs

stops_are : (c : Stopping) (xs : List Step) → stops_in c [] (steps xs) ≡ waits_in xs
unfolding waits_in
stops_are c [] = refl
stops_are c (Wait at ∷ xs) = ap (λ (n : ℕ). 1 + n) (stops_are c xs) ∙ omega arith
stops_are c (Assign at i x ∷ xs) = ap (λ (n : ℕ). 0 + n) (stops_are c xs) ∙ omega arith

-- a step that a source may have
pub record IsSized (d : Flat) (x : Sum) : Type 0 where
  pub sum : IsSummed d x.width (length x.more + 1) (total x)

-- a step has so many tokens as it is large, and a wait has five more
sizes_are : (d : Flat) (c : Counting) (xs : List Step) → ((at : Place) (i : ℕ) (x : Sum) → Contains xs (Assign at i x) → IsSized d x) → (size_of c [] (steps xs) + 5 * waits_in xs ≤ sum_by tokens_of xs) × (waits_in xs ≤ size_of c [] (steps xs))
unfolding waits_in
sizes_are d c [] sized = (omega arith, omega arith)
sizes_are d c (Wait at ∷ xs) sized =
    let more = sizes_are d c xs (λ p i x k. sized p i x (con_tail (Wait at) (Assign p i x) xs k)) in
    let tokens = sum_by-cons tokens_of (Wait at) xs in
    let a = more.0 in
    let b = more.1 in
    (omega (arith, tokens, a), omega (arith, b))
sizes_are d c (Assign at i x ∷ xs) sized =
    let more = sizes_are d c xs (λ p j y k. sized p j y (con_tail (Assign at i x) (Assign p j y) xs k)) in
    let tokens = sum_by-cons tokens_of (Assign at i x) xs in
    let size = (sized at i x (con_head (Assign at i x) xs)).sum.size c.calls in
    let a = more.0 in
    let b = more.1 in
    (omega (arith, tokens, size, a), omega (arith, b))

-- a step is no larger than the list that has it
tokens_within : (xs : List Step) (x : Step) → Contains xs x → tokens_of x ≤ sum_by tokens_of xs
tokens_within [] x c = absurd (con_nil x c)
tokens_within (y ∷ xs) x c = go (con_cases y x xs c) (tokens_within xs x)
  where
    go : (y ≡ x) ⊎ Contains xs x → (Contains xs x → tokens_of x ≤ sum_by tokens_of xs) → tokens_of x ≤ sum_by tokens_of (y ∷ xs)
    go (inl e) more = let tokens = sum_by-cons tokens_of y xs in let same = ap tokens_of e in omega (arith, tokens, same)
    go (inr k) more = let tokens = sum_by-cons tokens_of y xs in let rest = more k in omega (arith, tokens, rest)

wait_tokens : (xs : List Step) → list_any is_wait xs ≡ true → 6 ≤ sum_by tokens_of xs
wait_tokens [] e = cc
wait_tokens (Wait at ∷ xs) e = let tokens = sum_by-cons tokens_of (Wait at) xs in omega (arith, tokens)
wait_tokens (Assign at i x ∷ xs) e = let tokens = sum_by-cons tokens_of (Assign at i x) xs in let more = wait_tokens xs e in omega (arith, tokens, more)

-- ---- how deep nodes stand in one another

own_deep : (d : Flat) (at : Place) (i : ℕ) (x : Sum) (h : ℕ) → IsSized d x → length x.more + 2 ≤ h → sound.statement_depth (step (Assign at i x)) ≤ h
own_deep d at i x zero sized within = absurd (omega arith)
own_deep d at i x (suc h) sized within =
    let deep = sized.sum.deep in
    let value = max-le {a = sound.depth (total x)} {b = 0} {k = h} (omega (arith, deep)) (omega arith) in
    let both = max-le {a = sound.deepest (sound.depth (total x) ∷ [])} {b = 1} {k = h} value (omega arith) in
    omega (arith, both)

deep_steps : (d : Flat) (xs : List Step) (h : ℕ) → ((at : Place) (i : ℕ) (x : Sum) → Contains xs (Assign at i x) → IsSized d x) → sum_by tokens_of xs ≤ 2 * h → sound.statement_depth (steps xs) ≤ h
deep_steps d [] h sized within = omega arith
deep_steps d (Wait at ∷ xs) h sized within =
    let tokens = sum_by-cons tokens_of (Wait at) xs in
    max-le {a = 1} {b = sound.statement_depth (steps xs)} {k = h} (omega (arith, tokens)) (deep_steps d xs h (λ p i x k. sized p i x (con_tail (Wait at) (Assign p i x) xs k)) (omega (arith, tokens)))
deep_steps d (Assign at i x ∷ xs) h sized within =
    let tokens = sum_by-cons tokens_of (Assign at i x) xs in
    max-le {a = sound.statement_depth (step (Assign at i x))} {b = sound.statement_depth (steps xs)} {k = h} (own_deep d at i x h (sized at i x (con_head (Assign at i x) xs)) (omega (arith, tokens)))
    (deep_steps d xs h (λ p j y k. sized p j y (con_tail (Assign at i x) (Assign p j y) xs k)) (omega (arith, tokens)))

deep_waiting : (d : Flat) (xs : List Step) (h : ℕ) → ((at : Place) (i : ℕ) (x : Sum) → Contains xs (Assign at i x) → IsSized d x) → list_any is_wait xs ≡ true → sum_by tokens_of xs ≤ 2 * h + 4
    → sound.statement_depth (steps xs) ≤ h
deep_waiting d [] h sized waiting within = cc
deep_waiting d (Wait at ∷ xs) h sized waiting within =
    let tokens = sum_by-cons tokens_of (Wait at) xs in
    max-le {a = 1} {b = sound.statement_depth (steps xs)} {k = h} (omega (arith, tokens)) (deep_steps d xs h (λ p i x k. sized p i x (con_tail (Wait at) (Assign p i x) xs k)) (omega (arith, tokens)))
deep_waiting d (Assign at i x ∷ xs) h sized waiting within =
    let tokens = sum_by-cons tokens_of (Assign at i x) xs in
    let six = wait_tokens xs waiting in
    max-le {a = sound.statement_depth (step (Assign at i x))} {b = sound.statement_depth (steps xs)} {k = h} (own_deep d at i x h (sized at i x (con_head (Assign at i x) xs)) (omega (arith, tokens, six)))
    (deep_waiting d xs h (λ p j y k. sized p j y (con_tail (Assign at i x) (Assign p j y) xs k)) waiting (omega (arith, tokens)))

arms_fit : (xs : List Step) → sound.arms_fit false (steps xs) ≡ true
arms_fit [] = refl
arms_fit (Wait at ∷ xs) = arms_fit xs
arms_fit (Assign at i x ∷ xs) = arms_fit xs

no_marks : (xs : List Step) → sound.marks_in (steps xs) ≡ []
no_marks [] = refl
no_marks (Wait at ∷ xs) = no_marks xs
no_marks (Assign at i x ∷ xs) = no_marks xs

-- ---- lists of numbers and ports

number_at : (k n i : ℕ) (e : ℕ) → i < n → get_or (numbers_from k n) i e ≡ k + i
number_at k zero i e lt = absurd (omega arith)
number_at k (suc n) zero e lt = omega arith
number_at k (suc n) (suc i) e lt = number_at (suc k) n i e (omega arith) ∙ omega arith

so_many : (k n : ℕ) → length (numbers_from k n) ≡ n
so_many k zero = refl
so_many k (suc n) = ap suc (so_many (suc k) n)

apart : (k n : ℕ) → AllPairs (λ a b. a ≢ b) (numbers_from k n)
apart k n i j e lt within same =
    let size = so_many k n in
    let left = number_at k n i e (omega (arith, size, lt, within)) in
    let right = number_at k n j e (omega (arith, size, within)) in
    omega (arith, left, right, same, lt)

among : (n i : ℕ) → i < n → Contains (numbers n) i
among n i lt = let size = so_many 0 n in (i, omega (arith, size, lt), number_at 0 n i i lt ∙ omega arith)

-- inputs are nets without a value
pub no_value_of : (nets : List Net) → All (λ n. n.value ≡ None) nets → (n : ℕ) (net : FlatNet) → slice_get (map view.net_of nets) n ≡ Some net → net.value ≡ None
no_value_of [] are n net there = absurd (let f : None ≡ Some net = there in cc)
no_value_of (x ∷ nets) are zero net there =
    let e : view.net_of x ≡ net = some_is (view.net_of x) net there in
    ap (λ (k : FlatNet). k.value) (sym e) ∙ ap (option_map view.expr_of) (are 0 x (omega arith))
no_value_of (x ∷ nets) are (suc n) net there = no_value_of nets (λ k e lt. are (suc k) e (omega arith)) n net there

module _ (s : Source) where
  abbrev d : Flat
  d = flat s

  abbrev source_nets : List Net
  source_nets = net_of s.clock 1 s.clock_place ∷ map input_of s.inputs

  no_net : (n : ℕ) (net : FlatNet) (e : Expr) → slice_get d.nets n ≡ Some net → net.value ≡ Some e → ⊥
  no_net n net e there is =
      let none = no_value_of source_nets (All-cons (λ n. n.value ≡ None) (net_of s.clock 1 s.clock_place) (map input_of s.inputs) refl (all_mapped (λ n. n.value ≡ None) input_of s.inputs (λ k x lt. refl))) n net there in
      let f : None ≡ Some e = sym none ∙ is in
      cc

  no_value : (net : FlatNet) (e : Expr) → Contains d.nets net → net.value ≡ Some e → ⊥
  no_value net e (n, lt, is) v = no_net n net e (slice_get-get_or d.nets n net lt ∙ ap (λ (x : FlatNet). Some x) is) v

  -- ---- what stands in the process

  pub data Held : Statement → Type 0 where
    h_block : {at : Place} {body : Statement} → Held (Block at None body)
    h_list : {a b : Statement} → Held (Seq a b)
    h_end : Held Skip
    h_wait : {at : Place} → Held (plain.Wait at false)
    h_assign : {at : Place} (i : ℕ) (x : Sum) → Contains s.steps (Assign at i x) → Held (plain.Assign at (ToVariable i) (total x) true)

  held_step : {tasks : List FlatTask} {marks o : List ℕ} {y : Statement} (x : Step) → Contains s.steps x → Stands tasks marks (step x) o y → Held y
  held_step (Wait at) c itself = h_wait
  held_step (Assign at i x) c itself = h_assign i x c

  held_steps : {tasks : List FlatTask} {marks o : List ℕ} {y : Statement} (xs : List Step) → ((x : Step) → Contains xs x → Contains s.steps x) → Stands tasks marks (steps xs) o y → Held y
  held_steps [] sub itself = h_end
  held_steps (x ∷ xs) sub itself = h_list
  held_steps (x ∷ xs) sub (in_first h) = held_step x (sub x (con_head x xs)) h
  held_steps (x ∷ xs) sub (in_rest h) = held_steps xs (λ y c. sub y (con_tail x y xs c)) h

  held : {tasks : List FlatTask} {marks o : List ℕ} {y : Statement} → Stands tasks marks (process s).body o y → Held y
  held itself = h_block
  held (in_block h) = held_steps s.steps (λ x c. c) h

  -- the only process is this one
  is_process : (p : ℕ) (q : FlatProc) → slice_get d.procs p ≡ Some q → (0 ≡ p) × (process s ≡ q)
  is_process zero q e = (refl, some_is (process s) q e)
  is_process (suc p) q e = absurd (let f : None ≡ Some q = e in cc)

  of_process : (q : FlatProc) → Contains d.procs q → process s ≡ q
  of_process q c = elim (con_cases (process s) q [] c) [ inl e ↦ e | inr n ↦ absurd (con_nil q n) ]

  met : (p : ℕ) (marks : List ℕ) (x : Statement) → Meets d p marks x → Held x
  met p marks x m =
      let e : process s ≡ m.process = (is_process p m.process m.is).1 in
      held (subst (λ q. Stands [] [] q.body marks x) (sym e) m.stands)

  pub has : (p : ℕ) (x : Statement) → HasInPlace d p x → Held x
  has p x h = let m = in_place_met h in met p m.0 x m.1

  texts : (b x : Statement) → Contains (bodies_of d) b → Holds b x → Held x
  texts b x c h = elim (con_cases (process s).body b [] c) [ inl e ↦ held (subst (λ y. Stands [] [] y h.0 x) (sym e) h.1) | inr n ↦ absurd (con_nil b n) ]

  in_text : (x : Statement) → calls.InText d x → Held x
  in_text x (calls.in_process {process = q} c h) = held (subst (λ p. Stands [] [] p.body h.0 x) (sym (of_process q c)) h.1)
  in_text x (calls.in_routine (calls.task_body e) h) = cc
  in_text x (calls.in_routine (calls.function_body e) h) = cc

  no_body : {x b : Statement} → Held x → body_of x ≡ Some b → ⊥
  no_body h_block e = cc
  no_body h_list e = cc
  no_body h_end e = cc
  no_body h_wait e = cc
  no_body (h_assign i x c) e = cc

  no_loop : (marks : List ℕ) (x b : Statement) → LoopAt d marks x → body_of x ≡ Some b → ⊥
  no_loop marks x b (loop_of_process {p = p} m) e = no_body (met p marks x m) e
  no_loop marks x b (loop_of_function {g = g} c h) e = con_nil g c

  no_enable : {at : Place} {t : ℕ} {ins : List Expr} {outs : List Lvalue} → Held (Enable at t ins outs) → ⊥
  no_enable h = elim h [ ]

  pub no_host : {at : Place} {f : ℕ} {ins : List Expr} {r : Option Lvalue} {outs : List Lvalue} → Held (Host at f ins r outs) → ⊥
  no_host h = elim h [ ]

  no_disable : {at : Place} {m : ℕ} → Held (Disable at m) → ⊥
  no_disable h = elim h [ ]

  none_blocking_at : {x : Statement} → Held x → blocking_writes d x ≡ []
  none_blocking_at h_block = refl
  none_blocking_at h_list = refl
  none_blocking_at h_end = refl
  none_blocking_at h_wait = refl
  none_blocking_at (h_assign i x c) = refl

  -- ---- walks

  -- the stacks that a walk of the process comes to, while a wait is before it
  data IsBefore : List Work → Type 0 where
    at_block : {at : Place} (xs : List Step) → list_any is_wait xs ≡ true → IsBefore (Do (Block at None (steps xs)) ∷ [])
    at_list : (xs : List Step) → list_any is_wait xs ≡ true → IsBefore (Do (steps xs) ∷ [])
    at_wait : {at : Place} (k : List Work) → IsBefore (Do (plain.Wait at false) ∷ k)
    at_assign : {at : Place} {to : Lvalue} {e : Expr} (xs : List Step) → list_any is_wait xs ≡ true → IsBefore (Do (plain.Assign at to e true) ∷ Do (steps xs) ∷ [])

  block_step : (at : Place) (b : Statement) (k mid : List Work) → Steps d [] (Do (Block at None b) ∷ k) mid → (Do b ∷ k) ≡ mid
  block_step at b k mid (walk.quietly e) = some_is _ _ e
  block_step at b k mid (walk.begins_turns p e t) = cc
  block_step at b k mid (walk.goes_on_for e t) = cc
  block_step at b k mid (walk.goes_on_while e t) = cc
  block_step at b k mid (walk.takes_none f m q) = let e : None ≡ Some _ = f.body_is in cc
  block_step at b k mid (walk.takes_one f m q) = let e : None ≡ Some _ = f.body_is in cc

  list_step : (a b : Statement) (k mid : List Work) → Steps d [] (Do (Seq a b) ∷ k) mid → (Do a ∷ Do b ∷ k) ≡ mid
  list_step a b k mid (walk.quietly e) = some_is _ _ e
  list_step a b k mid (walk.begins_turns p e t) = cc
  list_step a b k mid (walk.goes_on_for e t) = cc
  list_step a b k mid (walk.goes_on_while e t) = cc
  list_step a b k mid (walk.takes_none f m q) = let e : None ≡ Some _ = f.body_is in cc
  list_step a b k mid (walk.takes_one f m q) = let e : None ≡ Some _ = f.body_is in cc

  wait_step : (at : Place) (k mid : List Work) → Steps d [] (Do (plain.Wait at false) ∷ k) mid → ⊥
  wait_step at k mid (walk.quietly e) = cc
  wait_step at k mid (walk.begins_turns p e t) = cc
  wait_step at k mid (walk.goes_on_for e t) = cc
  wait_step at k mid (walk.goes_on_while e t) = cc
  wait_step at k mid (walk.takes_none f m q) = let e : None ≡ Some _ = f.body_is in cc
  wait_step at k mid (walk.takes_one f m q) = let e : None ≡ Some _ = f.body_is in cc

  assign_step : (at : Place) (to : Lvalue) (e : Expr) (k mid : List Work) → Steps d [] (Do (plain.Assign at to e true) ∷ k) mid → k ≡ mid
  assign_step at to e k mid (walk.quietly q) = cc
  assign_step at to e k mid walk.assigns = refl
  assign_step at to e k mid (walk.begins_turns p q t) = cc
  assign_step at to e k mid (walk.goes_on_for q t) = cc
  assign_step at to e k mid (walk.goes_on_while q t) = cc
  assign_step at to e k mid (walk.takes_none f m q) = let g : None ≡ Some _ = f.body_is in cc
  assign_step at to e k mid (walk.takes_one f m q) = let g : None ≡ Some _ = f.body_is in cc

  first_of : (xs : List Step) → list_any is_wait xs ≡ true → (mid : List Work) → Steps d [] (Do (steps xs) ∷ []) mid → IsBefore mid
  first_of [] waiting mid h = cc
  first_of (Wait at ∷ xs) waiting mid h = subst IsBefore (list_step (plain.Wait at false) (steps xs) [] mid h) (at_wait (Do (steps xs) ∷ []))
  first_of (Assign at i x ∷ xs) waiting mid h = subst IsBefore (list_step (step (Assign at i x)) (steps xs) [] mid h) (at_assign xs waiting)

  stays_before : {k : List Work} (mid : List Work) → IsBefore k → Steps d [] k mid → IsBefore mid
  stays_before mid (at_block {at = at} xs waiting) h = subst IsBefore (block_step at (steps xs) [] mid h) (at_list xs waiting)
  stays_before mid (at_list xs waiting) h = first_of xs waiting mid h
  stays_before mid (at_wait {at = at} k) h = absurd (wait_step at k mid h)
  stays_before mid (at_assign {at = at} {to = to} {e = e} xs waiting) h = subst IsBefore (assign_step at to e (Do (steps xs) ∷ []) mid h) (at_list xs waiting)

  not_ended : {k : List Work} → IsBefore k → k ≡ [] → ⊥
  not_ended (at_block xs waiting) e = cc
  not_ended (at_list xs waiting) e = cc
  not_ended (at_wait k) e = cc
  not_ended (at_assign xs waiting) e = cc

  no_end : {k end : List Work} → Walks d [] k end → IsBefore k → end ≡ [] → ⊥
  no_end walk.stays before e = not_ended before e
  no_end (walk.then {mid = mid} h w) before e = no_end w (stays_before mid before h) e

  -- and where none is, it comes to the end
  goes_through : (xs : List Step) → list_any is_wait xs ≡ false → Walks d [] (Do (steps xs) ∷ []) []
  goes_through [] none = walk.then (walk.quietly refl) walk.stays
  goes_through (Wait at ∷ xs) none = cc
  goes_through (Assign at i x ∷ xs) none = walk.then (walk.quietly refl) (walk.then walk.assigns (goes_through xs none))

  pub spins : list_any is_wait s.steps ≡ false → SpinsAt d s.process
  spins none = rules.always_spins (con_head (process s) []) refl (walk.then (walk.quietly refl) (goes_through s.steps none))

  never_spins : (at : Place) → list_any is_wait s.steps ≡ true → SpinsAt d at → ⊥
  never_spins _ waiting (rules.loop_spins l b n w) = no_loop _ _ _ l b
  never_spins _ waiting (rules.always_spins {process = q} k a w) = no_end (subst (λ p. HasWalk d [] p.body) (sym (of_process q k)) w) (at_block s.steps waiting) refl

  spins_there : (at : Place) → SpinsAt d at → at ≡ s.process
  spins_there _ (rules.loop_spins l b n w) = absurd (no_loop _ _ _ l b)
  spins_there _ (rules.always_spins {process = q} k a w) = ap (λ (p : FlatProc). p.place) (sym (of_process q k))

  pub spins_where : (at : Place) → SpinsAt d at ↔ ((waits s ≡ false) × (at ≡ s.process))
  spins_where at = (λ h. (go (waits s) refl h, spins_there at h), λ h. subst (SpinsAt d) (sym h.1) (spins h.0))
    where
      go : (b : Bool) → waits s ≡ b → SpinsAt d at → waits s ≡ false
      go true e h = absurd (never_spins at e h)
      go false e h = e

  module _ (is : IsSource s) where
    sized : (at : Place) (i : ℕ) (x : Sum) → Contains s.steps (Assign at i x) → (slice_get (widths s.outputs) i ≡ Some x.width) × sound.IsWidth x.width × IsSized d x
    sized at i x (n, lt, e) =
        let there : IsStep s.inputs s.outputs (Assign at i x) = subst (IsStep s.inputs s.outputs) e (is.steps n (Assign at i x) lt) in
        let fits = wide_output s is.ports.outputs i x.width there.0 in
        (there.0, fits, record { sum = total_is s x fits there.1 })

    all_sized : (at : Place) (i : ℕ) (x : Sum) → Contains s.steps (Assign at i x) → IsSized d x
    all_sized at i x c = (sized at i x c).2

    -- an expression of a statement calls nothing
    no_call_in : {x : Statement} {e : Expr} → Held x → Contains (own_expressions x) e → calls_in e ≡ []
    no_call_in {e = e} h_block c = absurd (con_nil e c)
    no_call_in {e = e} h_list c = absurd (con_nil e c)
    no_call_in {e = e} h_end c = absurd (con_nil e c)
    no_call_in {e = e} h_wait c = absurd (con_nil e c)
    no_call_in {e = e} (h_assign {at = at} i x k) c = elim (con_cases (total x) e [] c) [ inl f ↦ subst (λ a. calls_in a ≡ []) f (all_sized at i x k).sum.free | inr n ↦ absurd (con_nil e n) ]

    no_calls : {x : Statement} → Held x → flat_map calls_in (own_expressions x) ≡ []
    no_calls h_block = refl
    no_calls h_list = refl
    no_calls h_end = refl
    no_calls h_wait = refl
    no_calls (h_assign {at = at} i x k) = ap (λ (ms : List ℕ). ms ++ []) (all_sized at i x k).sum.free

    -- ---- each statement is sound

    assign_sound : (at : Place) (i : ℕ) (x : Sum) → Contains s.steps (Assign at i x) → IsStatement d (plain.Assign at (ToVariable i) (total x) true)
    assign_sound at i x c =
        let all = sized at i x c in
        let sum = all.2.sum in
        let target : sound.IsTarget d (ToVariable i) x.width = sound.variable (variable_of s i x.width all.0) in
        let tokens = tokens_within s.steps (Assign at i x) c in
        let size = is.size in
        let deep = sum.deep in
        record {
          expressions = All-cons (sound.IsExpr d) (total x) [] (record { nodes = sum.nodes; shallow = omega (arith, tokens, size, deep) }) (All-nil (sound.IsExpr d));
          outputs = All-cons (sound.IsOutput d) (ToVariable i) [] (inr (x.width, target, all.1)) (All-nil (sound.IsOutput d));
          fits = let wide = sum.wide in (x.width, target, all.1, omega (arith, wide));
        }

    statement : {x : Statement} → Held x → IsStatement d x
    statement h_block = record { expressions = All-nil _; outputs = All-nil _; fits = tt }
    statement h_list = record { expressions = All-nil _; outputs = All-nil _; fits = tt }
    statement h_end = record { expressions = All-nil _; outputs = All-nil _; fits = tt }
    statement h_wait = record { expressions = All-nil _; outputs = All-nil _; fits = refl }
    statement (h_assign {at = at} i x c) = assign_sound at i x c

    -- ---- inputs and outputs

    input_is : (n : ℕ) → n < length s.inputs → sound.IsInput d (suc n)
    input_is n lt = go s.inputs refl
      where
        go : (ps : List Port) → s.inputs ≡ ps → sound.IsInput d (suc n)
        go [] e = absurd (let f = ap (λ (qs : List Port). length qs) e in omega (arith, f))
        go (p ∷ ps) e = let q : Port = get_or s.inputs n p in (view.net_of (input_of q), input_at s n q (slice_get-get_or s.inputs n p lt), refl)

    inputs_are : (k n : ℕ) → k + n ≡ length s.inputs → All (sound.IsInput d) (numbers_from (suc k) n)
    inputs_are k zero e = All-nil (sound.IsInput d)
    inputs_are k (suc n) e = All-cons (sound.IsInput d) (suc k) (numbers_from (suc (suc k)) n) (input_is k (omega (arith, e))) (inputs_are (suc k) n (omega (arith, e)))

    outputs_are : (k : ℕ) (ps : List Port) → ((i : ℕ) (p : Port) → slice_get ps i ≡ Some p → slice_get s.outputs (k + i) ≡ Some p) → All (sound.HasSource d) (map pin_of (enumerate_from k ps))
    outputs_are k [] there = All-nil (sound.HasSource d)
    outputs_are k (p ∷ ps) there =
        let here : slice_get s.outputs k ≡ Some p = let e : k + 0 ≡ k = omega arith in subst (λ (i : ℕ). slice_get s.outputs i ≡ Some p) e (there 0 p refl) in
        All-cons (sound.HasSource d) (pin_of (k, p)) (map pin_of (enumerate_from (k + 1) ps)) (p.width, output_at s k p here)
        (outputs_are (k + 1) ps (λ i q e. let f : k + suc i ≡ k + 1 + i = omega arith in subst (λ (j : ℕ). slice_get s.outputs j ≡ Some q) f (there (suc i) q e)))

    -- ---- all of it is sound

    is_sound : list_any is_wait s.steps ≡ true → IsSound d
    is_sound waiting = record {
      vars = all_mapped sound.IsVariable var_of s.outputs (λ k e lt.
          let p = is.ports.outputs k e lt in
          let w : ℕ = (get_or s.outputs k e).width in
          let least = p.positive in
          let most = p.within in
          record { wide = (least, most); start = refl; fits = mod_below 0 (2 ^ w) (pow_pos w); bits = omega (arith, most); places = omega arith });
      nets = All-cons (sound.IsFlatNet d) (view.net_of (net_of s.clock 1 s.clock_place)) _ (record { wide = (omega arith, omega arith); bits = omega arith; value = tt })
          (inputs_fit s.inputs is.ports.inputs);
      imports = All-nil _;
      tasks = All-nil _;
      funcs = λ f g e. absurd (let h : None ≡ Some g = e in cc);
      statements = λ b x c h. statement (texts b x c h);
      arms = All-cons (λ b. sound.arms_fit false b ≡ true) (process s).body [] (arms_fit s.steps) (All-nil _);
      shallow = All-cons (λ b. sound.statement_depth b ≤ sound.max_depth) (process s).body []
          (let deep = deep_waiting d s.steps 1022 all_sized waiting (let size = is.size in omega (arith, size)) in omega (arith, deep)) (All-nil _);
      marks_below = subst (All (λ m. m < 0)) (sym none) (All-nil (λ m. m < 0));
      marks_distinct = subst (AllPairs (λ a b. a ≢ b)) (sym none) (λ i j e h k. absurd (omega (arith, h, k)));
      inputs = inputs_are 0 (length s.inputs) (omega arith);
      inputs_once = apart 1 (length s.inputs);
      outputs = outputs_are 0 s.outputs (λ i p e. let f : i ≡ 0 + i = omega arith in subst (λ (j : ℕ). slice_get s.outputs j ≡ Some p) f e);
    }
      where
        none : sound.all_marks d ≡ []
        none = ap (λ (ms : List ℕ). ms ++ []) (no_marks s.steps)

        inputs_fit : (ps : List Port) → All IsPort ps → All (sound.IsFlatNet d) (map view.net_of (map input_of ps))
        inputs_fit [] all = All-nil (sound.IsFlatNet d)
        inputs_fit (p ∷ ps) all =
            let q = all 0 p (omega arith) in
            let least = q.positive in
            let most = q.within in
            All-cons (sound.IsFlatNet d) (view.net_of (input_of p)) (map view.net_of (map input_of ps)) (record { wide = (least, most); bits = omega (arith, most); value = tt })
            (inputs_fit ps (λ k e lt. all (suc k) e (omega arith)))

    -- ---- sizes

    size_is : (c : Counting) → (size_of c [] (steps s.steps) + 5 * waits_in s.steps ≤ 2048) × (waits_in s.steps ≤ size_of c [] (steps s.steps))
    size_is c = let size = is.size in let parts = sizes_are d c s.steps all_sized in let a = parts.0 in (omega (arith, size, a), parts.1)

    small_u : (times : List ℕ → Statement → ℕ) (q : FlatProc) → Contains d.procs q → u_of d times q ≤ 2050
    small_u times q c =
        let parts = size_is (in_place d times) in
        let a = parts.0 in
        let e : u_of d times (process s) ≡ u_of d times q = ap (u_of d times) (of_process q c) in
        let f : u_of d times (process s) ≡ 1 + (1 + size_of (in_place d times) [] (steps s.steps)) = refl in
        omega (arith, a, e, f)

    small_s : (often : List ℕ → Statement → ℕ) (q : FlatProc) → Contains d.procs q → s_of d often q ≤ 342
    small_s often q c =
        let parts = size_is (in_place d often) in
        let a = parts.0 in
        let b = parts.1 in
        let e : s_of d often (process s) ≡ s_of d often q = ap (s_of d often) (of_process q c) in
        let f : s_of d often (process s) ≡ 1 + stops_in (stopping d often 0) [] (steps s.steps) = refl in
        let g = stops_are (stopping d often 0) s.steps in
        omega (arith, a, b, e, f, g)

    -- a product of numbers that are not both large
    small_product : (size stops : ℕ) → size + 5 * stops ≤ 2048 → stops ≤ size → 0 + (1 + stops) * (1 + (1 + size)) ≤ 500000
    small_product size stops sum less = go (nat_le stops 200) refl
      where
        go : (b : Bool) → nat_le stops 200 ≡ b → 0 + (1 + stops) * (1 + (1 + size)) ≤ 500000
        go true e =
            let few : stops ≤ 200 = leb-true stops 200 e in
            let right = mul-le-mul_left {m = 1 + (1 + size)} {n = 2050} (1 + stops) (omega (arith, sum)) in
            omega (arith, right, few)
        go false e =
            let many : 200 < stops = leb-false stops 200 e in
            let right = mul-le-mul_left {m = 1 + (1 + size)} {n = 1045} (1 + stops) (omega (arith, sum, many)) in
            omega (arith, right, sum, less)

    small_products : (times often : List ℕ → Statement → ℕ) → rules.products d times often ≤ 500000
    small_products times often =
        let parts = size_is (in_place d times) in
        let g = stops_are (stopping d often 0) s.steps in
        let small = small_product (size_of (in_place d times) [] (steps s.steps)) (waits_in s.steps) parts.0 parts.1 in
        let size : ℕ = size_of (in_place d times) [] (steps s.steps) in
        let e : rules.products d times often ≡ 0 + (1 + stops_in (stopping d often 0) [] (steps s.steps)) * (1 + (1 + size)) = refl in
        subst (λ (n : ℕ). n ≤ 500000) (sym (e ∙ ap (λ (n : ℕ). 0 + (1 + n) * (1 + (1 + size))) g)) small

    -- ---- no rule is broken

    no_misfit_node : (e c : Expr) → calls_in e ≡ [] → Contains (nodes_of e) c → calls.CallMisfits d c → ⊥
    no_misfit_node e c none k (calls.of_function {f = f} m) = con_nil f (subst (λ xs. Contains xs f) none (con_mapped called (nodes_of e) c f k refl))
    no_misfit_node e c none k (calls.of_import {f = f} n m) = con_nil f (subst (λ xs. Contains xs f) none (con_mapped called (nodes_of e) c f k refl))

    no_misfit : (at : Place) → calls.HasMisfit d at → ⊥
    no_misfit _ (calls.misfit_enable i e) = no_enable (in_text _ i)
    no_misfit _ (calls.misfit_host i e) = no_host (in_text _ i)
    no_misfit _ (calls.misfit_call {e = e} {c = c} (calls.of_statement i k) n m) = no_misfit_node e c (no_call_in (in_text _ i) k) n m
    no_misfit _ (calls.misfit_call {e = e} {c = c} (calls.of_net {net = net} k i) n m) = no_value net e k i

    no_impure : (at : Place) → calls.IsImpure d at → ⊥
    no_impure _ (calls.foreign {g = g} c h e) = con_nil g c
    no_impure _ (calls.outside {g = g} c h e) = con_nil g c
    no_impure _ (calls.early {g = g} c h e) = con_nil g c
    no_impure _ (calls.leaves {g = g} c h e) = con_nil g c

    no_recursion : (at : Place) → calls.IsRecursive d at → ⊥
    no_recursion _ (calls.leads_back (calls.leads (calls.task_body e) h u) l) = cc
    no_recursion _ (calls.leads_back (calls.leads (calls.function_body e) h u) l) = cc

    no_disables : (at : Place) → calls.DisablesWrongly d at → ⊥
    no_disables _ (calls.in_function {g = g} c h) = con_nil g c
    no_disables _ (calls.not_own m n) = no_disable (has _ _ m)
    no_disables _ (calls.also_other m n p) = no_disable (has _ _ m)

    no_host_inside : (at : Place) → calls.CallsHostInside d at → ⊥
    no_host_inside _ (calls.inside_statement {f = f} m k c n) = con_nil f (subst (λ xs. Contains xs f) (no_call_in (has _ _ m) k) c)
    no_host_inside _ (calls.inside_net {net = net} {e = e} k i c n) = no_value net e k i

    no_use : {x : Statement} {r : calls.Routine} → Held x → calls.Uses d x r → ⊥
    no_use h calls.enables = no_enable h
    no_use h (calls.calls {f = f} l c) = con_nil f (subst (λ xs. Contains xs f) (no_calls h) c)

    no_nesting : (at : Place) → rules.NestsTooDeep d at → ⊥
    no_nesting _ (rules.process_nests {process = q} k (calls.one_more {x = x} h u b c)) = no_use (held (subst (λ p. Stands [] [] p.body h.0 x) (sym (of_process q k)) h.1)) u
    no_nesting _ (rules.net_nests {net = net} {e = e} k i c b h) = no_value net e k i
    no_nesting _ (rules.process_large {process = q} k l) = let u = small_u once q k in omega (arith, l, u)

    no_turns : (at : Place) → rules.TurnsTooOften d at → ⊥
    no_turns _ (rules.too_many l b n m w) = no_loop _ _ _ l b
    no_turns _ (rules.without_end l b n w) = no_loop _ _ _ l b

    no_nets : (times : List ℕ → Statement → ℕ) → nets_size d times ≡ 0
    no_nets times = go s.inputs
      where
        go : (ps : List Port) → nets_size (record d { nets = map view.net_of (net_of s.clock 1 s.clock_place ∷ map input_of ps) }) times ≡ 0
        go [] = refl
        go (p ∷ ps) = go ps

    no_large : (at : Place) → rules.IsTooLarge d at → ⊥
    no_large _ (rules.large_u {process = q} times c k l) = let u = small_u times q k in omega (arith, l, u)
    no_large _ (rules.large_s {process = q} often c k l) = let u = small_s often q k in omega (arith, l, u)
    no_large _ (rules.large_products times often c k l) = let u = small_products times often in omega (arith, l, u)
    no_large _ (rules.large_nets times c l) = let u = no_nets times in omega (arith, l, u)

    only_first : {p v : ℕ} → Writes d p v → 0 ≡ p
    only_first {p = p} (by_blocking (writes_blocking m c)) = (is_process p m.process m.is).0
    only_first {p = p} (by_nonblocking (writes_nonblocking m c)) = (is_process p m.process m.is).0

    none_blocking : {p v : ℕ} → WritesBlocking d p v → ⊥
    none_blocking {v = v} (writes_blocking m c) = con_nil v (subst (λ xs. Contains xs v) (none_blocking_at (has _ _ m)) c)

    no_dependence : {n m : ℕ} → DependsOn d n m → ⊥
    no_dependence {n = n} (depends {e = e} i c) = no_net n i.net e i.is i.value
    no_dependence {n = n} (depends_through {e = e} i c k) = no_net n i.net e i.is i.value

    pub clean_before : IsCleanBefore d 12
    clean_before pass rule at lt (rules.impure h) = no_impure at h
    clean_before pass rule at lt (rules.recursive h) = no_recursion at h
    clean_before pass rule at lt (rules.misfit h) = no_misfit at h
    clean_before pass rule at lt (rules.disables f h) = no_disables at h
    clean_before pass rule at lt (rules.host_inside f h) = no_host_inside at h
    clean_before pass rule at lt (rules.nested f h) = no_nesting at h
    clean_before pass rule at lt (rules.spins h) = absurd (omega arith)
    clean_before pass rule at lt (rules.turns h) = absurd (omega arith)
    clean_before pass rule at lt (rules.too_large h) = absurd (omega arith)
    clean_before pass rule at lt (rules.two_writers h) = absurd (omega arith)
    clean_before pass rule at lt (rules.both_kinds h) = absurd (omega arith)
    clean_before pass rule at lt (rules.across h) = absurd (omega arith)
    clean_before pass rule at lt (rules.nets_circle h) = absurd (omega arith)

    is_clean : list_any is_wait s.steps ≡ true → IsClean d
    is_clean waiting pass rule at (rules.spins h) = never_spins at waiting h
    is_clean waiting pass rule at (rules.turns h) = no_turns at h
    is_clean waiting pass rule at (rules.too_large h) = no_large at h
    is_clean waiting pass rule at (rules.two_writers (rules.two_write e n a b)) = n (sym (only_first a) ∙ only_first b)
    is_clean waiting pass rule at (rules.both_kinds (rules.both_ways e a b)) = none_blocking a
    is_clean waiting pass rule at (rules.across (rules.variable_across e w n r)) = none_blocking w
    is_clean waiting pass rule at (rules.across (rules.net_across e w r x)) = none_blocking w
    is_clean waiting pass rule at (rules.nets_circle (rules.circle e h)) = no_dependence h
    is_clean waiting pass rule at (rules.impure h) = no_impure at h
    is_clean waiting pass rule at (rules.recursive h) = no_recursion at h
    is_clean waiting pass rule at (rules.misfit h) = no_misfit at h
    is_clean waiting pass rule at (rules.disables f h) = no_disables at h
    is_clean waiting pass rule at (rules.host_inside f h) = no_host_inside at h
    is_clean waiting pass rule at (rules.nested f h) = no_nesting at h

    pub checked : waits s ≡ true → IsChecked d (numbers (length d.nets))
    checked waiting = record {
      sound = is_sound waiting;
      clean = is_clean waiting;
      ordered = record { each = λ n lt. among (length d.nets) n lt; size = so_many 0 (length d.nets); after = λ i n m e k. absurd (no_dependence k) };
    }

-- ---- of the design itself

pub design_checked : (s : Source) → IsSource s → waits s ≡ true → IsChecked (flat_of (design_of s)) (numbers (length (design_of s).nets))
design_checked s is waiting =
    subst (λ (n : ℕ). IsChecked (flat_of (design_of s)) (numbers n)) (length-map (design_of s).nets view.net_of)
    (subst (λ (f : Flat). IsChecked f (numbers (length f.nets))) (sym (flat_is s)) (checked s is waiting))

pub design_spins : (s : Source) (at : Place) → SpinsAt (flat_of (design_of s)) at ↔ ((waits s ≡ false) × (at ≡ s.process))
design_spins s at = subst (λ (f : Flat). SpinsAt f at ↔ ((waits s ≡ false) × (at ≡ s.process))) (sym (flat_is s)) (spins_where s at)

pub design_clean : (s : Source) → IsSource s → IsCleanBefore (flat_of (design_of s)) 12
design_clean s is = subst (λ (f : Flat). IsCleanBefore f 12) (sym (flat_is s)) (clean_before s is)

-- it has no imports, so no process has pins for calls
pub design_has_no_hosts : (s : Source) → hosts_of (flat_of (design_of s)) ≡ []
design_has_no_hosts s = none_without_imports (flat_of (design_of s)) (ap (λ (f : Flat). f.imports) (flat_is s))
