-- Where a statement has an exit by its structure, a walk leads there.
use Rattle.std.proofs.Common.{◌≡◌, ◌⊎◌, inl, inr, ℕ, zero, suc, ◌+◌, ◌≤◌, ◌==◌, ◌&&◌, ◌||◌, not, Bool, true, false, if◌then◌else◌, List, [], ◌∷◌, Option, Some, None, Contains, slice_get, length, refl, sym, subst, arith, T, eqb→eq, eq-eqb}
use Rattle.std.proofs.lemmas.Option.{slice_get_within}
use Rattle.xt_base.specs.declared.refusals.Place.{Place}
use Rattle.el_design.specs.Plain.{Expr, Lvalue, Statement, Null, Skip, Seq, Block, Assign, If, Case, Arm, For, While, Repeat, Forever, Wait, Enable, Disable, Host, FlatTask, Flat}
use Rattle.el_design.specs.Assign.{has_label, arm_chosen, count_of}
use Rattle.el_design.specs.Names.{is_constant}
use Rattle.el_design.specs.Purity.{contains_number}
use Rattle.el_design.specs.Stack.{Work, below_mark}
use Rattle.el_design.specs.InPlace.{Stands, itself, in_first, in_rest, in_block, in_named, in_then, in_else, in_case, in_arm, in_others, in_for, in_while, in_repeat, in_forever, in_task, InPlace}
use Rattle.el_design.specs.Calls.{Routine, TaskOf, Uses, enables, Leads, leads, LeadsTo, there, onward, task_body, leads_back}
use Rattle.el_design.specs.Turns.{fixed, HasBound, bound_repeat, bound_while, HasTurns, of_repeat, of_while, IsEndlessWhile, endless_while, body_of}
use Rattle.el_design.specs.Walk.{choices, is_constant_case}
use Rattle.el_design.specs.Rules.{IsFinite}
use Rattle.el_design.specs.Exits.{Exit, Past, Away, Exits, no_exit, past_alone, after, inside, choosing, looping, stopping, may_hold, may_fail, Told, NotCounted, Finite, Endless, is_zero, turns_of, endless_of, for_exits, repeat_exits, Arms, Alone, Any, Fixed, takes, skips, arms_of, TaskExits, enable_exits, exits, Says, TellsRightly, AreOfTasks}
use Rattle.el_design.proofs.OrderLists.{con_head, con_tail}
use Rattle.el_design.proofs.OrderSane.{In, IsUnder, Comes}
use Rattle.el_design.proofs.OrderDepth.{under_few}
use Rattle.el_design.proofs.WaysPuts.{one_of, left_of, right_of, not_so, true_or_false, clash}
use Rattle.el_design.proofs.WaysFound.{may_go, ends, opens}
use Rattle.el_design.proofs.Leaving.{Leaves, leaves_null, leaves_skip, leaves_seq, leaves_first, leaves_block, leaves_named, leaves_ended, leaves_through, leaves_assign, leaves_then, leaves_else, leaves_case, leaves_host, leaves_passed, leaves_disabled, leaves_enable, leaves_task, leaves_enabled, leaves_forever, leaves_turns, leaves_turn, leaves_endless_for, leaves_endless_while, leaves_free, leaves_free_turn}

zero_is : (n : ℕ) → is_zero n ≡ true → n ≡ 0
zero_is zero e = refl
zero_is (suc n) e = cc

-- one of two that may be taken
both_of : (p a q b : Bool) → ((p && a) || (q && b)) ≡ true → ((p ≡ true) × (a ≡ true)) ⊎ ((q ≡ true) × (b ≡ true))
both_of p a q b h = go (one_of (p && a) (q && b) h)
  where
    go : ((p && a) ≡ true) ⊎ ((q && b) ≡ true) → ((p ≡ true) × (a ≡ true)) ⊎ ((q ≡ true) × (b ≡ true))
    go (inl k) = inl (left_of p a k, right_of p a k)
    go (inr k) = inr (left_of q b k, right_of q b k)

-- a mark that isn't among these isn't open in their ends
pub shut : (marks : List ℕ) (m : ℕ) → contains_number marks m ≡ false → below_mark m (ends marks) ≡ None
shut [] m e = refl
shut (n ∷ marks) m e = go (n == m) e (shut marks m)
  where
    go : (b : Bool) → (b || contains_number marks m) ≡ false → (contains_number marks m ≡ false → below_mark m (ends marks) ≡ None) → (if b then Some (ends marks) else below_mark m (ends marks)) ≡ None
    go true e more = cc
    go false e more = more e

-- what is told of a statement that is a `for` is so
abbrev pub Right : Flat → (Statement → Told) → Statement → Type 0
Right d told (For at v first test next body) = Says d (For at v first test next body) (told (For at v first test next body))
Right d told s = Unit {0}

pub right_in : (d : Flat) (told : Statement → Told) (s : Statement) → TellsRightly d told s → (x : Statement) → InPlace d.tasks x s → Right d told x
right_in d told s t (For at v first test next body) i = t at v first test next body i
right_in d told s t Null i = tt
right_in d told s t Skip i = tt
right_in d told s t (Seq a b) i = tt
right_in d told s t (Block at m body) i = tt
right_in d told s t (Assign at to e held) i = tt
right_in d told s t (If at test a b) i = tt
right_in d told s t (Case at on arms) i = tt
right_in d told s t (Arm on labels body others) i = tt
right_in d told s t (While at test body) i = tt
right_in d told s t (Repeat at count body) i = tt
right_in d told s t (Forever at body) i = tt
right_in d told s t (Wait at falling) i = tt
right_in d told s t (Enable at u ins outs) i = tt
right_in d told s t (Disable at m) i = tt
right_in d told s t (Host at f ins result outs) i = tt

module _ (d : Flat) (told : Statement → Told) (tasks : TaskExits) where
  abbrev out : Arms → List ℕ → Statement → Exits
  out arms marks s = exits d told tasks arms marks s

  abbrev pub Placed : List ℕ → Statement → Type 0
  Placed marks s = (o : List ℕ) (x : Statement) → Stands d.tasks marks s o x → Right d told x

  -- with these exits a walk goes out of the statement
  abbrev pub Found : Exits → List ℕ → Statement → Type 0
  Found w marks s = (e : Exit) → w e ≡ true → Leaves d (ends marks) s e

  -- and out of what a `case` chooses
  abbrev Claim : Arms → List ℕ → Statement → Exit → Type 0
  Claim Alone marks s e = Leaves d (ends marks) s e
  Claim Any marks s e = (x : Statement) × Contains (choices s) x × Leaves d (ends marks) x e
  Claim Fixed marks s e = Contains (choices s) (arm_chosen d (fixed d) s) × Leaves d (ends marks) (arm_chosen d (fixed d) s) e

  abbrev FoundIn : Arms → Exits → List ℕ → Statement → Type 0
  FoundIn arms w marks s = (e : Exit) → w e ≡ true → Claim arms marks s e

  in_arms : (arms : Arms) (w : Exits) (marks : List ℕ) (s : Statement) → choices s ≡ s ∷ [] → arm_chosen d (fixed d) s ≡ s → Found w marks s → FoundIn arms w marks s
  in_arms Alone w marks s c a f e h = f e h
  in_arms Any w marks s c a f e h = (s, subst (λ l. Contains l s) (sym c) (con_head s []), f e h)
  in_arms Fixed w marks s c a f e h =
      (subst (λ x. Contains (choices s) x) (sym a) (subst (λ l. Contains l s) (sym c) (con_head s [])), subst (λ x. Leaves d (ends marks) x e) (sym a) (f e h))

  module _ (marks : List ℕ) where
    abbrev low : List Work
    low = ends marks

    seq_found : (a b : Exits) (x y : Statement) → Found a marks x → Found b marks y → Found (after a b) marks (Seq x y)
    seq_found a b x y f g Past h = leaves_seq d low x y Past (f Past (left_of _ _ h)) (g Past (right_of (a Past) (b Past) h))
    seq_found a b x y f g (Away m) h = go (one_of _ _ h)
      where
        go : (a (Away m) ≡ true) ⊎ ((a Past && b (Away m)) ≡ true) → Leaves d low (Seq x y) (Away m)
        go (inl k) = leaves_first d low x y m (f (Away m) k)
        go (inr k) = leaves_seq d low x y (Away m) (f Past (left_of _ _ k)) (g (Away m) (right_of (a Past) (b (Away m)) k))

    named_found : (a : Exits) (at : Place) (m : ℕ) (body : Statement) → Found a (m ∷ marks) body → Found (inside m a) marks (Block at (Some m) body)
    named_found a at m body f Past h = go (one_of _ _ h)
      where
        go : (a Past ≡ true) ⊎ (a (Away m) ≡ true) → Leaves d low (Block at (Some m) body) Past
        go (inl k) = leaves_named d low at m body (f Past k)
        go (inr k) = leaves_ended d low at m m body (eq-eqb m m refl) (f (Away m) k)
    named_found a at m body f (Away n) h = leaves_through d low at m n body (not_so (m == n) (left_of _ _ h)) (f (Away n) (right_of (not (m == n)) (a (Away n)) h))

    if_found : (a b : Exits) (at : Place) (test : Expr) (x y : Statement) → Found a marks x → Found b marks y → Found (choosing (may_hold d test) a (may_fail d test) b) marks (If at test x y)
    if_found a b at test x y f g e h = go (both_of (may_hold d test) (a e) (may_fail d test) (b e) h)
      where
        go : ((may_hold d test ≡ true) × (a e ≡ true)) ⊎ ((may_fail d test ≡ true) × (b e ≡ true)) → Leaves d low (If at test x y) e
        go (inl k) = leaves_then d low at test x y e (may_go d test true k.0) (f e k.1)
        go (inr k) = leaves_else d low at test x y e (may_go d test false k.0) (g e k.1)

    -- ---- loops

    turns_found : (a : Exits) (at : Place) (s body : Statement) (n : ℕ) → HasTurns d s n → body_of s ≡ Some body → Found a marks body → Found (turns_of n a) marks s
    turns_found a at s body n t b f Past h = go (one_of _ _ h)
      where
        go : (is_zero n ≡ true) ⊎ ((true && a Past) ≡ true) → Leaves d low s Past
        go (inl k) = leaves_turns d low at s body n b t (inl (zero_is n k))
        go (inr k) = leaves_turns d low at s body n b t (inr (f Past (right_of true (a Past) k)))
    turns_found a at s body zero t b f (Away m) h = cc
    turns_found a at s body (suc n) t b f (Away m) h = leaves_turn d low at s body n m b t (f (Away m) (right_of true (a (Away m)) h))

    for_found : (a : Exits) (at : Place) (v : ℕ) (first test next : Expr) (body : Statement) (t : Told) → Says d (For at v first test next body) t → Found a marks body →
        Found (for_exits t (may_hold d test) (may_fail d test) a) marks (For at v first test next body)
    for_found a at v first test next body NotCounted r f Past h = go (one_of (may_fail d test) (false && a Past) h)
      where
        go : (may_fail d test ≡ true) ⊎ ((false && a Past) ≡ true) → Leaves d low (For at v first test next body) Past
        go (inl k) = leaves_free d low (For at v first test next body) body (record { body_is = refl; no_bound = r; no_end = λ i. elim i [ ] }) (may_go d test false k) (λ q. refl)
        go (inr k) = cc
    for_found a at v first test next body NotCounted r f (Away m) h =
        leaves_free_turn d low (For at v first test next body) body m (record { body_is = refl; no_bound = r; no_end = λ i. elim i [ ] }) (may_go d test true (left_of _ _ h)) (λ q. refl)
        (f (Away m) (right_of (may_hold d test) (a (Away m)) h))
    for_found a at v first test next body (Finite n) r f e h = turns_found a at (For at v first test next body) body n r refl f e h
    for_found a at v first test next body Endless r f Past h = cc
    for_found a at v first test next body Endless r f (Away m) h = leaves_endless_for d low (For at v first test next body) body m refl r (f (Away m) (right_of true (a (Away m)) h))

    repeat_free : (at : Place) (count : Expr) (body : Statement) → is_constant count ≡ false → HasBound d (Repeat at count body) → ⊥
    repeat_free at count body i (bound_repeat c) = clash (is_constant count) c i

    repeat_found : (a : Exits) (at : Place) (count : Expr) (body : Statement) → Found a marks body → (b : Bool) → is_constant count ≡ b → Found (repeat_exits b (count_of d (fixed d) count) a) marks (Repeat at count body)
    repeat_found a at count body f true i e h = turns_found a at (Repeat at count body) body (count_of d (fixed d) count) (of_repeat i) refl f e h
    repeat_found a at count body f false i Past h =
        leaves_free d low (Repeat at count body) body (record { body_is = refl; no_bound = repeat_free at count body i; no_end = λ j. elim j [ ] }) tt (λ q. refl)
    repeat_found a at count body f false i (Away m) h =
        leaves_free_turn d low (Repeat at count body) body m (record { body_is = refl; no_bound = repeat_free at count body i; no_end = λ j. elim j [ ] }) tt (λ q. refl) (f (Away m) (right_of true (a (Away m)) h))

    while_free : (at : Place) (test : Expr) (body : Statement) → is_constant test ≡ false → HasBound d (While at test body) → ⊥
    while_free at test body i (bound_while c k) = clash (is_constant test) c i

    while_ends : (at : Place) (test : Expr) (body : Statement) → is_constant test ≡ false → IsEndlessWhile d (While at test body) → ⊥
    while_ends at test body i (endless_while c k) = clash (is_constant test) c i

    while_found : (a : Exits) (at : Place) (test : Expr) (body : Statement) → Found a marks body → Found (looping (may_fail d test) false (may_hold d test) a) marks (While at test body)
    while_found a at test body f Past h = go (true_or_false (is_constant test)) (one_of (may_fail d test) (false && a Past) h)
      where
        go : (is_constant test ≡ true) ⊎ (is_constant test ≡ false) → (may_fail d test ≡ true) ⊎ ((false && a Past) ≡ true) → Leaves d low (While at test body) Past
        go c (inr k) = cc
        go (inl c) (inl k) = leaves_turns d low at (While at test body) body 0 refl (of_while c (may_go d test false k c)) (inl refl)
        go (inr c) (inl k) = leaves_free d low (While at test body) body (record { body_is = refl; no_bound = while_free at test body c; no_end = while_ends at test body c }) tt (λ q. refl)
    while_found a at test body f (Away m) h = go (true_or_false (is_constant test)) (left_of (may_hold d test) (a (Away m)) h) (right_of (may_hold d test) (a (Away m)) h)
      where
        go : (is_constant test ≡ true) ⊎ (is_constant test ≡ false) → may_hold d test ≡ true → a (Away m) ≡ true → Leaves d low (While at test body) (Away m)
        go (inl c) k j = leaves_endless_while d low (While at test body) body m refl (endless_while c (may_go d test true k c)) (f (Away m) j)
        go (inr c) k j = leaves_free_turn d low (While at test body) body m (record { body_is = refl; no_bound = while_free at test body c; no_end = while_ends at test body c }) tt (λ q. refl) (f (Away m) j)

    forever_found : (a : Exits) (at : Place) (body : Statement) → Found a marks body → Found (endless_of a) marks (Forever at body)
    forever_found a at body f Past h = cc
    forever_found a at body f (Away m) h = leaves_forever d low at body m (f (Away m) (right_of true (a (Away m)) h))

    -- ---- enables, `disable`s and choices

    enable_found : (a : Exits) (at : Place) (t : ℕ) (ins : List Expr) (outs : List Lvalue) (o : Option FlatTask) → slice_get d.tasks t ≡ o →
        ((task : FlatTask) → slice_get d.tasks t ≡ Some task → Found a (task.mark ∷ marks) task.body) → Found (enable_exits o a) marks (Enable at t ins outs)
    enable_found a at t ins outs None i f e h = cc
    enable_found a at t ins outs (Some task) i f Past h = go (one_of _ _ h)
      where
        go : (a Past ≡ true) ⊎ (a (Away task.mark) ≡ true) → Leaves d low (Enable at t ins outs) Past
        go (inl k) = leaves_enable d low at t ins outs task i (f task i Past k)
        go (inr k) = leaves_task d low at t task.mark ins outs task i (eq-eqb task.mark task.mark refl) (f task i (Away task.mark) k)
    enable_found a at t ins outs (Some task) i f (Away n) h =
        leaves_enabled d low at t n ins outs task i (not_so (task.mark == n) (left_of _ _ h)) (f task i (Away n) (right_of (not (task.mark == n)) (a (Away n)) h))

    disable_found : (at : Place) (m : ℕ) → Found (stopping (contains_number marks m) m) marks (Disable at m)
    disable_found at m Past h = leaves_passed d low at m (shut marks m (not_so _ h))
    disable_found at m (Away n) h =
        subst (λ k. Leaves d low (Disable at m) (Away k)) (eqb→eq m n (subst T (sym (left_of (m == n) (contains_number marks m) h)) tt))
        (leaves_disabled d low at m (opens marks m (Rattle.el_design.proofs.WaysPuts.con_has marks m (right_of (m == n) (contains_number marks m) h))))

    past_found : (s : Statement) → Leaves d low s Past → Found past_alone marks s
    past_found s l Past h = l
    past_found s l (Away m) h = cc

    nothing_found : (s : Statement) → Found no_exit marks s
    nothing_found s e h = cc

    case_found : (a : Exits) (at : Place) (on : Expr) (arms : Statement) (b : Bool) → is_constant_case on arms ≡ b → FoundIn (arms_of b) a marks arms → Found a marks (Case at on arms)
    case_found a at on arms true i f e h = let c : Claim Fixed marks arms e = f e h in leaves_case d low at on arms (arm_chosen d (fixed d) arms) e c.0 (λ k. refl) c.1
    case_found a at on arms false i f e h = let c : Claim Any marks arms e = f e h in leaves_case d low at on arms c.0 e c.1 (λ k. clash (is_constant_case on arms) k i) c.2

    arm_found : (arms : Arms) (a b : Exits) (on : Expr) (labels : List Expr) (body others : Statement) → Found a marks body → FoundIn arms b marks others →
        FoundIn arms (choosing (takes arms (has_label d (fixed d) on labels)) a (skips arms (has_label d (fixed d) on labels)) b) marks (Arm on labels body others)
    arm_found Alone a b on labels body others f g e h = cc
    arm_found Any a b on labels body others f g e h = go (both_of true (a e) true (b e) h)
      where
        go : ((true ≡ true) × (a e ≡ true)) ⊎ ((true ≡ true) × (b e ≡ true)) → Claim Any marks (Arm on labels body others) e
        go (inl k) = (body, con_head body (choices others), f e k.1)
        go (inr k) = let c : Claim Any marks others e = g e k.1 in (c.0, con_tail body c.0 (choices others) c.1, c.2)
    arm_found Fixed a b on labels body others f g e h =
        go (has_label d (fixed d) on labels) refl (both_of (has_label d (fixed d) on labels) (a e) (not (has_label d (fixed d) on labels)) (b e) h)
      where
        go : (t : Bool) → has_label d (fixed d) on labels ≡ t → ((has_label d (fixed d) on labels ≡ true) × (a e ≡ true)) ⊎ ((not (has_label d (fixed d) on labels) ≡ true) × (b e ≡ true)) →
            Claim Fixed marks (Arm on labels body others) e
        go true i (inl k) = rw i (con_head body (choices others), f e k.1)
        go true i (inr k) = clash (has_label d (fixed d) on labels) i (not_so _ k.0)
        go false i (inl k) = clash (has_label d (fixed d) on labels) k.0 i
        go false i (inr k) = let c : Claim Fixed marks others e = g e k.1 in rw i (con_tail body (arm_chosen d (fixed d) others) (choices others) c.0, c.1)

  -- ---- a statement, where it is so of the tasks that its text enables

  abbrev Enabled : List ℕ → Statement → Type 0
  Enabled text s = (o : List ℕ) (x : Statement) (t : ℕ) → Stands [] text s o x → Uses d x (TaskOf t) → (task : FlatTask) (marks : List ℕ) → slice_get d.tasks t ≡ Some task → Placed (task.mark ∷ marks) task.body →
      Found (tasks t marks) (task.mark ∷ marks) task.body

  found : (arms : Arms) (text marks : List ℕ) (s : Statement) → Enabled text s → Placed marks s → FoundIn arms (out arms marks s) marks s
  found arms text marks Null u p = in_arms arms (out arms marks Null) marks Null refl refl (past_found marks Null (leaves_null d (ends marks)))
  found arms text marks Skip u p = in_arms arms (out arms marks Skip) marks Skip refl refl (past_found marks Skip (leaves_skip d (ends marks)))
  found arms text marks (Seq a b) u p =
      in_arms arms (out arms marks (Seq a b)) marks (Seq a b) refl refl
      (seq_found marks (out Alone marks a) (out Alone marks b) a b (found Alone text marks a (λ o x t st. u o x t (in_first st)) (λ o x st. p o x (in_first st))) (found Alone text marks b (λ o x t st. u o x t (in_rest st)) (λ o x st. p o x (in_rest st))))
  found arms text marks (Block at None body) u p =
      in_arms arms (out arms marks (Block at None body)) marks (Block at None body) refl refl (λ e h. leaves_block d (ends marks) at body e (found Alone text marks body (λ o x t st. u o x t (in_block st)) (λ o x st. p o x (in_block st)) e h))
  found arms text marks (Block at (Some m) body) u p =
      in_arms arms (out arms marks (Block at (Some m) body)) marks (Block at (Some m) body) refl refl
      (named_found marks (out Alone (m ∷ marks) body) at m body (found Alone (m ∷ text) (m ∷ marks) body (λ o x t st. u o x t (in_named st)) (λ o x st. p o x (in_named st))))
  found arms text marks (Assign at to x held) u p = in_arms arms (out arms marks (Assign at to x held)) marks (Assign at to x held) refl refl (past_found marks (Assign at to x held) (leaves_assign d (ends marks) at to x held))
  found arms text marks (If at test a b) u p =
      in_arms arms (out arms marks (If at test a b)) marks (If at test a b) refl refl
      (if_found marks (out Alone marks a) (out Alone marks b) at test a b (found Alone text marks a (λ o x t st. u o x t (in_then st)) (λ o x st. p o x (in_then st)))
      (found Alone text marks b (λ o x t st. u o x t (in_else st)) (λ o x st. p o x (in_else st))))
  found arms text marks (Case at on others) u p =
      in_arms arms (out arms marks (Case at on others)) marks (Case at on others) refl refl
      (case_found marks (out (arms_of (is_constant_case on others)) marks others) at on others (is_constant_case on others) refl
      (found (arms_of (is_constant_case on others)) text marks others (λ o x t st. u o x t (in_case st)) (λ o x st. p o x (in_case st))))
  found arms text marks (Arm on labels body others) u p =
      arm_found marks arms (out Alone marks body) (out arms marks others) on labels body others (found Alone text marks body (λ o x t st. u o x t (in_arm st)) (λ o x st. p o x (in_arm st)))
      (found arms text marks others (λ o x t st. u o x t (in_others st)) (λ o x st. p o x (in_others st)))
  found arms text marks (For at v first test next body) u p =
      in_arms arms (out arms marks (For at v first test next body)) marks (For at v first test next body) refl refl
      (for_found marks (out Alone marks body) at v first test next body (told (For at v first test next body)) (p marks (For at v first test next body) itself)
      (found Alone text marks body (λ o x t st. u o x t (in_for st)) (λ o x st. p o x (in_for st))))
  found arms text marks (While at test body) u p =
      in_arms arms (out arms marks (While at test body)) marks (While at test body) refl refl (while_found marks (out Alone marks body) at test body (found Alone text marks body (λ o x t st. u o x t (in_while st)) (λ o x st. p o x (in_while st))))
  found arms text marks (Repeat at count body) u p =
      in_arms arms (out arms marks (Repeat at count body)) marks (Repeat at count body) refl refl
      (repeat_found marks (out Alone marks body) at count body (found Alone text marks body (λ o x t st. u o x t (in_repeat st)) (λ o x st. p o x (in_repeat st))) (is_constant count) refl)
  found arms text marks (Forever at body) u p =
      in_arms arms (out arms marks (Forever at body)) marks (Forever at body) refl refl (forever_found marks (out Alone marks body) at body (found Alone text marks body (λ o x t st. u o x t (in_forever st)) (λ o x st. p o x (in_forever st))))
  found arms text marks (Wait at falling) u p = in_arms arms (out arms marks (Wait at falling)) marks (Wait at falling) refl refl (nothing_found marks (Wait at falling))
  found arms text marks (Enable at t ins outs) u p =
      in_arms arms (out arms marks (Enable at t ins outs)) marks (Enable at t ins outs) refl refl
      (enable_found marks (tasks t marks) at t ins outs (slice_get d.tasks t) refl (λ task i. u text (Enable at t ins outs) t itself enables task marks i (λ o x st. p o x (in_task i st))))
  found arms text marks (Disable at m) u p = in_arms arms (out arms marks (Disable at m)) marks (Disable at m) refl refl (disable_found marks at m)
  found arms text marks (Host at f ins result outs) u p =
      in_arms arms (out arms marks (Host at f ins result outs)) marks (Host at f ins result outs) refl refl (past_found marks (Host at f ins result outs) (leaves_host d (ends marks) at f ins result outs))

  -- ---- in place: no task leads back to itself, so they nest no deeper than there are tasks

  module _ (finite : IsFinite d) (given : AreOfTasks d told tasks) where
    led_on : {b c : Routine} {r : Routine} {at : Place} → LeadsTo d b c → Leads d c r at → LeadsTo d b r
    led_on there l = onward l there
    led_on (onward k rest) l = onward k (led_on rest l)

    abbrev comes_within : (under text : List ℕ) (s : Statement) → Type 0
    comes_within under text s = (o : List ℕ) (x : Statement) (t u : ℕ) → Stands [] text s o x → Uses d x (TaskOf t) → In u under → Comes d u t

    deeper : (under : List ℕ) (t : ℕ) (task : FlatTask) → slice_get d.tasks t ≡ Some task → IsUnder d under → ((u : ℕ) → In u under → Comes d u t) → IsUnder d (t ∷ under)
    deeper under t task e tasks before = (slice_get_within d.tasks t task e, (λ j. let c : Comes d t t = before t j in finite c.1 (leads_back c.2 c.3)), tasks)

    comes_on : (under : List ℕ) (t : ℕ) (task : FlatTask) → slice_get d.tasks t ≡ Some task → ((u : ℕ) → In u under → Comes d u t) → comes_within (t ∷ under) [] task.body
    comes_on under t task e before o x q u st uses (inl j) = subst (λ k. Comes d k q) j (TaskOf q, _, leads (task_body e) (o, st) uses, there)
    comes_on under t task e before o x q u st uses (inr j) = let c : Comes d u t = before u j in (c.0, c.1, c.2, led_on c.3 (leads (task_body e) (o, st) uses))

    all_found : (n : ℕ) (under text : List ℕ) (s : Statement) → IsUnder d under → length d.tasks ≤ length under + n → comes_within under text s → (arms : Arms) (marks : List ℕ) → Placed marks s → FoundIn arms (out arms marks s) marks s
    all_found zero under text s few room comes arms marks p = found arms text marks s none p
      where
        none : Enabled text s
        none o x t st uses task inner e q = absurd (let k : length (t ∷ under) ≤ length d.tasks = under_few d (t ∷ under) (deeper under t task e few (λ u i. comes o x t u st uses i)) in omega (arith, k, room))
    all_found (suc n) under text s few room comes arms marks p = found arms text marks s (λ o x t st uses task inner e q.
        subst (λ w. Found w (task.mark ∷ inner) task.body) (sym (given t task inner e))
        (all_found n (t ∷ under) [] task.body (deeper under t task e few (λ u i. comes o x t u st uses i)) (omega (arith, room)) (comes_on under t task e (λ u i. comes o x t u st uses i)) Alone (task.mark ∷ inner) q)) p

    pub exit_found : (marks : List ℕ) (s : Statement) → Placed marks s → Found (out Alone marks s) marks s
    exit_found marks s p = all_found (length d.tasks) [] [] s tt (omega arith) (λ o x q u st uses i. absurd i) Alone marks p
