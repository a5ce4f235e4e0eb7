-- Where a statement may be left by its ways, there is a walk.
use Rattle.std.proofs.Common.{◌≡◌, ◌⊎◌, inl, inr, ℕ, zero, suc, ◌<◌, ◌==◌, ◌&&◌, ◌||◌, not, Bool, true, false, if◌then◌else◌, List, [], ◌∷◌, Option, Some, None, Contains, slice_get, length, refl, sym, ◌∙◌, ap, subst, arith, T, eqb→eq, eq-eqb}
use Rattle.xt_base.specs.declared.refusals.Place.{Place}
use Rattle.el_design.specs.Plain.{Expr, Lvalue, Statement, Null, Skip, Seq, Block, Assign, If, Case, Arm, For, While, Repeat, Forever, Wait, Enable, Disable, Host, FlatTask, Flat}
use Rattle.el_design.specs.Assign.{has_label, arm_chosen, count_of}
use Rattle.el_design.specs.Names.{is_constant}
use Rattle.el_design.specs.Purity.{contains_number}
use Rattle.el_design.specs.Stack.{Work, End, below_mark}
use Rattle.el_design.specs.InPlace.{Stands, itself, in_first, in_rest, in_block, in_named, in_then, in_else, in_case, in_arm, in_others, in_for, in_while, in_repeat, in_forever, in_task, LoopAt}
use Rattle.el_design.specs.Turns.{fixed, holds, stored_by, goes_on, IsCounted, HasBound, bound_for, HasTurns, of_repeat, of_for, IsEndlessFor, endless_for}
use Rattle.el_design.specs.Walk.{choices, is_constant_case, MayGo, HasWalk}
use Rattle.el_design.specs.Rules.{IsCleanBefore, without_end, turns}
use Rattle.el_design.proofs.OrderLists.{con_head, con_tail, con_nil, con_cases}
use Rattle.el_design.proofs.OrderRule.{Opens, walked}
use Rattle.el_design.proofs.Bounds.{Surely, surely, IsConstantLoop, constant_for}
use Rattle.el_design.proofs.OrderWalk.{Leaves, leaves_null, leaves_skip, leaves_seq, leaves_first, leaves_block, leaves_named, leaves_ended, leaves_through, leaves_assign, leaves_then, leaves_else, leaves_case, leaves_host, leaves_passed, leaves_disabled, leaves_enable, leaves_task, leaves_enabled, leaves_forever, leaves_turns, leaves_turn, leaves_endless_for, leaves_free, leaves_free_turn, leaves_while, leaves_while_turn, leaves_repeat, leaves_repeat_turn}
use Rattle.el_design.proofs.Ways.{Way, Past, Away, Ways, never, simply, after, ending, choosing, turning, stopping, enabling, is_zero, repeating, fors, may, Mode, Lone, Any, Fixed, takes, skips, mode_of, ways, body_ways, task_ways, all_ways}
use Rattle.el_design.proofs.WaysPuts.{one_of, left_of, right_of, not_so, clash, counted_for, is_counted, counted_is}

-- ---- tests

go_true : (c h : Bool) → (not c || h) ≡ true → c ≡ true → h ≡ true
go_true true h e k = e
go_true false h e k = cc

go_false : (c h : Bool) → not (c && h) ≡ true → c ≡ true → h ≡ false
go_false true h e k = not_so h e
go_false false h e k = cc

pub may_go : (d : Flat) (test : Expr) (way : Bool) → may d test way ≡ true → MayGo d test way
may_go d test true e = go_true (is_constant test) (holds d test) e
may_go d test false e = go_false (is_constant test) (holds d test) e

true_go : (c h : Bool) → (c ≡ true → h ≡ true) → (not c || h) ≡ true
true_go true h f = f refl
true_go false h f = refl

false_go : (c h : Bool) → (c ≡ true → h ≡ false) → not (c && h) ≡ true
false_go true true f = let e : true ≡ false = f refl in cc
false_go true false f = refl
false_go false h f = refl

pub go_may : (d : Flat) (test : Expr) (way : Bool) → MayGo d test way → may d test way ≡ true
go_may d test true f = true_go (is_constant test) (holds d test) f
go_may d test false f = false_go (is_constant test) (holds d test) f

pub zero_is : (n : ℕ) → is_zero n ≡ true → n ≡ 0
zero_is zero e = refl
zero_is (suc n) e = cc

-- ---- stacks of ends alone

abbrev pub ends : List ℕ → List Work
ends [] = []
ends (m ∷ marks) = End m ∷ ends marks

pub opens : (marks : List ℕ) → Opens marks (ends marks)
opens [] m c e = con_nil m c
opens (n ∷ marks) m c e = go (con_cases n m marks c) (n == m) refl (opens marks m) e
  where
    go : (n ≡ m) ⊎ Contains marks m → (b : Bool) → (n == m) ≡ b → (Contains marks m → below_mark m (ends marks) ≡ None → ⊥) → (if b then Some (ends marks) else below_mark m (ends marks)) ≡ None → ⊥
    go k true i more e = cc
    go (inl i) false j more e = clash (n == m) (eq-eqb n m i) j
    go (inr k) false j more e = more k e

shut : (marks : List ℕ) (m : ℕ) → contains_number marks m ≡ false → below_mark m (ends marks) ≡ None
shut [] m e = refl
shut (n ∷ marks) m e = go (n == m) e (shut marks m)
  where
    go : (b : Bool) → (b || contains_number marks m) ≡ false → (contains_number marks m ≡ false → below_mark m (ends marks) ≡ None) → (if b then Some (ends marks) else below_mark m (ends marks)) ≡ None
    go true e more = cc
    go false e more = more e

-- ---- loops

module _ (d : Flat) where
  pub for_is : (at : Place) (v n : ℕ) (first test next : Expr) (body : Statement) → HasTurns d (For at v first test next body) n →
      IsCounted d v first test next body × ((k : ℕ) → k < n → goes_on d v first test next k ≡ true) × (goes_on d v first test next n ≡ false)
  for_is at v n first test next body (of_for c f g) = (c, f, g)

  pub endless_is : (at : Place) (v : ℕ) (first test next : Expr) (body : Statement) → IsEndlessFor d (For at v first test next body) →
      IsCounted d v first test next body × ((k : ℕ) → goes_on d v first test next k ≡ true)
  endless_is at v first test next body (endless_for c f) = (c, f)

  pub repeat_is : (at : Place) (n : ℕ) (count : Expr) (body : Statement) → HasTurns d (Repeat at count body) n → (is_constant count ≡ true) × (n ≡ count_of d (fixed d) count)
  repeat_is at n count body (of_repeat c) = (c, refl)

-- ---- statements

abbrev pub way_of : Option ℕ → Way
way_of None = Past
way_of (Some m) = Away m

module _ (d : Flat) (clean : IsCleanBefore d 13) where
  abbrev pub loops : ℕ → Expr → Expr → Expr → Statement → Bool
  loops = counted_for d clean

  pub free_for : (at : Place) (v : ℕ) (first test next : Expr) (body : Statement) → loops v first test next body ≡ false → HasBound d (For at v first test next body) → ⊥
  free_for at v first test next body e (bound_for c) = clash (loops v first test next body) (counted_is d clean v first test next body c) e

  abbrev Placed : List ℕ → Statement → Type 0
  Placed marks s = (o : List ℕ) (x : Statement) → Stands d.tasks marks s o x → LoopAt d o x

  -- with these ways goes a walk out of the statement
  abbrev Found : Ways → List ℕ → Statement → Type 0
  Found w marks s = (e : Option ℕ) → w (way_of e) ≡ true → Leaves d (ends marks) s e

  -- and out of what a `case` chooses
  abbrev Claim : Mode → List ℕ → Statement → Option ℕ → Type 0
  Claim Lone marks s e = Leaves d (ends marks) s e
  Claim Any marks s e = (x : Statement) × Contains (choices s) x × Leaves d (ends marks) x e
  Claim Fixed marks s e = Contains (choices s) (arm_chosen d (fixed d) s) × Leaves d (ends marks) (arm_chosen d (fixed d) s) e

  abbrev FoundIn : Mode → Ways → List ℕ → Statement → Type 0
  FoundIn mode w marks s = (e : Option ℕ) → w (way_of e) ≡ true → Claim mode marks s e

  in_mode : (mode : Mode) (w : Ways) (marks : List ℕ) (s : Statement) → choices s ≡ s ∷ [] → arm_chosen d (fixed d) s ≡ s → Found w marks s → FoundIn mode w marks s
  in_mode Lone w marks s c a f e h = f e h
  in_mode Any w marks s c a f e h = (s, subst (λ l. Contains l s) (sym c) (con_head s []), f e h)
  in_mode Fixed w marks s c a f e h =
      (subst (λ x. Contains (choices s) x) (sym a) (subst (λ l. Contains l s) (sym c) (con_head s [])), subst (λ x. Leaves d (ends marks) x e) (sym a) (f e h))

  module _ (marks : List ℕ) where
    abbrev under : List Work
    under = ends marks

    seq_found : (a b : Ways) (x y : Statement) → Found a marks x → Found b marks y → Found (after a b) marks (Seq x y)
    seq_found a b x y f g None h = leaves_seq d under x y None (f None (left_of _ _ h)) (g None (right_of (a Past) (b Past) h))
    seq_found a b x y f g (Some m) h = go (one_of _ _ h)
      where
        go : (a (Away m) ≡ true) ⊎ ((a Past && b (Away m)) ≡ true) → Leaves d under (Seq x y) (Some m)
        go (inl k) = leaves_first d under x y m (f (Some m) k)
        go (inr k) = leaves_seq d under x y (Some m) (f None (left_of _ _ k)) (g (Some m) (right_of (a Past) (b (Away m)) k))

    named_found : (a : Ways) (at : Place) (m : ℕ) (body : Statement) → Found a (m ∷ marks) body → Found (ending [] m a) marks (Block at (Some m) body)
    named_found a at m body f None h = go (one_of _ _ h)
      where
        go : (a Past ≡ true) ⊎ (a (Away m) ≡ true) → Leaves d under (Block at (Some m) body) None
        go (inl k) = leaves_named d under at m body (f None k)
        go (inr k) = leaves_ended d under at m m body (eq-eqb m m refl) (f (Some m) k)
    named_found a at m body f (Some n) h = leaves_through d under at m n body (not_so (m == n) (left_of _ _ h)) (f (Some n) (right_of (not (m == n)) (a (Away n)) h))

    if_found : (a b : Ways) (at : Place) (test : Expr) (x y : Statement) → Found a marks x → Found b marks y → Found (choosing (may d test true) a (may d test false) b) marks (If at test x y)
    if_found a b at test x y f g e h = go e h
      where
        pick : (e : Option ℕ) → ((may d test true && a (way_of e)) || (may d test false && b (way_of e))) ≡ true → Leaves d under (If at test x y) e
        pick e h = part (one_of _ _ h)
          where
            part : ((may d test true && a (way_of e)) ≡ true) ⊎ ((may d test false && b (way_of e)) ≡ true) → Leaves d under (If at test x y) e
            part (inl k) = leaves_then d under at test x y e (may_go d test true (left_of _ _ k)) (f e (right_of (may d test true) (a (way_of e)) k))
            part (inr k) = leaves_else d under at test x y e (may_go d test false (left_of _ _ k)) (g e (right_of (may d test false) (b (way_of e)) k))

        go : (e : Option ℕ) → choosing (may d test true) a (may d test false) b (way_of e) ≡ true → Leaves d under (If at test x y) e
        go None h = pick None h
        go (Some m) h = pick (Some m) h

    while_found : (a : Ways) (at : Place) (test : Expr) (body : Statement) → Found a marks body → Found (turning [] (may d test false) false (may d test true) a) marks (While at test body)
    while_found a at test body f None h = go (one_of (may d test false) false h)
      where
        go : (may d test false ≡ true) ⊎ (false ≡ true) → Leaves d under (While at test body) None
        go (inl k) = leaves_while d under at test body (may_go d test false k)
        go (inr k) = cc
    while_found a at test body f (Some m) h = leaves_while_turn d under at test body m (may_go d test true (left_of _ _ h)) (f (Some m) (right_of (may d test true) (a (Away m)) h))

    repeat_found : (a : Ways) (at : Place) (count : Expr) (body : Statement) → Found a marks body → (b : Bool) → is_constant count ≡ b → Found (repeating b (count_of d (fixed d) count) a) marks (Repeat at count body)
    repeat_found a at count body f true i None h = leaves_repeat d under at count body (λ n t. go n (repeat_is d at n count body t).1 (one_of _ _ h))
      where
        go : (n : ℕ) → n ≡ count_of d (fixed d) count → (is_zero (count_of d (fixed d) count) ≡ true) ⊎ (a Past ≡ true) → (n ≡ 0) ⊎ Leaves d under body None
        go n j (inl k) = inl (j ∙ zero_is _ k)
        go n j (inr k) = inr (f None k)
    repeat_found a at count body f true i (Some m) h =
        leaves_repeat_turn d under at count body m (λ t. clash (is_zero (count_of d (fixed d) count)) (ap is_zero (sym (repeat_is d at 0 count body t).1)) (not_so _ (left_of _ _ h)))
        (f (Some m) (right_of (not (is_zero (count_of d (fixed d) count))) (a (Away m)) h))
    repeat_found a at count body f false i None h = leaves_repeat d under at count body (λ n t. clash (is_constant count) (repeat_is d at n count body t).0 i)
    repeat_found a at count body f false i (Some m) h = leaves_repeat_turn d under at count body m (λ t. clash (is_constant count) (repeat_is d at 0 count body t).0 i) (f (Some m) h)

    forever_found : (a : Ways) (at : Place) (body : Statement) → Found a marks body → Found (turning [] false false true a) marks (Forever at body)
    forever_found a at body f None h = cc
    forever_found a at body f (Some m) h = leaves_forever d under at body m (f (Some m) h)

    module _ (at : Place) (v : ℕ) (first test next : Expr) (body : Statement) (a : Ways) (f : Found a marks body) (loop_at : LoopAt d marks (For at v first test next body)) where
      abbrev this : Statement
      this = For at v first test next body

      abbrev begins : Bool
      begins = goes_on d v first test next 0

      turned : Leaves d under body None → IsConstantLoop d this → Leaves d under this None
      turned l (inl t) = leaves_turns d under at this body t.0 refl t.1 (inr l)
      turned l (inr t) = λ ms k r g i. surely (walked d marks under body (opens marks) l) (λ w. absurd (clean 12 83 _ (omega arith) (turns (without_end loop_at refl t w))))

      jumped : (m : ℕ) → begins ≡ true → Leaves d under body (Some m) → IsConstantLoop d this → Leaves d under this (Some m)
      jumped m b l (inl (zero, t)) = clash begins b (for_is d at v 0 first test next body t).2
      jumped m b l (inl (suc n, t)) = leaves_turn d under at this body n m refl t l
      jumped m b l (inr t) = leaves_endless_for d under this body m refl t l

      for_found : (b : Bool) → loops v first test next body ≡ b → (own : List ℕ) → Found (fors own b begins (may d test false) (may d test true) a) marks this
      for_found true i own None h = go (one_of _ _ h)
        where
          c : IsCounted d v first test next body
          c = is_counted d clean v first test next body i

          go : (not begins ≡ true) ⊎ (a Past ≡ true) → Leaves d under this None
          go (inl k) = leaves_turns d under at this body 0 refl (of_for c (λ j l. absurd (omega arith)) (not_so begins k)) (inl refl)
          go (inr k) = λ ms q r g j. surely (constant_for d at v first test next body c) (λ t. turned (f None k) t ms q r g j)
      for_found true i own (Some m) h = λ ms q r g j. surely (constant_for d at v first test next body (is_counted d clean v first test next body i))
          (λ t. jumped m (left_of begins (a (Away m)) h) (f (Some m) (right_of begins (a (Away m)) h)) t ms q r g j)
      for_found false i own None h = go (one_of (may d test false) false h)
        where
          go : (may d test false ≡ true) ⊎ (false ≡ true) → Leaves d under this None
          go (inl k) = leaves_free d under this body (record { body_is = refl; no_bound = free_for at v first test next body i; no_end = λ t. elim t [ ] }) (may_go d test false k) (λ q. refl)
          go (inr k) = cc
      for_found false i own (Some m) h =
          leaves_free_turn d under this body m (record { body_is = refl; no_bound = free_for at v first test next body i; no_end = λ t. elim t [ ] }) (may_go d test true (left_of _ _ h)) (λ q. refl)
          (f (Some m) (right_of (may d test true) (a (Away m)) h))

    enable_found : (a : Ways) (at : Place) (t : ℕ) (ins : List Expr) (outs : List Lvalue) (o : Option FlatTask) → slice_get d.tasks t ≡ o →
        ((task : FlatTask) → slice_get d.tasks t ≡ Some task → Found a (task.mark ∷ marks) task.body) → Found (enabling (stored_by d (Enable at t ins outs)) o a) marks (Enable at t ins outs)
    enable_found a at t ins outs None i f None h = cc
    enable_found a at t ins outs None i f (Some n) h = let e : false ≡ true = right_of (not (0 == n)) false h in cc
    enable_found a at t ins outs (Some task) i f None h = go (one_of _ _ h)
      where
        go : (a Past ≡ true) ⊎ (a (Away task.mark) ≡ true) → Leaves d under (Enable at t ins outs) None
        go (inl k) = leaves_enable d under at t ins outs task [] i (f task i None k)
        go (inr k) = leaves_task d under at t task.mark ins outs task [] i (eq-eqb task.mark task.mark refl) (f task i (Some task.mark) k)
    enable_found a at t ins outs (Some task) i f (Some n) h =
        leaves_enabled d under at t n ins outs task [] i (not_so (task.mark == n) (left_of _ _ h)) (f task i (Some n) (right_of (not (task.mark == n)) (a (Away n)) h))

    disable_found : (at : Place) (m : ℕ) → Found (stopping (contains_number marks m) m) marks (Disable at m)
    disable_found at m None h = leaves_passed d under at m (shut marks m (not_so _ h))
    disable_found at m (Some n) h = subst (λ k. Leaves d under (Disable at m) (Some k)) (eqb→eq m n (subst T (sym (left_of (m == n) (contains_number marks m) h)) tt)) (leaves_disabled d under at m)

    simply_found : (own : List ℕ) (s : Statement) → Leaves d under s None → Found (simply own) marks s
    simply_found own s l None h = l
    simply_found own s l (Some m) h = cc

    nothing_found : (s : Statement) → Found never marks s
    nothing_found s None h = cc
    nothing_found s (Some m) h = cc

    case_found : (a : Ways) (at : Place) (on : Expr) (arms : Statement) (b : Bool) → is_constant_case on arms ≡ b → FoundIn (mode_of b) a marks arms → Found a marks (Case at on arms)
    case_found a at on arms true i f e h =
        let c : Claim Fixed marks arms e = f e h in leaves_case d under at on arms e (record { chosen = arm_chosen d (fixed d) arms; among = c.0; fixed_choice = λ k. refl; leaves = c.1 })
    case_found a at on arms false i f e h =
        let c : Claim Any marks arms e = f e h in leaves_case d under at on arms e (record { chosen = c.0; among = c.1; fixed_choice = λ k. clash (is_constant_case on arms) k i; leaves = c.2 })

    arm_split : (p q : Bool) (a b : Ways) (e : Option ℕ) → choosing p a q b (way_of e) ≡ true → ((p ≡ true) × (a (way_of e) ≡ true)) ⊎ ((q ≡ true) × (b (way_of e) ≡ true))
    arm_split p q a b e h = go e h
      where
        pick : (x y : Bool) → ((p && x) || (q && y)) ≡ true → ((p ≡ true) × (x ≡ true)) ⊎ ((q ≡ true) × (y ≡ true))
        pick x y h = part (one_of _ _ h)
          where
            part : ((p && x) ≡ true) ⊎ ((q && y) ≡ true) → ((p ≡ true) × (x ≡ true)) ⊎ ((q ≡ true) × (y ≡ true))
            part (inl k) = inl (left_of p x k, right_of p x k)
            part (inr k) = inr (left_of q y k, right_of q y k)

        go : (e : Option ℕ) → choosing p a q b (way_of e) ≡ true → ((p ≡ true) × (a (way_of e) ≡ true)) ⊎ ((q ≡ true) × (b (way_of e) ≡ true))
        go None h = pick (a Past) (b Past) h
        go (Some m) h = pick (a (Away m)) (b (Away m)) h

    arm_found : (mode : Mode) (a b : Ways) (on : Expr) (labels : List Expr) (body others : Statement) → Found a marks body → FoundIn mode b marks others →
        FoundIn mode (choosing (takes mode (has_label d (fixed d) on labels)) a (skips mode (has_label d (fixed d) on labels)) b) marks (Arm on labels body others)
    arm_found Lone a b on labels body others f g e h = go (arm_split false false a b e h)
      where
        go : ((false ≡ true) × (a (way_of e) ≡ true)) ⊎ ((false ≡ true) × (b (way_of e) ≡ true)) → Leaves d under (Arm on labels body others) e
        go (inl k) = let i : false ≡ true = k.0 in cc
        go (inr k) = let i : false ≡ true = k.0 in cc
    arm_found Any a b on labels body others f g e h = go (arm_split true true a b e h)
      where
        go : ((true ≡ true) × (a (way_of e) ≡ true)) ⊎ ((true ≡ true) × (b (way_of e) ≡ true)) → Claim Any marks (Arm on labels body others) e
        go (inl k) = (body, con_head body (choices others), f e k.1)
        go (inr k) = let c : Claim Any marks others e = g e k.1 in (c.0, con_tail body c.0 (choices others) c.1, c.2)
    arm_found Fixed a b on labels body others f g e h = go (has_label d (fixed d) on labels) refl (arm_split (has_label d (fixed d) on labels) (not (has_label d (fixed d) on labels)) a b e h)
      where
        go : (t : Bool) → has_label d (fixed d) on labels ≡ t →
            ((has_label d (fixed d) on labels ≡ true) × (a (way_of e) ≡ true)) ⊎ ((not (has_label d (fixed d) on labels) ≡ true) × (b (way_of e) ≡ true)) → Claim Fixed marks (Arm on labels body others) e
        go true i (inl k) = rw i (con_head body (choices others), f e k.1)
        go true i (inr k) = clash (has_label d (fixed d) on labels) i (not_so _ k.0)
        go false i (inl k) = clash (has_label d (fixed d) on labels) k.0 i
        go false i (inr k) = let c : Claim Fixed marks others e = g e k.1 in rw i (con_tail body (arm_chosen d (fixed d) others) (choices others) c.0, c.1)

  abbrev TasksFound : (ℕ → List ℕ → Ways) → Type 0
  TasksFound c = (t : ℕ) (task : FlatTask) (marks : List ℕ) → slice_get d.tasks t ≡ Some task → Placed (task.mark ∷ marks) task.body → Found (c t marks) (task.mark ∷ marks) task.body

  module _ (c : ℕ → List ℕ → Ways) (ok : TasksFound c) where
    abbrev out : Mode → List ℕ → Statement → Ways
    out mode marks s = ways d loops c mode marks s

    found : (mode : Mode) (marks : List ℕ) (s : Statement) → Placed marks s → FoundIn mode (out mode marks s) marks s
    found mode marks Null p = in_mode mode (out mode marks Null) marks Null refl refl (simply_found marks [] Null (leaves_null d (ends marks)))
    found mode marks Skip p = in_mode mode (out mode marks Skip) marks Skip refl refl (simply_found marks [] Skip (leaves_skip d (ends marks)))
    found mode marks (Seq a b) p =
        in_mode mode (out mode marks (Seq a b)) marks (Seq a b) refl refl
        (seq_found marks (out Lone marks a) (out Lone marks b) a b (found Lone marks a (λ o x st. p o x (in_first st))) (found Lone marks b (λ o x st. p o x (in_rest st))))
    found mode marks (Block at None body) p =
        in_mode mode (out mode marks (Block at None body)) marks (Block at None body) refl refl (λ e h. leaves_block d (ends marks) at body e (found Lone marks body (λ o x st. p o x (in_block st)) e h))
    found mode marks (Block at (Some m) body) p =
        in_mode mode (out mode marks (Block at (Some m) body)) marks (Block at (Some m) body) refl refl (named_found marks (out Lone (m ∷ marks) body) at m body (found Lone (m ∷ marks) body (λ o x st. p o x (in_named st))))
    found mode marks (Assign at to x held) p = in_mode mode (out mode marks (Assign at to x held)) marks (Assign at to x held) refl refl (simply_found marks (stored_by d (Assign at to x held)) (Assign at to x held) (leaves_assign d (ends marks) at to x held))
    found mode marks (If at test a b) p =
        in_mode mode (out mode marks (If at test a b)) marks (If at test a b) refl refl
        (if_found marks (out Lone marks a) (out Lone marks b) at test a b (found Lone marks a (λ o x st. p o x (in_then st))) (found Lone marks b (λ o x st. p o x (in_else st))))
    found mode marks (Case at on arms) p =
        in_mode mode (out mode marks (Case at on arms)) marks (Case at on arms) refl refl
        (case_found marks (out (mode_of (is_constant_case on arms)) marks arms) at on arms (is_constant_case on arms) refl (found (mode_of (is_constant_case on arms)) marks arms (λ o x st. p o x (in_case st))))
    found mode marks (Arm on labels body others) p =
        arm_found marks mode (out Lone marks body) (out mode marks others) on labels body others (found Lone marks body (λ o x st. p o x (in_arm st))) (found mode marks others (λ o x st. p o x (in_others st)))
    found mode marks (For at v first test next body) p =
        in_mode mode (out mode marks (For at v first test next body)) marks (For at v first test next body) refl refl
        (for_found marks at v first test next body (out Lone marks body) (found Lone marks body (λ o x st. p o x (in_for st))) (p marks (For at v first test next body) itself) (loops v first test next body) refl
        (stored_by d (For at v first test next body)))
    found mode marks (While at test body) p =
        in_mode mode (out mode marks (While at test body)) marks (While at test body) refl refl (while_found marks (out Lone marks body) at test body (found Lone marks body (λ o x st. p o x (in_while st))))
    found mode marks (Repeat at count body) p =
        in_mode mode (out mode marks (Repeat at count body)) marks (Repeat at count body) refl refl (repeat_found marks (out Lone marks body) at count body (found Lone marks body (λ o x st. p o x (in_repeat st))) (is_constant count) refl)
    found mode marks (Forever at body) p =
        in_mode mode (out mode marks (Forever at body)) marks (Forever at body) refl refl (forever_found marks (out Lone marks body) at body (found Lone marks body (λ o x st. p o x (in_forever st))))
    found mode marks (Wait at falling) p = in_mode mode (out mode marks (Wait at falling)) marks (Wait at falling) refl refl (nothing_found marks (Wait at falling))
    found mode marks (Enable at t ins outs) p =
        in_mode mode (out mode marks (Enable at t ins outs)) marks (Enable at t ins outs) refl refl
        (enable_found marks (c t marks) at t ins outs (slice_get d.tasks t) refl (λ task i. ok t task marks i (λ o x st. p o x (in_task i st))))
    found mode marks (Disable at m) p = in_mode mode (out mode marks (Disable at m)) marks (Disable at m) refl refl (disable_found marks at m)
    found mode marks (Host at f ins result outs) p = in_mode mode (out mode marks (Host at f ins result outs)) marks (Host at f ins result outs) refl refl (simply_found marks (stored_by d (Host at f ins result outs)) (Host at f ins result outs) (leaves_host d (ends marks) at f ins result outs))

  tasks_found : (n : ℕ) → TasksFound (task_ways d loops n)
  tasks_found zero t task marks i p e h = cc
  tasks_found (suc n) t task marks i p e h =
      found (task_ways d loops n) (tasks_found n) Lone (task.mark ∷ marks) task.body p e (sym (ap (λ o. body_ways d loops (task_ways d loops n) o marks (way_of e)) i) ∙ h)

  -- a statement that may be left past its end may be walked through
  pub walk_found : (marks : List ℕ) (s : Statement) → Placed marks s → all_ways d loops clean Lone marks s Past ≡ true → Surely (HasWalk d marks s)
  walk_found marks s p h = walked d marks (ends marks) s (opens marks) (found (task_ways d loops (length d.tasks)) (tasks_found (length d.tasks)) Lone marks s p None h)
