-- Where a statement may be walked through, its ways say so.
use Rattle.std.proofs.Common.{◌≡◌, ◌⊎◌, inl, inr, ℕ, zero, suc, ◌<◌, ◌==◌, ◌&&◌, ◌||◌, not, Bool, true, false, if◌then◌else◌, List, [], ◌∷◌, Option, Some, None, Contains, refl, sym, ◌∙◌, ap, subst, arith, T, eqb→eq, eq-eqb}
use Rattle.xt_base.specs.declared.refusals.Place.{Place}
use Rattle.el_design.specs.Plain.{Expr, Statement, Null, Skip, Seq, Block, Assign, If, Case, Arm, For, While, Repeat, Forever, Wait, Enable, Disable, Host, Flat}
use Rattle.el_design.specs.Assign.{has_label, arm_chosen, count_of}
use Rattle.el_design.specs.Names.{is_constant}
use Rattle.el_design.specs.Purity.{contains_number}
use Rattle.el_design.specs.Stack.{Work, Do, End, Return, Test, Step, Turns, Await, quiet_step, below_mark}
use Rattle.el_design.specs.Act.{turn}
use Rattle.el_design.specs.Places.{open_on}
use Rattle.el_design.specs.Turns.{fixed, holds, stored_by, goes_on, HasBound, bound_repeat, bound_while, bound_for, HasTurns, of_repeat, of_while, of_for, IsEndlessFor, endless_for, IsEndlessWhile, endless_while, body_of}
use Rattle.el_design.specs.Walk as walk
use Rattle.el_design.specs.Walk.{choices, is_constant_case, MayGo, MayTurn, IsFreeLoop, Steps, Walks, HasWalk}
use Rattle.el_design.specs.Rules.{IsCleanBefore}
use Rattle.el_design.proofs.OrderLists.{con_nil, con_cases}
use Rattle.el_design.proofs.Ways.{Past, Away, Ways, never, simply, after, ending, choosing, turning, is_zero, repeating, fors, may, Mode, Lone, Any, Fixed, mode_of, all_ways, at_enable}
use Rattle.el_design.proofs.WaysPuts.{one_of, first_of, second_of, left_of, right_of, both_are, not_so, so_not, true_or_false, clash, con_has, counted_is}
use Rattle.el_design.proofs.WaysFound.{go_may, way_of, loops}

-- ---- ways put together

pub choose_first : (p q : Bool) (a b : Ways) (e : Option ℕ) → p ≡ true → a (way_of e) ≡ true → choosing p a q b (way_of e) ≡ true
choose_first p q a b None h i = first_of (p && a Past) (q && b Past) (both_are p (a Past) h i)
choose_first p q a b (Some m) h i = first_of (p && a (Away m)) (q && b (Away m)) (both_are p (a (Away m)) h i)

pub choose_second : (p q : Bool) (a b : Ways) (e : Option ℕ) → q ≡ true → b (way_of e) ≡ true → choosing p a q b (way_of e) ≡ true
choose_second p q a b None h i = second_of (p && a Past) (q && b Past) (both_are q (b Past) h i)
choose_second p q a b (Some m) h i = second_of (p && a (Away m)) (q && b (Away m)) (both_are q (b (Away m)) h i)

-- a turn of a loop, and the loop again, is the loop
loop_again : (own : List ℕ) (over through enters : Bool) (a : Ways) (e : Option ℕ) → enters ≡ true →
    after a (turning own over through enters a) (way_of e) ≡ true → turning own over through enters a (way_of e) ≡ true
loop_again own over through enters a None i h = right_of (a Past) (over || (through && a Past)) h
loop_again own over through enters a (Some m) i h = go (one_of (a (Away m)) (a Past && (enters && a (Away m))) h)
  where
    go : (a (Away m) ≡ true) ⊎ ((a Past && (enters && a (Away m))) ≡ true) → (enters && a (Away m)) ≡ true
    go (inl k) = both_are enters (a (Away m)) i k
    go (inr k) = right_of (a Past) (enters && a (Away m)) k

for_again : (own : List ℕ) (b begins over enters : Bool) (a : Ways) (e : Option ℕ) → (b ≡ true → begins ≡ true) → (b ≡ false → enters ≡ true) →
    after a (fors own b begins over enters a) (way_of e) ≡ true → fors own b begins over enters a (way_of e) ≡ true
for_again own true begins over enters a e i j h = loop_again own (not begins) true begins a e (i refl) h
for_again own false begins over enters a e i j h = loop_again own over false enters a e (j refl) h

repeat_again : (b : Bool) (n : ℕ) (a : Ways) (e : Option ℕ) → b ≡ false → after a (repeating b n a) (way_of e) ≡ true → repeating b n a (way_of e) ≡ true
repeat_again true n a e i h = clash true refl i
repeat_again false n a e i h = loop_again [] true false true a e refl h

-- a turn, and those that are left
turn_joins : (j : ℕ) (a : Ways) (e : Option ℕ) → after a (turning [] (is_zero j) true (not (is_zero j)) a) (way_of e) ≡ true → turning [] false true true a (way_of e) ≡ true
turn_joins j a None h = left_of (a Past) (is_zero j || (true && a Past)) h
turn_joins j a (Some m) h = go (one_of (a (Away m)) (a Past && (not (is_zero j) && a (Away m))) h)
  where
    go : (a (Away m) ≡ true) ⊎ ((a Past && (not (is_zero j) && a (Away m))) ≡ true) → a (Away m) ≡ true
    go (inl k) = k
    go (inr k) = right_of (not (is_zero j)) (a (Away m)) (right_of (a Past) (not (is_zero j) && a (Away m)) k)

some_is : {X : Type 0} (a b : X) → Some a ≡ Some b → a ≡ b
some_is a b e = cc

module _ (d : Flat) (clean : IsCleanBefore d 13) where
  abbrev out : Mode → List ℕ → Statement → Ways
  out = all_ways d (loops d clean) clean

  -- ---- the choice of a `case`

  only : (marks : List ℕ) (s x : Statement) (e : Option ℕ) → Contains (s ∷ []) x → out Lone marks x (way_of e) ≡ true → out Lone marks s (way_of e) ≡ true
  only marks s x e c h = go (con_cases s x [] c)
    where
      go : (s ≡ x) ⊎ Contains [] x → out Lone marks s (way_of e) ≡ true
      go (inl i) = subst (λ y. out Lone marks y (way_of e) ≡ true) (sym i) h
      go (inr k) = absurd (con_nil x k)

  any_choice : (marks : List ℕ) (s x : Statement) (e : Option ℕ) → Contains (choices s) x → out Lone marks x (way_of e) ≡ true → out Any marks s (way_of e) ≡ true
  any_choice marks (Arm on labels body others) x e c h = go (con_cases body x (choices others) c) (λ k. any_choice marks others x e k h)
    where
      go : (body ≡ x) ⊎ Contains (choices others) x → (Contains (choices others) x → out Any marks others (way_of e) ≡ true) → out Any marks (Arm on labels body others) (way_of e) ≡ true
      go (inl i) more = choose_first true true (out Lone marks body) (out Any marks others) e refl (subst (λ y. out Lone marks y (way_of e) ≡ true) (sym i) h)
      go (inr k) more = choose_second true true (out Lone marks body) (out Any marks others) e refl (more k)
  any_choice marks Null x e c h = only marks Null x e c h
  any_choice marks Skip x e c h = only marks Skip x e c h
  any_choice marks (Seq a b) x e c h = only marks (Seq a b) x e c h
  any_choice marks (Block at None body) x e c h = only marks (Block at None body) x e c h
  any_choice marks (Block at (Some m) body) x e c h = only marks (Block at (Some m) body) x e c h
  any_choice marks (Assign at to v held) x e c h = only marks (Assign at to v held) x e c h
  any_choice marks (If at t a b) x e c h = only marks (If at t a b) x e c h
  any_choice marks (Case at on arms) x e c h = only marks (Case at on arms) x e c h
  any_choice marks (For at v a b n body) x e c h = only marks (For at v a b n body) x e c h
  any_choice marks (While at t body) x e c h = only marks (While at t body) x e c h
  any_choice marks (Repeat at t body) x e c h = only marks (Repeat at t body) x e c h
  any_choice marks (Forever at body) x e c h = only marks (Forever at body) x e c h
  any_choice marks (Wait at falling) x e c h = only marks (Wait at falling) x e c h
  any_choice marks (Enable at t ins outs) x e c h = only marks (Enable at t ins outs) x e c h
  any_choice marks (Disable at m) x e c h = only marks (Disable at m) x e c h
  any_choice marks (Host at f ins result outs) x e c h = only marks (Host at f ins result outs) x e c h

  fixed_choice : (marks : List ℕ) (s : Statement) (e : Option ℕ) → out Lone marks (arm_chosen d (fixed d) s) (way_of e) ≡ true → out Fixed marks s (way_of e) ≡ true
  fixed_choice marks (Arm on labels body others) e h = go (has_label d (fixed d) on labels) refl (fixed_choice marks others e) h
    where
      go : (b : Bool) → has_label d (fixed d) on labels ≡ b → (out Lone marks (arm_chosen d (fixed d) others) (way_of e) ≡ true → out Fixed marks others (way_of e) ≡ true) →
          out Lone marks (if has_label d (fixed d) on labels then body else arm_chosen d (fixed d) others) (way_of e) ≡ true → out Fixed marks (Arm on labels body others) (way_of e) ≡ true
      go true i more h =
          choose_first (has_label d (fixed d) on labels) (not (has_label d (fixed d) on labels)) (out Lone marks body) (out Fixed marks others) e i
          (subst (λ b. out Lone marks (if b then body else arm_chosen d (fixed d) others) (way_of e) ≡ true) i h)
      go false i more h =
          choose_second (has_label d (fixed d) on labels) (not (has_label d (fixed d) on labels)) (out Lone marks body) (out Fixed marks others) e (so_not (has_label d (fixed d) on labels) i)
          (more (subst (λ b. out Lone marks (if b then body else arm_chosen d (fixed d) others) (way_of e) ≡ true) i h))
  fixed_choice marks Null e h = h
  fixed_choice marks Skip e h = h
  fixed_choice marks (Seq a b) e h = h
  fixed_choice marks (Block at None body) e h = h
  fixed_choice marks (Block at (Some m) body) e h = h
  fixed_choice marks (Assign at to v held) e h = h
  fixed_choice marks (If at t a b) e h = h
  fixed_choice marks (Case at on arms) e h = h
  fixed_choice marks (For at v a b n body) e h = h
  fixed_choice marks (While at t body) e h = h
  fixed_choice marks (Repeat at t body) e h = h
  fixed_choice marks (Forever at body) e h = h
  fixed_choice marks (Wait at falling) e h = h
  fixed_choice marks (Enable at t ins outs) e h = h
  fixed_choice marks (Disable at m) e h = h
  fixed_choice marks (Host at f ins result outs) e h = h

  case_choice : (marks : List ℕ) (at : Place) (on : Expr) (arms x : Statement) (e : Option ℕ) → Contains (choices arms) x → (is_constant_case on arms ≡ true → x ≡ arm_chosen d (fixed d) arms) →
      (b : Bool) → is_constant_case on arms ≡ b → out Lone marks x (way_of e) ≡ true → out (mode_of b) marks arms (way_of e) ≡ true
  case_choice marks at on arms x e c f true i h = fixed_choice marks arms e (subst (λ y. out Lone marks y (way_of e) ≡ true) (f i) h)
  case_choice marks at on arms x e c f false i h = any_choice marks arms x e c h

  module _ (round : List ℕ) where
    -- ---- what is open on a stack

    past_end : (m : ℕ) (k r : List Work) (b : Bool) → (if b then Some k else below_mark m k) ≡ Some r → (below_mark m k ≡ Some r → contains_number (open_on k round) m ≡ true) →
        (b || contains_number (open_on k round) m) ≡ true
    past_end m k r true e more = refl
    past_end m k r false e more = more e

    opened : (k r : List Work) (m : ℕ) → below_mark m k ≡ Some r → contains_number (open_on k round) m ≡ true
    opened [] r m e = cc
    opened (Do s ∷ k) r m e = opened k r m e
    opened (End n ∷ k) r m e = past_end m k r (n == m) e (opened k r m)
    opened (Return at n outs ∷ k) r m e = past_end m k r (n == m) e (opened k r m)
    opened (Test at v a b body ∷ k) r m e = opened k r m e
    opened (Step at v a b body ∷ k) r m e = opened k r m e
    opened (Turns at n body ∷ k) r m e = opened k r m e
    opened (Await at f result outs ∷ k) r m e = opened k r m e

    no_end : (m : ℕ) (k : List Work) (b : Bool) → (if b then Some k else below_mark m k) ≡ None → (below_mark m k ≡ None → contains_number (open_on k round) m ≡ false) →
        (b || contains_number (open_on k round) m) ≡ false
    no_end m k true e more = cc
    no_end m k false e more = more e

    shut_on : (k : List Work) (m : ℕ) → below_mark m k ≡ None → (Contains round m → ⊥) → contains_number (open_on k round) m ≡ false
    shut_on [] m e f = go (true_or_false (contains_number round m))
      where
        go : (contains_number round m ≡ true) ⊎ (contains_number round m ≡ false) → contains_number round m ≡ false
        go (inl h) = absurd (f (con_has round m h))
        go (inr h) = h
    shut_on (Do s ∷ k) m e f = shut_on k m e f
    shut_on (End n ∷ k) m e f = no_end m k (n == m) e (λ h. shut_on k m h f)
    shut_on (Return at n outs ∷ k) m e f = no_end m k (n == m) e (λ h. shut_on k m h f)
    shut_on (Test at v a b body ∷ k) m e f = shut_on k m e f
    shut_on (Step at v a b body ∷ k) m e f = shut_on k m e f
    shut_on (Turns at n body ∷ k) m e f = shut_on k m e f
    shut_on (Await at g result outs ∷ k) m e f = shut_on k m e f

    -- ---- stacks that may be left at their bottom

    abbrev work_ways : Work → List ℕ → Ways
    work_ways (Do s) marks = out Lone marks s
    work_ways (End m) marks = simply []
    work_ways (Return at m outs) marks = simply []
    work_ways (Turns at n body) marks = turning [] (is_zero n) true (not (is_zero n)) (out Lone marks body)
    work_ways (Test at v a b body) marks = never
    work_ways (Step at v a b body) marks = never
    work_ways (Await at f result outs) marks = never

    abbrev here : Work → List Work → Ways
    here w k = work_ways w (open_on k round)

    data Reaches : List Work → Type 0 where
      arrives : Reaches []
      falls : {w : Work} {k : List Work} → here w k Past ≡ true → Reaches k → Reaches (w ∷ k)
      jumps : {w : Work} {k r : List Work} (m : ℕ) → here w k (Away m) ≡ true → below_mark m k ≡ Some r → Reaches r → Reaches (w ∷ k)

    swap : (v w : Work) (k : List Work) → ((e : Option ℕ) → here v k (way_of e) ≡ true → here w k (way_of e) ≡ true) → Reaches (v ∷ k) → Reaches (w ∷ k)
    swap v w k f (falls h r) = falls (f None h) r
    swap v w k f (jumps m h i r) = jumps m (f (Some m) h) i r

    -- one above another that is no end
    join : (u v w : Work) (k : List Work) → open_on (v ∷ k) round ≡ open_on k round → ((m : ℕ) → below_mark m (v ∷ k) ≡ below_mark m k) →
        ((e : Option ℕ) → after (here u k) (here v k) (way_of e) ≡ true → here w k (way_of e) ≡ true) → Reaches (u ∷ v ∷ k) → Reaches (w ∷ k)
    join u v w k o b f (falls h (falls g r)) = falls (f None (both_are (here u k Past) (here v k Past) (subst (λ l. work_ways u l Past ≡ true) o h) g)) r
    join u v w k o b f (falls h (jumps m g i r)) =
        jumps m (f (Some m) (second_of (here u k (Away m)) (here u k Past && here v k (Away m)) (both_are (here u k Past) (here v k (Away m)) (subst (λ l. work_ways u l Past ≡ true) o h) g))) i r
    join u v w k o b f (jumps m h i r) =
        jumps m (f (Some m) (first_of (here u k (Away m)) (here u k Past && here v k (Away m)) (subst (λ l. work_ways u l (Away m) ≡ true) o h))) (sym (b m) ∙ i) r

    -- one above an end
    closes : (own : List ℕ) (m : ℕ) (u v w : Work) (k : List Work) → open_on (v ∷ k) round ≡ m ∷ open_on k round → ((n : ℕ) → below_mark n (v ∷ k) ≡ (if m == n then Some k else below_mark n k)) →
        ((n : ℕ) → here v k (Away n) ≡ true → ⊥) → ((e : Option ℕ) → ending own m (work_ways u (m ∷ open_on k round)) (way_of e) ≡ true → here w k (way_of e) ≡ true) → Reaches (u ∷ v ∷ k) → Reaches (w ∷ k)
    closes own m u v w k o b n f (falls h (falls g r)) = falls (f None (first_of _ _ (subst (λ l. work_ways u l Past ≡ true) o h))) r
    closes own m u v w k o b n f (falls h (jumps q g i r)) = absurd (n q g)
    closes own m u v w k o b n f (jumps {r = s} q h i r) = go (m == q) refl (sym (b q) ∙ i)
      where
        there : work_ways u (m ∷ open_on k round) (Away q) ≡ true
        there = subst (λ l. work_ways u l (Away q) ≡ true) o h

        go : (t : Bool) → (m == q) ≡ t → (if m == q then Some k else below_mark q k) ≡ Some s → Reaches (w ∷ k)
        go true j e =
            falls (f None (second_of (work_ways u (m ∷ open_on k round) Past) _ (subst (λ x. work_ways u (m ∷ open_on k round) (Away x) ≡ true) (sym (eqb→eq m q (subst T (sym j) tt))) there)))
            (subst Reaches (sym (some_is k s (ap (λ t. if t then Some k else below_mark q k) (sym j) ∙ e))) r)
        go false j e = jumps q (f (Some q) (both_are (not (m == q)) _ (so_not (m == q) j) there)) (ap (λ t. if t then Some k else below_mark q k) (sym j) ∙ e) r

    -- ---- quiet steps

    quiet_back : (k next : List Work) → quiet_step k ≡ Some next → Reaches next → Reaches k
    quiet_back [] next e r = cc
    quiet_back (Do Null ∷ k) next e r = falls refl (subst Reaches (sym (some_is k next e)) r)
    quiet_back (Do Skip ∷ k) next e r = falls refl (subst Reaches (sym (some_is k next e)) r)
    quiet_back (Do (Seq a b) ∷ k) next e r = join (Do a) (Do b) (Do (Seq a b)) k refl (λ m. refl) (λ x h. h) (subst Reaches (sym (some_is (Do a ∷ Do b ∷ k) next e)) r)
    quiet_back (Do (Block at None body) ∷ k) next e r = swap (Do body) (Do (Block at None body)) k (λ x h. h) (subst Reaches (sym (some_is (Do body ∷ k) next e)) r)
    quiet_back (Do (Block at (Some m) body) ∷ k) next e r =
        closes [] m (Do body) (End m) (Do (Block at (Some m) body)) k refl (λ n. refl) (λ n h. cc) (λ x h. h) (subst Reaches (sym (some_is (Do body ∷ End m ∷ k) next e)) r)
    quiet_back (Do (Forever at body) ∷ k) next e r =
        join (Do body) (Do (Forever at body)) (Do (Forever at body)) k refl (λ m. refl) (λ x h. loop_again [] false false true (here (Do body) k) x refl h)
        (subst Reaches (sym (some_is (Do body ∷ Do (Forever at body) ∷ k) next e)) r)
    quiet_back (Do (Assign at to v held) ∷ k) next e r = cc
    quiet_back (Do (If at v a b) ∷ k) next e r = cc
    quiet_back (Do (Case at on arms) ∷ k) next e r = cc
    quiet_back (Do (Arm on labels body others) ∷ k) next e r = cc
    quiet_back (Do (For at v a b x body) ∷ k) next e r = cc
    quiet_back (Do (While at v body) ∷ k) next e r = cc
    quiet_back (Do (Repeat at v body) ∷ k) next e r = cc
    quiet_back (Do (Wait at falling) ∷ k) next e r = cc
    quiet_back (Do (Enable at t ins outs) ∷ k) next e r = cc
    quiet_back (Do (Disable at m) ∷ k) next e r = cc
    quiet_back (Do (Host at f ins result outs) ∷ k) next e r = cc
    quiet_back (End m ∷ k) next e r = falls refl (subst Reaches (sym (some_is k next e)) r)
    quiet_back (Return at m outs ∷ k) next e r = cc
    quiet_back (Test at v a b body ∷ k) next e r = cc
    quiet_back (Step at v a b body ∷ k) next e r = cc
    quiet_back (Turns at n body ∷ k) next e r = cc
    quiet_back (Await at f result outs ∷ k) next e r = cc

    -- ---- loops

    -- so many turns
    turned_back : (at : Place) (w : Work) (body : Statement) (n : ℕ) (k : List Work) →
        ((e : Option ℕ) → turning [] (is_zero n) true (not (is_zero n)) (here (Do body) k) (way_of e) ≡ true → here w k (way_of e) ≡ true) → Reaches (turn at n body k) → Reaches (w ∷ k)
    turned_back at w body zero k f r = falls (f None refl) r
    turned_back at w body (suc j) k f r = join (Do body) (Turns at j body) w k refl (λ m. refl) (λ e h. f e (turn_joins j (here (Do body) k) e h)) r

    counted_ways : (own : List ℕ) (b begins over enters : Bool) (n : ℕ) (a : Ways) (e : Option ℕ) → b ≡ true → begins ≡ not (is_zero n) →
        turning [] (is_zero n) true (not (is_zero n)) a (way_of e) ≡ true → fors own b begins over enters a (way_of e) ≡ true
    counted_ways own false begins over enters n a e i j h = clash false i refl
    counted_ways own true true over enters zero a e i j h = clash true refl j
    counted_ways own true false over enters (suc n) a e i j h = clash true refl (sym j)
    counted_ways own true false over enters zero a None i j h = refl
    counted_ways own true false over enters zero a (Some m) i j h = h
    counted_ways own true true over enters (suc n) a None i j h = h
    counted_ways own true true over enters (suc n) a (Some m) i j h = h

    begins_back : (at : Place) (s body : Statement) (n : ℕ) (k : List Work) → HasTurns d s n → body_of s ≡ Some body → Reaches (turn at n body k) → Reaches (Do s ∷ k)
    begins_back at s body n k (of_repeat {at = here_at} {count = count} {body = own} c) b r =
        turned_back at (Do (Repeat here_at count own)) own n k
        (λ e h. subst (λ t. repeating t (count_of d (fixed d) count) (here (Do own) k) (way_of e) ≡ true) (sym c) h) (subst (λ x. Reaches (turn at n x k)) (sym (some_is own body b)) r)
    begins_back at s body n k (of_while {at = here_at} {test = test} {body = own} c h) b r = falls (first_of (may d test false) _ (go_may d test false (λ j. h))) r
    begins_back at s body n k (of_for {at = here_at} {v = v} {first = first} {test = test} {next = next} {body = own} c f g) b r =
        turned_back at (Do (For here_at v first test next own)) own n k
        (λ e h. counted_ways (stored_by d (For here_at v first test next own)) (loops d clean v first test next own) (goes_on d v first test next 0) (may d test false) (may d test true) n (here (Do own) k) e
        (counted_is d clean v first test next own c) (at_first n f g) h) (subst (λ x. Reaches (turn at n x k)) (sym (some_is own body b)) r)
      where
        at_first : (n : ℕ) → ((j : ℕ) → j < n → goes_on d v first test next j ≡ true) → goes_on d v first test next n ≡ false → goes_on d v first test next 0 ≡ not (is_zero n)
        at_first zero f g = g
        at_first (suc n) f g = f 0 (omega arith)

    on_for : (s body : Statement) (k : List Work) → IsEndlessFor d s → body_of s ≡ Some body → Reaches (Do body ∷ Do s ∷ k) → Reaches (Do s ∷ k)
    on_for s body k (endless_for {at = at} {v = v} {first = first} {test = test} {next = next} {body = own} c f) b r =
        join (Do own) (Do (For at v first test next own)) (Do (For at v first test next own)) k refl (λ m. refl)
        (λ e h. for_again (stored_by d (For at v first test next own)) (loops d clean v first test next own) (goes_on d v first test next 0) (may d test false) (may d test true) (here (Do own) k) e
        (λ i. f 0) (λ i. clash (loops d clean v first test next own) (counted_is d clean v first test next own c) i) h)
        (subst (λ x. Reaches (Do x ∷ Do (For at v first test next own) ∷ k)) (sym (some_is own body b)) r)

    on_while : (s body : Statement) (k : List Work) → IsEndlessWhile d s → body_of s ≡ Some body → Reaches (Do body ∷ Do s ∷ k) → Reaches (Do s ∷ k)
    on_while s body k (endless_while {at = at} {test = test} {body = own} c f) b r =
        join (Do own) (Do (While at test own)) (Do (While at test own)) k refl (λ m. refl) (λ e h. loop_again [] (may d test false) false (may d test true) (here (Do own) k) e (go_may d test true (λ i. f)) h)
        (subst (λ x. Reaches (Do x ∷ Do (While at test own) ∷ k)) (sym (some_is own body b)) r)

    -- a `for` that isn't constant isn't counted
    not_counted : (at : Place) (v : ℕ) (first test next : Expr) (body : Statement) → (HasBound d (For at v first test next body) → ⊥) → loops d clean v first test next body ≡ false
    not_counted at v first test next body f = go (true_or_false (loops d clean v first test next body))
      where
        go : (loops d clean v first test next body ≡ true) ⊎ (loops d clean v first test next body ≡ false) → loops d clean v first test next body ≡ false
        go (inl h) = absurd (f (bound_for (Rattle.el_design.proofs.WaysPuts.is_counted d clean v first test next body h)))
        go (inr h) = h

    not_constant : (at : Place) (test : Expr) (body own : Statement) → IsFreeLoop d (While at test body) own → is_constant test ≡ false
    not_constant at test body own f = go (true_or_false (is_constant test)) (true_or_false (holds d test))
      where
        go : (is_constant test ≡ true) ⊎ (is_constant test ≡ false) → (holds d test ≡ true) ⊎ (holds d test ≡ false) → is_constant test ≡ false
        go (inr c) h = c
        go (inl c) (inl h) = absurd (f.no_end (endless_while c h))
        go (inl c) (inr h) = absurd (f.no_bound (bound_while c h))

    not_repeated : (at : Place) (count : Expr) (body own : Statement) → IsFreeLoop d (Repeat at count body) own → is_constant count ≡ false
    not_repeated at count body own f = go (true_or_false (is_constant count))
      where
        go : (is_constant count ≡ true) ⊎ (is_constant count ≡ false) → is_constant count ≡ false
        go (inr c) = c
        go (inl c) = absurd (f.no_bound (bound_repeat c))

    free_past : (s body : Statement) (k : List Work) → IsFreeLoop d s body → MayTurn d s false → quiet_step (Do s ∷ k) ≡ None → here (Do s) k Past ≡ true
    free_past (For at v first test next own) body k f g q =
        subst (λ t. fors (stored_by d (For at v first test next own)) t (goes_on d v first test next 0) (may d test false) (may d test true) (here (Do own) k) Past ≡ true)
        (sym (not_counted at v first test next own f.no_bound)) (first_of (may d test false) false (go_may d test false g))
    free_past (While at test own) body k f g q = first_of (may d test false) false (go_may d test false (λ i. clash (is_constant test) i (not_constant at test own body f)))
    free_past (Repeat at count own) body k f g q = subst (λ t. repeating t (count_of d (fixed d) count) (here (Do own) k) Past ≡ true) (sym (not_repeated at count own body f)) refl
    free_past (Forever at own) body k f g q = cc
    free_past Null body k f g q = let i : None ≡ Some body = f.body_is in cc
    free_past Skip body k f g q = let i : None ≡ Some body = f.body_is in cc
    free_past (Seq a b) body k f g q = let i : None ≡ Some body = f.body_is in cc
    free_past (Block at m x) body k f g q = let i : None ≡ Some body = f.body_is in cc
    free_past (Assign at to v held) body k f g q = let i : None ≡ Some body = f.body_is in cc
    free_past (If at t a b) body k f g q = let i : None ≡ Some body = f.body_is in cc
    free_past (Case at on arms) body k f g q = let i : None ≡ Some body = f.body_is in cc
    free_past (Arm on labels x others) body k f g q = let i : None ≡ Some body = f.body_is in cc
    free_past (Wait at falling) body k f g q = let i : None ≡ Some body = f.body_is in cc
    free_past (Enable at t ins outs) body k f g q = let i : None ≡ Some body = f.body_is in cc
    free_past (Disable at m) body k f g q = let i : None ≡ Some body = f.body_is in cc
    free_past (Host at h ins result outs) body k f g q = let i : None ≡ Some body = f.body_is in cc

    free_again : (s body : Statement) (k : List Work) → IsFreeLoop d s body → MayTurn d s true → quiet_step (Do s ∷ k) ≡ None → Reaches (Do body ∷ Do s ∷ k) → Reaches (Do s ∷ k)
    free_again (For at v first test next own) body k f g q r =
        join (Do own) (Do (For at v first test next own)) (Do (For at v first test next own)) k refl (λ m. refl)
        (λ e h. for_again (stored_by d (For at v first test next own)) (loops d clean v first test next own) (goes_on d v first test next 0) (may d test false) (may d test true) (here (Do own) k) e
        (λ i. clash (loops d clean v first test next own) i (not_counted at v first test next own f.no_bound)) (λ i. go_may d test true g) h)
        (subst (λ x. Reaches (Do x ∷ Do (For at v first test next own) ∷ k)) (sym (some_is own body f.body_is)) r)
    free_again (While at test own) body k f g q r =
        join (Do own) (Do (While at test own)) (Do (While at test own)) k refl (λ m. refl)
        (λ e h. loop_again [] (may d test false) false (may d test true) (here (Do own) k) e (go_may d test true (λ i. clash (is_constant test) i (not_constant at test own body f))) h)
        (subst (λ x. Reaches (Do x ∷ Do (While at test own) ∷ k)) (sym (some_is own body f.body_is)) r)
    free_again (Repeat at count own) body k f g q r =
        join (Do own) (Do (Repeat at count own)) (Do (Repeat at count own)) k refl (λ m. refl)
        (λ e h. repeat_again (is_constant count) (count_of d (fixed d) count) (here (Do own) k) e (not_repeated at count own body f) h)
        (subst (λ x. Reaches (Do x ∷ Do (Repeat at count own) ∷ k)) (sym (some_is own body f.body_is)) r)
    free_again (Forever at own) body k f g q r = cc
    free_again Null body k f g q r = let i : None ≡ Some body = f.body_is in cc
    free_again Skip body k f g q r = let i : None ≡ Some body = f.body_is in cc
    free_again (Seq a b) body k f g q r = let i : None ≡ Some body = f.body_is in cc
    free_again (Block at m x) body k f g q r = let i : None ≡ Some body = f.body_is in cc
    free_again (Assign at to v held) body k f g q r = let i : None ≡ Some body = f.body_is in cc
    free_again (If at t a b) body k f g q r = let i : None ≡ Some body = f.body_is in cc
    free_again (Case at on arms) body k f g q r = let i : None ≡ Some body = f.body_is in cc
    free_again (Arm on labels x others) body k f g q r = let i : None ≡ Some body = f.body_is in cc
    free_again (Wait at falling) body k f g q r = let i : None ≡ Some body = f.body_is in cc
    free_again (Enable at t ins outs) body k f g q r = let i : None ≡ Some body = f.body_is in cc
    free_again (Disable at m) body k f g q r = let i : None ≡ Some body = f.body_is in cc
    free_again (Host at h ins result outs) body k f g q r = let i : None ≡ Some body = f.body_is in cc

    -- ---- walks, backwards

    back : {k next : List Work} → Steps d round k next → Reaches next → Reaches k
    back (walk.quietly {k = k} {next = next} e) r = quiet_back k next e r
    back walk.assigns r = falls refl r
    back (walk.goes_yes {at = at} {test = test} {a = a} {b = b} {k = k} h) r =
        swap (Do a) (Do (If at test a b)) k (λ e i. choose_first (may d test true) (may d test false) (here (Do a) k) (here (Do b) k) e (go_may d test true h) i) r
    back (walk.goes_no {at = at} {test = test} {a = a} {b = b} {k = k} h) r =
        swap (Do b) (Do (If at test a b)) k (λ e i. choose_second (may d test true) (may d test false) (here (Do a) k) (here (Do b) k) e (go_may d test false h) i) r
    back (walk.chooses {at = at} {on = on} {arms = arms} {x = x} {k = k} c h) r =
        swap (Do x) (Do (Case at on arms)) k (λ e i. case_choice (open_on k round) at on arms x e c h (is_constant_case on arms) refl i) r
    back (walk.begins_turns at {s = s} {body = body} {n = n} {k = k} b h) r = begins_back at s body n k h b r
    back (walk.takes_turn {at = at} {body = body} {n = n} {k = k}) r = turned_back at (Turns at n body) body n k (λ e h. h) r
    back (walk.goes_on_for {s = s} {body = body} {k = k} b h) r = on_for s body k h b r
    back (walk.goes_on_while {s = s} {body = body} {k = k} b h) r = on_while s body k h b r
    back (walk.takes_none {s = s} {body = body} {k = k} f g q) r = falls (free_past s body k f g q) r
    back (walk.takes_one {s = s} {body = body} {k = k} f g q) r = free_again s body k f g q r
    back (walk.enables {at = at} {t = t} {ins = ins} {outs = outs} {task = task} {k = k} i) r =
        closes (stored_by d (Enable at t ins outs)) task.mark (Do task.body) (Return at task.mark []) (Do (Enable at t ins outs)) k refl (λ n. refl) (λ n h. cc)
        (λ e h. ap (λ w. w (way_of e)) (at_enable d (loops d clean) clean Lone (open_on k round) at t ins outs task i) ∙ h) r
    back walk.returns r = falls refl r
    back (walk.ends {at = at} {m = m} {k = k} {below = below} e) r = jumps m (both_are (m == m) _ (eq-eqb m m refl) (opened k below m e)) e r
    back (walk.passes {at = at} {m = m} {k = k} e f) r = falls (so_not _ (shut_on k m e f)) r
    back walk.calls r = falls refl r

    back_all : {k end : List Work} → Walks d round k end → Reaches end → Reaches k
    back_all walk.stays r = r
    back_all (walk.then s w) r = back s (back_all w r)

    past : (s : Statement) → Reaches (Do s ∷ []) → out Lone round s Past ≡ true
    past s (falls h r) = h
    past s (jumps m h e r) = cc

    -- a statement that may be walked through may be left past its end
    pub walk_back : (s : Statement) → HasWalk d round s → out Lone round s Past ≡ true
    walk_back s w = past s (back_all w arrives)
