-- Where a walk leads to an exit of a statement, the statement has that exit by its structure.
use Rattle.std.proofs.Common.{◌≡◌, ◌⊎◌, inl, inr, ℕ, zero, suc, ◌<◌, ◌==◌, ◌&&◌, ◌||◌, not, Bool, true, false, if◌then◌else◌, List, [], ◌∷◌, Some, None, Contains, refl, sym, ◌∙◌, ap, subst, arith, T, eqb→eq, eq-eqb}
use Rattle.xt_base.specs.declared.refusals.Place.{Place}
use Rattle.el_design.specs.Plain.{Expr, Statement, Null, Skip, Seq, Block, Assign, If, Case, Arm, For, While, Repeat, Forever, Wait, Enable, Disable, Host, Flat}
use Rattle.el_design.specs.Assign.{has_label, arm_chosen, count_of}
use Rattle.el_design.specs.Names.{is_constant}
use Rattle.el_design.specs.Purity.{contains_number}
use Rattle.el_design.specs.Stack.{Work, Do, End, Return, Test, Step, Turns, Await, quiet_step, below_mark}
use Rattle.el_design.specs.Act.{turn}
use Rattle.el_design.specs.InPlace.{Stands, itself}
use Rattle.el_design.specs.Places.{open_on, ArePlaced}
use Rattle.el_design.specs.Turns.{fixed, holds, goes_on, HasBound, bound_repeat, bound_while, HasTurns, of_repeat, of_while, of_for, IsEndlessFor, endless_for, IsEndlessWhile, endless_while, body_of}
use Rattle.el_design.specs.Walk as walk
use Rattle.el_design.specs.Walk.{choices, is_constant_case, MayGo, MayTurn, IsFreeLoop, Steps, Walks, HasWalk}
use Rattle.el_design.specs.Exits.{Exit, Past, Away, Exits, no_exit, past_alone, after, inside, choosing, looping, may_hold, may_fail, Told, NotCounted, Finite, Endless, is_zero, turns_of, for_exits, repeat_exits, Arms, Alone, Any, Fixed, arms_of, TaskExits, enable_exits, exits, Says, AreOfTasks}
use Rattle.el_design.proofs.OrderLists.{con_nil, con_cases}
use Rattle.el_design.proofs.Bounds.{has_bound}
use Rattle.el_design.proofs.Places.{step_placed}
use Rattle.el_design.proofs.WaysPuts.{one_of, first_of, second_of, left_of, right_of, both_are, so_not, true_or_false, clash, has_con, con_has}
use Rattle.el_design.proofs.WaysFound.{go_may}
use Rattle.el_design.proofs.ExitsFound.{Right}

-- ---- exits put together

choose_first : (p q : Bool) (a b : Exits) (e : Exit) → p ≡ true → a e ≡ true → choosing p a q b e ≡ true
choose_first p q a b e h i = first_of (p && a e) (q && b e) (both_are p (a e) h i)

choose_second : (p q : Bool) (a b : Exits) (e : Exit) → q ≡ true → b e ≡ true → choosing p a q b e ≡ true
choose_second p q a b e h i = second_of (p && a e) (q && b e) (both_are q (b e) h i)

-- a turn of a loop that may take one, and the loop again, is the loop
loop_again : (over through enters : Bool) (a : Exits) (e : Exit) → enters ≡ true → after a (looping over through enters a) e ≡ true → looping over through enters a e ≡ true
loop_again over through enters a Past i h = right_of (a Past) (over || (through && a Past)) h
loop_again over through enters a (Away m) i h = go (one_of (a (Away m)) (a Past && (enters && a (Away m))) h)
  where
    go : (a (Away m) ≡ true) ⊎ ((a Past && (enters && a (Away m))) ≡ true) → (enters && a (Away m)) ≡ true
    go (inl k) = both_are enters (a (Away m)) i k
    go (inr k) = right_of (a Past) (enters && a (Away m)) k

repeat_again : (b : Bool) (n : ℕ) (a : Exits) (e : Exit) → b ≡ false → after a (repeat_exits b n a) e ≡ true → repeat_exits b n a e ≡ true
repeat_again true n a e i h = clash true refl i
repeat_again false n a e i h = loop_again true false true a e refl h

-- a turn, and those that are left
turn_joins : (n : ℕ) (a : Exits) (e : Exit) → after a (turns_of n a) e ≡ true → turns_of (suc n) a e ≡ true
turn_joins n a Past h = left_of (a Past) (is_zero n || (true && a Past)) h
turn_joins n a (Away m) h = go (one_of (a (Away m)) (a Past && (not (is_zero n) && a (Away m))) h)
  where
    go : (a (Away m) ≡ true) ⊎ ((a Past && (not (is_zero n) && a (Away m))) ≡ true) → a (Away m) ≡ true
    go (inl k) = k
    go (inr k) = right_of (not (is_zero n)) (a (Away m)) (right_of (a Past) (not (is_zero n) && a (Away m)) k)

-- two numbers of turns that are both 0 or both not
turns_alike : (n m : ℕ) (a : Exits) (e : Exit) → is_zero n ≡ is_zero m → turns_of n a e ≡ turns_of m a e
turns_alike n m a e i = ap (λ z. looping z true (not z) a e) i

some_is : {X : Type 0} (a b : X) → Some a ≡ Some b → a ≡ b
some_is a b e = cc

-- a mark that is open round a stack is open on it
pub opened_round : (k : List Work) (round : List ℕ) (m : ℕ) → Contains round m → contains_number (open_on k round) m ≡ true
opened_round [] round m c = has_con round m c
opened_round (Do s ∷ k) round m c = opened_round k round m c
opened_round (End n ∷ k) round m c = second_of (n == m) _ (opened_round k round m c)
opened_round (Return at n outs ∷ k) round m c = second_of (n == m) _ (opened_round k round m c)
opened_round (Test at v a b body ∷ k) round m c = opened_round k round m c
opened_round (Step at v a b body ∷ k) round m c = opened_round k round m c
opened_round (Turns at n body ∷ k) round m c = opened_round k round m c
opened_round (Await at f result outs ∷ k) round m c = opened_round k round m c

module _ (d : Flat) (told : Statement → Told) (tasks : TaskExits) (given : AreOfTasks d told tasks) where
  abbrev out : Arms → List ℕ → Statement → Exits
  out arms marks s = exits d told tasks arms marks s

  -- ---- the choice of a `case`

  only : (marks : List ℕ) (s x : Statement) (e : Exit) → Contains (s ∷ []) x → out Alone marks x e ≡ true → out Alone marks s e ≡ true
  only marks s x e c h = go (con_cases s x [] c)
    where
      go : (s ≡ x) ⊎ Contains [] x → out Alone marks s e ≡ true
      go (inl i) = subst (λ y. out Alone marks y e ≡ true) (sym i) h
      go (inr k) = absurd (con_nil x k)

  any_choice : (marks : List ℕ) (s x : Statement) (e : Exit) → Contains (choices s) x → out Alone marks x e ≡ true → out Any marks s e ≡ true
  any_choice marks (Arm on labels body others) x e c h = go (con_cases body x (choices others) c) (λ k. any_choice marks others x e k h)
    where
      go : (body ≡ x) ⊎ Contains (choices others) x → (Contains (choices others) x → out Any marks others e ≡ true) → out Any marks (Arm on labels body others) e ≡ true
      go (inl i) more = choose_first true true (out Alone marks body) (out Any marks others) e refl (subst (λ y. out Alone marks y e ≡ true) (sym i) h)
      go (inr k) more = choose_second true true (out Alone marks body) (out Any marks others) e refl (more k)
  any_choice marks Null x e c h = only marks Null x e c h
  any_choice marks Skip x e c h = only marks Skip x e c h
  any_choice marks (Seq a b) x e c h = only marks (Seq a b) x e c h
  any_choice marks (Block at None body) x e c h = only marks (Block at None body) x e c h
  any_choice marks (Block at (Some m) body) x e c h = only marks (Block at (Some m) body) x e c h
  any_choice marks (Assign at to v held) x e c h = only marks (Assign at to v held) x e c h
  any_choice marks (If at t a b) x e c h = only marks (If at t a b) x e c h
  any_choice marks (Case at on arms) x e c h = only marks (Case at on arms) x e c h
  any_choice marks (For at v a b n body) x e c h = only marks (For at v a b n body) x e c h
  any_choice marks (While at t body) x e c h = only marks (While at t body) x e c h
  any_choice marks (Repeat at t body) x e c h = only marks (Repeat at t body) x e c h
  any_choice marks (Forever at body) x e c h = only marks (Forever at body) x e c h
  any_choice marks (Wait at falling) x e c h = only marks (Wait at falling) x e c h
  any_choice marks (Enable at t ins outs) x e c h = only marks (Enable at t ins outs) x e c h
  any_choice marks (Disable at m) x e c h = only marks (Disable at m) x e c h
  any_choice marks (Host at f ins result outs) x e c h = only marks (Host at f ins result outs) x e c h

  fixed_choice : (marks : List ℕ) (s : Statement) (e : Exit) → out Alone marks (arm_chosen d (fixed d) s) e ≡ true → out Fixed marks s e ≡ true
  fixed_choice marks (Arm on labels body others) e h = go (has_label d (fixed d) on labels) refl (fixed_choice marks others e) h
    where
      go : (b : Bool) → has_label d (fixed d) on labels ≡ b → (out Alone marks (arm_chosen d (fixed d) others) e ≡ true → out Fixed marks others e ≡ true) →
          out Alone marks (if has_label d (fixed d) on labels then body else arm_chosen d (fixed d) others) e ≡ true → out Fixed marks (Arm on labels body others) e ≡ true
      go true i more h =
          choose_first (has_label d (fixed d) on labels) (not (has_label d (fixed d) on labels)) (out Alone marks body) (out Fixed marks others) e i
          (subst (λ b. out Alone marks (if b then body else arm_chosen d (fixed d) others) e ≡ true) i h)
      go false i more h =
          choose_second (has_label d (fixed d) on labels) (not (has_label d (fixed d) on labels)) (out Alone marks body) (out Fixed marks others) e (so_not (has_label d (fixed d) on labels) i)
          (more (subst (λ b. out Alone marks (if b then body else arm_chosen d (fixed d) others) e ≡ true) i h))
  fixed_choice marks Null e h = h
  fixed_choice marks Skip e h = h
  fixed_choice marks (Seq a b) e h = h
  fixed_choice marks (Block at None body) e h = h
  fixed_choice marks (Block at (Some m) body) e h = h
  fixed_choice marks (Assign at to v held) e h = h
  fixed_choice marks (If at t a b) e h = h
  fixed_choice marks (Case at on arms) e h = h
  fixed_choice marks (For at v a b n body) e h = h
  fixed_choice marks (While at t body) e h = h
  fixed_choice marks (Repeat at t body) e h = h
  fixed_choice marks (Forever at body) e h = h
  fixed_choice marks (Wait at falling) e h = h
  fixed_choice marks (Enable at t ins outs) e h = h
  fixed_choice marks (Disable at m) e h = h
  fixed_choice marks (Host at f ins result outs) e h = h

  case_choice : (marks : List ℕ) (at : Place) (on : Expr) (arms x : Statement) (e : Exit) → Contains (choices arms) x → (is_constant_case on arms ≡ true → x ≡ arm_chosen d (fixed d) arms) →
      (b : Bool) → is_constant_case on arms ≡ b → out Alone marks x e ≡ true → out (arms_of b) marks arms e ≡ true
  case_choice marks at on arms x e c f true i h = fixed_choice marks arms e (subst (λ y. out Alone marks y e ≡ true) (f i) h)
  case_choice marks at on arms x e c f false i h = any_choice marks arms x e c h

  -- round a statement with these marks, of which it is told rightly of each `for` in place
  module _ (round : List ℕ) (whole : Statement) (placed : (o : List ℕ) (x : Statement) → Stands d.tasks round whole o x → Right d told x) where
    -- ---- what is open on a stack

    past_end : (m : ℕ) (k r : List Work) (b : Bool) → (if b then Some k else below_mark m k) ≡ Some r → (below_mark m k ≡ Some r → contains_number (open_on k round) m ≡ true) →
        (b || contains_number (open_on k round) m) ≡ true
    past_end m k r true e more = refl
    past_end m k r false e more = more e

    pub opened : (k r : List Work) (m : ℕ) → below_mark m k ≡ Some r → contains_number (open_on k round) m ≡ true
    opened [] r m e = cc
    opened (Do s ∷ k) r m e = opened k r m e
    opened (End n ∷ k) r m e = past_end m k r (n == m) e (opened k r m)
    opened (Return at n outs ∷ k) r m e = past_end m k r (n == m) e (opened k r m)
    opened (Test at v a b body ∷ k) r m e = opened k r m e
    opened (Step at v a b body ∷ k) r m e = opened k r m e
    opened (Turns at n body ∷ k) r m e = opened k r m e
    opened (Await at f result outs ∷ k) r m e = opened k r m e

    no_end : (m : ℕ) (k : List Work) (b : Bool) → (if b then Some k else below_mark m k) ≡ None → (below_mark m k ≡ None → contains_number (open_on k round) m ≡ false) →
        (b || contains_number (open_on k round) m) ≡ false
    no_end m k true e more = cc
    no_end m k false e more = more e

    pub shut_on : (k : List Work) (m : ℕ) → below_mark m k ≡ None → (Contains round m → ⊥) → contains_number (open_on k round) m ≡ false
    shut_on [] m e f = go (true_or_false (contains_number round m))
      where
        go : (contains_number round m ≡ true) ⊎ (contains_number round m ≡ false) → contains_number round m ≡ false
        go (inl h) = absurd (f (con_has round m h))
        go (inr h) = h
    shut_on (Do s ∷ k) m e f = shut_on k m e f
    shut_on (End n ∷ k) m e f = no_end m k (n == m) e (λ h. shut_on k m h f)
    shut_on (Return at n outs ∷ k) m e f = no_end m k (n == m) e (λ h. shut_on k m h f)
    shut_on (Test at v a b body ∷ k) m e f = shut_on k m e f
    shut_on (Step at v a b body ∷ k) m e f = shut_on k m e f
    shut_on (Turns at n body ∷ k) m e f = shut_on k m e f
    shut_on (Await at g result outs ∷ k) m e f = shut_on k m e f

    -- ---- stacks that may be left at their bottom

    abbrev work_exits : Work → List ℕ → Exits
    work_exits (Do s) marks = out Alone marks s
    work_exits (End m) marks = past_alone
    work_exits (Return at m outs) marks = past_alone
    work_exits (Turns at n body) marks = turns_of n (out Alone marks body)
    work_exits (Test at v a b body) marks = no_exit
    work_exits (Step at v a b body) marks = no_exit
    work_exits (Await at f result outs) marks = no_exit

    abbrev here : Work → List Work → Exits
    here w k = work_exits w (open_on k round)

    data Reaches : Exit → List Work → Type 0 where
      arrives : Reaches Past []
      leaves : {w : Work} {k : List Work} (m : ℕ) → here w k (Away m) ≡ true → below_mark m k ≡ None → Reaches (Away m) (w ∷ k)
      falls : {z : Exit} {w : Work} {k : List Work} → here w k Past ≡ true → Reaches z k → Reaches z (w ∷ k)
      jumps : {z : Exit} {w : Work} {k r : List Work} (m : ℕ) → here w k (Away m) ≡ true → below_mark m k ≡ Some r → Reaches z r → Reaches z (w ∷ k)

    swap : (z : Exit) (v w : Work) (k : List Work) → ((e : Exit) → here v k e ≡ true → here w k e ≡ true) → Reaches z (v ∷ k) → Reaches z (w ∷ k)
    swap z v w k f (leaves m h i) = leaves m (f (Away m) h) i
    swap z v w k f (falls h r) = falls (f Past h) r
    swap z v w k f (jumps m h i r) = jumps m (f (Away m) h) i r

    -- one above another that is no end
    join : (z : Exit) (u v w : Work) (k : List Work) → open_on (v ∷ k) round ≡ open_on k round → ((m : ℕ) → below_mark m (v ∷ k) ≡ below_mark m k) →
        ((e : Exit) → after (here u k) (here v k) e ≡ true → here w k e ≡ true) → Reaches z (u ∷ v ∷ k) → Reaches z (w ∷ k)
    join z u v w k o b f (leaves m h i) = leaves m (f (Away m) (first_of (here u k (Away m)) (here u k Past && here v k (Away m)) (subst (λ l. work_exits u l (Away m) ≡ true) o h))) (sym (b m) ∙ i)
    join z u v w k o b f (falls h (leaves m g i)) =
        leaves m (f (Away m) (second_of (here u k (Away m)) (here u k Past && here v k (Away m)) (both_are (here u k Past) (here v k (Away m)) (subst (λ l. work_exits u l Past ≡ true) o h) g))) i
    join z u v w k o b f (falls h (falls g r)) = falls (f Past (both_are (here u k Past) (here v k Past) (subst (λ l. work_exits u l Past ≡ true) o h) g)) r
    join z u v w k o b f (falls h (jumps m g i r)) =
        jumps m (f (Away m) (second_of (here u k (Away m)) (here u k Past && here v k (Away m)) (both_are (here u k Past) (here v k (Away m)) (subst (λ l. work_exits u l Past ≡ true) o h) g))) i r
    join z u v w k o b f (jumps m h i r) =
        jumps m (f (Away m) (first_of (here u k (Away m)) (here u k Past && here v k (Away m)) (subst (λ l. work_exits u l (Away m) ≡ true) o h))) (sym (b m) ∙ i) r

    -- a part of a choice
    below_none : (m q : ℕ) (k : List Work) (t : Bool) → (m == q) ≡ t → (if m == q then Some k else below_mark q k) ≡ None → (t ≡ false) × (below_mark q k ≡ None)
    below_none m q k true j e = let z : Some k ≡ None = ap (λ t. if t then Some k else below_mark q k) (sym j) ∙ e in cc
    below_none m q k false j e = (refl, ap (λ t. if t then Some k else below_mark q k) (sym j) ∙ e)

    -- one above an end
    closes : (z : Exit) (m : ℕ) (u v w : Work) (k : List Work) → open_on (v ∷ k) round ≡ m ∷ open_on k round → ((n : ℕ) → below_mark n (v ∷ k) ≡ (if m == n then Some k else below_mark n k)) →
        ((n : ℕ) → here v k (Away n) ≡ true → ⊥) → ((e : Exit) → inside m (work_exits u (m ∷ open_on k round)) e ≡ true → here w k e ≡ true) → Reaches z (u ∷ v ∷ k) → Reaches z (w ∷ k)
    closes z m u v w k o b n f (leaves q h i) =
        let g : ((m == q) ≡ false) × (below_mark q k ≡ None) = let x = below_none m q k (m == q) refl (sym (b q) ∙ i) in (x.0, x.1) in
        leaves q (f (Away q) (both_are (not (m == q)) _ (so_not (m == q) g.0) (subst (λ l. work_exits u l (Away q) ≡ true) o h))) g.1
    closes z m u v w k o b n f (falls h (leaves q g i)) = absurd (n q g)
    closes z m u v w k o b n f (falls h (falls g r)) = falls (f Past (first_of _ _ (subst (λ l. work_exits u l Past ≡ true) o h))) r
    closes z m u v w k o b n f (falls h (jumps q g i r)) = absurd (n q g)
    closes z m u v w k o b n f (jumps {r = s} q h i r) = go (m == q) refl (sym (b q) ∙ i)
      where
        there : work_exits u (m ∷ open_on k round) (Away q) ≡ true
        there = subst (λ l. work_exits u l (Away q) ≡ true) o h

        go : (t : Bool) → (m == q) ≡ t → (if m == q then Some k else below_mark q k) ≡ Some s → Reaches z (w ∷ k)
        go true j e =
            falls (f Past (second_of (work_exits u (m ∷ open_on k round) Past) _ (subst (λ x. work_exits u (m ∷ open_on k round) (Away x) ≡ true) (sym (eqb→eq m q (subst T (sym j) tt))) there)))
            (subst (Reaches z) (sym (some_is k s (ap (λ t. if t then Some k else below_mark q k) (sym j) ∙ e))) r)
        go false j e = jumps q (f (Away q) (both_are (not (m == q)) _ (so_not (m == q) j) there)) (ap (λ t. if t then Some k else below_mark q k) (sym j) ∙ e) r

    -- ---- quiet steps

    quiet_back : (z : Exit) (k next : List Work) → quiet_step k ≡ Some next → Reaches z next → Reaches z k
    quiet_back z [] next e r = cc
    quiet_back z (Do Null ∷ k) next e r = falls refl (subst (Reaches z) (sym (some_is k next e)) r)
    quiet_back z (Do Skip ∷ k) next e r = falls refl (subst (Reaches z) (sym (some_is k next e)) r)
    quiet_back z (Do (Seq a b) ∷ k) next e r = join z (Do a) (Do b) (Do (Seq a b)) k refl (λ m. refl) (λ e h. h) (subst (Reaches z) (sym (some_is (Do a ∷ Do b ∷ k) next e)) r)
    quiet_back z (Do (Block at None body) ∷ k) next e r = swap z (Do body) (Do (Block at None body)) k (λ e h. h) (subst (Reaches z) (sym (some_is (Do body ∷ k) next e)) r)
    quiet_back z (Do (Block at (Some m) body) ∷ k) next e r =
        closes z m (Do body) (End m) (Do (Block at (Some m) body)) k refl (λ n. refl) (λ n h. cc) (λ e h. h) (subst (Reaches z) (sym (some_is (Do body ∷ End m ∷ k) next e)) r)
    quiet_back z (Do (Forever at body) ∷ k) next e r =
        join z (Do body) (Do (Forever at body)) (Do (Forever at body)) k refl (λ m. refl) (λ e h. loop_again false false true (here (Do body) k) e refl h)
        (subst (Reaches z) (sym (some_is (Do body ∷ Do (Forever at body) ∷ k) next e)) r)
    quiet_back z (Do (Assign at to v held) ∷ k) next e r = cc
    quiet_back z (Do (If at v a b) ∷ k) next e r = cc
    quiet_back z (Do (Case at on arms) ∷ k) next e r = cc
    quiet_back z (Do (Arm on labels body others) ∷ k) next e r = cc
    quiet_back z (Do (For at v a b x body) ∷ k) next e r = cc
    quiet_back z (Do (While at v body) ∷ k) next e r = cc
    quiet_back z (Do (Repeat at v body) ∷ k) next e r = cc
    quiet_back z (Do (Wait at falling) ∷ k) next e r = cc
    quiet_back z (Do (Enable at t ins outs) ∷ k) next e r = cc
    quiet_back z (Do (Disable at m) ∷ k) next e r = cc
    quiet_back z (Do (Host at f ins result outs) ∷ k) next e r = cc
    quiet_back z (End m ∷ k) next e r = falls refl (subst (Reaches z) (sym (some_is k next e)) r)
    quiet_back z (Return at m outs ∷ k) next e r = cc
    quiet_back z (Test at v a b body ∷ k) next e r = cc
    quiet_back z (Step at v a b body ∷ k) next e r = cc
    quiet_back z (Turns at n body ∷ k) next e r = cc
    quiet_back z (Await at f result outs ∷ k) next e r = cc

    -- ---- loops

    -- so many turns
    turned_back : (z : Exit) (at : Place) (w : Work) (body : Statement) (n : ℕ) (k : List Work) → ((e : Exit) → turns_of n (here (Do body) k) e ≡ true → here w k e ≡ true) → Reaches z (turn at n body k) → Reaches z (w ∷ k)
    turned_back z at w body zero k f r = falls (f Past refl) r
    turned_back z at w body (suc j) k f r = join z (Do body) (Turns at j body) w k refl (λ m. refl) (λ e h. f e (turn_joins j (here (Do body) k) e h)) r

    -- the test at first says whether there are turns
    at_first : (v n : ℕ) (first test next : Expr) → ((j : ℕ) → j < n → goes_on d v first test next j ≡ true) → goes_on d v first test next n ≡ false → is_zero n ≡ not (goes_on d v first test next 0)
    at_first v zero first test next f g = sym (so_not _ g)
    at_first v (suc n) first test next f g = ap not (sym (f 0 (omega arith)))

    turns_say : (at : Place) (v n m : ℕ) (first test next : Expr) (body : Statement) → HasTurns d (For at v first test next body) n → HasTurns d (For at v first test next body) m → is_zero n ≡ is_zero m
    turns_say at v n m first test next body (of_for c f g) (of_for i j k) = at_first v n first test next f g ∙ sym (at_first v m first test next j k)

    never_ends : (at : Place) (v n : ℕ) (first test next : Expr) (body : Statement) → HasTurns d (For at v first test next body) n → IsEndlessFor d (For at v first test next body) → ⊥
    never_ends at v n first test next body (of_for c f g) (endless_for i j) = clash (goes_on d v first test next n) (j n) g

    for_turns : (at : Place) (v n : ℕ) (first test next : Expr) (body : Statement) (a : Exits) (hold fail : Bool) → HasTurns d (For at v first test next body) n → (t : Told) → Says d (For at v first test next body) t → (e : Exit) →
        turns_of n a e ≡ true → for_exits t hold fail a e ≡ true
    for_turns at v n first test next body a hold fail h NotCounted r e i = absurd (r (has_bound d (inl (n, h))))
    for_turns at v n first test next body a hold fail h (Finite m) r e i = sym (turns_alike n m a e (turns_say at v n m first test next body h r)) ∙ i
    for_turns at v n first test next body a hold fail h Endless r e i = absurd (never_ends at v n first test next body h r)

    begins_back : (z : Exit) (at : Place) (s body : Statement) (n : ℕ) (k : List Work) → Right d told s → HasTurns d s n → body_of s ≡ Some body → Reaches z (turn at n body k) → Reaches z (Do s ∷ k)
    begins_back z at s body n k p (of_repeat {at = here_at} {count = count} {body = own} c) b r =
        turned_back z at (Do (Repeat here_at count own)) own n k
        (λ e h. subst (λ t. repeat_exits t (count_of d (fixed d) count) (here (Do own) k) e ≡ true) (sym c) h) (subst (λ x. Reaches z (turn at n x k)) (sym (some_is own body b)) r)
    begins_back z at s body n k p (of_while {at = here_at} {test = test} {body = own} c h) b r = falls (first_of (may_fail d test) _ (go_may d test false (λ j. h))) r
    begins_back z at s body n k p (of_for {at = here_at} {v = v} {first = first} {test = test} {next = next} {body = own} c f g) b r =
        turned_back z at (Do (For here_at v first test next own)) own n k
        (λ e h. for_turns here_at v n first test next own (here (Do own) k) (may_hold d test) (may_fail d test) (of_for c f g) (told (For here_at v first test next own)) p e h)
        (subst (λ x. Reaches z (turn at n x k)) (sym (some_is own body b)) r)

    endless_again : (at : Place) (v : ℕ) (first test next : Expr) (body : Statement) (a : Exits) (hold fail : Bool) → IsEndlessFor d (For at v first test next body) → (t : Told) → Says d (For at v first test next body) t → (e : Exit) →
        after a (for_exits t hold fail a) e ≡ true → for_exits t hold fail a e ≡ true
    endless_again at v first test next body a hold fail h NotCounted r e i = absurd (r (has_bound d (inr h)))
    endless_again at v first test next body a hold fail h (Finite n) r e i = absurd (never_ends at v n first test next body r h)
    endless_again at v first test next body a hold fail h Endless r e i = loop_again false false true a e refl i

    on_for : (z : Exit) (s body : Statement) (k : List Work) → Right d told s → IsEndlessFor d s → body_of s ≡ Some body → Reaches z (Do body ∷ Do s ∷ k) → Reaches z (Do s ∷ k)
    on_for z s body k p (endless_for {at = at} {v = v} {first = first} {test = test} {next = next} {body = own} c f) b r =
        join z (Do own) (Do (For at v first test next own)) (Do (For at v first test next own)) k refl (λ m. refl)
        (λ e h. endless_again at v first test next own (here (Do own) k) (may_hold d test) (may_fail d test) (endless_for c f) (told (For at v first test next own)) p e h)
        (subst (λ x. Reaches z (Do x ∷ Do (For at v first test next own) ∷ k)) (sym (some_is own body b)) r)

    on_while : (z : Exit) (s body : Statement) (k : List Work) → IsEndlessWhile d s → body_of s ≡ Some body → Reaches z (Do body ∷ Do s ∷ k) → Reaches z (Do s ∷ k)
    on_while z s body k (endless_while {at = at} {test = test} {body = own} c f) b r =
        join z (Do own) (Do (While at test own)) (Do (While at test own)) k refl (λ m. refl) (λ e h. loop_again (may_fail d test) false (may_hold d test) (here (Do own) k) e (go_may d test true (λ i. f)) h)
        (subst (λ x. Reaches z (Do x ∷ Do (While at test own) ∷ k)) (sym (some_is own body b)) r)

    -- of a `for` that has no bound nothing else is told
    pub free_told : (at : Place) (v : ℕ) (first test next : Expr) (body : Statement) → (HasBound d (For at v first test next body) → ⊥) → (t : Told) → Says d (For at v first test next body) t → t ≡ NotCounted
    free_told at v first test next body f NotCounted r = refl
    free_told at v first test next body f (Finite n) r = absurd (f (has_bound d (inl (n, r))))
    free_told at v first test next body f Endless r = absurd (f (has_bound d (inr r)))

    pub not_constant : (at : Place) (test : Expr) (body own : Statement) → IsFreeLoop d (While at test body) own → is_constant test ≡ false
    not_constant at test body own f = go (true_or_false (is_constant test)) (true_or_false (holds d test))
      where
        go : (is_constant test ≡ true) ⊎ (is_constant test ≡ false) → (holds d test ≡ true) ⊎ (holds d test ≡ false) → is_constant test ≡ false
        go (inr c) h = c
        go (inl c) (inl h) = absurd (f.no_end (endless_while c h))
        go (inl c) (inr h) = absurd (f.no_bound (bound_while c h))

    pub not_repeated : (at : Place) (count : Expr) (body own : Statement) → IsFreeLoop d (Repeat at count body) own → is_constant count ≡ false
    not_repeated at count body own f = go (true_or_false (is_constant count))
      where
        go : (is_constant count ≡ true) ⊎ (is_constant count ≡ false) → is_constant count ≡ false
        go (inr c) = c
        go (inl c) = absurd (f.no_bound (bound_repeat c))

    free_past : (s body : Statement) (k : List Work) → Right d told s → IsFreeLoop d s body → MayTurn d s false → quiet_step (Do s ∷ k) ≡ None → here (Do s) k Past ≡ true
    free_past (For at v first test next own) body k p f g q =
        subst (λ t. for_exits t (may_hold d test) (may_fail d test) (here (Do own) k) Past ≡ true)
        (sym (free_told at v first test next own f.no_bound (told (For at v first test next own)) p)) (first_of (may_fail d test) false (go_may d test false g))
    free_past (While at test own) body k p f g q = first_of (may_fail d test) false (go_may d test false (λ i. clash (is_constant test) i (not_constant at test own body f)))
    free_past (Repeat at count own) body k p f g q = subst (λ t. repeat_exits t (count_of d (fixed d) count) (here (Do own) k) Past ≡ true) (sym (not_repeated at count own body f)) refl
    free_past (Forever at own) body k p f g q = cc
    free_past Null body k p f g q = let i : None ≡ Some body = f.body_is in cc
    free_past Skip body k p f g q = let i : None ≡ Some body = f.body_is in cc
    free_past (Seq a b) body k p f g q = let i : None ≡ Some body = f.body_is in cc
    free_past (Block at m x) body k p f g q = let i : None ≡ Some body = f.body_is in cc
    free_past (Assign at to v held) body k p f g q = let i : None ≡ Some body = f.body_is in cc
    free_past (If at t a b) body k p f g q = let i : None ≡ Some body = f.body_is in cc
    free_past (Case at on arms) body k p f g q = let i : None ≡ Some body = f.body_is in cc
    free_past (Arm on labels x others) body k p f g q = let i : None ≡ Some body = f.body_is in cc
    free_past (Wait at falling) body k p f g q = let i : None ≡ Some body = f.body_is in cc
    free_past (Enable at t ins outs) body k p f g q = let i : None ≡ Some body = f.body_is in cc
    free_past (Disable at m) body k p f g q = let i : None ≡ Some body = f.body_is in cc
    free_past (Host at h ins result outs) body k p f g q = let i : None ≡ Some body = f.body_is in cc

    free_again : (z : Exit) (s body : Statement) (k : List Work) → Right d told s → IsFreeLoop d s body → MayTurn d s true → quiet_step (Do s ∷ k) ≡ None → Reaches z (Do body ∷ Do s ∷ k) → Reaches z (Do s ∷ k)
    free_again z (For at v first test next own) body k p f g q r =
        join z (Do own) (Do (For at v first test next own)) (Do (For at v first test next own)) k refl (λ m. refl)
        (λ e h. subst (λ t. after (here (Do own) k) (for_exits t (may_hold d test) (may_fail d test) (here (Do own) k)) e ≡ true → for_exits t (may_hold d test) (may_fail d test) (here (Do own) k) e ≡ true)
        (sym (free_told at v first test next own f.no_bound (told (For at v first test next own)) p)) (loop_again (may_fail d test) false (may_hold d test) (here (Do own) k) e (go_may d test true g)) h)
        (subst (λ x. Reaches z (Do x ∷ Do (For at v first test next own) ∷ k)) (sym (some_is own body f.body_is)) r)
    free_again z (While at test own) body k p f g q r =
        join z (Do own) (Do (While at test own)) (Do (While at test own)) k refl (λ m. refl)
        (λ e h. loop_again (may_fail d test) false (may_hold d test) (here (Do own) k) e (go_may d test true (λ i. clash (is_constant test) i (not_constant at test own body f))) h)
        (subst (λ x. Reaches z (Do x ∷ Do (While at test own) ∷ k)) (sym (some_is own body f.body_is)) r)
    free_again z (Repeat at count own) body k p f g q r =
        join z (Do own) (Do (Repeat at count own)) (Do (Repeat at count own)) k refl (λ m. refl)
        (λ e h. repeat_again (is_constant count) (count_of d (fixed d) count) (here (Do own) k) e (not_repeated at count own body f) h)
        (subst (λ x. Reaches z (Do x ∷ Do (Repeat at count own) ∷ k)) (sym (some_is own body f.body_is)) r)
    free_again z (Forever at own) body k p f g q r = cc
    free_again z Null body k p f g q r = let i : None ≡ Some body = f.body_is in cc
    free_again z Skip body k p f g q r = let i : None ≡ Some body = f.body_is in cc
    free_again z (Seq a b) body k p f g q r = let i : None ≡ Some body = f.body_is in cc
    free_again z (Block at m x) body k p f g q r = let i : None ≡ Some body = f.body_is in cc
    free_again z (Assign at to v held) body k p f g q r = let i : None ≡ Some body = f.body_is in cc
    free_again z (If at t a b) body k p f g q r = let i : None ≡ Some body = f.body_is in cc
    free_again z (Case at on arms) body k p f g q r = let i : None ≡ Some body = f.body_is in cc
    free_again z (Arm on labels x others) body k p f g q r = let i : None ≡ Some body = f.body_is in cc
    free_again z (Wait at falling) body k p f g q r = let i : None ≡ Some body = f.body_is in cc
    free_again z (Enable at t ins outs) body k p f g q r = let i : None ≡ Some body = f.body_is in cc
    free_again z (Disable at m) body k p f g q r = let i : None ≡ Some body = f.body_is in cc
    free_again z (Host at h ins result outs) body k p f g q r = let i : None ≡ Some body = f.body_is in cc

    -- ---- walks, backwards

    abbrev IsPlaced : List Work → Type 0
    IsPlaced k = ArePlaced d round whole k

    back : (z : Exit) {k next : List Work} → Steps d round k next → IsPlaced k → Reaches z next → Reaches z k
    back z (walk.quietly {k = k} {next = next} e) p r = quiet_back z k next e r
    back z walk.assigns p r = falls refl r
    back z (walk.goes_yes {at = at} {test = test} {a = a} {b = b} {k = k} h) p r =
        swap z (Do a) (Do (If at test a b)) k (λ e i. choose_first (may_hold d test) (may_fail d test) (here (Do a) k) (here (Do b) k) e (go_may d test true h) i) r
    back z (walk.goes_no {at = at} {test = test} {a = a} {b = b} {k = k} h) p r =
        swap z (Do b) (Do (If at test a b)) k (λ e i. choose_second (may_hold d test) (may_fail d test) (here (Do a) k) (here (Do b) k) e (go_may d test false h) i) r
    back z (walk.chooses {at = at} {on = on} {arms = arms} {x = x} {k = k} c h) p r =
        swap z (Do x) (Do (Case at on arms)) k (λ e i. case_choice (open_on k round) at on arms x e c h (is_constant_case on arms) refl i) r
    back z (walk.begins_turns at {s = s} {body = body} {n = n} {k = k} b h) p r = begins_back z at s body n k (placed (open_on k round) s p.0) h b r
    back z (walk.takes_turn {at = at} {body = body} {n = n} {k = k}) p r = turned_back z at (Turns at n body) body n k (λ e h. h) r
    back z (walk.goes_on_for {s = s} {body = body} {k = k} b h) p r = on_for z s body k (placed (open_on k round) s p.0) h b r
    back z (walk.goes_on_while {s = s} {body = body} {k = k} b h) p r = on_while z s body k h b r
    back z (walk.takes_none {s = s} {body = body} {k = k} f g q) p r = falls (free_past s body k (placed (open_on k round) s p.0) f g q) r
    back z (walk.takes_one {s = s} {body = body} {k = k} f g q) p r = free_again z s body k (placed (open_on k round) s p.0) f g q r
    back z (walk.enables {at = at} {t = t} {ins = ins} {outs = outs} {task = task} {k = k} i) p r =
        closes z task.mark (Do task.body) (Return at task.mark []) (Do (Enable at t ins outs)) k refl (λ n. refl) (λ n h. cc)
        (λ e h. ap (λ o. enable_exits o (tasks t (open_on k round)) e) i ∙ ap (λ a. inside task.mark a e) (given t task (open_on k round) i) ∙ h) r
    back z walk.returns p r = falls refl r
    back z (walk.ends {at = at} {m = m} {k = k} {below = below} e) p r = jumps m (both_are (m == m) _ (eq-eqb m m refl) (opened k below m e)) e r
    back z (walk.passes {at = at} {m = m} {k = k} e f) p r = falls (so_not _ (shut_on k m e f)) r
    back z walk.calls p r = falls refl r

    back_all : (z : Exit) {k end : List Work} → Walks d round k end → IsPlaced k → Reaches z end → Reaches z k
    back_all z walk.stays p r = r
    back_all z (walk.then s w) p r = back z s p (back_all z w (step_placed d round whole s p) r)

    at_start : (z : Exit) → Reaches z (Do whole ∷ []) → out Alone round whole z ≡ true
    at_start z (leaves m h i) = h
    at_start z (falls h arrives) = h
    at_start z (jumps m h e r) = cc

    -- where a walk leads past its end
    pub past_back : HasWalk d round whole → out Alone round whole Past ≡ true
    past_back w = at_start Past (back_all Past w (itself, tt) arrives)

    -- or to a `disable` of a mark that is open round it
    pub away_back : (m : ℕ) (at : Place) (below : List Work) → Walks d round (Do whole ∷ []) (Do (Disable at m) ∷ below) → below_mark m below ≡ None → Contains round m → out Alone round whole (Away m) ≡ true
    away_back m at below w n c = at_start (Away m) (back_all (Away m) w (itself, tt) (leaves m (both_are (m == m) _ (eq-eqb m m refl) (opened_round below round m c)) n))
