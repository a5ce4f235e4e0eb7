-- Each step of a walk lowers the number that its stack has by its structure.
use Rattle.std.proofs.Common.{◌≡◌, ◌⊎◌, inl, inr, ℕ, zero, suc, ◌+◌, ◌<◌, ◌≤◌, ◌==◌, not, Bool, true, false, if◌then◌else◌, List, [], ◌∷◌, Option, Some, None, Contains, slice_get, length, refl, sym, ◌∙◌, ap, subst, arith}
use Rattle.std.proofs.Math.Nat.{le-max_left, le-max_right}
use Rattle.xt_base.specs.declared.refusals.Place.{Place}
use Rattle.el_design.specs.Plain.{Expr, Statement, Null, Skip, Seq, Block, Assign, If, Case, Arm, For, While, Repeat, Forever, Wait, Enable, Disable, Host, FlatTask, Flat}
use Rattle.el_design.specs.Assign.{has_label, arm_chosen, count_of}
use Rattle.el_design.specs.Names.{is_constant}
use Rattle.el_design.specs.Purity.{contains_number}
use Rattle.el_design.specs.Stack.{Work, Do, End, Return, Test, Step, Turns, Await, quiet_step, below_mark}
use Rattle.el_design.specs.Act.{turn}
use Rattle.el_design.specs.InPlace.{Stands}
use Rattle.el_design.specs.Places.{open_on, ArePlaced}
use Rattle.el_design.specs.Turns.{fixed, holds, goes_on, HasTurns, of_repeat, of_while, of_for, IsEndlessFor, endless_for, IsEndlessWhile, endless_while, body_of}
use Rattle.el_design.specs.Rules.{IsFinite}
use Rattle.el_design.specs.Walk as walk
use Rattle.el_design.specs.Walk.{choices, is_constant_case, MayGo, MayTurn, IsFreeLoop, Steps, Walks, HasWalk}
use Rattle.el_design.specs.Exits.{Exit, Past, Away, may_hold, may_fail, Told, NotCounted, Finite, Endless, Arms, Alone, Any, Fixed, arms_of, exits, exits_in_place, Says, TellsRightly}
use Rattle.el_design.specs.Lengths.{Ahead, Lengths, one_more, longer, where_so, past_to, ended, leaving, turns_left, for_lengths, repeat_lengths, enable_lengths, lengths, lengths_to, aheads, NoneSpins, IsWithin, steps_of}
use Rattle.el_design.proofs.Texts.{stands_in_place}
use Rattle.el_design.proofs.OrderLists.{con_nil, con_cases}
use Rattle.el_design.proofs.OrderWalk.{Agrees}
use Rattle.el_design.proofs.Bounds.{split, has_bound}
use Rattle.el_design.proofs.Places.{onward, body_stands, step_placed}
use Rattle.el_design.proofs.WaysPuts.{clash}
use Rattle.el_design.proofs.WaysFound.{go_may, ends, opens}
use Rattle.el_design.proofs.ExitsFound.{Right, right_in, exit_found}
use Rattle.el_design.proofs.ExitsInPlace.{exits_unfold}
use Rattle.el_design.proofs.ExitsBack.{free_told, not_constant, not_repeated, opened, shut_on}
use Rattle.el_design.proofs.LengthsInPlace.{task_is}
use Rattle.el_design.proofs.LengthsAlike.{in_place_alike}

-- ---- one number, or none, is no more than another

abbrev pub Under : Option ℕ → Option ℕ → Type 0
Under None b = Unit {0}
Under (Some n) b = IsWithin n b

same_under : (a : Option ℕ) → Under a a
same_under None = tt
same_under (Some n) = omega arith

is_under : (a b : Option ℕ) → a ≡ b → Under a b
is_under a b e = subst (Under a) e (same_under a)

under_on : (a b c : Option ℕ) → Under a b → Under b c → Under a c
under_on None b c h k = tt
under_on (Some n) None c h k = absurd h
under_on (Some n) (Some m) None h k = absurd k
under_on (Some n) (Some m) (Some l) h k = let i : n ≤ m = h in let j : m ≤ l = k in omega (arith, i, j)

more_under : (a b : Option ℕ) → Under a b → Under (one_more a) (one_more b)
more_under None b h = tt
more_under (Some n) None h = absurd h
more_under (Some n) (Some m) h = let i : n ≤ m = h in omega (arith, i)

left_under : (a b : Option ℕ) → Under a (longer a b)
left_under None b = tt
left_under (Some n) None = omega arith
left_under (Some n) (Some m) = le-max_left n m

right_under : (a b : Option ℕ) → Under b (longer a b)
right_under None b = same_under b
right_under (Some n) None = tt
right_under (Some n) (Some m) = le-max_right n m

first_under : (p q : Bool) (a b : Option ℕ) → p ≡ true → Under a (longer (where_so p a) (where_so q b))
first_under true q a b e = left_under a (where_so q b)
first_under false q a b e = cc

second_under : (p q : Bool) (a b : Option ℕ) → q ≡ true → Under b (longer (where_so p a) (where_so q b))
second_under p true a b e = right_under (where_so p a) b
second_under p false a b e = cc

some_is : {X : Type 0} (a b : X) → Some a ≡ Some b → a ≡ b
some_is a b e = cc

-- ---- the turns of a loop are one number

turns_one : (d : Flat) (at : Place) (v n m : ℕ) (first test next : Expr) (body : Statement) → HasTurns d (For at v first test next body) n → HasTurns d (For at v first test next body) m → n ≡ m
turns_one d at v n m first test next body (of_for c f g) (of_for i j k) = go (split n m) (split m n)
  where
    go : (n ≤ m) ⊎ (m < n) → (m ≤ n) ⊎ (n < m) → n ≡ m
    go (inr a) b = clash (goes_on d v first test next m) (f m a) k
    go (inl a) (inr b) = clash (goes_on d v first test next n) (j n b) g
    go (inl a) (inl b) = omega arith

never_ends : (d : Flat) (n : ℕ) (s : Statement) → HasTurns d s n → IsEndlessFor d s → ⊥
never_ends d n s (of_repeat c) e = elim e [ ]
never_ends d n s (of_while c h) e = elim e [ ]
never_ends d n s (of_for {v = v} {first = first} {test = test} {next = next} c f g) (endless_for i j) = clash (goes_on d v first test next n) (j n) g

while_on : (d : Flat) (n : ℕ) (s : Statement) → HasTurns d s n → IsEndlessWhile d s → ⊥
while_on d n s (of_repeat c) e = elim e [ ]
while_on d n s (of_for c f g) e = elim e [ ]
while_on d n s (of_while {test = test} c h) (endless_while i k) = clash (holds d test) k h

module _ (d : Flat) (finite : IsFinite d) (told : Statement → Told) (round : List ℕ) (whole : Statement) (right : TellsRightly d told whole) (waiting : NoneSpins d round whole) (waits : Option ℕ) (goal : Ahead) where
  abbrev len : Arms → List ℕ → Statement → Lengths
  len arms marks s = lengths d told waits (lengths_to d told waits (length d.tasks)) arms marks s

  abbrev out : List ℕ → Statement → Exit → Bool
  out marks s = exits d told (exits_in_place d told) Alone marks s

  abbrev pub ahead : List Work → Ahead
  ahead k = aheads d told waits round goal k

  abbrev IsPlaced : List Work → Type 0
  IsPlaced k = ArePlaced d round whole k

  placed : (o : List ℕ) (x : Statement) → Stands d.tasks round whole o x → Right d told x
  placed o x st = right_in d told whole right x (stands_in_place whole x st)

  -- ---- a loop's body that isn't passed

  passed_walk : (o : List ℕ) (x : Statement) → Stands d.tasks round whole o x → out o x Past ≡ true → HasWalk d o x
  passed_walk o x st h = (exit_found d told (exits_in_place d told) finite (exits_unfold d finite told) o x (λ p y inner. placed p y (onward st inner)) Past h).1 o [] agrees
    where
      agrees : Agrees (ends o) o []
      agrees m e = (refl, λ c. opens o m c e)

  unpassed : (o : List ℕ) (x body : Statement) → Stands d.tasks round whole o x → body_of x ≡ Some body → ((n : ℕ) → HasTurns d x n → ⊥) → (a : Option ℕ) (y : Ahead) →
      len Alone o body (past_to a y) ≡ len Alone o body (past_to None y)
  unpassed o x body st b none a y = in_place_alike d told waits o body (past_to a y) (past_to None y) agree
    where
      agree : (e : Exit) → out o body e ≡ true → past_to a y e ≡ past_to None y e
      agree Past h = absurd (waiting o x body st b none (passed_walk o body (onward st (body_stands d.tasks o x body b)) h))
      agree (Away m) h = refl

  -- ---- the choice of a `case`

  only : (marks : List ℕ) (s x : Statement) (y : Ahead) → Contains (s ∷ []) x → Under (len Alone marks x y) (len Alone marks s y)
  only marks s x y c = go (con_cases s x [] c)
    where
      go : (s ≡ x) ⊎ Contains [] x → Under (len Alone marks x y) (len Alone marks s y)
      go (inl i) = subst (λ z. Under (len Alone marks z y) (len Alone marks s y)) i (same_under (len Alone marks s y))
      go (inr k) = absurd (con_nil x k)

  any_choice : (marks : List ℕ) (s x : Statement) (y : Ahead) → Contains (choices s) x → Under (len Alone marks x y) (len Any marks s y)
  any_choice marks (Arm on labels body others) x y c = go (con_cases body x (choices others) c) (any_choice marks others x y)
    where
      go : (body ≡ x) ⊎ Contains (choices others) x → (Contains (choices others) x → Under (len Alone marks x y) (len Any marks others y)) → Under (len Alone marks x y) (longer (len Alone marks body y) (len Any marks others y))
      go (inl i) more = subst (λ z. Under (len Alone marks z y) (longer (len Alone marks body y) (len Any marks others y))) i (left_under (len Alone marks body y) (len Any marks others y))
      go (inr k) more = under_on (len Alone marks x y) (len Any marks others y) _ (more k) (right_under (len Alone marks body y) (len Any marks others y))
  any_choice marks Null x y c = only marks Null x y c
  any_choice marks Skip x y c = only marks Skip x y c
  any_choice marks (Seq a b) x y c = only marks (Seq a b) x y c
  any_choice marks (Block at None body) x y c = only marks (Block at None body) x y c
  any_choice marks (Block at (Some m) body) x y c = only marks (Block at (Some m) body) x y c
  any_choice marks (Assign at to v held) x y c = only marks (Assign at to v held) x y c
  any_choice marks (If at t a b) x y c = only marks (If at t a b) x y c
  any_choice marks (Case at on arms) x y c = only marks (Case at on arms) x y c
  any_choice marks (For at v a b n body) x y c = only marks (For at v a b n body) x y c
  any_choice marks (While at t body) x y c = only marks (While at t body) x y c
  any_choice marks (Repeat at t body) x y c = only marks (Repeat at t body) x y c
  any_choice marks (Forever at body) x y c = only marks (Forever at body) x y c
  any_choice marks (Wait at falling) x y c = only marks (Wait at falling) x y c
  any_choice marks (Enable at t ins outs) x y c = only marks (Enable at t ins outs) x y c
  any_choice marks (Disable at m) x y c = only marks (Disable at m) x y c
  any_choice marks (Host at f ins result outs) x y c = only marks (Host at f ins result outs) x y c

  fixed_choice : (marks : List ℕ) (s : Statement) (y : Ahead) → Under (len Alone marks (arm_chosen d (fixed d) s) y) (len Fixed marks s y)
  fixed_choice marks (Arm on labels body others) y = go (has_label d (fixed d) on labels) (fixed_choice marks others y)
    where
      go : (b : Bool) → Under (len Alone marks (arm_chosen d (fixed d) others) y) (len Fixed marks others y) →
          Under (len Alone marks (if b then body else arm_chosen d (fixed d) others) y) (longer (where_so b (len Alone marks body y)) (where_so (not b) (len Fixed marks others y)))
      go true more = left_under (len Alone marks body y) None
      go false more = more
  fixed_choice marks Null y = same_under _
  fixed_choice marks Skip y = same_under _
  fixed_choice marks (Seq a b) y = same_under _
  fixed_choice marks (Block at None body) y = same_under _
  fixed_choice marks (Block at (Some m) body) y = same_under _
  fixed_choice marks (Assign at to v held) y = same_under _
  fixed_choice marks (If at t a b) y = same_under _
  fixed_choice marks (Case at on arms) y = same_under _
  fixed_choice marks (For at v a b n body) y = same_under _
  fixed_choice marks (While at t body) y = same_under _
  fixed_choice marks (Repeat at t body) y = same_under _
  fixed_choice marks (Forever at body) y = same_under _
  fixed_choice marks (Wait at falling) y = same_under _
  fixed_choice marks (Enable at t ins outs) y = same_under _
  fixed_choice marks (Disable at m) y = same_under _
  fixed_choice marks (Host at f ins result outs) y = same_under _

  case_choice : (marks : List ℕ) (on : Expr) (arms x : Statement) (y : Ahead) → Contains (choices arms) x → (is_constant_case on arms ≡ true → x ≡ arm_chosen d (fixed d) arms) →
      (b : Bool) → is_constant_case on arms ≡ b → Under (len Alone marks x y) (len (arms_of b) marks arms y)
  case_choice marks on arms x y c f true i = subst (λ z. Under (len Alone marks z y) (len Fixed marks arms y)) (sym (f i)) (fixed_choice marks arms y)
  case_choice marks on arms x y c f false i = any_choice marks arms x y c

  -- ---- marks on a stack

  marked_ahead : (m : ℕ) (k r : List Work) (b : Bool) → (if b then Some k else below_mark m k) ≡ Some r → (below_mark m k ≡ Some r → ahead k (Away m) ≡ one_more (ahead r Past)) →
      (if b then one_more (ahead k Past) else ahead k (Away m)) ≡ one_more (ahead r Past)
  marked_ahead m k r true e more = ap (λ z. one_more (ahead z Past)) (some_is k r e)
  marked_ahead m k r false e more = more e

  -- where a mark is open on the stack, what lies ahead at it is the step to what lies below its end
  below_ahead : (m : ℕ) (k r : List Work) → below_mark m k ≡ Some r → ahead k (Away m) ≡ one_more (ahead r Past)
  below_ahead m [] r e = cc
  below_ahead m (Do s ∷ k) r e = below_ahead m k r e
  below_ahead m (End n ∷ k) r e = marked_ahead m k r (n == m) e (below_ahead m k r)
  below_ahead m (Return at n outs ∷ k) r e = marked_ahead m k r (n == m) e (below_ahead m k r)
  below_ahead m (Test at v a b body ∷ k) r e = below_ahead m k r e
  below_ahead m (Step at v a b body ∷ k) r e = below_ahead m k r e
  below_ahead m (Turns at n body ∷ k) r e = below_ahead m k r e
  below_ahead m (Await at f result outs ∷ k) r e = below_ahead m k r e

  unmarked_ahead : (m : ℕ) (k : List Work) (b : Bool) → (if b then Some k else below_mark m k) ≡ None → (below_mark m k ≡ None → ahead k (Away m) ≡ goal (Away m)) →
      (if b then one_more (ahead k Past) else ahead k (Away m)) ≡ goal (Away m)
  unmarked_ahead m k true e more = cc
  unmarked_ahead m k false e more = more e

  -- and where it isn't, what is meant
  pub goal_ahead : (m : ℕ) (k : List Work) → below_mark m k ≡ None → ahead k (Away m) ≡ goal (Away m)
  goal_ahead m [] e = refl
  goal_ahead m (Do s ∷ k) e = goal_ahead m k e
  goal_ahead m (End n ∷ k) e = unmarked_ahead m k (n == m) e (goal_ahead m k)
  goal_ahead m (Return at n outs ∷ k) e = unmarked_ahead m k (n == m) e (goal_ahead m k)
  goal_ahead m (Test at v a b body ∷ k) e = goal_ahead m k e
  goal_ahead m (Step at v a b body ∷ k) e = goal_ahead m k e
  goal_ahead m (Turns at n body ∷ k) e = goal_ahead m k e
  goal_ahead m (Await at f result outs ∷ k) e = goal_ahead m k e

  -- ---- steps

  abbrev Lower : List Work → List Work → Type 0
  Lower next k = Under (one_more (ahead next Past)) (ahead k Past)

  lower_is : (k next mid : List Work) → mid ≡ next → Lower mid k → Lower next k
  lower_is k next mid e h = subst (λ z. Lower z k) e h

  -- a turn of a body that isn't passed, and the loop again
  again : (o : List ℕ) (x body : Statement) (k : List Work) → o ≡ open_on k round → Stands d.tasks round whole o x → body_of x ≡ Some body → ((n : ℕ) → HasTurns d x n → ⊥) →
      Under (one_more (len Alone o body (past_to None (ahead k)))) (len Alone o x (ahead k)) → Lower (Do body ∷ Do x ∷ k) (Do x ∷ k)
  again o x body k i st b none h =
      subst (λ q. Under (one_more (len Alone q body (past_to None (ahead k)))) (len Alone q x (ahead k)) → Stands d.tasks round whole q x → Lower (Do body ∷ Do x ∷ k) (Do x ∷ k)) (sym i)
      (λ g p. under_on _ _ _ (is_under _ _ (ap one_more (unpassed (open_on k round) x body p b none (ahead (Do x ∷ k) Past) (ahead k)))) g) h st

  quiet_lower : (k next : List Work) → IsPlaced k → quiet_step k ≡ Some next → Lower next k
  quiet_lower [] next p e = cc
  quiet_lower (Do Null ∷ k) next p e = lower_is (Do Null ∷ k) next k (some_is k next e) (same_under (one_more (ahead k Past)))
  quiet_lower (Do Skip ∷ k) next p e = lower_is (Do Skip ∷ k) next k (some_is k next e) (same_under (one_more (ahead k Past)))
  quiet_lower (Do (Seq a b) ∷ k) next p e = lower_is (Do (Seq a b) ∷ k) next (Do a ∷ Do b ∷ k) (some_is (Do a ∷ Do b ∷ k) next e) (same_under (one_more (ahead (Do a ∷ Do b ∷ k) Past)))
  quiet_lower (Do (Block at None body) ∷ k) next p e = lower_is (Do (Block at None body) ∷ k) next (Do body ∷ k) (some_is (Do body ∷ k) next e) (same_under (one_more (ahead (Do body ∷ k) Past)))
  quiet_lower (Do (Block at (Some m) body) ∷ k) next p e = lower_is (Do (Block at (Some m) body) ∷ k) next (Do body ∷ End m ∷ k) (some_is (Do body ∷ End m ∷ k) next e) (same_under (one_more (ahead (Do body ∷ End m ∷ k) Past)))
  quiet_lower (Do (Forever at body) ∷ k) next p e =
      lower_is (Do (Forever at body) ∷ k) next (Do body ∷ Do (Forever at body) ∷ k) (some_is (Do body ∷ Do (Forever at body) ∷ k) next e)
      (again (open_on k round) (Forever at body) body k refl p.0 refl (λ n t. elim t [ ]) (same_under _))
  quiet_lower (Do (Assign at to v held) ∷ k) next p e = cc
  quiet_lower (Do (If at v a b) ∷ k) next p e = cc
  quiet_lower (Do (Case at on arms) ∷ k) next p e = cc
  quiet_lower (Do (Arm on labels body others) ∷ k) next p e = cc
  quiet_lower (Do (For at v a b x body) ∷ k) next p e = cc
  quiet_lower (Do (While at v body) ∷ k) next p e = cc
  quiet_lower (Do (Repeat at v body) ∷ k) next p e = cc
  quiet_lower (Do (Wait at falling) ∷ k) next p e = cc
  quiet_lower (Do (Enable at t ins outs) ∷ k) next p e = cc
  quiet_lower (Do (Disable at m) ∷ k) next p e = cc
  quiet_lower (Do (Host at f ins result outs) ∷ k) next p e = cc
  quiet_lower (End m ∷ k) next p e = lower_is (End m ∷ k) next k (some_is k next e) (same_under (one_more (ahead k Past)))
  quiet_lower (Return at m outs ∷ k) next p e = cc
  quiet_lower (Test at v a b body ∷ k) next p e = cc
  quiet_lower (Step at v a b body ∷ k) next p e = cc
  quiet_lower (Turns at n body ∷ k) next p e = cc
  quiet_lower (Await at f result outs ∷ k) next p e = cc

  -- the turns that are left
  turn_is : (at : Place) (n : ℕ) (body : Statement) (k : List Work) → ahead (turn at n body k) Past ≡ turns_left n (len Alone (open_on k round) body) (ahead k)
  turn_is at zero body k = refl
  turn_is at (suc n) body k = refl

  begins_lower : (at : Place) (s body : Statement) (n : ℕ) (k : List Work) → Right d told s → HasTurns d s n → body_of s ≡ Some body → Lower (turn at n body k) (Do s ∷ k)
  begins_lower at s body n k p (of_repeat {at = here} {count = count} {body = own} c) b =
      subst (λ x. Lower (turn at n x k) (Do (Repeat here count own) ∷ k)) (some_is own body b)
      (subst (λ t. Under (one_more (ahead (turn at n own k) Past)) (repeat_lengths t n (len Alone (open_on k round) own) (ahead k))) (sym c) (is_under _ _ (ap one_more (turn_is at n own k))))
  begins_lower at s body n k p (of_while {at = here} {test = test} {body = own} c h) b =
      more_under (ahead k Past) _ (first_under (may_fail d test) (may_hold d test) (ahead k Past) _ (go_may d test false (λ j. h)))
  begins_lower at s body n k p (of_for {at = here} {v = v} {first = first} {test = test} {next = next} {body = own} c f g) b =
      subst (λ x. Lower (turn at n x k) (Do (For here v first test next own) ∷ k)) (some_is own body b) (by (told (For here v first test next own)) p)
    where
      by : (t : Told) → Says d (For here v first test next own) t → Under (one_more (ahead (turn at n own k) Past)) (for_lengths t (may_hold d test) (may_fail d test) (len Alone (open_on k round) own) (ahead k))
      by NotCounted r = absurd (r (has_bound d (inl (n, of_for c f g))))
      by (Finite m) r =
          is_under _ _ (ap one_more (turn_is at n own k ∙ ap (λ q. turns_left q (len Alone (open_on k round) own) (ahead k)) (turns_one d here v n m first test next own (of_for c f g) r)))
      by Endless r = absurd (never_ends d n (For here v first test next own) (of_for c f g) r)

  on_for : (s body : Statement) (k : List Work) → Stands d.tasks round whole (open_on k round) s → Right d told s → IsEndlessFor d s → body_of s ≡ Some body → Lower (Do body ∷ Do s ∷ k) (Do s ∷ k)
  on_for s body k st p (endless_for {at = at} {v = v} {first = first} {test = test} {next = next} {body = own} c f) b =
      again (open_on k round) (For at v first test next own) body k refl st b (λ n t. never_ends d n (For at v first test next own) t (endless_for c f))
      (subst (λ x. Under (one_more (len Alone (open_on k round) x (past_to None (ahead k)))) (len Alone (open_on k round) (For at v first test next own) (ahead k))) (some_is own body b)
      (by (told (For at v first test next own)) p))
    where
      by : (t : Told) → Says d (For at v first test next own) t →
          Under (one_more (len Alone (open_on k round) own (past_to None (ahead k)))) (for_lengths t (may_hold d test) (may_fail d test) (len Alone (open_on k round) own) (ahead k))
      by NotCounted r = absurd (r (has_bound d (inr (endless_for c f))))
      by (Finite n) r = absurd (never_ends d n (For at v first test next own) r (endless_for c f))
      by Endless r = same_under _

  on_while : (s body : Statement) (k : List Work) → Stands d.tasks round whole (open_on k round) s → IsEndlessWhile d s → body_of s ≡ Some body → Lower (Do body ∷ Do s ∷ k) (Do s ∷ k)
  on_while s body k st (endless_while {at = at} {test = test} {body = own} c f) b =
      again (open_on k round) (While at test own) body k refl st b (λ n t. while_on d n (While at test own) t (endless_while c f))
      (subst (λ x. Under (one_more (len Alone (open_on k round) x (past_to None (ahead k)))) (len Alone (open_on k round) (While at test own) (ahead k))) (some_is own body b)
      (more_under _ _ (second_under (may_fail d test) (may_hold d test) (ahead k Past) _ (go_may d test true (λ i. f)))))

  -- a loop of which no text tells the turns
  free_turns : (s body : Statement) (n : ℕ) → IsFreeLoop d s body → HasTurns d s n → ⊥
  free_turns s body n f t = f.no_bound (has_bound d (inl (n, t)))

  abbrev NoTurn : Statement → List Work → Type 0
  NoTurn s k = Under (one_more (ahead k Past)) (len Alone (open_on k round) s (ahead k))

  none_lower : (s body : Statement) (k : List Work) → Right d told s → IsFreeLoop d s body → MayTurn d s false → quiet_step (Do s ∷ k) ≡ None → NoTurn s k
  none_lower (For at v first test next own) body k p f g q =
      subst (λ t. Under (one_more (ahead k Past)) (for_lengths t (may_hold d test) (may_fail d test) (len Alone (open_on k round) own) (ahead k)))
      (sym (free_told d told (exits_in_place d told) (exits_unfold d finite told) round whole placed at v first test next own f.no_bound (told (For at v first test next own)) p))
      (more_under _ _ (first_under (may_fail d test) (may_hold d test) (ahead k Past) _ (go_may d test false g)))
  none_lower (While at test own) body k p f g q =
      more_under _ _ (first_under (may_fail d test) (may_hold d test) (ahead k Past) _ (go_may d test false (λ i. clash (is_constant test) i (not_constant d told (exits_in_place d told) (exits_unfold d finite told) round whole placed at test own body f))))
  none_lower (Repeat at count own) body k p f g q =
      subst (λ t. Under (one_more (ahead k Past)) (repeat_lengths t (count_of d (fixed d) count) (len Alone (open_on k round) own) (ahead k))) (sym (not_repeated d told (exits_in_place d told) (exits_unfold d finite told) round whole placed at count own body f))
      (more_under _ _ (left_under (ahead k Past) _))
  none_lower (Forever at own) body k p f g q = cc
  none_lower Null body k p f g q = let i : None ≡ Some body = f.body_is in cc
  none_lower Skip body k p f g q = let i : None ≡ Some body = f.body_is in cc
  none_lower (Seq a b) body k p f g q = let i : None ≡ Some body = f.body_is in cc
  none_lower (Block at m x) body k p f g q = let i : None ≡ Some body = f.body_is in cc
  none_lower (Assign at to v held) body k p f g q = let i : None ≡ Some body = f.body_is in cc
  none_lower (If at t a b) body k p f g q = let i : None ≡ Some body = f.body_is in cc
  none_lower (Case at on arms) body k p f g q = let i : None ≡ Some body = f.body_is in cc
  none_lower (Arm on labels x others) body k p f g q = let i : None ≡ Some body = f.body_is in cc
  none_lower (Wait at falling) body k p f g q = let i : None ≡ Some body = f.body_is in cc
  none_lower (Enable at t ins outs) body k p f g q = let i : None ≡ Some body = f.body_is in cc
  none_lower (Disable at m) body k p f g q = let i : None ≡ Some body = f.body_is in cc
  none_lower (Host at h ins result outs) body k p f g q = let i : None ≡ Some body = f.body_is in cc

  abbrev OneTurn : Statement → Statement → List Work → Type 0
  OneTurn s body k = Under (one_more (len Alone (open_on k round) body (past_to None (ahead k)))) (len Alone (open_on k round) s (ahead k))

  one_lower : (s body : Statement) (k : List Work) → Right d told s → IsFreeLoop d s body → MayTurn d s true → quiet_step (Do s ∷ k) ≡ None → OneTurn s body k
  one_lower (For at v first test next own) body k p f g q =
      subst (λ x. OneTurn (For at v first test next own) x k) (some_is own body f.body_is)
      (subst (λ t. Under (one_more (len Alone (open_on k round) own (past_to None (ahead k)))) (for_lengths t (may_hold d test) (may_fail d test) (len Alone (open_on k round) own) (ahead k)))
      (sym (free_told d told (exits_in_place d told) (exits_unfold d finite told) round whole placed at v first test next own f.no_bound (told (For at v first test next own)) p))
      (more_under _ _ (second_under (may_fail d test) (may_hold d test) (ahead k Past) _ (go_may d test true g))))
  one_lower (While at test own) body k p f g q =
      subst (λ x. OneTurn (While at test own) x k) (some_is own body f.body_is)
      (more_under _ _ (second_under (may_fail d test) (may_hold d test) (ahead k Past) _ (go_may d test true (λ i. clash (is_constant test) i (not_constant d told (exits_in_place d told) (exits_unfold d finite told) round whole placed at test own body f)))))
  one_lower (Repeat at count own) body k p f g q =
      subst (λ x. OneTurn (Repeat at count own) x k) (some_is own body f.body_is)
      (subst (λ t. Under (one_more (len Alone (open_on k round) own (past_to None (ahead k)))) (repeat_lengths t (count_of d (fixed d) count) (len Alone (open_on k round) own) (ahead k)))
      (sym (not_repeated d told (exits_in_place d told) (exits_unfold d finite told) round whole placed at count own body f)) (more_under _ _ (right_under (ahead k Past) _)))
  one_lower (Forever at own) body k p f g q = cc
  one_lower Null body k p f g q = let i : None ≡ Some body = f.body_is in cc
  one_lower Skip body k p f g q = let i : None ≡ Some body = f.body_is in cc
  one_lower (Seq a b) body k p f g q = let i : None ≡ Some body = f.body_is in cc
  one_lower (Block at m x) body k p f g q = let i : None ≡ Some body = f.body_is in cc
  one_lower (Assign at to v held) body k p f g q = let i : None ≡ Some body = f.body_is in cc
  one_lower (If at t a b) body k p f g q = let i : None ≡ Some body = f.body_is in cc
  one_lower (Case at on arms) body k p f g q = let i : None ≡ Some body = f.body_is in cc
  one_lower (Arm on labels x others) body k p f g q = let i : None ≡ Some body = f.body_is in cc
  one_lower (Wait at falling) body k p f g q = let i : None ≡ Some body = f.body_is in cc
  one_lower (Enable at t ins outs) body k p f g q = let i : None ≡ Some body = f.body_is in cc
  one_lower (Disable at m) body k p f g q = let i : None ≡ Some body = f.body_is in cc
  one_lower (Host at h ins result outs) body k p f g q = let i : None ≡ Some body = f.body_is in cc

  enabled_lower : (at : Place) (t : ℕ) (ins : List Expr) (outs : _) (task : FlatTask) (k : List Work) → slice_get d.tasks t ≡ Some task → Lower (Do task.body ∷ Return at task.mark [] ∷ k) (Do (Enable at t ins outs) ∷ k)
  enabled_lower at t ins outs task k e =
      is_under _ _ (sym (ap (λ o. enable_lengths o (lengths_to d told waits (length d.tasks) t (open_on k round)) (ahead k)) e ∙ ap (λ a. one_more (a (ended task.mark (ahead k)))) (task_is d told waits finite t task (open_on k round) e)))

  disable_lower : (b : Bool) (next_at : Place) (m : ℕ) (k : List Work) (next : List Work) → b ≡ contains_number (open_on k round) m →
      Under (one_more (ahead next Past)) (leaving b m (ahead k)) → Under (one_more (ahead next Past)) (ahead (Do (Disable next_at m) ∷ k) Past)
  disable_lower b next_at m k next e h = subst (λ c. Under (one_more (ahead next Past)) (leaving c m (ahead k))) e h

  pub lower : {k next : List Work} → Steps d round k next → IsPlaced k → Lower next k
  lower (walk.quietly {k = k} {next = next} e) p = quiet_lower k next p e
  lower (walk.assigns {k = k}) p = same_under (one_more (ahead k Past))
  lower (walk.goes_yes {at = at} {test = test} {a = a} {b = b} {k = k} h) p =
      more_under (ahead (Do a ∷ k) Past) _ (first_under (may_hold d test) (may_fail d test) (len Alone (open_on k round) a (ahead k)) (len Alone (open_on k round) b (ahead k)) (go_may d test true h))
  lower (walk.goes_no {at = at} {test = test} {a = a} {b = b} {k = k} h) p =
      more_under (ahead (Do b ∷ k) Past) _ (second_under (may_hold d test) (may_fail d test) (len Alone (open_on k round) a (ahead k)) (len Alone (open_on k round) b (ahead k)) (go_may d test false h))
  lower (walk.chooses {at = at} {on = on} {arms = arms} {x = x} {k = k} c h) p =
      more_under (ahead (Do x ∷ k) Past) _ (case_choice (open_on k round) on arms x (ahead k) c h (is_constant_case on arms) refl)
  lower (walk.begins_turns at {s = s} {body = body} {n = n} {k = k} b h) p = begins_lower at s body n k (placed (open_on k round) s p.0) h b
  lower (walk.takes_turn {at = at} {body = body} {n = n} {k = k}) p = is_under _ _ (ap one_more (turn_is at n body k))
  lower (walk.goes_on_for {s = s} {body = body} {k = k} b h) p = on_for s body k p.0 (placed (open_on k round) s p.0) h b
  lower (walk.goes_on_while {s = s} {body = body} {k = k} b h) p = on_while s body k p.0 h b
  lower (walk.takes_none {s = s} {body = body} {k = k} f g q) p = none_lower s body k (placed (open_on k round) s p.0) f g q
  lower (walk.takes_one {s = s} {body = body} {k = k} f g q) p =
      again (open_on k round) s body k refl p.0 f.body_is (λ n t. free_turns s body n f t) (one_lower s body k (placed (open_on k round) s p.0) f g q)
  lower (walk.enables {at = at} {t = t} {ins = ins} {outs = outs} {task = task} {k = k} e) p = enabled_lower at t ins outs task k e
  lower (walk.returns {at = at} {m = m} {outs = outs} {k = k}) p = same_under (one_more (ahead k Past))
  lower (walk.ends {at = at} {m = m} {k = k} {below = below} e) p =
      disable_lower true at m k below (sym (opened d told (exits_in_place d told) (exits_unfold d finite told) round whole placed k below m e)) (is_under _ _ (sym (below_ahead m k below e)))
  lower (walk.passes {at = at} {m = m} {k = k} e f) p =
      disable_lower false at m k k (sym (shut_on d told (exits_in_place d told) (exits_unfold d finite told) round whole placed k m e f)) (same_under (one_more (ahead k Past)))
  lower (walk.calls {k = k}) p = same_under (one_more (ahead k Past))

  -- a walk to where so many steps are left takes no more than the others
  pub walk_within : {k end : List Work} (w : Walks d round k end) (n : ℕ) → IsPlaced k → ahead end Past ≡ Some n → Under (Some (steps_of w + n)) (ahead k Past)
  walk_within walk.stays n p e = subst (λ o. Under (Some (0 + n)) o) (sym e) (omega arith)
  walk_within (walk.then {k = k} {mid = mid} step rest) n p e = more (ahead mid Past) refl (walk_within rest n (step_placed d round whole step p) e) (lower step p)
    where
      more : (o : Option ℕ) → ahead mid Past ≡ o → Under (Some (steps_of rest + n)) (ahead mid Past) → Lower mid k → Under (Some (suc (steps_of rest) + n)) (ahead k Past)
      more None i h l = absurd (subst (λ o. Under (Some (steps_of rest + n)) o) i h)
      more (Some m) i h l =
          let a : steps_of rest + n ≤ m = subst (λ o. Under (Some (steps_of rest + n)) o) i h in
          let b : Under (Some (suc m)) (ahead k Past) = subst (λ o. Under (one_more o) (ahead k Past)) i l in
          under_on (Some (suc (steps_of rest) + n)) (Some (suc m)) (ahead k Past) (let c : suc (steps_of rest) + n ≤ suc m = omega (arith, a) in c) b
