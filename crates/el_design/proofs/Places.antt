-- What a walk comes to stands in place.
use Rattle.std.proofs.Common.{◌≡◌, ◌==◌, ℕ, zero, suc, Bool, true, false, if◌then◌else◌, List, [], ◌∷◌, Some, None, subst, arith}
use Rattle.std.specs.Prelude.{Contains}
use Rattle.el_design.specs.Plain.{Statement, Null, Skip, Seq, Block, Assign, If, Case, Arm, For, While, Repeat, Forever, Wait, Enable, Disable, Host, FlatTask, Flat}
use Rattle.el_design.specs.Stack.{Work, Do, End, Return, Test, Step, Turns, Await, quiet_step, below_mark}
use Rattle.el_design.specs.Act.{turn}
use Rattle.el_design.specs.InPlace.{Stands, itself, in_first, in_rest, in_block, in_named, in_then, in_else, in_case, in_arm, in_others, in_for, in_while, in_repeat, in_forever, in_task}
use Rattle.el_design.specs.Turns.{body_of}
use Rattle.el_design.specs.Walk as walk
use Rattle.el_design.specs.Walk.{choices, Steps, Walks}
use Rattle.el_design.specs.Places.{open_on, ArePlaced, WalksInPlace}

-- what stands in a part stands in the whole
pub onward : {tasks : List FlatTask} {marks o p : List ℕ} {s x y : Statement} → Stands tasks marks s o x → Stands tasks o x p y → Stands tasks marks s p y
onward itself h = h
onward (in_first e) h = in_first (onward e h)
onward (in_rest e) h = in_rest (onward e h)
onward (in_block e) h = in_block (onward e h)
onward (in_named e) h = in_named (onward e h)
onward (in_then e) h = in_then (onward e h)
onward (in_else e) h = in_else (onward e h)
onward (in_case e) h = in_case (onward e h)
onward (in_arm e) h = in_arm (onward e h)
onward (in_others e) h = in_others (onward e h)
onward (in_for e) h = in_for (onward e h)
onward (in_while e) h = in_while (onward e h)
onward (in_repeat e) h = in_repeat (onward e h)
onward (in_forever e) h = in_forever (onward e h)
onward (in_task t e) h = in_task t (onward e h)

some_is : {X : Type 0} (a b : X) → Some a ≡ Some b → a ≡ b
some_is a b e = cc

-- a loop's body
pub body_stands : (tasks : List FlatTask) (marks : List ℕ) (s body : Statement) → body_of s ≡ Some body → Stands tasks marks s marks body
body_stands tasks marks (For at v a b c x) body e = subst (λ y. Stands tasks marks (For at v a b c x) marks y) (some_is x body e) (in_for itself)
body_stands tasks marks (While at c x) body e = subst (λ y. Stands tasks marks (While at c x) marks y) (some_is x body e) (in_while itself)
body_stands tasks marks (Repeat at c x) body e = subst (λ y. Stands tasks marks (Repeat at c x) marks y) (some_is x body e) (in_repeat itself)
body_stands tasks marks (Forever at x) body e = subst (λ y. Stands tasks marks (Forever at x) marks y) (some_is x body e) (in_forever itself)
body_stands tasks marks Null body e = cc
body_stands tasks marks Skip body e = cc
body_stands tasks marks (Seq a b) body e = cc
body_stands tasks marks (Block at m x) body e = cc
body_stands tasks marks (Assign at to v held) body e = cc
body_stands tasks marks (If at c a b) body e = cc
body_stands tasks marks (Case at on arms) body e = cc
body_stands tasks marks (Arm on labels x others) body e = cc
body_stands tasks marks (Wait at falling) body e = cc
body_stands tasks marks (Enable at t ins outs) body e = cc
body_stands tasks marks (Disable at m) body e = cc
body_stands tasks marks (Host at f ins result outs) body e = cc

-- the only one
lone : {X : Type 0} (s x : X) → Contains (s ∷ []) x → s ≡ x
lone s x (zero, h, e) = e
lone s x (suc k, h, e) = absurd (omega (arith, h))

-- the default, where no arm is left
default_stands : (tasks : List FlatTask) (marks : List ℕ) (s x : Statement) → Contains (s ∷ []) x → Stands tasks marks s marks x
default_stands tasks marks s x h = subst (λ y. Stands tasks marks s marks y) (lone s x h) itself

-- a statement that a `case` may choose
choice_stands : (tasks : List FlatTask) (marks : List ℕ) (arms x : Statement) → Contains (choices arms) x → Stands tasks marks arms marks x
choice_stands tasks marks (Arm on labels body others) x (zero, h, e) = subst (λ y. Stands tasks marks (Arm on labels body others) marks y) e (in_arm itself)
choice_stands tasks marks (Arm on labels body others) x (suc k, h, e) = in_others (choice_stands tasks marks others x (k, omega (arith, h), e))
choice_stands tasks marks Null x h = default_stands tasks marks Null x h
choice_stands tasks marks Skip x h = default_stands tasks marks Skip x h
choice_stands tasks marks (Seq a b) x h = default_stands tasks marks (Seq a b) x h
choice_stands tasks marks (Block at m body) x h = default_stands tasks marks (Block at m body) x h
choice_stands tasks marks (Assign at to v held) x h = default_stands tasks marks (Assign at to v held) x h
choice_stands tasks marks (If at c a b) x h = default_stands tasks marks (If at c a b) x h
choice_stands tasks marks (Case at on arms) x h = default_stands tasks marks (Case at on arms) x h
choice_stands tasks marks (For at v a b c body) x h = default_stands tasks marks (For at v a b c body) x h
choice_stands tasks marks (While at c body) x h = default_stands tasks marks (While at c body) x h
choice_stands tasks marks (Repeat at c body) x h = default_stands tasks marks (Repeat at c body) x h
choice_stands tasks marks (Forever at body) x h = default_stands tasks marks (Forever at body) x h
choice_stands tasks marks (Wait at falling) x h = default_stands tasks marks (Wait at falling) x h
choice_stands tasks marks (Enable at t ins outs) x h = default_stands tasks marks (Enable at t ins outs) x h
choice_stands tasks marks (Disable at m) x h = default_stands tasks marks (Disable at m) x h
choice_stands tasks marks (Host at f ins result outs) x h = default_stands tasks marks (Host at f ins result outs) x h

module _ (d : Flat) (marks : List ℕ) (s : Statement) where
  abbrev Placed : List Work → Type 0
  Placed k = ArePlaced d marks s k

  quiet_placed : (k next : List Work) → quiet_step k ≡ Some next → Placed k → Placed next
  quiet_placed [] next e p = cc
  quiet_placed (Do Null ∷ k) next e p = subst Placed (some_is k next e) p.1
  quiet_placed (Do Skip ∷ k) next e p = subst Placed (some_is k next e) p.1
  quiet_placed (Do (Seq a b) ∷ k) next e p = subst Placed (some_is (Do a ∷ Do b ∷ k) next e) (onward p.0 (in_first itself), (onward p.0 (in_rest itself), p.1))
  quiet_placed (Do (Block at None body) ∷ k) next e p = subst Placed (some_is (Do body ∷ k) next e) (onward p.0 (in_block itself), p.1)
  quiet_placed (Do (Block at (Some m) body) ∷ k) next e p = subst Placed (some_is (Do body ∷ End m ∷ k) next e) (onward p.0 (in_named itself), p.1)
  quiet_placed (Do (Forever at body) ∷ k) next e p = subst Placed (some_is (Do body ∷ Do (Forever at body) ∷ k) next e) (onward p.0 (in_forever itself), p)
  quiet_placed (Do (Assign at to v held) ∷ k) next e p = cc
  quiet_placed (Do (If at v a b) ∷ k) next e p = cc
  quiet_placed (Do (Case at on arms) ∷ k) next e p = cc
  quiet_placed (Do (Arm on labels body others) ∷ k) next e p = cc
  quiet_placed (Do (For at v a b x body) ∷ k) next e p = cc
  quiet_placed (Do (While at v body) ∷ k) next e p = cc
  quiet_placed (Do (Repeat at v body) ∷ k) next e p = cc
  quiet_placed (Do (Wait at falling) ∷ k) next e p = cc
  quiet_placed (Do (Enable at t ins outs) ∷ k) next e p = cc
  quiet_placed (Do (Disable at m) ∷ k) next e p = cc
  quiet_placed (Do (Host at f ins result outs) ∷ k) next e p = cc
  quiet_placed (End m ∷ k) next e p = subst Placed (some_is k next e) p
  quiet_placed (Return at m outs ∷ k) next e p = cc
  quiet_placed (Test at v a b body ∷ k) next e p = cc
  quiet_placed (Step at v a b body ∷ k) next e p = cc
  quiet_placed (Turns at n body ∷ k) next e p = cc
  quiet_placed (Await at f result outs ∷ k) next e p = cc

  -- what lies below an end, or further below
  below_placed : (k : List Work) (b : Bool) (m : ℕ) (below : List Work) → (below_mark m k ≡ Some below → Placed below) → Placed k
      → (if b then Some k else below_mark m k) ≡ Some below → Placed below
  below_placed k true m below rest p e = subst Placed (some_is k below e) p
  below_placed k false m below rest p e = rest e

  mark_placed : (m : ℕ) (k below : List Work) → below_mark m k ≡ Some below → Placed k → Placed below
  mark_placed m [] below e p = cc
  mark_placed m (Do x ∷ k) below e p = mark_placed m k below e p.1
  mark_placed m (End n ∷ k) below e p = below_placed k (n == m) m below (λ h. mark_placed m k below h p) p e
  mark_placed m (Return at n outs ∷ k) below e p = below_placed k (n == m) m below (λ h. mark_placed m k below h p) p e
  mark_placed m (Test at v a b body ∷ k) below e p = mark_placed m k below e p
  mark_placed m (Step at v a b body ∷ k) below e p = mark_placed m k below e p
  mark_placed m (Turns at n body ∷ k) below e p = mark_placed m k below e p.1
  mark_placed m (Await at f result outs ∷ k) below e p = mark_placed m k below e p

  turn_placed : (at : _) (n : ℕ) (body : Statement) (k : List Work) → Stands d.tasks marks s (open_on k marks) body → Placed k → Placed (turn at n body k)
  turn_placed at zero body k h p = p
  turn_placed at (suc n) body k h p = (h, (h, p))

  pub step_placed : {k next : List Work} → Steps d marks k next → Placed k → Placed next
  step_placed (walk.quietly {k = k} {next = next} e) p = quiet_placed k next e p
  step_placed walk.assigns p = p.1
  step_placed (walk.goes_yes h) p = (onward p.0 (in_then itself), p.1)
  step_placed (walk.goes_no h) p = (onward p.0 (in_else itself), p.1)
  step_placed (walk.chooses {arms = arms} {x = x} {k = k} c h) p = (onward p.0 (in_case (choice_stands d.tasks (open_on k marks) arms x c)), p.1)
  step_placed (walk.begins_turns at {s = x} {body = body} {n = n} {k = k} e h) p = turn_placed at n body k (onward p.0 (body_stands d.tasks (open_on k marks) x body e)) p.1
  step_placed (walk.takes_turn {at = at} {body = body} {n = n} {k = k}) p = turn_placed at n body k p.0 p.1
  step_placed (walk.goes_on_for {s = x} {body = body} {k = k} e h) p = (onward p.0 (body_stands d.tasks (open_on k marks) x body e), p)
  step_placed (walk.goes_on_while {s = x} {body = body} {k = k} e h) p = (onward p.0 (body_stands d.tasks (open_on k marks) x body e), p)
  step_placed (walk.takes_none h t q) p = p.1
  step_placed (walk.takes_one {s = x} {body = body} {k = k} h t q) p = (onward p.0 (body_stands d.tasks (open_on k marks) x body h.body_is), p)
  step_placed (walk.enables e) p = (onward p.0 (in_task e itself), p.1)
  step_placed walk.returns p = p
  step_placed (walk.ends {m = m} {k = k} {below = below} e) p = mark_placed m k below e p.1
  step_placed (walk.passes e h) p = p.1
  step_placed walk.calls p = p.1

  walk_placed : {k end : List Work} → Walks d marks k end → Placed k → Placed end
  walk_placed walk.stays p = p
  walk_placed (walk.then h rest) p = walk_placed rest (step_placed h p)

pub walks_in_place : (d : Flat) (marks : List ℕ) (s : Statement) (k : List Work) → WalksInPlace d marks s k
walks_in_place d marks s k = λ w. walk_placed d marks s w (itself, tt)
