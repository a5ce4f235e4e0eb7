-- Walks that leave a statement, put together by its structure.
use Rattle.std.proofs.Common.{◌≡◌, ◌⊎◌, inl, inr, ℕ, zero, suc, ◌==◌, Bool, true, false, if◌then◌else◌, List, [], ◌∷◌, Option, Some, None, Contains, slice_get, refl, sym, ◌∙◌, ap, subst, arith}
use Rattle.xt_base.specs.declared.refusals.Place.{Place}
use Rattle.el_design.specs.Plain.{Expr, Lvalue, Statement, Null, Skip, Seq, Block, Assign, If, Case, For, While, Repeat, Forever, Enable, Disable, Host, FlatTask, Flat}
use Rattle.el_design.specs.Stack.{Work, Do, End, Return, Turns, quiet_step, below_mark}
use Rattle.el_design.specs.Act.{turn}
use Rattle.el_design.specs.Turns.{fixed, holds, HasTurns, of_while, IsEndlessFor, IsEndlessWhile, endless_while, body_of}
use Rattle.el_design.specs.Assign.{arm_chosen}
use Rattle.el_design.specs.Walk.{choices, is_constant_case, MayGo, MayTurn, IsFreeLoop, Steps, quietly, assigns, goes_yes, goes_no, chooses, begins_turns, takes_turn, goes_on_for, goes_on_while, takes_none, takes_one, enables, returns, passes, calls, Walks, stays, HasWalk}
use Rattle.el_design.specs.Walk as walk
pub use Rattle.el_design.proofs.Bounds.{Surely, sure, surely, either, IsConstantLoop}
use Rattle.el_design.proofs.Bounds.{no_bound_of}

-- the exits of a statement: past it, or past the nearest end with a mark
abbrev pub lands : Option ℕ → List Work → Option (List Work)
lands None k = Some k
lands (Some m) k = below_mark m k

-- what is not open in a stack is open neither in another, nor among the marks round it
abbrev pub Agrees : List Work → List ℕ → List Work → Type 0
Agrees below marks k = (m : ℕ) → below_mark m below ≡ None → (below_mark m k ≡ None) × (Contains marks m → ⊥)

-- a statement that stands above such a stack is left by an exit without a clock wait
abbrev pub Leaves : Flat → List Work → Statement → Option ℕ → Type 0
Leaves d below s e = (marks : List ℕ) (k r : List Work) → Agrees below marks k → lands e k ≡ Some r → Surely (Walks d marks (Do s ∷ k) r)

walk_on : {d : Flat} {marks : List ℕ} {a b c : List Work} → Walks d marks a b → Walks d marks b c → Walks d marks a c
walk_on stays w = w
walk_on (walk.then s v) w = walk.then s (walk_on v w)

step : {d : Flat} {marks : List ℕ} {a b r : List Work} → Steps d marks a b → Surely (Walks d marks b r) → Surely (Walks d marks a r)
step s w = surely w (λ v. sure (walk.then s v))

both : {d : Flat} {marks : List ℕ} {a b r : List Work} → Surely (Walks d marks a b) → Surely (Walks d marks b r) → Surely (Walks d marks a r)
both v w = surely v (λ p. surely w (λ q. sure (walk_on p q)))

some_is : (a b : List Work) → Some a ≡ Some b → a ≡ b
some_is a b e = cc

at_once : {d : Flat} {marks : List ℕ} (k r : List Work) → Some k ≡ Some r → Surely (Walks d marks k r)
at_once k r e = sure (subst (Walks _ _ k) (some_is k r e) stays)

module _ (d : Flat) (below : List Work) where
  pub leaves_null : Leaves d below Null None
  leaves_null marks k r a e = step (quietly refl) (at_once k r e)

  pub leaves_skip : Leaves d below Skip None
  leaves_skip marks k r a e = step (quietly refl) (at_once k r e)

  pub leaves_seq : (x y : Statement) (e : Option ℕ) → Leaves d (Do y ∷ below) x None → Leaves d below y e → Leaves d below (Seq x y) e
  leaves_seq x y e v w marks k r a l = step (quietly refl) (both (v marks (Do y ∷ k) (Do y ∷ k) a refl) (w marks k r a l))

  pub leaves_first : (x y : Statement) (m : ℕ) → Leaves d (Do y ∷ below) x (Some m) → Leaves d below (Seq x y) (Some m)
  leaves_first x y m v marks k r a l = step (quietly refl) (v marks (Do y ∷ k) r a l)

  pub leaves_block : (at : Place) (body : Statement) (e : Option ℕ) → Leaves d below body e → Leaves d below (Block at None body) e
  leaves_block at body e v marks k r a l = step (quietly refl) (v marks k r a l)

  agrees_end : (m : ℕ) (marks : List ℕ) (k : List Work) → Agrees below marks k → Agrees (End m ∷ below) marks (End m ∷ k)
  agrees_end m marks k a n = choose (m == n)
    where
      choose : (b : Bool) → (if b then Some below else below_mark n below) ≡ None → ((if b then Some k else below_mark n k) ≡ None) × (Contains marks n → ⊥)
      choose true e = cc
      choose false e = a n e

  agrees_return : (at : Place) (m : ℕ) (outs others : List (ℕ × Lvalue)) (marks : List ℕ) (k : List Work) → Agrees below marks k → Agrees (Return at m outs ∷ below) marks (Return at m others ∷ k)
  agrees_return at m outs others marks k a n = choose (m == n)
    where
      choose : (b : Bool) → (if b then Some below else below_mark n below) ≡ None → ((if b then Some k else below_mark n k) ≡ None) × (Contains marks n → ⊥)
      choose true e = cc
      choose false e = a n e

  pub leaves_named : (at : Place) (m : ℕ) (body : Statement) → Leaves d (End m ∷ below) body None → Leaves d below (Block at (Some m) body) None
  leaves_named at m body v marks k r a l = step (quietly refl) (both (v marks (End m ∷ k) (End m ∷ k) (agrees_end m marks k a) refl) (step (quietly refl) (at_once k r l)))

  pub leaves_ended : (at : Place) (m n : ℕ) (body : Statement) → (m == n) ≡ true → Leaves d (End m ∷ below) body (Some n) → Leaves d below (Block at (Some m) body) None
  leaves_ended at m n body i v marks k r a l = step (quietly refl) (v marks (End m ∷ k) r (agrees_end m marks k a) (ap (λ b. if b then Some k else below_mark n k) i ∙ l))

  pub leaves_through : (at : Place) (m n : ℕ) (body : Statement) → (m == n) ≡ false → Leaves d (End m ∷ below) body (Some n) → Leaves d below (Block at (Some m) body) (Some n)
  leaves_through at m n body i v marks k r a l = step (quietly refl) (v marks (End m ∷ k) r (agrees_end m marks k a) (ap (λ b. if b then Some k else below_mark n k) i ∙ l))

  pub leaves_assign : (at : Place) (to : Lvalue) (x : Expr) (held : Bool) → Leaves d below (Assign at to x held) None
  leaves_assign at to x held marks k r a l = step assigns (at_once k r l)

  pub leaves_then : (at : Place) (test : Expr) (x y : Statement) (e : Option ℕ) → MayGo d test true → Leaves d below x e → Leaves d below (If at test x y) e
  leaves_then at test x y e g v marks k r a l = step (goes_yes g) (v marks k r a l)

  pub leaves_else : (at : Place) (test : Expr) (x y : Statement) (e : Option ℕ) → MayGo d test false → Leaves d below y e → Leaves d below (If at test x y) e
  leaves_else at test x y e g v marks k r a l = step (goes_no g) (v marks k r a l)

  -- the arms of a `case` whose expression is this
  pub record LeavesArms (on : Expr) (arms : Statement) (e : Option ℕ) : Type 0 where
    pub chosen : Statement
    pub among : Contains (choices arms) chosen
    pub fixed_choice : is_constant_case on arms ≡ true → chosen ≡ arm_chosen d (fixed d) arms
    pub leaves : Leaves d below chosen e

  pub leaves_case : (at : Place) (on : Expr) (arms : Statement) (e : Option ℕ) → LeavesArms on arms e → Leaves d below (Case at on arms) e
  leaves_case at on arms e v marks k r a l = step (chooses v.among v.fixed_choice) (v.leaves marks k r a l)

  pub leaves_host : (at : Place) (f : ℕ) (ins : List Expr) (result : Option Lvalue) (outs : List Lvalue) → Leaves d below (Host at f ins result outs) None
  leaves_host at f ins result outs marks k r a l = step calls (at_once k r l)

  none_or : (o : Option (List Work)) → (o ≡ None) ⊎ ((r : List Work) × (o ≡ Some r))
  none_or None = inl refl
  none_or (Some r) = inr (r, refl)

  pub leaves_passed : (at : Place) (m : ℕ) → below_mark m below ≡ None → Leaves d below (Disable at m) None
  leaves_passed at m i marks k r a l = let x : (below_mark m k ≡ None) × (Contains marks m → ⊥) = a m i in step (passes x.0 x.1) (at_once k r l)

  pub leaves_disabled : (at : Place) (m : ℕ) → Leaves d below (Disable at m) (Some m)
  leaves_disabled at m marks k r a l = sure (walk.then (walk.ends l) stays)

  pub leaves_enable : (at : Place) (t : ℕ) (ins : List Expr) (outs : List Lvalue) (task : FlatTask) (outputs : List (ℕ × Lvalue)) → slice_get d.tasks t ≡ Some task →
      Leaves d (Return at task.mark outputs ∷ below) task.body None → Leaves d below (Enable at t ins outs) None
  leaves_enable at t ins outs task outputs i v marks k r a l =
      step (enables i) (both (v marks (Return at task.mark [] ∷ k) (Return at task.mark [] ∷ k) (agrees_return at task.mark outputs [] marks k a) refl) (step returns (at_once k r l)))

  pub leaves_task : (at : Place) (t n : ℕ) (ins : List Expr) (outs : List Lvalue) (task : FlatTask) (outputs : List (ℕ × Lvalue)) → slice_get d.tasks t ≡ Some task →
      (task.mark == n) ≡ true → Leaves d (Return at task.mark outputs ∷ below) task.body (Some n) → Leaves d below (Enable at t ins outs) None
  leaves_task at t n ins outs task outputs i b v marks k r a l =
      step (enables i) (v marks (Return at task.mark [] ∷ k) r (agrees_return at task.mark outputs [] marks k a) (ap (λ c. if c then Some k else below_mark n k) b ∙ l))

  pub leaves_enabled : (at : Place) (t n : ℕ) (ins : List Expr) (outs : List Lvalue) (task : FlatTask) (outputs : List (ℕ × Lvalue)) → slice_get d.tasks t ≡ Some task →
      (task.mark == n) ≡ false → Leaves d (Return at task.mark outputs ∷ below) task.body (Some n) → Leaves d below (Enable at t ins outs) (Some n)
  leaves_enabled at t n ins outs task outputs i b v marks k r a l =
      step (enables i) (v marks (Return at task.mark [] ∷ k) r (agrees_return at task.mark outputs [] marks k a) (ap (λ c. if c then Some k else below_mark n k) b ∙ l))

  -- ---- loops

  pub leaves_forever : (at : Place) (body : Statement) (m : ℕ) → Leaves d below body (Some m) → Leaves d below (Forever at body) (Some m)
  leaves_forever at body m v marks k r a l = step (quietly refl) (v marks (Do (Forever at body) ∷ k) r a l)

  -- so many turns of a body, each of which may be walked through
  turns_walked : (at : Place) (body : Statement) (n : ℕ) → ((n ≡ 0) ⊎ Leaves d below body None) → (marks : List ℕ) (k : List Work) → Agrees below marks k → Surely (Walks d marks (turn at n body k) k)
  turns_walked at body zero v marks k a = sure stays
  turns_walked at body (suc n) (inl z) marks k a = absurd (omega arith)
  turns_walked at body (suc n) (inr v) marks k a =
      both (v marks (Turns at n body ∷ k) (Turns at n body ∷ k) a refl) (step takes_turn (turns_walked at body n (inr v) marks k a))

  -- a constant loop is left past its end where it takes no turn, or where its body may be walked through
  pub leaves_turns : (at : Place) (s body : Statement) (n : ℕ) → body_of s ≡ Some body → HasTurns d s n → ((n ≡ 0) ⊎ Leaves d below body None) → Leaves d below s None
  leaves_turns at s body n b h v marks k r a l = step (begins_turns at b h) (both (turns_walked at body n v marks k a) (at_once k r l))

  -- and by a jump in its first turn
  pub leaves_turn : (at : Place) (s body : Statement) (n m : ℕ) → body_of s ≡ Some body → HasTurns d s (suc n) → Leaves d below body (Some m) → Leaves d below s (Some m)
  leaves_turn at s body n m b h v marks k r a l = step (begins_turns at b h) (v marks (Turns at n body ∷ k) r a l)

  pub leaves_endless_for : (s body : Statement) (m : ℕ) → body_of s ≡ Some body → IsEndlessFor d s → Leaves d below body (Some m) → Leaves d below s (Some m)
  leaves_endless_for s body m b h v marks k r a l = step (goes_on_for b h) (v marks (Do s ∷ k) r a l)

  pub leaves_endless_while : (s body : Statement) (m : ℕ) → body_of s ≡ Some body → IsEndlessWhile d s → Leaves d below body (Some m) → Leaves d below s (Some m)
  leaves_endless_while s body m b h v marks k r a l = step (goes_on_while b h) (v marks (Do s ∷ k) r a l)

  pub leaves_free : (s body : Statement) → IsFreeLoop d s body → MayTurn d s false → ((k : List Work) → quiet_step (Do s ∷ k) ≡ None) → Leaves d below s None
  leaves_free s body f g q marks k r a l = step (takes_none f g (q k)) (at_once k r l)

  pub leaves_free_turn : (s body : Statement) (m : ℕ) → IsFreeLoop d s body → MayTurn d s true → ((k : List Work) → quiet_step (Do s ∷ k) ≡ None) → Leaves d below body (Some m) → Leaves d below s (Some m)
  leaves_free_turn s body m f g q v marks k r a l = step (takes_one f g (q k)) (v marks (Do s ∷ k) r a l)

  -- ---- each loop with its tests

  while_zero : (at : Place) (test : Expr) (body : Statement) (n : ℕ) → HasTurns d (While at test body) n → (n ≡ 0) × (holds d test ≡ false) × (Rattle.el_design.specs.Names.is_constant test ≡ true)
  while_zero at test body n (of_while c h) = (refl, h, c)

  not_endless_for : (at : Place) (test : Expr) (body : Statement) → IsEndlessFor d (While at test body) → ⊥
  not_endless_for at test body h = elim h [ ]

  -- a `while` is left where its test may fail
  pub leaves_while : (at : Place) (test : Expr) (body : Statement) → MayGo d test false → Leaves d below (While at test body) None
  leaves_while at test body g marks k r a l = either {P = IsConstantLoop d (While at test body)} constant free
    where
      constant : IsConstantLoop d (While at test body) → Surely (Walks d marks (Do (While at test body) ∷ k) r)
      constant (inl h) = leaves_turns at (While at test body) body h.0 refl h.1 (inl (while_zero at test body h.0 h.1).0) marks k r a l
      constant (inr h) = absurd (not_endless_for at test body h)

      no_end : IsEndlessWhile d (While at test body) → ⊥
      no_end (endless_while c h) = let e : true ≡ false = sym h ∙ g c in cc

      free : (IsConstantLoop d (While at test body) → ⊥) → Surely (Walks d marks (Do (While at test body) ∷ k) r)
      free n = leaves_free (While at test body) body (record { body_is = refl; no_bound = no_bound_of d n; no_end = no_end }) tt (λ k. refl) marks k r a l

  -- or by a jump, where its test may hold
  pub leaves_while_turn : (at : Place) (test : Expr) (body : Statement) (m : ℕ) → MayGo d test true → Leaves d below body (Some m) → Leaves d below (While at test body) (Some m)
  leaves_while_turn at test body m g v marks k r a l = either {P = IsConstantLoop d (While at test body)} constant free
    where
      constant : IsConstantLoop d (While at test body) → Surely (Walks d marks (Do (While at test body) ∷ k) r)
      constant (inl h) = let z : (h.0 ≡ 0) × (holds d test ≡ false) × (Rattle.el_design.specs.Names.is_constant test ≡ true) = while_zero at test body h.0 h.1 in absurd (let e : true ≡ false = sym (g z.2) ∙ z.1 in cc)
      constant (inr h) = absurd (not_endless_for at test body h)

      free : (IsConstantLoop d (While at test body) → ⊥) → Surely (Walks d marks (Do (While at test body) ∷ k) r)
      free n = either {P = IsEndlessWhile d (While at test body)}
          (λ h. leaves_endless_while (While at test body) body m refl h v marks k r a l)
          (λ no_end. leaves_free_turn (While at test body) body m (record { body_is = refl; no_bound = no_bound_of d n; no_end = no_end }) tt (λ k. refl) v marks k r a l)

  not_endless_while_for : (at : Place) (v : ℕ) (first test next : Expr) (body : Statement) → IsEndlessWhile d (For at v first test next body) → ⊥
  not_endless_while_for at v first test next body h = elim h [ ]

  -- a `for` whose test may fail, and which takes no turn if it is counted, or whose body may be walked through
  pub leaves_for : (at : Place) (v : ℕ) (first test next : Expr) (body : Statement) → MayGo d test false →
      (IsEndlessFor d (For at v first test next body) → ⊥) → ((n : ℕ) → HasTurns d (For at v first test next body) n → (n ≡ 0) ⊎ Leaves d below body None) → Leaves d below (For at v first test next body) None
  leaves_for at v first test next body g never h marks k r a l = either {P = IsConstantLoop d (For at v first test next body)} constant free
    where
      constant : IsConstantLoop d (For at v first test next body) → Surely (Walks d marks (Do (For at v first test next body) ∷ k) r)
      constant (inl t) = leaves_turns at (For at v first test next body) body t.0 refl t.1 (h t.0 t.1) marks k r a l
      constant (inr t) = absurd (never t)

      free : (IsConstantLoop d (For at v first test next body) → ⊥) → Surely (Walks d marks (Do (For at v first test next body) ∷ k) r)
      free n = leaves_free (For at v first test next body) body (record { body_is = refl; no_bound = no_bound_of d n; no_end = not_endless_while_for at v first test next body }) g (λ k. refl) marks k r a l

  -- or by a jump, where its test may hold, and it takes a turn if it is counted
  pub leaves_for_turn : (at : Place) (v : ℕ) (first test next : Expr) (body : Statement) (m : ℕ) → MayGo d test true →
      (HasTurns d (For at v first test next body) 0 → ⊥) → Leaves d below body (Some m) → Leaves d below (For at v first test next body) (Some m)
  leaves_for_turn at v first test next body m g some w marks k r a l = either {P = IsConstantLoop d (For at v first test next body)} constant free
    where
      turned : (n : ℕ) → HasTurns d (For at v first test next body) n → Surely (Walks d marks (Do (For at v first test next body) ∷ k) r)
      turned zero t = absurd (some t)
      turned (suc n) t = leaves_turn at (For at v first test next body) body n m refl t w marks k r a l

      constant : IsConstantLoop d (For at v first test next body) → Surely (Walks d marks (Do (For at v first test next body) ∷ k) r)
      constant (inl t) = turned t.0 t.1
      constant (inr t) = leaves_endless_for (For at v first test next body) body m refl t w marks k r a l

      free : (IsConstantLoop d (For at v first test next body) → ⊥) → Surely (Walks d marks (Do (For at v first test next body) ∷ k) r)
      free n = leaves_free_turn (For at v first test next body) body m (record { body_is = refl; no_bound = no_bound_of d n; no_end = not_endless_while_for at v first test next body }) g (λ k. refl) w marks k r a l

  not_endless_repeat : (at : Place) (count : Expr) (body : Statement) → IsEndlessFor d (Repeat at count body) → ⊥
  not_endless_repeat at count body h = elim h [ ]

  not_endless_while_repeat : (at : Place) (count : Expr) (body : Statement) → IsEndlessWhile d (Repeat at count body) → ⊥
  not_endless_while_repeat at count body h = elim h [ ]

  pub leaves_repeat : (at : Place) (count : Expr) (body : Statement) → ((n : ℕ) → HasTurns d (Repeat at count body) n → (n ≡ 0) ⊎ Leaves d below body None) → Leaves d below (Repeat at count body) None
  leaves_repeat at count body h marks k r a l = either {P = IsConstantLoop d (Repeat at count body)} constant free
    where
      constant : IsConstantLoop d (Repeat at count body) → Surely (Walks d marks (Do (Repeat at count body) ∷ k) r)
      constant (inl t) = leaves_turns at (Repeat at count body) body t.0 refl t.1 (h t.0 t.1) marks k r a l
      constant (inr t) = absurd (not_endless_repeat at count body t)

      free : (IsConstantLoop d (Repeat at count body) → ⊥) → Surely (Walks d marks (Do (Repeat at count body) ∷ k) r)
      free n = leaves_free (Repeat at count body) body (record { body_is = refl; no_bound = no_bound_of d n; no_end = not_endless_while_repeat at count body }) tt (λ k. refl) marks k r a l

  pub leaves_repeat_turn : (at : Place) (count : Expr) (body : Statement) (m : ℕ) → (HasTurns d (Repeat at count body) 0 → ⊥) → Leaves d below body (Some m) → Leaves d below (Repeat at count body) (Some m)
  leaves_repeat_turn at count body m some w marks k r a l = either {P = IsConstantLoop d (Repeat at count body)} constant free
    where
      turned : (n : ℕ) → HasTurns d (Repeat at count body) n → Surely (Walks d marks (Do (Repeat at count body) ∷ k) r)
      turned zero t = absurd (some t)
      turned (suc n) t = leaves_turn at (Repeat at count body) body n m refl t w marks k r a l

      constant : IsConstantLoop d (Repeat at count body) → Surely (Walks d marks (Do (Repeat at count body) ∷ k) r)
      constant (inl t) = turned t.0 t.1
      constant (inr t) = absurd (not_endless_repeat at count body t)

      free : (IsConstantLoop d (Repeat at count body) → ⊥) → Surely (Walks d marks (Do (Repeat at count body) ∷ k) r)
      free n = leaves_free_turn (Repeat at count body) body m (record { body_is = refl; no_bound = no_bound_of d n; no_end = not_endless_while_repeat at count body }) tt (λ k. refl) w marks k r a l
