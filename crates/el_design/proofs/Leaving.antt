-- Walks that leave a statement, put together by its structure, each with where it comes to.
use Rattle.std.proofs.Common.{◌≡◌, ◌⊎◌, inl, inr, ℕ, zero, suc, ◌==◌, Bool, true, false, if◌then◌else◌, List, [], ◌∷◌, Option, Some, None, Contains, slice_get, refl, ◌∙◌, ap, arith}
use Rattle.xt_base.specs.declared.refusals.Place.{Place}
use Rattle.el_design.specs.Plain.{Expr, Lvalue, Statement, Null, Skip, Seq, Block, Assign, If, Case, Forever, Enable, Disable, Host, FlatTask, Flat}
use Rattle.el_design.specs.Stack.{Work, Do, End, Return, Turns, quiet_step, below_mark}
use Rattle.el_design.specs.Act.{turn}
use Rattle.el_design.specs.Turns.{fixed, HasTurns, IsEndlessFor, IsEndlessWhile, body_of}
use Rattle.el_design.specs.Assign.{arm_chosen}
use Rattle.el_design.specs.Walk.{choices, is_constant_case, MayGo, MayTurn, IsFreeLoop, Steps, quietly, assigns, goes_yes, goes_no, chooses, begins_turns, takes_turn, goes_on_for, goes_on_while, takes_none, takes_one, enables, returns, passes, calls, Walks, stays}
use Rattle.el_design.specs.Walk as walk
use Rattle.el_design.specs.Exits.{Exit, Past, Away}
use Rattle.el_design.proofs.OrderWalk.{Agrees}

-- an exit that is come to: the stack below, or a `disable` that leads as far as one from there
abbrev pub Comes : Flat → List ℕ → List Work → Exit → List Work → Type 0
Comes d marks a Past k = Walks d marks a k
Comes d marks a (Away m) k = (at : Place) × (below : List Work) × Walks d marks a (Do (Disable at m) ∷ below) × (below_mark m below ≡ below_mark m k)

-- the mark of an exit is open in a stack
abbrev pub IsOpenIn : List Work → Exit → Type 0
IsOpenIn low Past = Unit {0}
IsOpenIn low (Away m) = below_mark m low ≡ None → ⊥

-- a statement that stands above such a stack is left by an exit
abbrev pub Leaves : Flat → List Work → Statement → Exit → Type 0
Leaves d low s e = IsOpenIn low e × ((marks : List ℕ) (k : List Work) → Agrees low marks k → Comes d marks (Do s ∷ k) e k)

walk_on : {d : Flat} {marks : List ℕ} {a b c : List Work} → Walks d marks a b → Walks d marks b c → Walks d marks a c
walk_on stays w = w
walk_on (walk.then s v) w = walk.then s (walk_on v w)

-- a walk before what comes to an exit
pub before : {d : Flat} {marks : List ℕ} {a b : List Work} (e : Exit) (k : List Work) → Walks d marks a b → Comes d marks b e k → Comes d marks a e k
before Past k w c = walk_on w c
before (Away m) k w c = (c.0, c.1, walk_on w c.2, c.3)

pub step : {d : Flat} {marks : List ℕ} {a b : List Work} (e : Exit) (k : List Work) → Steps d marks a b → Comes d marks b e k → Comes d marks a e k
step e k s c = before e k (walk.then s stays) c

-- from under another stack that a `disable` of the mark sees alike
pub alike : {d : Flat} {marks : List ℕ} {a : List Work} (m : ℕ) (j k : List Work) → below_mark m j ≡ below_mark m k → Comes d marks a (Away m) j → Comes d marks a (Away m) k
alike m j k e c = (c.0, c.1, c.2, c.3 ∙ e)

-- a `disable` that ends what stands there
pub ended : {d : Flat} {marks : List ℕ} {a : List Work} (m : ℕ) (j r : List Work) → below_mark m j ≡ Some r → Comes d marks a (Away m) j → Walks d marks a r
ended m j r e c = walk_on c.2 (walk.then (walk.ends (c.3 ∙ e)) stays)

module _ (d : Flat) (low : List Work) where
  pub leaves_null : Leaves d low Null Past
  leaves_null = (tt, λ marks k a. walk.then (quietly refl) stays)

  pub leaves_skip : Leaves d low Skip Past
  leaves_skip = (tt, λ marks k a. walk.then (quietly refl) stays)

  pub leaves_seq : (x y : Statement) (e : Exit) → Leaves d (Do y ∷ low) x Past → Leaves d low y e → Leaves d low (Seq x y) e
  leaves_seq x y e v w = (w.0, λ marks k a. step e k (quietly refl) (before e k (v.1 marks (Do y ∷ k) a) (w.1 marks k a)))

  pub leaves_first : (x y : Statement) (m : ℕ) → Leaves d (Do y ∷ low) x (Away m) → Leaves d low (Seq x y) (Away m)
  leaves_first x y m v = (v.0, λ marks k a. step (Away m) k (quietly refl) (alike m (Do y ∷ k) k refl (v.1 marks (Do y ∷ k) a)))

  pub leaves_block : (at : Place) (body : Statement) (e : Exit) → Leaves d low body e → Leaves d low (Block at None body) e
  leaves_block at body e v = (v.0, λ marks k a. step e k (quietly refl) (v.1 marks k a))

  agrees_end : (m : ℕ) (marks : List ℕ) (k : List Work) → Agrees low marks k → Agrees (End m ∷ low) marks (End m ∷ k)
  agrees_end m marks k a n = choose (m == n)
    where
      choose : (b : Bool) → (if b then Some low else below_mark n low) ≡ None → ((if b then Some k else below_mark n k) ≡ None) × (Contains marks n → ⊥)
      choose true e = cc
      choose false e = a n e

  agrees_return : (at : Place) (m : ℕ) (marks : List ℕ) (k : List Work) → Agrees low marks k → Agrees (Return at m [] ∷ low) marks (Return at m [] ∷ k)
  agrees_return at m marks k a n = choose (m == n)
    where
      choose : (b : Bool) → (if b then Some low else below_mark n low) ≡ None → ((if b then Some k else below_mark n k) ≡ None) × (Contains marks n → ⊥)
      choose true e = cc
      choose false e = a n e

  pub leaves_named : (at : Place) (m : ℕ) (body : Statement) → Leaves d (End m ∷ low) body Past → Leaves d low (Block at (Some m) body) Past
  leaves_named at m body v = (tt, λ marks k a. step Past k (quietly refl) (walk_on (v.1 marks (End m ∷ k) (agrees_end m marks k a)) (walk.then (quietly refl) stays)))

  pub leaves_ended : (at : Place) (m n : ℕ) (body : Statement) → (m == n) ≡ true → Leaves d (End m ∷ low) body (Away n) → Leaves d low (Block at (Some m) body) Past
  leaves_ended at m n body i v = (tt, λ marks k a. step Past k (quietly refl) (ended n (End m ∷ k) k (ap (λ b. if b then Some k else below_mark n k) i) (v.1 marks (End m ∷ k) (agrees_end m marks k a))))

  pub leaves_through : (at : Place) (m n : ℕ) (body : Statement) → (m == n) ≡ false → Leaves d (End m ∷ low) body (Away n) → Leaves d low (Block at (Some m) body) (Away n)
  leaves_through at m n body i v = ((λ e. v.0 (ap (λ b. if b then Some low else below_mark n low) i ∙ e)), λ marks k a. step (Away n) k (quietly refl) (alike n (End m ∷ k) k (ap (λ b. if b then Some k else below_mark n k) i) (v.1 marks (End m ∷ k) (agrees_end m marks k a))))

  pub leaves_assign : (at : Place) (to : Lvalue) (x : Expr) (held : Bool) → Leaves d low (Assign at to x held) Past
  leaves_assign at to x held = (tt, λ marks k a. walk.then assigns stays)

  pub leaves_then : (at : Place) (test : Expr) (x y : Statement) (e : Exit) → MayGo d test true → Leaves d low x e → Leaves d low (If at test x y) e
  leaves_then at test x y e g v = (v.0, λ marks k a. step e k (goes_yes g) (v.1 marks k a))

  pub leaves_else : (at : Place) (test : Expr) (x y : Statement) (e : Exit) → MayGo d test false → Leaves d low y e → Leaves d low (If at test x y) e
  leaves_else at test x y e g v = (v.0, λ marks k a. step e k (goes_no g) (v.1 marks k a))

  pub leaves_case : (at : Place) (on : Expr) (arms x : Statement) (e : Exit) → Contains (choices arms) x → (is_constant_case on arms ≡ true → x ≡ arm_chosen d (fixed d) arms) → Leaves d low x e → Leaves d low (Case at on arms) e
  leaves_case at on arms x e c f v = (v.0, λ marks k a. step e k (chooses c f) (v.1 marks k a))

  pub leaves_host : (at : Place) (f : ℕ) (ins : List Expr) (result : Option Lvalue) (outs : List Lvalue) → Leaves d low (Host at f ins result outs) Past
  leaves_host at f ins result outs = (tt, λ marks k a. walk.then calls stays)

  pub leaves_passed : (at : Place) (m : ℕ) → below_mark m low ≡ None → Leaves d low (Disable at m) Past
  leaves_passed at m i = (tt, λ marks k a. let x : (below_mark m k ≡ None) × (Contains marks m → ⊥) = a m i in walk.then (passes x.0 x.1) stays)

  pub leaves_disabled : (at : Place) (m : ℕ) → (below_mark m low ≡ None → ⊥) → Leaves d low (Disable at m) (Away m)
  leaves_disabled at m o = (o, λ marks k a. (at, k, stays, refl))

  pub leaves_enable : (at : Place) (t : ℕ) (ins : List Expr) (outs : List Lvalue) (task : FlatTask) → slice_get d.tasks t ≡ Some task → Leaves d (Return at task.mark [] ∷ low) task.body Past → Leaves d low (Enable at t ins outs) Past
  leaves_enable at t ins outs task i v = (tt, λ marks k a. step Past k (enables i) (walk_on (v.1 marks (Return at task.mark [] ∷ k) (agrees_return at task.mark marks k a)) (walk.then returns stays)))

  pub leaves_task : (at : Place) (t n : ℕ) (ins : List Expr) (outs : List Lvalue) (task : FlatTask) → slice_get d.tasks t ≡ Some task → (task.mark == n) ≡ true → Leaves d (Return at task.mark [] ∷ low) task.body (Away n) →
      Leaves d low (Enable at t ins outs) Past
  leaves_task at t n ins outs task i b v = (tt, λ marks k a. step Past k (enables i) (ended n (Return at task.mark [] ∷ k) k (ap (λ c. if c then Some k else below_mark n k) b) (v.1 marks (Return at task.mark [] ∷ k) (agrees_return at task.mark marks k a))))

  pub leaves_enabled : (at : Place) (t n : ℕ) (ins : List Expr) (outs : List Lvalue) (task : FlatTask) → slice_get d.tasks t ≡ Some task → (task.mark == n) ≡ false → Leaves d (Return at task.mark [] ∷ low) task.body (Away n) →
      Leaves d low (Enable at t ins outs) (Away n)
  leaves_enabled at t n ins outs task i b v = ((λ e. v.0 (ap (λ c. if c then Some low else below_mark n low) b ∙ e)), λ marks k a. step (Away n) k (enables i) (alike n (Return at task.mark [] ∷ k) k (ap (λ c. if c then Some k else below_mark n k) b) (v.1 marks (Return at task.mark [] ∷ k) (agrees_return at task.mark marks k a))))

  -- ---- loops

  pub leaves_forever : (at : Place) (body : Statement) (m : ℕ) → Leaves d low body (Away m) → Leaves d low (Forever at body) (Away m)
  leaves_forever at body m v = (v.0, λ marks k a. step (Away m) k (quietly refl) (alike m (Do (Forever at body) ∷ k) k refl (v.1 marks (Do (Forever at body) ∷ k) a)))

  -- so many turns of a body, each of which may be walked through
  turns_walked : (at : Place) (body : Statement) (n : ℕ) → ((n ≡ 0) ⊎ Leaves d low body Past) → (marks : List ℕ) (k : List Work) → Agrees low marks k → Walks d marks (turn at n body k) k
  turns_walked at body zero v marks k a = stays
  turns_walked at body (suc n) (inl z) marks k a = absurd (omega (arith, z))
  turns_walked at body (suc n) (inr v) marks k a = walk_on (v.1 marks (Turns at n body ∷ k) a) (walk.then takes_turn (turns_walked at body n (inr v) marks k a))

  -- a loop of so many turns is left past its end where it takes none, or where its body may be walked through
  pub leaves_turns : (at : Place) (s body : Statement) (n : ℕ) → body_of s ≡ Some body → HasTurns d s n → ((n ≡ 0) ⊎ Leaves d low body Past) → Leaves d low s Past
  leaves_turns at s body n b h v = (tt, λ marks k a. walk.then (begins_turns at b h) (turns_walked at body n v marks k a))

  -- and by a `disable` in its first turn
  pub leaves_turn : (at : Place) (s body : Statement) (n m : ℕ) → body_of s ≡ Some body → HasTurns d s (suc n) → Leaves d low body (Away m) → Leaves d low s (Away m)
  leaves_turn at s body n m b h v = (v.0, λ marks k a. step (Away m) k (begins_turns at b h) (alike m (Turns at n body ∷ k) k refl (v.1 marks (Turns at n body ∷ k) a)))

  pub leaves_endless_for : (s body : Statement) (m : ℕ) → body_of s ≡ Some body → IsEndlessFor d s → Leaves d low body (Away m) → Leaves d low s (Away m)
  leaves_endless_for s body m b h v = (v.0, λ marks k a. step (Away m) k (goes_on_for b h) (alike m (Do s ∷ k) k refl (v.1 marks (Do s ∷ k) a)))

  pub leaves_endless_while : (s body : Statement) (m : ℕ) → body_of s ≡ Some body → IsEndlessWhile d s → Leaves d low body (Away m) → Leaves d low s (Away m)
  leaves_endless_while s body m b h v = (v.0, λ marks k a. step (Away m) k (goes_on_while b h) (alike m (Do s ∷ k) k refl (v.1 marks (Do s ∷ k) a)))

  pub leaves_free : (s body : Statement) → IsFreeLoop d s body → MayTurn d s false → ((k : List Work) → quiet_step (Do s ∷ k) ≡ None) → Leaves d low s Past
  leaves_free s body f g q = (tt, λ marks k a. walk.then (takes_none f g (q k)) stays)

  pub leaves_free_turn : (s body : Statement) (m : ℕ) → IsFreeLoop d s body → MayTurn d s true → ((k : List Work) → quiet_step (Do s ∷ k) ≡ None) → Leaves d low body (Away m) → Leaves d low s (Away m)
  leaves_free_turn s body m f g q v = (v.0, λ marks k a. step (Away m) k (takes_one f g (q k)) (alike m (Do s ∷ k) k refl (v.1 marks (Do s ∷ k) a)))
