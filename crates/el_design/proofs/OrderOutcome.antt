-- What is said of an outcome, put together by the structure of statements; and where a stack waits inside a statement.
use Rattle.std.proofs.Common.{◌≡◌, ◌⊎◌, inl, inr, ℕ, zero, suc, ◌+◌, ◌*◌, ◌<◌, ◌≤◌, ◌==◌, Bool, true, false, if◌then◌else◌, List, [], ◌∷◌, Option, Some, None, Contains, slice_get, get_or, zip, map, length, refl, sym, ◌∙◌, ap, subst, arith, mul-le-mul, mul-suc, suc-mul, mul-add, le_refl}
use Rattle.xt_base.specs.declared.refusals.Place.{Place}
use Rattle.el_design.specs.Plain.{Expr, Lvalue, Statement, Seq, Block, If, Case, Arm, For, While, Repeat, Forever, Wait, Enable, FlatTask, Flat}
use Rattle.el_design.specs.Store.{Store, Write, put_all}
use Rattle.el_design.specs.Stack.{Work, Do, End, Return, Step, Turns}
use Rattle.el_design.specs.InPlace.{Stands}
use Rattle.el_design.specs.Turns.{stored_by, turned, goes_on, IsCounted, HasTurns}
use Rattle.el_design.specs.Alone.{Doing, Outcome, Falls, Stops, Jumps, Lost, and_then, closed, returned}
use Rattle.el_design.proofs.OrderWrites.{WritesIn, kept_all}
use Rattle.el_design.proofs.OrderRule.{shaped_all}

-- no statement that stands in a statement stores to the variable
abbrev pub FreeIn : Flat → List ℕ → Statement → ℕ → Type 0
FreeIn d marks s v = (o : List ℕ) (x : Statement) → Stands d.tasks marks s o x → Contains (stored_by d x) v → ⊥

-- these variables stay, and all keep their shape
pub record Kept (A : ℕ → Type 0) (x y : Doing) : Type 0 where
  pub words : (v : ℕ) → A v → get_or y.store v [] ≡ get_or x.store v []
  pub shape : map length y.store ≡ map length x.store

pub kept_store : (A : ℕ → Type 0) (x y : Doing) → y.store ≡ x.store → Kept A x y
kept_store A x y e = record { words = λ v a. ap (λ s. get_or s v []) e; shape = ap (map length) e }

pub kept_then : (A B C : ℕ → Type 0) (x y z : Doing) → ((v : ℕ) → A v → B v) → ((v : ℕ) → A v → C v) → Kept B x y → Kept C y z → Kept A x z
kept_then A B C x y z f g k l = record { words = λ v a. l.words v (g v a) ∙ k.words v (f v a); shape = l.shape ∙ k.shape }

pub kept_writes : (A W : ℕ → Type 0) (x y : Doing) (ws : List Write) → y.store ≡ put_all x.store ws → WritesIn W ws → ((v : ℕ) → A v → W v → ⊥) → Kept A x y
kept_writes A W x y ws e w n = record { words = λ v a. ap (λ s. get_or s v []) e ∙ kept_all W x.store ws v w (n v a); shape = ap (map length) e ∙ shaped_all x.store ws }

-- so many events, and what no statement in it stores to stays
pub record Fine (d : Flat) (marks : List ℕ) (s : Statement) (size : ℕ) (x y : Doing) : Type 0 where
  pub spent : y.events ≤ size + x.events
  pub kept : Kept (FreeIn d marks s) x y

-- ---- outcomes

abbrev pub Sane : (Option ℕ → Doing → Type 0) → (Doing → Type 0) → (List Work → Doing → Type 0) → Outcome → Type 0
Sane L F R (Falls y) = L None y × F y
Sane L F R (Stops l y) = R l y × F y
Sane L F R (Jumps m y) = L (Some m) y × F y
Sane L F R Lost = ⊥

module _ (L M : Option ℕ → Doing → Type 0) (F G : Doing → Type 0) (R S : List Work → Doing → Type 0) where
  pub sane_map : ((e : Option ℕ) (y : Doing) → L e y → F y → M e y) → ((y : Doing) → F y → G y) → ((l : List Work) (y : Doing) → R l y → F y → S l y) → (o : Outcome) → Sane L F R o → Sane M G S o
  sane_map f g h (Falls y) s = (f None y s.0 s.1, g y s.1)
  sane_map f g h (Stops l y) s = (h l y s.0 s.1, g y s.1)
  sane_map f g h (Jumps m y) s = (f (Some m) y s.0 s.1, g y s.1)
  sane_map f g h Lost s = s

  pub sane_then : (o : Outcome) (k : Doing → Outcome) → Sane L F R o → ((y : Doing) → L None y → F y → Sane M G S (k y)) →
      ((m : ℕ) (y : Doing) → L (Some m) y → F y → M (Some m) y) → ((y : Doing) → F y → G y) → ((l : List Work) (y : Doing) → R l y → F y → S l y) → Sane M G S (and_then o k)
  sane_then (Falls y) k s falls jumps fine rests = falls y s.0 s.1
  sane_then (Stops l y) k s falls jumps fine rests = (rests l y s.0 s.1, fine y s.1)
  sane_then (Jumps m y) k s falls jumps fine rests = (jumps m y s.0 s.1, fine y s.1)
  sane_then Lost k s falls jumps fine rests = s

  at_mark : (m n : ℕ) (b : Bool) (y : Doing) → (b ≡ true → M None y) → (b ≡ false → M (Some n) y) → G y → Sane M G S (if b then Falls y else Jumps n y)
  at_mark m n true y f g h = (f refl, h)
  at_mark m n false y f g h = (g refl, h)

  pub sane_closed : (m : ℕ) (o : Outcome) → Sane L F R o → ((y : Doing) → L None y → F y → M None y) →
      ((n : ℕ) (y : Doing) → (m == n) ≡ true → L (Some n) y → F y → M None y) → ((n : ℕ) (y : Doing) → (m == n) ≡ false → L (Some n) y → F y → M (Some n) y) →
      ((y : Doing) → F y → G y) → ((l : List Work) (y : Doing) → R l y → F y → S l y) → Sane M G S (closed m o)
  sane_closed m (Falls y) s falls ended jumps fine rests = (falls y s.0 s.1, fine y s.1)
  sane_closed m (Stops l y) s falls ended jumps fine rests = (rests l y s.0 s.1, fine y s.1)
  sane_closed m (Jumps n y) s falls ended jumps fine rests = at_mark m n (m == n) y (λ e. ended n y e s.0 s.1) (λ e. jumps n y e s.0 s.1) (fine y s.1)
  sane_closed m Lost s falls ended jumps fine rests = s

  pub sane_returned : (out : Doing → Doing) (m : ℕ) (o : Outcome) → Sane L F R o → ((y : Doing) → L None y → F y → M None (out y) × G (out y)) →
      ((n : ℕ) (y : Doing) → (m == n) ≡ true → L (Some n) y → F y → M None y) → ((n : ℕ) (y : Doing) → (m == n) ≡ false → L (Some n) y → F y → M (Some n) y) →
      ((y : Doing) → F y → G y) → ((l : List Work) (y : Doing) → R l y → F y → S l y) → Sane M G S (returned out m o)
  sane_returned out m (Falls y) s falls ended jumps fine rests = falls y s.0 s.1
  sane_returned out m (Stops l y) s falls ended jumps fine rests = (rests l y s.0 s.1, fine y s.1)
  sane_returned out m (Jumps n y) s falls ended jumps fine rests = at_mark m n (m == n) y (λ e. ended n y e s.0 s.1) (λ e. jumps n y e s.0 s.1) (fine y s.1)
  sane_returned out m Lost s falls ended jumps fine rests = s

-- ---- where a stack waits

-- in the body of a counted `for` at its turn j: the variable has this turn's value, and all tests so far hold
abbrev pub InTurn : Flat → Store → ℕ → Expr → Expr → Expr → Statement → ℕ → Type 0
InTurn d store v first test next body j =
    IsCounted d v first test next body → (get_or store v [] ≡ get_or (turned d v first next j) v []) × ((i : ℕ) → i ≤ j → goes_on d v first test next i ≡ true)

-- The stack below a wait that stands in a statement, above a stack, where these marks are open round the statement.
pub data Paused (d : Flat) (store : Store) : List ℕ → Statement → List Work → List Work → Type 0 where
  at_wait : {marks : List ℕ} {below : List Work} {at : Place} {falling : Bool} → Paused d store marks (Wait at falling) below below
  in_first : {marks : List ℕ} {below k : List Work} {a b : Statement} → Paused d store marks a (Do b ∷ below) k → Paused d store marks (Seq a b) below k
  in_rest : {marks : List ℕ} {below k : List Work} {a b : Statement} → Paused d store marks b below k → Paused d store marks (Seq a b) below k
  in_block : {marks : List ℕ} {below k : List Work} {at : Place} {body : Statement} → Paused d store marks body below k → Paused d store marks (Block at None body) below k
  in_named : {marks : List ℕ} {below k : List Work} {at : Place} {m : ℕ} {body : Statement} →
      Paused d store (m ∷ marks) body (End m ∷ below) k → Paused d store marks (Block at (Some m) body) below k
  in_then : {marks : List ℕ} {below k : List Work} {at : Place} {test : Expr} {a b : Statement} → Paused d store marks a below k → Paused d store marks (If at test a b) below k
  in_else : {marks : List ℕ} {below k : List Work} {at : Place} {test : Expr} {a b : Statement} → Paused d store marks b below k → Paused d store marks (If at test a b) below k
  in_case : {marks : List ℕ} {below k : List Work} {at : Place} {on : Expr} {arms : Statement} → Paused d store marks arms below k → Paused d store marks (Case at on arms) below k
  in_arm : {marks : List ℕ} {below k : List Work} {on : Expr} {labels : List Expr} {body others : Statement} →
      Paused d store marks body below k → Paused d store marks (Arm on labels body others) below k
  in_others : {marks : List ℕ} {below k : List Work} {on : Expr} {labels : List Expr} {body others : Statement} →
      Paused d store marks others below k → Paused d store marks (Arm on labels body others) below k
  in_for : {marks : List ℕ} {below k : List Work} {at : Place} {v : ℕ} {first test next : Expr} {body : Statement} (j : ℕ) →
      InTurn d store v first test next body j → Paused d store marks body (Step at v test next body ∷ below) k → Paused d store marks (For at v first test next body) below k
  in_while : {marks : List ℕ} {below k : List Work} {at : Place} {test : Expr} {body : Statement} →
      Paused d store marks body (Do (While at test body) ∷ below) k → Paused d store marks (While at test body) below k
  in_repeat : {marks : List ℕ} {below k : List Work} {at : Place} {count : Expr} {body : Statement} (left : ℕ) →
      ((n : ℕ) → HasTurns d (Repeat at count body) n → left < n) → Paused d store marks body (Turns at left body ∷ below) k → Paused d store marks (Repeat at count body) below k
  in_forever : {marks : List ℕ} {below k : List Work} {at : Place} {body : Statement} →
      Paused d store marks body (Do (Forever at body) ∷ below) k → Paused d store marks (Forever at body) below k
  in_task : {marks : List ℕ} {below k : List Work} {at : Place} {t : ℕ} {ins : List Expr} {outs : List Lvalue} {task : FlatTask} → slice_get d.tasks t ≡ Some task →
      Paused d store (task.mark ∷ marks) task.body (Return at task.mark (zip task.outs outs) ∷ below) k → Paused d store marks (Enable at t ins outs) below k

-- a stack that waits does so inside the statement
abbrev pub Rests : Flat → List ℕ → Statement → List Work → List Work → Doing → Type 0
Rests d marks s below l y = (at : Place) (falling : Bool) (k : List Work) → l ≡ Do (Wait at falling) ∷ k → Paused d y.store marks s below k

-- ---- sizes of loops

pub at_least : (t a : ℕ) → 1 ≤ t → a ≤ t * a
at_least t a h = let m : 1 * a ≤ t * a = mul-le-mul h (le_refl a) in let e : 1 * a ≡ a = Rattle.std.proofs.Common.one-mul a in omega arith

pub turns_fit : (t n a b : ℕ) → t ≤ n → a < b → 1 + suc t * a ≤ suc n * b
turns_fit t n a b h l =
    let m : suc t * a ≤ suc n * a = mul-le-mul (let g : suc t ≤ suc n = omega arith in g) (le_refl a) in
    let q : suc n * suc a ≤ suc n * b = mul-le-mul (le_refl (suc n)) l in
    let e : suc n * suc a ≡ suc n * a + suc n = mul-suc (suc n) a in
    omega arith
