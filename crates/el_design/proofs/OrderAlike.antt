-- What a statement comes to depends on the stack below it only by the marks that are open there.
use Rattle.std.proofs.Common.{◌≡◌, ℕ, zero, suc, ◌==◌, Bool, true, false, if◌then◌else◌, List, [], ◌∷◌, Option, Some, None, is_some, zip, slice_get, refl, ap, subst}
use Rattle.xt_base.specs.declared.refusals.Place.{Place}
use Rattle.xt_bits.specs.Word.{Word}
use Rattle.xt_bits.specs.Stimulus.{Reply}
use Rattle.el_design.specs.Plain.{Expr, Lvalue, Statement, Null, Skip, Seq, Block, Assign, If, Case, Arm, For, While, Repeat, Forever, Wait, Enable, Disable, Host, FlatTask, Flat}
use Rattle.el_design.specs.Assign.{has_label, count_of}
use Rattle.el_design.specs.Stack.{Work, Do, End, Return, Step, Turns, below_mark}
use Rattle.el_design.specs.Alone.{Doing, Outcome, Falls, Stops, Jumps, Lost, Setting, seen, counted, stepped, asking, is_tested, and_then, closed, returned, loop, turns_of, enabling, disabling, awaiting, go, setting}

-- the same marks are open
abbrev pub SameMarks : List Work → List Work → Type 0
SameMarks a b = (m : ℕ) → is_some (below_mark m a) ≡ is_some (below_mark m b)

-- the same outcome, but for the stack
abbrev pub Alike : Outcome → Outcome → Type 0
Alike (Falls y) (Falls z) = y ≡ z
Alike (Falls y) (Stops l z) = ⊥
Alike (Falls y) (Jumps m z) = ⊥
Alike (Falls y) Lost = ⊥
Alike (Stops l y) (Falls z) = ⊥
Alike (Stops l y) (Stops k z) = y ≡ z
Alike (Stops l y) (Jumps m z) = ⊥
Alike (Stops l y) Lost = ⊥
Alike (Jumps m y) (Falls z) = ⊥
Alike (Jumps m y) (Stops l z) = ⊥
Alike (Jumps m y) (Jumps n z) = (m ≡ n) × (y ≡ z)
Alike (Jumps m y) Lost = ⊥
Alike Lost (Falls z) = ⊥
Alike Lost (Stops l z) = ⊥
Alike Lost (Jumps m z) = ⊥
Alike Lost Lost = Unit {0}

alike_then : (o p : Outcome) (f g : Doing → Outcome) → Alike o p → ((y : Doing) → Alike (f y) (g y)) → Alike (and_then o f) (and_then p g)
alike_then (Falls y) (Falls z) f g a h = subst (λ w. Alike (f y) (g w)) a (h y)
alike_then (Falls y) (Stops l z) f g a h = absurd a
alike_then (Falls y) (Jumps m z) f g a h = absurd a
alike_then (Falls y) Lost f g a h = absurd a
alike_then (Stops l y) (Falls z) f g a h = absurd a
alike_then (Stops l y) (Stops k z) f g a h = a
alike_then (Stops l y) (Jumps m z) f g a h = absurd a
alike_then (Stops l y) Lost f g a h = absurd a
alike_then (Jumps m y) (Falls z) f g a h = absurd a
alike_then (Jumps m y) (Stops l z) f g a h = absurd a
alike_then (Jumps m y) (Jumps n z) f g a h = a
alike_then (Jumps m y) Lost f g a h = absurd a
alike_then Lost (Falls z) f g a h = absurd a
alike_then Lost (Stops l z) f g a h = absurd a
alike_then Lost (Jumps m z) f g a h = absurd a
alike_then Lost Lost f g a h = tt

pub alike_itself : (o : Outcome) → Alike o o
alike_itself (Falls y) = refl
alike_itself (Stops l y) = refl
alike_itself (Jumps m y) = (refl, refl)
alike_itself Lost = tt

jumped : (m n k : ℕ) (y z : Doing) → n ≡ k → y ≡ z → Alike (if m == n then Falls y else Jumps n y) (if m == k then Falls z else Jumps k z)
jumped m n k y z e f = subst (λ k. Alike (if m == n then Falls y else Jumps n y) (if m == k then Falls z else Jumps k z)) e
    (subst (λ z. Alike (if m == n then Falls y else Jumps n y) (if m == n then Falls z else Jumps n z)) f (alike_itself (if m == n then Falls y else Jumps n y)))

alike_closed : (m : ℕ) (o p : Outcome) → Alike o p → Alike (closed m o) (closed m p)
alike_closed m (Falls y) (Falls z) a = a
alike_closed m (Falls y) (Stops l z) a = absurd a
alike_closed m (Falls y) (Jumps n z) a = absurd a
alike_closed m (Falls y) Lost a = absurd a
alike_closed m (Stops l y) (Falls z) a = absurd a
alike_closed m (Stops l y) (Stops k z) a = a
alike_closed m (Stops l y) (Jumps n z) a = absurd a
alike_closed m (Stops l y) Lost a = absurd a
alike_closed m (Jumps n y) (Falls z) a = absurd a
alike_closed m (Jumps n y) (Stops l z) a = absurd a
alike_closed m (Jumps n y) (Jumps k z) a = jumped m n k y z a.0 a.1
alike_closed m (Jumps n y) Lost a = absurd a
alike_closed m Lost (Falls z) a = absurd a
alike_closed m Lost (Stops l z) a = absurd a
alike_closed m Lost (Jumps n z) a = absurd a
alike_closed m Lost Lost a = tt

alike_returned : (out : Doing → Doing) (m : ℕ) (o p : Outcome) → Alike o p → Alike (returned out m o) (returned out m p)
alike_returned out m (Falls y) (Falls z) a = ap out a
alike_returned out m (Falls y) (Stops l z) a = absurd a
alike_returned out m (Falls y) (Jumps n z) a = absurd a
alike_returned out m (Falls y) Lost a = absurd a
alike_returned out m (Stops l y) (Falls z) a = absurd a
alike_returned out m (Stops l y) (Stops k z) a = a
alike_returned out m (Stops l y) (Jumps n z) a = absurd a
alike_returned out m (Stops l y) Lost a = absurd a
alike_returned out m (Jumps n y) (Falls z) a = absurd a
alike_returned out m (Jumps n y) (Stops l z) a = absurd a
alike_returned out m (Jumps n y) (Jumps k z) a = jumped m n k y z a.0 a.1
alike_returned out m (Jumps n y) Lost a = absurd a
alike_returned out m Lost (Falls z) a = absurd a
alike_returned out m Lost (Stops l z) a = absurd a
alike_returned out m Lost (Jumps n z) a = absurd a
alike_returned out m Lost Lost a = tt

alike_if : (t : Bool) (o p q r : Outcome) → Alike o q → Alike p r → Alike (if t then o else p) (if t then q else r)
alike_if true o p q r a b = a
alike_if false o p q r a b = b

alike_loop : (n : ℕ) (test : Doing → Bool) (f g : Doing → Outcome) → ((y : Doing) → Alike (f y) (g y)) → (x : Doing) → Alike (loop n test f x) (loop n test g x)
alike_loop zero test f g h x = tt
alike_loop (suc n) test f g h x =
    alike_if (test x) (and_then (f (counted x)) (loop n test f)) (Falls (counted x)) (and_then (g (counted x)) (loop n test g)) (Falls (counted x))
    (alike_then (f (counted x)) (g (counted x)) (loop n test f) (loop n test g) (h (counted x)) (alike_loop n test f g h)) refl

alike_turns : (n : ℕ) (f g : ℕ → Doing → Outcome) → ((m : ℕ) (y : Doing) → Alike (f m y) (g m y)) → (x : Doing) → Alike (turns_of n f x) (turns_of n g x)
alike_turns zero f g h x = refl
alike_turns (suc n) f g h x = alike_then (f n x) (g n x) (λ y. turns_of n f (counted y)) (λ y. turns_of n g (counted y)) (h n x) (λ y. alike_turns n f g h (counted y))

abbrev pub AlikeTasks : Setting → Type 0
AlikeTasks c = (t : FlatTask) (a b : List Work) (x : Doing) → SameMarks a b → Alike (c.enabled t a x) (c.enabled t b x)

same_end : (m : ℕ) (a b : List Work) → SameMarks a b → SameMarks (End m ∷ a) (End m ∷ b)
same_end m a b s n = go (m == n)
  where
    go : (t : Bool) → is_some (if t then Some a else below_mark n a) ≡ is_some (if t then Some b else below_mark n b)
    go true = refl
    go false = s n

same_return : (at : Place) (m : ℕ) (outs : List (ℕ × Lvalue)) (a b : List Work) → SameMarks a b → SameMarks (Return at m outs ∷ a) (Return at m outs ∷ b)
same_return at m outs a b s n = go (m == n)
  where
    go : (t : Bool) → is_some (if t then Some a else below_mark n a) ≡ is_some (if t then Some b else below_mark n b)
    go true = refl
    go false = s n

alike_enable : (c : Setting) → AlikeTasks c → (at : Place) (ins : List Expr) (outs : List Lvalue) (a b : List Work) (x : Doing) → SameMarks a b → (o : Option FlatTask) → Alike (enabling c at ins outs a x o) (enabling c at ins outs b x o)
alike_enable c h at ins outs a b x s None = refl
alike_enable c h at ins outs a b x s (Some t) =
    alike_returned _ t.mark _ _ (h t (Return at t.mark (zip t.outs outs) ∷ a) (Return at t.mark (zip t.outs outs) ∷ b) _ (same_return at t.mark (zip t.outs outs) a b s))

alike_disable : (m : ℕ) (x : Doing) (o p : Option (List Work)) → is_some o ≡ is_some p → Alike (disabling m x o) (disabling m x p)
alike_disable m x None None e = refl
alike_disable m x None (Some k) e = absurd (let f : false ≡ true = e in cc)
alike_disable m x (Some k) None e = absurd (let f : true ≡ false = e in cc)
alike_disable m x (Some k) (Some l) e = (refl, refl)

alike_await : (c : Setting) (at : Place) (f : ℕ) (result : Option Lvalue) (outs : List Lvalue) (a b : List Work) (x : Doing) (rs : List Reply) → Alike (awaiting c at f result outs a x rs) (awaiting c at f result outs b x rs)
alike_await c at f result outs a b x [] = refl
alike_await c at f result outs a b x (r ∷ rs) = refl

pub alike : (c : Setting) → AlikeTasks c → (chosen : Bool) (s : Statement) (a b : List Work) (x : Doing) → SameMarks a b → Alike (go c chosen s a x) (go c chosen s b x)
alike c h chosen Null a b x m = refl
alike c h chosen Skip a b x m = refl
alike c h chosen (Seq u v) a b x m = alike_then (go c false u (Do v ∷ a) x) (go c false u (Do v ∷ b) x) (go c false v a) (go c false v b) (alike c h false u (Do v ∷ a) (Do v ∷ b) x (λ n. m n)) (λ y. alike c h false v a b y m)
alike c h chosen (Block at None body) a b x m = alike c h false body a b x m
alike c h chosen (Block at (Some n) body) a b x m = alike_closed n (go c false body (End n ∷ a) x) (go c false body (End n ∷ b) x) (alike c h false body (End n ∷ a) (End n ∷ b) x (same_end n a b m))
alike c h chosen (Assign at to e held) a b x m = refl
alike c h chosen (If at test u v) a b x m =
    alike_if (is_tested c test x) (go c false u a (counted x)) (go c false v a (counted x)) (go c false u b (counted x)) (go c false v b (counted x)) (alike c h false u a b (counted x) m) (alike c h false v a b (counted x) m)
alike c h chosen (Case at on arms) a b x m = alike c h true arms a b (counted x) m
alike c h true (Arm on labels body others) a b x m =
    alike_if (has_label c.design (seen c x) on labels) (go c false body a x) (go c true others a x) (go c false body b x) (go c true others b x) (alike c h false body a b x m) (alike c h true others a b x m)
alike c h false (Arm on labels body others) a b x m = refl
alike c h chosen (For at v first test next body) a b x m =
    alike_loop c.turns (is_tested c test) _ _
    (λ y. alike_then (go c false body (Step at v test next body ∷ a) y) (go c false body (Step at v test next body ∷ b) y) (λ z. Falls (stepped c v next z)) (λ z. Falls (stepped c v next z)) (alike c h false body (Step at v test next body ∷ a) (Step at v test next body ∷ b) y (λ n. m n)) (λ z. refl))
    (stepped c v first x)
alike c h chosen (While at test body) a b x m = alike_loop c.turns (is_tested c test) _ _ (λ y. alike c h false body (Do (While at test body) ∷ a) (Do (While at test body) ∷ b) y (λ n. m n)) x
alike c h chosen (Repeat at count body) a b x m = alike_turns (count_of c.design (seen c x) count) _ _ (λ n y. alike c h false body (Turns at n body ∷ a) (Turns at n body ∷ b) y (λ n. m n)) (counted x)
alike c h chosen (Forever at body) a b x m =
    alike_then (go c false body (Do (Forever at body) ∷ a) x) (go c false body (Do (Forever at body) ∷ b) x) (λ y. Lost) (λ y. Lost) (alike c h false body (Do (Forever at body) ∷ a) (Do (Forever at body) ∷ b) x (λ n. m n)) (λ y. tt)
alike c h chosen (Wait at falling) a b x m = refl
alike c h chosen (Enable at t ins outs) a b x m = alike_enable c h at ins outs a b x m (slice_get c.design.tasks t)
alike c h chosen (Disable at n) a b x m = alike_disable n x (below_mark n a) (below_mark n b) (m n)
alike c h chosen (Host at f ins result outs) a b x m = alike_await c at f result outs a b (asking c f ins x) x.replies

pub alike_tasks : (d : Flat) (nets : List Word) (turns n : ℕ) → AlikeTasks (setting d nets turns n)
alike_tasks d nets turns zero t a b x m = tt
alike_tasks d nets turns (suc n) t a b x m = alike (setting d nets turns n) (alike_tasks d nets turns n) false t.body a b x m
