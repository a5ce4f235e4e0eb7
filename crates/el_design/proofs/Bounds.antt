-- A loop of constant bound takes so many turns, or never ends.
use Rattle.std.proofs.Common.{◌≡◌, ◌⊎◌, inl, inr, ℕ, zero, suc, ◌<◌, ◌≤◌, Bool, true, false, refl, subst, arith}
use Rattle.xt_base.specs.declared.refusals.Place.{Place}
use Rattle.el_design.specs.Plain.{Expr, Statement, For, Flat}
use Rattle.el_design.specs.Turns.{goes_on, IsCounted, HasBound, bound_repeat, bound_while, bound_for, HasTurns, of_repeat, of_while, of_for, IsEndlessFor, endless_for}

-- what can't but hold
abbrev pub Surely : Type 0 → Type 0
Surely P = (P → ⊥) → ⊥

pub sure : {P : Type 0} → P → Surely P
sure p n = n p

pub surely : {P Q : Type 0} → Surely P → (P → Surely Q) → Surely Q
surely s f n = s (λ p. f p n)

-- a thing holds or doesn't
pub either : {P Q : Type 0} → (P → Surely Q) → ((P → ⊥) → Surely Q) → Surely Q
either f g n = g (λ p. f p n) n

-- the loop takes so many turns, or is an endless `for`
abbrev pub IsConstantLoop : Flat → Statement → Type 0
IsConstantLoop d s = ((n : ℕ) × HasTurns d s n) ⊎ IsEndlessFor d s

pub split : (k n : ℕ) → (k ≤ n) ⊎ (n < k)
split zero n = inl (omega arith)
split (suc k) zero = inr (omega arith)
split (suc k) (suc n) = go (split k n)
  where
    go : (k ≤ n) ⊎ (n < k) → (suc k ≤ suc n) ⊎ (suc n < suc k)
    go (inl h) = inl (omega arith)
    go (inr h) = inr (omega arith)

module _ (d : Flat) where
  upto : (at : Place) (v : ℕ) (first test next : Expr) (body : Statement) → IsCounted d v first test next body → (IsConstantLoop d (For at v first test next body) → ⊥) →
      (n k : ℕ) → k < n → goes_on d v first test next k ≡ true
  upto at v first test next body c none_is zero k h = absurd (omega arith)
  upto at v first test next body c none_is (suc n) k h = go (split n k) (upto at v first test next body c none_is n)
    where
      here : ((k : ℕ) → k < n → goes_on d v first test next k ≡ true) → (b : Bool) → goes_on d v first test next n ≡ b → goes_on d v first test next n ≡ true
      here f true e = e
      here f false e = absurd (none_is (inl (n, of_for c f e)))

      go : (n ≤ k) ⊎ (k < n) → ((k : ℕ) → k < n → goes_on d v first test next k ≡ true) → goes_on d v first test next k ≡ true
      go (inr l) f = f k l
      go (inl l) f = let e : n ≡ k = omega arith in subst (λ j. goes_on d v first test next j ≡ true) e (here f (goes_on d v first test next n) refl)

  -- a counted `for` takes so many turns, or never ends
  pub constant_for : (at : Place) (v : ℕ) (first test next : Expr) (body : Statement) → IsCounted d v first test next body → Surely (IsConstantLoop d (For at v first test next body))
  constant_for at v first test next body c none_is = none_is (inr (endless_for c (λ k. upto at v first test next body c none_is (suc k) k (omega arith))))

  -- and so does each loop of constant bound
  pub bound_turns : {s : Statement} → HasBound d s → Surely (IsConstantLoop d s)
  bound_turns (bound_repeat c) = sure (inl (_, of_repeat c))
  bound_turns (bound_while c h) = sure (inl (0, of_while c h))
  bound_turns (bound_for {at = at} {v = v} {first = first} {test = test} {next = next} {body = body} c) = constant_for at v first test next body c

  turns_bound : {s : Statement} {n : ℕ} → HasTurns d s n → HasBound d s
  turns_bound (of_repeat c) = bound_repeat c
  turns_bound (of_while c h) = bound_while c h
  turns_bound (of_for c f g) = bound_for c

  endless_bound : {s : Statement} → IsEndlessFor d s → HasBound d s
  endless_bound (endless_for c f) = bound_for c

  -- a loop that takes so many turns, or is an endless `for`, is of constant bound
  pub has_bound : {s : Statement} → IsConstantLoop d s → HasBound d s
  has_bound (inl t) = turns_bound t.1
  has_bound (inr t) = endless_bound t

  pub no_bound_of : {s : Statement} → (IsConstantLoop d s → ⊥) → HasBound d s → ⊥
  no_bound_of n b = bound_turns b n
