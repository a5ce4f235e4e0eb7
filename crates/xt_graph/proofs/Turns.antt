-- The place of a number in a list.
use Rattle.std.proofs.Common.{◌≡◌, ◌⊎◌, inl, inr, ◌<◌, ◌≤◌, ◌==◌, ℕ, suc, Bool, true, false, cond, List, [], ◌∷◌, ◌++◌, length, Some, refl, sym, ◌∙◌, ap, arith}
use Rattle.std.specs.Prelude.{slice_get}
use Rattle.std.proofs.lemmas.Bool.{eqb-true, eqb-false, eq-eqb, cases_lt}
use Rattle.xt_graph.specs.inner.Finishing.{turn}
use Rattle.xt_graph.proofs.Lists.{In}

-- no two have one
pub turn_one : (ns : List ℕ) (a b : ℕ) → turn ns a ≡ turn ns b → a ≡ b
turn_one [] a b e = e
turn_one (x ∷ ns) a b e = go (turn_one ns a b) (x == a) (x == b) refl refl e
  where
    go : (turn ns a ≡ turn ns b → a ≡ b) → (p q : Bool) → (x == a) ≡ p → (x == b) ≡ q → cond p 0 (suc (turn ns a)) ≡ cond q 0 (suc (turn ns b)) → a ≡ b
    go more true true i j e = sym (eqb-true x a i) ∙ eqb-true x b j
    go more true false i j e = absurd (omega (arith, e))
    go more false true i j e = absurd (omega (arith, e))
    go more false false i j e = more (omega (arith, e))

pub turn_within : (ns : List ℕ) (n : ℕ) → In n ns → turn ns n < length ns
turn_within [] n h = elim h [ ]
turn_within (x ∷ ns) n h = go (turn_within ns n) (x == n) refl h
  where
    go : (In n ns → turn ns n < length ns) → (p : Bool) → (x == n) ≡ p → (n ≡ x) ⊎ In n ns → cond p 0 (suc (turn ns n)) < suc (length ns)
    go more true i h = omega arith
    go more false i (inl e) = absurd (eqb-false x n i (sym e))
    go more false i (inr h) = let l = more h in omega (arith, l)

pub within_turn : (ns : List ℕ) (n : ℕ) → turn ns n < length ns → In n ns
within_turn [] n h = absurd (omega arith)
within_turn (x ∷ ns) n h = go (within_turn ns n) (x == n) refl h
  where
    go : (turn ns n < length ns → In n ns) → (p : Bool) → (x == n) ≡ p → cond p 0 (suc (turn ns n)) < suc (length ns) → (n ≡ x) ⊎ In n ns
    go more true i h = inl (sym (eqb-true x n i))
    go more false i h = inr (more (omega (arith, h)))

-- what isn't in the list has a place past it
pub past_turn : (ns : List ℕ) (n : ℕ) → (In n ns → ⊥) → length ns ≤ turn ns n
past_turn ns n h = elim (cases_lt (turn ns n) (length ns)) [ inl l ↦ absurd (h (within_turn ns n l)) | inr l ↦ l ]

pub turn_got : (ns : List ℕ) (n : ℕ) → In n ns → slice_get ns (turn ns n) ≡ Some n
turn_got [] n h = elim h [ ]
turn_got (x ∷ ns) n h = go (turn_got ns n) (x == n) refl h
  where
    go : (In n ns → slice_get ns (turn ns n) ≡ Some n) → (p : Bool) → (x == n) ≡ p → (n ≡ x) ⊎ In n ns → slice_get (x ∷ ns) (cond p 0 (suc (turn ns n))) ≡ Some n
    go more true i h = ap Some (eqb-true x n i)
    go more false i (inl e) = absurd (eqb-false x n i (sym e))
    go more false i (inr h) = more h

-- ---- one more in the list

pub turn_kept : (ns : List ℕ) (v n : ℕ) → In n ns → turn (ns ++ v ∷ []) n ≡ turn ns n
turn_kept [] v n h = elim h [ ]
turn_kept (x ∷ ns) v n h = go (turn_kept ns v n) (x == n) refl h
  where
    go : (In n ns → turn (ns ++ v ∷ []) n ≡ turn ns n) → (p : Bool) → (x == n) ≡ p → (n ≡ x) ⊎ In n ns → cond p 0 (suc (turn (ns ++ v ∷ []) n)) ≡ cond p 0 (suc (turn ns n))
    go more true i h = refl
    go more false i (inl e) = absurd (eqb-false x n i (sym e))
    go more false i (inr h) = ap suc (more h)

pub turn_new : (ns : List ℕ) (v : ℕ) → (In v ns → ⊥) → turn (ns ++ v ∷ []) v ≡ length ns
turn_new [] v h = ap (λ b. cond b 0 (suc v)) (eq-eqb v v refl)
turn_new (x ∷ ns) v h = go (turn_new ns v (λ i. h (inr i))) (x == v) refl
  where
    go : turn (ns ++ v ∷ []) v ≡ length ns → (p : Bool) → (x == v) ≡ p → cond p 0 (suc (turn (ns ++ v ∷ []) v)) ≡ suc (length ns)
    go more true i = absurd (h (inl (sym (eqb-true x v i))))
    go more false i = ap suc more
