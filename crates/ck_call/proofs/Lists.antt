-- Lists with nothing behind them, and what stands in a list after one place is set.
use Rattle.std.proofs.Common.{◌≡◌, ℕ, zero, suc, ◌<◌, List, [], ◌∷◌, ◌++◌, set, length, refl, ap, arith}
use Rattle.std.specs.Prelude.{slice_index_or}

pub nil_end : {X : Type 0} (xs : List X) → xs ++ [] ≡ xs
nil_end [] = refl
nil_end (x ∷ xs) = ap (λ l. x ∷ l) (nil_end xs)

pub set_length : {X : Type 0} (xs : List X) (i : ℕ) (x : X) → length (set xs i x) ≡ length xs
set_length [] i x = refl
set_length (y ∷ ys) zero x = refl
set_length (y ∷ ys) (suc i) x = ap suc (set_length ys i x)

pub at_set : {X : Type 0} (xs : List X) (i : ℕ) (x d : X) → i < length xs → slice_index_or (set xs i x) i d ≡ x
at_set [] i x d h = absurd (omega (arith, h))
at_set (y ∷ ys) zero x d h = refl
at_set (y ∷ ys) (suc i) x d h = at_set ys i x d (omega (arith, h))

pub at_other : {X : Type 0} (xs : List X) (i j : ℕ) (x d : X) → (j ≡ i → ⊥) → slice_index_or (set xs i x) j d ≡ slice_index_or xs j d
at_other [] i j x d n = refl
at_other (y ∷ ys) zero zero x d n = absurd (n refl)
at_other (y ∷ ys) zero (suc j) x d n = refl
at_other (y ∷ ys) (suc i) zero x d n = refl
at_other (y ∷ ys) (suc i) (suc j) x d n = at_other ys i j x d (λ e. n (ap suc e))
