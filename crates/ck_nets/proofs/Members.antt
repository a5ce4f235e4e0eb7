-- What stands in a list, by recursion.
use Rattle.std.proofs.Common.{◌≡◌, ◌⊎◌, inl, inr, ◌<◌, ℕ, zero, suc, List, [], ◌∷◌, ◌++◌, length, get_or, Some, sym, arith}
use Rattle.std.specs.Prelude.{Contains, slice_get}

abbrev pub Mem : {X : Type 0} → X → List X → Type 0
Mem x [] = ⊥
Mem x (y ∷ ys) = (x ≡ y) ⊎ Mem x ys

at_mem : {X : Type 0} (x : X) (xs : List X) (k : ℕ) → k < length xs → get_or xs k x ≡ x → Mem x xs
at_mem x [] k h e = absurd (omega arith)
at_mem x (y ∷ ys) zero h e = inl (sym e)
at_mem x (y ∷ ys) (suc k) h e = inr (at_mem x ys k (omega arith) e)

pub contains_mem : {X : Type 0} (x : X) (xs : List X) → Contains xs x → Mem x xs
contains_mem x xs c = at_mem x xs c.0 c.1 c.2

pub mem_contains : {X : Type 0} (x : X) (xs : List X) → Mem x xs → Contains xs x
mem_contains x [] h = elim h [ ]
mem_contains x (y ∷ ys) (inl e) = (0, omega arith, sym e)
mem_contains x (y ∷ ys) (inr h) = let c = mem_contains x ys h in let l : c.0 < length ys = c.1 in (suc c.0, omega arith, c.2)

pub mem_left : {X : Type 0} (x : X) (xs ys : List X) → Mem x xs → Mem x (xs ++ ys)
mem_left x [] ys h = elim h [ ]
mem_left x (y ∷ xs) ys (inl e) = inl e
mem_left x (y ∷ xs) ys (inr h) = inr (mem_left x xs ys h)

pub mem_right : {X : Type 0} (x : X) (xs ys : List X) → Mem x ys → Mem x (xs ++ ys)
mem_right x [] ys h = h
mem_right x (y ∷ xs) ys h = inr (mem_right x xs ys h)

pub got_mem : {X : Type 0} (xs : List X) (k : ℕ) (x : X) → slice_get xs k ≡ Some x → Mem x xs
got_mem [] k x e = cc
got_mem (y ∷ ys) zero x e = inl (sym (cc e))
got_mem (y ∷ ys) (suc k) x e = inr (got_mem ys k x e)
