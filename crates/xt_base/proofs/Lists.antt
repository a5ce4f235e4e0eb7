-- What a list contains.
use Rattle.std.proofs.Common.{◌≡◌, ◌⊎◌, inl, inr, zero, suc, ◌<◌, List, [], ◌∷◌, Contains, arith}
use Rattle.std.proofs.lemmas.List.Elements.{Contains-append_left, Contains-append_right, Contains-append_cases, Contains-push}

pub contains_nothing : {X : Type 0} (x : X) → Contains [] x → ⊥
contains_nothing x c = let h : c.0 < 0 = c.1 in omega arith

pub contains_head : {X : Type 0} (x : X) (xs : List X) → Contains (x ∷ xs) x
contains_head x xs = Contains-append_left (x ∷ []) xs x (Contains-push [] x)

pub contains_tail : {X : Type 0} (y x : X) (xs : List X) → Contains xs x → Contains (y ∷ xs) x
contains_tail y x xs c = Contains-append_right (y ∷ []) xs x c

pub contains_cases : {X : Type 0} (y x : X) (xs : List X) → Contains (y ∷ xs) x → (y ≡ x) ⊎ Contains xs x
contains_cases y x xs c = go (Contains-append_cases (y ∷ []) xs x c)
  where
    only : Contains (y ∷ []) x → (y ≡ x)
    only c = choose (Contains-append_cases [] (y ∷ []) x c)
      where
        choose : Contains [] x ⊎ Contains (y ∷ []) x → y ≡ x
        choose (inl n) = absurd (contains_nothing x n)
        choose (inr (zero, h, e)) = e
        choose (inr (suc k, h, e)) = absurd (omega arith)

    go : Contains (y ∷ []) x ⊎ Contains xs x → (y ≡ x) ⊎ Contains xs x
    go (inl c) = inl (only c)
    go (inr c) = inr c
