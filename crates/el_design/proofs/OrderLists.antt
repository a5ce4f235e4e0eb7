-- Elements of lists.
use Rattle.std.proofs.Common.{◌≡◌, ◌⊎◌, inl, inr, zero, suc, ◌<◌, Bool, true, List, [], ◌∷◌, Contains, Option, Some, None, refl, sym, ◌∙◌, ap, subst, arith}
use Rattle.std.specs.List.{list_all, filter_map}
use Rattle.std.proofs.lemmas.List.Elements.{Contains-append_left, Contains-append_right, Contains-append_cases, Contains-push, All-contains}
use Rattle.std.proofs.lemmas.List.Sums.{AllPass-from_list_all}

pub con_nil : {X : Type 0} (x : X) → Contains [] x → ⊥
con_nil x c = let h : c.0 < 0 = c.1 in omega arith

pub con_head : {X : Type 0} (x : X) (xs : List X) → Contains (x ∷ xs) x
con_head x xs = Contains-append_left (x ∷ []) xs x (Contains-push [] x)

pub con_tail : {X : Type 0} (y x : X) (xs : List X) → Contains xs x → Contains (y ∷ xs) x
con_tail y x xs c = Contains-append_right (y ∷ []) xs x c

pub con_cases : {X : Type 0} (y x : X) (xs : List X) → Contains (y ∷ xs) x → (y ≡ x) ⊎ Contains xs x
con_cases y x xs c = go (Contains-append_cases (y ∷ []) xs x c)
  where
    only : Contains (y ∷ []) x → (y ≡ x)
    only c = choose (Contains-append_cases [] (y ∷ []) x c)
      where
        choose : Contains [] x ⊎ Contains (y ∷ []) x → y ≡ x
        choose (inl n) = absurd (con_nil x n)
        choose (inr (zero, h, e)) = e
        choose (inr (suc k, h, e)) = absurd (omega arith)

    go : Contains (y ∷ []) x ⊎ Contains xs x → (y ≡ x) ⊎ Contains xs x
    go (inl c) = inl (only c)
    go (inr c) = inr c

-- each element passes
pub con_all : {X : Type 0} (p : X → Bool) (xs : List X) (x : X) → list_all p xs ≡ true → Contains xs x → p x ≡ true
con_all p xs x h c = All-contains (λ y. p y ≡ true) xs x (AllPass-from_list_all p xs h) c

pub some_is : {X : Type 0} (a b : X) → Some a ≡ Some b → a ≡ b
some_is a b e = cc

pub con_mapped : {X Y : Type 0} (h : X → Option Y) (xs : List X) (x : X) (y : Y) → Contains xs x → h x ≡ Some y → Contains (filter_map h xs) y
con_mapped h [] x y c e = absurd (con_nil x c)
con_mapped h (z ∷ xs) x y c e = go (con_cases z x xs c) (λ k. con_mapped h xs x y k e) (h z) refl
  where
    go : (z ≡ x) ⊎ Contains xs x → (Contains xs x → Contains (filter_map h xs) y) → (o : Option _) → h z ≡ o → Contains (filter_map h (z ∷ xs)) y
    go (inl i) more None is = absurd (let f : Some y ≡ None = sym e ∙ ap h (sym i) ∙ is in cc)
    go (inl i) more (Some w) is = rw is (subst (λ v. Contains (v ∷ filter_map h xs) y) (some_is y w (sym e ∙ ap h (sym i) ∙ is)) (con_head y (filter_map h xs)))
    go (inr k) more None is = rw is (more k)
    go (inr k) more (Some w) is = rw is (con_tail w y (filter_map h xs) (more k))
