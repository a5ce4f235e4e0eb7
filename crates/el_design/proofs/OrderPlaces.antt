-- What stands at the places of a list, and after one is set.
use Rattle.std.proofs.Common.{◌≡◌, ◌⊎◌, inl, inr, ℕ, zero, suc, ◌<◌, ◌≤◌, ⊎_elim, Bool, true, false, ◌||◌, List, [], ◌∷◌, ◌++◌, map, length, set, slice_get, flat_map, Contains, Option, Some, None, refl, sym, ◌∙◌, ap, subst, arith}
use Rattle.std.specs.List.{list_any}
use Rattle.std.proofs.lemmas.Bool.{cases_eq}
use Rattle.std.proofs.lemmas.List.Folds.{list_any_at}
use Rattle.std.proofs.lemmas.Option.{slice_get-get_or, slice_get_within, get_or_from_slice_get}
use Rattle.std.proofs.lemmas.List.Elements.{Contains-get_or, Contains-append_left, Contains-append_right}
use Rattle.el_design.proofs.OrderLists.{con_head, con_tail, con_nil, con_cases}

-- what stands at a place is of the list, and what is of it stands at one
pub con_got : {X : Type 0} (xs : List X) (i : ℕ) (x : X) → slice_get xs i ≡ Some x → Contains xs x
con_got xs i x h = subst (Contains xs) (get_or_from_slice_get xs i x x h) (Contains-get_or xs i x (slice_get_within xs i x h))

pub got_con : {X : Type 0} (xs : List X) (x : X) → Contains xs x → (i : ℕ) × (slice_get xs i ≡ Some x)
got_con xs x c = (c.0, slice_get-get_or xs c.0 x c.1 ∙ ap Some c.2)

pub con_map : {X Y : Type 0} (f : X → Y) (xs : List X) (x : X) → Contains xs x → Contains (map f xs) (f x)
con_map f [] x c = absurd (con_nil x c)
con_map f (y ∷ ys) x c = go (con_cases y x ys c) (con_map f ys x)
  where
    go : (y ≡ x) ⊎ Contains ys x → (Contains ys x → Contains (map f ys) (f x)) → Contains (map f (y ∷ ys)) (f x)
    go (inl e) more = subst (λ z. Contains (f y ∷ map f ys) (f z)) e (con_head (f y) (map f ys))
    go (inr d) more = con_tail (f y) (f x) (map f ys) (more d)

pub con_flat : {X Y : Type 0} (f : X → List Y) (xs : List X) (x : X) (y : Y) → Contains xs x → Contains (f x) y → Contains (flat_map f xs) y
con_flat f [] x y c h = absurd (con_nil x c)
con_flat f (z ∷ zs) x y c h = go (con_cases z x zs c) (λ d. con_flat f zs x y d h)
  where
    go : (z ≡ x) ⊎ Contains zs x → (Contains zs x → Contains (flat_map f zs) y) → Contains (flat_map f (z ∷ zs)) y
    go (inl e) more = Contains-append_left (f z) (flat_map f zs) y (subst (λ w. Contains (f w) y) (sym e) h)
    go (inr d) more = Contains-append_right (f z) (flat_map f zs) y (more d)

pub got_one : {X : Type 0} (o : Option X) (x y : X) → o ≡ Some x → o ≡ Some y → x ≡ y
got_one o x y h k = let e : Some x ≡ Some y = sym h ∙ k in cc

pub set_got : {X : Type 0} (xs : List X) (i : ℕ) (y : X) → i < length xs → slice_get (set xs i y) i ≡ Some y
set_got [] i y h = absurd (omega arith)
set_got (x ∷ xs) zero y h = refl
set_got (x ∷ xs) (suc i) y h = set_got xs i y (omega arith)

pub set_other : {X : Type 0} (xs : List X) (i j : ℕ) (y : X) → (j ≡ i → ⊥) → slice_get (set xs i y) j ≡ slice_get xs j
set_other [] i j y h = refl
set_other (x ∷ xs) zero zero y h = absurd (h refl)
set_other (x ∷ xs) zero (suc j) y h = refl
set_other (x ∷ xs) (suc i) zero y h = refl
set_other (x ∷ xs) (suc i) (suc j) y h = set_other xs i j y (λ e. h (ap suc e))

pub got_below : {X : Type 0} (xs : List X) (i : ℕ) → i < length xs → (x : X) × (slice_get xs i ≡ Some x)
got_below [] i h = absurd (omega arith)
got_below (x ∷ xs) zero h = (x, refl)
got_below (x ∷ xs) (suc i) h = got_below xs i (omega arith)

pub got_past : {X : Type 0} (xs : List X) (i : ℕ) → slice_get xs i ≡ None → length xs ≤ i
got_past [] i h = omega arith
got_past (x ∷ xs) zero h = cc
got_past (x ∷ xs) (suc i) h = let n : length xs ≤ i = got_past xs i h in omega arith

pub got_left : {X : Type 0} (xs ys : List X) (i : ℕ) → i < length xs → slice_get (xs ++ ys) i ≡ slice_get xs i
got_left [] ys i h = absurd (omega arith)
got_left (x ∷ xs) ys zero h = refl
got_left (x ∷ xs) ys (suc i) h = got_left xs ys i (omega arith)

pub got_middle : {X : Type 0} (xs ys : List X) (y : X) → slice_get (xs ++ y ∷ ys) (length xs) ≡ Some y
got_middle [] ys y = refl
got_middle (x ∷ xs) ys y = got_middle xs ys y

-- one element passes, so one of the list does; and what passes as before leaves that as it is
pub any_got : {X : Type 0} (f : X → Bool) (xs : List X) (i : ℕ) (x : X) → slice_get xs i ≡ Some x → f x ≡ true → list_any f xs ≡ true
any_got f xs i x h e = list_any_at f xs i x (slice_get_within xs i x h) (ap f (get_or_from_slice_get xs i x x h) ∙ e)

pub none_got : {X : Type 0} (f : X → Bool) (xs : List X) → ((i : ℕ) (x : X) → slice_get xs i ≡ Some x → f x ≡ false) → list_any f xs ≡ false
none_got f [] h = refl
none_got f (x ∷ xs) h = rw (h 0 x refl) (none_got f xs (λ i y e. h (suc i) y e))

pub any_set : {X : Type 0} (f : X → Bool) (xs : List X) (i : ℕ) (x y : X) → slice_get xs i ≡ Some x → f y ≡ f x → list_any f (set xs i y) ≡ list_any f xs
any_set f [] i x y h e = refl
any_set f (z ∷ zs) zero x y h e = let g : z ≡ x = got_one (Some z) z x refl h in ap (λ b. b || list_any f zs) (e ∙ ap f (sym g))
any_set f (z ∷ zs) (suc i) x y h e = ap (λ b. f z || b) (any_set f zs i x y h e)

-- a list at the first place of what is of it
pub record Split {X : Type 0} (xs : List X) (x : X) : Type 0 where
  pub before : List X
  pub after : List X
  pub is : xs ≡ before ++ x ∷ after
  pub fresh : Contains before x → ⊥

pub first_place : (xs : List ℕ) (x : ℕ) → Contains xs x → Split xs x
first_place [] x c = absurd (con_nil x c)
first_place (y ∷ ys) x c = go (cases_eq y x) (λ d. first_place ys x d)
  where
    go : (y ≡ x) ⊎ (y ≡ x → ⊥) → (Contains ys x → Split ys x) → Split (y ∷ ys) x
    go (inl e) more = record { before = []; after = ys; is = ap (λ z. z ∷ ys) e; fresh = λ d. con_nil x d }
    go (inr e) more = later (con_cases y x ys c)
      where
        later : (y ≡ x) ⊎ Contains ys x → Split (y ∷ ys) x
        later (inl i) = absurd (e i)
        later (inr d) =
            let s : Split ys x = more d in
            record { before = y ∷ s.before; after = s.after; is = ap (λ zs. y ∷ zs) s.is; fresh = λ k. ⊎_elim (λ i. e i) s.fresh (con_cases y x s.before k) }
