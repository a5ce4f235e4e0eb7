-- What is in lists that are made of others, and what tests of lists find.
use Rattle.std.proofs.Common.{◌≡◌, ◌⊎◌, inl, inr, ◌||◌, ℕ, Bool, true, false, List, [], ◌∷◌, map, Option, Some, None, refl, ◌∙◌, ap}
use Rattle.std.specs.Prelude.{Contains, flat_map}
use Rattle.std.specs.List.{list_any, filter_map}
use Rattle.std.proofs.lemmas.List.Elements.{Contains-append_cases}
use Rattle.xt_base.specs.declared.refusals.Place.{Place}
use Rattle.xt_base.specs.declared.refusals.Refusal.{Refusal}
use Rattle.el_design.proofs.OrderLists.{con_nil, con_head, con_tail, con_cases}
use Rattle.el_design.proofs.OrderPlaces.{con_flat}
use Rattle.ck_call.specs.declared.lines.Line.{Line}
use Rattle.ck_call.specs.inner.Breaks.{break_at, only_if, breaks_by}

pub un_map : {X Y : Type 0} (f : X → Y) (xs : List X) (y : Y) → Contains (map f xs) y → (x : X) × Contains xs x × (f x ≡ y)
un_map {X = X} f [] y c = absurd (con_nil y c)
un_map {X = X} f (x ∷ xs) y c = go (con_cases (f x) y (map f xs) c) (un_map f xs y)
  where
    go : (f x ≡ y) ⊎ Contains (map f xs) y → (Contains (map f xs) y → (z : X) × Contains xs z × (f z ≡ y)) → (z : X) × Contains (x ∷ xs) z × (f z ≡ y)
    go (inl e) more = (x, con_head x xs, e)
    go (inr k) more = let m = more k in (m.0, con_tail x m.0 xs m.1, m.2)

pub un_flat : {X Y : Type 0} (f : X → List Y) (xs : List X) (y : Y) → Contains (flat_map f xs) y → (x : X) × Contains xs x × Contains (f x) y
un_flat {X = X} f [] y c = absurd (con_nil y c)
un_flat {X = X} f (x ∷ xs) y c = go (Contains-append_cases (f x) (flat_map f xs) y c) (un_flat f xs y)
  where
    go : Contains (f x) y ⊎ Contains (flat_map f xs) y → (Contains (flat_map f xs) y → (z : X) × Contains xs z × Contains (f z) y) → (z : X) × Contains (x ∷ xs) z × Contains (f z) y
    go (inl e) more = (x, con_head x xs, e)
    go (inr k) more = let m = more k in (m.0, con_tail x m.0 xs m.1, m.2)

pub un_filter : {X Y : Type 0} (h : X → Option Y) (xs : List X) (y : Y) → Contains (filter_map h xs) y → (x : X) × Contains xs x × (h x ≡ Some y)
un_filter {X = X} h [] y c = absurd (con_nil y c)
un_filter {X = X} h (x ∷ xs) y c = go (h x) refl c (un_filter h xs y)
  where
    found : (w : _) → h x ≡ Some w → (w ≡ y) ⊎ Contains (filter_map h xs) y → (Contains (filter_map h xs) y → (z : X) × Contains xs z × (h z ≡ Some y)) → (z : X) × Contains (x ∷ xs) z × (h z ≡ Some y)
    found w e (inl i) more = (x, con_head x xs, e ∙ ap Some i)
    found w e (inr k) more = let m = more k in (m.0, con_tail x m.0 xs m.1, m.2)

    go : (o : Option _) → h x ≡ o → Contains (filter_map h (x ∷ xs)) y → (Contains (filter_map h xs) y → (z : X) × Contains xs z × (h z ≡ Some y)) → (z : X) × Contains (x ∷ xs) z × (h z ≡ Some y)
    go None e c more = let k = rw e at c in let m = more k in (m.0, con_tail x m.0 xs m.1, m.2)
    go (Some w) e c more = let k = rw e at c in found w e (con_cases w y (filter_map h xs) k) more

-- ---- tests

pub any_has : {X : Type 0} (f : X → Bool) (xs : List X) → list_any f xs ≡ true → (x : X) × Contains xs x × (f x ≡ true)
any_has {X = X} f [] h = cc
any_has {X = X} f (x ∷ xs) h = go (f x) refl h (any_has f xs)
  where
    go : (b : Bool) → f x ≡ b → (f x || list_any f xs) ≡ true → (list_any f xs ≡ true → (z : X) × Contains xs z × (f z ≡ true)) → (z : X) × Contains (x ∷ xs) z × (f z ≡ true)
    go true e h more = (x, con_head x xs, e)
    go false e h more = let k = rw e at h in let m = more k in (m.0, con_tail x m.0 xs m.1, m.2)

pub has_any : {X : Type 0} (f : X → Bool) (xs : List X) (x : X) → Contains xs x → f x ≡ true → list_any f xs ≡ true
has_any f [] x c e = absurd (con_nil x c)
has_any f (y ∷ xs) x c e = go (con_cases y x xs c) (λ k. has_any f xs x k e)
  where
    first : (b : Bool) → b ≡ true → (b || list_any f xs) ≡ true
    first true e = refl
    first false e = cc

    rest : (b : Bool) → list_any f xs ≡ true → (b || list_any f xs) ≡ true
    rest true e = refl
    rest false e = e

    go : (y ≡ x) ⊎ Contains xs x → (Contains xs x → list_any f xs ≡ true) → (f y || list_any f xs) ≡ true
    go (inl i) more = first (f y) (ap f i ∙ e)
    go (inr k) more = rest (f y) (more k)

-- ---- breaks

pub only : (b : Bool) (rule : ℕ) (at : Place) (r : Refusal) → Contains (only_if b rule at) r → (b ≡ true) × (break_at rule at ≡ r)
only true rule at r c = go (con_cases (break_at rule at) r [] c)
  where
    go : (break_at rule at ≡ r) ⊎ Contains [] r → (true ≡ true) × (break_at rule at ≡ r)
    go (inl e) = (refl, e)
    go (inr k) = absurd (con_nil r k)
only false rule at r c = absurd (con_nil r c)

pub is_only : (b : Bool) (rule : ℕ) (at : Place) → b ≡ true → Contains (only_if b rule at) (break_at rule at)
is_only true rule at e = con_head (break_at rule at) []
is_only false rule at e = cc

pub broken_line : (test : Line → Bool) (rule : ℕ) (ls : List Line) (r : Refusal) → Contains (breaks_by test rule ls) r → (l : Line) × Contains ls l × (test l ≡ true) × (break_at rule l.at ≡ r)
broken_line test rule ls r c = let m = un_flat (λ l. only_if (test l) rule l.at) ls r c in let o = only (test m.0) rule m.0.at r m.2 in (m.0, m.1, o.0, o.1)

pub line_broken : (test : Line → Bool) (rule : ℕ) (ls : List Line) (l : Line) → Contains ls l → test l ≡ true → Contains (breaks_by test rule ls) (break_at rule l.at)
line_broken test rule ls l c e = con_flat (λ l. only_if (test l) rule l.at) ls l (break_at rule l.at) c (is_only (test l) rule l.at e)
