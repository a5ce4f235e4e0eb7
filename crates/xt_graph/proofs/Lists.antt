-- Numbers in lists, and marks.
use Rattle.std.proofs.Common.{◌≡◌, ◌⊎◌, inl, inr, ◌<◌, ◌≤◌, ℕ, zero, suc, Bool, true, false, List, [], ◌∷◌, ◌++◌, length, get_or, set, replicate, reverse, Some, refl, sym, ap, subst, arith}
use Rattle.std.specs.Prelude.{Contains, slice_get}
use Rattle.std.proofs.lemmas.List.{get_or_past, reverse-append, reverse-reverse, get_or-set_same}
use Rattle.std.proofs.lemmas.Bool.{cases_lt}
use Rattle.xt_graph.specs.Graph.{row, Points}

-- ---- a number in a list, by recursion

abbrev pub In : ℕ → List ℕ → Type 0
In n [] = ⊥
In n (x ∷ xs) = (n ≡ x) ⊎ In n xs

at_in : (n : ℕ) (xs : List ℕ) (k : ℕ) → k < length xs → get_or xs k n ≡ n → In n xs
at_in n [] k h e = absurd (omega arith)
at_in n (x ∷ xs) zero h e = inl (sym e)
at_in n (x ∷ xs) (suc k) h e = inr (at_in n xs k (omega arith) e)

pub contains_in : (n : ℕ) (xs : List ℕ) → Contains xs n → In n xs
contains_in n xs c = at_in n xs c.0 c.1 c.2

pub in_contains : (n : ℕ) (xs : List ℕ) → In n xs → Contains xs n
in_contains n [] h = elim h [ ]
in_contains n (x ∷ xs) (inl e) = (0, omega arith, sym e)
in_contains n (x ∷ xs) (inr h) = let c = in_contains n xs h in let l : c.0 < length xs = c.1 in (suc c.0, omega arith, c.2)

pub in_left : (n : ℕ) (xs ys : List ℕ) → In n xs → In n (xs ++ ys)
in_left n [] ys h = elim h [ ]
in_left n (x ∷ xs) ys (inl e) = inl e
in_left n (x ∷ xs) ys (inr h) = inr (in_left n xs ys h)

pub in_right : (n : ℕ) (xs ys : List ℕ) → In n ys → In n (xs ++ ys)
in_right n [] ys h = h
in_right n (x ∷ xs) ys h = inr (in_right n xs ys h)

pub in_either : (n : ℕ) (xs ys : List ℕ) → In n (xs ++ ys) → In n xs ⊎ In n ys
in_either n [] ys h = inr h
in_either n (x ∷ xs) ys (inl e) = inl (inl e)
in_either n (x ∷ xs) ys (inr h) = elim (in_either n xs ys h) [ inl a ↦ inl (inr a) | inr b ↦ inr b ]

pub in_push : (n v : ℕ) (xs : List ℕ) → In n (xs ++ v ∷ []) → In n xs ⊎ (n ≡ v)
in_push n v xs h = elim (in_either n xs (v ∷ []) h) [ inl a ↦ inl a | inr b ↦ elim b [ inl e ↦ inr e | inr w ↦ absurd w ] ]

pub in_reverse : (n : ℕ) (xs : List ℕ) → In n xs → In n (reverse xs)
in_reverse n [] h = h
in_reverse n (x ∷ xs) (inl e) = subst (In n) (sym (reverse-append (x ∷ []) xs)) (in_right n (reverse xs) (x ∷ []) (inl e))
in_reverse n (x ∷ xs) (inr h) = subst (In n) (sym (reverse-append (x ∷ []) xs)) (in_left n (reverse xs) (x ∷ []) (in_reverse n xs h))

pub reverse_in : (n : ℕ) (xs : List ℕ) → In n (reverse xs) → In n xs
reverse_in n xs h = subst (In n) (reverse-reverse xs) (in_reverse n (reverse xs) h)

-- ---- by place

pub got_in : (xs : List ℕ) (k n : ℕ) → slice_get xs k ≡ Some n → In n xs
got_in [] k n e = cc
got_in (x ∷ xs) zero n e = inl (sym (cc e))
got_in (x ∷ xs) (suc k) n e = inr (got_in xs k n e)

pub in_got : (xs : List ℕ) (n : ℕ) → In n xs → (k : ℕ) × (slice_get xs k ≡ Some n)
in_got [] n h = elim h [ ]
in_got (x ∷ xs) n (inl e) = (0, ap Some (sym e))
in_got (x ∷ xs) n (inr h) = let k = in_got xs n h in (suc k.0, k.1)

pub got_within : (xs : List ℕ) (k n : ℕ) → slice_get xs k ≡ Some n → k < length xs
got_within [] k n e = cc
got_within (x ∷ xs) zero n e = omega arith
got_within (x ∷ xs) (suc k) n e = let l = got_within xs k n e in omega (arith, l)

pub slice_got : (xs : List ℕ) (k : ℕ) → k < length xs → (n : ℕ) × (slice_get xs k ≡ Some n)
slice_got [] k h = absurd (omega arith)
slice_got (x ∷ xs) zero h = (x, refl)
slice_got (x ∷ xs) (suc k) h = slice_got xs k (omega arith)

pub got_either : (xs ys : List ℕ) (k n : ℕ) → slice_get (xs ++ ys) k ≡ Some n → (slice_get xs k ≡ Some n) ⊎ ((length xs ≤ k) × In n ys)
got_either [] ys k n e = inr (omega arith, got_in ys k n e)
got_either (x ∷ xs) ys zero n e = inl e
got_either (x ∷ xs) ys (suc k) n e = elim (got_either xs ys k n e) [ inl a ↦ inl a | inr b ↦ let l : length xs ≤ k = b.0 in inr (omega arith, b.1) ]

pub got_left : (xs ys : List ℕ) (k n : ℕ) → slice_get xs k ≡ Some n → slice_get (xs ++ ys) k ≡ Some n
got_left [] ys k n e = cc
got_left (x ∷ xs) ys zero n e = e
got_left (x ∷ xs) ys (suc k) n e = got_left xs ys k n e

pub got_push : (xs : List ℕ) (v k n : ℕ) → slice_get (xs ++ v ∷ []) k ≡ Some n → (slice_get xs k ≡ Some n) ⊎ ((k ≡ length xs) × (n ≡ v))
got_push [] v zero n e = inr (refl, sym (cc e))
got_push [] v (suc k) n e = cc
got_push (x ∷ xs) v zero n e = inl e
got_push (x ∷ xs) v (suc k) n e = elim (got_push xs v k n e) [ inl a ↦ inl a | inr b ↦ inr (ap suc b.0, b.1) ]

-- ---- marks

abbrev pub Marked : List Bool → ℕ → Type 0
Marked marks n = get_or marks n false ≡ true

pub marked_within : (marks : List Bool) (n : ℕ) → Marked marks n → n < length marks
marked_within [] n e = cc
marked_within (m ∷ marks) zero e = omega arith
marked_within (m ∷ marks) (suc n) e = let l = marked_within marks n e in omega (arith, l)

pub unmarked_within : (marks : List Bool) (n : ℕ) → get_or marks n true ≡ false → n < length marks
unmarked_within [] n e = cc
unmarked_within (m ∷ marks) zero e = omega arith
unmarked_within (m ∷ marks) (suc n) e = let l = unmarked_within marks n e in omega (arith, l)

-- a number that counts as marked is, if it is a node
pub marked_node : (marks : List Bool) (n : ℕ) → n < length marks → get_or marks n true ≡ true → Marked marks n
marked_node [] n h e = absurd (omega arith)
marked_node (m ∷ marks) zero h e = e
marked_node (m ∷ marks) (suc n) h e = marked_node marks n (omega arith) e

pub not_marked : (marks : List Bool) (n : ℕ) → get_or marks n true ≡ false → Marked marks n → ⊥
not_marked [] n e h = cc
not_marked (m ∷ marks) zero e h = cc
not_marked (m ∷ marks) (suc n) e h = not_marked marks n e h

pub counts_marked : (marks : List Bool) (n : ℕ) → Marked marks n → get_or marks n true ≡ true
counts_marked [] n e = refl
counts_marked (m ∷ marks) zero e = e
counts_marked (m ∷ marks) (suc n) e = counts_marked marks n e

pub mark_made : (marks : List Bool) (n : ℕ) → n < length marks → Marked (set marks n true) n
mark_made marks n h = get_or-set_same marks n true false h

pub mark_kept : (marks : List Bool) (i n : ℕ) → Marked marks n → Marked (set marks i true) n
mark_kept [] i n e = e
mark_kept (m ∷ marks) zero zero e = refl
mark_kept (m ∷ marks) zero (suc n) e = e
mark_kept (m ∷ marks) (suc i) zero e = e
mark_kept (m ∷ marks) (suc i) (suc n) e = mark_kept marks i n e

pub mark_old : (marks : List Bool) (i n : ℕ) → Marked (set marks i true) n → (n ≡ i) ⊎ Marked marks n
mark_old [] i n e = inr e
mark_old (m ∷ marks) zero zero e = inl refl
mark_old (m ∷ marks) zero (suc n) e = inr e
mark_old (m ∷ marks) (suc i) zero e = inr e
mark_old (m ∷ marks) (suc i) (suc n) e = elim (mark_old marks i n e) [ inl a ↦ inl (ap suc a) | inr b ↦ inr b ]

pub none_marked : (count n : ℕ) → Marked (replicate count false) n → ⊥
none_marked zero n e = cc
none_marked (suc count) zero e = cc
none_marked (suc count) (suc n) e = none_marked count n e

abbrev pub unmarked : List Bool → ℕ
unmarked [] = 0
unmarked (true ∷ marks) = unmarked marks
unmarked (false ∷ marks) = suc (unmarked marks)

pub unmarked_less : (marks : List Bool) (n : ℕ) → get_or marks n true ≡ false → unmarked marks ≡ suc (unmarked (set marks n true))
unmarked_less [] n e = cc
unmarked_less (true ∷ marks) zero e = cc
unmarked_less (false ∷ marks) zero e = refl
unmarked_less (true ∷ marks) (suc n) e = unmarked_less marks n e
unmarked_less (false ∷ marks) (suc n) e = ap suc (unmarked_less marks n e)

pub all_unmarked : (count : ℕ) → unmarked (replicate count false) ≡ count
all_unmarked zero = refl
all_unmarked (suc count) = ap suc (all_unmarked count)

pub none_unmarked : (marks : List Bool) → ((n : ℕ) → n < length marks → Marked marks n) → unmarked marks ≡ 0
none_unmarked [] h = refl
none_unmarked (true ∷ marks) h = none_unmarked marks (λ n l. h (suc n) (omega (arith, l)))
none_unmarked (false ∷ marks) h = let e : false ≡ true = h zero (omega arith) in cc

-- ---- edges

pub points_from : (graph : List (List ℕ)) (a b : ℕ) → Points graph a b → a < length graph
points_from graph a b p = elim (cases_lt a (length graph)) [ inl l ↦ l | inr l ↦ absurd (contains_in b [] (subst (λ r. Contains r b) (get_or_past graph a [] l) p.listed)) ]

pub points_in : (graph : List (List ℕ)) (a b : ℕ) → Points graph a b → In b (row graph a)
points_in graph a b p = contains_in b (row graph a) p.listed

pub in_points : (graph : List (List ℕ)) (a b : ℕ) → In b (row graph a) → b < length graph → Points graph a b
in_points graph a b i l = record { listed = in_contains b (row graph a) i; node = l }
