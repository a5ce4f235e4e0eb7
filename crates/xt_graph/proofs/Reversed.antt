-- What a graph is with its edges turned round, row by row.
use Rattle.std.proofs.Common.{◌≡◌, ◌⊎◌, inl, inr, ◌<◌, ◌+◌, ℕ, zero, suc, List, [], ◌∷◌, ◌++◌, length, replicate, refl, sym, ◌∙◌, ap, subst, arith}
use Rattle.std.proofs.lemmas.List.{length-set, length-replicate, get_or-set_same, get_or-set_other, set_past}
use Rattle.std.proofs.lemmas.Bool.{cases_eq, cases_lt}
use Rattle.xt_graph.specs.Graph.{row, Points, IsReverse}
use Rattle.xt_graph.specs.inner.Reversing.{noted, noted_all, turned}
use Rattle.xt_graph.proofs.Lists.{In, in_left, in_right, in_push, points_from, points_in, in_points}

-- what a row has when one node was added to another's
noted_has : (n t b a : ℕ) (rows : List (List ℕ)) → In a (row (noted n rows t) b) → In a (row rows b) ⊎ ((a ≡ n) × (b ≡ t))
noted_has n t b a rows h = elim (cases_eq b t) [
  | inr other ↦ inl (subst (In a) (get_or-set_other rows t b (row rows t ++ n ∷ []) [] other) h)
  | inl e ↦ elim (cases_lt t (length rows)) [
    | inl l ↦
        let same : row (noted n rows t) b ≡ row rows t ++ n ∷ [] = ap (row (noted n rows t)) e ∙ get_or-set_same rows t (row rows t ++ n ∷ []) [] l in
        elim (in_push a n (row rows t) (subst (In a) same h)) [ inl i ↦ inl (subst (λ k. In a (row rows k)) (sym e) i) | inr f ↦ inr (f, e) ]
    | inr l ↦ inl (subst (λ rs. In a (row rs b)) (set_past rows t (row rows t ++ n ∷ []) l) h)
  ]
]

noted_keeps : (n t b a : ℕ) (rows : List (List ℕ)) → In a (row rows b) → In a (row (noted n rows t) b)
noted_keeps n t b a rows h = elim (cases_eq b t) [
  | inr other ↦ subst (In a) (sym (get_or-set_other rows t b (row rows t ++ n ∷ []) [] other)) h
  | inl e ↦ elim (cases_lt t (length rows)) [
    | inl l ↦
        let same : row (noted n rows t) b ≡ row rows t ++ n ∷ [] = ap (row (noted n rows t)) e ∙ get_or-set_same rows t (row rows t ++ n ∷ []) [] l in
        subst (In a) (sym same) (in_left a (row rows t) (n ∷ []) (subst (λ k. In a (row rows k)) e h))
    | inr l ↦ subst (λ rs. In a (row rs b)) (sym (set_past rows t (row rows t ++ n ∷ []) l)) h
  ]
]

noted_new : (n t : ℕ) (rows : List (List ℕ)) → t < length rows → In n (row (noted n rows t) t)
noted_new n t rows l = subst (In n) (sym (get_or-set_same rows t (row rows t ++ n ∷ []) [] l)) (in_right n (row rows t) (n ∷ []) (inl refl))

-- all to which one node points
all_size : (n : ℕ) (rows : List (List ℕ)) (ts : List ℕ) → length (noted_all n rows ts) ≡ length rows
all_size n rows [] = refl
all_size n rows (t ∷ ts) = all_size n (noted n rows t) ts ∙ length-set rows t (row rows t ++ n ∷ [])

all_has : (n b a : ℕ) (rows : List (List ℕ)) (ts : List ℕ) → In a (row (noted_all n rows ts) b) → In a (row rows b) ⊎ ((a ≡ n) × In b ts)
all_has n b a rows [] h = inl h
all_has n b a rows (t ∷ ts) h = elim (all_has n b a (noted n rows t) ts h) [
  | inl i ↦ elim (noted_has n t b a rows i) [ inl j ↦ inl j | inr e ↦ inr (e.0, inl e.1) ]
  | inr i ↦ inr (i.0, inr i.1)
]

all_keeps : (n b a : ℕ) (rows : List (List ℕ)) (ts : List ℕ) → In a (row rows b) → In a (row (noted_all n rows ts) b)
all_keeps n b a rows [] h = h
all_keeps n b a rows (t ∷ ts) h = all_keeps n b a (noted n rows t) ts (noted_keeps n t b a rows h)

all_new : (n b : ℕ) (rows : List (List ℕ)) (ts : List ℕ) → b < length rows → In b ts → In n (row (noted_all n rows ts) b)
all_new n b rows [] l i = absurd i
all_new n b rows (t ∷ ts) l (inl e) = all_keeps n b n (noted n rows t) ts (subst (λ k. In n (row (noted n rows t) k)) (sym e) (noted_new n t rows (subst (λ k. k < length rows) e l)))
all_new n b rows (t ∷ ts) l (inr i) = all_new n b (noted n rows t) ts (subst (λ k. b < k) (sym (length-set rows t (row rows t ++ n ∷ []))) l) i

-- all nodes, from one on
turned_size : (n : ℕ) (rows others : List (List ℕ)) → length (turned n rows others) ≡ length rows
turned_size n rows [] = refl
turned_size n rows (ts ∷ others) = turned_size (suc n) (noted_all n rows ts) others ∙ all_size n rows ts

-- a node k places behind the first
turned_has : (n b a : ℕ) (rows others : List (List ℕ)) → In a (row (turned n rows others) b) → In a (row rows b) ⊎ ((k : ℕ) × (a ≡ n + k) × In b (row others k))
turned_has n b a rows [] h = inl h
turned_has n b a rows (ts ∷ others) h = elim (turned_has (suc n) b a (noted_all n rows ts) others h) [
  | inl i ↦ elim (all_has n b a rows ts i) [ inl j ↦ inl j | inr j ↦ let e : a ≡ n = j.0 in inr (0, omega arith, j.1) ]
  | inr i ↦ let e : a ≡ suc n + i.0 = i.1 in inr (suc i.0, omega (arith, e), i.2)
]

turned_keeps : (n b a : ℕ) (rows others : List (List ℕ)) → In a (row rows b) → In a (row (turned n rows others) b)
turned_keeps n b a rows [] h = h
turned_keeps n b a rows (ts ∷ others) h = turned_keeps (suc n) b a (noted_all n rows ts) others (all_keeps n b a rows ts h)

turned_new : (n b k : ℕ) (rows others : List (List ℕ)) → b < length rows → In b (row others k) → In (n + k) (row (turned n rows others) b)
turned_new n b k rows [] l i = absurd i
turned_new n b zero rows (ts ∷ others) l i =
    let e : n ≡ n + 0 = omega arith in
    subst (λ j. In j (row (turned (suc n) (noted_all n rows ts) others) b)) e (turned_keeps (suc n) b n (noted_all n rows ts) others (all_new n b rows ts l i))
turned_new n b (suc k) rows (ts ∷ others) l i =
    let e : suc n + k ≡ n + suc k = omega arith in
    subst (λ j. In j (row (turned (suc n) (noted_all n rows ts) others) b)) e (turned_new (suc n) b k (noted_all n rows ts) others (subst (λ j. b < j) (sym (all_size n rows ts)) l) i)

empty_at : (count b : ℕ) → row (replicate count []) b ≡ []
empty_at zero b = refl
empty_at (suc count) zero = refl
empty_at (suc count) (suc b) = empty_at count b

pub is_reverse : (g : List (List ℕ)) → IsReverse g (turned 0 (replicate (length g) []) g)
is_reverse g = record { size = size; each = λ a b. (there a b, back a b) }
  where
    size : length (turned 0 (replicate (length g) []) g) ≡ length g
    size = turned_size 0 (replicate (length g) []) g ∙ length-replicate (length g) []

    there : (a b : ℕ) → Points (turned 0 (replicate (length g) []) g) a b → Points g b a
    there a b p = elim (turned_has 0 a b (replicate (length g) []) g (points_in _ a b p)) [
      | inl i ↦ absurd (subst (In b) (empty_at (length g) a) i)
      | inr i ↦
          let e : i.0 ≡ b = let f : b ≡ 0 + i.0 = i.1 in omega (arith, f) in
          in_points g b a (subst (λ k. In a (row g k)) e i.2) (subst (λ k. a < k) size (points_from _ a b p))
    ]

    back : (a b : ℕ) → Points g b a → Points (turned 0 (replicate (length g) []) g) a b
    back a b p =
        let e : 0 + b ≡ b = omega arith in
        in_points _ a b (subst (λ k. In k (row (turned 0 (replicate (length g) []) g) a)) e
        (turned_new 0 a b (replicate (length g) []) g (subst (λ k. a < k) (sym (length-replicate (length g) [])) p.node) (points_in g b a p)))
        (subst (λ k. b < k) (sym size) (points_from g b a p))
