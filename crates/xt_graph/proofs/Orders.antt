-- Whether each node of a list stands behind those that it points to.
use Rattle.std.proofs.Common.{◌≡◌, ◌⊎◌, inl, inr, ◌<◌, ◌≤◌, ◌+◌, ℕ, zero, suc, Bool, true, false, List, [], ◌∷◌, length, set, replicate, Some, refl, sym, ◌∙◌, ap, subst, arith}
use Rattle.std.specs.Prelude.{slice_get}
use Rattle.std.specs.List.{list_all}
use Rattle.std.proofs.lemmas.List.{length-set, length-replicate}
use Rattle.std.proofs.lemmas.Bool.{cases_lt, cases_eq, and_parts, and_cases}
use Rattle.xt_graph.specs.Graph.{row, Points, Leads, there, onward, HasCircle, IsOrder}
use Rattle.xt_graph.specs.inner.Searching.{is_marked}
use Rattle.xt_graph.specs.inner.Finishing.{turn, IsFinishing}
use Rattle.xt_graph.specs.inner.Ordering.{are_marked, stand_behind}
use Rattle.xt_graph.proofs.Lists.{In, contains_in, Marked, unmarked_within, marked_node, not_marked, mark_made, mark_kept, mark_old, none_marked, points_from, points_in, in_points}
use Rattle.xt_graph.proofs.Turns.{turn_one, turn_got}

all_passes : (f : ℕ → Bool) (xs : List ℕ) (x : ℕ) → list_all f xs ≡ true → In x xs → f x ≡ true
all_passes f [] x h i = absurd i
all_passes f (y ∷ xs) x h (inl e) = ap f e ∙ (and_parts (f y) (list_all f xs) h).0
all_passes f (y ∷ xs) x h (inr i) = all_passes f xs x (and_parts (f y) (list_all f xs) h).1 i

one_fails : (f : ℕ → Bool) (xs : List ℕ) → list_all f xs ≡ false → (x : ℕ) × In x xs × (f x ≡ false)
one_fails f [] h = cc
one_fails f (y ∷ xs) h = elim (and_cases (f y) (list_all f xs) h) [
  | inl e ↦ (y, inl refl, e)
  | inr e ↦ let r = one_fails f xs e in (r.0, inr r.1, r.2)
]

-- the nodes before the k-th are marked, and a list is what follows
record AreBefore (g : List (List ℕ)) (t : ℕ → ℕ) (k : ℕ) (marks : List Bool) (rest : List ℕ) : Type 0 where
  size : length marks ≡ length g
  one : (a b : ℕ) → t a ≡ t b → a ≡ b
  place : (i n : ℕ) → slice_get rest i ≡ Some n → (n < length g) × (t n ≡ k + i)
  before : (n : ℕ) → Marked marks n → t n < k
  all : (n : ℕ) → n < length g → t n < k → Marked marks n

one_more : (g : List (List ℕ)) (t : ℕ → ℕ) (k : ℕ) (marks : List Bool) (n : ℕ) (rest : List ℕ) → AreBefore g t k marks (n ∷ rest) → AreBefore g t (suc k) (set marks n true) rest
one_more g t k marks n rest h = record {
  size = length-set marks n true ∙ h.size;
  one = h.one;
  place = λ i m e. let p = h.place (suc i) m e in let q : t m ≡ k + suc i = p.1 in (p.0, omega (arith, q));
  before = λ m e. elim (mark_old marks n m e) [ inl f ↦ let p : t m ≡ t n = ap t f in omega (arith, p, here) | inr f ↦ let p = h.before m f in omega (arith, p) ];
  all = λ m l p. elim (cases_lt (t m) k) [
    | inl q ↦ mark_kept marks n m (h.all m l q)
    | inr q ↦ let e : n ≡ m = h.one n m (omega (arith, here, p, q)) in subst (Marked (set marks n true)) e (mark_made marks n within)
  ];
}
  where
    here : t n ≡ k + 0
    here = (h.place 0 n refl).1

    within : n < length marks
    within = subst (λ j. n < j) (sym h.size) (h.place 0 n refl).0

behind_true : (g : List (List ℕ)) (t : ℕ → ℕ) (k : ℕ) (marks : List Bool) (rest : List ℕ) → AreBefore g t k marks rest → stand_behind g marks rest ≡ true →
    (i n m : ℕ) → slice_get rest i ≡ Some n → Points g n m → t m < k + i
behind_true g t k marks [] h e i n m is p = cc
behind_true g t k marks (x ∷ rest) h e zero n m is p =
    let s = (and_parts (are_marked marks (row g x)) (stand_behind g (set marks x true) rest) e).0 in
    let same : x ≡ n = cc is in
    let q = all_passes (is_marked marks) (row g x) m s (subst (λ j. In m (row g j)) (sym same) (points_in g n m p)) in
    let l = h.before m (marked_node marks m (subst (λ j. m < j) (sym h.size) p.node) q) in omega (arith, l)
behind_true g t k marks (x ∷ rest) h e (suc i) n m is p =
    let s = (and_parts (are_marked marks (row g x)) (stand_behind g (set marks x true) rest) e).1 in
    let l = behind_true g t (suc k) (set marks x true) rest (one_more g t k marks x rest h) s i n m is p in omega (arith, l)

record StandsBefore (g : List (List ℕ)) (t : ℕ → ℕ) : Type 0 where
  from : ℕ
  to : ℕ
  edge : Points g from to
  late : t from ≤ t to

behind_false : (g : List (List ℕ)) (t : ℕ → ℕ) (k : ℕ) (marks : List Bool) (rest : List ℕ) → AreBefore g t k marks rest → stand_behind g marks rest ≡ false → StandsBefore g t
behind_false g t k marks [] h e = cc
behind_false g t k marks (x ∷ rest) h e = elim (and_cases (are_marked marks (row g x)) (stand_behind g (set marks x true) rest) e) [
  | inr s ↦ behind_false g t (suc k) (set marks x true) rest (one_more g t k marks x rest h) s
  | inl s ↦
      let m = one_fails (is_marked marks) (row g x) s in
      let node : m.0 < length g = subst (λ j. m.0 < j) h.size (unmarked_within marks m.0 m.2) in
      record { from = x; to = m.0; edge = in_points g x m.0 m.1 node; late = late m.0 m.2 node }
]
  where
    late : (m : ℕ) → is_marked marks m ≡ false → m < length g → t x ≤ t m
    late m is node = elim (cases_lt (t m) (t x)) [
      | inr l ↦ l
      | inl l ↦ let here = (h.place 0 x refl).1 in absurd (not_marked marks m is (h.all m node (omega (arith, here, l))))
    ]

module _ (g : List (List ℕ)) (order : List ℕ) (f : IsFinishing g order) where
  begins : AreBefore g (turn order) 0 (replicate (length g) false) order
  begins = record {
    size = length-replicate (length g) false;
    one = turn_one order;
    place = λ i n e. let p = f.nodes i n e in let q : turn order n ≡ i = p.1 in (p.0, omega (arith, q));
    before = λ n m. absurd (none_marked (length g) n m);
    all = λ n l h. absurd (omega (arith, h));
  }

  pub found_circle : stand_behind g (replicate (length g) false) order ≡ false → HasCircle g
  found_circle e = go (behind_false g (turn order) 0 (replicate (length g) false) order begins e)
    where
      go : StandsBefore g (turn order) → HasCircle g
      go s = record { from = s.from; to = s.to; edge = s.edge; back = back (cases_eq (turn order s.from) (turn order s.to)) }
        where
          back : (turn order s.from ≡ turn order s.to) ⊎ (turn order s.from ≡ turn order s.to → ⊥) → Leads (Points g) s.to s.from
          back (inl e) = subst (λ k. Leads (Points g) s.to k) (sym (turn_one order s.from s.to e)) there
          back (inr n) = f.back s.from s.from s.to (omega arith) (let l = s.late in omega (arith, l, n)) s.edge

  module _ (e : stand_behind g (replicate (length g) false) order ≡ true) where
    falls : (a b : ℕ) → Points g a b → turn order b < turn order a
    falls a b p =
        let i = contains_in a order (f.each a (points_from g a b p)) in
        let l = behind_true g (turn order) 0 (replicate (length g) false) order begins e (turn order a) a b (turn_got order a i) p in omega (arith, l)

    pub is_order : IsOrder g order
    is_order = record {
      each = f.each;
      size = f.size;
      after = λ i n m is p.
          let q : turn order n ≡ i = (f.nodes i n is).1 in
          let l = falls n m p in
          (turn order m, omega (arith, q, l), turn_got order m (contains_in m order (f.each m p.node)));
    }

    lead_falls : {a b : ℕ} → Leads (Points g) a b → turn order b ≤ turn order a
    lead_falls there = omega arith
    lead_falls (onward {a = a} {b = b} p h) = let k = falls a b p in let l = lead_falls h in omega (arith, k, l)

    pub no_circle : HasCircle g → ⊥
    no_circle c = let k = falls c.from c.to c.edge in let l = lead_falls c.back in omega (arith, k, l)
