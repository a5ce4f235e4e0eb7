-- What is found by spreading.
use Rattle.std.proofs.Common.{◌≡◌, ◌⊎◌, inl, inr, ◌<◌, ◌≤◌, ◌+◌, ◌-◌, ℕ, zero, suc, Bool, true, false, cond, List, [], ◌∷◌, ◌++◌, length, set, replicate, Option, Some, None, refl, sym, ◌∙◌, ap, subst, arith}
use Rattle.std.specs.Prelude.{slice_get}
use Rattle.std.proofs.lemmas.List.{length-set, length-replicate, length-append, append_assoc, append-nil}
use Rattle.std.proofs.lemmas.Bool.{cases_lt}
use Rattle.xt_graph.specs.Graph.{row, Points, Leads, there, onward, IsReached, AreReached}
use Rattle.xt_graph.specs.inner.Searching.{Found, is_marked, find_node, find_all, with_node, spread}
use Rattle.xt_graph.proofs.Lists.{In, contains_in, in_contains, in_left, in_right, in_either, in_push, got_in, in_got, got_within, got_either, got_left, slice_got, Marked, unmarked_within, marked_node, not_marked, mark_made, mark_kept, mark_old, none_marked, unmarked, unmarked_less, all_unmarked, points_from, points_in, in_points}
use Rattle.xt_graph.proofs.Circle.{then_leads}

-- one turn of many
pub spread_more : (g : List (List ℕ)) (end turn : ℕ) (s : Found) (n : ℕ) → turn < end → slice_get s.found turn ≡ Some n → spread g (end - turn) turn s ≡ spread g (end - (turn + 1)) (turn + 1) (find_all s (row g n))
spread_more g end turn s n h e =
    let k : end - turn ≡ suc (end - (turn + 1)) = omega (arith, h) in
    let j : suc turn ≡ turn + 1 = omega arith in
    ap (λ m. spread g m turn s) k ∙ ap (with_node s (λ node. spread g (end - (turn + 1)) (suc turn) (find_all s (row g node)))) e
    ∙ ap (λ t. spread g (end - (turn + 1)) t (find_all s (row g n))) j

pub spread_past : (g : List (List ℕ)) (more turn : ℕ) (s : Found) → slice_get s.found turn ≡ None → spread g more turn s ≡ s
spread_past g zero turn s e = refl
spread_past g (suc more) turn s e = ap (with_node s (λ node. spread g more (suc turn) (find_all s (row g node)))) e

-- ---- what a search keeps

pub record IsSearch (g : List (List ℕ)) (s : Found) : Type 0 where
  pub size : length s.marks ≡ length g
  pub listed : (n : ℕ) → Marked s.marks n → In n s.found
  pub marked : (n : ℕ) → In n s.found → Marked s.marks n
  pub count : length s.found + unmarked s.marks ≡ length g

-- what was found later is so
pub record Adds (P : ℕ → Type 0) (s t : Found) : Type 0 where
  pub more : List ℕ
  pub is : t.found ≡ s.found ++ more
  pub each : (n : ℕ) → In n more → P n
  pub keeps : (n : ℕ) → Marked s.marks n → Marked t.marks n

adds_none : (P : ℕ → Type 0) (s : Found) → Adds P s s
adds_none P s = record { more = []; is = sym (append-nil s.found); each = λ n i. absurd i; keeps = λ n m. m }

pub adds_then : (P : ℕ → Type 0) (s t u : Found) → Adds P s t → Adds P t u → Adds P s u
adds_then P s t u a b = record {
  more = a.more ++ b.more;
  is = b.is ∙ ap (λ xs. xs ++ b.more) a.is ∙ append_assoc s.found a.more b.more;
  each = λ n i. elim (in_either n a.more b.more i) [ inl j ↦ a.each n j | inr j ↦ b.each n j ];
  keeps = λ n m. b.keeps n (a.keeps n m);
}

-- ---- one node

abbrev found_new : Found → ℕ → Found
found_new s n = record { marks = set s.marks n true; found = s.found ++ n ∷ [] }

-- found already, or new
find_cases : (s : Found) (n : ℕ) → ((is_marked s.marks n ≡ true) × (find_node s n ≡ s)) ⊎ ((is_marked s.marks n ≡ false) × (find_node s n ≡ found_new s n))
find_cases s n = go (is_marked s.marks n) refl
  where
    go : (b : Bool) → is_marked s.marks n ≡ b → ((is_marked s.marks n ≡ true) × (find_node s n ≡ s)) ⊎ ((is_marked s.marks n ≡ false) × (find_node s n ≡ found_new s n))
    go true e = inl (e, ap (λ b. cond b s (found_new s n)) e)
    go false e = inr (e, ap (λ b. cond b s (found_new s n)) e)

new_search : (g : List (List ℕ)) (s : Found) (n : ℕ) → IsSearch g s → is_marked s.marks n ≡ false → IsSearch g (found_new s n)
new_search g s n h e = record {
  size = length-set s.marks n true ∙ h.size;
  listed = λ m k. elim (mark_old s.marks n m k) [ inl f ↦ in_right m s.found (n ∷ []) (inl f) | inr f ↦ in_left m s.found (n ∷ []) (h.listed m f) ];
  marked = λ m i. elim (in_push m n s.found i) [ inl j ↦ mark_kept s.marks n m (h.marked m j) | inr f ↦ subst (Marked (set s.marks n true)) (sym f) (mark_made s.marks n (unmarked_within s.marks n e)) ];
  count = let u = unmarked_less s.marks n e in let l = length-append s.found (n ∷ []) in let c = h.count in omega (arith, u, l, c);
}

pub find_search : (g : List (List ℕ)) (s : Found) (n : ℕ) → IsSearch g s → IsSearch g (find_node s n)
find_search g s n h = elim (find_cases s n) [ inl a ↦ subst (IsSearch g) (sym a.1) h | inr a ↦ subst (IsSearch g) (sym a.1) (new_search g s n h a.0) ]

-- where what is new is so
pub find_adds : (g : List (List ℕ)) (P : ℕ → Type 0) (s : Found) (n : ℕ) → IsSearch g s → (n < length g → (Marked s.marks n → ⊥) → P n) → Adds P s (find_node s n)
find_adds g P s n h p = elim (find_cases s n) [
  | inl a ↦ subst (Adds P s) (sym a.1) (adds_none P s)
  | inr a ↦ subst (Adds P s) (sym a.1) (record {
    more = n ∷ [];
    is = refl;
    each = λ m i. elim i [ inl e ↦ subst P (sym e) (p (subst (λ k. n < k) h.size (unmarked_within s.marks n a.0)) (not_marked s.marks n a.0)) | inr i ↦ absurd i ];
    keeps = mark_kept s.marks n;
  })
]

pub find_marks : (g : List (List ℕ)) (s : Found) (n : ℕ) → IsSearch g s → n < length g → Marked (find_node s n).marks n
find_marks g s n h l = elim (find_cases s n) [
  | inl a ↦ subst (λ (t : Found). Marked t.marks n) (sym a.1) (marked_node s.marks n (subst (λ k. n < k) (sym h.size) l) a.0)
  | inr a ↦ subst (λ (t : Found). Marked t.marks n) (sym a.1) (mark_made s.marks n (unmarked_within s.marks n a.0))
]

-- ---- several

pub all_search : (g : List (List ℕ)) (s : Found) (ns : List ℕ) → IsSearch g s → IsSearch g (find_all s ns)
all_search g s [] h = h
all_search g s (n ∷ ns) h = all_search g (find_node s n) ns (find_search g s n h)

pub all_adds : (g : List (List ℕ)) (P : ℕ → Type 0) (s : Found) (ns : List ℕ) → IsSearch g s → ((n : ℕ) → In n ns → n < length g → (Marked s.marks n → ⊥) → P n) → Adds P s (find_all s ns)
all_adds g P s [] h p = adds_none P s
all_adds g P s (n ∷ ns) h p =
    let a = find_adds g P s n h (p n (inl refl)) in
    adds_then P s (find_node s n) (find_all (find_node s n) ns) a (all_adds g P (find_node s n) ns (find_search g s n h) (λ m i l u. p m (inr i) l (λ k. u (a.keeps m k))))

pub all_marks : (g : List (List ℕ)) (s : Found) (ns : List ℕ) (n : ℕ) → IsSearch g s → In n ns → n < length g → Marked (find_all s ns).marks n
all_marks g s [] n h i l = absurd i
all_marks g s (m ∷ ns) n h (inl e) l =
    let a = all_adds g (λ k. Unit {0}) (find_node s m) ns (find_search g s m h) (λ k i l u. tt) in
    a.keeps n (subst (λ k. Marked (find_node s m).marks k) (sym e) (find_marks g s m h (subst (λ k. k < length g) e l)))
all_marks g s (m ∷ ns) n h (inr i) l = all_marks g (find_node s m) ns n (find_search g s m h) i l

-- ---- spreading

module _ (g : List (List ℕ)) where
  pub spread_search : (more turn : ℕ) (s : Found) → IsSearch g s → IsSearch g (spread g more turn s)
  spread_search zero turn s h = h
  spread_search (suc more) turn s h = go (λ n. spread_search more (suc turn) (find_all s (row g n)) (all_search g s (row g n) h)) (slice_get s.found turn)
    where
      go : ((n : ℕ) → IsSearch g (spread g more (suc turn) (find_all s (row g n)))) → (o : Option ℕ) → IsSearch g (with_node s (λ node. spread g more (suc turn) (find_all s (row g node))) o)
      go rest None = h
      go rest (Some n) = rest n

  -- what is so of those from a place on, and goes over to nodes that weren't marked at first, is so of all that are added
  module _ (P : ℕ → Type 0) (first : List Bool) (goes : (n m : ℕ) → P n → Points g n m → (Marked first m → ⊥) → P m) where
    pub spread_adds : (more turn : ℕ) (s : Found) → IsSearch g s → ((n : ℕ) → Marked first n → Marked s.marks n) → ((k n : ℕ) → turn ≤ k → slice_get s.found k ≡ Some n → P n) → Adds P s (spread g more turn s)
    spread_adds zero turn s h old so = adds_none P s
    spread_adds (suc more) turn s h old so =
        go (λ n e. spread_adds more (suc turn) (find_all s (row g n)) (all_search g s (row g n) h) (λ m k. (one n e).keeps m (old m k)) (later n e)) (slice_get s.found turn) refl
      where
        one : (n : ℕ) → slice_get s.found turn ≡ Some n → Adds P s (find_all s (row g n))
        one n e = all_adds g P s (row g n) h (λ m i l u. goes n m (so turn n (omega arith) e) (in_points g n m i l) (λ k. u (old m k)))

        later : (n : ℕ) → slice_get s.found turn ≡ Some n → (k m : ℕ) → suc turn ≤ k → slice_get (find_all s (row g n)).found k ≡ Some m → P m
        later n e k m l is =
            let a = one n e in
            elim (got_either s.found a.more k m (subst (λ xs. slice_get xs k ≡ Some m) a.is is)) [ inl b ↦ so k m (omega (arith, l)) b | inr b ↦ a.each m b.1 ]

        go : ((n : ℕ) (e : slice_get s.found turn ≡ Some n) → Adds P (find_all s (row g n)) (spread g more (suc turn) (find_all s (row g n)))) → (o : Option ℕ) → slice_get s.found turn ≡ o
            → Adds P s (with_node s (λ node. spread g more (suc turn) (find_all s (row g node))) o)
        go rest None e = adds_none P s
        go rest (Some n) e = adds_then P s (find_all s (row g n)) (spread g more (suc turn) (find_all s (row g n))) (one n e) (rest n e)

  -- the nodes before a place have all marked to which they point
  abbrev pub AreDone : ℕ → Found → Type 0
  AreDone turn s = (k n m : ℕ) → k < turn → slice_get s.found k ≡ Some n → Points g n m → Marked s.marks m

  done_more : (turn : ℕ) (s : Found) (n : ℕ) → IsSearch g s → slice_get s.found turn ≡ Some n → AreDone turn s → AreDone (suc turn) (find_all s (row g n))
  done_more turn s n h e d k x m l is p = elim (cases_lt k turn) [
    | inl b ↦ a.keeps m (d k x m b (old k x b is) p)
    | inr b ↦ all_marks g s (row g n) m h (subst (λ y. In m (row g y)) (same k x (omega (arith, b, l)) is) (points_in g x m p)) p.node
  ]
    where
      a : Adds (λ k. Unit {0}) s (find_all s (row g n))
      a = all_adds g (λ k. Unit {0}) s (row g n) h (λ m i l u. tt)

      within : turn < length s.found
      within = got_within s.found turn n e

      old : (k x : ℕ) → k < turn → slice_get (find_all s (row g n)).found k ≡ Some x → slice_get s.found k ≡ Some x
      old k x b is = elim (got_either s.found a.more k x (subst (λ xs. slice_get xs k ≡ Some x) a.is is)) [ inl c ↦ c | inr c ↦ let q = c.0 in absurd (omega (arith, q, b, within)) ]

      same : (k x : ℕ) → k ≡ turn → slice_get (find_all s (row g n)).found k ≡ Some x → x ≡ n
      same k x f is =
          let new : slice_get (find_all s (row g n)).found turn ≡ Some n = subst (λ xs. slice_get xs turn ≡ Some n) (sym a.is) (got_left s.found a.more turn n e) in
          let one : slice_get (find_all s (row g n)).found turn ≡ Some x = subst (λ j. slice_get (find_all s (row g n)).found j ≡ Some x) f is in
          cc

  -- so many turns are enough for all
  pub spread_done : (more turn : ℕ) (s : Found) → IsSearch g s → length g ≤ more + turn → AreDone turn s → AreDone (length (spread g more turn s).found) (spread g more turn s)
  spread_done zero turn s h enough d = λ k x m l is p. let c = h.count in d k x m (omega (arith, c, l, enough)) is p
  spread_done (suc more) turn s h enough d =
      go (λ n e. spread_done more (suc turn) (find_all s (row g n)) (all_search g s (row g n) h) (omega (arith, enough)) (done_more turn s n h e d)) (slice_get s.found turn) refl
    where
      go : ((n : ℕ) (e : slice_get s.found turn ≡ Some n) → AreDone (length (spread g more (suc turn) (find_all s (row g n))).found) (spread g more (suc turn) (find_all s (row g n)))) → (o : Option ℕ) → slice_get s.found turn ≡ o
          → AreDone (length (with_node s (λ node. spread g more (suc turn) (find_all s (row g node))) o).found) (with_node s (λ node. spread g more (suc turn) (find_all s (row g node))) o)
      go rest (Some n) e = rest n e
      go rest None e = λ k x m l is p. elim (cases_lt k turn) [
        | inl b ↦ d k x m b is p
        | inr b ↦ absurd (past k x b is)
      ]
        where
          past : (k x : ℕ) → turn ≤ k → slice_get s.found k ≡ Some x → ⊥
          past k x b is = let w = got_within s.found k x is in let v = slice_got s.found turn (omega (arith, w, b)) in let f : slice_get s.found turn ≡ None = e in let u = v.1 in cc

  -- what is done is closed under edges, and so under ways
  pub done_leads : (s : Found) → IsSearch g s → AreDone (length s.found) s → {a b : ℕ} → Leads (Points g) a b → Marked s.marks a → Marked s.marks b
  done_leads s h d there m = m
  done_leads s h d (onward {a = a} {b = b} p l) m =
      let i = in_got s.found a (h.listed a m) in
      done_leads s h d l (d i.0 a b (got_within s.found i.0 a i.1) i.1 p)

-- ---- from nothing on

pub none_search : (g : List (List ℕ)) → IsSearch g (record { marks = replicate (length g) false; found = [] })
none_search g = record {
  size = length-replicate (length g) false;
  listed = λ n m. absurd (none_marked (length g) n m);
  marked = λ n i. absurd i;
  count = let u = all_unmarked (length g) in omega (arith, u);
}

module _ (g : List (List ℕ)) (from : List ℕ) (s t : Found) (a : s ≡ find_all (record { marks = replicate (length g) false; found = [] }) from) (b : t ≡ spread g (length s.marks - 0) 0 s) where
  start : Found
  start = record { marks = replicate (length g) false; found = [] }

  first : IsSearch g s
  first = subst (IsSearch g) (sym a) (all_search g (record { marks = replicate (length g) false; found = [] }) from (none_search g))

  last : IsSearch g t
  last = subst (IsSearch g) (sym b) (spread_search g (length s.marks - 0) 0 s first)

  listed : Adds (IsReached g from) (record { marks = replicate (length g) false; found = [] }) s
  listed = subst (Adds (IsReached g from) (record { marks = replicate (length g) false; found = [] })) (sym a)
      (all_adds g (IsReached g from) (record { marks = replicate (length g) false; found = [] }) from (none_search g) (λ n i l u. record { first = n; listed = in_contains n from i; leads = there }))

  all_reached : (n : ℕ) → In n s.found → IsReached g from n
  all_reached n i = listed.each n (subst (In n) listed.is i)

  spreads : Adds (IsReached g from) s t
  spreads = subst (Adds (IsReached g from) s) (sym b)
      (spread_adds g (IsReached g from) [] goes (length s.marks - 0) 0 s first (λ n m. cc) (λ k n l e. all_reached n (got_in s.found k n e)))
    where
      goes : (n m : ℕ) → IsReached g from n → Points g n m → (Marked [] m → ⊥) → IsReached g from m
      goes n m r p u = record { first = r.first; listed = r.listed; leads = then_leads r.leads (onward p there) }

  done : AreDone g (length t.found) t
  done = subst (λ (u : Found). AreDone g (length u.found) u) (sym b) (spread_done g (length s.marks - 0) 0 s first (let z = first.size in omega (arith, z)) (λ k n m l e p. absurd (omega (arith, l))))

  pub are_reached : AreReached g from t.marks
  are_reached = record { size = last.size; each = λ n l. (found n, marks n l) }
    where
      found : (n : ℕ) → Marked t.marks n → IsReached g from n
      found n m = elim (in_either n s.found spreads.more (subst (In n) spreads.is (last.listed n m))) [ inl i ↦ all_reached n i | inr i ↦ spreads.each n i ]

      origin : {x n : ℕ} → Leads (Points g) x n → n < length g → x < length g
      origin there l = l
      origin (onward {a = x} {b = y} p h) l = points_from g x y p

      marks : (n : ℕ) → n < length g → IsReached g from n → Marked t.marks n
      marks n l r =
          let i = contains_in r.first from r.listed in
          let m : Marked s.marks r.first = subst (λ (u : Found). Marked u.marks r.first) (sym a) (all_marks g (record { marks = replicate (length g) false; found = [] }) from r.first (none_search g) i (origin r.leads l)) in
          done_leads g t last done r.leads (spreads.keeps r.first m)
