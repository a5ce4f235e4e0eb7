-- In an order of the routines each is measured after those that it enables and calls, so all measures agree in the end.
use Rattle.std.proofs.Common.{◌≡◌, ◌⊎◌, inl, inr, ℕ, zero, suc, ◌+◌, ◌<◌, ◌≤◌, max, Bool, true, false, List, [], ◌∷◌, ◌++◌, set, length, slice_get, replicate, refl, sym, ◌∙◌, ap, ap₂, subst, arith, append_assoc}
use Rattle.std.specs.Prelude.{Contains, fold, nat_lt, slice_index_or}
use Rattle.std.proofs.lemmas.Bool.{cases_eq, ltb-true}
use Rattle.std.proofs.lemmas.List.{length-replicate}
use Rattle.std.proofs.lemmas.List.Elements.{Contains-append_left, Contains-append_cases}
use Rattle.xt_graph.specs.Graph.{row, Points, IsOrder}
use Rattle.el_design.specs.Purity.{contains_number}
use Rattle.el_design.proofs.OrderLists.{con_nil, con_head, con_tail, con_cases}
use Rattle.el_design.proofs.OrderPlaces.{con_got, got_left, got_middle}
use Rattle.el_design.proofs.WaysPuts.{has_con, con_has}
use Rattle.ck_call.specs.declared.measures.Measure.{Measure}
use Rattle.ck_call.specs.inner.Weights.{capped}
use Rattle.ck_call.specs.inner.Measures.{nothing, measure_at, deeper, nesting, sizes, measured, measured_next, measures}
use Rattle.ck_call.proofs.Lists.{nil_end, set_length, at_set, at_other}

nesting_same : (one other : List Measure) (rs : List ℕ) → ((r : ℕ) → Contains rs r → measure_at one r ≡ measure_at other r) → nesting one rs ≡ nesting other rs
nesting_same one other [] h = refl
nesting_same one other (r ∷ rs) h = ap₂ max (ap (λ m. deeper m.depth) (h r (con_head r rs))) (nesting_same one other rs (λ q c. h q (con_tail r q rs c)))

sizes_same : (one other : List Measure) (rs : List ℕ) → ((r : ℕ) → Contains rs r → measure_at one r ≡ measure_at other r) → sizes one rs ≡ sizes other rs
sizes_same one other [] h = refl
sizes_same one other (r ∷ rs) h = ap₂ (λ x y. x + y) (ap (λ m. m.size) (h r (con_head r rs))) (sizes_same one other rs (λ q c. h q (con_tail r q rs c)))

measured_same : (one other : List Measure) (weight : ℕ) (rs : List ℕ) → ((r : ℕ) → Contains rs r → measure_at one r ≡ measure_at other r) → measured one weight rs ≡ measured other weight rs
measured_same one other weight rs h = ap₂ (λ x y. record { depth = x; size = capped (weight + y) }) (nesting_same one other rs h) (sizes_same one other rs h)

past_set : (xs : List Measure) (i : ℕ) (x : Measure) → length xs ≤ i → set xs i x ≡ xs
past_set [] i x h = refl
past_set (y ∷ ys) zero x h = absurd (omega (arith, h))
past_set (y ∷ ys) (suc i) x h = ap (λ l. y ∷ l) (past_set ys i x (omega (arith, h)))

module _ (rows : List (List ℕ)) (weights : List ℕ) where
  abbrev weight : ℕ → ℕ
  weight r = slice_index_or weights r 0

  -- the routines that are done have their measures, and so have all to which they point
  record Settled (table : List Measure) (done : List ℕ) : Type 0 where
    size : length table ≡ length rows
    agree : (r : ℕ) → Contains done r → r < length rows → measure_at table r ≡ measured table (slice_index_or weights r 0) (row rows r)
    closed : (r t : ℕ) → Contains done r → Points rows r t → Contains done t

  one_of : (done : List ℕ) (r q : ℕ) → Contains (done ++ r ∷ []) q → Contains done q ⊎ (r ≡ q)
  one_of done r q c = go (Contains-append_cases done (r ∷ []) q c)
    where
      last : (r ≡ q) ⊎ Contains [] q → Contains done q ⊎ (r ≡ q)
      last (inl e) = inr e
      last (inr k) = absurd (con_nil q k)

      go : Contains done q ⊎ Contains (r ∷ []) q → Contains done q ⊎ (r ≡ q)
      go (inl k) = inl k
      go (inr k) = last (con_cases r q [] k)

  settle_next : (table : List Measure) (done : List ℕ) (r : ℕ) → Settled table done → ((t : ℕ) → Points rows r t → Contains done t) → Settled (measured_next rows weights table r) (done ++ r ∷ [])
  settle_next table done r s points = record { size = set_length table r m ∙ s.size; agree = agree; closed = closed }
    where
      m : Measure
      m = measured table (slice_index_or weights r 0) (row rows r)

      new : List Measure
      new = measured_next rows weights table r

      closed : (q t : ℕ) → Contains (done ++ r ∷ []) q → Points rows q t → Contains (done ++ r ∷ []) t
      closed q t c p = Contains-append_left done (r ∷ []) t (go (one_of done r q c))
        where
          go : Contains done q ⊎ (r ≡ q) → Contains done t
          go (inl k) = s.closed q t k p
          go (inr e) = points t (subst (λ z. Points rows z t) (sym e) p)

      -- nothing changes where the routine was done, or isn't there
      unchanged : measure_at table r ≡ m ⊎ (length table ≤ r) → (q : ℕ) → measure_at new q ≡ measure_at table q
      unchanged (inr h) q = ap (λ l. measure_at l q) (past_set table r m h)
      unchanged (inl h) q = go (cases_eq q r)
        where
          inside : (b : Bool) → nat_lt r (length table) ≡ b → measure_at new r ≡ measure_at table r
          inside true l = at_set table r m nothing (ltb-true r (length table) l) ∙ sym h
          inside false l = ap (λ l. measure_at l r) (past_set table r m (grind (arith, l)))

          go : (q ≡ r) ⊎ (q ≡ r → ⊥) → measure_at new q ≡ measure_at table q
          go (inl e) = ap (measure_at new) e ∙ inside (nat_lt r (length table)) refl ∙ ap (measure_at table) (sym e)
          go (inr n) = at_other table r q m nothing n

      -- what points to r is r's own circle or was done after r
      apart : (contains_number done r ≡ false) → (q t : ℕ) → Contains done q ⊎ (r ≡ q) → Contains (row rows q) t → measure_at new t ≡ measure_at table t
      apart f q t c k = go (cases_eq t r)
        where
          never : Contains done r → r < length rows → ⊥
          never h l = let e : true ≡ false = sym (has_con done r h) ∙ f in cc

          done_r : t ≡ r → r < length rows → Contains done q ⊎ (r ≡ q) → Contains done r
          done_r e l (inl h) = s.closed q r h (record { listed = subst (Contains (row rows q)) e k; node = l })
          done_r e l (inr h) = points r (record { listed = subst (λ z. Contains (row rows z) r) (sym h) (subst (Contains (row rows q)) e k); node = l })

          same : (b : Bool) → nat_lt r (length rows) ≡ b → t ≡ r → measure_at new t ≡ measure_at table t
          same true l e = let i = ltb-true r (length rows) l in absurd (never (done_r e i c) i)
          same false l e = ap (λ z. measure_at z t) (past_set table r m (let z : length table ≡ length rows = s.size in grind (arith, l, z)))

          go : (t ≡ r) ⊎ (t ≡ r → ⊥) → measure_at new t ≡ measure_at table t
          go (inl e) = same (nat_lt r (length rows)) refl e
          go (inr n) = at_other table r t m nothing n

      known : contains_number done r ≡ true → (q : ℕ) → measure_at new q ≡ measure_at table q
      known f = go (nat_lt r (length rows)) refl
        where
          go : (b : Bool) → nat_lt r (length rows) ≡ b → (q : ℕ) → measure_at new q ≡ measure_at table q
          go true l = unchanged (inl (s.agree r (con_has done r f) (ltb-true r (length rows) l)))
          go false l = unchanged (inr (let z : length table ≡ length rows = s.size in grind (arith, l, z)))

      agree : (q : ℕ) → Contains (done ++ r ∷ []) q → q < length rows → measure_at new q ≡ measured new (slice_index_or weights q 0) (row rows q)
      agree q c l = go (contains_number done r) refl
        where
          old : Contains done q ⊎ (r ≡ q) → Contains done r → Contains done q
          old (inl k) h = k
          old (inr e) h = subst (Contains done) e h

          fresh : contains_number done r ≡ false → Contains done q ⊎ (r ≡ q) → measure_at new q ≡ measured new (slice_index_or weights q 0) (row rows q)
          fresh f (inl k) =
              at_other table r q m nothing (λ e. let z : true ≡ false = sym (has_con done r (subst (Contains done) e k)) ∙ f in cc)
              ∙ s.agree q k l ∙ measured_same table new (slice_index_or weights q 0) (row rows q) (λ t h. sym (apart f q t (inl k) h))
          fresh f (inr e) =
              ap (measure_at new) (sym e)
              ∙ at_set table r m nothing (let z : length table ≡ length rows = s.size in let y : r ≡ q = e in omega (arith, l, z, y))
              ∙ measured_same table new (slice_index_or weights r 0) (row rows r) (λ t h. sym (apart f r t (inr refl) h))
              ∙ ap (λ z. measured new (slice_index_or weights z 0) (row rows z)) e

          go : (b : Bool) → contains_number done r ≡ b → measure_at new q ≡ measured new (slice_index_or weights q 0) (row rows q)
          go true f =
              known f q ∙ s.agree q (old (one_of done r q c) (con_has done r f)) l ∙ measured_same table new (slice_index_or weights q 0) (row rows q) (λ t h. sym (known f t))
          go false f = fresh f (one_of done r q c)

  settle_all : (table : List Measure) (done rest order : List ℕ) → IsOrder rows order → order ≡ done ++ rest → Settled table done → Settled (fold (measured_next rows weights) table rest) order
  settle_all table done [] order o e s = subst (Settled table) (sym (nil_end done) ∙ sym e) s
  settle_all table done (r ∷ rest) order o e s =
      settle_all (measured_next rows weights table r) (done ++ r ∷ []) rest order o (e ∙ sym (append_assoc done (r ∷ []) rest)) (settle_next table done r s points)
    where
      points : (t : ℕ) → Points rows r t → Contains done t
      points t p =
          let a = o.after (length done) r t (ap (λ l. slice_get l (length done)) e ∙ got_middle done rest r) p in
          con_got done a.0 t (sym (got_left done (r ∷ rest) a.0 a.1) ∙ sym (ap (λ l. slice_get l a.0) e) ∙ a.2)

  -- each routine's measure is that of its own size and of what it enables and calls
  pub all_measured : (order : List ℕ) → IsOrder rows order → (r : ℕ) → r < length rows → measure_at (measures rows weights order) r ≡ measured (measures rows weights order) (slice_index_or weights r 0) (row rows r)
  all_measured order o r l = s.agree r (o.each r l) l
    where
      s : Settled (measures rows weights order) order
      s = settle_all (replicate (length rows) nothing) [] order order o refl (record {
        size = length-replicate (length rows) nothing;
        agree = λ q c. absurd (con_nil q c);
        closed = λ q t c. absurd (con_nil q c);
      })

-- ---- depths

pub nested_in : (table : List Measure) (rs : List ℕ) (r : ℕ) → Contains rs r → deeper (measure_at table r).depth ≤ nesting table rs
nested_in table [] r c = absurd (con_nil r c)
nested_in table (q ∷ rs) r c = go (con_cases q r rs c) (nested_in table rs r)
  where
    go : (q ≡ r) ⊎ Contains rs r → (Contains rs r → deeper (measure_at table r).depth ≤ nesting table rs) → deeper (measure_at table r).depth ≤ max (deeper (measure_at table q).depth) (nesting table rs)
    go (inl e) more = let h : (measure_at table q).depth ≡ (measure_at table r).depth = ap (λ z. (measure_at table z).depth) e in below (measure_at table q).depth (measure_at table r).depth (nesting table rs) h
      where
        below : (a b n : ℕ) → a ≡ b → deeper b ≤ max (deeper a) n
        below a b n h = omega (arith, h)
    go (inr k) more = above (deeper (measure_at table r).depth) (nesting table rs) (deeper (measure_at table q).depth) (more k)
      where
        above : (a n b : ℕ) → a ≤ n → a ≤ max b n
        above a n b h = omega (arith, h)

-- a depth but 0 comes from one of the routines
pub in_nested : (table : List Measure) (rs : List ℕ) (n : ℕ) → suc n ≤ nesting table rs → (r : ℕ) × Contains rs r × (suc n ≤ deeper (measure_at table r).depth)
in_nested table [] n h = absurd (omega (arith, h))
in_nested table (q ∷ rs) n h = go (nat_lt n (deeper (measure_at table q).depth)) refl (in_nested table rs n)
  where
    go : (b : Bool) → nat_lt n (deeper (measure_at table q).depth) ≡ b → (suc n ≤ nesting table rs → (r : ℕ) × Contains rs r × (suc n ≤ deeper (measure_at table r).depth)) → (r : ℕ) × Contains (q ∷ rs) r × (suc n ≤ deeper (measure_at table r).depth)
    go true e more = (q, con_head q rs, up n (deeper (measure_at table q).depth) (ltb-true n (deeper (measure_at table q).depth) e))
      where
        up : (a b : ℕ) → a < b → suc a ≤ b
        up a b h = omega (arith, h)
    go false e more = let m = more (other n (deeper (measure_at table q).depth) (nesting table rs) e h) in (m.0, con_tail q m.0 rs m.1, m.2)
      where
        other : (a b c : ℕ) → nat_lt a b ≡ false → suc a ≤ max b c → suc a ≤ c
        other a b c e h = grind (arith, e, h)
