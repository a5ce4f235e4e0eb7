-- The table of owners tells of which processes each block and task is part.
use Rattle.std.proofs.Common.{◌≡◌, ◌≢◌, ◌⊎◌, inl, inr, ℕ, zero, suc, ◌+◌, ◌<◌, ◌≤◌, ◌==◌, Bool, true, false, if◌then◌else◌, List, [], ◌∷◌, Some, None, length, slice_get, replicate, refl, sym, ◌∙◌, ap, subst, arith, T, eqb→eq, eq-eqb}
use Rattle.std.specs.Prelude.{Contains, fold, nat_lt}
use Rattle.std.proofs.lemmas.Bool.{cases_eq, ltb-true}
use Rattle.std.proofs.lemmas.List.{get_or-replicate, get_or_past, length-replicate}
use Rattle.el_design.specs.Plain.{Flat}
use Rattle.el_design.proofs.OrderLists.{con_nil, con_head, con_tail, con_cases}
use Rattle.ck_call.specs.declared.owners.Owner.{Owner}
use Rattle.ck_call.specs.declared.owners.Owner.TheVariants as owner
use Rattle.ck_call.specs.declared.lines.Line.{Line}
use Rattle.ck_call.specs.inner.Placed.{joined, owner_at, noted, text_marks, notes, all_notes, placed, reach_at}
use Rattle.ck_call.proofs.Lists.{set_length, at_set, at_other}

-- which processes have a part: nobody, one alone, or two at least
pub data Tells (P : ℕ → Type 0) : Owner → Type 0 where
  nobody : ((p : ℕ) → P p → ⊥) → Tells P owner.Nobody
  alone : {q : ℕ} → P q → ((p : ℕ) → P p → q ≡ p) → Tells P (owner.One q)
  several : {p q : ℕ} → P p → P q → p ≢ q → Tells P owner.Many

pub same_tells : {P Q : ℕ → Type 0} {o : Owner} → ((p : ℕ) → P p → Q p) → ((p : ℕ) → Q p → P p) → Tells P o → Tells Q o
same_tells f g (nobody n) = nobody (λ p h. n p (g p h))
same_tells f g (alone {q = q} h n) = alone (f q h) (λ p k. n p (g p k))
same_tells f g (several {p = p} {q = q} h k n) = several (f p h) (f q k) n

-- one process more
join_tells : {P : ℕ → Type 0} (p : ℕ) (o : Owner) → Tells P o → Tells (λ q. P q ⊎ (q ≡ p)) (joined p o)
join_tells {P = P} p owner.Nobody (nobody n) = alone (inr refl) (λ q h. only q h)
  where
    only : (q : ℕ) → P q ⊎ (q ≡ p) → p ≡ q
    only q (inl h) = absurd (n q h)
    only q (inr e) = sym e
join_tells {P = P} p (owner.One r) (alone h n) = go (r == p) refl
  where
    same : r ≡ p → (q : ℕ) → P q ⊎ (q ≡ p) → r ≡ q
    same e q (inl k) = n q k
    same e q (inr k) = e ∙ sym k

    go : (b : Bool) → (r == p) ≡ b → Tells (λ q. P q ⊎ (q ≡ p)) (if r == p then owner.One r else owner.Many)
    go true e = rw e (alone (inl h) (same (eqb→eq r p (subst T (sym e) tt))))
    go false e = rw e (several (inl h) (inr refl) (λ k. let f : true ≡ false = sym (eq-eqb r p k) ∙ e in cc))
join_tells p owner.Many (several h k n) = several (inl h) (inl k) n

-- ---- the table

abbrev pub Told : (ℕ → ℕ → Type 0) → List Owner → Type 0
Told P os = (m : ℕ) → m < length os → Tells (λ p. P p m) (owner_at os m)

pub noted_length : (p : ℕ) (os : List Owner) (m : ℕ) → length (noted p os m) ≡ length os
noted_length p os m = set_length os m (joined p (owner_at os m))

note_told : (P : ℕ → ℕ → Type 0) (p : ℕ) (os : List Owner) (m : ℕ) → Told P os → Told (λ q n. P q n ⊎ ((q ≡ p) × (n ≡ m))) (noted p os m)
note_told P p os m t n l = go (cases_eq n m)
  where
    k : n < length os
    k = let e : length (noted p os m) ≡ length os = noted_length p os m in omega (arith, l)

    go : (n ≡ m) ⊎ (n ≡ m → ⊥) → Tells (λ q. P q n ⊎ ((q ≡ p) × (n ≡ m))) (owner_at (noted p os m) n)
    go (inl e) =
        subst (λ o. Tells (λ q. P q n ⊎ ((q ≡ p) × (n ≡ m))) o)
        (ap (λ z. joined p (owner_at os z)) e ∙ sym (at_set os m (joined p (owner_at os m)) owner.Nobody (subst (λ z. z < length os) e k)) ∙ ap (owner_at (noted p os m)) (sym e))
        (same_tells there back (join_tells p (owner_at os n) (t n k)))
      where
        there : (q : ℕ) → P q n ⊎ (q ≡ p) → P q n ⊎ ((q ≡ p) × (n ≡ m))
        there q (inl h) = inl h
        there q (inr h) = inr (h, e)

        back : (q : ℕ) → P q n ⊎ ((q ≡ p) × (n ≡ m)) → P q n ⊎ (q ≡ p)
        back q (inl h) = inl h
        back q (inr h) = inr h.0
    go (inr e) =
        subst (λ o. Tells (λ q. P q n ⊎ ((q ≡ p) × (n ≡ m))) o) (sym (at_other os m n (joined p (owner_at os m)) owner.Nobody e)) (same_tells (λ q h. inl h) back (t n k))
      where
        back : (q : ℕ) → P q n ⊎ ((q ≡ p) × (n ≡ m)) → P q n
        back q (inl h) = h
        back q (inr h) = absurd (e h.1)

pub notes_length : (p : ℕ) (ms : List ℕ) (os : List Owner) → length (fold (noted p) os ms) ≡ length os
notes_length p [] os = refl
notes_length p (m ∷ ms) os = notes_length p ms (noted p os m) ∙ noted_length p os m

notes_told : (P : ℕ → ℕ → Type 0) (p : ℕ) (ms : List ℕ) (os : List Owner) → Told P os → Told (λ q n. P q n ⊎ ((q ≡ p) × Contains ms n)) (fold (noted p) os ms)
notes_told P p [] os t n l = same_tells (λ q h. inl h) back (t n l)
  where
    back : (q : ℕ) → P q n ⊎ ((q ≡ p) × Contains [] n) → P q n
    back q (inl h) = h
    back q (inr h) = absurd (con_nil n h.1)
notes_told P p (m ∷ ms) os t n l = same_tells there back (notes_told (λ q n. P q n ⊎ ((q ≡ p) × (n ≡ m))) p ms (noted p os m) (note_told P p os m t) n l)
  where
    there : (q : ℕ) → (P q n ⊎ ((q ≡ p) × (n ≡ m))) ⊎ ((q ≡ p) × Contains ms n) → P q n ⊎ ((q ≡ p) × Contains (m ∷ ms) n)
    there q (inl (inl h)) = inl h
    there q (inl (inr h)) = inr (h.0, subst (Contains (m ∷ ms)) (sym h.1) (con_head m ms))
    there q (inr h) = inr (h.0, con_tail m n ms h.1)

    back : (q : ℕ) → P q n ⊎ ((q ≡ p) × Contains (m ∷ ms) n) → (P q n ⊎ ((q ≡ p) × (n ≡ m))) ⊎ ((q ≡ p) × Contains ms n)
    back q (inl h) = inl (inl h)
    back q (inr h) = go (con_cases m n ms h.1)
      where
        go : (m ≡ n) ⊎ Contains ms n → (P q n ⊎ ((q ≡ p) × (n ≡ m))) ⊎ ((q ≡ p) × Contains ms n)
        go (inl e) = inl (inr (h.0, sym e))
        go (inr k) = inr (h.0, k)

module _ (d : Flat) (ts : List (List Line)) (reaches : List (List ℕ)) where
  -- one of the processes, of which the first has this number, has a mark in place
  pub record NotedIn (from : ℕ) (procs : List (List Line)) (q m : ℕ) : Type 0 where
    pub index : ℕ
    pub text : List Line
    pub is : slice_get procs index ≡ Some text
    pub number : from + index ≡ q
    pub there : Contains (text_marks d (placed ts (reach_at reaches q) text)) m

  pub all_length : (p : ℕ) (os : List Owner) (procs : List (List Line)) → length (all_notes d ts reaches p os procs) ≡ length os
  all_length p os [] = refl
  all_length p os (ls ∷ more) = all_length (suc p) (notes d p os (placed ts (reach_at reaches p) ls)) more ∙ notes_length p (text_marks d (placed ts (reach_at reaches p) ls)) os

  pub all_told : (P : ℕ → ℕ → Type 0) (p : ℕ) (os : List Owner) (procs : List (List Line)) → Told P os → Told (λ q m. P q m ⊎ NotedIn p procs q m) (all_notes d ts reaches p os procs)
  all_told P p os [] t n l = same_tells (λ q h. inl h) back (t n l)
    where
      back : (q : ℕ) → P q n ⊎ NotedIn p [] q n → P q n
      back q (inl h) = h
      back q (inr h) = let e : None ≡ Some h.text = h.is in cc
  all_told P p os (ls ∷ more) t n l =
      same_tells there back (all_told (λ q m. P q m ⊎ ((q ≡ p) × Contains ms m)) (suc p) (notes d p os (placed ts (reach_at reaches p) ls)) more (notes_told P p ms os t) n l)
    where
      ms : List ℕ
      ms = text_marks d (placed ts (reach_at reaches p) ls)

      there : (q : ℕ) → (P q n ⊎ ((q ≡ p) × Contains ms n)) ⊎ NotedIn (suc p) more q n → P q n ⊎ NotedIn p (ls ∷ more) q n
      there q (inl (inl h)) = inl h
      there q (inl (inr h)) =
          inr (record { index = 0; text = ls; is = refl; number = (let e = h.0 in omega (arith, e)); there = subst (λ z. Contains (text_marks d (placed ts (reach_at reaches z) ls)) n) (sym h.0) h.1 })
      there q (inr h) = inr (record { index = suc h.index; text = h.text; is = h.is; number = (let e = h.number in omega (arith, e)); there = h.there })

      back : (q : ℕ) → P q n ⊎ NotedIn p (ls ∷ more) q n → (P q n ⊎ ((q ≡ p) × Contains ms n)) ⊎ NotedIn (suc p) more q n
      back q (inl h) = inl (inl h)
      back q (inr h) = go h.index h.is h.number
        where
          go : (i : ℕ) → slice_get (ls ∷ more) i ≡ Some h.text → p + i ≡ q → (P q n ⊎ ((q ≡ p) × Contains ms n)) ⊎ NotedIn (suc p) more q n
          go zero e k =
              let f : ls ≡ h.text = cc in
              let z : q ≡ p = omega (arith, k) in
              inl (inr (z, subst (λ r. Contains (text_marks d (placed ts (reach_at reaches r) ls)) n) z (subst (λ t. Contains (text_marks d (placed ts (reach_at reaches q) t)) n) (sym f) h.there)))
          go (suc i) e k = inr (record { index = i; text = h.text; is = e; number = omega (arith, k); there = h.there })

pub none_told : (n : ℕ) → Told (λ q m. ⊥) (replicate n owner.Nobody)
none_told n m l = go (nat_lt m n) refl
  where
    go : (b : Bool) → nat_lt m n ≡ b → Tells (λ q. ⊥) (owner_at (replicate n owner.Nobody) m)
    go true e = subst (Tells (λ q. ⊥)) (sym (get_or-replicate n m owner.Nobody owner.Nobody (ltb-true m n e))) (nobody (λ p h. h))
    go false e = subst (Tells (λ q. ⊥)) (sym (get_or_past (replicate n owner.Nobody) m owner.Nobody (past n m e))) (nobody (λ p h. h))
      where
        past : (n m : ℕ) → nat_lt m n ≡ false → length (replicate n owner.Nobody) ≤ m
        past n m e = let h : length (replicate n owner.Nobody) ≡ n = length-replicate n owner.Nobody in grind (arith, e, h)
