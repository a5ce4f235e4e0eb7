-- Steps of agents that change places: no schedule is longer than one that ends, and all that end do so alike.
use Rattle.std.proofs.Common.{◌≡◌, ◌⊎◌, inl, inr, ℕ, suc, ◌+◌, ◌≤◌, Bool, true, false, if◌then◌else◌, List, [], ◌∷◌, Option, Some, None, refl, sym, ◌∙◌, ap, subst, arith}

-- how many of a list the test lets pass
abbrev pub count : {E : Type 0} → (E → Bool) → List E → ℕ
count f [] = 0
count f (e ∷ es) = if f e then suc (count f es) else count f es

abbrev pub Path : {K E : Type 0} → (E → K → Option K) → List E → K → K → Type 0
Path step [] k end = k ≡ end
Path {K = K} step (e ∷ es) k end = (mid : K) × (step e k ≡ Some mid) × Path step es mid end

abbrev pub Ended : {K E : Type 0} → (E → K → Option K) → K → Type 0
Ended {E = E} step k = (e : E) → step e k ≡ None

pub record Diamond (K E : Type 0) (step : E → K → Option K) (Fine : K → Type 0) : Type 0 where
  pub kept : (k a : K) (e : E) → Fine k → step e k ≡ Some a → Fine a
  pub swap : (k a b : K) (p q : E) → Fine k → step p k ≡ Some a → step q k ≡ Some b → (p ≡ q) ⊎ ((d : K) × (step q a ≡ Some d) × (step p b ≡ Some d))

abbrev Alike : {E : Type 0} → List E → List E → Type 0
Alike {E = E} xs ys = (f : E → Bool) → count f xs ≡ count f ys

alike_under : {E : Type 0} (e : E) (xs ys : List E) → Alike xs ys → Alike (e ∷ xs) (e ∷ ys)
alike_under e xs ys h f = ap (λ n. if f e then suc n else n) (h f)

swapped : (a b : Bool) (n : ℕ) → (if a then suc (if b then suc n else n) else (if b then suc n else n)) ≡ (if b then suc (if a then suc n else n) else (if a then suc n else n))
swapped true true n = refl
swapped true false n = refl
swapped false true n = refl
swapped false false n = refl

counted_sum : (b : Bool) (n a r : ℕ) → n ≡ a + r → (if b then suc n else n) ≡ (if b then suc a else a) + r
counted_sum true n a r h = omega arith
counted_sum false n a r h = h

some_is : {K : Type 0} (a b : K) → Some a ≡ Some b → a ≡ b
some_is a b e = cc

some_none : {K : Type 0} (a : K) (o : Option K) → o ≡ Some a → o ≡ None → ⊥
some_none a o h g = let e : Some a ≡ None = sym h ∙ g in cc

module _ (K E : Type 0) (step : E → K → Option K) (Fine : K → Type 0) (diamond : Diamond K E step Fine) where
  -- a schedule from a state to an end, that has the events of another
  pub record Left (k end : K) (ps ms : List E) : Type 0 where
    pub events : List E
    pub path : Path step events k end
    pub split : (f : E → Bool) → count f ps ≡ count f ms + count f events

  record Stripped (a end : K) (p : E) (ps : List E) : Type 0 where
    events : List E
    path : Path step events a end
    alike : Alike ps (p ∷ events)

  -- an event that may be taken first shortens a schedule that ends by that event
  strip : (k a end : K) (p : E) (ps : List E) → Fine k → Path step ps k end → Ended step end → step p k ≡ Some a → Stripped a end p ps
  strip k a end p [] fine path ended h = absurd (some_none a (step p end) (subst (λ x. step p x ≡ Some a) path h) (ended p))
  strip k a end p (r ∷ rs) fine path ended h = choose (diamond.swap k a path.0 p r fine h path.1) (λ d e. strip path.0 d end p rs (diamond.kept k path.0 r fine path.1) path.2 ended e)
    where
      choose : (p ≡ r) ⊎ ((d : K) × (step r a ≡ Some d) × (step p path.0 ≡ Some d)) → ((d : K) → step p path.0 ≡ Some d → Stripped d end p rs) → Stripped a end p (r ∷ rs)
      choose (inl e) more = record {
        events = rs;
        path = subst (λ x. Path step rs x end) (some_is path.0 a (sym path.1 ∙ subst (λ x. step x k ≡ Some a) e h)) path.2;
        alike = λ f. ap (λ x. count f (x ∷ rs)) (sym e);
      }
      choose (inr x) more = let s : Stripped x.0 end p rs = more x.0 x.2 in record {
        events = r ∷ s.events;
        path = (x.0, x.1, s.path);
        alike = λ f. alike_under r rs (p ∷ s.events) s.alike f ∙ swapped (f r) (f p) (count f s.events);
      }

  -- any schedule may be gone on with to the end of one that ends
  pub no_longer : (k x end : K) (ps qs : List E) → Fine k → Path step ps k end → Ended step end → Path step qs k x → Left x end ps qs
  no_longer k x end ps [] fine path ended h = record { events = ps; path = subst (λ y. Path step ps y end) h path; split = λ f. omega arith }
  no_longer k x end ps (q ∷ qs) fine path ended h = finish (strip k h.0 end q ps fine path ended h.1) (λ rs r. no_longer h.0 x end rs qs (diamond.kept k h.0 q fine h.1) r ended h.2)
    where
      finish : Stripped h.0 end q ps → ((rs : List E) → Path step rs h.0 end → Left x end rs qs) → Left x end ps (q ∷ qs)
      finish s more = let l : Left x end s.events qs = more s.events s.path in record {
        events = l.events;
        path = l.path;
        split = λ f. s.alike f ∙ counted_sum (f q) (count f s.events) (count f qs) (count f l.events) (l.split f);
      }

  -- so many events of each kind, at most
  pub at_most : (k x end : K) (ps qs : List E) → Fine k → Path step ps k end → Ended step end → Path step qs k x → (f : E → Bool) → count f qs ≤ count f ps
  at_most k x end ps qs fine path ended h f = let l : Left x end ps qs = no_longer k x end ps qs fine path ended h in let e : count f ps ≡ count f qs + count f l.events = l.split f in omega arith

  pub one_end : (k x end : K) (ps qs : List E) → Fine k → Path step ps k end → Ended step end → Path step qs k x → Ended step x → x ≡ end
  one_end k x end ps qs fine path ended h done = go (no_longer k x end ps qs fine path ended h)
    where
      none : (es : List E) → Path step es x end → x ≡ end
      none [] p = p
      none (e ∷ es) p = absurd (some_none p.0 (step e x) p.1 (done e))

      go : Left x end ps qs → x ≡ end
      go l = none l.events l.path
