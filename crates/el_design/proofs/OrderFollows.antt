-- Runs of agents and followers: where agents' steps change places and followers only follow, every run ends, and all end alike.
use Rattle.std.proofs.Common.{◌≡◌, ◌⊎◌, inl, inr, ℕ, zero, suc, ◌+◌, ◌<◌, ◌≤◌, Bool, true, false, if◌then◌else◌, List, [], ◌∷◌, length, filter, Option, Some, refl, sym, ◌∙◌, ap, subst, subst₂, arith}
use Rattle.el_design.proofs.OrderDiamond.{count, Path, Ended, Diamond, at_most, one_end}

-- Of states S in which events may be taken, the core is what agents change; a follower's event leaves it, and lowers a number.
-- At rest the core is at its end, and of one core there is one state at rest.
pub record Follows (S K E : Type 0) (take : E → S → Option S) (step : E → K → Option K) (core : S → K) (is_agent : E → Bool) (Fine : K → Type 0) (Good : S → Type 0) (digits : S → ℕ) (bound : ℕ) : Type 0 where
  pub fine : (s : S) → Good s → Fine (core s)
  pub agent : (s t : S) (e : E) → Good s → is_agent e ≡ true → take e s ≡ Some t → (step e (core s) ≡ Some (core t)) × Good t
  pub follow : (s t : S) (e : E) → Good s → is_agent e ≡ false → take e s ≡ Some t → (core s ≡ core t) × Good t × (digits t < digits s)
  pub below : (s : S) → Good s → digits s ≤ bound
  pub rest : (s : S) → Good s → Ended take s → Ended step (core s)
  pub one : (s t : S) → Good s → Good t → Ended take s → Ended take t → core s ≡ core t → s ≡ t

-- as many events as agents with so many have, if each is followed by as many as the bound
abbrev pub room : ℕ → ℕ → ℕ
room bound zero = 0
room bound (suc n) = suc bound + room bound n

room_grows : (bound n m : ℕ) → n ≤ m → room bound n ≤ room bound m
room_grows bound zero m h = omega arith
room_grows bound (suc n) zero h = absurd (omega arith)
room_grows bound (suc n) (suc m) h = let r : room bound n ≤ room bound m = room_grows bound n m (omega arith) in omega arith

both_ways : (a b : Bool) (n : ℕ) → (if a then (if b then suc n else n) else n) ≡ (if b then (if a then suc n else n) else n)
both_ways true true n = refl
both_ways true false n = refl
both_ways false true n = refl
both_ways false false n = refl

module _ (S K E : Type 0) (take : E → S → Option S) (step : E → K → Option K) (core : S → K) (is_agent : E → Bool) (Fine : K → Type 0) (Good : S → Type 0) (digits : S → ℕ) (bound : ℕ)
    (diamond : Diamond K E step Fine) (follows : Follows S K E take step core is_agent Fine Good digits bound) where
  -- what a run does to the core
  pub record Shadow (s t : S) (es : List E) : Type 0 where
    pub path : Path step (filter is_agent es) (core s) (core t)
    pub good : Good t
    pub short : length es ≤ room bound (length (filter is_agent es)) + digits s

  shadow : (s t : S) (es : List E) → Good s → Path take es s t → Shadow s t es
  shadow s t [] good path = record { path = ap core path; good = subst Good path good; short = omega arith }
  shadow s t (e ∷ es) good path = choose (is_agent e) refl (λ g. shadow path.0 t es g path.2)
    where
      agent : is_agent e ≡ true → (Good path.0 → Shadow path.0 t es) → (fs : List E) → fs ≡ e ∷ filter is_agent es →
          Path step fs (core s) (core t) × Good t × (length (e ∷ es) ≤ room bound (length fs) + digits s)
      agent b more fs is =
          let a : (step e (core s) ≡ Some (core path.0)) × Good path.0 = follows.agent s path.0 e good b path.1 in
          let r : Shadow path.0 t es = more a.1 in
          let short : length es ≤ room bound (length (filter is_agent es)) + digits path.0 = r.short in
          let low : digits path.0 ≤ bound = follows.below path.0 a.1 in
          rw is ((core path.0, a.0, r.path), r.good, omega arith)

      follower : is_agent e ≡ false → (Good path.0 → Shadow path.0 t es) → (fs : List E) → fs ≡ filter is_agent es →
          Path step fs (core s) (core t) × Good t × (length (e ∷ es) ≤ room bound (length fs) + digits s)
      follower b more fs is =
          let a : (core s ≡ core path.0) × Good path.0 × (digits path.0 < digits s) = follows.follow s path.0 e good b path.1 in
          let r : Shadow path.0 t es = more a.1 in
          let short : length es ≤ room bound (length (filter is_agent es)) + digits path.0 = r.short in
          let low : digits path.0 < digits s = a.2 in
          rw is (subst (λ k. Path step (filter is_agent es) k (core t)) (sym a.0) r.path, r.good, omega arith)

      pack : Path step (filter is_agent (e ∷ es)) (core s) (core t) × Good t × (length (e ∷ es) ≤ room bound (length (filter is_agent (e ∷ es))) + digits s) → Shadow s t (e ∷ es)
      pack x = record { path = x.0; good = x.1; short = x.2 }

      choose : (b : Bool) → is_agent e ≡ b → (Good path.0 → Shadow path.0 t es) → Shadow s t (e ∷ es)
      choose true b more = pack (agent b more (filter is_agent (e ∷ es)) (rw b))
      choose false b more = pack (follower b more (filter is_agent (e ∷ es)) (rw b))

  all_counted : (es : List E) → count (λ e. true) es ≡ length es
  all_counted [] = refl
  all_counted (e ∷ es) = ap suc (all_counted es)

  -- where one schedule of agents ends, so many events are there in any run at most
  pub ends : (s t : S) (end : K) (ps es : List E) → Good s → Path step ps (core s) end → Ended step end → Path take es s t → length es ≤ room bound (length ps) + bound
  ends s t end ps es good path ended run =
      let r : Shadow s t es = shadow s t es good run in
      let m : count (λ e. true) (filter is_agent es) ≤ count (λ e. true) ps = at_most K E step Fine diamond (core s) (core t) end ps (filter is_agent es) (follows.fine s good) path ended r.path (λ e. true) in
      let n : length (filter is_agent es) ≤ length ps = subst₂ (λ x y. x ≤ y) (all_counted (filter is_agent es)) (all_counted ps) m in
      let g : room bound (length (filter is_agent es)) ≤ room bound (length ps) = room_grows bound _ _ n in
      let short : length es ≤ room bound (length (filter is_agent es)) + digits s = r.short in
      let low : digits s ≤ bound = follows.below s good in
      omega arith

  filtered : (f : E → Bool) → ((e : E) → f e ≡ true → is_agent e ≡ true) → (es : List E) → count f (filter is_agent es) ≡ count f es
  filtered f h [] = refl
  filtered f h (e ∷ es) = choose (is_agent e) refl (f e) refl (filtered f h es)
    where
      choose : (b : Bool) → is_agent e ≡ b → (a : Bool) → f e ≡ a → count f (filter is_agent es) ≡ count f es → count f (filter is_agent (e ∷ es)) ≡ count f (e ∷ es)
      choose true b a fa more = rw (b) (ap (λ n. if f e then suc n else n) more)
      choose false b true fa more = absurd (let x : true ≡ false = sym (h e fa) ∙ b in cc)
      choose false b false fa more = rw (b, fa) more

  -- and of agents' events that a test lets pass, no more than in that schedule
  pub at_most_so_many : (s t : S) (end : K) (ps es : List E) (f : E → Bool) → ((e : E) → f e ≡ true → is_agent e ≡ true) →
      Good s → Path step ps (core s) end → Ended step end → Path take es s t → count f es ≤ count f ps
  at_most_so_many s t end ps es f h good path ended run =
      let r : Shadow s t es = shadow s t es good run in
      subst (λ n. n ≤ count f ps) (filtered f h es) (at_most K E step Fine diamond (core s) (core t) end ps (filter is_agent es) (follows.fine s good) path ended r.path f)

  -- a run that ends, ends where that schedule does
  pub one_core : (s t : S) (end : K) (ps es : List E) → Good s → Path step ps (core s) end → Ended step end → Path take es s t → Ended take t → (core t ≡ end) × Good t
  one_core s t end ps es good path ended run done =
      let r : Shadow s t es = shadow s t es good run in
      (one_end K E step Fine diamond (core s) (core t) end ps (filter is_agent es) (follows.fine s good) path ended r.path (follows.rest t r.good done), r.good)

  -- two runs that end, end alike
  pub one_rest : (s t u : S) (es fs : List E) → Good s → Path take es s t → Ended take t → Path take fs s u → Ended take u → t ≡ u
  one_rest s t u es fs good run done other finished =
      let r : Shadow s t es = shadow s t es good run in
      let x : (core u ≡ core t) × Good u = one_core s u (core t) (filter is_agent es) fs good r.path (follows.rest t r.good done) other finished in
      follows.one t u r.good x.1 done finished (sym x.0)

  -- a state in which an event may be taken, or none
  abbrev pub MayGo : S → Type 0
  MayGo s = ((e : E) × ((t : S) × (take e s ≡ Some t))) ⊎ Ended take s

  pub record Finished (s : S) : Type 0 where
    pub events : List E
    pub last : S
    pub path : Path take events s last
    pub ended : Ended take last

  -- where runs are no longer than a number, one of them ends
  pub finishes : (n : ℕ) → ((s : S) → MayGo s) → (s : S) → ((es : List E) (t : S) → Path take es s t → length es ≤ n) → Finished s
  finishes zero may s h = choose (may s)
    where
      choose : MayGo s → Finished s
      choose (inr done) = record { events = []; last = s; path = refl; ended = done }
      choose (inl x) = absurd (let y : length (x.0 ∷ []) ≤ 0 = h (x.0 ∷ []) x.1.0 (x.1.0, x.1.1, refl) in omega arith)
  finishes (suc m) may s h = choose (may s) (finishes m may)
    where
      choose : MayGo s → ((t : S) → ((es : List E) (u : S) → Path take es t u → length es ≤ m) → Finished t) → Finished s
      choose (inr done) more = record { events = []; last = s; path = refl; ended = done }
      choose (inl x) more =
          let f : Finished x.1.0 = more x.1.0 (λ es u p. let y : length (x.0 ∷ es) ≤ suc m = h (x.0 ∷ es) u (x.1.0, x.1.1, p) in omega arith) in
          record { events = x.0 ∷ f.events; last = f.last; path = (x.1.0, x.1.1, f.path); ended = f.ended }
