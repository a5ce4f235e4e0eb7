-- The pass as a whole: what is reported is what is broken, and the first of it is named.
use Rattle.std.proofs.Common.{◌≡◌, ◌⊎◌, inl, inr, ℕ, List, [], ◌∷◌, ◌++◌, map, Option, Some, None, Result, Ok, Err, OnOk, refl, sym, ◌∙◌, ap, ap₂, subst, arith}
use Rattle.std.specs.Prelude.{Contains, fold, length}
use Rattle.std.proofs.lemmas.List.Elements.{Contains-append_left, Contains-append_right, Contains-append_cases}
use Rattle.xt_base.specs.First.{sooner, IsFound}
use Rattle.xt_base.specs.declared.refusals.Place.{Place}
use Rattle.xt_base.specs.declared.refusals.Refusal.{Refusal}
use Rattle.xt_base.proofs.First.{first_is}
use Rattle.xt_graph.specs.Graph.{HasCircle, IsOrder, AreCircles}
use Rattle.el_design.specs.declared.designs.Proc.{Proc}
use Rattle.el_design.specs.Plain.{Flat}
use Rattle.el_design.specs.View.{proc_of}
use Rattle.el_design.specs.Rules as rules
use Rattle.el_design.specs.Rules.{Breaks, IsBroken, IsFinite}
use Rattle.el_design.specs.Sound.{IsSound}
use Rattle.el_design.proofs.OrderLists.{con_nil}
use Rattle.ck_call.specs.declared.texts.Texts.{Texts}
use Rattle.ck_call.specs.inner.Texts.{texts_of}
use Rattle.ck_call.specs.inner.Breaks.{break_at, purity_breaks, misfit_breaks}
use Rattle.ck_call.specs.inner.Routines.{routine_rows, recursion_breaks}
use Rattle.ck_call.specs.inner.Placed.{AreReaches, place_breaks}
use Rattle.ck_call.specs.inner.Measures.{measures, routine_weights, nesting_breaks}
use Rattle.ck_call.specs.inner.Listed.{IsListed, IsFoundOf, UsesBroken, recursive, disables, host_inside, nested}
use Rattle.ck_call.proofs.Reports.{two_reports}
use Rattle.ck_call.proofs.Purities.{impure_broken, broken_impure}
use Rattle.ck_call.proofs.Misfits.{misfit_broken, broken_misfit}
use Rattle.ck_call.proofs.Recursions.{rows, recursive_broken, broken_recursive, recursion_circle, circle_recursion}
use Rattle.ck_call.proofs.PlaceBreaks.{disable_broken, host_broken, broken_place, Wrong}
use Rattle.ck_call.proofs.Nestings.{nest_broken, broken_nest}
use Rattle.ck_call.proofs.SizesAre.{process_size}

break_is : (r : Refusal) (n : ℕ) → r.rule.0 ≡ n → break_at n r.place ≡ r
break_is r n e = ap (λ k. break_at k r.place) (sym e)

-- ---- where there is recursion

listed_circles : (d : Flat) (labels : List ℕ) (o : Option Refusal) → HasCircle (rows d) → AreCircles (rows d) labels → IsListed (UsesBroken d) o (fold sooner o (recursion_breaks labels (texts_of d)))
listed_circles d labels o circle circles = record {
  breaks = recursion_breaks labels (texts_of d);
  is = refl;
  sound = λ r c. let b = broken_recursive d labels r circles c in recursive b.0 b.1;
  whole = whole;
}
  where
    never : {X : Type 0} → IsFinite d → X
    never finite = let x = circle_recursion d circle in absurd (finite x.0 x.1)

    whole : (r : Refusal) → UsesBroken d r → Contains (recursion_breaks labels (texts_of d)) r
    whole r (recursive e h) = subst (Contains (recursion_breaks labels (texts_of d))) (break_is r 51 e) (recursive_broken d labels r.place circles h)
    whole r (disables finite e h) = never finite
    whole r (host_inside finite e h) = never finite
    whole r (nested finite e h) = never finite

pub circles_listed : {E : Type 0} (result : Result (Unit {0}) E) (d : Flat) (t : Texts) (g : List (List ℕ)) (labels those : List ℕ) (o f : Option Refusal) → t ≡ texts_of d → g ≡ routine_rows t → HasCircle g → AreCircles g labels → those ≡ labels →
    OnOk result (f ≡ fold sooner o (recursion_breaks those t)) → OnOk result (IsListed (UsesBroken d) o f)
circles_listed (Ok x) d t g labels those o f e h circle circles s k =
    let i : g ≡ rows d = h ∙ ap routine_rows e in
    subst (IsListed (UsesBroken d) o) (sym (k ∙ ap₂ (λ y z. fold sooner o (recursion_breaks y z)) s e)) (listed_circles d labels o (subst HasCircle i circle) (subst (λ y. AreCircles y labels) i circles))
circles_listed (Err x) d t g labels those o f e h circle circles s k = tt

-- ---- where there is none

listed_finite : (d : Flat) (order : List ℕ) (reaches : List (List ℕ)) (o : Option Refusal) → IsSound d → IsOrder (rows d) order → (HasCircle (rows d) → ⊥) → AreReaches (texts_of d) reaches (length (texts_of d).procs) →
    IsListed (UsesBroken d) o (fold sooner (fold sooner o (place_breaks d (texts_of d) reaches)) (nesting_breaks (measures (rows d) (routine_weights (texts_of d)) order) (map (λ p. p.place) d.procs) (texts_of d)))
listed_finite d order reaches o sound ordered acyclic all = record {
  breaks = places ++ nests;
  is = two_reports o (fold sooner o places) (fold sooner (fold sooner o places) nests) places nests refl refl;
  sound = λ r c. back r (Contains-append_cases places nests r c);
  whole = whole;
}
  where
    finite : IsFinite d
    finite at h = acyclic (recursion_circle d at h)

    places : List Refusal
    places = place_breaks d (texts_of d) reaches

    nests : List Refusal
    nests = nesting_breaks (measures (rows d) (routine_weights (texts_of d)) order) (map (λ p. p.place) d.procs) (texts_of d)

    place : (r : Refusal) → Wrong d sound reaches all r → UsesBroken d r
    place r (inl h) = disables finite h.0 h.1
    place r (inr h) = host_inside finite h.0 h.1

    back : (r : Refusal) → Contains places r ⊎ Contains nests r → UsesBroken d r
    back r (inl k) = place r (broken_place d sound reaches all r k)
    back r (inr k) = let b = broken_nest d order ordered (process_size d sound finite order ordered) r k in nested finite b.0 b.1

    whole : (r : Refusal) → UsesBroken d r → Contains (places ++ nests) r
    whole r (recursive e h) = absurd (finite r.place h)
    whole r (disables f e h) = Contains-append_left places nests r (subst (Contains places) (break_is r 53 e) (disable_broken d sound reaches all r.place h))
    whole r (host_inside f e h) = Contains-append_left places nests r (subst (Contains places) (break_is r 62 e) (host_broken d sound reaches all r.place h))
    whole r (nested f e h) = Contains-append_right places nests r (subst (Contains nests) (break_is r 82 e) (nest_broken d order ordered (process_size d sound finite order ordered) r.place h))

places_are : (ps : List Proc) → map (λ p. p.place) ps ≡ map (λ p. p.place) (map proc_of ps)
places_are [] = refl
places_are (p ∷ ps) = ap (λ l. p.place ∷ l) (places_are ps)

pub finite_listed : {E : Type 0} (result : Result (Unit {0}) E) (d : Flat) (t : Texts) (g : List (List ℕ)) (order : List ℕ) (reaches those : List (List ℕ)) (ps : List Proc) (o mid f : Option Refusal) → IsSound d → t ≡ texts_of d → g ≡ routine_rows t →
    IsOrder g order × (HasCircle g → ⊥) → AreReaches t reaches (length t.procs) → those ≡ reaches → d.procs ≡ map proc_of ps → mid ≡ fold sooner o (place_breaks d t those) →
    OnOk result (f ≡ fold sooner mid (nesting_breaks (measures g (routine_weights t) order) (map (λ p. p.place) ps) t)) → OnOk result (IsListed (UsesBroken d) o f)
finite_listed (Ok x) d t g order reaches those ps o mid f sound e h ordered all s p m k =
    let i : g ≡ rows d = h ∙ ap routine_rows e in
    let q : map (λ p. p.place) ps ≡ map (λ p. p.place) d.procs = places_are ps ∙ ap (map (λ p. p.place)) (sym p) in
    subst (IsListed (UsesBroken d) o)
    (sym (k ∙ ap (λ z. fold sooner z (nesting_breaks (measures g (routine_weights t) order) (map (λ p. p.place) ps) t)) (m ∙ ap₂ (λ y z. fold sooner o (place_breaks d y z)) e s)
    ∙ ap₂ (λ y z. fold sooner (fold sooner o (place_breaks d (texts_of d) reaches)) (nesting_breaks (measures y (routine_weights z) order) (map (λ p. p.place) ps) z)) i e
    ∙ ap (λ z. fold sooner (fold sooner o (place_breaks d (texts_of d) reaches)) (nesting_breaks (measures (rows d) (routine_weights (texts_of d)) order) z (texts_of d))) q))
    (listed_finite d order reaches o sound (subst (λ y. IsOrder y order) i ordered.0) (λ c. ordered.1 (subst HasCircle (sym i) c)) (subst (λ y. AreReaches y reaches (length y.procs)) e all))
finite_listed (Err x) d t g order reaches those ps o mid f sound e h ordered all s p m k = tt

-- ---- all of them

found_of : (Broken : Refusal → Type 0) (all : List Refusal) (o : Option Refusal) → ((r : Refusal) → Contains all r → Broken r) → ((r : Refusal) → Broken r → Contains all r) → IsFound all o → IsFoundOf Broken o
found_of Broken all None sound whole e = λ r b. con_nil r (subst (λ l. Contains l r) e (whole r b))
found_of Broken all (Some named) sound whole f = record { broken = sound named f.broken; least = λ other b. f.least other (whole other b) }

module _ (d : Flat) where
  all_listed : {o f : Option Refusal} (l : IsListed (UsesBroken d) o f) {pass n : ℕ} {at : Place} → Breaks d pass n at → pass ≡ 11 → Contains (purity_breaks d ++ misfit_breaks d (texts_of d) ++ l.breaks) (break_at n at)
  all_listed l {at = at} (rules.impure h) e = Contains-append_left (purity_breaks d ++ misfit_breaks d (texts_of d)) l.breaks (break_at 50 at) (Contains-append_left (purity_breaks d) (misfit_breaks d (texts_of d)) (break_at 50 at) (impure_broken d at h))
  all_listed l {at = at} (rules.misfit h) e = Contains-append_left (purity_breaks d ++ misfit_breaks d (texts_of d)) l.breaks (break_at 52 at) (Contains-append_right (purity_breaks d) (misfit_breaks d (texts_of d)) (break_at 52 at) (misfit_broken d at h))
  all_listed l {at = at} (rules.recursive h) e = Contains-append_right (purity_breaks d ++ misfit_breaks d (texts_of d)) l.breaks (break_at 51 at) (l.whole (break_at 51 at) (recursive refl h))
  all_listed l {at = at} (rules.disables f h) e = Contains-append_right (purity_breaks d ++ misfit_breaks d (texts_of d)) l.breaks (break_at 53 at) (l.whole (break_at 53 at) (disables f refl h))
  all_listed l {at = at} (rules.host_inside f h) e = Contains-append_right (purity_breaks d ++ misfit_breaks d (texts_of d)) l.breaks (break_at 62 at) (l.whole (break_at 62 at) (host_inside f refl h))
  all_listed l {at = at} (rules.nested f h) e = Contains-append_right (purity_breaks d ++ misfit_breaks d (texts_of d)) l.breaks (break_at 82 at) (l.whole (break_at 82 at) (nested f refl h))
  all_listed l (rules.spins h) e = absurd (omega (arith, e))
  all_listed l (rules.turns h) e = absurd (omega (arith, e))
  all_listed l (rules.too_large h) e = absurd (omega (arith, e))
  all_listed l (rules.two_writers h) e = absurd (omega (arith, e))
  all_listed l (rules.both_kinds h) e = absurd (omega (arith, e))
  all_listed l (rules.across h) e = absurd (omega (arith, e))
  all_listed l (rules.nets_circle h) e = absurd (omega (arith, e))

  named : (r : Refusal) (n : ℕ) → r.rule.0 ≡ n → Breaks d 11 n r.place → IsBroken d 11 r
  named r n e b = subst (λ k. Breaks d 11 k r.place) (sym e) b

  uses_broken : (r : Refusal) → UsesBroken d r → IsBroken d 11 r
  uses_broken r (recursive e h) = named r 51 e (rules.recursive h)
  uses_broken r (disables f e h) = named r 53 e (rules.disables f h)
  uses_broken r (host_inside f e h) = named r 62 e (rules.host_inside f h)
  uses_broken r (nested f e h) = named r 82 e (rules.nested f h)

  listed_all : {o f : Option Refusal} (l : IsListed (UsesBroken d) o f) (r : Refusal) → Contains (purity_breaks d ++ misfit_breaks d (texts_of d) ++ l.breaks) r → IsBroken d 11 r
  listed_all l r c = two (Contains-append_cases (purity_breaks d ++ misfit_breaks d (texts_of d)) l.breaks r c)
    where
      one : Contains (purity_breaks d) r ⊎ Contains (misfit_breaks d (texts_of d)) r → IsBroken d 11 r
      one (inl k) = let b = broken_impure d r k in named r 50 b.0 (rules.impure b.1)
      one (inr k) = let b = broken_misfit d r k in named r 52 b.0 (rules.misfit b.1)

      two : Contains (purity_breaks d ++ misfit_breaks d (texts_of d)) r ⊎ Contains l.breaks r → IsBroken d 11 r
      two (inl k) = one (Contains-append_cases (purity_breaks d) (misfit_breaks d (texts_of d)) r k)
      two (inr k) = uses_broken r (l.sound r k)

  pub found : (t : Texts) (o f g h : Option Refusal) → t ≡ texts_of d → o ≡ None → f ≡ fold sooner o (purity_breaks d) → g ≡ fold sooner f (misfit_breaks d t) → IsListed (UsesBroken d) g h → IsFoundOf (IsBroken d 11) h
  found t o f g h e n a b l =
      let p : g ≡ fold sooner o (purity_breaks d ++ misfit_breaks d (texts_of d)) = two_reports o f g (purity_breaks d) (misfit_breaks d (texts_of d)) a (b ∙ ap (λ z. fold sooner f (misfit_breaks d z)) e) in
      let q : h ≡ fold sooner o (purity_breaks d ++ misfit_breaks d (texts_of d) ++ l.breaks) = two_reports o g h (purity_breaks d ++ misfit_breaks d (texts_of d)) l.breaks p l.is in
      found_of (IsBroken d 11) (purity_breaks d ++ misfit_breaks d (texts_of d) ++ l.breaks) h (listed_all l) (λ r k. all_listed l k refl)
      (subst (IsFound (purity_breaks d ++ misfit_breaks d (texts_of d) ++ l.breaks)) (sym (q ∙ ap (λ z. fold sooner z (purity_breaks d ++ misfit_breaks d (texts_of d) ++ l.breaks)) n)) (first_is (purity_breaks d ++ misfit_breaks d (texts_of d) ++ l.breaks)))
