-- Chains in which nothing comes twice are no longer than there are things: tasks and functions that don't lead back to themselves nest so deep at most.
use Rattle.std.proofs.Common.{◌≡◌, inl, inr, ℕ, zero, suc, ◌+◌, ◌<◌, ◌≤◌, List, [], ◌∷◌, map, length, refl, ap, subst, arith}
use Rattle.xt_base.specs.declared.refusals.Place.{Place}
use Rattle.el_design.specs.Plain.{Statement, Flat}
use Rattle.el_design.specs.Calls.{Routine, BodyIs, Leads, LeadsTo, there, onward, leads_back}
use Rattle.el_design.specs.Rules.{IsFinite}
use Rattle.el_design.proofs.OrderSane.{In}
use Rattle.el_design.proofs.OrderDepth.{Apart, Below, few}

-- ---- chains of things of which some lead to others

-- steps lead from one to another, one at least
pub data Comes {R : Type 0} (To : R → R → Type 0) : R → R → Type 0 where
  at_once : {r q : R} → To r q → Comes To r q
  by_way : {r q s : R} → To r q → Comes To q s → Comes To r s

comes_on : {R : Type 0} {To : R → R → Type 0} {r q s : R} → Comes To r q → To q s → Comes To r s
comes_on (at_once t) u = by_way t (at_once u)
comes_on (by_way t c) u = by_way t (comes_on c u)

module _ (R : Type 0) (Has : R → Type 0) (To : R → R → Type 0) where
  -- so many steps can be taken from a thing
  abbrev pub Nests : ℕ → R → Type 0
  Nests zero r = Has r
  Nests (suc n) r = Has r × ((q : R) × To r q × Nests n q)

  -- things that are numbered from 0 to a bound, where none leads to itself
  module _ (number : R → ℕ) (bound : ℕ) (within : (r : R) → Has r → number r < bound) (one : (r q : R) → Has r → Has q → number r ≡ number q → r ≡ q) (never : (r : R) → Comes To r r → ⊥) where
    -- the things above one
    abbrev AreAbove : List R → R → Type 0
    AreAbove [] r = Unit {0}
    AreAbove (u ∷ us) r = Has u × Comes To u r × AreAbove us r

    above_on : (us : List R) (r q : R) → AreAbove us r → To r q → AreAbove us q
    above_on [] r q h t = tt
    above_on (u ∷ us) r q h t = (h.0, comes_on h.1 t, above_on us r q h.2 t)

    fresh : (us : List R) (r : R) → AreAbove us r → Has r → In (number r) (map number us) → ⊥
    fresh [] r h here i = i
    fresh (u ∷ us) r h here (inl e) = never r (subst (λ x. Comes To x r) (one u r h.0 here e) h.1)
    fresh (u ∷ us) r h here (inr i) = fresh us r h.2 here i

    all_below : (us : List R) (r : R) → AreAbove us r → Below bound (map number us)
    all_below [] r h = tt
    all_below (u ∷ us) r h = (within u h.0, all_below us r h.2)

    mapped : (us : List R) → length (map number us) ≡ length us
    mapped [] = refl
    mapped (u ∷ us) = ap suc (mapped us)

    room : (n : ℕ) (us : List R) (r : R) → AreAbove us r → Apart (map number us) → Nests n r → length us + n < bound
    room zero us r above apart here =
        let h : length (number r ∷ map number us) ≤ bound = few bound (number r ∷ map number us) (fresh us r above here, apart) (within r here, all_below us r above) in
        let e : length (map number us) ≡ length us = mapped us in omega arith
    room (suc n) us r above apart (here, (q, t, more)) =
        let h : length (r ∷ us) + n < bound = room n (r ∷ us) q (here, at_once t, above_on us r q above t) (fresh us r above here, apart) more in omega arith

    -- no chain is so long
    pub nests_few : (n : ℕ) (r : R) → Nests n r → n < bound
    nests_few n r h = let k : 0 + n < bound = room n [] r tt tt h in omega arith

-- ---- routines that lead to routines

abbrev pub HasBody : Flat → Routine → Type 0
HasBody d r = (s : Statement) × BodyIs d r s

abbrev pub LeadsOn : Flat → Routine → Routine → Type 0
LeadsOn d r q = (at : Place) × Leads d r q at

leads_far : {d : Flat} {r q : Routine} → Comes (LeadsOn d) r q → (b : Routine) × (at : Place) × Leads d r b at × LeadsTo d b q
leads_far (at_once t) = (_, t.0, t.1, there)
leads_far (by_way {q = b} t c) = let x = leads_far c in (b, t.0, t.1, onward x.2 x.3)

pub not_to_itself : (d : Flat) → IsFinite d → (r : Routine) → Comes (LeadsOn d) r r → ⊥
not_to_itself d finite r c = let x = leads_far c in finite x.1 (leads_back x.2 x.3)
