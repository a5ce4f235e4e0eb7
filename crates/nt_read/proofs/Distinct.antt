-- Pins no two of which have one name.
use Rattle.std.proofs.Common.{◌≡◌, ◌≢◌, ℕ, zero, suc, Bool, true, false, not, ◌&&◌, ◌||◌, List, [], ◌∷◌, ◌++◌, length, refl, sym, ap, ◌∙◌, arith, append_assoc, append-nil, bytes_eq}
use Rattle.std.specs.Prelude.{AllPairs}
use Rattle.std.specs.List.{list_any, AllByRecursion}
use Rattle.std.proofs.lemmas.List.{map-append}
use Rattle.std.proofs.lemmas.List.Folds.{list_any-append}
use Rattle.std.proofs.lemmas.List.Elements.{recursion_from_All, All-from_recursion}
use Rattle.std.proofs.lemmas.Slice.Eq.{bytes_eq-Decides}
use Rattle.nt_core.specs.declared.netlist.Wire.{Wire}
use Rattle.nt_read.specs.Names.{names_of, are_new}
use Rattle.nt_read.proofs.Numbers.{both, and_is}

abbrev pub AreApart : List Wire → Type 0
AreApart pins = AllPairs (λ a b. a.name ≢ b.name) pins

-- the same by cases on the list
abbrev Apart : List Wire → Type 0
Apart [] = Unit {0}
Apart (p ∷ ps) = AllByRecursion (λ (q : Wire). p.name ≢ q.name) ps × Apart ps

pairs_from : (pins : List Wire) → Apart pins → AreApart pins
pairs_from [] apart i j d less within e = omega (arith, within)
pairs_from (p ∷ ps) apart zero zero d less within e = omega (arith, less)
pairs_from (p ∷ ps) apart zero (suc j) d less within e = All-from_recursion (λ (q : Wire). p.name ≢ q.name) ps apart.0 j d (omega (arith, within)) e
pairs_from (p ∷ ps) apart (suc i) zero d less within e = omega (arith, less)
pairs_from (p ∷ ps) apart (suc i) (suc j) d less within e = pairs_from ps apart.1 i j d (omega (arith, less)) (omega (arith, within)) e

from_pairs : (pins : List Wire) → AreApart pins → Apart pins
from_pairs [] apart = tt
from_pairs (p ∷ ps) apart = (
  recursion_from_All (λ (q : Wire). p.name ≢ q.name) ps (λ j d within e. apart 0 (suc j) d (omega arith) (omega (arith, within)) e),
  from_pairs ps (λ i j d less within e. apart (suc i) (suc j) d (omega (arith, less)) (omega (arith, within)) e),
)

neither : (a b : Bool) → (a || b) ≡ false → (a ≡ false) × (b ≡ false)
neither true b h = cc
neither false b h = (refl, h)

off : (b : Bool) → not b ≡ true → b ≡ false
off true h = cc
off false h = refl

differs : (a b : List ℕ) → bytes_eq a b ≡ false → a ≢ b
differs a b h e = no_both (bytes_eq a b) h ((bytes_eq-Decides a b).1 e)
  where
    no_both : (x : Bool) → x ≡ false → x ≡ true → ⊥
    no_both true h k = cc
    no_both false h k = cc

same_not : (a b : List ℕ) → a ≢ b → bytes_eq a b ≡ false
same_not a b h = go (bytes_eq a b) refl
  where
    go : (x : Bool) → bytes_eq a b ≡ x → x ≡ false
    go true e = absurd (h ((bytes_eq-Decides a b).0 e))
    go false e = refl

abbrev Unknown : List (List ℕ) → Wire → Type 0
Unknown known p = list_any (λ k. bytes_eq p.name k) known ≡ false

-- those that aren't among the known names and one more
less_known : (known : List (List ℕ)) (name : List ℕ) (ps : List Wire) → AllByRecursion (Unknown (known ++ name ∷ [])) ps → AllByRecursion (Unknown known) ps × AllByRecursion (λ (q : Wire). name ≢ q.name) ps
less_known known name [] unknown = (tt, tt)
less_known known name (q ∷ ps) unknown =
    let parts : (list_any (λ k. bytes_eq q.name k) known ≡ false) × ((bytes_eq q.name name || false) ≡ false) = neither (list_any (λ k. bytes_eq q.name k) known) (bytes_eq q.name name || false) (sym (list_any-append (λ k. bytes_eq q.name k) known (name ∷ [])) ∙ unknown.0) in
    let rest : AllByRecursion (Unknown known) ps × AllByRecursion (λ (r : Wire). name ≢ r.name) ps = less_known known name ps unknown.1 in
    ((parts.0, rest.0), (λ e. differs q.name name (neither (bytes_eq q.name name) false parts.1).0 (sym e), rest.1))

more_known : (known : List (List ℕ)) (name : List ℕ) (ps : List Wire) → AllByRecursion (Unknown known) ps → AllByRecursion (λ (q : Wire). name ≢ q.name) ps → AllByRecursion (Unknown (known ++ name ∷ [])) ps
more_known known name [] unknown other = tt
more_known known name (q ∷ ps) unknown other = (
  list_any-append (λ k. bytes_eq q.name k) known (name ∷ []) ∙ ap (λ b. b || (bytes_eq q.name name || false)) unknown.0 ∙ ap (λ b. b || false) (same_not q.name name (λ e. other.0 (sym e))),
  more_known known name ps unknown.1 other.1,
)

new_apart : (known : List (List ℕ)) (pins : List Wire) → are_new known (names_of pins) ≡ true → Apart pins × AllByRecursion (Unknown known) pins
new_apart known [] new = (tt, tt)
new_apart known (p ∷ ps) new =
    let parts : (not (list_any (λ k. bytes_eq p.name k) known) ≡ true) × (are_new (known ++ p.name ∷ []) (names_of ps) ≡ true) = both _ _ new in
    let rest : Apart ps × AllByRecursion (Unknown (known ++ p.name ∷ [])) ps = new_apart (known ++ p.name ∷ []) ps parts.1 in
    let less : AllByRecursion (Unknown known) ps × AllByRecursion (λ (q : Wire). p.name ≢ q.name) ps = less_known known p.name ps rest.1 in
    ((less.1, rest.0), (off _ parts.0, less.0))

apart_new : (known : List (List ℕ)) (pins : List Wire) → Apart pins → AllByRecursion (Unknown known) pins → are_new known (names_of pins) ≡ true
apart_new known [] apart unknown = refl
apart_new known (p ∷ ps) apart unknown = and_is _ _ (ap not unknown.0) (apart_new (known ++ p.name ∷ []) ps apart.1 (more_known known p.name ps unknown.1 apart.0))

new_append : (known xs ys : List (List ℕ)) → are_new known (xs ++ ys) ≡ (are_new known xs && are_new (known ++ xs) ys)
new_append known [] ys = ap (λ k. are_new k ys) (sym (append-nil known))
new_append known (x ∷ xs) ys =
    ap (λ b. not (list_any (λ k. bytes_eq x k) known) && b) (new_append (known ++ x ∷ []) xs ys ∙ ap (λ k. are_new (known ++ x ∷ []) xs && are_new k ys) (append_assoc known (x ∷ []) xs))
    ∙ regroup (not (list_any (λ k. bytes_eq x k) known)) (are_new (known ++ x ∷ []) xs) (are_new (known ++ x ∷ xs) ys)
  where
    regroup : (a b c : Bool) → (a && (b && c)) ≡ ((a && b) && c)
    regroup true b c = refl
    regroup false b c = refl

none_known : (pins : List Wire) → AllByRecursion (Unknown []) pins
none_known [] = tt
none_known (p ∷ ps) = (refl, none_known ps)

-- names that are put one after another, none of them known, are those of distinct pins
pub distinct : (inputs outputs : List Wire) → are_new [] (names_of inputs) ≡ true → are_new (names_of inputs) (names_of outputs) ≡ true → AreApart (inputs ++ outputs)
distinct inputs outputs first second = pairs_from (inputs ++ outputs) (new_apart [] (inputs ++ outputs)
    (ap (are_new []) (map-append (λ (p : Wire). p.name) inputs outputs) ∙ new_append [] (names_of inputs) (names_of outputs) ∙ and_is _ _ first second)).0

pub distinct_both : (inputs outputs : List Wire) → AreApart (inputs ++ outputs) → (are_new [] (names_of inputs) ≡ true) × (are_new (names_of inputs) (names_of outputs) ≡ true)
distinct_both inputs outputs apart = both _ _ (sym (new_append [] (names_of inputs) (names_of outputs)) ∙ ap (are_new []) (sym (map-append (λ (p : Wire). p.name) inputs outputs)) ∙ apart_new [] (inputs ++ outputs) (from_pairs (inputs ++ outputs) apart) (none_known (inputs ++ outputs)))

-- ---- as they are put

pub never : (b : Bool) → b ≡ false → b ≡ true → ⊥
never true h k = cc
never false h k = cc

pub first_twice : (inputs outputs : List Wire) (known : List (List ℕ)) (fresh : Bool) → known ≡ [] → fresh ≡ are_new known (names_of inputs) → fresh ≡ false → AreApart (inputs ++ outputs) → ⊥
first_twice inputs outputs known fresh empty is twice apart = never fresh twice (is ∙ ap (λ k. are_new k (names_of inputs)) empty ∙ (distinct_both inputs outputs apart).0)

pub second_twice : (inputs outputs : List Wire) (known : List (List ℕ)) (fresh : Bool) → known ≡ names_of inputs → fresh ≡ are_new known (names_of outputs) → fresh ≡ false → AreApart (inputs ++ outputs) → ⊥
second_twice inputs outputs known fresh first is twice apart = never fresh twice (is ∙ ap (λ k. are_new k (names_of outputs)) first ∙ (distinct_both inputs outputs apart).1)

pub both_new : (inputs outputs : List Wire) (before known : List (List ℕ)) (one two : Bool) → before ≡ [] → one ≡ are_new before (names_of inputs) → one ≡ true → known ≡ names_of inputs → two ≡ are_new known (names_of outputs) → two ≡ true → AreApart (inputs ++ outputs)
both_new inputs outputs before known one two empty one_is new known_is two_is other =
    distinct inputs outputs (ap (λ k. are_new k (names_of inputs)) (sym empty) ∙ sym one_is ∙ new) (ap (λ k. are_new k (names_of outputs)) (sym known_is) ∙ sym two_is ∙ other)

pub no_keys : {X : Type 0} (keys : List X) → length keys ≡ 0 → keys ≡ []
no_keys [] h = refl
no_keys (k ∷ ks) h = absurd (omega (arith, h))
