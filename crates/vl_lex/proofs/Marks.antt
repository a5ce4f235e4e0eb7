-- Operators at the front of a text: the first listed is the longest.
use Rattle.std.proofs.Common.{◌≡◌, ℕ, ◌≤◌, List, [], ◌∷◌, ◌++◌, Bool, true, false, ◌&&◌, Option, Some, None, length, drop, find, bytes_eq, nat_eq, nat_le, sym, refl, ap, ◌∙◌, subst, arith}
use Rattle.std.specs.List.{list_any, list_all, starts_with}
use Rattle.std.specs.Option.{option_map}
use Rattle.std.proofs.lemmas.Bool.{leb-true, and_parts, or_left, or_right, both_ways}
use Rattle.std.proofs.lemmas.Bool.Decides.{Decides-eqb}
use Rattle.std.proofs.lemmas.Slice.Eq.{bytes_eq-Decides, starts_is}
use Rattle.vl_lex.specs.Fronts.{IsLongestFront, LongestFront}
use Rattle.vl_lex.specs.Operators.{operators, is_operator, IsOperator}
use Rattle.vl_lex.proofs.Runs.{longest_from, none_from}

-- each is no shorter than all behind it
abbrev descends : List (List ℕ) → Bool
descends [] = true
descends (x ∷ list) = list_all (λ y. nat_le (length y) (length x)) list && descends list

-- what all listed pass, one that is listed passes
pub all_at : (q : List ℕ → Bool) (list : List (List ℕ)) (x : List ℕ) → list_all q list ≡ true → list_any (λ y. bytes_eq y x) list ≡ true → q x ≡ true
all_at q [] x all listed = cc
all_at q (y ∷ list) x all listed = go (bytes_eq y x) refl (and_parts (q y) (list_all q list) all) (all_at q list x) where
  go : (b : Bool) → bytes_eq y x ≡ b → (q y ≡ true) × (list_all q list ≡ true) → (list_all q list ≡ true → list_any (λ z. bytes_eq z x) list ≡ true → q x ≡ true) → q x ≡ true
  go true is parts more = subst (λ z. q z ≡ true) ((bytes_eq-Decides y x).0 is) parts.0
  go false is parts more = more parts.1 (rw is at listed)

-- a listed one that passes is no longer than the first that passes
pub record FirstFound (passes : List ℕ → Bool) (list : List (List ℕ)) (others : List ℕ) : Type 0 where
  pub found : List ℕ
  pub is : find passes list ≡ Some found
  pub size : length others ≤ length found

first_found : (passes : List ℕ → Bool) (list : List (List ℕ)) (others : List ℕ) → descends list ≡ true → list_any (λ x. bytes_eq x others) list ≡ true → passes others ≡ true → FirstFound passes list others
first_found passes [] others down listed pass = cc
first_found passes (x ∷ list) others down listed pass = go (passes x) refl (bytes_eq x others) refl (and_parts _ _ down) (first_found passes list others) where
  go : (b : Bool) → passes x ≡ b → (e : Bool) → bytes_eq x others ≡ e → (list_all (λ y. nat_le (length y) (length x)) list ≡ true) × (descends list ≡ true) → (descends list ≡ true → list_any (λ y. bytes_eq y others) list ≡ true → passes others ≡ true → FirstFound passes list others) → FirstFound passes (x ∷ list) others
  go true passes_x true same parts more = record { found = x; is = rw passes_x refl; size = omega (arith, ap length ((bytes_eq-Decides x others).0 same)) }
  go true passes_x false same parts more =
      let later : list_any (λ y. bytes_eq y others) list ≡ true = rw same at listed in
      let short : nat_le (length others) (length x) ≡ true = all_at (λ y. nat_le (length y) (length x)) list others parts.0 later in
      record { found = x; is = rw passes_x refl; size = leb-true _ _ short }
  go false fails_x true same parts more = absurd (both_ways (passes x) fails_x (subst (λ z. passes z ≡ true) (sym ((bytes_eq-Decides x others).0 same)) pass))
  go false fails_x false same parts more =
      let later = more parts.1 (rw same at listed) pass in
      record { found = later.found; is = rw fails_x later.is; size = later.size }

-- the first that passes is listed and passes
find_is : (passes : List ℕ → Bool) (list : List (List ℕ)) (x : List ℕ) → find passes list ≡ Some x → (passes x ≡ true) × (list_any (λ y. bytes_eq y x) list ≡ true)
find_is passes [] x is = cc
find_is passes (y ∷ list) x is = go (passes y) refl (find_is passes list x) where
  go : (b : Bool) → passes y ≡ b → (find passes list ≡ Some x → (passes x ≡ true) × (list_any (λ z. bytes_eq z x) list ≡ true)) → (passes x ≡ true) × (list_any (λ z. bytes_eq z x) (y ∷ list) ≡ true)
  go true passes_y more =
      let here : Some y ≡ Some x = rw passes_y at is in
      let same : y ≡ x = cc in
      (subst (λ z. passes z ≡ true) same passes_y, or_left _ _ ((bytes_eq-Decides y x).1 same))
  go false fails_y more =
      let later : find passes list ≡ Some x = rw fails_y at is in
      let both = more later in
      (both.0, or_right _ _ both.1)

-- the length of the first operator with which the text begins is that of the longest
pub operator_front : (rest : List ℕ) → LongestFront IsOperator rest (option_map length (find (λ x. starts_with nat_eq rest x) operators))
unfolding operators is_operator
operator_front rest = go (find (λ x. starts_with nat_eq rest x) operators) refl where
  begins : (others beyond : List ℕ) → rest ≡ others ++ beyond → starts_with nat_eq rest others ≡ true
  begins others beyond same = (starts_is Decides-eqb rest others _ refl).1 beyond same

  go : (o : Option (List ℕ)) → find (λ x. starts_with nat_eq rest x) operators ≡ o → LongestFront IsOperator rest (option_map length o)
  go None is = none_from rest (λ others beyond same has. let first = first_found (λ x. starts_with nat_eq rest x) operators others refl has (begins others beyond same) in let some = first.is in cc)
  go (Some found) is =
      let both = find_is (λ x. starts_with nat_eq rest x) operators found is in
      let split : rest ≡ found ++ drop (length found) rest = (starts_is Decides-eqb rest found _ refl).0 both.0 in
      subst (λ l. IsLongestFront IsOperator l (length found)) (sym split)
      (longest_from found (drop (length found) rest) both.1
      (λ others beyond same has.
      let first = first_found (λ x. starts_with nat_eq rest x) operators others refl has (begins others beyond (split ∙ same)) in
      let some : Some first.found ≡ Some found = sym first.is ∙ is in
      let one : first.found ≡ found = cc in
      omega (arith, first.size, ap length one)))
