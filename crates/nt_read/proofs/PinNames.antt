-- The names of pins, and the places where they stand.
use Rattle.std.proofs.Common.{◌≡◌, ◌≢◌, ℕ, ◌+◌, ◌<◌, ◌==◌, Bool, true, false, not, ◌&&◌, List, [], ◌∷◌, ◌++◌, length, get_or, cond, nat_eq, refl, sym, ap, ◌∙◌, arith, codes, bytes_eq, IsTrue}
use Rattle.std.specs.Prelude.{AllPairs}
use Rattle.std.specs.List.{prefix_len, list_all, starts_with}
use Rattle.std.proofs.lemmas.Bool.Decides.{nat_tests}
use Rattle.std.proofs.lemmas.Bool.{eqb-true}
use Rattle.std.proofs.lemmas.List.Sums.{position_or_len_is}
use Rattle.std.proofs.lemmas.Slice.Eq.{bytes_eq-Decides}
use Rattle.std.proofs.Math.ListN.{get_or-map}
use Rattle.std.proofs.lemmas.List.{length-map}
use Rattle.nt_core.specs.declared.netlist.Wire.{Wire}
use Rattle.xt_base.specs.Identifiers.{begins_word, is_in_word, is_word, is_identifier}
use Rattle.nt_core.specs.Names.{is_pin_name}
use Rattle.nt_read.specs.Words.{is_digit}
use Rattle.nt_read.specs.Names.{names_of}
use Rattle.nt_read.specs.Forms.{place_of}
use Rattle.nt_read.proofs.Numbers.{both}

not_both : (p : ℕ → Bool) (x r : ℕ) → p x ≡ true → p r ≡ false → nat_eq x r ≡ false
not_both p x r h k = go (nat_eq x r) refl
  where
    go : (b : Bool) → nat_eq x r ≡ b → b ≡ false
    go true e = sym h ∙ ap p (eqb-true x r e) ∙ k
    go false e = refl

stopped : (p : ℕ → Bool) (r : ℕ) (rs : List ℕ) → prefix_len p (r ∷ rs) ≡ 0 → p r ≡ false
stopped p r rs stop = go (p r) stop
  where
    go : (b : Bool) → cond b (1 + prefix_len p rs) 0 ≡ 0 → b ≡ false
    go true h = absurd (omega (arith, h))
    go false h = refl

-- what follows a word doesn't lengthen it
pub starts_same : (p : ℕ → Bool) (needle name rest : List ℕ) → list_all p needle ≡ true → prefix_len p rest ≡ 0 → starts_with nat_eq (name ++ rest) needle ≡ starts_with nat_eq name needle
starts_same p [] name rest all stop = refl
starts_same p (x ∷ xs) [] [] all stop = refl
starts_same p (x ∷ xs) [] (r ∷ rs) all stop = ap (λ b. b && starts_with nat_eq rs xs) (not_both p x r (both (p x) (list_all p xs) all).0 (stopped p r rs stop))
starts_same p (x ∷ xs) (c ∷ cs) rest all stop = ap (λ b. nat_eq x c && b) (starts_same p xs cs rest (both (p x) (list_all p xs) all).1 stop)

not_true : (b : Bool) → not b ≡ true → b ≡ false
not_true true h = cc
not_true false h = refl

pub pin_word : (name : List ℕ) → IsTrue (is_pin_name name) → is_word name ≡ true
pin_word name h = (both (is_word name) _ (both (is_identifier name) (not (starts_with nat_eq name (codes "xtc_"))) h).0).0

pub pin_not_own : (name rest : List ℕ) → IsTrue (is_pin_name name) → prefix_len is_in_word rest ≡ 0 → starts_with nat_eq (name ++ rest) (codes "xtc_") ≡ false
pin_not_own name rest h stop = starts_same is_in_word (codes "xtc_") name rest refl stop ∙ not_true _ (both (is_identifier name) (not (starts_with nat_eq name (codes "xtc_"))) h).1

letter_tests : (c : ℕ) → begins_word c ≡ true → (is_digit c ≡ false) × ((c == 91) ≡ false)
letter_tests c h = (grind (arith, nat_tests, h), grind (arith, nat_tests, h))

-- a word begins with a letter
pub word_first : (name rest : List ℕ) → is_word name ≡ true → (begins_word (get_or (name ++ rest) 0 0) ≡ true) × (is_digit (get_or (name ++ rest) 0 0) ≡ false) × ((get_or (name ++ rest) 0 0 == 91) ≡ false)
word_first [] rest h = cc
word_first (c ∷ cs) rest h =
    let letter : begins_word c ≡ true = (both (begins_word c) (list_all is_in_word cs) h).0 in
    (letter, (letter_tests c letter).0, (letter_tests c letter).1)

-- ---- places

-- a name stands at the place of its pin
pub place_is_pin : (pins : List Wire) (p : ℕ) (d : Wire) → p < length pins → AllPairs (λ a b. a.name ≢ b.name) pins → place_of (names_of pins) (get_or pins p d).name ≡ p
place_is_pin pins p d within apart = position_or_len_is _ (names_of pins) p d.name (omega (arith, within, length-map pins (λ (x : Wire). x.name))) before (λ h. (bytes_eq-Decides _ _).1 (sym (get_or-map (λ (x : Wire). x.name) pins p d)))
  where
    before : (k : ℕ) → k < p → bytes_eq (get_or pins p d).name (get_or (names_of pins) k d.name) ≡ false
    before k h = go (bytes_eq (get_or pins p d).name (get_or (names_of pins) k d.name)) refl
      where
        go : (b : Bool) → bytes_eq (get_or pins p d).name (get_or (names_of pins) k d.name) ≡ b → b ≡ false
        go true e = absurd (apart k p d h within (sym ((bytes_eq-Decides _ _).0 e ∙ get_or-map (λ (x : Wire). x.name) pins k d)))
        go false e = refl
