-- Parts put one behind another.
use Rattle.std.proofs.Common.{◌≡◌, ◌++◌, ◌+◌, ◌<◌, ℕ, Bool, true, false, nat_lt, List, [], ◌∷◌, refl, sym, ◌∙◌, ap, length, drop, slice_index_or, arith}
use Rattle.std.specs.Prelude.{flat_map}
use Rattle.std.proofs.lemmas.List.{append_assoc, at_drop_more, get_or_append_left, get_or_push}

pub two : {X : Type 0} (xs a b : List X) → (xs ++ a) ++ b ≡ xs ++ (a ++ b)
two xs a b = append_assoc xs a b

pub three : {X : Type 0} (xs a b c : List X) → ((xs ++ a) ++ b) ++ c ≡ xs ++ (a ++ (b ++ c))
three xs a b c = two (xs ++ a) b c ∙ two xs a (b ++ c)

-- a module's name, its header in two parts, and its items
pub whole_module : {X : Type 0} (xs a b c d : List X) → ((xs ++ a) ++ (b ++ c)) ++ d ≡ xs ++ (a ++ (b ++ (c ++ d)))
whole_module xs a b c d = three xs a (b ++ c) d ∙ ap (λ y. xs ++ (a ++ y)) (two b c d)

-- one item more is done: what is there with what is left stays the same
pub one_done : {X Y : Type 0} (f : X → List Y) (xs : List X) (i : ℕ) (x : X) (all into new : List Y) → i < length xs → x ≡ slice_index_or xs i x
    → all ≡ into ++ flat_map f (drop i xs) → new ≡ into ++ f x → all ≡ new ++ flat_map f (drop (i + 1) xs)
one_done f xs i x all into new lt e h k = h ∙ ap (λ y. into ++ y) (at_drop_more (flat_map f) xs i x lt)
    ∙ ap (λ y. into ++ (f y ++ flat_map f (drop (i + 1) xs))) (sym e) ∙ sym (two into (f x) (flat_map f (drop (i + 1) xs))) ∙ ap (λ y. y ++ flat_map f (drop (i + 1) xs)) (sym k)

pub one_more : {X : Type 0} (xs : List X) (x : X) (b : List X) → (xs ++ (x ∷ [])) ++ b ≡ xs ++ (x ∷ b)
one_more xs x b = two xs (x ∷ []) b

pub chain : {X : Type 0} (old mid new a b c : List X) → new ≡ mid ++ c → mid ≡ old ++ a → c ≡ b → new ≡ old ++ (a ++ b)
chain old mid new a b c k h e = k ∙ ap (λ x. x ++ c) h ∙ two old a c ∙ ap (λ x. old ++ (a ++ x)) e
