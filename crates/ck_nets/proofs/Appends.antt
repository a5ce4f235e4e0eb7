-- One part behind another.
use Rattle.std.proofs.Common.{◌≡◌, ◌++◌, List, sym, ap, ◌∙◌}
use Rattle.std.proofs.lemmas.List.{append_assoc}

pub two : {X : Type 0} (xs a b : List X) → (xs ++ a) ++ b ≡ xs ++ (a ++ b)
two xs a b = append_assoc xs a b

pub three : {X : Type 0} (xs a b c : List X) → ((xs ++ a) ++ b) ++ c ≡ xs ++ ((a ++ b) ++ c)
three xs a b c = two (xs ++ a) b c ∙ two xs a (b ++ c) ∙ ap (λ y. xs ++ y) (sym (two a b c))
