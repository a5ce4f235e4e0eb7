-- The name of a pin by its place.
use Rattle.std.proofs.Common.{◌≡◌, ℕ, ◌<◌, ◌≤◌, List, [], map, length, get_or, sym, ap, ◌∙◌, subst, arith}
use Rattle.std.proofs.lemmas.List.{get_or-map, get_or_past, length-map}
use Rattle.nt_core.specs.declared.netlist.Wire.{Wire}

-- of a pin that there is
pub name_at : (xs ys : List Wire) (i : ℕ) (w : Wire) (name : List ℕ) → xs ≡ ys → i < length xs → w ≡ get_or xs i w → name ≡ w.name → name ≡ get_or (map (λ p. p.name) ys) i []
name_at xs ys i w name same within at is =
    is ∙ ap (λ p. p.name) at ∙ sym (get_or-map (λ p. p.name) xs i w [] within) ∙ ap (λ zs. get_or (map (λ p. p.name) zs) i []) same

-- and of none
pub name_past : (xs ys : List Wire) (i : ℕ) → xs ≡ ys → length xs ≤ i → [] ≡ get_or (map (λ p. p.name) ys) i []
name_past xs ys i same past =
    let less : length (map (λ p. p.name) ys) ≤ i = simp length-map (subst (λ zs. length zs ≤ i) same past) in
    sym (get_or_past (map (λ p. p.name) ys) i [] less)
