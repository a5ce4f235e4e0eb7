-- Names that are kept as vectors.
use Rattle.std.proofs.Common.{◌≡◌, ℕ, List, [], ◌∷◌, ap, refl, ◌||◌}
use Rattle.std.specs.Prelude.{bytes_eq}
use Rattle.std.specs.List.{list_any}
use Rattle.std.specs.declared.vec.Vec.{Vec}
use Rattle.vl_pre.specs.Macros.{is_among}
use Rattle.vl_pre.specs.MacroViews.{names_seen}

pub among_seen : {Z : Type 0} (names : List (Vec ℕ Z)) (name : List ℕ) → list_any (λ n. bytes_eq n.items name) names ≡ is_among (names_seen names) name
among_seen [] name = refl
among_seen (n ∷ names) name = ap (λ b. bytes_eq n.items name || b) (among_seen names name)
