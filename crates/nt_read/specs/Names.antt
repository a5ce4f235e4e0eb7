-- Names that are put one after another. All of it is this project's own.
use Rattle.std.specs.Prelude.{ℕ, Bool, true, not, ◌&&◌, List, [], ◌∷◌, ◌++◌, bytes_eq, map}
use Rattle.std.specs.List.{list_any}
use Rattle.nt_core.specs.declared.netlist.Wire.{Wire}

-- the names of pins
abbrev pub names_of : List Wire → List (List ℕ)
names_of pins = map (λ p. p.name) pins

-- none of the names is known, and none comes twice
abbrev pub are_new : List (List ℕ) → List (List ℕ) → Bool
are_new known [] = true
are_new known (name ∷ names) = not (list_any (λ k. bytes_eq name k) known) && are_new (known ++ name ∷ []) names
