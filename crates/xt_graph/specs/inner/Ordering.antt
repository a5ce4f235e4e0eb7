-- Whether each node of a list stands behind those that it points to. All of it is this project's own.
use Rattle.std.specs.Prelude.{ℕ, Bool, true, ◌&&◌, List, [], ◌∷◌, slice_set}
use Rattle.std.specs.List.{list_all}
use Rattle.xt_graph.specs.Graph.{row}
use Rattle.xt_graph.specs.inner.Searching.{is_marked}

abbrev pub are_marked : List Bool → List ℕ → Bool
are_marked marks nodes = list_all (is_marked marks) nodes

-- the nodes before are marked
abbrev pub stand_behind : List (List ℕ) → List Bool → List ℕ → Bool
stand_behind graph marks [] = true
stand_behind graph marks (node ∷ nodes) = are_marked marks (row graph node) && stand_behind graph (slice_set marks node true) nodes
