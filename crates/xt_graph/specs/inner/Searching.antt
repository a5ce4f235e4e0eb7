-- How nodes are found: each is marked, and those to which it points are found in its turn. All of it is this project's own.
use Rattle.std.specs.Prelude.{ℕ, zero, suc, Bool, true, List, [], ◌∷◌, ◌++◌, Option, Some, None, fold, cond, slice_get, slice_index_or, slice_set}
use Rattle.xt_graph.specs.Graph.{row}

pub record Found : Type 0 where
  pub marks : List Bool
  pub found : List ℕ

-- a number that is no node counts as marked
abbrev pub is_marked : List Bool → ℕ → Bool
is_marked marks node = slice_index_or marks node true

abbrev pub find_node : Found → ℕ → Found
find_node s node = cond (is_marked s.marks node) s (record { marks = slice_set s.marks node true; found = s.found ++ node ∷ [] })

abbrev pub find_all : Found → List ℕ → Found
find_all s nodes = fold find_node s nodes

-- with a node if there is one
abbrev pub with_node : {X : Type 0} → X → (ℕ → X) → Option ℕ → X
with_node none some None = none
with_node none some (Some node) = some node

-- so many turns, from one on
abbrev pub spread : List (List ℕ) → ℕ → ℕ → Found → Found
spread graph zero turn s = s
spread graph (suc more) turn s = with_node s (λ node. spread graph more (suc turn) (find_all s (row graph node))) (slice_get s.found turn)
