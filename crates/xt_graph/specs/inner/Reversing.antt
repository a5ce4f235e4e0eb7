-- How the edges of a graph are turned round, row by row. All of it is this project's own.
use Rattle.std.specs.Prelude.{ℕ, suc, List, [], ◌∷◌, ◌++◌, fold, slice_index_or, slice_set}

-- a node is added to a row
abbrev pub noted : ℕ → List (List ℕ) → ℕ → List (List ℕ)
noted node rows target = slice_set rows target (slice_index_or rows target [] ++ node ∷ [])

-- to each row of a node that one points to
abbrev pub noted_all : ℕ → List (List ℕ) → List ℕ → List (List ℕ)
noted_all node rows targets = fold (noted node) rows targets

-- so for all nodes from one on
abbrev pub turned : ℕ → List (List ℕ) → List (List ℕ) → List (List ℕ)
turned node rows [] = rows
turned node rows (targets ∷ others) = turned (suc node) (noted_all node rows targets) others
