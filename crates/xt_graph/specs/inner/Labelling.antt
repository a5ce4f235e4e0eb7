-- How nodes are labelled: from each root that isn't found yet, all that lead to it and aren't found yet get its label. All of it is this project's own.
use Rattle.std.specs.Prelude.{ℕ, ◌-◌, List, fold, length, drop, slice_set}
use Rattle.xt_graph.specs.inner.Searching.{Found, find_node, spread}

pub record Labelled : Type 0 where
  pub search : Found
  pub labels : List ℕ

abbrev pub label_all : List ℕ → List ℕ → ℕ → List ℕ
label_all labels nodes label = fold (λ ls n. slice_set ls n label) labels nodes

abbrev pub spread_from : List (List ℕ) → Found → ℕ → Found
spread_from back s root = spread back (length s.marks - length s.found) (length s.found) (find_node s root)

abbrev pub labelled : List (List ℕ) → Labelled → ℕ → Labelled
labelled back l root =
    record { search = spread_from back l.search root; labels = label_all l.labels (drop (length l.search.found) (spread_from back l.search root).found) root }
