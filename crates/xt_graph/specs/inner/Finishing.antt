-- How a graph is walked depth first: a node is finished behind all that it leads to first. All of it is this project's own.
use Rattle.std.specs.Prelude.{◌≡◌, ◌≤◌, ◌<◌, ◌==◌, ℕ, zero, suc, Bool, true, false, List, [], ◌∷◌, ◌++◌, Some, Contains, cond, map, replicate, length, slice_get, slice_set}
use Rattle.xt_graph.specs.declared.finishing.Visit.{Visit}
use Rattle.xt_graph.specs.declared.finishing.Visit.TheVariants.{Enter, Finish}
use Rattle.xt_graph.specs.Graph.{row, Points, Leads}
use Rattle.xt_graph.specs.inner.Searching.{is_marked}

-- the marks of the nodes that were entered, what is still to do, the last first done, and the nodes that are finished, in order
pub record Walking : Type 0 where
  pub marks : List Bool
  pub todo : List Visit
  pub finished : List ℕ

-- so many nodes are still to be entered
abbrev pub all_to_enter : ℕ → List Visit
all_to_enter zero = []
all_to_enter (suc n) = all_to_enter n ++ Enter n ∷ []

abbrev pub begun : ℕ → Walking
begun nodes = record { marks = replicate nodes false; todo = all_to_enter nodes; finished = [] }

abbrev pub entered : List (List ℕ) → Walking → ℕ → Walking
entered graph w node = record { marks = slice_set w.marks node true; todo = w.todo ++ Finish node ∷ map Enter (row graph node); finished = w.finished }

abbrev pub visited : List (List ℕ) → Walking → Visit → Walking
visited graph w (Enter node) = cond (is_marked w.marks node) w (entered graph w node)
visited graph w (Finish node) = record { marks = w.marks; todo = w.todo; finished = w.finished ++ node ∷ [] }

-- the place of a number in a list; one that isn't in it has a place past it
abbrev pub turn : List ℕ → ℕ → ℕ
turn [] node = node
turn (n ∷ ns) node = cond (n == node) 0 (suc (turn ns node))

-- Nodes are finished at turns. An edge from a node that is finished by the turn of u to one that is finished later leads to one that leads back to u.
pub record IsFinishing (graph : List (List ℕ)) (finished : List ℕ) : Type 0 where
  pub size : length finished ≡ length graph
  pub each : (n : ℕ) → n < length graph → Contains finished n
  pub nodes : (k n : ℕ) → slice_get finished k ≡ Some n → (n < length graph) × (turn finished n ≡ k)
  pub back : (u x g : ℕ) → turn finished x ≤ turn finished u → turn finished u < turn finished g → Points graph x g → Leads (Points graph) g u
