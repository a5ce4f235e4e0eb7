-- Directed graphs, in the usual words. That a number past the last node is none, and what points to it points nowhere, is this project's own.
use Rattle.std.specs.Prelude.{◌≡◌, ◌<◌, ◌↔◌, ℕ, Bool, true, false, List, [], Some, Contains, length, slice_get, slice_index_or}

-- A graph is the list of its rows: of each node, from 0 on, the nodes that it points to.
abbrev pub row : List (List ℕ) → ℕ → List ℕ
row graph node = slice_index_or graph node []

-- a node points to a node
pub record Points (graph : List (List ℕ)) (a b : ℕ) : Type 0 where
  pub listed : Contains (row graph a) b
  pub node : b < length graph

-- a leads to b: by one edge, or one after another, or none where a is b
pub data Leads (Edge : ℕ → ℕ → Type 0) : ℕ → ℕ → Type 0 where
  there : {a : ℕ} → Leads Edge a a
  onward : {a b c : ℕ} → Edge a b → Leads Edge b c → Leads Edge a c

-- a node points to one that leads back to it
pub record HasCircle (graph : List (List ℕ)) : Type 0 where
  pub from : ℕ
  pub to : ℕ
  pub edge : Points graph from to
  pub back : Leads (Points graph) to from

-- an order of the nodes: each once, after those that it points to
pub record IsOrder (graph : List (List ℕ)) (order : List ℕ) : Type 0 where
  pub each : (n : ℕ) → n < length graph → Contains order n
  pub size : length order ≡ length graph
  pub after : (i n m : ℕ) → slice_get order i ≡ Some n → Points graph n m → (j : ℕ) × (j < i) × (slice_get order j ≡ Some m)

-- a label for each node: two have the same exactly where each leads to the other
pub record AreCircles (graph : List (List ℕ)) (labels : List ℕ) : Type 0 where
  pub size : length labels ≡ length graph
  pub same : (a b : ℕ) → a < length graph → b < length graph →
      (slice_index_or labels a 0 ≡ slice_index_or labels b 0) ↔ (Leads (Points graph) a b × Leads (Points graph) b a)

-- one of some nodes leads to a node
pub record IsReached (graph : List (List ℕ)) (from : List ℕ) (node : ℕ) : Type 0 where
  pub first : ℕ
  pub listed : Contains from first
  pub leads : Leads (Points graph) first node

-- a mark for each node that is reached, and for no other
pub record AreReached (graph : List (List ℕ)) (from : List ℕ) (marks : List Bool) : Type 0 where
  pub size : length marks ≡ length graph
  pub each : (n : ℕ) → n < length graph → (slice_index_or marks n false ≡ true) ↔ IsReached graph from n

-- a graph with each edge turned round
pub record IsReverse (graph turned : List (List ℕ)) : Type 0 where
  pub size : length turned ≡ length graph
  pub each : (a b : ℕ) → Points turned a b ↔ Points graph b a
