-- An order in which the nodes can be evaluated: steps, each of which gives one node its value. All of it is this project's own.
use Rattle.std.specs.Prelude.{◌≡◌, ℕ, ◌<◌, Bool, true, false, List, length, take, fold, replicate, Some, slice_get, slice_set, get_or, All}
use Rattle.nt_core.specs.declared.netlist.Node.{Node}
use Rattle.nt_core.specs.Forms.{operands}
use Rattle.nt_run.specs.declared.orders.Step.{Step}

-- all of these nodes are marked
abbrev pub AreMarked : List Bool → List ℕ → Type 0
AreMarked marks places = All (λ a. get_or marks a false ≡ true) places

-- of so many nodes those that have a step
abbrev pub marked : ℕ → List Step → List Bool
marked count steps = fold (λ marks s. slice_set marks s.place true) (replicate count false) steps

-- a step is a node's, and comes after those of the nodes that it reads
pub record IsStep (nodes : List Node) (marks : List Bool) (s : Step) : Type 0 where
  pub node : Node
  pub at : slice_get nodes s.place ≡ Some node
  pub form : node.op ≡ s.op
  pub operands : AreMarked marks (operands node.op)

-- each step is such a one
abbrev pub AreSteps : List Node → List Step → Type 0
AreSteps nodes steps = (k : ℕ) (d : Step) → k < length steps → IsStep nodes (marked (length nodes) (take k steps)) (get_or steps k d)

-- and each node has a step
pub record IsOrder (nodes : List Node) (steps : List Step) : Type 0 where
  pub ordered : AreSteps nodes steps
  pub whole : (i : ℕ) → i < length nodes → get_or (marked (length nodes) steps) i false ≡ true

-- ---- an order that is made

-- the nodes that have a step are marked
pub record IsBegun (nodes : List Node) (steps : List Step) (marks : List Bool) : Type 0 where
  pub ordered : AreSteps nodes steps
  pub known : marks ≡ marked (length nodes) steps

-- a node has a step now, if those that it reads had theirs; and so have all that had one
pub record IsTried (nodes : List Node) (old : List Bool) (place : ℕ) (steps : List Step) (marks : List Bool) : Type 0 where
  pub begun : IsBegun nodes steps marks
  pub kept : (a : ℕ) → get_or old a false ≡ true → get_or marks a false ≡ true
  pub tried : (m : Node) → slice_get nodes place ≡ Some m → AreMarked old (operands m.op) → get_or marks place false ≡ true
