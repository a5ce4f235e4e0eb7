-- How a list of nodes grows as one is built. All of it is this project's own.
use Rattle.std.specs.Prelude.{◌≡◌, ℕ, List, [], ◌∷◌, ◌++◌, ◌⊎◌, Some, slice_get, Contains}
use Rattle.nt_core.specs.declared.netlist.Node.{Node}
use Rattle.nt_core.specs.declared.netlist.Op.{Op}
use Rattle.nt_core.specs.Forms.{widths, form_width}
use Rattle.nt_core.specs.NodeValue.{value_of, values, node_value}
use Rattle.nt_core.specs.Sources.{Sources}

-- a form with the width that it gives
abbrev pub made : List Node → Op → Node
made nodes op = record { width = form_width (widths nodes) op; op = op }

-- the form's node has this number: the old nodes contain it, or it was added at their end; its value is the form's over those of the old nodes
pub record IsIncluded (old : List Node) (op : Op) (new : List Node) (i : ℕ) : Type 0 where
  pub there : slice_get new i ≡ Some (made old op)
  pub nodes : (new ≡ old) ⊎ ((new ≡ old ++ made old op ∷ []) × (¬ Contains old (made old op)))
  pub value : (s : Sources) → node_value new s i ≡ value_of s (values old s) op

-- the old nodes stand at the front of the new ones
pub record Grows (old new : List Node) : Type 0 where
  pub more : List Node
  pub is : new ≡ old ++ more
