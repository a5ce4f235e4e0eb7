-- Which nets each net reads, as a graph, and where nets lead back to themselves. All of it is this project's own.
use Rattle.std.specs.Prelude.{ℕ, ◌==◌, Bool, List, [], ◌∷◌, ◌++◌, Option, Some, None, cond, map, suc, slice_index_or, length, nat_lt, ◌&&◌}
use Rattle.std.specs.List.{list_any}
use Rattle.xt_base.specs.declared.refusals.Refusal.{Refusal}
use Rattle.el_design.specs.Plain.{Expr, FlatNet, Flat}
use Rattle.el_design.specs.Names.{nets_in}

abbrev pub named_in : Option Expr → List ℕ
named_in None = []
named_in (Some e) = nets_in e

-- the nets that a net's expression names
abbrev pub read_by_net : FlatNet → List ℕ
read_by_net net = named_in net.value

-- the graph of nets: each points to those that it reads
abbrev pub graph_of : Flat → List (List ℕ)
graph_of d = map read_by_net d.nets

-- a number is a node and has a label
abbrev pub has_label : List ℕ → ℕ → ℕ → Bool
has_label labels label node = nat_lt node (length labels) && slice_index_or labels node 0 == label

-- a node points to one of its own label
abbrev pub is_circular : List ℕ → ℕ → List ℕ → Bool
is_circular labels node targets = list_any (has_label labels (slice_index_or labels node 0)) targets

abbrev pub break_of : FlatNet → Refusal
break_of net = record { rule = record { 0 = 73 }; place = net.place }

-- the breaks of the nets from one on
abbrev pub breaks_from : List ℕ → ℕ → List FlatNet → List Refusal
breaks_from labels node [] = []
breaks_from labels node (net ∷ nets) = cond (is_circular labels node (read_by_net net)) (break_of net ∷ []) [] ++ breaks_from labels (suc node) nets
