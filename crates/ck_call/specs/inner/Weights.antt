-- Sizes of statements by themselves, without the bodies of what they enable and call. This project's own.
use Rattle.std.specs.Prelude.{ℕ, ◌+◌, min, List, [], ◌∷◌, Option, Some, None}
use Rattle.el_design.specs.Plain.{Lvalue, ToVariable, ToPart, ToWord, ToWordPart, Both, Nowhere, Statement, Assign, For, Repeat, Enable, Host}
use Rattle.el_design.specs.View.{parts_of}
use Rattle.ck_call.specs.declared.nodes.Node.{Node}
use Rattle.ck_call.specs.declared.nodes.Node.TheVariants as node
use Rattle.ck_call.specs.inner.Nodes.{own_named}

-- a size, as far as the limit of a process is concerned
abbrev pub capped : ℕ → ℕ
capped n = min n 20001

abbrev pub node_weight : Node → ℕ
node_weight (node.Word v) = 2
node_weight node.Resize = 0
node_weight n = 1

abbrev pub nodes_weight : List Node → ℕ
nodes_weight [] = 0
nodes_weight (n ∷ ns) = node_weight n + nodes_weight ns

abbrev mutual
  -- a target beside its indexes
  pub target_weight : Lvalue → ℕ
  target_weight (ToVariable v) = 1
  target_weight (ToPart v r) = 2
  target_weight (ToWord v i) = 2
  target_weight (ToWordPart v i r) = 3
  target_weight (Both a b) = 1 + (target_weight a + parts_weight b)
  target_weight Nowhere = 1

  pub parts_weight : Lvalue → ℕ
  parts_weight (Both a b) = target_weight a + parts_weight b
  parts_weight t = 0

abbrev pub result_weight : Option Lvalue → ℕ
result_weight None = 0
result_weight (Some t) = target_weight t

abbrev pub base_weight : Statement → ℕ
base_weight (For at v first test next body) = 3
base_weight (Repeat at count body) = 2
base_weight (Enable at t ins outs) = 2
base_weight (Host at f ins result outs) = 2
base_weight x = 1

abbrev pub own_targets_weight : Statement → ℕ
own_targets_weight (Assign at to e held) = target_weight to
own_targets_weight (Enable at t ins outs) = parts_weight (parts_of outs)
own_targets_weight (Host at f ins result outs) = result_weight result + parts_weight (parts_of outs)
own_targets_weight x = 0

abbrev pub own_weight : Statement → ℕ
own_weight x = base_weight x + own_targets_weight x + nodes_weight (own_named x)
