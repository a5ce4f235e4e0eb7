-- Reads before a sure assignment, by the nodes that statements name. This project's own.
use Rattle.std.specs.Prelude.{ℕ, ◌&&◌, ◌||◌, not, Bool, false, List, [], ◌∷◌, ◌++◌}
use Rattle.std.specs.List.{list_any}
use Rattle.el_design.specs.Plain.{Statement, Null, Skip, Seq, Block, Assign, If, Case, Arm, For, While, Repeat, Forever, Wait, Enable, Disable, Host}
use Rattle.el_design.specs.Purity.{contains_number, both_of, assigned_after}
use Rattle.el_design.specs.View.{PlainArm}
use Rattle.ck_call.specs.declared.nodes.Node.{Node}
use Rattle.ck_call.specs.declared.nodes.Node.TheVariants as node
use Rattle.ck_call.specs.inner.Nodes.{named, own_named}

abbrev pub is_unassigned : List ℕ → List ℕ → ℕ → Bool
is_unassigned watched before v = contains_number watched v && not (contains_number before v)

abbrev pub node_early : List ℕ → List ℕ → Node → Bool
node_early watched before (node.Var v) = is_unassigned watched before v
node_early watched before (node.Word v) = is_unassigned watched before v
node_early watched before n = false

abbrev pub any_early : List ℕ → List ℕ → List Node → Bool
any_early watched before ns = list_any (node_early watched before) ns

abbrev pub own_early : List ℕ → List ℕ → Statement → Bool
own_early watched before x = any_early watched before (own_named x)

abbrev pub early_by : List ℕ → List ℕ → Statement → Bool
early_by watched before Null = false
early_by watched before Skip = false
early_by watched before (Seq a b) = early_by watched before a || early_by watched (assigned_after before a) b
early_by watched before (Block at mark body) = early_by watched before body
early_by watched before (Assign at to e held) = own_early watched before (Assign at to e held)
early_by watched before (If at test a b) = any_early watched before (named test) || early_by watched before a || early_by watched before b
early_by watched before (Case at on arms) = own_early watched before (Case at on arms) || early_by watched before arms
early_by watched before (Arm on labels body others) = early_by watched before body || early_by watched before others
early_by watched before (For at v first test next body) =
    any_early watched before (named first)
    || any_early watched (before ++ v ∷ []) (named test)
    || early_by watched (before ++ v ∷ []) body
    || any_early watched (assigned_after (before ++ v ∷ []) body) (named next)
early_by watched before (While at test body) = any_early watched before (named test) || early_by watched before body
early_by watched before (Repeat at count body) = any_early watched before (named count) || early_by watched before body
early_by watched before (Forever at body) = early_by watched before body
early_by watched before (Wait at falling) = false
early_by watched before (Enable at t ins outs) = own_early watched before (Enable at t ins outs)
early_by watched before (Disable at m) = false
early_by watched before (Host at f ins result outs) = own_early watched before (Host at f ins result outs)

-- what the arms of a `case` leave, and read early; `rest` is what the default leaves
abbrev pub arms_after : List ℕ → List PlainArm → List ℕ → List ℕ
arms_after before [] rest = rest
arms_after before (a ∷ more) rest = both_of (assigned_after before a.body) (arms_after before more rest)

abbrev pub arms_early : List ℕ → List ℕ → List PlainArm → Bool
arms_early watched before [] = false
arms_early watched before (a ∷ more) = early_by watched before a.body || arms_early watched before more
