-- Nodes that compare as equal are one.
use Rattle.std.proofs.Common.{rules, arith, ◌≡◌, List, Contains, true, ap, ◌∙◌}
use Rattle.std.specs.List.{list_any}
use Rattle.std.proofs.lemmas.Bool.{false≢true}
use Rattle.std.proofs.lemmas.List.Folds.{list_any_at}
use Rattle.nt_core.specs.declared.netlist.Node.{Node}
use Rattle.nt_core.specs.declared.netlist.Op.{Op}
use Rattle.nt_core.specs.declared.netlist.Op.TheVariants.{Pin, Ack, Ret, Reg, Const, Word, Not, And, Or, Xor, Add, Sub, Mul, Div, Rem, SDiv, SRem, Shl, Shr, Sar, Eq, Lt, SLt, Parity, Choice, Concat, Slice, Copies}
use Rattle.nt_core.specs.contracts.netlist.NodePartialEq.TheImpl as node_eq
use Rattle.nt_core.specs.contracts.netlist.OpPartialEq.TheImpl as op_eq

same_op : (x y : Op) → op_eq.eq-value.it x y ≡ true → x ≡ y
same_op (Pin a b) (Pin x y) h = search rules
same_op (Ack a) (Ack x) h = search rules
same_op (Ret a b c) (Ret x y z) h = search rules
same_op (Reg a b) (Reg x y) h = search rules
same_op (Const a) (Const x) h = search rules
same_op (Word a b c) (Word x y z) h = search rules
same_op (Not a) (Not x) h = search rules
same_op (And a b) (And x y) h = search rules
same_op (Or a b) (Or x y) h = search rules
same_op (Xor a b) (Xor x y) h = search rules
same_op (Add a b) (Add x y) h = search rules
same_op (Sub a b) (Sub x y) h = search rules
same_op (Mul a b) (Mul x y) h = search rules
same_op (Div a b) (Div x y) h = search rules
same_op (Rem a b) (Rem x y) h = search rules
same_op (SDiv a b) (SDiv x y) h = search rules
same_op (SRem a b) (SRem x y) h = search rules
same_op (Shl a b) (Shl x y) h = search rules
same_op (Shr a b) (Shr x y) h = search rules
same_op (Sar a b) (Sar x y) h = search rules
same_op (Eq a b) (Eq x y) h = search rules
same_op (Lt a b) (Lt x y) h = search rules
same_op (SLt a b) (SLt x y) h = search rules
same_op (Parity a) (Parity x) h = search rules
same_op (Choice a b c) (Choice x y z) h = search rules
same_op (Concat a b) (Concat x y) h = search rules
same_op (Slice a b c) (Slice x y z) h = search rules
same_op (Copies a b) (Copies x y) h = search rules
same_op _ _ h = absurd (false≢true h)

pub same_node : (m n : Node) → node_eq.eq-value.it m n ≡ true → m ≡ n
same_node m n h = grind (arith, same_op m.op n.op)

itself : (m : Node) → node_eq.eq-value.it m m ≡ true
itself m = search rules

-- a test for an equal node finds it
pub known : (ns : List Node) (m : Node) → Contains ns m → list_any (node_eq.eq-value.it m) ns ≡ true
known ns m has = list_any_at (node_eq.eq-value.it m) ns has.0 m has.1 (ap (node_eq.eq-value.it m) has.2 ∙ itself m)
