-- What the nodes of an expression name and call, by structure. This project's own.
use Rattle.std.specs.Prelude.{List, [], ◌∷◌, ◌++◌, Option, Some, None}
use Rattle.el_design.specs.Plain.{Expr, Number, NetValue, Variable, MemoryWord, Select, Unary, Binary, Choice, Concat, Copies, Sign, Resize, Call, Exprs, NoExpr, More, Range, Bit, Part, Up, Down, Lvalue, ToVariable, ToPart, ToWord, ToWordPart, Both, Nowhere, Statement, Assign, If, Case, Arm, For, While, Repeat, Enable, Host}
use Rattle.el_design.specs.View.{exprs_of, parts_of, PlainArm}
use Rattle.el_design.specs.Calls.{count_of_exprs}
use Rattle.ck_call.specs.declared.nodes.Node.{Node}
use Rattle.ck_call.specs.declared.nodes.Node.TheVariants as node

-- one node
abbrev pub node_of : Expr → Node
node_of (NetValue s n) = node.Net n
node_of (Variable s v) = node.Var v
node_of (MemoryWord s v i) = node.Word v
node_of (Resize s e) = node.Resize
node_of (Call s f es) = node.Call f (count_of_exprs es)
node_of e = node.Other

-- all nodes, itself first
abbrev mutual
  pub named : Expr → List Node
  named (Number s b) = node.Other ∷ []
  named (NetValue s n) = node.Net n ∷ []
  named (Variable s v) = node.Var v ∷ []
  named (MemoryWord s v i) = node.Word v ∷ named i
  named (Select s e r lsb) = node.Other ∷ named e ++ named_range r
  named (Unary s op e) = node.Other ∷ named e
  named (Binary s op a b) = node.Other ∷ named a ++ named b
  named (Choice s c a b) = node.Other ∷ named c ++ named a ++ named b
  named (Concat s es) = node.Other ∷ named_all es
  named (Copies s n e) = node.Other ∷ named e
  named (Sign s e) = node.Other ∷ named e
  named (Resize s e) = node.Resize ∷ named e
  named (Call s f es) = node.Call f (count_of_exprs es) ∷ named_all es

  pub named_all : Exprs → List Node
  named_all NoExpr = []
  named_all (More e es) = named e ++ named_all es

  pub named_range : Range → List Node
  named_range (Bit e) = named e
  named_range (Part high low) = []
  named_range (Up e w) = named e
  named_range (Down e w) = named e

-- ---- of targets and statements

-- the nodes of the indexes in a target
abbrev pub indexes_named : Lvalue → List Node
indexes_named (ToVariable v) = []
indexes_named (ToPart v r) = named_range r
indexes_named (ToWord v i) = named i
indexes_named (ToWordPart v i r) = named i ++ named_range r
indexes_named (Both a b) = indexes_named a ++ indexes_named b
indexes_named Nowhere = []

abbrev pub result_named : Option Lvalue → List Node
result_named None = []
result_named (Some t) = indexes_named t

-- the nodes of the labels of arms
abbrev pub arms_named : List PlainArm → List Node
arms_named [] = []
arms_named (a ∷ more) = named_all (exprs_of a.labels) ++ arms_named more

abbrev pub labels_named : Statement → List Node
labels_named (Arm on labels body others) = named_all (exprs_of labels) ++ labels_named others
labels_named x = []

-- the nodes of a statement's own expressions
abbrev pub own_named : Statement → List Node
own_named (Assign at to e held) = indexes_named to ++ named e
own_named (If at test a b) = named test
own_named (Case at on arms) = named on ++ labels_named arms
own_named (For at v first test next body) = named first ++ named test ++ named next
own_named (While at test body) = named test
own_named (Repeat at count body) = named count
own_named (Enable at t ins outs) = named_all (exprs_of ins) ++ indexes_named (parts_of outs)
own_named (Host at f ins result outs) = named_all (exprs_of ins) ++ result_named result ++ indexes_named (parts_of outs)
own_named x = []
