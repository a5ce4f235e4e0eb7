-- Instances and drivers, worked by hand: a module `leaf` with a parameter P, inputs a and b, an output y and a `localparam` L, and a module
-- `top` with an input c, nets w and v, and a variable r. Each token stands on the line of its number, so that a place tells its token.
use Rattle.std.proofs.Common.{◌≡◌, ◌++◌, ℕ, List, [], ◌∷◌, Option, Some, None, true, false, refl}
use Rattle.std.specs.Prelude.{codes}
use Rattle.std.specs.Option.{option_and_then}
use Rattle.xt_base.specs.declared.refusals.Refusal.{Refusal}
use Rattle.vl_tree.specs.Begins.{expr_at}
use Rattle.vl_tree.specs.declared.exprs.Expr.{Expr, out-Expr}
use Rattle.vl_tree.specs.declared.exprs.Expr.TheOpen as expr_layer
use Rattle.vl_tree.specs.declared.exprs.Select.{Select}
use Rattle.vl_tree.specs.declared.exprs.Expr.TheVariants as expr
use Rattle.vl_tree.specs.declared.exprs.Select.TheVariants as select
use Rattle.vl_tree.specs.declared.modules.Conns.{Conns}
use Rattle.vl_tree.specs.declared.modules.Conns.TheVariants as conns
use Rattle.vl_tree.specs.declared.modules.Dir.TheVariants as dir
use Rattle.vl_tree.specs.declared.modules.Direction.TheVariants as direction
use Rattle.vl_tree.specs.declared.modules.Item.{Item}
use Rattle.vl_tree.specs.declared.modules.Item.TheVariants as item
use Rattle.vl_tree.specs.declared.modules.Module.{Module}
use Rattle.vl_tree.specs.declared.modules.Named.{Named}
use Rattle.vl_tree.specs.declared.modules.ParamWord.TheVariants as word
use Rattle.vl_tree.specs.declared.modules.Ptype.TheVariants as ptype
use Rattle.vl_tree.specs.declared.modules.Tree.{Tree}
use Rattle.vl_names.specs.declared.kinds.Declaration.{Declaration}
use Rattle.vl_names.specs.declared.kinds.EntityKind.TheVariants as kind
use Rattle.vl_names.specs.declared.kinds.Side.TheVariants as side
use Rattle.vl_names.specs.Declarations.{declared, inner, definitions}
use Rattle.vl_names.specs.Interfaces.{interface_of}
use Rattle.el_scope.specs.declared.connecting.Connection.{Connection}
use Rattle.el_scope.specs.declared.driving.Driver.{Driver}
use Rattle.el_scope.specs.Connecting.{interfaces_of, item_connections, connection_at, ordered_connections, connections_break, net_named, whole_name}
use Rattle.el_scope.specs.Driving.{port_drives, assign_drives, connection_drives, module_drives, drivers_break}
use Rattle.el_scope.specs.Table.{SymbolTable}
use Rattle.el_scope.proofs.Rows.{table_of, breaks}

abbrev leaf : Module
leaf = record {
  at = 0;
  name = 1;
  params = Some (record { at = 2; ptype = Some (ptype.Vector 2 false None); name = 2; value = expr.Decimal 2 2 } ∷ []);
  ports = Some (
      record { at = 3; dir = Some (dir.Net 3 direction.Input false false None); name = 3; value = None } ∷
      record { at = 4; dir = None; name = 4; value = None } ∷
      record { at = 5; dir = Some (dir.Net 5 direction.Output false false None); name = 5; value = None } ∷ []);
  items = item.Params 6 word.Localparam (ptype.Vector 6 false None) (record { at = 6; name = 6; value = expr.Decimal 6 6 } ∷ []) ∷ [];
}

-- `top` with these items behind its header
abbrev top : List Item → Module
top items = record {
  at = 8;
  name = 9;
  params = None;
  ports = Some (record { at = 10; dir = Some (dir.Net 10 direction.Input false false None); name = 10; value = None } ∷ []);
  items = items;
}

abbrev tree : Tree
tree = record { modules = leaf ∷ top [] ∷ [] }

-- tokens 20 to 31 are names that stand somewhere in `top`
abbrev known : SymbolTable
known = table_of
    (codes "module" ∷ codes "leaf" ∷ codes "P" ∷ codes "a" ∷ codes "b" ∷ codes "y" ∷ codes "L" ∷ codes "endmodule" ∷ codes "module" ∷
    codes "top" ∷ codes "c" ∷ codes "w" ∷ codes "v" ∷ codes "r" ∷ codes "u" ∷ codes "u" ∷ codes "u" ∷ codes "u" ∷ codes "u" ∷ codes "u" ∷
    codes "leaf" ∷ codes "a" ∷ codes "a" ∷ codes "y" ∷ codes "none" ∷ codes "P" ∷ codes "L" ∷ codes "w" ∷ codes "v" ∷ codes "r" ∷
    codes "c" ∷ codes "w" ∷ [])
    (inner kind.Module 1 definitions false ∷ declared kind.Param 2 1 false side.Parameter ∷ declared kind.Net 3 1 false side.Input ∷
    declared kind.Net 4 1 false side.Input ∷ declared kind.Net 5 1 false side.Output ∷ inner kind.Param 6 1 false ∷
    inner kind.Module 9 definitions false ∷ declared kind.Net 10 9 false side.Input ∷ inner kind.Net 11 9 true ∷ inner kind.Net 12 9 false ∷
    inner kind.Var 13 9 false ∷ [])

abbrev name : ℕ → Expr
name at = expr.Name at at []

-- `.name(value)` at the token of the name
abbrev by_name : ℕ → Option Expr → Named
by_name at value = record { at = at; name = at; value = value }

-- `leaf #(..) u(..);`, where token 20 or another is the module's name
abbrev instance_of : ℕ → Option Conns → Option Conns → Item
instance_of at params ports = item.Instances at at params (record { at = 14; name = 14; conns = ports } ∷ [])

abbrev breaks_of : Item → List Refusal
breaks_of i = connections_break known (item_connections known (interfaces_of tree) 9 i)

abbrev named_ports : List Named → List Refusal
named_ports ns = breaks_of (instance_of 20 None (Some (conns.Named 20 ns)))

abbrev overridden : Conns → List Refusal
overridden c = breaks_of (instance_of 20 (Some c) None)

-- ---- what instances reach

reached_of_leaf : interface_of leaf ≡ record {
  name = 1;
  ports = declared kind.Net 3 1 false side.Input ∷ declared kind.Net 4 1 false side.Input ∷ declared kind.Net 5 1 false side.Output ∷ [];
  parameters = declared kind.Param 2 1 false side.Parameter ∷ [];
}
reached_of_leaf = refl

-- ---- connections by name

port_twice : named_ports (by_name 21 (Some (name 27)) ∷ by_name 22 (Some (name 28)) ∷ []) ≡ breaks 34 22 ∷ []
port_twice = refl

no_such_port : named_ports (by_name 24 (Some (name 27)) ∷ []) ≡ breaks 34 24 ∷ []
no_such_port = refl

parameter_as_port : named_ports (by_name 25 (Some (name 27)) ∷ []) ≡ breaks 34 25 ∷ []
parameter_as_port = refl

port_left_open : named_ports (by_name 23 None ∷ []) ≡ []
port_left_open = refl

-- ---- in order: leaf has three ports, of which y is the third, and one parameter; the `localparam` stands in no order

abbrev port_a : Declaration
port_a = declared kind.Net 3 1 false side.Input

abbrev port_y : Declaration
port_y = declared kind.Net 5 1 false side.Output

third_port : (e : Expr) → ordered_connections known 9 (interface_of leaf).ports 2 (e ∷ []) ≡ connection_at known 9 (expr_at e) (Some port_y) false (Some e) ∷ []
third_port e = refl

fourth_port : (e : Expr) → ordered_connections known 9 (interface_of leaf).ports 3 (e ∷ []) ≡ connection_at known 9 (expr_at e) None false (Some e) ∷ []
fourth_port e = refl

second_parameter : (e : Expr) → ordered_connections known 9 (interface_of leaf).parameters 1 (e ∷ []) ≡ connection_at known 9 (expr_at e) None false (Some e) ∷ []
second_parameter e = refl

one_too_many : connections_break known (record { at = 30; reached = None; again = false; given = true; net = Some 11 } ∷ []) ≡ breaks 34 30 ∷ []
one_too_many = refl

-- ---- an output is connected to a whole net: `.y(..)` by the layer of its expression

abbrev as_output : expr_layer.Expr-F Expr Select → List Refusal
as_output l = connections_break known (record { at = 23; reached = Some port_y; again = false; given = true; net = option_and_then (net_named known 9) (whole_name l) } ∷ [])

by_its_layer : (e : Expr) → named_ports (by_name 23 (Some e) ∷ []) ≡ as_output (out-Expr e)
by_its_layer e = refl

output_to_net : as_output (expr_layer.Name 27 27 []) ≡ []
output_to_net = refl

output_to_nothing_known : as_output (expr_layer.Name 24 24 []) ≡ breaks 34 23 ∷ []
output_to_nothing_known = refl

output_to_bit : as_output (expr_layer.Name 27 27 (select.Index 28 (expr.Decimal 29 29) ∷ [])) ≡ breaks 34 23 ∷ []
output_to_bit = refl

output_to_concatenation : as_output (expr_layer.Concat 27 (name 28 ∷ [])) ≡ breaks 34 23 ∷ []
output_to_concatenation = refl

output_to_variable : as_output (expr_layer.Name 29 29 []) ≡ breaks 34 23 ∷ []
output_to_variable = refl

-- an output at a token on a whole net
abbrev whole : ℕ → ℕ → Connection
whole at net = record { at = at; reached = Some port_y; again = false; given = true; net = Some net }

input_to_bit : named_ports (by_name 21 (Some (expr.Name 27 27 (select.Index 28 (expr.Decimal 29 29) ∷ []))) ∷ []) ≡ []
input_to_bit = refl

-- ---- overrides: a parameter, not one that is `localparam`

override_by_name : overridden (conns.Named 20 (by_name 25 (Some (expr.Decimal 27 27)) ∷ [])) ≡ []
override_by_name = refl

override_of_nothing : overridden (conns.Named 20 (by_name 25 None ∷ [])) ≡ []
override_of_nothing = refl

override_of_localparam : overridden (conns.Named 20 (by_name 26 (Some (expr.Decimal 27 27)) ∷ [])) ≡ breaks 34 26 ∷ []
override_of_localparam = refl

override_of_port : overridden (conns.Named 20 (by_name 21 (Some (expr.Decimal 27 27)) ∷ [])) ≡ breaks 34 21 ∷ []
override_of_port = refl

override_in_order : overridden (conns.Ordered 20 (expr.Decimal 27 27 ∷ [])) ≡ []
override_in_order = refl

-- where there is no module of the name, only the name is refused
no_module : breaks_of (instance_of 24 None (Some (conns.Named 20 (by_name 24 (Some (name 27)) ∷ [])))) ≡ []
no_module = refl

-- ---- drivers

abbrev driven : List Item → List Refusal
driven items = drivers_break known (module_drives known (interfaces_of tree) (top items))

abbrev assigns : ℕ → Item
assigns at = item.Assigns at (record { at = at; name = at; value = expr.Decimal at at } ∷ [])

-- `wire w = 1;`, which declares w
abbrev wire_w : Option Expr → Item
wire_w value = item.Wires 11 false None (record { at = 11; name = 11; value = value } ∷ [])

nets_apart : driven (assigns 27 ∷ assigns 28 ∷ []) ≡ []
nets_apart = refl

net_twice : driven (assigns 27 ∷ assigns 31 ∷ []) ≡ breaks 38 31 ∷ []
net_twice = refl

wire_without_value : driven (wire_w None ∷ assigns 27 ∷ []) ≡ []
wire_without_value = refl

wire_with_value : driven (wire_w (Some (expr.Decimal 12 12)) ∷ assigns 27 ∷ []) ≡ breaks 38 27 ∷ []
wire_with_value = refl

-- the one that stands first in the text is the first
wire_behind_assign : driven (assigns 27 ∷ wire_w (Some (expr.Decimal 12 12)) ∷ []) ≡ breaks 38 11 ∷ []
wire_behind_assign = refl

input_assigned : driven (assigns 30 ∷ []) ≡ breaks 38 30 ∷ []
input_assigned = refl

variable_assigned : driven (assigns 29 ∷ assigns 29 ∷ []) ≡ []
variable_assigned = refl

abbrev driven_by : List Driver → List Refusal
driven_by ds = drivers_break known ds

-- an `assign` to the name at a token
abbrev assign_to : ℕ → List Driver
assign_to at = assign_drives known 9 (record { at = at; name = at; value = expr.Decimal at at })

output_alone : driven_by (connection_drives (whole 23 11) ++ assign_to 28) ≡ []
output_alone = refl

output_and_assign : driven_by (connection_drives (whole 23 11) ++ assign_to 31) ≡ breaks 38 31 ∷ []
output_and_assign = refl

outputs_on_one_net : driven_by (connection_drives (whole 23 11) ++ connection_drives (whole 5 11)) ≡ breaks 38 5 ∷ []
outputs_on_one_net = refl

output_on_input : driven_by (port_drives (declared kind.Net 10 9 false side.Input) ++ connection_drives (whole 23 10)) ≡ breaks 38 23 ∷ []
output_on_input = refl

input_drives_nothing : driven_by (connection_drives (record { at = 21; reached = Some port_a; again = false; given = true; net = Some 11 }) ++ assign_to 31) ≡ []
input_drives_nothing = refl
