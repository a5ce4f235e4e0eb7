-- Rule 34: what is wrong with the connections and overrides of an instance (IEEE 1364-2005, 12.2.2 and 12.3.5 to 12.3.9). A connection
-- by name names a port of the instance's module, and each at most once; those in order are no more than there are; an output is
-- connected to a whole net or to nothing. An override likewise names a parameter that may be overridden.
use Rattle.std.specs.Prelude.{ℕ, ◌+◌, ◌||◌, ◌&&◌, ◌==◌, not, Bool, true, false, List, [], ◌∷◌, ◌++◌, Option, Some, None, bytes_eq, flat_map, is_none, is_some, map, slice_get, if◌then◌else◌}
use Rattle.std.specs.List.{find}
use Rattle.std.specs.Option.{option_map, option_map_or, option_and_then}
use Rattle.xt_base.specs.declared.refusals.Refusal.{Refusal}
use Rattle.vl_tree.specs.declared.exprs.Expr.{Expr, out-Expr}
use Rattle.vl_tree.specs.declared.exprs.Expr.TheOpen as expr
use Rattle.vl_tree.specs.declared.modules.Conns.{Conns}
use Rattle.vl_tree.specs.declared.modules.Conns.TheVariants as conns
use Rattle.vl_tree.specs.declared.modules.Named.{Named}
use Rattle.vl_tree.specs.declared.modules.Instance.{Instance}
use Rattle.vl_tree.specs.declared.modules.Item.{Item}
use Rattle.vl_tree.specs.declared.modules.Item.TheVariants as item
use Rattle.vl_tree.specs.declared.modules.Module.{Module}
use Rattle.vl_tree.specs.declared.modules.Tree.{Tree}
use Rattle.vl_tree.specs.Begins.{expr_at}
use Rattle.vl_names.specs.declared.kinds.Side.{Side}
use Rattle.vl_names.specs.declared.kinds.Declaration.{Declaration}
use Rattle.vl_names.specs.declared.kinds.Interface.{Interface}
use Rattle.vl_names.specs.Declarations.{definitions}
use Rattle.vl_names.specs.Interfaces.{is_port, is_output, is_parameter, interface_of}
use Rattle.el_scope.specs.declared.connecting.Slot.{Slot}
use Rattle.el_scope.specs.declared.connecting.Slot.TheVariants as slots
use Rattle.el_scope.specs.declared.connecting.Connection.{Connection}
use Rattle.el_scope.specs.Table.{SymbolTable, spelled, only_if}
use Rattle.el_scope.specs.Lookup.{declared_in, resolve}
use Rattle.el_scope.specs.Kinds.{is_net}
use Rattle.el_scope.specs.Naming.{breaks_at}

-- ---- modules, by the tokens of their names

-- what instances of the module whose name is this token reach
abbrev pub Interfaces : Type 0
Interfaces = ℕ → Option Interface

-- in a source
abbrev pub interfaces_of : Tree → Interfaces
interfaces_of tree = λ at. find (λ i. at == i.name) (map interface_of tree.modules)

-- of the module that has the name at a token
abbrev pub interface_at : SymbolTable → Interfaces → ℕ → Option Interface
interface_at t known name = option_and_then (λ d. known d.entity.at) (declared_in t definitions (spelled t name))

-- what a list at an instance may reach: ports by connections, parameters by overrides
abbrev pub is_in : Slot → Side → Bool
is_in slots.Port side = is_port side
is_in slots.Parameter side = is_parameter side

abbrev pub all_in : Slot → Interface → List Declaration
all_in slots.Port i = i.ports
all_in slots.Parameter i = i.parameters

-- ---- whole nets

-- the name that an expression is, without a select
abbrev pub whole_name : {E S : Type 0} → expr.Expr-F E S → Option ℕ
whole_name (expr.Name at name []) = Some name
whole_name _ = None

abbrev pub net_of : Declaration → Option ℕ
net_of d = if is_net d.entity.kind then Some d.entity.at else None

-- the net that the name at a token stands for, by the token of its declaration
abbrev pub net_named : SymbolTable → ℕ → ℕ → Option ℕ
net_named t scope name = option_and_then net_of (resolve t scope (spelled t name))

-- the net that an expression is the whole of
abbrev pub whole_net : SymbolTable → ℕ → Expr → Option ℕ
whole_net t scope e = option_and_then (net_named t scope) (whole_name (out-Expr e))

-- ---- connections and overrides

-- one that begins at a token: what it reaches, and whether one with its name stands before
abbrev pub connection_at : SymbolTable → ℕ → ℕ → Option Declaration → Bool → Option Expr → Connection
connection_at t scope at reached again value =
    record { at = at; reached = reached; again = again; given = is_some value; net = option_and_then (whole_net t scope) value }

-- those in order, behind so many
abbrev pub ordered_connections : SymbolTable → ℕ → List Declaration → ℕ → List Expr → List Connection
ordered_connections t scope places before [] = []
ordered_connections t scope places before (e ∷ es) =
    connection_at t scope (expr_at e) (slice_get places before) false (Some e) ∷ ordered_connections t scope places (before + 1) es

-- the port or parameter of the name at a token in a module
abbrev pub only_in : Slot → Declaration → Option Declaration
only_in slot d = if is_in slot d.side then Some d else None

abbrev pub place_named : SymbolTable → Slot → ℕ → ℕ → Option Declaration
place_named t slot owner name = option_and_then (only_in slot) (declared_in t owner (spelled t name))

-- the first of some connections with a name, by the token of its name
abbrev pub first_named : SymbolTable → List Named → List ℕ → Option ℕ
first_named t ns name = option_map (λ n. n.name) (find (λ n. bytes_eq name (spelled t n.name)) ns)

-- the name of a connection stands before among those of its list
abbrev pub is_again : SymbolTable → List Named → ℕ → Bool
is_again t ns name = option_map_or (λ first. not (name == first)) (first_named t ns (spelled t name)) false

abbrev pub named_connection : SymbolTable → ℕ → Slot → ℕ → List Named → Named → Connection
named_connection t scope slot owner ns n = connection_at t scope n.at (place_named t slot owner n.name) (is_again t ns n.name) n.value

abbrev pub named_connections : SymbolTable → ℕ → Slot → ℕ → List Named → List Connection
named_connections t scope slot owner ns = map (named_connection t scope slot owner ns) ns

abbrev pub conns_connections : SymbolTable → ℕ → Slot → Interface → Option Conns → List Connection
conns_connections t scope slot m None = []
conns_connections t scope slot m (Some (conns.Ordered at es)) = ordered_connections t scope (all_in slot m) 0 es
conns_connections t scope slot m (Some (conns.Named at ns)) = named_connections t scope slot m.name ns

-- those of instances in a scope, where there is a module of their name
abbrev pub instances_connections : SymbolTable → ℕ → Option Conns → List Instance → Option Interface → List Connection
instances_connections t scope params instances None = []
instances_connections t scope params instances (Some m) =
    conns_connections t scope slots.Parameter m params ++ flat_map (λ i. conns_connections t scope slots.Port m i.conns) instances

abbrev pub item_connections : SymbolTable → Interfaces → ℕ → Item → List Connection
item_connections t known scope (item.Instances at name params instances) = instances_connections t scope params instances (interface_at t known name)
item_connections t known scope _ = []

abbrev pub module_connections : SymbolTable → Interfaces → Module → List Connection
module_connections t known m = flat_map (item_connections t known m.name) m.items

-- all connections and overrides of a source, in the order of the text
abbrev pub tree_connections : SymbolTable → Interfaces → Tree → List Connection
tree_connections t known tree = flat_map (module_connections t known) tree.modules

-- ---- what they break

-- there is nothing that it reaches, or that is an output, and the connection no whole net
abbrev pub is_misplaced : Connection → Option Declaration → Bool
is_misplaced c None = true
is_misplaced c (Some p) = is_output p.side && c.given && is_none c.net

abbrev pub connection_breaks : SymbolTable → Connection → List Refusal
connection_breaks t c = breaks_at t c.at (only_if (is_misplaced c c.reached || c.again) 34)

abbrev pub connections_break : SymbolTable → List Connection → List Refusal
connections_break t cs = flat_map (connection_breaks t) cs

-- rule 34: the breaks of all instances of a source
abbrev pub connecting_breaks : SymbolTable → Tree → List Refusal
connecting_breaks t tree = connections_break t (tree_connections t (interfaces_of tree) tree)
