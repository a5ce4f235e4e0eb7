-- Rule 38: a net has a second driver. Nets have one driver at most, as those of kind `uwire` do (IEEE 1364-2005, 4.6.6; 6.1 and 12.3.9
-- for what drives a net); an input port is driven from outside. The driver that stands first in the text breaks nothing.
use Rattle.std.specs.Prelude.{ℕ, ◌==◌, not, Bool, true, false, List, [], ◌∷◌, ◌++◌, Option, Some, None, flat_map, if◌then◌else◌}
use Rattle.std.specs.List.{find}
use Rattle.std.specs.Option.{option_map_or}
use Rattle.xt_base.specs.declared.refusals.Refusal.{Refusal}
use Rattle.vl_tree.specs.declared.modules.Binding.{Binding}
use Rattle.vl_tree.specs.declared.modules.Declared.{Declared}
use Rattle.vl_tree.specs.declared.modules.Item.{Item}
use Rattle.vl_tree.specs.declared.modules.Item.TheVariants as item
use Rattle.vl_tree.specs.declared.modules.Module.{Module}
use Rattle.vl_tree.specs.declared.modules.Tree.{Tree}
use Rattle.vl_names.specs.declared.kinds.Side.{Side}
use Rattle.vl_names.specs.declared.kinds.Side.TheVariants as side
use Rattle.vl_names.specs.declared.kinds.Declaration.{Declaration}
use Rattle.vl_names.specs.Interfaces.{is_output, interface_of}
use Rattle.el_scope.specs.declared.connecting.Connection.{Connection}
use Rattle.el_scope.specs.declared.driving.Driver.{Driver}
use Rattle.el_scope.specs.Table.{SymbolTable, only_if}
use Rattle.el_scope.specs.Naming.{breaks_at}
use Rattle.el_scope.specs.Connecting.{Interfaces, interfaces_of, item_connections, net_named}

-- ---- what drives the nets of a source: each driver with the token of the net's declaration, and the token at which it drives it

abbrev pub drives : ℕ → Option ℕ → List Driver
drives at None = []
drives at (Some net) = record { net = net; at = at } ∷ []

abbrev pub is_input : Side → Bool
is_input side.Input = true
is_input _ = false

-- an input port, by its name
abbrev pub port_drives : Declaration → List Driver
port_drives d = only_if (is_input d.side) (record { net = d.entity.at; at = d.entity.at })

-- a wire with a value, by its name
abbrev pub wire_drives : Declared → List Driver
wire_drives n = option_map_or (λ value. record { net = n.name; at = n.name } ∷ []) n.value []

-- an `assign`, by its target
abbrev pub assign_drives : SymbolTable → ℕ → Binding → List Driver
assign_drives t scope b = drives b.name (net_named t scope b.name)

-- an output at an instance, by the first token of the connection
abbrev pub reached_drives : Connection → Option Declaration → List Driver
reached_drives c None = []
reached_drives c (Some p) = if is_output p.side then drives c.at c.net else []

abbrev pub connection_drives : Connection → List Driver
connection_drives c = reached_drives c c.reached

abbrev pub item_drives : SymbolTable → Interfaces → ℕ → Item → List Driver
item_drives t known scope (item.Wires at signed range names) = flat_map wire_drives names
item_drives t known scope (item.Assigns at values) = flat_map (assign_drives t scope) values
item_drives t known scope (item.Instances at name params instances) =
    flat_map connection_drives (item_connections t known scope (item.Instances at name params instances))
item_drives t known scope _ = []

abbrev pub module_drives : SymbolTable → Interfaces → Module → List Driver
module_drives t known m = flat_map port_drives (interface_of m).ports ++ flat_map (item_drives t known m.name) m.items

-- all drivers of a source, in the order of the text
abbrev pub tree_drives : SymbolTable → Interfaces → Tree → List Driver
tree_drives t known tree = flat_map (module_drives t known) tree.modules

-- ---- what they break

-- the first of some drivers of a net
abbrev pub first_driver : List Driver → ℕ → Option Driver
first_driver ds net = find (λ d. net == d.net) ds

-- another driver of the net stands before
abbrev pub is_second_driver : List Driver → Driver → Bool
is_second_driver ds d = option_map_or (λ first. not (d.at == first.at)) (first_driver ds d.net) false

abbrev pub driver_breaks : SymbolTable → List Driver → Driver → List Refusal
driver_breaks t ds d = breaks_at t d.at (only_if (is_second_driver ds d) 38)

abbrev pub drivers_break : SymbolTable → List Driver → List Refusal
drivers_break t ds = flat_map (driver_breaks t ds) ds

-- rule 38: the breaks of all drivers of a source
abbrev pub driving_breaks : SymbolTable → Tree → List Refusal
driving_breaks t tree = drivers_break t (tree_drives t (interfaces_of tree) tree)
