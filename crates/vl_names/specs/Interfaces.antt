-- What instances of a module reach: its ports and its parameters (IEEE 1364-2005, 12.2 and 12.3).
use Rattle.std.specs.Prelude.{Bool, true, false}
use Rattle.std.specs.List.{filter}
use Rattle.vl_tree.specs.declared.modules.Module.{Module}
use Rattle.vl_names.specs.declared.kinds.Side.{Side}
use Rattle.vl_names.specs.declared.kinds.Side.TheVariants as side
use Rattle.vl_names.specs.declared.kinds.Interface.{Interface}
use Rattle.vl_names.specs.Declarations.{module_declares}

abbrev pub is_port : Side → Bool
is_port side.Input = true
is_port side.Output = true
is_port _ = false

abbrev pub is_output : Side → Bool
is_output side.Output = true
is_output _ = false

abbrev pub is_parameter : Side → Bool
is_parameter side.Parameter = true
is_parameter _ = false

-- the ports of a module in the order of its header, and its parameters in the order of declaration, without the `localparam` ones
abbrev pub interface_of : Module → Interface
interface_of m = record {
  name = m.name;
  ports = filter (λ d. is_port d.side) (module_declares m);
  parameters = filter (λ d. is_parameter d.side) (module_declares m);
}
