-- what is there with what is left is what was there with all
use Rattle.std.proofs.Common.{◌≡◌, ◌++◌, None, drop}
use Rattle.std.specs.Prelude.{option_copied}
use Rattle.vl_names.specs.Declarations.{ports_behind}
use Rattle.vl_names.proofs.declare.put_ports.Given as goal

abbrev pub invariant-loop-port : goal.invariant-loop-port
invariant-loop-port l =
    l.fn.into.items ++ ports_behind l.scope None l.ports ≡ l.into.items ++ ports_behind l.scope (option_copied l.words) (drop l.port-index l.ports)
