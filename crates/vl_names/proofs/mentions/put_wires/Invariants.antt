-- what is there with what is left is what was there with all
use Rattle.std.proofs.Common.{◌≡◌, ◌++◌, drop}
use Rattle.vl_names.specs.Mentions.{wires_names}
use Rattle.vl_names.proofs.mentions.put_wires.Given as goal

abbrev pub invariant-loop-name : goal.invariant-loop-name
invariant-loop-name l = l.fn.into.items ++ wires_names l.scope l.names ≡ l.into.items ++ wires_names l.scope (drop l.name-index l.names)
