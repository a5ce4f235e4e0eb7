use Rattle.std.proofs.Common.{◌≡◌, false, drop}
use Rattle.vl_tree.specs.Modules.{values_fit}
use Rattle.vl_parse.specs.Modules.{misfit}
use Rattle.vl_parse.proofs.modules.misfit.Given as goal

abbrev pub invariant-loop-port : goal.invariant-loop-port
invariant-loop-port l = record {
  fits : values_fit false l.ports ≡ values_fit l.reg (drop l.port-index l.ports);
  name : misfit false l.ports ≡ misfit l.reg (drop l.port-index l.ports);
}
