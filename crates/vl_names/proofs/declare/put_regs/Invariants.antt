-- what is there with what is left is what was there with all
use Rattle.std.proofs.Common.{◌≡◌, ◌++◌, drop}
use Rattle.vl_names.specs.Declarations.{regs_declare}
use Rattle.vl_names.proofs.declare.put_regs.Given as goal

abbrev pub invariant-loop-name : goal.invariant-loop-name
invariant-loop-name l = l.fn.into.items ++ regs_declare l.scope l.ranged l.names ≡ l.into.items ++ regs_declare l.scope l.ranged (drop l.name-index l.names)
