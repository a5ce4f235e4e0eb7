-- what is there with what is left is what was there with all
use Rattle.std.proofs.Common.{◌≡◌, ◌++◌, drop}
use Rattle.vl_names.specs.Declarations.{header_declares}
use Rattle.vl_names.proofs.declare.put_header.Given as goal

abbrev pub invariant-loop-param : goal.invariant-loop-param
invariant-loop-param l = l.fn.into.items ++ header_declares l.scope l.params ≡ l.into.items ++ header_declares l.scope (drop l.param-index l.params)
