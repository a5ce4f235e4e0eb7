-- what is there with what is left is what was there with all
use Rattle.std.proofs.Common.{◌≡◌, ◌++◌, drop}
use Rattle.std.specs.Prelude.{flat_map}
use Rattle.vl_names.specs.Declarations.{local_declares}
use Rattle.vl_names.proofs.declare.put_locals.Given as goal

abbrev pub invariant-loop-local : goal.invariant-loop-local
invariant-loop-local l =
    l.fn.into.items ++ flat_map (local_declares l.scope) l.locals ≡ l.into.items ++ flat_map (local_declares l.scope) (drop l.local-index l.locals)
