-- what is there with what is left is what was there with all
use Rattle.std.proofs.Common.{◌≡◌, ◌++◌, map, drop}
use Rattle.vl_names.specs.declared.kinds.EntityKind.TheVariants as kind
use Rattle.vl_names.specs.Declarations.{inner}
use Rattle.vl_names.proofs.declare.put_names.Given as goal

abbrev pub invariant-loop-name : goal.invariant-loop-name
invariant-loop-name l =
    l.fn.into.items ++ map (λ n. inner kind.Var n l.scope l.ranged) l.names
    ≡ l.into.items ++ map (λ n. inner kind.Var n l.scope l.ranged) (drop l.name-index l.names)
