use Rattle.std.proofs.Common.{◌≡◌, ◌++◌, map, drop}
use Rattle.ck_nets.specs.inner.Naming.{joined, named}
use Rattle.ck_nets.proofs.naming.+naming.Given as goal

-- what is there with the nets of what is left is what was there with those of all
abbrev pub invariant-add_all-loop-expr : goal.invariant-add_all-loop-expr
invariant-add_all-loop-expr l = l.fn.nets.items ++ joined (map named l.exprs) ≡ l.nets.items ++ joined (map named (drop l.expr-index l.exprs))
