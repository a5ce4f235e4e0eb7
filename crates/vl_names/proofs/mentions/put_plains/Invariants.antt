-- what is there with what is left is what was there with all
use Rattle.std.proofs.Common.{◌≡◌, ◌++◌, drop}
use Rattle.vl_names.specs.Mentions.{plainly_all}
use Rattle.vl_names.proofs.mentions.put_plains.Given as goal

abbrev pub invariant-loop-expr : goal.invariant-loop-expr
invariant-loop-expr l = l.fn.into.items ++ plainly_all l.exprs l.scope ≡ l.into.items ++ plainly_all (drop l.expr-index l.exprs) l.scope
