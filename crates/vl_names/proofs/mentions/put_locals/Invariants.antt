-- what is there with what is left is what was there with all
use Rattle.std.proofs.Common.{◌≡◌, ◌++◌, drop}
use Rattle.vl_names.specs.Mentions.{locals_names}
use Rattle.vl_names.proofs.mentions.put_locals.Given as goal

abbrev pub invariant-loop-local : goal.invariant-loop-local
invariant-loop-local l = l.fn.into.items ++ locals_names l.locals l.scope ≡ l.into.items ++ locals_names (drop l.local-index l.locals) l.scope
