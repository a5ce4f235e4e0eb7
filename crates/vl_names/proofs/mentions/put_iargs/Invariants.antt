-- what is there with what is left is what was there with all
use Rattle.std.proofs.Common.{◌≡◌, ◌++◌, drop}
use Rattle.vl_names.specs.Mentions.{iargs_names}
use Rattle.vl_names.proofs.mentions.put_iargs.Given as goal

abbrev pub invariant-loop-arg : goal.invariant-loop-arg
invariant-loop-arg l = l.fn.into.items ++ iargs_names l.scope l.args ≡ l.into.items ++ iargs_names l.scope (drop l.arg-index l.args)
