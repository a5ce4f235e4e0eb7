-- what is there with what is left is what was there with all
use Rattle.std.proofs.Common.{◌≡◌, ◌++◌, drop}
use Rattle.std.specs.Prelude.{flat_map}
use Rattle.vl_names.specs.Mentions.{arg_names}
use Rattle.vl_names.proofs.mentions.put_declared_args.Given as goal

abbrev pub invariant-loop-arg : goal.invariant-loop-arg
invariant-loop-arg l = l.fn.into.items ++ flat_map (arg_names l.scope) l.args ≡ l.into.items ++ flat_map (arg_names l.scope) (drop l.arg-index l.args)
