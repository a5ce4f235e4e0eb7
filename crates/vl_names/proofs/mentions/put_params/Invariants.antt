-- what is there with what is left is what was there with all
use Rattle.std.proofs.Common.{◌≡◌, ◌++◌, drop}
use Rattle.std.specs.Prelude.{flat_map}
use Rattle.vl_names.specs.Mentions.{param_names}
use Rattle.vl_names.proofs.mentions.put_params.Given as goal

abbrev pub invariant-loop-param : goal.invariant-loop-param
invariant-loop-param l = l.fn.into.items ++ flat_map (param_names l.scope) l.params ≡ l.into.items ++ flat_map (param_names l.scope) (drop l.param-index l.params)
