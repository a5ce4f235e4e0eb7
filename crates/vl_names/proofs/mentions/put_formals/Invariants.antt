-- what is there with what is left is what was there with all
use Rattle.std.proofs.Common.{◌≡◌, ◌++◌, drop}
use Rattle.vl_names.specs.Mentions.{formals_names}
use Rattle.vl_names.proofs.mentions.put_formals.Given as goal

abbrev pub invariant-loop-formal : goal.invariant-loop-formal
invariant-loop-formal l = l.fn.into.items ++ formals_names l.scope l.formals ≡ l.into.items ++ formals_names l.scope (drop l.formal-index l.formals)
