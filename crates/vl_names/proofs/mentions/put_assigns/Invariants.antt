-- what is there with what is left is what was there with all
use Rattle.std.proofs.Common.{◌≡◌, ◌++◌, drop}
use Rattle.vl_names.specs.Mentions.{assigns_names}
use Rattle.vl_names.proofs.mentions.put_assigns.Given as goal

abbrev pub invariant-loop-value : goal.invariant-loop-value
invariant-loop-value l = l.fn.into.items ++ assigns_names l.scope l.values ≡ l.into.items ++ assigns_names l.scope (drop l.value-index l.values)
