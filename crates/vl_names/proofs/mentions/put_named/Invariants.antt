-- what is there with what is left is what was there with all
use Rattle.std.proofs.Common.{◌≡◌, ◌++◌, drop}
use Rattle.vl_names.specs.Mentions.{named_names}
use Rattle.vl_names.proofs.mentions.put_named.Given as goal

abbrev pub invariant-loop-one : goal.invariant-loop-one
invariant-loop-one l = l.fn.into.items ++ named_names l.scope l.named ≡ l.into.items ++ named_names l.scope (drop l.one-index l.named)
