-- what is there with what is left is what was there with all
use Rattle.std.proofs.Common.{◌≡◌, ◌++◌, map, drop}
use Rattle.vl_names.specs.Mentions.{all, lvalue_names}
use Rattle.vl_names.proofs.mentions.+target.Given as goal

abbrev pub invariant-put_targets-loop-target : goal.invariant-put_targets-loop-target
invariant-put_targets-loop-target l = l.fn.into.items ++ all (map lvalue_names l.targets) l.stand ≡ l.into.items ++ all (map lvalue_names (drop l.target-index l.targets)) l.stand
