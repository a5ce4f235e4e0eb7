-- what is there with what is left is what was there with all
use Rattle.std.proofs.Common.{◌≡◌, ◌+◌, ◌≤◌, map, drop}
use Rattle.el_design.specs.View.{lvalue_of, parts_of}
use Rattle.ck_call.specs.inner.Weights.{capped, parts_weight}
use Rattle.ck_call.proofs.targets.+weight.Given as goal

abbrev pub invariant-parts_weight-loop-target : goal.invariant-parts_weight-loop-target
invariant-parts_weight-loop-target l = record {
  low : l.weight ≤ 20001;
  whole :
      capped (parts_weight (parts_of (map lvalue_of l.targets)))
      ≡ capped (l.weight + parts_weight (parts_of (map lvalue_of (drop l.target-index l.targets))));
}
