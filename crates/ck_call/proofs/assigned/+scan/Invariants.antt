-- what was found with what is left is what is found with all
use Rattle.std.proofs.Common.{◌≡◌, ◌≤◌, ◌||◌, length, map, drop}
use Rattle.el_design.specs.Purity.{assigned_after}
use Rattle.el_design.specs.View.{statement_of, seq_of, arm_of}
use Rattle.ck_call.specs.inner.Assigned.{early_by, arms_after, arms_early}
use Rattle.ck_call.proofs.assigned.+scan.Given as goal

abbrev pub invariant-scan_block-loop-stmt : goal.invariant-scan_block-loop-stmt
invariant-scan_block-loop-stmt l = record {
  early :
      early_by l.watched l.fn.before (seq_of (map statement_of l.stmts))
      ≡ (l.early || early_by l.watched l.before (seq_of (map statement_of (drop l.stmt-index l.stmts))));
  after :
      assigned_after l.fn.before (seq_of (map statement_of l.stmts))
      ≡ assigned_after l.before (seq_of (map statement_of (drop l.stmt-index l.stmts)));
}

abbrev pub invariant-scan_arms-loop-left : goal.invariant-scan_arms-loop-left
invariant-scan_arms-loop-left l = record {
  within : l.left ≤ length l.arms;
  early : l.early ≡ arms_early l.watched l.before (map arm_of (drop l.left l.arms));
  after : l.rest ≡ arms_after l.before (map arm_of (drop l.left l.arms)) l.fn.rest;
}

abbrev pub decreases-scan_arms-loop-left : goal.decreases-scan_arms-loop-left
decreases-scan_arms-loop-left l = l.left
