-- what was found with what is left is what is found with all
use Rattle.std.proofs.Common.{◌≡◌, drop}
use Rattle.std.specs.Prelude.{fold, flat_map}
use Rattle.xt_base.specs.First.{sooner}
use Rattle.ck_call.specs.inner.Placed.{line_breaks}
use Rattle.ck_call.proofs.places.report_lines.Given as goal

abbrev pub invariant-loop-line : goal.invariant-loop-line
invariant-loop-line l =
    fold sooner l.fn.finder.first (flat_map (line_breaks l.scope.owners.now l.scope.funcs l.process) l.lines)
    ≡ fold sooner l.finder.first (flat_map (line_breaks l.scope.owners.now l.scope.funcs l.process) (drop l.line-index l.lines))
