use Rattle.std.proofs.Common.{◌++◌, map, sym, ◌∙◌, ap}
use Rattle.el_design.specs.View.{expr_of, arm_of, statement_of}
use Rattle.el_design.proofs.Equations.{case_statement}
use Rattle.ck_call.specs.inner.Nodes.{named, own_named, arms_named}
use Rattle.ck_call.proofs.Arms.{same_end}
use Rattle.ck_call.proofs.Counts.{labels_are}
use Rattle.ck_call.proofs.lines.put_own.Goals as goal

pub returns-in-Case : goal.returns-in-Case
returns-in-Case c =
    same_end _ _ _
    (ap own_named (ap statement_of c.in-Case.is ∙ case_statement _ _ _ _)
    ∙ ap (λ l. named (expr_of c.in-Case.on) ++ l) (labels_are (expr_of c.in-Case.on) (map arm_of c.in-Case.arms) c.in-Case.other ∙ ap (λ a. arms_named (map arm_of a)) (sym c.as_slice.ensures)))
    c.put_choice.ensures
