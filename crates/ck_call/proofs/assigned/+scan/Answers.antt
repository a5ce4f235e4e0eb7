use Rattle.std.proofs.Common.{refl, ◌∙◌, ap}
use Rattle.el_design.specs.View.{expr_of, statement_of}
use Rattle.el_design.proofs.Equations.{assign_statement, if_statement, case_statement, for_statement, while_statement, repeat_statement}
use Rattle.ck_call.specs.inner.Nodes.{named}
use Rattle.ck_call.proofs.Scans.{own_arm, own_result, if_arm, loop_arm, for_arm, case_arm, case_after}
use Rattle.ck_call.proofs.assigned.+scan.Goals as goal

pub scan-returns-in-Assign-default-default-default-true-clause-early : goal.scan-returns-in-Assign-default-default-default-true-clause-early
scan-returns-in-Assign-default-default-default-true-clause-early t c =
    own_result _ _ _ _ _ _ (ap statement_of c.in-Assign-default-default-default-true.is ∙ assign_statement _ _ _ _) refl c.as_slice-in-Assign-default-default-default-true.ensures c.own_early.ensures

pub scan-returns-in_ok-put_whole-in-Assign-default-default-default-false-clause-early : goal.scan-returns-in_ok-put_whole-in-Assign-default-default-default-false-clause-early
scan-returns-in_ok-put_whole-in-Assign-default-default-default-false-clause-early t c =
    own_arm _ _ _ _ _ _ (ap statement_of c.in-Assign-default-default-default-false.is ∙ assign_statement _ _ _ _) refl c.as_slice-in-Assign-default-default-default-false.ensures c.in_ok-early-in-Assign-default-default-default-false.ensures

pub scan-returns-in_ok-before-in-If-clause-early : goal.scan-returns-in_ok-before-in-If-clause-early
scan-returns-in_ok-before-in-If-clause-early t c =
    if_arm _ _ _ _ _ _ (named (expr_of c.in-If.test)) c.in-If.yes c.in-If.no _ _ _ _ _ _ _ (ap statement_of c.in-If.is ∙ if_statement _ _ _ _) refl c.as_slice-in-If.ensures c.in_ok-own-in-If.ensures
    c.get.ensures c.in_ok-first-in-If.ensures.early (c.in_ok-other-in-If.ensures ∙ c.as_slice-in-If-2.ensures) c.get-in-If.ensures c.in_ok-second-in-If.ensures.early c.either.ensures c.either-in-If.ensures

pub scan-returns-in_ok-body-in-While-clause-early : goal.scan-returns-in_ok-body-in-While-clause-early
scan-returns-in_ok-body-in-While-clause-early t c =
    loop_arm _ _ _ _ _ _ (named (expr_of c.in-While.test)) c.in-While.body _ _ _ _ (ap statement_of c.in-While.is ∙ while_statement _ _ _) refl c.as_slice-in-While.ensures c.in_ok-own-in-While.ensures
    (c.in_ok-inside-in-While.ensures ∙ c.as_slice-in-While-2.ensures) c.get-in-While.ensures c.in_ok-body-in-While.ensures.early c.either-in-While.ensures

pub scan-returns-in_ok-body-in-Repeat-clause-early : goal.scan-returns-in_ok-body-in-Repeat-clause-early
scan-returns-in_ok-body-in-Repeat-clause-early t c =
    loop_arm _ _ _ _ _ _ (named (expr_of c.in-Repeat.count)) c.in-Repeat.body _ _ _ _ (ap statement_of c.in-Repeat.is ∙ repeat_statement _ _ _) refl c.as_slice-in-Repeat.ensures c.in_ok-own-in-Repeat.ensures
    (c.in_ok-inside-in-Repeat.ensures ∙ c.as_slice-in-Repeat-2.ensures) c.get-in-Repeat.ensures c.in_ok-body-in-Repeat.ensures.early c.either-in-Repeat.ensures

pub scan-returns-in_ok-step-in-For-clause-early : goal.scan-returns-in_ok-step-in-For-clause-early
scan-returns-in_ok-step-in-For-clause-early t c =
    for_arm _ _ _ _ _ _ _ _ c.in-For.var (named (expr_of c.in-For.first)) (named (expr_of c.in-For.test)) (named (expr_of c.in-For.next)) c.in-For.body _ _ _ _ _ _ (ap statement_of c.in-For.is ∙ for_statement _ _ _ _ _ _) refl c.in_ok-header-in-For.ensures.early c.in_ok-header-in-For.ensures.after
    (c.in_ok-inside-in-For.ensures ∙ c.as_slice-in-For.ensures) c.get-in-For.ensures c.in_ok-body-in-For.ensures.early c.in_ok-body-in-For.ensures.after c.as_slice-in-For-2.ensures c.in_ok-step-in-For.ensures
    c.either-in-For.ensures c.either-in-For-2.ensures

pub scan-returns-in_ok-chosen-in-Case-clause-early : goal.scan-returns-in_ok-chosen-in-Case-clause-early
scan-returns-in_ok-chosen-in-Case-clause-early t c =
    case_arm _ _ _ _ _ _ _ _ _ _ c.in-Case.other _ _ _ _ _ _ (ap statement_of c.in-Case.is ∙ case_statement _ _ _ _) c.as_slice-in-Case.ensures c.in_ok-own-in-Case.ensures
    (c.in_ok-rest-in-Case.ensures ∙ c.as_slice-in-Case-2.ensures) c.get-in-Case.ensures c.in_ok-default-in-Case.ensures.early c.as_slice-in-Case-3.ensures c.as_slice-in-Case-4.ensures c.in_ok-chosen-in-Case.ensures.early
    c.either-in-Case.ensures c.either-in-Case-2.ensures

pub scan-returns-in_ok-chosen-in-Case-clause-after : goal.scan-returns-in_ok-chosen-in-Case-clause-after
scan-returns-in_ok-chosen-in-Case-clause-after t c =
    case_after _ _ _ _ _ _ _ _ c.in-Case.other _ _ _ (ap statement_of c.in-Case.is ∙ case_statement _ _ _ _) (c.in_ok-rest-in-Case.ensures ∙ c.as_slice-in-Case-2.ensures) c.get-in-Case.ensures
    c.in_ok-default-in-Case.ensures.after c.as_slice-in-Case-3.ensures c.as_slice-in-Case-4.ensures c.in_ok-chosen-in-Case.ensures.after
