use Rattle.std.proofs.Common.{◌∷◌, ◌++◌, refl, sym, ◌∙◌, ap, map}
use Rattle.el_design.specs.Plain as plain
use Rattle.el_design.specs.View.{statement_of, expr_of, arm_of, arms_of}
use Rattle.el_design.proofs.Equations.{if_statement, case_statement, for_statement, while_statement, repeat_statement, forever_statement}
use Rattle.ck_call.specs.inner.Lines.{line_of, lines, arms_lines}
use Rattle.ck_call.proofs.Arms.{one_inside, both_inside, arms_have}
use Rattle.ck_call.proofs.lines.+lines.Goals as goal

pub put_lines-returns-in-For : goal.put_lines-returns-in-For
put_lines-returns-in-For t c = one_inside _ _ _ _ _ _ _ _ (ap statement_of c.in-For.is ∙ for_statement _ _ _ _ _ _) refl c.get-in-For.ensures c.in_ok-put_line.ensures c.put_lines-in-For.ensures

pub put_lines-returns-in-While : goal.put_lines-returns-in-While
put_lines-returns-in-While t c = one_inside _ _ _ _ _ _ _ _ (ap statement_of c.in-While.is ∙ while_statement _ _ _) refl c.get-in-While.ensures c.in_ok-put_line.ensures c.put_lines-in-While.ensures

pub put_lines-returns-in-Repeat : goal.put_lines-returns-in-Repeat
put_lines-returns-in-Repeat t c = one_inside _ _ _ _ _ _ _ _ (ap statement_of c.in-Repeat.is ∙ repeat_statement _ _ _) refl c.get-in-Repeat.ensures c.in_ok-put_line.ensures c.put_lines-in-Repeat.ensures

pub put_lines-returns-in-Forever : goal.put_lines-returns-in-Forever
put_lines-returns-in-Forever t c = one_inside _ _ _ _ _ _ _ _ (ap statement_of c.in-Forever.is ∙ forever_statement _ _) refl c.get-in-Forever.ensures c.in_ok-put_line.ensures c.put_lines-in-Forever.ensures

pub put_lines-returns-in_ok-put_lines-in-If : goal.put_lines-returns-in_ok-put_lines-in-If
put_lines-returns-in_ok-put_lines-in-If t c =
    both_inside _ _ _ _ _ _ _ _ _ _ (ap statement_of c.in-If.is ∙ if_statement _ _ _ _)
    (ap (λ s. line_of (plain.If c.in-If.at (expr_of c.in-If.test) (statement_of c.in-If.yes) (statement_of c.in-If.no)) ∷ lines (statement_of s) ++ lines (statement_of c.in-If.no)) (sym c.get.ensures))
    c.get-in-If.ensures c.in_ok-put_line.ensures c.in_ok-put_lines-in-If.ensures c.put_lines-in-If.ensures

pub put_lines-returns-in_ok-put_arms-in-Case : goal.put_lines-returns-in_ok-put_arms-in-Case
put_lines-returns-in_ok-put_arms-in-Case t c =
    both_inside _ _ _ _ _ _ _ _ _ _ (ap statement_of c.in-Case.is ∙ case_statement _ _ _ _)
    (ap (λ l. line_of (plain.Case c.in-Case.at (expr_of c.in-Case.on) (arms_of (expr_of c.in-Case.on) (map arm_of c.in-Case.arms) (statement_of c.in-Case.other))) ∷ l)
    (arms_have (expr_of c.in-Case.on) (map arm_of c.in-Case.arms) (statement_of c.in-Case.other) ∙ ap (λ a. arms_lines (map arm_of a) ++ lines (statement_of c.in-Case.other)) (sym c.as_slice-in-Case.ensures)))
    c.get-in-Case.ensures c.in_ok-put_line.ensures c.in_ok-put_arms-in-Case.ensures c.put_lines-in-Case.ensures
