use Rattle.std.proofs.Common.{subst, ap, ◌∙◌, refl}
use Rattle.el_design.specs.Plain.{Statement}
use Rattle.el_design.specs.View.{statement_of}
use Rattle.el_design.proofs.Equations.{assign_statement}
use Rattle.xt_compile.specs.first.Form.{IsStatement, var_widths, net_widths}
use Rattle.xt_compile.proofs.first_form.Shapes.{formal_target}
use Rattle.xt_compile.proofs.first.compile.process.assign.Goals as goal

pub returns-in_default-to : goal.returns-in_default-to
returns-in_default-to c =
    let t =
    formal_target (var_widths c.args.design.now) (net_widths c.args.design.now) c.in-Assign.at c.in-Assign.to _ c.in-Assign.held _ refl
    (subst (λ (x : Statement). IsStatement (var_widths c.args.design.now) (net_widths c.args.design.now) x) (ap statement_of c.in-Assign.is ∙ assign_statement c.in-Assign.at c.in-Assign.to c.in-Assign.value c.in-Assign.held) c.requires.statement) in
    absurd (c.in_default-to.not-Var t.0 t.1)
