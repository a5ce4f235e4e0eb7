use Rattle.std.proofs.Common.{List, sym, subst}
use Rattle.std.specs.Prelude.{All}
use Rattle.el_design.specs.declared.statements.Stmt.{Stmt}
use Rattle.el_design.specs.View.{statement_of, flat_of}
use Rattle.xt_compile.specs.first.Form.{IsStatement, var_widths, net_widths}
use Rattle.xt_compile.specs.first.Machine.{HasBody, statements_of}
use Rattle.xt_compile.proofs.first_form.OfForm.{body_statements}
use Rattle.xt_compile.proofs.first_form.Shapes.{has_body}
use Rattle.xt_compile.proofs.first.compile.body.Goals as goal

pub returns-in-Block-clause-statements : goal.returns-in-Block-clause-statements
returns-in-Block-clause-statements c =
    subst (λ (items : List Stmt). All (λ s. IsStatement (var_widths c.args.design.now) (net_widths c.args.design.now) (statement_of s)) items) (sym c.as_slice.ensures)
    (body_statements c.args.design.now c.requires c.in-Some.process.now (sym c.in-Some.ensures.value) c.in-Block.at c.in-Block.mark c.in-Block.body c.in-Block.is)

pub returns-in-Block-clause-body : goal.returns-in-Block-clause-body
returns-in-Block-clause-body c =
    subst (λ (items : List Stmt). HasBody (flat_of c.args.design.now) (statements_of items)) (sym c.as_slice.ensures)
    (has_body c.args.design.now c.requires c.in-Some.process.now (sym c.in-Some.ensures.value) c.in-Block.at c.in-Block.mark c.in-Block.body c.in-Block.is)
