use Rattle.std.proofs.Common.{sym, subst}
use Rattle.xt_compile.specs.first.Form.{IsOfForm}
use Rattle.xt_compile.proofs.first_form.OfForm.{of_form}
use Rattle.xt_compile.proofs.first_form.Compiling.{hardware}
use Rattle.xt_compile.proofs.first_form.Sums.{if_both}
use Rattle.xt_compile.proofs.first.compile.compile.Goals as goal

pub netlist-requires : goal.netlist-requires
netlist-requires c = subst IsOfForm (sym c.in_ok-design.ensures) (of_form c.args.source.now c.requires)

pub returns : goal.returns
returns c = if_both _ _ _ _ (λ n netlist made. hardware c.args.source.now c.requires c.in_ok-design.design c.in_ok-design.ensures n netlist made) c.netlist.ensures.netlist c.netlist.ensures.ticks
