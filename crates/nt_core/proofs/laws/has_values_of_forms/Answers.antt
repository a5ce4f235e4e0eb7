-- A node's value is its form's; its operands are nodes before it.
use Rattle.std.proofs.Common.{subst}
use Rattle.nt_core.specs.Conditions.{IsNetlist}
use Rattle.nt_core.proofs.FormValues.{value_before, value_among_all, value_width}
use Rattle.nt_core.proofs.laws.has_values_of_forms.Goals as goal

pub returns : goal.returns
returns c =
    let n = c.args.netlist.now in
    let is : IsNetlist n = subst IsNetlist c.netlist.view_is c.netlist.invariant in
    record {
      before = value_before n.nodes;
      all = λ s i m at. value_among_all n.nodes s i m at is.nodes;
      width = λ s fits. value_width n s is fits;
    }
