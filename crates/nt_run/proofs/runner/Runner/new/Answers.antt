-- The row, the state and the values fit the netlist.
use Rattle.std.proofs.Common.{◌≡◌, ◌∙◌, ap, subst, map}
use Rattle.xt_bits.specs.Word.{word}
use Rattle.nt_core.specs.Parts.{Parts}
use Rattle.nt_core.specs.Sources.{Inputs}
use Rattle.nt_core.specs.Conditions.{IsNetlist}
use Rattle.nt_core.specs.Forms.{widths}
use Rattle.nt_run.specs.Order.{IsOrder}
use Rattle.nt_run.proofs.KeptLemmas.{kept_start}
use Rattle.nt_run.proofs.runner.Runner.new.Goals as goal

pub invariant_of-result : goal.invariant_of-result
invariant_of-result c =
    let n : Parts = c.args.netlist.now in
    let nodes : c.as_slice-2.result.now ≡ n.nodes = c.as_slice-2.ensures.value ∙ ap (λ (p : Parts). p.nodes) c.netlist.view_is in
    kept_start n (subst IsNetlist c.netlist.view_is c.netlist.invariant) _ _ _ _ _ _
    (ap (λ (i : Inputs). i.row) c.silent.ensures ∙ c.in_ok-row.ensures
    ∙ ap (map (λ p. word p.width 0)) (c.as_slice.ensures.value ∙ ap (λ (p : Parts). p.inputs) c.netlist.view_is))
    c.in_ok-start.ensures.value c.none.ensures
    (c.in_ok-zeros.ensures ∙ ap widths nodes)
    (subst (λ ns. IsOrder ns c.in_ok-order_of.field-0.items) (c.as_slice-3.ensures.value ∙ ap (λ (p : Parts). p.nodes) c.netlist.view_is) c.in_ok-order_of.ensures)
    c.in_ok-request_ports.ensures
