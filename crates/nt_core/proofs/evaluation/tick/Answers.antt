-- There are as many values as nodes, and the next state fits the netlist as the first one does.
use Rattle.std.proofs.Common.{◌≡◌, ◌<◌, ◌∙◌, ap, sym, subst, length}
use Rattle.std.specs.Prelude.{All}
use Rattle.nt_core.specs.Conditions.{IsNetlist}
use Rattle.nt_core.specs.Fitting.{IsState}
use Rattle.nt_core.specs.Parts.{Parts}
use Rattle.nt_core.proofs.States.{tick_fits, tick_parts}
use Rattle.nt_core.proofs.Values.{length-values}
use Rattle.nt_core.proofs.Writes.{driven_below}
use Rattle.nt_core.proofs.evaluation.tick.Goals as goal

pub values_at-requires : goal.values_at-requires
values_at-requires c =
    let n : Parts = c.args.netlist.now in
    let is : IsNetlist n = subst IsNetlist c.netlist.view_is c.netlist.invariant in
    let size : length c.as_slice.result.now ≡ length n.nodes = ap length (c.as_slice.ensures.value ∙ c.in_ok-values.ensures) ∙ length-values _ _ in
    let same : c.as_slice-2.result.now ≡ n.nexts = c.as_slice-2.ensures.value ∙ ap (λ p. p.nexts) c.netlist.view_is in
    subst (λ l. All (λ a. a < length c.as_slice.result.now) l) (sym same) (subst (λ m. All (λ a. a < m) n.nexts) (sym size) (driven_below n.nodes n.nexts _ is.shell.connected.nexts))

pub memories_after-memories-requires-clause-values : goal.memories_after-memories-requires-clause-values
memories_after-memories-requires-clause-values c = ap length (c.as_slice-3.ensures.value ∙ c.in_ok-values.ensures) ∙ length-values _ _

pub returns-clause-value : goal.returns-clause-value
returns-clause-value c =
    tick_parts c.args.netlist.now c.args.inputs.now c.args.state _ _ _ _ _ _ (c.as_slice.ensures.value ∙ c.in_ok-values.ensures) (c.as_slice-3.ensures.value ∙ c.in_ok-values.ensures)
    (c.as_slice-2.ensures.value ∙ ap (λ p. p.nexts) c.netlist.view_is) (ap (λ s. s.memories) c.state.view_is) c.in_ok-registers.ensures c.memories_after-memories.ensures

pub returns-clause-fits : goal.returns-clause-fits
returns-clause-fits c =
    subst (IsState c.args.netlist.now) (sym (returns-clause-value c))
    (tick_fits c.args.netlist.now c.args.inputs.now c.args.state (subst IsNetlist c.netlist.view_is c.netlist.invariant) c.requires)
