-- The values are those of the tick, and the next state is theirs.
use Rattle.std.proofs.Common.{◌≡◌, ◌∙◌, ap, subst, refl, arith, length, not, false}
use Rattle.std.proofs.lemmas.List.{with_items_is}
use Rattle.nt_core.specs.Fitting.{value_widths}
use Rattle.nt_core.specs.Ports.{edge_up}
use Rattle.nt_core.specs.Tick.{next}
use Rattle.nt_run.specs.Acknowledged.{driven_by}
use Rattle.nt_run.specs.Machine.{Machine}
use Rattle.nt_run.specs.Ticks.{ticked}
use Rattle.nt_run.proofs.States.{tick-widths}
use Rattle.nt_run.proofs.KeptLemmas.{kept_ticked, ticked_machine}
use Rattle.nt_run.proofs.runner.Runner.step.Goals as goal

pub is_edge-is_done-requires : goal.is_edge-is_done-requires
is_edge-is_done-requires c =
    let old = c.self.inside in
    let size : length c.reevaluate.new.values ≡ old.values.len = omega (arith, c.reevaluate.auto.values, c.deref_mut.ensures.len) in
    ap value_widths (c.deref-2.ensures.value ∙ with_items_is old.values c.reevaluate.new.values size ∙ c.reevaluate.ensures)
    ∙ tick-widths old.netlist.now c.self.invariant.design old.inputs (driven_by old.inputs.row c.args.acks.now) old.state c.self.invariant.fits refl

pub invariant_of-self : goal.invariant_of-self
invariant_of-self c =
    let old = c.self.inside in
    let size : length c.reevaluate.new.values ≡ old.values.len = omega (arith, c.reevaluate.auto.values, c.deref_mut.ensures.len) in
    kept_ticked old.netlist.now old.inputs old.state c.advance.new.state _ old.values.items _ _ _ old.is_settled c.self.invariant
    (ap value_widths (with_items_is old.values c.reevaluate.new.values size ∙ c.reevaluate.ensures)
    ∙ tick-widths old.netlist.now c.self.invariant.design old.inputs (driven_by old.inputs.row c.args.acks.now) old.state c.self.invariant.fits refl)
    (c.advance.ensures ∙ ap (λ vs. next old.netlist.now vs old.state) c.deref-3.ensures.value)

pub returns-clause-machine : goal.returns-clause-machine
returns-clause-machine c =
    let old = c.self.inside in
    let size : length c.reevaluate.new.values ≡ old.values.len = omega (arith, c.reevaluate.auto.values, c.deref_mut.ensures.len) in
    let made = with_items_is old.values c.reevaluate.new.values size ∙ c.reevaluate.ensures in
    subst (λ (m : Machine). ◌≡◌ {A = Machine}
    (record { design = old.netlist.now; row = old.inputs.row; state = c.advance.new.state; is_begun = not c.is_edge-is_done.result; is_settled = false }) (ticked m c.args.acks.now))
    c.self.view_is
    (ticked_machine (record { design = old.netlist.now; row = old.inputs.row; state = old.state; is_begun = old.is_begun; is_settled = old.is_settled }) c.args.acks.now
    c.advance.new.state c.is_edge-is_done.result
    (c.advance.ensures ∙ ap (λ vs. next old.netlist.now vs old.state) (c.deref-3.ensures.value ∙ made))
    (c.is_edge-is_done.ensures ∙ ap (edge_up old.netlist.now) (c.deref-2.ensures.value ∙ made)))
