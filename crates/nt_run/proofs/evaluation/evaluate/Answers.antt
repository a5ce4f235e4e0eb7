-- Each step comes after those of the nodes that its form reads.
use Rattle.std.proofs.Common.{◌≡◌, ℕ, ◌<◌, List, take, length, get_or, refl, subst, arith, sym}
use Rattle.std.specs.Prelude.{slice_set}
use Rattle.std.proofs.lemmas.Option.{slice_get_within}
use Rattle.nt_core.specs.declared.netlist.Node.{Node}
use Rattle.nt_core.specs.Parts.{Parts}
use Rattle.nt_core.specs.Sources.{Sources}
use Rattle.nt_run.specs.declared.orders.Step.{Step}
use Rattle.nt_run.specs.Acknowledged.{driven_by}
use Rattle.nt_run.specs.Order.{marked, IsStep, AreSteps}
use Rattle.nt_run.proofs.States.{tick-widths}
use Rattle.nt_run.proofs.Marks.{marked-next}
use Rattle.nt_run.proofs.Evaluated.{IsDone, count_values, done_more, done_all, operands_so_far}
use Rattle.nt_run.proofs.evaluation.evaluate.Goals as goal

-- the step at a place
step_at : (nodes : List Node) (steps : List Step) → AreSteps nodes steps → (k : ℕ) (s : Step) → k < length steps → s ≡ get_or steps k s → IsStep nodes (marked (length nodes) (take k steps)) s
step_at nodes steps ordered k s h is = subst (IsStep nodes (marked (length nodes) (take k steps))) (sym is) (ordered k s h)

pub value_in_tick-value-requires : goal.value_in_tick-value-requires
value_in_tick-value-requires c =
    let n : Parts = c.args.netlist.now in
    operands_so_far n.nodes c.requires.design.nodes _ c.step-item.result
    (step_at n.nodes c.args.steps.now c.requires.steps.ordered c.loop-step.step-index c.step-item.result c.loop-step-test.true c.step-item.is)
    c.loop-step.values c.loop-step.invariant.widths

pub offset_bounds-values-step : goal.offset_bounds-values-step
offset_bounds-values-step c =
    let n : Parts = c.args.netlist.now in
    let is = step_at n.nodes c.args.steps.now c.requires.steps.ordered c.loop-step.step-index c.step-item.result c.loop-step-test.true c.step-item.is in
    omega (arith, count_values n.nodes c.loop-step.values c.loop-step.invariant.widths, slice_get_within n.nodes c.step-item.result.place is.node is.at)

pub bounds-values-step : goal.bounds-values-step
bounds-values-step c =
    let n : Parts = c.args.netlist.now in
    let is = step_at n.nodes c.args.steps.now c.requires.steps.ordered c.loop-step.step-index c.step-item.result c.loop-step-test.true c.step-item.is in
    omega (arith, count_values n.nodes c.loop-step.values c.loop-step.invariant.widths, slice_get_within n.nodes c.step-item.result.place is.node is.at)

pub loop-step-preserved : goal.loop-step-preserved
loop-step-preserved c =
    let n : Parts = c.args.netlist.now in
    let steps : List Step = c.args.steps.now in
    let step : Step = c.step-item.result in
    let row = c.args.inputs.now.row in
    let s : Sources = record { inputs = driven_by row c.args.acks.now; state = c.args.state.now } in
    let marks = marked (length n.nodes) (take c.loop-step.step-index steps) in
    let is = step_at n.nodes steps c.requires.steps.ordered c.loop-step.step-index step c.loop-step-test.true c.step-item.is in
    subst (λ ms. IsDone n.nodes s ms (slice_set c.loop-step.values step.place c.value_in_tick-value.result))
    (sym (marked-next (length n.nodes) steps c.loop-step.step-index step c.loop-step-test.true c.step-item.is))
    (done_more n.nodes c.requires.design.nodes s (tick-widths n c.requires.design c.args.inputs.now (driven_by row c.args.acks.now) c.args.state.now c.requires.fits refl)
    marks step is c.loop-step.values c.loop-step.invariant c.value_in_tick-value.result c.value_in_tick-value.ensures)

pub returns : goal.returns
returns c =
    let n : Parts = c.args.netlist.now in
    let row = c.args.inputs.now.row in
    let s : Sources = record { inputs = driven_by row c.args.acks.now; state = c.args.state.now } in
    done_all n.nodes c.requires.design.nodes s (tick-widths n c.requires.design c.args.inputs.now (driven_by row c.args.acks.now) c.args.state.now c.requires.fits refl)
    c.args.steps.now c.requires.steps c.loop-step.step-index c.loop-step-test.false c.loop-step.values c.loop-step.invariant
