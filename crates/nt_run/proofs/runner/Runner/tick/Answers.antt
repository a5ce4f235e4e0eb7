-- Settling changes nothing that a tick asks for.
use Rattle.std.proofs.Common.{◌∙◌, ap, sym}
use Rattle.nt_core.specs.Ports.{edge_up}
use Rattle.nt_run.specs.Machine.{settled_values}
use Rattle.nt_run.specs.Ticks.{is_stalled, has_unanswered, values_in_tick, made_end, ticked}
use Rattle.nt_run.proofs.KeptLemmas.{stalled_end, going_end, going_machine}
use Rattle.nt_run.proofs.runner.Runner.tick.Goals as goal

pub returns-then-is_stalled-clause-end : goal.returns-then-is_stalled-clause-end
returns-then-is_stalled-clause-end c =
    stalled_end c.args.self.now c.args.acks.now (ap is_stalled (sym c.settle.ensures) ∙ sym c.is_stalled.ensures ∙ c.if-is_stalled.true)

pub returns-clause-end : goal.returns-clause-end
returns-clause-end c =
    let a = c.args.acks.now in
    c.end_of.ensures
    ∙ ap (λ d. made_end d c.has_unanswered-is_unanswered.result) (c.step-is_done.ensures.done ∙ ap (λ m. edge_up m.design (values_in_tick m a)) c.settle.ensures)
    ∙ ap (made_end (edge_up c.args.self.now.design (values_in_tick c.args.self.now a)))
    (c.has_unanswered-is_unanswered.ensures ∙ ap (λ m. has_unanswered m.design (settled_values m) a) c.settle.ensures)
    ∙ going_end c.args.self.now a (ap is_stalled (sym c.settle.ensures) ∙ sym c.is_stalled.ensures ∙ c.if-is_stalled.false)

pub returns-clause-machine : goal.returns-clause-machine
returns-clause-machine c =
    let a = c.args.acks.now in
    c.step-is_done.ensures.machine ∙ ap (λ m. ticked m a) c.settle.ensures
    ∙ going_machine c.args.self.now a (ap is_stalled (sym c.settle.ensures) ∙ sym c.is_stalled.ensures ∙ c.if-is_stalled.false)
