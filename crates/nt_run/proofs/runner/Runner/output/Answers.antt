-- It has settled, and the pin's port stands after `xtc_edge`.
use Rattle.std.proofs.Common.{◌≡◌, ◌+◌, ◌<◌, ◌∙◌, ap, sym, subst, length, Some, true}
use Rattle.std.specs.Prelude.{slice_get}
use Rattle.nt_core.specs.Parts.{Parts}
use Rattle.nt_core.specs.Ports.{port, outputs}
use Rattle.nt_core.specs.Fitting.{value_widths}
use Rattle.nt_run.specs.Machine.{Machine, settled_values}
use Rattle.nt_run.proofs.KeptLemmas.{output_at}
use Rattle.nt_run.proofs.runner.Runner.output.Goals as goal

pub port-requires-clause-values : goal.port-requires-clause-values
port-requires-clause-values c =
    ap value_widths c.deref.ensures.value
    ∙ c.self.invariant.values

pub returns : goal.returns
returns c =
    let n : Parts = c.self.inside.netlist.now in
    let i = c.args.i in
    let vs = c.self.inside.values.items in
    let up : c.self.inside.is_settled ≡ true = ap (λ (m : Machine). m.is_settled) c.self.view_is ∙ c.requires.settled in
    let pin : i < length n.outputs = subst (λ (m : Machine). i < length m.design.outputs) (sym c.self.view_is) c.requires.pin in
    subst (λ (m : Machine). slice_get (outputs m.design (settled_values m)) i ≡ Some c.port.result) c.self.view_is
    (ap (λ us. slice_get (outputs n us) i) (sym (c.self.invariant.settled up)) ∙ output_at n c.self.invariant.design vs i pin
    ∙ ap Some (sym (c.port.ensures.value ∙ ap (λ us. port n us (1 + i)) c.deref.ensures.value)))
