-- Each register is driven by a node that there is.
use Rattle.std.proofs.Common.{◌≡◌, ◌<◌, ◌∙◌, subst, sym, ap, length}
use Rattle.std.specs.Prelude.{All}
use Rattle.nt_core.specs.Parts.{Parts}
use Rattle.nt_core.specs.Conditions.{IsNetlist}
use Rattle.nt_core.proofs.Writes.{driven_below}
use Rattle.nt_run.proofs.state.advance.Goals as goal

pub load-requires-clause-nodes : goal.load-requires-clause-nodes
load-requires-clause-nodes c =
    let n : Parts = c.args.netlist.now in
    let is : IsNetlist n = subst IsNetlist c.netlist.view_is c.netlist.invariant in
    let same : c.as_slice.result.now ≡ n.nexts = c.as_slice.ensures.value ∙ ap (λ p. p.nexts) c.netlist.view_is in
    subst (λ l. All (λ a. a < length c.args.values.now) l) (sym same)
    (subst (λ m. All (λ a. a < m) n.nexts) (sym c.requires.values) (driven_below n.nodes n.nexts _ is.shell.connected.nexts))
