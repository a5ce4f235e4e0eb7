-- The port's node is one of the netlist's, and has the port's width.
use Rattle.std.proofs.Common.{subst, ap}
use Rattle.nt_core.specs.Parts.{Parts}
use Rattle.nt_core.specs.Conditions.{IsNetlist}
use Rattle.nt_run.proofs.PortLemmas.{is_read}
use Rattle.nt_run.proofs.ports.port.Goals as goal

pub bounds-values-index : goal.bounds-values-index
bounds-values-index c =
    (is_read c.args.netlist.now (subst IsNetlist c.netlist.view_is c.netlist.invariant) c.args.values.now c.requires.values c.args.place c.requires.place
    c.netlist.inside.drives.items (ap (λ (n : Parts). n.drives) c.netlist.view_is) c.index.result.now c.index.ensures).node

pub returns-clause-value : goal.returns-clause-value
returns-clause-value c =
    (is_read c.args.netlist.now (subst IsNetlist c.netlist.view_is c.netlist.invariant) c.args.values.now c.requires.values c.args.place c.requires.place
    c.netlist.inside.drives.items (ap (λ (n : Parts). n.drives) c.netlist.view_is) c.index.result.now c.index.ensures).value
    c.index-values-index.result c.index-values-index.is

pub returns-clause-width : goal.returns-clause-width
returns-clause-width c =
    (is_read c.args.netlist.now (subst IsNetlist c.netlist.view_is c.netlist.invariant) c.args.values.now c.requires.values c.args.place c.requires.place
    c.netlist.inside.drives.items (ap (λ (n : Parts). n.drives) c.netlist.view_is) c.index.result.now c.index.ensures).width
    c.index-values-index.result c.index-values-index.is
