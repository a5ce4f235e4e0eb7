use Rattle.std.proofs.Common.{◌∙◌}
use Rattle.nt_read.proofs.Distinct.{never}
use Rattle.nt_read.proofs.Refusals.{twice, misfit, other, found, at_none, at_some}
use Rattle.nt_read.proofs.netlist.netlist.Goals as goal

pub returns-in_default : goal.returns-in_default
returns-in_default c =
    twice c.args.bytes.now c.in_ok-shell.shell c.in_ok-shell.ensures (at_none c.in_ok-nodes.field-0 _ _ c.in_ok-nodes.ensures.nodes c.in_default.not-Some)

pub returns-then-not-are_nodes : goal.returns-then-not-are_nodes
returns-then-not-are_nodes c =
    misfit c.args.bytes.now c.in_ok-shell.shell c.as_slice.result.now c.in_ok-shell.ensures (c.as_slice.ensures.value ∙ at_some c.in_ok-nodes.field-0 _ _ c.in-Some.nodes c.in_ok-nodes.ensures.nodes c.in-Some.is)
    (λ are. never _ c.if-not-are_nodes.true (c.are_nodes.ensures.1 are))

pub returns : goal.returns
returns c =
    found c.finished.result _ _ _ (other c.args.bytes.now c.in_ok-shell.shell c.in-Some.nodes.items c.in_ok-shell.ensures (at_some c.in_ok-nodes.field-0 _ _ c.in-Some.nodes c.in_ok-nodes.ensures.nodes c.in-Some.is)) c.finished.ensures
