-- The hosts' processes, and as many replies as processes.
use Rattle.std.proofs.Common.{◌∙◌, ap, subst, length, map, replicate, None}
use Rattle.std.specs.Option.{option_map}
use Rattle.std.proofs.lemmas.List.{length-replicate}
use Rattle.nt_core.specs.Conditions.{IsNetlist}
use Rattle.nt_core.specs.Parts.{Parts}
use Rattle.nt_run.proofs.Replies.{seen-none, processes_below}
use Rattle.nt_run.proofs.acks.Acks.new.Goals as goal

pub invariant_of-result : goal.invariant_of-result
invariant_of-result c =
    let n : Parts = c.args.netlist.now in
    processes_below n (subst IsNetlist c.netlist.view_is c.netlist.invariant) _
    (ap length c.in_ok-no_replies.ensures ∙ length-replicate _ None ∙ ap (λ p. p.processes) c.netlist.view_is)
    _ c.in_ok-processes_of.ensures

pub returns : goal.returns
returns c =
    let n : Parts = c.args.netlist.now in
    let hosts = c.in_ok-processes_of.ensures in
    let none = seen-none (λ r. r.items) c.netlist.inside.processes c.in_ok-no_replies.field-0.items c.in_ok-no_replies.ensures
    ∙ ap (λ p. replicate p.processes None) c.netlist.view_is in
    ap (λ ps. record { processes = ps; replies = map (option_map (λ r. r.items)) c.in_ok-no_replies.field-0.items }) hosts
    ∙ ap (λ rs. record { processes = map (λ h. h.process) n.hosts; replies = rs }) none
