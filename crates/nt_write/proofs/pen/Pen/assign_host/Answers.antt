use Rattle.std.proofs.Common.{codes, ◌≡◌, ◌++◌, drop, get_or, ap, ◌∙◌}
use Rattle.nt_core.specs.Text.{assign_line, host_name, arg_name, numbered}
use Rattle.nt_write.specs.Lines.{ended, lines}
use Rattle.nt_write.proofs.PortLists.{assigned_host}
use Rattle.nt_write.proofs.Taking.{takes_is, pieces2}
use Rattle.nt_write.proofs.pen.Pen.assign_host.Goals as goal

pub returns : goal.returns
returns g c = takes_is _ _ _ _ (pieces2 (takes_is _ _ _ _ c.assign_request.ensures (ap (λ h. ended (assign_line (host_name h.process ++ codes "_req") (get_or c.args.drives.now 0 0))) c.host.view_is)) (pieces2 (takes_is _ _ _ _ c.assign_function.ensures (ap (λ h. ended (assign_line (host_name h.process ++ codes "_fn") (get_or c.args.drives.now 1 0))) c.host.view_is)) (takes_is _ _ _ _ c.assign_args.ensures (ap (λ ns. lines (numbered (λ i n. assign_line (arg_name c.host.inside.process i) n) ns)) c.split_at.ensures.back ∙ ap (λ h. lines (numbered (λ i n. assign_line (arg_name h.process i) n) (drop 2 c.args.drives.now))) c.host.view_is)))) (assigned_host c.args.host.now c.args.drives.now c.requires)
