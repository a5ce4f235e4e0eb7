use Rattle.std.proofs.Common.{codes, ◌++◌, ap, ◌∙◌}
use Rattle.nt_core.specs.Text.{host_name, arg_name, output_line, numbered}
use Rattle.nt_write.specs.Lines.{following, followings}
use Rattle.nt_write.proofs.PortLists.{arg_lines}
use Rattle.nt_write.proofs.Taking.{takes_is, pieces2}
use Rattle.nt_write.proofs.pen.Pen.output_host.Goals as goal

pub returns : goal.returns
returns g c = pieces2 (takes_is _ _ _ _ c.output_request.ensures (ap (λ h. following (output_line 1 (host_name h.process ++ codes "_req"))) c.host.view_is)) (pieces2 (takes_is _ _ _ _ c.output_function.ensures (ap (λ h. following (output_line 8 (host_name h.process ++ codes "_fn"))) c.host.view_is)) (takes_is _ _ _ _ c.output_args.ensures (ap (λ ws. followings (numbered (λ i w. output_line w (arg_name c.host.inside.process i)) ws)) c.as_slice.ensures.value ∙ ap (λ h. followings (numbered (λ i w. output_line w (arg_name h.process i)) h.args)) c.host.view_is ∙ ap (λ t. followings t) (arg_lines c.args.host.now.process c.args.host.now.args))))
