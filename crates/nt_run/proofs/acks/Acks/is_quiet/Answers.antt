-- The replies, seen.
use Rattle.std.proofs.Common.{◌∙◌, ap, not}
use Rattle.std.specs.Prelude.{is_some}
use Rattle.std.specs.List.{list_any}
use Rattle.nt_run.specs.Acknowledged.{is_quiet}
use Rattle.nt_run.proofs.Replies.{seen-any}
use Rattle.nt_run.proofs.acks.Acks.is_quiet.Goals as goal

pub returns : goal.returns
returns c =
    ap not (c.has_reply.ensures ∙ ap (list_any is_some) c.deref.ensures.value ∙ seen-any (λ r. r.items) c.self.inside.replies.items)
    ∙ ap is_quiet c.self.view_is
