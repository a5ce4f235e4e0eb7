-- What is left of the replies.
use Rattle.std.proofs.Common.{◌≡◌, ◌∙◌, ap, length, replicate, None}
use Rattle.std.proofs.lemmas.List.{with_items_is, length-replicate}
use Rattle.nt_run.proofs.Replies.{seen-cleared}
use Rattle.nt_run.proofs.acks.Acks.clear.Goals as goal

pub returns : goal.returns
returns c =
    let old = c.self.inside.replies in
    let new = c.clear_all.new.replies in
    let all : new ≡ replicate (length old.items) None = c.clear_all.ensures ∙ ap (λ rs. replicate (length rs) None) c.deref_mut.ensures.value in
    let size : length new ≡ old.len = ap length c.clear_all.ensures ∙ length-replicate _ None ∙ c.deref_mut.ensures.len in
    rw (← c.self.view_is)
    (ap (λ rs. record { processes = c.self.inside.processes.items; replies = rs })
    (seen-cleared (λ r. r.items) old.items _ (with_items_is old new size ∙ all)))
