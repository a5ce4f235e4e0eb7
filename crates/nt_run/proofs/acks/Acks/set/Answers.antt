-- The reply that is put in, seen.
use Rattle.std.proofs.Common.{◌≡◌, ◌<◌, ◌∙◌, sym, ap, subst, length, Some, set, get_or, map}
use Rattle.std.specs.Option.{option_map}
use Rattle.std.proofs.lemmas.List.{map-set, get_or_read}
use Rattle.nt_run.proofs.acks.Acks.set.Goals as goal

pub returns : goal.returns
returns c =
    let old = c.self.inside in
    let within : c.args.host < length old.processes.items = subst (λ a. c.args.host < length a.processes) (sym c.self.view_is) c.requires in
    let place : c.index-process.result.now ≡ get_or old.processes.items c.args.host 0 =
    get_or_read old.processes.items c.args.host c.index-process.result.now within c.index-process.ensures 0 in
    rw (← c.self.view_is)
    (ap (λ rs. record { processes = old.processes.items; replies = rs })
    (map-set (option_map (λ r. r.items)) old.replies.items c.index-process.result.now (Some c.reply_of.result)
    ∙ ap (λ p. set (map (option_map (λ r. r.items)) old.replies.items) p (Some c.reply_of.result.items)) place
    ∙ ap (λ r. set (map (option_map (λ r. r.items)) old.replies.items) (get_or old.processes.items c.args.host 0) (Some r)) c.reply_of.ensures))
