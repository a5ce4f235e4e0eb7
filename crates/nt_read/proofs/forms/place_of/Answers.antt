use Rattle.std.proofs.Common.{◌∙◌, ap, min, position, bytes_eq}
use Rattle.std.specs.Prelude.{unwrap_or}
use Rattle.nt_read.specs.Words.{greatest}
use Rattle.nt_read.proofs.Seen.{place_is}
use Rattle.nt_read.proofs.forms.place_of.Goals as goal

pub returns : goal.returns
returns c = c.min.ensures ∙ ap (λ n. min n greatest) (
    c.unwrap_or-place.ensures
    ∙ ap (λ o. unwrap_or o c.len.result) c.get_index_of.ensures.index
    ∙ ap (λ n. unwrap_or (position (λ k. bytes_eq c.args.name.now k.now) c.args.names.now.keys) n) c.len.ensures.len
    ∙ place_is c.args.names.now.keys c.args.name.now)
