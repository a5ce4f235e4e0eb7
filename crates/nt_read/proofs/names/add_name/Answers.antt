use Rattle.std.proofs.Common.{◌∙◌, sym, ap, map}
use Rattle.nt_read.proofs.Seen.{new_is, put_is}
use Rattle.nt_read.proofs.names.add_name.Goals as goal

pub returns-in-Ok-clause-fresh : goal.returns-in-Ok-clause-fresh
returns-in-Ok-clause-fresh c = c.in-Ok.ensures.added ∙ sym (new_is c.args.names.now.keys c.args.name)

pub returns-in-Ok-clause-names : goal.returns-in-Ok-clause-names
returns-in-Ok-clause-names c = λ fresh. ap (map (λ k. k.now)) c.in-Ok.ensures.keys ∙ put_is c.args.names.now.keys c.args.name (sym c.in-Ok.ensures.added ∙ fresh)
