use Rattle.nt_read.proofs.Ascii.{text_is}
use Rattle.nt_read.proofs.words.name_of.Goals as goal

pub unwrap-text-requires : goal.unwrap-text-requires
unwrap-text-requires c = text_is c.from_utf8.result c.args.word.now _ _ c.requires c.from_utf8.ensures.cases (λ y q. q.0)
