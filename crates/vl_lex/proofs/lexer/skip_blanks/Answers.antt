use Rattle.std.proofs.Common.{ap, ◌∙◌}
use Rattle.std.specs.List.{prefix_len}
use Rattle.vl_lex.specs.Bytes.{is_blank}
use Rattle.vl_lex.proofs.Readings.{blanks_here, blanks_stop}
use Rattle.vl_lex.proofs.lexer.skip_blanks.Goals as goal

pub returns-clause-blanks : goal.returns-clause-blanks
returns-clause-blanks c = blanks_here _ _ _ (c.blanks_len.ensures.count ∙ ap (prefix_len is_blank) c.split_at.ensures.back)

pub returns-clause-stops : goal.returns-clause-stops
returns-clause-stops c = blanks_stop _ _ _ (c.blanks_len.ensures.count ∙ ap (prefix_len is_blank) c.split_at.ensures.back)
