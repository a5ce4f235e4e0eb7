use Rattle.std.proofs.Common.{sym, ◌∙◌}
use Rattle.xt_base.specs.Identifiers.{begins_word, is_in_word}
use Rattle.vl_lex.proofs.Runs.{run_longest, no_run}
use Rattle.vl_lex.proofs.fronts.word_len.Goals as goal

pub returns-then-begins_word : goal.returns-then-begins_word
returns-then-begins_word c = run_longest begins_word is_in_word _ _ _ _ c.in_ok-first.ensures.cases.0 (sym c.begins_word.ensures ∙ c.if-begins_word.true) c.in_word_len.ensures.count

pub returns-else-begins_word : goal.returns-else-begins_word
returns-else-begins_word c = no_run begins_word is_in_word _ _ _ c.in_ok-first.ensures.cases.0 (sym c.begins_word.ensures ∙ c.if-begins_word.false)
