use Rattle.vl_lex.proofs.Strings.{system_longest, no_system}
use Rattle.vl_lex.proofs.fronts.system_len.Goals as goal

pub returns-then-len-eq0 : goal.returns-then-len-eq0
returns-then-len-eq0 c = no_system _ _ _ _ c.in_ok-dollar.ensures.cases.0 c.in_word_len-len.ensures.count c.if-len-eq0.true

pub returns-else-len-eq0 : goal.returns-else-len-eq0
returns-else-len-eq0 c = system_longest _ _ _ _ c.in_ok-dollar.ensures.cases.0 c.if-dollar-ne36.false c.in_word_len-len.ensures.count c.if-len-eq0.false
