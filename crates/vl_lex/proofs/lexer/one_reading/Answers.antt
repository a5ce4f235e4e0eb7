use Rattle.std.proofs.Common.{length}
use Rattle.vl_lex.proofs.Total.{some_reading}
use Rattle.vl_lex.proofs.Unique.{one_reading, no_failure, one_failure}
use Rattle.vl_lex.proofs.lexer.one_reading.Goals as goal

pub returns-clause-some : goal.returns-clause-some
returns-clause-some c = some_reading

pub returns-clause-tokens : goal.returns-clause-tokens
returns-clause-tokens c = λ text ts us left right. one_reading text 0 ts us (length text) left right

pub returns-clause-either : goal.returns-clause-either
returns-clause-either c = no_failure

pub returns-clause-place : goal.returns-clause-place
returns-clause-place c = one_failure
