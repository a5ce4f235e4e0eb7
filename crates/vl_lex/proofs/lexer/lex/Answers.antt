use Rattle.vl_lex.proofs.Outcomes.{only, fails, in_order}
use Rattle.vl_lex.proofs.lexer.lex.Goals as goal

pub returns-clause-only : goal.returns-clause-only
returns-clause-only c = only _ _ c.lexed.ensures.ok c.lexed.ensures.refused

pub returns-clause-fails : goal.returns-clause-fails
returns-clause-fails c = fails _ _ c.lexed.ensures.ok c.lexed.ensures.refused

pub returns-clause-spans : goal.returns-clause-spans
returns-clause-spans c = in_order c.args.text.now _ c.lexed.ensures.ok
