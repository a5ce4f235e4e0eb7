use Rattle.std.proofs.Common.{rules, inl, refl}
use Rattle.xt_top.specs.Answer.{no_command}
use Rattle.xt_top.proofs.answer.answer_of.Goals as goal

pub returns-in-Ok-None-clause-finds : goal.returns-in-Ok-None-clause-finds
returns-in-Ok-None-clause-finds g c = inl (no_command (search rules), refl)
