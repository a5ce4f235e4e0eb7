use Rattle.std.proofs.Common.{◌≡◌, length}
use Rattle.case_middle.proofs.expressions.environment.Given as goal

-- each token has a meaning
abbrev pub invariant-loop-field : goal.invariant-loop-field
invariant-loop-field l = length l.env.meanings ≡ length l.tokens
