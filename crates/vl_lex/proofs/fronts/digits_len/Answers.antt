use Rattle.std.proofs.Common.{sym, ◌∙◌}
use Rattle.std.specs.Char.{is_digit}
use Rattle.vl_lex.specs.Bytes.{is_in_number}
use Rattle.vl_lex.proofs.Runs.{run_longest, no_run}
use Rattle.vl_lex.proofs.fronts.digits_len.Goals as goal

pub returns-then-is_digit : goal.returns-then-is_digit
returns-then-is_digit c = run_longest (λ b. is_digit b c.args.radix) (is_in_number c.args.radix) _ _ _ _ c.in_ok-first.ensures.cases.0 (sym c.is_digit.ensures ∙ c.if-is_digit.true) c.in_number_len.ensures.count

pub returns-else-is_digit : goal.returns-else-is_digit
returns-else-is_digit c = no_run (λ b. is_digit b c.args.radix) (is_in_number c.args.radix) _ _ _ c.in_ok-first.ensures.cases.0 (sym c.is_digit.ensures ∙ c.if-is_digit.false)
