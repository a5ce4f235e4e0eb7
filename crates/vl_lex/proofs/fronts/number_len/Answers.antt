use Rattle.std.proofs.Common.{sym, ◌∙◌, subst}
use Rattle.vl_lex.specs.Fronts.{IsLongestFront, HasNoFront, LongestFront}
use Rattle.vl_lex.specs.Spelling.{AreDigits, IsBaseWithDigits}
use Rattle.vl_lex.proofs.Numbers.{number_longest, no_base, no_digits}
use Rattle.vl_lex.proofs.fronts.number_len.Goals as goal

pub returns : goal.returns
returns c =
    number_longest _ _ _ c.in_ok-radix.radix _ _ c.in_ok-base.ensures.cases.0 (sym c.radix_of.ensures.radix ∙ c.in_ok-radix.was) c.blanks_len-blanks.ensures.count
    (subst (λ l. IsLongestFront (AreDigits c.in_ok-radix.radix) l c.in_ok-digits.digits) c.split_at.ensures.back c.in_ok-digits.ensures)

pub returns-in_err-radix : goal.returns-in_err-radix
returns-in_err-radix c =
    subst (LongestFront IsBaseWithDigits c.args.rest.now) (sym c.from_residual-in_err-radix.ensures)
    (no_base _ _ _ c.in_ok-base.ensures.cases.0 (sym c.radix_of.ensures.radix ∙ c.in_err-radix.was))

pub returns-in_err-digits : goal.returns-in_err-digits
returns-in_err-digits c =
    subst (LongestFront IsBaseWithDigits c.args.rest.now) (sym c.from_residual-in_err-digits.ensures)
    (no_digits _ _ _ c.in_ok-radix.radix _ c.in_ok-base.ensures.cases.0 (sym c.radix_of.ensures.radix ∙ c.in_ok-radix.was) c.blanks_len-blanks.ensures.count
    (subst (HasNoFront (AreDigits c.in_ok-radix.radix)) c.split_at.ensures.back c.in_err-digits.ensures))
