use Rattle.std.proofs.Common.{sym, subst}
use Rattle.vl_lex.specs.Fronts.{IsLongestFront, HasNoFront, LongestFront}
use Rattle.vl_lex.specs.Spelling.{IsBaseWithDigits, IsBased}
use Rattle.vl_lex.proofs.Numbers.{based_longest, no_quote, no_number}
use Rattle.vl_lex.proofs.fronts.based_len.Goals as goal

pub returns : goal.returns
returns c =
    based_longest _ _ _ _ _ c.in_ok-quote.ensures.cases.0 c.if-quote-ne39.false c.sign_len-sign.ensures.sign c.sign_len-sign.ensures.within
    (subst (λ l. IsLongestFront IsBaseWithDigits l c.in_ok-number.number) c.split_at.ensures.back c.in_ok-number.ensures)

pub returns-then-quote-ne39 : goal.returns-then-quote-ne39
returns-then-quote-ne39 c = no_quote _ _ _ c.in_ok-quote.ensures.cases.0 c.if-quote-ne39.true

pub returns-in_err-number : goal.returns-in_err-number
returns-in_err-number c =
    subst (LongestFront IsBased c.args.rest.now) (sym c.from_residual-in_err-number.ensures)
    (no_number _ _ _ _ c.in_ok-quote.ensures.cases.0 c.sign_len-sign.ensures.sign
    (subst (HasNoFront IsBaseWithDigits) c.split_at.ensures.back c.in_err-number.ensures))
