-- What follows from tokens that are right and refusals that are right, since a text has one of the two.
use Rattle.std.proofs.Common.{◌≡◌, ◌≢◌, ℕ, List, Result, Ok, Err, length, refl, ap, ◌∙◌}
use Rattle.std.specs.Prelude.{IfOk, MatchResult, IsErrAnd}
use Rattle.xt_base.specs.declared.refusals.Fail.{Fail}
use Rattle.xt_base.specs.declared.refusals.Fail.TheVariants.{Refused, Memory}
use Rattle.xt_base.specs.declared.refusals.Refusal.{Refusal}
use Rattle.vl_pre.specs.Text.{Expanded}
use Rattle.vl_lex.specs.Refusals.{IsRefused, no_token}
use Rattle.vl_lex.specs.Tokens.{AreTokens, AreSpans, FailsAt}
use Rattle.vl_lex.specs.declared.kinds.Token.{Token}
use Rattle.vl_lex.proofs.Readings.{spans}
use Rattle.vl_lex.proofs.Unique.{one_reading, no_failure, one_failure}

module _ (text : Expanded) where
  -- what has tokens is answered with them
  pub only : (r : Result (List Token) Fail) → IfOk r (λ tokens. AreTokens text.bytes tokens) → ((refusal : Refusal) → r ≡ Err (Refused refusal) → IsRefused text refusal) → (ts : List Token) → AreTokens text.bytes ts → MatchResult r (λ tokens. tokens ≡ ts) (λ fail. fail ≡ Memory)
  only (Ok tokens) ok refused ts are = one_reading text.bytes 0 tokens ts (length text.bytes) ok are
  only (Err (Refused refusal)) ok refused ts are = let is = refused refusal refl in absurd (no_failure text.bytes ts is.at are is.fails)
  only (Err Memory) ok refused ts are = refl

  -- what fails is refused
  pub fails : (r : Result (List Token) Fail) → IfOk r (λ tokens. AreTokens text.bytes tokens) → ((refusal : Refusal) → r ≡ Err (Refused refusal) → IsRefused text refusal) → (at : ℕ) → FailsAt text.bytes at → IsErrAnd r (λ fail. fail ≢ Memory → fail ≡ Refused (no_token text at))
  fails (Ok tokens) ok refused at stuck = absurd (no_failure text.bytes tokens at ok stuck)
  fails (Err (Refused refusal)) ok refused at stuck = λ other. let is = refused refusal refl in ap Refused (is.is ∙ ap (no_token text) (one_failure text.bytes is.at at is.fails stuck))
  fails (Err Memory) ok refused at stuck = λ other. absurd (other refl)

  pub in_order : (r : Result (List Token) Fail) → IfOk r (λ tokens. AreTokens text.bytes tokens) → IfOk r (λ tokens. AreSpans tokens (length text.bytes))
  in_order (Ok tokens) ok = spans text.bytes tokens ok
  in_order (Err fail) ok = tt
