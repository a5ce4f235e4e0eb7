use Rattle.std.proofs.Common.{IfNone, Option, take, sym, subst}
use Rattle.vl_lex.specs.Fronts.{IsLongestFront, HasNoFront, IsToken}
use Rattle.vl_lex.specs.Spelling.{Spells}
use Rattle.vl_lex.specs.Tokens.{BeginsNoToken}
use Rattle.vl_lex.specs.declared.kinds.Token.{Token}
use Rattle.vl_lex.proofs.Readings.{token_here, stuck_here}
use Rattle.vl_lex.proofs.longest.token_at.Goals as goal

pub returns-clause-token : goal.returns-clause-token
returns-clause-token c =
    token_here _ _ _ _ c.requires.within
    (subst (λ l. IsLongestFront IsToken l c.in_ok-kind.len) c.split_at.ensures.back c.in_ok-kind.ensures.longest)
    (subst (λ l. Spells c.in_ok-kind.kind (take c.in_ok-kind.len l)) c.split_at.ensures.back c.in_ok-kind.ensures.kind)

pub returns-in_err-kind-clause-none : goal.returns-in_err-kind-clause-none
returns-in_err-kind-clause-none c =
    let Is : Option Token → Type 0 = λ found. IfNone found (BeginsNoToken c.args.bytes.now c.args.at) in
    subst Is (sym c.from_residual.ensures)
    (stuck_here _ _ c.requires.within c.requires.no_blank (subst (HasNoFront IsToken) c.split_at.ensures.back c.in_err-kind.ensures.longest))
