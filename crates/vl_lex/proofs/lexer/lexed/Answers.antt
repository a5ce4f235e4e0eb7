use Rattle.std.proofs.Common.{◌<◌, Err, length, ap, subst}
use Rattle.vl_lex.specs.Tokens.{FailsAt}
use Rattle.vl_lex.proofs.lexer.lexed.Goals as goal

pub place-requires : goal.place-requires
place-requires c =
    let fails : FailsAt c.bytes.result.now c.in-Err-NoToken.at = c.in-Err-NoToken.ensures.no_token c.in-Err-NoToken.at (ap Err c.in-Err-NoToken.field-0-is) in
    subst (λ l. c.in-Err-NoToken.at < length l) c.bytes.ensures.bytes fails.stuck.within
