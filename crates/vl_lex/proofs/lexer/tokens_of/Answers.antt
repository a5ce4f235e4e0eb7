use Rattle.std.proofs.Common.{sym, subst}
use Rattle.vl_lex.specs.Tokens.{Reads}
use Rattle.vl_lex.proofs.Readings.{reads_more}
use Rattle.vl_lex.proofs.lexer.tokens_of.Goals as goal

pub loop-at-preserved : goal.loop-at-preserved
loop-at-preserved c = record {
  within = c.skip_blanks-at-in-Some.ensures.within;
  reads = subst (λ ts. Reads c.args.bytes.now 0 ts c.skip_blanks-at-in-Some.result) (sym c.in_ok-put-in-Some.ensures.ok)
      (reads_more _ _ _ _ _ _ c.loop-at.invariant.reads c.in-Some.ensures.start c.in-Some.ensures.token c.skip_blanks-at-in-Some.ensures.blanks);
  stops = c.skip_blanks-at-in-Some.ensures.stops;
}
