use Rattle.std.proofs.Common.{arith}
use Rattle.vl_lex.proofs.Strings.{quoted_longest, no_quoted}
use Rattle.vl_lex.proofs.fronts.quoted_len.Goals as goal
use Rattle.vl_lex.proofs.fronts.quoted_len.Goals.{else-inner-others-via-then-inner-others+else-others-inner-eq34, else-inner-others-via-else-inner-others}

pub returns-then-others-inner-eq34 : goal.returns-then-others-inner-eq34
returns-then-others-inner-eq34 c = quoted_longest _ _ _ _ c.in_ok-open.ensures.cases.0 c.if-open-ne34.false c.in_string_len-inner.ensures.count c.if-inner-others.true c.if-others-inner-eq34.true

pub returns-else-inner-others : goal.returns-else-inner-others
returns-else-inner-others c =
    no_quoted _ _ _ _ c.in_ok-open.ensures.cases.0 c.in_string_len-inner.ensures.count
    (λ inside closes.
    elim c.else-inner-others.branch [
      | else-inner-others-via-then-inner-others+else-others-inner-eq34 w ↦ w.if-others-inner-eq34.false closes
      | else-inner-others-via-else-inner-others w ↦ absurd (omega arith)
    ])
