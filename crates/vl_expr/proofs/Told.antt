-- What an answer on a text says of the grammar.
use Rattle.std.proofs.Common.{◌≡◌, ℕ, List, Result, Ok, Err, refl, sym, ap, subst, ◌∙◌}
use Rattle.std.specs.Prelude.{IfOk, MatchResult}
use Rattle.xt_base.specs.declared.refusals.Fail.{Fail}
use Rattle.xt_base.specs.declared.refusals.Fail.TheVariants as fails
use Rattle.xt_base.specs.declared.refusals.Refusal.{Refusal}
use Rattle.vl_pre.specs.Text.{Expanded}
use Rattle.vl_lex.specs.declared.kinds.Token.{Token}
use Rattle.vl_tree.specs.declared.terminals.Terminal.{Terminal}
use Rattle.vl_tree.specs.declared.exprs.Expr.{Expr}
use Rattle.vl_tree.specs.Expressions.{IsWholeExpr}
use Rattle.vl_expr.specs.Reading.{whole_of}
use Rattle.vl_expr.specs.Refusals.{Tells, IsNoTree}
use Rattle.vl_expr.proofs.Results.{ok_one}
use Rattle.vl_expr.proofs.Comes.{found}
use Rattle.vl_expr.proofs.Laws.{not_read, whole_sound, whole_complete}

module _ (text : Expanded) (ts : List Token) (ls : List Terminal) (n at : ℕ) where
  pub told_found : (r : Result (Expr × ℕ) Fail) → Tells text ts r (whole_of ls n at) → IfOk r (λ answer. IsWholeExpr ls n at answer.1 answer.0)
  told_found (Ok (e, j)) t = whole_sound ls n at (found e j t.0) t.1
  told_found (Err f) t = tt

  pub told_only : (r : Result (Expr × ℕ) Fail) → Tells text ts r (whole_of ls n at) → (e : Expr) (j : ℕ) → IsWholeExpr ls n at j e →
      MatchResult r (λ answer. answer ≡ (e, j)) (λ fail. fail ≡ fails.Memory)
  told_only (Ok (d, k)) t e j w =
      let r = whole_complete ls n at j e w in
      let same : found d k t.0 ≡ found e j r.depth = ok_one (sym t.1 ∙ r.is) in
      ap (λ p. (p.tree, p.end)) same
  told_only (Err (fails.Refused refusal)) t e j w = let r = whole_complete ls n at j e w in absurd (not_read (sym t.1 ∙ r.is))
  told_only (Err fails.Memory) t e j w = refl

  pub told_refused : (r : Result (Expr × ℕ) Fail) → Tells text ts r (whole_of ls n at) → (refusal : Refusal) → r ≡ Err (fails.Refused refusal) →
      (stop : ℕ) × (whole_of ls n at ≡ Err stop) × IsNoTree text ts stop refusal
  told_refused (Ok a) t refusal e = cc
  told_refused (Err (fails.Refused other)) t refusal e = let same : other ≡ refusal = cc in (t.0, t.1, subst (IsNoTree text ts t.0) same t.2)
  told_refused (Err fails.Memory) t refusal e = cc

  pub told_none : (r : Result (Expr × ℕ) Fail) → Tells text ts r (whole_of ls n at) → (refusal : Refusal) → r ≡ Err (fails.Refused refusal) →
      (e : Expr) (j : ℕ) → IsWholeExpr ls n at j e → ⊥
  told_none (Ok a) t refusal e d j w = cc
  told_none (Err (fails.Refused other)) t refusal e d j w = let r = whole_complete ls n at j d w in not_read (sym t.1 ∙ r.is)
  told_none (Err fails.Memory) t refusal e d j w = cc
