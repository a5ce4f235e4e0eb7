-- What lexer, parser and reader answer, as a judgement on the source.
use Rattle.std.proofs.Common.{◌≡◌, ◌∙◌, ◌<◌, refl, subst, sym, ℕ, List, length, false}
use Rattle.std.specs.Prelude.{Result, Ok, Err, IfErr, IsErrAnd}
use Rattle.xt_base.specs.declared.refusals.Refusal.{Refusal}
use Rattle.xt_base.specs.declared.refusals.Fail.{Fail}
use Rattle.xt_base.specs.declared.refusals.Fail.TheVariants as fails
use Rattle.vl_pre.specs.Text.{Expanded}
use Rattle.vl_lex.specs.Refusals.{IsRefused}
use Rattle.vl_lex.specs.Tokens.{AreTokens}
use Rattle.vl_lex.specs.declared.kinds.Token.{Token}
use Rattle.vl_tree.specs.declared.modules.Tree.{Tree}
use Rattle.vl_expr.specs.Refusals.{IsNoTree}
use Rattle.xt_compile.specs.declared.first.source.Source.{Source}
use Rattle.xt_compile.specs.declared.first.tokens.FormError.{FormError}
use Rattle.xt_compile.specs.declared.first.tokens.FormError.TheVariants as errors
use Rattle.xt_compile.specs.first.Source.{waits}
use Rattle.xt_top.specs.Breaks.{FirstBreak, at_byte, at_token, out_of_form, no_wait, not_of_form, without_wait}
use Rattle.xt_top.specs.Command.{SourceWords}
use Rattle.xt_top.specs.Sources.{HasTree, IsFormOf, IsTreeOf, read_from}
use Rattle.xt_top.specs.inner.Works.{IsRefusal}

module _ (text : Expanded) (s : SourceWords) where
  -- ---- refusals of the lexer and the parser

  pub no_token_refusal : (fail : Fail) → ((refusal : Refusal) → ◌≡◌ {A = Result (List Token) Fail} (Err fail) (Err (fails.Refused refusal)) → IsRefused text refusal) → IsRefusal text s fail
  no_token_refusal (fails.Refused refusal) told = let is = told refusal refl in (subst (FirstBreak text s) (sym is.is) (at_byte is.at is.fails), is.named)
  no_token_refusal fails.Memory told = tt

  pub no_tree_refusal : (ts : List Token) → AreTokens text.bytes ts → (fail : Fail)
      → ((refusal : Refusal) → ◌≡◌ {A = Result Tree Fail} (Err fail) (Err (fails.Refused refusal)) → (stop : ℕ) × (read_from text ts ≡ Err stop) × IsNoTree text ts stop refusal)
      → ((refusal : Refusal) → ◌≡◌ {A = Result Tree Fail} (Err fail) (Err (fails.Refused refusal)) → (tree : Tree) → IsTreeOf text ts tree → ⊥) → IsRefusal text s fail
  no_tree_refusal ts are (fails.Refused refusal) told none =
      let (stop, stops, is) = told refusal refl in
      (at_token ts are (none refusal refl) stop stops refusal is, is.named)
  no_tree_refusal ts are fails.Memory told none = tt

  -- ---- refusals of the reader

  module _ (ts : List Token) (tree : Tree) (has : HasTree text ts tree) (refusal : Refusal) (named : refusal.place.file < length text.names) where
    pub out_of_form_refusal : refusal ≡ not_of_form → ((source : Source) → IsFormOf text s ts tree source → ⊥) → IsRefusal text s (fails.Refused refusal)
    out_of_form_refusal same none = (subst (FirstBreak text s) (sym same) (out_of_form ts tree has none), named)

    pub no_wait_refusal : (source : Source) → refusal ≡ without_wait source → IsFormOf text s ts tree source → waits source ≡ false → IsRefusal text s (fails.Refused refusal)
    no_wait_refusal source same form idle = (subst (FirstBreak text s) (sym same) (no_wait ts tree source has form idle), named)

-- ---- answers that are handed on, and that can't be

pub handed_on : {A E : Type 0} (result : Result A E) (x : E) (P : E → Type 0) → IsErrAnd result (λ y. y ≡ x) → P x → IfErr result P
handed_on (Ok a) x P e p = tt
handed_on (Err y) x P e p = subst P (sym e) p

pub no_memory : (error : FormError) → error ≡ errors.OutOfForm → error ≡ errors.Memory → ⊥
no_memory error form memory = let same : errors.OutOfForm ≡ errors.Memory = sym form ∙ memory in cc
