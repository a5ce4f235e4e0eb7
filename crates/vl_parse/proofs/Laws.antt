-- What an answer on a text says of the grammar, and that there is one tree.
use Rattle.std.proofs.Common.{◌≡◌, ◌==◌, ℕ, max, List, [], ◌∷◌, Bool, true, Result, Ok, Err, length, refl, sym, ap, subst, ◌∙◌, arith}
use Rattle.std.proofs.lemmas.Bool.{eqb-true}
use Rattle.std.specs.Prelude.{IfOk, MatchResult}
use Rattle.xt_base.specs.declared.refusals.Fail.{Fail}
use Rattle.xt_base.specs.declared.refusals.Fail.TheVariants as fails
use Rattle.xt_base.specs.declared.refusals.Refusal.{Refusal}
use Rattle.vl_pre.specs.Text.{Expanded}
use Rattle.vl_lex.specs.declared.kinds.Token.{Token}
use Rattle.vl_tree.specs.declared.terminals.Terminal.{Terminal}
use Rattle.vl_tree.specs.declared.modules.Tree.{Tree}
use Rattle.vl_tree.specs.declared.modules.Module.{Module}
use Rattle.vl_expr.specs.Terminals.{terminals_of}
use Rattle.vl_lex.specs.Views.{spellings_of}
use Rattle.vl_tree.specs.Modules.{IsSource}
use Rattle.vl_expr.specs.declared.found.ParseError.{ParseError}
use Rattle.vl_expr.specs.declared.found.ParseError.TheVariants as errors
use Rattle.vl_expr.specs.Reading.{Reading, Gives}
use Rattle.vl_expr.specs.Refusals.{IsNoTree}
use Rattle.vl_expr.proofs.Results.{ok_one}
use Rattle.vl_expr.proofs.Laws.{not_read}
use Rattle.vl_parse.specs.Input.{Input}
use Rattle.vl_parse.specs.Modules.{source_of}
use Rattle.vl_parse.specs.Refusals.{Tells}
use Rattle.vl_parse.proofs.SoundModules.{source_stands}
use Rattle.vl_parse.proofs.ReadModules.{source_reads}
use Rattle.vl_parse.proofs.Deeper.{source_deeper}

pub one_tree : (ls : List Terminal) (names : List (List ℕ)) (n m : ℕ) (s t : Tree) → IsSource ls names n s → IsSource ls names m t → s ≡ t
one_tree ls names n m s t a b =
    ok_one (sym (source_reads ls names (max n m) s (source_deeper ls names n s a (max n m) (omega arith)))
    ∙ source_reads ls names (max n m) t (source_deeper ls names m t b (max n m) (omega arith)))

-- without tokens there is the empty source
pub empty_source : (text : List ℕ) (ts : List Token) (n : ℕ) → ts ≡ [] →
    source_of (terminals_of text ts) (spellings_of text ts) n ≡ Ok (record { modules = [] })
empty_source text ts n e = rw e refl

-- a stop, told by the code
pub gives_stop : {X : Type 0} (e : ParseError) (at : ℕ) (r : Reading X) → e ≡ errors.NoTree at → Gives (Err e) r → r ≡ Err at
gives_stop e at r is g = subst (λ k. Gives (Err k) r) is g

pub no_tokens : {X : Type 0} (ts : List X) → (length ts == 0) ≡ true → ts ≡ []
no_tokens [] e = refl
no_tokens (t ∷ ts) e = let z : length (t ∷ ts) ≡ 0 = eqb-true (length (t ∷ ts)) 0 e in absurd (omega arith)

pub empty_found : (text : List ℕ) (ts : List Token) (n : ℕ) (modules : List Module) → ts ≡ [] → modules ≡ [] →
    IsSource (terminals_of text ts) (spellings_of text ts) n (record { modules = modules })
empty_found text ts n modules e m =
    subst (λ ms. IsSource (terminals_of text ts) (spellings_of text ts) n (record { modules = ms })) (sym m)
    (source_stands (terminals_of text ts) (spellings_of text ts) n (record { modules = [] }) (empty_source text ts n e))

-- what is read of a text's tokens
pub along : (text : List ℕ) (ts : List Token) (n : ℕ) (i : Input) (ls : List Terminal) (bytes : List ℕ) (list : List Token) →
    i ≡ record { terminals = ls; names = spellings_of bytes list } → ls ≡ terminals_of text ts → bytes ≡ text → list ≡ ts →
    source_of (terminals_of text ts) (spellings_of text ts) n ≡ source_of i.terminals i.names n
along text ts n i ls bytes list e l b t =
    sym (ap (λ (k : Input). source_of k.terminals k.names n) e
    ∙ ap (λ k. source_of k (spellings_of bytes list) n) l
    ∙ ap (λ k. source_of (terminals_of text ts) (spellings_of k list) n) b
    ∙ ap (λ k. source_of (terminals_of text ts) (spellings_of text k) n) t)

module _ (text : Expanded) (ts : List Token) (ls : List Terminal) (names : List (List ℕ)) (n : ℕ) where
  pub told_found : (r : Result Tree Fail) → Tells text ts r (source_of ls names n) → IfOk r (λ tree. IsSource ls names n tree)
  told_found (Ok tree) t = source_stands ls names n tree t
  told_found (Err f) t = tt

  pub told_only : (r : Result Tree Fail) → Tells text ts r (source_of ls names n) → (tree : Tree) → IsSource ls names n tree →
      MatchResult r (λ found. found ≡ tree) (λ fail. fail ≡ fails.Memory)
  told_only (Ok found) t tree s = ok_one (sym t ∙ source_reads ls names n tree s)
  told_only (Err (fails.Refused refusal)) t tree s = absurd (not_read (sym t.1 ∙ source_reads ls names n tree s))
  told_only (Err fails.Memory) t tree s = refl

  pub told_refused : (r : Result Tree Fail) → Tells text ts r (source_of ls names n) → (refusal : Refusal) → r ≡ Err (fails.Refused refusal) →
      (stop : ℕ) × (source_of ls names n ≡ Err stop) × IsNoTree text ts stop refusal
  told_refused (Ok a) t refusal e = cc
  told_refused (Err (fails.Refused other)) t refusal e = let same : other ≡ refusal = cc in (t.0, t.1, subst (IsNoTree text ts t.0) same t.2)
  told_refused (Err fails.Memory) t refusal e = cc

  pub told_none : (r : Result Tree Fail) → Tells text ts r (source_of ls names n) → (refusal : Refusal) → r ≡ Err (fails.Refused refusal) →
      (tree : Tree) → IsSource ls names n tree → ⊥
  told_none (Ok a) t refusal e tree s = cc
  told_none (Err (fails.Refused other)) t refusal e tree s = not_read (sym t.1 ∙ source_reads ls names n tree s)
  told_none (Err fails.Memory) t refusal e tree s = cc
