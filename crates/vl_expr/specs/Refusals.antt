-- How tokens without a tree are refused. It is this project's own.
use Rattle.std.specs.Prelude.{◌≡◌, ◌<◌, ◌-◌, ℕ, min, List, Result, Ok, Err, Some, slice_get, length}
use Rattle.xt_base.specs.declared.refusals.Refusal.{Refusal}
use Rattle.xt_base.specs.declared.refusals.Fail.{Fail}
use Rattle.xt_base.specs.declared.refusals.Fail.TheVariants as fails
use Rattle.vl_tree.specs.declared.exprs.Expr.{Expr}
use Rattle.vl_expr.specs.declared.found.Found.{Found}
use Rattle.vl_expr.specs.Reading.{Reading}
use Rattle.vl_pre.specs.Text.{Expanded, place_of}
use Rattle.vl_lex.specs.declared.kinds.Token.{Token}

-- rule 20, at the place of a token
abbrev pub no_tree : Expanded → Token → Refusal
no_tree text token = record { rule = record { 0 = 20 }; place = place_of text token.start }

-- rule 20, at the place of the token with this number, or of the last one where there is none such; it lies in a file of the text
pub record IsNoTree (text : Expanded) (ts : List Token) (stop : ℕ) (refusal : Refusal) : Type 0 where
  pub token : Token
  pub there : slice_get ts (min stop (length ts - 1)) ≡ Some token
  pub is : refusal ≡ no_tree text token
  pub named : refusal.place.file < length text.names

-- an answer tells what reading gives: a tree with the place behind it, or a refusal where there is none
abbrev pub Tells : Expanded → List Token → Result (Expr × ℕ) Fail → Reading (Found Expr) → Type 0
Tells text ts (Ok answer) read = (depth : ℕ) × (read ≡ Ok (record { tree = answer.0; end = answer.1; depth = depth }))
Tells text ts (Err (fails.Refused refusal)) read = (at : ℕ) × (read ≡ Err at) × IsNoTree text ts at refusal
Tells text ts (Err fails.Memory) read = Unit {0}
