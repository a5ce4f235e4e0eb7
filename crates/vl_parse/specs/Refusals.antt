-- How tokens without a tree are refused. It is this project's own.
use Rattle.std.specs.Prelude.{◌≡◌, ℕ, List, Result, Ok, Err}
use Rattle.xt_base.specs.declared.refusals.Fail.{Fail}
use Rattle.xt_base.specs.declared.refusals.Fail.TheVariants as fails
use Rattle.vl_tree.specs.declared.modules.Tree.{Tree}
use Rattle.vl_pre.specs.Text.{Expanded}
use Rattle.vl_lex.specs.declared.kinds.Token.{Token}
use Rattle.vl_expr.specs.Reading.{Reading}
use Rattle.vl_expr.specs.Refusals.{IsNoTree}

-- an answer tells what reading gives: a tree, or a refusal where there is none
abbrev pub Tells : Expanded → List Token → Result Tree Fail → Reading Tree → Type 0
Tells text ts (Ok tree) read = read ≡ Ok tree
Tells text ts (Err (fails.Refused refusal)) read = (at : ℕ) × (read ≡ Err at) × IsNoTree text ts at refusal
Tells text ts (Err fails.Memory) read = Unit {0}
