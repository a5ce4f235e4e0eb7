-- How many expressions, arguments and parts there are.
use Rattle.std.proofs.Common.{◌≡◌, ◌↔◌, suc, Bool, true, false, List, [], ◌∷◌, ◌++◌, map, length, refl, ap, sym, ◌∙◌}
use Rattle.std.specs.Prelude.{IsTrue}
use Rattle.el_design.specs.Plain.{Expr, Statement}
use Rattle.el_design.specs.View.{expr_of, exprs_of, lvalue_of, parts_of, stmt_step, arm_step, statement_of, arms_of, PlainArm}
use Rattle.el_design.specs.declared.statements.Stmt.{Stmt}
use Rattle.el_design.specs.declared.statements.Stmt.TheOpen.{Stmt-F}
use Rattle.el_design.specs.declared.statements.Stmt.TheFolds.{fold_out-Stmt}
use Rattle.ck_call.specs.inner.Nodes.{named_all, labels_named, arms_named}
use Rattle.el_design.specs.declared.expressions.TExpr.{TExpr}
use Rattle.el_design.specs.declared.expressions.Target as target
use Rattle.el_design.specs.declared.expressions.Target.{Target}
use Rattle.el_design.specs.Calls.{count_of_exprs}
use Rattle.el_design.specs.Names.{is_nowhere}
use Rattle.el_design.proofs.Equations.{target_concat_is}

pub calls_named : (es : List TExpr) → count_of_exprs (exprs_of (map expr_of es)) ≡ length es
calls_named [] = refl
calls_named (e ∷ es) = ap suc (calls_named es)

empty_is : (b : Bool) (ts : List Target) → (IsTrue b ↔ (ts ≡ [])) → b ≡ is_nowhere (parts_of (map lvalue_of ts))
empty_is true [] h = refl
empty_is true (x ∷ xs) h = let e : x ∷ xs ≡ [] = h.0 refl in cc
empty_is false [] h = let e : false ≡ true = h.1 refl in cc
empty_is false (x ∷ xs) h = refl

pub nowhere_is : (t : Target) (ts : List Target) (b : Bool) → t ≡ target.Concat ts → (IsTrue b ↔ (ts ≡ [])) → b ≡ is_nowhere (lvalue_of t)
nowhere_is t ts b e h = empty_is b ts h ∙ ap is_nowhere (sym (target_concat_is ts)) ∙ ap (λ x. is_nowhere (lvalue_of x)) (sym e)

-- ---- the labels of a `case`

never_an_arm : (y : Stmt-F Statement PlainArm) → labels_named (stmt_step y) ≡ []
never_an_arm Stmt-F.Null = refl
never_an_arm (Stmt-F.Block at mark body) = refl
never_an_arm (Stmt-F.Assign at to value held) = refl
never_an_arm (Stmt-F.If at test a b) = refl
never_an_arm (Stmt-F.Case at on arms other) = refl
never_an_arm (Stmt-F.For at v first test next body) = refl
never_an_arm (Stmt-F.While at test body) = refl
never_an_arm (Stmt-F.Repeat at count body) = refl
never_an_arm (Stmt-F.Forever at body) = refl
never_an_arm (Stmt-F.Wait at falling) = refl
never_an_arm (Stmt-F.Enable at t ins outs) = refl
never_an_arm (Stmt-F.Disable at m) = refl
never_an_arm (Stmt-F.Host at f ins result outs) = refl

no_labels : (s : Stmt) → labels_named (statement_of s) ≡ []
no_labels s = ap labels_named (fold_out-Stmt Statement PlainArm stmt_step arm_step s) ∙ never_an_arm _

pub labels_are : (on : Expr) (arms : List PlainArm) (other : Stmt) → labels_named (arms_of on arms (statement_of other)) ≡ arms_named arms
labels_are on [] other = no_labels other
labels_are on (a ∷ more) other = ap (λ l. named_all (exprs_of a.labels) ++ l) (labels_are on more other)
