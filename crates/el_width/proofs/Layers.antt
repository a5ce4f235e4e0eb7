-- What is broken in an expression, from what is broken in its parts, in order; and what some expressions are as operands.
use Rattle.std.proofs.Common.{◌≡◌, ℕ, Bool, true, false, ◌&&◌, List, ◌++◌, map, Option, None, Result, Ok, Err, IfOk, OnOk, refl, sym, ◌∙◌, ap, ap₂}
use Rattle.std.specs.Prelude.{fold, flat_map, unwrap_or, ℤ}
use Rattle.std.proofs.lemmas.List.Sums.{fold-append}
use Rattle.std.proofs.lemmas.Result.{on_ok_weaker, IfOk-weaker}
use Rattle.xt_base.specs.declared.refusals.Refusal.{Refusal}
use Rattle.xt_base.specs.First.{sooner}
use Rattle.vl_tree.specs.declared.exprs.Expr.{Expr, map-Expr}
use Rattle.vl_tree.specs.declared.exprs.Select.{Select}
use Rattle.vl_tree.specs.declared.exprs.Expr.TheVariants as expr
use Rattle.vl_tree.specs.declared.exprs.Select.TheVariants as select
use Rattle.vl_tree.specs.declared.exprs.Expr.TheOpen as layer
use Rattle.vl_tree.specs.declared.exprs.Expr.TheViews.{roll-Expr}
use Rattle.vl_tree.specs.declared.exprs.Expr.TheFolds.{fold-roll-Expr, fold-roll-Select}
use Rattle.vl_tree.specs.declared.operators.UnOp.{UnOp}
use Rattle.vl_tree.specs.declared.operators.BinOp.{BinOp}
use Rattle.el_design.specs.declared.expressions.TExpr.{TExpr}
use Rattle.el_design.specs.declared.expressions.Kind.TheVariants as kind
use Rattle.el_width.specs.declared.operands.Operand as code
use Rattle.el_width.specs.declared.operands.Alone.{Alone}
use Rattle.el_width.specs.declared.operands.Parts.{Parts}
use Rattle.el_width.specs.Environment.{Environment, means}
use Rattle.el_width.specs.Lengths.{times}
use Rattle.el_width.specs.Operators.{manner_of, keeps_length}
use Rattle.el_width.specs.Operands.{Operand, own, choice, whole, count_known, variable, called, arguments, formals_of, known_copies, repeated}
use Rattle.el_width.specs.Typed.{Typed, Chosen}
use Rattle.el_width.specs.Breaks.{alone, operands, inner_breaks, reduction_breaks, part_breaks, length_breaks, name_breaks, copies_breaks}
use Rattle.el_width.specs.Expressions.{typed_node, chosen_node, typed_of, chosen_of}
use Rattle.el_width.specs.inner.Operands.{operand_of, alone_view, alone_operand, parts_of}

abbrev Breaks : Type 0
Breaks = List Refusal

abbrev First : Type 0
First = Option Refusal

two_folds : (f0 f1 f2 : First) (a b : Breaks) → f1 ≡ fold sooner f0 a → f2 ≡ fold sooner f1 b → f2 ≡ fold sooner f0 (a ++ b)
two_folds f0 f1 f2 a b h k = k ∙ ap (λ f. fold sooner f b) h ∙ sym (fold-append sooner f0 a b)

three_folds : (f0 f1 f2 f3 : First) (a b c : Breaks) → f1 ≡ fold sooner f0 a → f2 ≡ fold sooner f1 b → f3 ≡ fold sooner f2 c → f3 ≡ fold sooner f0 (a ++ b ++ c)
three_folds f0 f1 f2 f3 a b c h k l = two_folds f0 f2 f3 (a ++ b) c (two_folds f0 f1 f2 a b h k) l

-- ---- each form as its layer

rolled : (env : Environment) (x : layer.Expr-F Expr Select) (e : Expr) (y : Typed) → e ≡ roll-Expr x → typed_node env (map-Expr Expr Select Typed Chosen (typed_of env) (chosen_of env) x) ≡ y → typed_of env e ≡ y
rolled env x e y h k = ap (typed_of env) h ∙ fold-roll-Expr Typed Chosen (typed_node env) (chosen_node env) x ∙ k

choice_is : (env : Environment) (at : ℕ) (c a b : Expr) → typed_of env (expr.Choice at c a b) ≡ typed_node env (layer.Choice at (typed_of env c) (typed_of env a) (typed_of env b))
choice_is env at c a b = rolled env (layer.Choice at c a b) _ _ (sym (expr.rolls-Choice at c a b)) refl

binary_is : (env : Environment) (at : ℕ) (op : BinOp) (a b : Expr) → typed_of env (expr.Binary at op a b) ≡ typed_node env (layer.Binary at op (typed_of env a) (typed_of env b))
binary_is env at op a b = rolled env (layer.Binary at op a b) _ _ (sym (expr.rolls-Binary at op a b)) refl

unary_is : (env : Environment) (at : ℕ) (op : UnOp) (a : Expr) → typed_of env (expr.Unary at op a) ≡ typed_node env (layer.Unary at op (typed_of env a))
unary_is env at op a = rolled env (layer.Unary at op a) _ _ (sym (expr.rolls-Unary at op a)) refl

name_is : (env : Environment) (at n : ℕ) (ss : List Select) → typed_of env (expr.Name at n ss) ≡ typed_node env (layer.Name at n (map (chosen_of env) ss))
name_is env at n ss = rolled env (layer.Name at n ss) _ _ (sym (expr.rolls-Name at n ss)) refl

call_is : (env : Environment) (at n : ℕ) (es : List Expr) → typed_of env (expr.Call at n es) ≡ typed_node env (layer.Call at n (map (typed_of env) es))
call_is env at n es = rolled env (layer.Call at n es) _ _ (sym (expr.rolls-Call at n es)) refl

concat_is : (env : Environment) (at : ℕ) (es : List Expr) → typed_of env (expr.Concat at es) ≡ typed_node env (layer.Concat at (map (typed_of env) es))
concat_is env at es = rolled env (layer.Concat at es) _ _ (sym (expr.rolls-Concat at es)) refl

replicate_is : (env : Environment) (at : ℕ) (n : Expr) (es : List Expr) → typed_of env (expr.Replicate at n es) ≡ typed_node env (layer.Replicate at (typed_of env n) (map (typed_of env) es))
replicate_is env at n es = rolled env (layer.Replicate at n es) _ _ (sym (expr.rolls-Replicate at n es)) refl

part_is : (env : Environment) (at : ℕ) (m l : Expr) → chosen_of env (select.Part at m l) ≡ chosen_node env (layer.Part at (typed_of env m) (typed_of env l))
part_is env at m l = ap (chosen_of env) (sym (select.rolls-Part at m l)) ∙ fold-roll-Select Typed Chosen (typed_node env) (chosen_node env) (layer.Part at m l)

up_is : (env : Environment) (at : ℕ) (b w : Expr) → chosen_of env (select.Up at b w) ≡ chosen_node env (layer.Up at (typed_of env b) (typed_of env w))
up_is env at b w = ap (chosen_of env) (sym (select.rolls-Up at b w)) ∙ fold-roll-Select Typed Chosen (typed_node env) (chosen_node env) (layer.Up at b w)

down_is : (env : Environment) (at : ℕ) (b w : Expr) → chosen_of env (select.Down at b w) ≡ chosen_node env (layer.Down at (typed_of env b) (typed_of env w))
down_is env at b w = ap (chosen_of env) (sym (select.rolls-Down at b w)) ∙ fold-roll-Select Typed Chosen (typed_node env) (chosen_node env) (layer.Down at b w)

-- ---- what is broken in all, and what it is

on_ok : {R E P : Type 0} (r : Result R E) → P → OnOk r P
on_ok (Ok x) p = p
on_ok (Err e) p = tt

module _ (env : Environment) (e : Expr) (must : Bool) (f0 : First) where
  in_all : (y : Typed) (f : First) → typed_of env e ≡ y → f ≡ fold sooner f0 (y.broken must) → f ≡ fold sooner f0 ((typed_of env e).broken must)
  in_all y f h k = k ∙ ap (λ t. fold sooner f0 (t.broken must)) (sym h)

  pub choice_broken : {R E : Type 0} (res : Result R E) (f1 f2 f3 : First) (at : ℕ) (c a b c' a' b' : Expr) → e ≡ expr.Choice at c a b → c' ≡ c → a' ≡ a → b' ≡ b →
      f1 ≡ fold sooner f0 (alone must (typed_of env c')) → f2 ≡ fold sooner f1 ((typed_of env a').broken must) → f3 ≡ fold sooner f2 ((typed_of env b').broken must) → OnOk res (f3 ≡ fold sooner f0 ((typed_of env e).broken must))
  choice_broken res f1 f2 f3 at c a b c' a' b' is hc ha hb h1 h2 h3 =
      on_ok res (in_all (typed_node env (layer.Choice at (typed_of env c') (typed_of env a') (typed_of env b'))) f3 (ap (typed_of env) here ∙ choice_is env at c' a' b') (three_folds f0 f1 f2 f3 (alone must (typed_of env c')) ((typed_of env a').broken must) ((typed_of env b').broken must) h1 h2 h3))
    where
      here : e ≡ expr.Choice at c' a' b'
      here = is ∙ ap (λ c. expr.Choice at c a b) (sym hc) ∙ ap (λ a. expr.Choice at c' a b) (sym ha) ∙ ap (λ b. expr.Choice at c' a' b) (sym hb)

  pub binary_broken : {R E : Type 0} (res : Result R E) (f1 f2 f3 : First) (at : ℕ) (op : BinOp) (x y : Operand) (a b a' b' : Expr) → OnOk res (f3 ≡ fold sooner f2 (inner_breaks (manner_of op) x y)) →
      e ≡ expr.Binary at op a b → a' ≡ a → b' ≡ b → x ≡ (typed_of env a').operand → y ≡ (typed_of env b').operand →
      f1 ≡ fold sooner f0 ((typed_of env a').broken must) → f2 ≡ fold sooner f1 ((typed_of env b').broken must) → OnOk res (f3 ≡ fold sooner f0 ((typed_of env e).broken must))
  binary_broken res f1 f2 f3 at op x y a b a' b' last is ha hb hx hy h1 h2 =
      on_ok_weaker res (λ h3. in_all (typed_node env (layer.Binary at op (typed_of env a') (typed_of env b'))) f3 (ap (typed_of env) here ∙ binary_is env at op a' b')
      (three_folds f0 f1 f2 f3 ((typed_of env a').broken must) ((typed_of env b').broken must) (inner_breaks (manner_of op) (typed_of env a').operand (typed_of env b').operand) h1 h2 (h3 ∙ ap₂ (λ x y. fold sooner f2 (inner_breaks (manner_of op) x y)) hx hy))) last
    where
      here : e ≡ expr.Binary at op a' b'
      here = is ∙ ap (λ a. expr.Binary at op a b) (sym ha) ∙ ap (λ b. expr.Binary at op a' b) (sym hb)

  pub unary_broken : {R E : Type 0} (res : Result R E) (f1 f2 : First) (at : ℕ) (op : UnOp) (x : Operand) (a a' : Expr) → OnOk res (f2 ≡ fold sooner f1 (reduction_breaks (keeps_length op) x)) →
      e ≡ expr.Unary at op a → a' ≡ a → x ≡ (typed_of env a').operand → f1 ≡ fold sooner f0 ((typed_of env a').broken must) → OnOk res (f2 ≡ fold sooner f0 ((typed_of env e).broken must))
  unary_broken res f1 f2 at op x a a' last is ha hx h1 =
      on_ok_weaker res (λ h2. in_all (typed_node env (layer.Unary at op (typed_of env a'))) f2 (ap (typed_of env) here ∙ unary_is env at op a')
      (two_folds f0 f1 f2 ((typed_of env a').broken must) (reduction_breaks (keeps_length op) (typed_of env a').operand) h1 (h2 ∙ ap (λ x. fold sooner f1 (reduction_breaks (keeps_length op) x)) hx))) last
    where
      here : e ≡ expr.Unary at op a'
      here = is ∙ ap (λ a. expr.Unary at op a) (sym ha)

  pub name_broken : {R E : Type 0} (res : Result R E) (f1 f2 : First) (at n : ℕ) (ss ss' : List Select) → e ≡ expr.Name at n ss → ss' ≡ ss →
      f1 ≡ fold sooner f0 (name_breaks env must n) → f2 ≡ fold sooner f1 (flat_map (λ t. t.broken must) (map (chosen_of env) ss')) → OnOk res (f2 ≡ fold sooner f0 ((typed_of env e).broken must))
  name_broken res f1 f2 at n ss ss' is hs h1 h2 =
      on_ok res (in_all (typed_node env (layer.Name at n (map (chosen_of env) ss'))) f2 (ap (typed_of env) here ∙ name_is env at n ss') (two_folds f0 f1 f2 (name_breaks env must n) (flat_map (λ t. t.broken must) (map (chosen_of env) ss')) h1 h2))
    where
      here : e ≡ expr.Name at n ss'
      here = is ∙ ap (λ ss. expr.Name at n ss) (sym hs)

  pub concat_broken : (f1 f2 : First) (at : ℕ) (p : Parts) (es es' : List Expr) → f2 ≡ fold sooner f1 (length_breaks env at p.length) → e ≡ expr.Concat at es → es' ≡ es →
      p ≡ parts_of (operands (map (typed_of env) es')) → f1 ≡ fold sooner f0 (flat_map (alone must) (map (typed_of env) es')) → f2 ≡ fold sooner f0 ((typed_of env e).broken must)
  concat_broken f1 f2 at p es es' h2 is hs hp h1 =
      in_all (typed_node env (layer.Concat at (map (typed_of env) es'))) f2 (ap (typed_of env) here ∙ concat_is env at es')
      (two_folds f0 f1 f2 (flat_map (alone must) (map (typed_of env) es')) (length_breaks env at (parts_of (operands (map (typed_of env) es'))).length) h1 (h2 ∙ ap (λ p. fold sooner f1 (length_breaks env at p.length)) hp))
    where
      here : e ≡ expr.Concat at es'
      here = is ∙ ap (λ es. expr.Concat at es) (sym hs)

  pub replicate_broken : {R E : Type 0} (res : Result R E) (f1 f2 f3 : First) (at : ℕ) (x : Alone) (p : Parts) (n n' : Expr) (es es' : List Expr) →
      OnOk res (f3 ≡ fold sooner f2 (copies_breaks env at (count_known (alone_operand x)) (times (count_known (alone_operand x)) p.length))) → e ≡ expr.Replicate at n es → n' ≡ n → es' ≡ es →
      x ≡ alone_view (typed_of env n').operand → p ≡ parts_of (operands (map (typed_of env) es')) → f1 ≡ fold sooner f0 (alone true (typed_of env n')) →
      f2 ≡ fold sooner f1 (flat_map (alone must) (map (typed_of env) es')) → OnOk res (f3 ≡ fold sooner f0 ((typed_of env e).broken must))
  replicate_broken res f1 f2 f3 at x p n n' es es' last is hn hs hx hp h1 h2 =
      on_ok_weaker res (λ h3. in_all (typed_node env (layer.Replicate at (typed_of env n') (map (typed_of env) es'))) f3 (ap (typed_of env) here ∙ replicate_is env at n' es')
      (three_folds f0 f1 f2 f3 (alone true (typed_of env n')) (flat_map (alone must) (map (typed_of env) es')) (copies_breaks env at (count_known (typed_of env n').operand) (times (count_known (typed_of env n').operand) (parts_of (operands (map (typed_of env) es'))).length)) h1 h2 (h3 ∙ ap₂ (λ x p. fold sooner f2 (copies_breaks env at (count_known (alone_operand x)) (times (count_known (alone_operand x)) p.length))) hx hp))) last
    where
      here : e ≡ expr.Replicate at n' es'
      here = is ∙ ap (λ n. expr.Replicate at n es) (sym hn) ∙ ap (λ es. expr.Replicate at n' es) (sym hs)

module _ (env : Environment) (e : Expr) where
  pub choice_operand : {E : Type 0} (res : Result code.Operand E) (at : ℕ) (x x' : Alone) (u u' v : code.Operand) (c a b c' a' b' : Expr) → IfOk res (λ o. operand_of o ≡ choice at (alone_operand x) (operand_of u) (operand_of v)) →
      e ≡ expr.Choice at c a b → c' ≡ c → a' ≡ a → b' ≡ b → x ≡ x' → u ≡ u' →
      x' ≡ alone_view (typed_of env c').operand → operand_of u' ≡ (typed_of env a').operand → operand_of v ≡ (typed_of env b').operand → IfOk res (λ o. operand_of o ≡ (typed_of env e).operand)
  choice_operand res at x x' u u' v c a b c' a' b' last is hc ha hb hx hu jx ju jv =
      IfOk-weaker res (λ o. operand_of o ≡ choice at (alone_operand x) (operand_of u) (operand_of v)) (λ o. operand_of o ≡ (typed_of env e).operand) (λ o h. h ∙ same) last
    where
      here : e ≡ expr.Choice at c' a' b'
      here = is ∙ ap (λ c. expr.Choice at c a b) (sym hc) ∙ ap (λ a. expr.Choice at c' a b) (sym ha) ∙ ap (λ b. expr.Choice at c' a' b) (sym hb)

      same : choice at (alone_operand x) (operand_of u) (operand_of v) ≡ (typed_of env e).operand
      same = ap (λ x. choice at (alone_operand x) (operand_of u) (operand_of v)) (hx ∙ jx)
          ∙ ap₂ (λ u v. choice at (alone_operand (alone_view (typed_of env c').operand)) u v) (ap operand_of hu ∙ ju) jv
          ∙ ap (λ t. t.operand) (sym (ap (typed_of env) here ∙ choice_is env at c' a' b'))

  pub call_operand : (o : Operand) (at n : ℕ) (args : List TExpr) (fs : List ℕ) (es es' : List Expr) → o ≡ variable at (called (means env n) args) → e ≡ expr.Call at n es → es' ≡ es →
      args ≡ map (λ m. m.form) (arguments fs (operands (map (typed_of env) es'))) → fs ≡ formals_of (means env n) → o ≡ (typed_of env e).operand
  call_operand o at n args fs es es' h is hs ha hf =
      h ∙ ap (λ args. variable at (called (means env n) args)) (ha ∙ ap (λ fs. map (λ m. m.form) (arguments fs (operands (map (typed_of env) es')))) hf)
      ∙ ap (λ t. t.operand) (sym (ap (typed_of env) (is ∙ ap (λ es. expr.Call at n es) (sym hs)) ∙ call_is env at n es'))

  pub replicate_operand : {E : Type 0} (res : Result code.Operand E) (at : ℕ) (x : Alone) (p : Parts) (n n' : Expr) (es es' : List Expr) →
      IfOk res (λ o. operand_of o ≡ own at (times (count_known (alone_operand x)) p.length) false (x.constant && p.constant)
      (kind.Repeat (unwrap_or (count_known (alone_operand x)) 0) (repeated p.length p.forms))
      (known_copies (unwrap_or (count_known (alone_operand x)) 0) (unwrap_or p.joined None))) →
      e ≡ expr.Replicate at n es → n' ≡ n → es' ≡ es → x ≡ alone_view (typed_of env n').operand → p ≡ parts_of (operands (map (typed_of env) es')) → IfOk res (λ o. operand_of o ≡ (typed_of env e).operand)
  replicate_operand res at x p n n' es es' last is hn hs hx hp =
      IfOk-weaker res (λ o. operand_of o ≡ made x p) (λ o. operand_of o ≡ (typed_of env e).operand) (λ o h. h ∙ ap₂ made hx hp ∙ ap (λ t. t.operand) (sym (ap (typed_of env) here ∙ replicate_is env at n' es'))) last
    where
      made : Alone → Parts → Operand
      made x p = own at (times (count_known (alone_operand x)) p.length) false (x.constant && p.constant)
          (kind.Repeat (unwrap_or (count_known (alone_operand x)) 0) (repeated p.length p.forms))
          (known_copies (unwrap_or (count_known (alone_operand x)) 0) (unwrap_or p.joined None))

      here : e ≡ expr.Replicate at n' es'
      here = is ∙ ap (λ n. expr.Replicate at n es) (sym hn) ∙ ap (λ es. expr.Replicate at n' es) (sym hs)

-- ---- selects

module _ (env : Environment) (s : Select) (must : Bool) (f0 : First) where
  pub part_broken : (f1 f2 f3 : First) (at : ℕ) (h k : Option ℤ) (x y : Alone) (m l : Expr) → f3 ≡ fold sooner f2 (part_breaks env at h k) → s ≡ select.Part at m l →
      h ≡ whole (alone_operand x) → k ≡ whole (alone_operand y) → x ≡ alone_view (typed_of env m).operand → y ≡ alone_view (typed_of env l).operand →
      f1 ≡ fold sooner f0 (alone true (typed_of env m)) → f2 ≡ fold sooner f1 (alone true (typed_of env l)) → f3 ≡ fold sooner f0 ((chosen_of env s).broken must)
  part_broken f1 f2 f3 at h k x y m l h3 is hh hk hx hy h1 h2 =
      three_folds f0 f1 f2 f3 (alone true (typed_of env m)) (alone true (typed_of env l)) (part_breaks env at (whole (typed_of env m).operand) (whole (typed_of env l).operand)) h1 h2
      (h3 ∙ ap₂ (λ h k. fold sooner f2 (part_breaks env at h k)) (hh ∙ ap (λ x. whole (alone_operand x)) hx) (hk ∙ ap (λ y. whole (alone_operand y)) hy))
      ∙ ap (λ t. fold sooner f0 (t.broken must)) (sym (ap (chosen_of env) is ∙ part_is env at m l))

  pub up_broken : {R E : Type 0} (res : Result R E) (f1 f2 f3 : First) (at : ℕ) (n : Option ℕ) (y : Alone) (b w : Expr) → OnOk res (f3 ≡ fold sooner f2 (length_breaks env at n)) → s ≡ select.Up at b w →
      n ≡ count_known (alone_operand y) → y ≡ alone_view (typed_of env w).operand → f1 ≡ fold sooner f0 (alone must (typed_of env b)) → f2 ≡ fold sooner f1 (alone true (typed_of env w)) →
      OnOk res (f3 ≡ fold sooner f0 ((chosen_of env s).broken must))
  up_broken res f1 f2 f3 at n y b w last is hn hy h1 h2 =
      on_ok_weaker res (λ h3. three_folds f0 f1 f2 f3 (alone must (typed_of env b)) (alone true (typed_of env w)) (length_breaks env at (count_known (typed_of env w).operand)) h1 h2
      (h3 ∙ ap (λ n. fold sooner f2 (length_breaks env at n)) (hn ∙ ap (λ y. count_known (alone_operand y)) hy))
      ∙ ap (λ t. fold sooner f0 (t.broken must)) (sym (ap (chosen_of env) is ∙ up_is env at b w))) last

  pub down_broken : {R E : Type 0} (res : Result R E) (f1 f2 f3 : First) (at : ℕ) (n : Option ℕ) (y : Alone) (b w : Expr) → OnOk res (f3 ≡ fold sooner f2 (length_breaks env at n)) → s ≡ select.Down at b w →
      n ≡ count_known (alone_operand y) → y ≡ alone_view (typed_of env w).operand → f1 ≡ fold sooner f0 (alone must (typed_of env b)) → f2 ≡ fold sooner f1 (alone true (typed_of env w)) →
      OnOk res (f3 ≡ fold sooner f0 ((chosen_of env s).broken must))
  down_broken res f1 f2 f3 at n y b w last is hn hy h1 h2 =
      on_ok_weaker res (λ h3. three_folds f0 f1 f2 f3 (alone must (typed_of env b)) (alone true (typed_of env w)) (length_breaks env at (count_known (typed_of env w).operand)) h1 h2
      (h3 ∙ ap (λ n. fold sooner f2 (length_breaks env at n)) (hn ∙ ap (λ y. count_known (alone_operand y)) hy))
      ∙ ap (λ t. fold sooner f0 (t.broken must)) (sym (ap (chosen_of env) is ∙ down_is env at b w))) last
