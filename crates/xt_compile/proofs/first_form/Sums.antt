-- Sums by the kind of their expression.
use Rattle.std.proofs.Common.{◌≡◌, ◌<◌, ℕ, zero, suc, List, [], ◌∷◌, Some, Result, Ok, Err, length, get_or, refl, sym, ap, ◌∙◌, subst, arith}
use Rattle.std.proofs.lemmas.List.{length-map, get_or-map}
use Rattle.std.specs.Prelude.{slice_get, slice_index, IfOk}
use Rattle.xt_bits.specs.Word.{Word, word}
use Rattle.xt_bits.specs.Operators.{add_of}
use Rattle.el_design.specs.Plain.{Flat}
use Rattle.el_design.specs.Store.{stored}
use Rattle.el_design.specs.Value.{Scene, value}
use Rattle.el_design.specs.View.{flat_of}
use Rattle.nt_core.specs.NodeValue.{node_value}
use Rattle.nt_core.specs.Sources.{Sources}
use Rattle.el_design.specs.declared.designs.Design.{Design}
use Rattle.el_design.specs.declared.expressions.BinOp.{BinOp}
use Rattle.el_design.specs.declared.expressions.BinOp.TheVariants as binary
use Rattle.el_design.specs.declared.expressions.Kind.{Kind}
use Rattle.el_design.specs.declared.expressions.Kind as kind
use Rattle.el_design.specs.declared.expressions.TExpr.{TExpr}
use Rattle.el_design.specs.Plain as plain
use Rattle.el_design.specs.View.{expr_of, kind_of}
use Rattle.el_design.proofs.Equations.{expr_is, num_is, net_is, var_is, binary_is}
use Rattle.nt_core.specs.declared.netlist.Node.{Node}
use Rattle.nt_core.specs.Forms.{widths}
use Rattle.xt_compile.specs.declared.first.compile.expression.ValueMap.{ValueMap}
use Rattle.xt_compile.specs.first.Form.{IsSumOf, net_widths, var_widths}
use Rattle.xt_compile.specs.first.Nodes.{Means, IsMap, values_at, words_of, scene_at}
use Rattle.xt_compile.proofs.first_form.Growing.{extends_refl, extends_trans, node_there, node_width, value_grows, scene_grows}

-- what holds of an answer's value for one reason holds for a weaker one
pub if_ok : {T E : Type 0} (P Q : T → Type 0) (r : Result T E) → ((x : T) → P x → Q x) → IfOk r P → IfOk r Q
if_ok P Q (Ok x) f h = f x h
if_ok P Q (Err e) f h = h

-- and for two reasons
pub if_both : {T E : Type 0} (P Q R : T → Type 0) (r : Result T E) → ((x : T) → P x → Q x → R x) → IfOk r P → IfOk r Q → IfOk r R
if_both P Q R (Ok x) f h g = f x h g
if_both P Q R (Err e) f h g = h

of_kind : (vars nets : List ℕ) (w : ℕ) (e : TExpr) (k : Kind) → e.kind ≡ k → IsSumOf vars nets w (expr_of e) → IsSumOf vars nets w (kind_of k (record { width = e.width; signed = e.signed }))
of_kind vars nets w e k is h = subst (IsSumOf vars nets w) (expr_is e ∙ ap (λ (j : Kind). kind_of j (record { width = e.width; signed = e.signed })) is) h

pub sum_num : (vars nets : List ℕ) (w : ℕ) (e : TExpr) (b : Word) → e.kind ≡ kind.Num b → IsSumOf vars nets w (expr_of e) → b.width ≡ w
sum_num vars nets w e b is h = (subst (IsSumOf vars nets w) (num_is b (record { width = e.width; signed = e.signed })) (of_kind vars nets w e _ is h)).0

pub sum_net : (vars nets : List ℕ) (w : ℕ) (e : TExpr) (n : ℕ) → e.kind ≡ kind.Net n → IsSumOf vars nets w (expr_of e) → slice_get nets n ≡ Some w
sum_net vars nets w e n is h = subst (IsSumOf vars nets w) (net_is n _) (of_kind vars nets w e _ is h)

pub sum_var : (vars nets : List ℕ) (w : ℕ) (e : TExpr) (v : ℕ) → e.kind ≡ kind.Var v → IsSumOf vars nets w (expr_of e) → slice_get vars v ≡ Some w
sum_var vars nets w e v is h = subst (IsSumOf vars nets w) (var_is v _) (of_kind vars nets w e _ is h)

sum_binary : (vars nets : List ℕ) (w : ℕ) (s : plain.Shape) (op : BinOp) (a b : plain.Expr) → IsSumOf vars nets w (plain.Binary s op a b) → (op ≡ binary.Add) × IsSumOf vars nets w a × IsSumOf vars nets w b
sum_binary vars nets w s binary.Add a b h = (refl, h.0, h.1)
sum_binary vars nets w s _ a b h = absurd h

pub sum_add : (vars nets : List ℕ) (w : ℕ) (e : TExpr) (op : BinOp) (a b : TExpr) → e.kind ≡ kind.Binary op a b → IsSumOf vars nets w (expr_of e) → (op ≡ binary.Add) × IsSumOf vars nets w (expr_of a) × IsSumOf vars nets w (expr_of b)
sum_add vars nets w e op a b is h =
    sum_binary vars nets w (record { width = e.width; signed = e.signed }) op (expr_of a) (expr_of b)
    (subst (IsSumOf vars nets w) (binary_is op a b (record { width = e.width; signed = e.signed })) (of_kind vars nets w e _ is h))

-- the same expression, read through a reference
pub sum_same : (vars nets : List ℕ) (w : ℕ) (a b : TExpr) → a ≡ b → IsSumOf vars nets w (expr_of b) → IsSumOf vars nets w (expr_of a)
sum_same vars nets w a b e h = subst (λ (x : TExpr). IsSumOf vars nets w (expr_of x)) (sym e) h

-- ---- values

num_expr : (e : TExpr) (b : Word) → e.kind ≡ kind.Num b → expr_of e ≡ plain.Number (record { width = e.width; signed = e.signed }) b
num_expr e b is = expr_is e ∙ ap (λ (j : Kind). kind_of j (record { width = e.width; signed = e.signed })) is ∙ num_is b _

net_expr : (e : TExpr) (n : ℕ) → e.kind ≡ kind.Net n → expr_of e ≡ plain.NetValue (record { width = e.width; signed = e.signed }) n
net_expr e n is = expr_is e ∙ ap (λ (j : Kind). kind_of j (record { width = e.width; signed = e.signed })) is ∙ net_is n _

var_expr : (e : TExpr) (v : ℕ) → e.kind ≡ kind.Var v → expr_of e ≡ plain.Variable (record { width = e.width; signed = e.signed }) v
var_expr e v is = expr_is e ∙ ap (λ (j : Kind). kind_of j (record { width = e.width; signed = e.signed })) is ∙ var_is v _

binary_expr : (e : TExpr) (op : BinOp) (a b : TExpr) → e.kind ≡ kind.Binary op a b → expr_of e ≡ plain.Binary (record { width = e.width; signed = e.signed }) op (expr_of a) (expr_of b)
binary_expr e op a b is = expr_is e ∙ ap (λ (j : Kind). kind_of j (record { width = e.width; signed = e.signed })) is ∙ binary_is op a b _

pub num_value : (d : Flat) (sc : Scene) (e : TExpr) (b : Word) → e.kind ≡ kind.Num b → b ≡ value d sc (expr_of e)
num_value d sc e b is = sym (ap (value d sc) (num_expr e b is))

pub word_there : (vs : List Word) (v w : ℕ) (x : Word) → v < length vs → stored (words_of vs) v 0 w ≡ get_or vs v x
word_there [] v w x h = absurd (omega arith)
word_there (y ∷ vs) zero w x h = refl
word_there (y ∷ vs) (suc v) w x h = word_there vs v w x (omega arith)

pub nodes_value : (ns : List Node) (s : Sources) (is : List ℕ) (i : ℕ) (x : Word) → i < length is → node_value ns s (slice_index is i) ≡ get_or (values_at ns s is) i x
nodes_value ns s is i x h = sym (get_or-map (node_value ns s) is i 0 x h)

-- the node of a net, and of a variable
pub net_means : (d : Design) (ns : List Node) (m : ValueMap) (e : TExpr) (n node w : ℕ) → IsMap d ns m → slice_get (net_widths d) n ≡ Some w → e.kind ≡ kind.Net n → node ≡ slice_index m.nets.items n
    → Means d ns ns node w (λ s. value (flat_of d) (scene_at d ns m s) (expr_of e))
net_means d ns m e n node w is there kind_is node_is = record {
  extends = extends_refl d ns;
  width = subst (λ k. slice_get (widths ns) k ≡ Some w) (sym node_is) (node_width ns m.nets.items (net_widths d) n w is.nets there);
  value = λ s.
      ap (node_value ns s) node_is
      ∙ nodes_value ns s m.nets.items n (word e.width 0) (node_there ns m.nets.items (net_widths d) n w is.nets there)
      ∙ sym (ap (value (flat_of d) (scene_at d ns m s)) (net_expr e n kind_is));
}

pub var_means : (d : Design) (ns : List Node) (m : ValueMap) (e : TExpr) (v node w : ℕ) → IsMap d ns m → slice_get (var_widths d) v ≡ Some w → e.kind ≡ kind.Var v → node ≡ slice_index m.vars.items v
    → Means d ns ns node w (λ s. value (flat_of d) (scene_at d ns m s) (expr_of e))
var_means d ns m e v node w is there kind_is node_is =
    let within : v < length m.vars.items = node_there ns m.vars.items (var_widths d) v w is.vars there in
    record {
      extends = extends_refl d ns;
      width = subst (λ k. slice_get (widths ns) k ≡ Some w) (sym node_is) (node_width ns m.vars.items (var_widths d) v w is.vars there);
      value = λ s.
          ap (node_value ns s) node_is
          ∙ nodes_value ns s m.vars.items v (word e.width 0) within
          ∙ sym (word_there (values_at ns s m.vars.items) v e.width (word e.width 0) (omega (arith, within, length-map m.vars.items (node_value ns s))))
          ∙ sym (ap (value (flat_of d) (scene_at d ns m s)) (var_expr e v kind_is));
    }

-- the same node for the same expression
pub means_same : (d : Design) (a b : List Node) (m : ValueMap) (i w : ℕ) (x y : TExpr) → x ≡ y
    → Means d a b i w (λ s. value (flat_of d) (scene_at d a m s) (expr_of x)) → Means d a b i w (λ s. value (flat_of d) (scene_at d a m s) (expr_of y))
means_same d a b m i w x y e h = subst (λ (z : TExpr). Means d a b i w (λ s. value (flat_of d) (scene_at d a m s) (expr_of z))) e h

-- the node of a sum of two expressions, whose nodes were added one after the other
pub add_means : (d : Design) (a b c new : List Node) (m : ValueMap) (e left right : TExpr) (op : BinOp) (i j k w : ℕ) → IsMap d a m → e.kind ≡ kind.Binary op left right → op ≡ binary.Add
    → Means d a b i w (λ s. value (flat_of d) (scene_at d a m s) (expr_of left))
    → Means d b c j w (λ s. value (flat_of d) (scene_at d b m s) (expr_of right))
    → Means d c new k w (λ s. add_of (node_value c s i) (node_value c s j))
    → Means d a new k w (λ s. value (flat_of d) (scene_at d a m s) (expr_of e))
add_means d a b c new m e left right op i j k w map_is kind_is add l r sum = record {
  extends = extends_trans d a b new l.extends (extends_trans d b c new r.extends sum.extends);
  width = sum.width;
  value = λ s.
      let first : node_value c s i ≡ value (flat_of d) (scene_at d a m s) (expr_of left) = value_grows b c i w r.extends.grows l.width s ∙ l.value s in
      let second : node_value c s j ≡ value (flat_of d) (scene_at d a m s) (expr_of right) = r.value s ∙ ap (λ sc. value (flat_of d) sc (expr_of right)) (scene_grows d a b m l.extends.grows map_is s) in
      sum.value s
      ∙ ap (λ x. add_of x (node_value c s j)) first
      ∙ ap (add_of (value (flat_of d) (scene_at d a m s) (expr_of left))) second
      ∙ sym (ap (value (flat_of d) (scene_at d a m s)) (binary_expr e op left right kind_is ∙ ap (λ (o : BinOp). plain.Binary (record { width = e.width; signed = e.signed }) o (expr_of left) (expr_of right)) add));
}
