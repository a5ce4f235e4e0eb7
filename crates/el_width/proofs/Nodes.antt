-- Nodes of typed forms: their shapes, and the operators over operands of their widths.
use Rattle.std.proofs.Common.{◌≡◌, ◌≤◌, ◌<◌, ◌+◌, ◌*◌, ◌==◌, ◌&&◌, ℕ, Bool, true, false, not, if◌then◌else◌, List, [], ◌∷◌, map, Option, Some, refl, sym, subst, ◌∙◌, ap, ap₂, arith}
use Rattle.std.specs.Prelude.{fold, sum, min}
use Rattle.xt_bits.specs.Word.{Word}
use Rattle.vl_tree.specs.declared.operators.UnOp as source_un
use Rattle.vl_tree.specs.declared.operators.UnOp.TheVariants as un
use Rattle.vl_tree.specs.declared.operators.BinOp as source_bin
use Rattle.vl_tree.specs.declared.operators.BinOp.TheVariants as bin
use Rattle.el_design.specs.declared.expressions.UnOp.{UnOp}
use Rattle.el_design.specs.declared.expressions.BinOp.{BinOp}
use Rattle.el_design.specs.declared.expressions.BinOp.TheVariants as fbin
use Rattle.el_design.specs.declared.expressions.TExpr.{TExpr}
use Rattle.el_design.specs.declared.expressions.Kind.{Kind, map-Kind, out-Kind}
use Rattle.el_design.specs.declared.expressions.Pick.{Pick}
use Rattle.el_design.specs.declared.expressions.Kind.TheOpen.{Kind-F}
use Rattle.el_design.specs.declared.expressions.Kind.TheFolds.{fold_out-Kind}
use Rattle.el_design.specs.Plain.{Shape, Expr, Range, Flat}
use Rattle.el_design.specs.View.{kind_step, pick_step, expr_step, expr_of, kind_of, range_of}
use Rattle.el_design.specs.Value.{shape_of, binary_value}
use Rattle.el_design.specs.Sound.{IsWidth, FitsUnary, FitsBinary, IsDivisor, DividesWell}
use Rattle.el_design.proofs.Equations.{expr_is}
use Rattle.el_width.specs.declared.operators.Manner.{Manner}
use Rattle.el_width.specs.declared.operators.Manner.TheVariants.{Together, Shifts, Compares, Judges}
use Rattle.el_width.specs.Lengths.{in_range, capped, plus, total}
use Rattle.el_width.specs.Operators.{manner_of, keeps_length, unary_of, binary_of, divides}
use Rattle.el_width.specs.Operands.{fits_operator}

pub true_is_false : {X : Type 0} → true ≡ false → X
true_is_false h = absurd (clash h)
  where
    clash : true ≡ false → ⊥
    clash h = cc

pub false_is_true : {X : Type 0} → false ≡ true → X
false_is_true h = true_is_false (sym h)

-- ---- shapes

abbrev pub shaped : TExpr → Shape
shaped e = record { width = e.width; signed = e.signed }

layer_shape : (x : Kind-F (Shape → Expr) Range Expr) (s : Shape) → shape_of (kind_step x s) ≡ s
layer_shape (Kind-F.Num b) s = refl
layer_shape (Kind-F.Net n) s = refl
layer_shape (Kind-F.Var v) s = refl
layer_shape (Kind-F.Word v i) s = refl
layer_shape (Kind-F.Select e p lsb) s = refl
layer_shape (Kind-F.Unary op e) s = refl
layer_shape (Kind-F.Binary op a b) s = refl
layer_shape (Kind-F.Choice c a b) s = refl
layer_shape (Kind-F.Concat es) s = refl
layer_shape (Kind-F.Repeat n e) s = refl
layer_shape (Kind-F.Sign e) s = refl
layer_shape (Kind-F.Resize e) s = refl
layer_shape (Kind-F.Call f es) s = refl

kind_shape : (k : Kind) (s : Shape) → shape_of (kind_of k s) ≡ s
kind_shape k s =
    subst (λ f. shape_of (f s) ≡ s) (sym (fold_out-Kind (Shape → Expr) Range Expr kind_step pick_step expr_step k))
    (layer_shape (map-Kind Kind Pick TExpr (Shape → Expr) Range Expr kind_of range_of expr_of (out-Kind k)) s)

pub shape_is : (e : TExpr) → shape_of (expr_of e) ≡ shaped e
shape_is e = ap shape_of (expr_is e) ∙ kind_shape e.kind (shaped e)

-- ---- operators

-- widths of a node and of its operands
abbrev pub Fitting : Manner → ℕ → ℕ → ℕ → Type 0
Fitting Together w a b = (a ≡ w) × (b ≡ w)
Fitting Shifts w a b = a ≡ w
Fitting Compares w a b = (w ≡ 1) × (a ≡ b)
Fitting Judges w a b = w ≡ 1

pub fits_binary : (op : source_bin.BinOp) (w a b : ℕ) → Fitting (manner_of op) w a b → FitsBinary (binary_of op) w a b
fits_binary bin.Mul w a b h = h
fits_binary op w a b h = h

abbrev pub FittingUnary : Bool → ℕ → ℕ → Type 0
FittingUnary true w a = a ≡ w
FittingUnary false w a = w ≡ 1

pub fits_unary : (op : source_un.UnOp) (w a : ℕ) → FittingUnary (keeps_length op) w a → FitsUnary (unary_of op) w a
fits_unary un.Plus w a h = h
fits_unary op w a h = h

-- what an operator makes of values depends on the sign of both operands, or on the node's, as it treats them
abbrev pub Agree : Manner → Bool → Bool → Bool → Bool → Type 0
Agree Together both signed p q = both ≡ p
Agree Shifts both signed p q = signed ≡ q
Agree Compares both signed p q = both ≡ p
Agree Judges both signed p q = Unit {0}

pub same_value : (op : source_bin.BinOp) (both signed p q : Bool) (a b : Word) → Agree (manner_of op) both signed p q →
    binary_value (binary_of op) both signed a b ≡ binary_value (binary_of op) p q a b
same_value bin.Div both signed p q a b h = ap (λ s. binary_value fbin.Div s signed a b) h
same_value bin.Rem both signed p q a b h = ap (λ s. binary_value fbin.Rem s signed a b) h
same_value bin.Ashr both signed p q a b h = ap (λ s. binary_value fbin.Ashr both s a b) h
same_value bin.Lt both signed p q a b h = ap (λ s. binary_value fbin.Lt s signed a b) h
same_value bin.Le both signed p q a b h = ap (λ s. binary_value fbin.Le s signed a b) h
same_value bin.Gt both signed p q a b h = ap (λ s. binary_value fbin.Gt s signed a b) h
same_value bin.Ge both signed p q a b h = ap (λ s. binary_value fbin.Ge s signed a b) h
same_value op both signed p q a b h = refl

pub divides_together : (op : source_bin.BinOp) → divides (binary_of op) ≡ true → manner_of op ≡ Together
divides_together bin.Div h = refl
divides_together bin.Rem h = refl
divides_together op h = false_is_true h

pub divides_well : (d : Flat) (op : BinOp) (e : Expr) → (divides op ≡ true → IsDivisor d e) → DividesWell d op e
divides_well d fbin.Div e h = h refl
divides_well d fbin.Rem e h = h refl
divides_well d op e h = tt

same_number : (a b : ℕ) → a ≡ b → (a == b) ≡ true
same_number a b h = grind (arith, h)

-- words of one width where the operator takes these
abbrev pub AreWide : Manner → Word → Word → Type 0
AreWide Together x y = x.width ≡ y.width
AreWide Shifts x y = Unit {0}
AreWide Compares x y = x.width ≡ y.width
AreWide Judges x y = Unit {0}

-- widths of operands where it does
abbrev pub AreWide_at : Manner → ℕ → ℕ → Type 0
AreWide_at Together m n = m ≡ n
AreWide_at Shifts m n = Unit {0}
AreWide_at Compares m n = m ≡ n
AreWide_at Judges m n = Unit {0}

pub as_wide : (manner : Manner) (x y : Word) (m n : ℕ) → x.width ≡ m → y.width ≡ n → AreWide_at manner m n → AreWide manner x y
as_wide Together x y m n h k e = h ∙ e ∙ sym k
as_wide Shifts x y m n h k e = tt
as_wide Compares x y m n h k e = h ∙ e ∙ sym k
as_wide Judges x y m n h k e = tt

pub operator_fits : (op : source_bin.BinOp) (x y : Word) → AreWide (manner_of op) x y → (divides (binary_of op) ≡ true → (y.value == 0) ≡ false) → fits_operator (binary_of op) x y ≡ true
operator_fits bin.Shl x y h k = refl
operator_fits bin.Shr x y h k = refl
operator_fits bin.Ashl x y h k = refl
operator_fits bin.Ashr x y h k = refl
operator_fits bin.LogAnd x y h k = refl
operator_fits bin.LogOr x y h k = refl
operator_fits bin.Div x y h k = ap₂ (λ p q. p && not q) (same_number x.width y.width h) (k refl)
operator_fits bin.Rem x y h k = ap₂ (λ p q. p && not q) (same_number x.width y.width h) (k refl)
operator_fits op x y h k = ap (λ p. p && true) (same_number x.width y.width h)

-- ---- lengths

pub wide_is : (w : ℕ) → in_range w ≡ true → IsWidth w
wide_is w h = grind (arith, h)

pub in_range_is : (w : ℕ) → IsWidth w → in_range w ≡ true
in_range_is w h = grind (arith, h.0, h.1)

pub uncapped : (w : ℕ) → IsWidth (capped w) → capped w ≡ w
uncapped w h = grind (arith, h.0, h.1)

cap_more : (k n : ℕ) → min (min k 65 + n) 65 ≡ min (k + n) 65
cap_more k n = grind arith

plus_from : (k : ℕ) (ns : List ℕ) → fold plus (Some (capped k)) (map (λ n. Some n) ns) ≡ Some (capped (fold (λ a x. a + x) k ns))
plus_from k [] = refl
plus_from k (n ∷ ns) = ap (λ m. fold plus (Some m) (map (λ n. Some n) ns)) (cap_more k n) ∙ plus_from (k + n) ns

pub total_is : (ns : List ℕ) → total (map (λ n. Some n) ns) ≡ Some (capped (sum ns))
total_is ns = plus_from 0 ns
