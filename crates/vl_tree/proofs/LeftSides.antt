-- The left side that an expression is, layer by layer.
use Rattle.std.proofs.Common.{◌≡◌, List, [], ◌∷◌, Option, Some, None, map, refl, sym, ap, ◌∙◌}
use Rattle.std.specs.Prelude.{option_map}
use Rattle.vl_tree.specs.declared.exprs.Expr.{Expr, out-Expr, map-Expr}
use Rattle.vl_tree.specs.declared.exprs.Expr.TheOpen as layer
use Rattle.vl_tree.specs.declared.exprs.Expr.TheViews.{roll-out-Expr}
use Rattle.vl_tree.specs.declared.exprs.Expr.TheFolds.{para-roll-Expr}
use Rattle.vl_tree.specs.declared.exprs.Select.{Select}
use Rattle.vl_tree.specs.declared.exprs.Lvalue.{Lvalue}
use Rattle.vl_tree.specs.declared.exprs.Lvalue.TheVariants as lvalue
use Rattle.vl_tree.specs.Targets.{all_some, lvalue_step, lvalue_of}

firsts : {X Y : Type 0} (f : X → Y) (xs : List X) → map (λ (p : X × Y). p.0) (map (λ x. (x, f x)) xs) ≡ xs
firsts f [] = refl
firsts f (x ∷ xs) = ap (λ ys. x ∷ ys) (firsts f xs)

seconds : {X Y : Type 0} (f : X → Y) (xs : List X) → map (λ (p : X × Y). p.1) (map (λ x. (x, f x)) xs) ≡ map f xs
seconds f [] = refl
seconds f (x ∷ xs) = ap (λ ys. f x ∷ ys) (seconds f xs)

-- a name is one, a concatenation of left sides is one, and nothing else is
abbrev pub left_side : layer.Expr-F Expr Select → Option Lvalue
left_side (layer.Name at name selects) = Some (lvalue.Name at name selects)
left_side (layer.Concat at parts) = option_map (λ ts. lvalue.Concat at ts) (all_some (map lvalue_of parts))
left_side _ = None

abbrev beside : layer.Expr-F Expr Select → layer.Expr-F (Expr × Option Lvalue) (Select × Unit {0})
beside x = map-Expr Expr Select (Expr × Option Lvalue) (Select × Unit {0}) (λ e. (e, lvalue_of e)) (λ s. (s, tt)) x

by_layer : (x : layer.Expr-F Expr Select) → lvalue_step (beside x) ≡ left_side x
by_layer (layer.Name at name selects) = ap (λ ss. Some (lvalue.Name at name ss)) (firsts (λ s. tt) selects)
by_layer (layer.Concat at parts) = ap (λ os. option_map (λ ts. lvalue.Concat at ts) (all_some os)) (seconds lvalue_of parts)
by_layer (layer.Choice at a b c) = refl
by_layer (layer.Binary at op a b) = refl
by_layer (layer.Unary at op a) = refl
by_layer (layer.Based at size number) = refl
by_layer (layer.Decimal at number) = refl
by_layer (layer.Call at name es) = refl
by_layer (layer.Sign at sign a) = refl
by_layer (layer.Replicate at a es) = refl

pub lvalue_is : (e : Expr) → lvalue_of e ≡ left_side (out-Expr e)
lvalue_is e =
    ap lvalue_of (sym (roll-out-Expr e))
    ∙ para-roll-Expr (Option Lvalue) (Unit {0}) lvalue_step (λ _. tt) (out-Expr e)
    ∙ by_layer (out-Expr e)
