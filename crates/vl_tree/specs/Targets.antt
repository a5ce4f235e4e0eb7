-- Expressions that can stand as left sides: an output argument is an expression of the grammar, and a value is stored in what it
-- names (IEEE 1364-2005, 10.2.2).
use Rattle.std.specs.Prelude.{List, [], ◌∷◌, map, option_map, Option, Some, None}
use Rattle.vl_tree.specs.declared.exprs.Expr.{Expr}
use Rattle.vl_tree.specs.declared.exprs.Expr.TheOpen as expr
use Rattle.vl_tree.specs.declared.exprs.Expr.TheFolds.{para-Expr}
use Rattle.vl_tree.specs.declared.exprs.Select.{Select}
use Rattle.vl_tree.specs.declared.exprs.Lvalue.{Lvalue}
use Rattle.vl_tree.specs.declared.exprs.Lvalue.TheVariants as lvalue

-- a list of values, if each is there
abbrev pub all_some : {X : Type 0} → List (Option X) → Option (List X)
all_some [] = Some []
all_some (None ∷ os) = None
all_some (Some x ∷ os) = option_map (λ xs. x ∷ xs) (all_some os)

-- a name with its selects, or a concatenation of left sides
abbrev pub lvalue_step : expr.Expr-F (Expr × Option Lvalue) (Select × Unit {0}) → Option Lvalue
lvalue_step (expr.Name at name selects) = Some (lvalue.Name at name (map (λ s. s.0) selects))
lvalue_step (expr.Concat at parts) = option_map (λ ts. lvalue.Concat at ts) (all_some (map (λ p. p.1) parts))
lvalue_step _ = None

-- the left side that an expression is, if it is one
abbrev pub lvalue_of : Expr → Option Lvalue
lvalue_of = para-Expr (Option Lvalue) (Unit {0}) lvalue_step (λ _. tt)
