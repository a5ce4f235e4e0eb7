-- The nets that an expression names by its layers are those of its nodes.
use Rattle.std.proofs.Common.{◌≡◌, ◌++◌, ◌∷◌, [], ℕ, List, map, refl, sym, ap, ap₂, ◌∙◌, subst}
use Rattle.std.specs.List.{filter_map}
use Rattle.std.proofs.lemmas.List.Elements.{filter_map-append}
use Rattle.el_design.specs.declared.expressions.TExpr.{TExpr, map-TExpr, roll-TExpr}
use Rattle.el_design.specs.declared.expressions.Kind.{Kind, map-Kind, roll-Kind}
use Rattle.el_design.specs.declared.expressions.Pick.{Pick, map-Pick, roll-Pick}
use Rattle.el_design.specs.declared.expressions.Kind.TheOpen.{TExpr-F, Kind-F, Pick-F}
use Rattle.el_design.specs.declared.expressions.Kind.TheFolds.{fold-roll-Kind, fold-roll-Pick, fold-roll-TExpr, ind-TExpr}
use Rattle.el_design.specs.Plain.{Shape, Expr, Exprs, Range}
use Rattle.el_design.specs.View.{expr_of, kind_of, range_of, exprs_of, kind_step, pick_step, expr_step}
use Rattle.el_design.specs.Names.{nodes_of, nodes_of_all, range_nodes, net_named, nets_in}
use Rattle.ck_nets.specs.inner.Naming.{joined, kind_names, pick_names, expr_names, named, named_by_kind, named_by_pick}

abbrev nets_all : Exprs → List ℕ
nets_all es = filter_map net_named (nodes_of_all es)

abbrev nets_range : Range → List ℕ
nets_range r = filter_map net_named (range_nodes r)

abbrev KindNames : Kind → Type 0
KindNames k = (s : Shape) → nets_in (kind_of k s) ≡ named_by_kind k

abbrev PickNames : Pick → Type 0
PickNames p = nets_range (range_of p) ≡ named_by_pick p

abbrev ExprNames : TExpr → Type 0
ExprNames e = nets_in (expr_of e) ≡ named e

-- ---- parts with what is known of them

abbrev KindHere : Type 0
KindHere = (k : Kind) × KindNames k

abbrev PickHere : Type 0
PickHere = (p : Pick) × PickNames p

abbrev ExprHere : Type 0
ExprHere = (e : TExpr) × ExprNames e

abbrev bare_kind : Kind-F KindHere PickHere ExprHere → Kind-F Kind Pick TExpr
bare_kind y = map-Kind KindHere PickHere ExprHere Kind Pick TExpr (λ k. k.0) (λ p. p.0) (λ e. e.0) y

abbrev bare_pick : Pick-F KindHere PickHere ExprHere → Pick-F Kind Pick TExpr
bare_pick y = map-Pick KindHere PickHere ExprHere Kind Pick TExpr (λ k. k.0) (λ p. p.0) (λ e. e.0) y

abbrev bare_expr : TExpr-F KindHere PickHere ExprHere → TExpr-F Kind Pick TExpr
bare_expr y = map-TExpr KindHere PickHere ExprHere Kind Pick TExpr (λ k. k.0) (λ p. p.0) (λ e. e.0) y

both_names : (a b : List Expr) (xs ys : List ℕ) → filter_map net_named a ≡ xs → filter_map net_named b ≡ ys → filter_map net_named (a ++ b) ≡ xs ++ ys
both_names a b xs ys e f = filter_map-append net_named a b ∙ ap₂ (λ x y. x ++ y) e f

all_names : (es : List ExprHere) → nets_all (exprs_of (map expr_of (map (λ e. e.0) es))) ≡ joined (map named (map (λ e. e.0) es))
all_names [] = refl
all_names (e ∷ es) = both_names (nodes_of (expr_of e.0)) (nodes_of_all (exprs_of (map expr_of (map (λ e. e.0) es)))) (named e.0) (joined (map named (map (λ e. e.0) es))) e.1 (all_names es)

-- ---- each layer

kind_same : (y : Kind-F KindHere PickHere ExprHere) (s : Shape) → nets_in (kind_step (map-Kind Kind Pick TExpr (Shape → Expr) Range Expr kind_of range_of expr_of (bare_kind y)) s)
    ≡ kind_names (map-Kind Kind Pick TExpr (List ℕ) (List ℕ) (List ℕ) named_by_kind named_by_pick named (bare_kind y))
kind_same (Kind-F.Num b) s = refl
kind_same (Kind-F.Net n) s = refl
kind_same (Kind-F.Var v) s = refl
kind_same (Kind-F.Word v i) s = i.1
kind_same (Kind-F.Select e p lsb) s = both_names (nodes_of (expr_of e.0)) (range_nodes (range_of p.0)) (named e.0) (named_by_pick p.0) e.1 p.1
kind_same (Kind-F.Unary op e) s = e.1
kind_same (Kind-F.Binary op a b) s = both_names (nodes_of (expr_of a.0)) (nodes_of (expr_of b.0)) (named a.0) (named b.0) a.1 b.1
kind_same (Kind-F.Choice c a b) s = both_names (nodes_of (expr_of c.0) ++ nodes_of (expr_of a.0)) (nodes_of (expr_of b.0)) (named c.0 ++ named a.0) (named b.0)
    (both_names (nodes_of (expr_of c.0)) (nodes_of (expr_of a.0)) (named c.0) (named a.0) c.1 a.1) b.1
kind_same (Kind-F.Concat es) s = all_names es
kind_same (Kind-F.Repeat n e) s = e.1
kind_same (Kind-F.Sign e) s = e.1
kind_same (Kind-F.Resize e) s = e.1
kind_same (Kind-F.Call f es) s = all_names es

pick_same : (y : Pick-F KindHere PickHere ExprHere) → nets_range (pick_step (map-Pick Kind Pick TExpr (Shape → Expr) Range Expr kind_of range_of expr_of (bare_pick y)))
    ≡ pick_names (map-Pick Kind Pick TExpr (List ℕ) (List ℕ) (List ℕ) named_by_kind named_by_pick named (bare_pick y))
pick_same (Pick-F.Bit e) = e.1
pick_same (Pick-F.Part high low) = refl
pick_same (Pick-F.Up e w) = e.1
pick_same (Pick-F.Down e w) = e.1

-- ---- every expression

kind_shows : (x : Kind-F Kind Pick TExpr) (y : Kind-F KindHere PickHere ExprHere) → bare_kind y ≡ x → KindNames (roll-Kind x)
kind_shows x y is = subst (λ z. KindNames (roll-Kind z)) is (λ s.
    ap (λ f. nets_in (f s)) (fold-roll-Kind (Shape → Expr) Range Expr kind_step pick_step expr_step (bare_kind y)) ∙ kind_same y s
    ∙ sym (fold-roll-Kind (List ℕ) (List ℕ) (List ℕ) kind_names pick_names expr_names (bare_kind y)))

pick_shows : (x : Pick-F Kind Pick TExpr) (y : Pick-F KindHere PickHere ExprHere) → bare_pick y ≡ x → PickNames (roll-Pick x)
pick_shows x y is = subst (λ z. PickNames (roll-Pick z)) is
    (ap nets_range (fold-roll-Pick (Shape → Expr) Range Expr kind_step pick_step expr_step (bare_pick y)) ∙ pick_same y
    ∙ sym (fold-roll-Pick (List ℕ) (List ℕ) (List ℕ) kind_names pick_names expr_names (bare_pick y)))

expr_shows : (x : TExpr-F Kind Pick TExpr) (y : TExpr-F KindHere PickHere ExprHere) → bare_expr y ≡ x → ExprNames (roll-TExpr x)
expr_shows x y is = subst (λ z. ExprNames (roll-TExpr z)) is
    (ap nets_in (fold-roll-TExpr (Shape → Expr) Range Expr kind_step pick_step expr_step (bare_expr y)) ∙ y.kind.1 (record { width = y.width; signed = y.signed })
    ∙ sym (fold-roll-TExpr (List ℕ) (List ℕ) (List ℕ) kind_names pick_names expr_names (bare_expr y)))

pub nets_named : (e : TExpr) → nets_in (expr_of e) ≡ named e
nets_named = ind-TExpr KindNames PickNames ExprNames kind_shows pick_shows expr_shows
