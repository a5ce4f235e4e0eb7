-- The nets that an expression names, from left to right, by its layers. All of it is this project's own.
use Rattle.std.specs.Prelude.{ℕ, List, [], ◌∷◌, ◌++◌}
use Rattle.el_design.specs.declared.expressions.TExpr.{TExpr}
use Rattle.el_design.specs.declared.expressions.Kind.{Kind}
use Rattle.el_design.specs.declared.expressions.Pick.{Pick}
use Rattle.el_design.specs.declared.expressions.Kind.TheOpen.{TExpr-F, Kind-F, Pick-F}
use Rattle.el_design.specs.declared.expressions.Kind.TheFolds.{fold-TExpr, fold-Kind, fold-Pick}

abbrev pub joined : List (List ℕ) → List ℕ
joined [] = []
joined (xs ∷ others) = xs ++ joined others

abbrev pub kind_names : Kind-F (List ℕ) (List ℕ) (List ℕ) → List ℕ
kind_names (Kind-F.Num b) = []
kind_names (Kind-F.Net n) = n ∷ []
kind_names (Kind-F.Var v) = []
kind_names (Kind-F.Word v i) = i
kind_names (Kind-F.Select e p lsb) = e ++ p
kind_names (Kind-F.Unary op e) = e
kind_names (Kind-F.Binary op a b) = a ++ b
kind_names (Kind-F.Choice c a b) = c ++ a ++ b
kind_names (Kind-F.Concat es) = joined es
kind_names (Kind-F.Repeat n e) = e
kind_names (Kind-F.Sign e) = e
kind_names (Kind-F.Resize e) = e
kind_names (Kind-F.Call f es) = joined es

abbrev pub pick_names : Pick-F (List ℕ) (List ℕ) (List ℕ) → List ℕ
pick_names (Pick-F.Bit e) = e
pick_names (Pick-F.Part high low) = []
pick_names (Pick-F.Up e w) = e
pick_names (Pick-F.Down e w) = e

abbrev pub expr_names : TExpr-F (List ℕ) (List ℕ) (List ℕ) → List ℕ
expr_names e = e.kind

abbrev pub named : TExpr → List ℕ
named = fold-TExpr (List ℕ) (List ℕ) (List ℕ) kind_names pick_names expr_names

abbrev pub named_by_kind : Kind → List ℕ
named_by_kind = fold-Kind (List ℕ) (List ℕ) (List ℕ) kind_names pick_names expr_names

abbrev pub named_by_pick : Pick → List ℕ
named_by_pick = fold-Pick (List ℕ) (List ℕ) (List ℕ) kind_names pick_names expr_names
