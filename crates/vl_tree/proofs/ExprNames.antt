-- The numbers in an expression of the grammar are those of tokens.
use Rattle.std.proofs.Common.{◌≡◌, ℕ, List, [], ◌∷◌, Some, None, refl, ap, subst}
use Rattle.std.specs.Prelude.{All}
use Rattle.std.proofs.lemmas.List.Elements.{All-nil, All-cons}
use Rattle.vl_tree.specs.declared.terminals.Terminal.{Terminal}
use Rattle.vl_tree.specs.declared.terminals.Terminal.TheVariants as lex
use Rattle.vl_tree.specs.declared.operators.UnOp.{UnOp}
use Rattle.vl_tree.specs.declared.operators.BinOp.{BinOp}
use Rattle.vl_tree.specs.declared.operators.Sign.{Sign}
use Rattle.vl_tree.specs.declared.exprs.Expr.{Expr, map-Expr}
use Rattle.vl_tree.specs.declared.exprs.Expr.TheVariants as expr
use Rattle.vl_tree.specs.declared.exprs.Expr.TheOpen as layer
use Rattle.vl_tree.specs.declared.exprs.Expr.TheViews.{roll-Expr}
use Rattle.vl_tree.specs.declared.exprs.Expr.TheFolds.{every_made-Expr, every_made-Select}
use Rattle.vl_tree.specs.declared.exprs.Select.{Select}
use Rattle.vl_tree.specs.declared.exprs.Select.TheVariants as select
use Rattle.vl_tree.specs.declared.exprs.Lvalue.{Lvalue}
use Rattle.vl_tree.specs.declared.exprs.Lvalue.TheVariants as lvalue
use Rattle.vl_tree.specs.declared.exprs.Lvalue.TheOpen as open_lvalue
use Rattle.vl_tree.specs.declared.exprs.Lvalue.TheFolds.{every_made-Lvalue}
use Rattle.vl_tree.specs.Places.{At, IsName}
use Rattle.vl_tree.specs.Begins.{first_of_lvalue}
use Rattle.vl_tree.specs.Expressions.{IsLevel, IsExprs, IsSelects, IsSelect, IsArgs, IsLvalue, IsLvalues}
use Rattle.vl_tree.specs.Names.{IsToken, HereExpr, HereSelect, ExprNames, SelectNames, OneLvalue, LvalueNames}
use Rattle.vl_tree.proofs.Tokens.{at_within, name_within, together}

module _ (ls : List Terminal) where
  abbrev E : Expr → Type 0
  E e = ExprNames ls e

  abbrev S : Select → Type 0
  S s = SelectNames ls s

  abbrev Kept : Type 0
  Kept = (e : Expr) × E e

  abbrev KeptSelect : Type 0
  KeptSelect = (s : Select) × S s

  made : (x : layer.Expr-F Expr Select) (y : layer.Expr-F Kept KeptSelect) →
      map-Expr Kept KeptSelect Expr Select (λ e. e.0) (λ s. s.0) y ≡ x → HereExpr ls x → E (roll-Expr x)
  made x y is here = every_made-Expr (HereExpr ls) (HereSelect ls) x y is here

  pub choice_names : (i : ℕ) (a b c : Expr) → IsToken ls i → E a → E b → E c → E (expr.Choice i a b c)
  choice_names i a b c t x y z =
      subst E (expr.rolls-Choice i a b c) (made (layer.Choice i a b c) (layer.Choice i (a, x) (b, y) (c, z)) refl (t, tt))

  pub binary_names : (i : ℕ) (op : BinOp) (a b : Expr) → IsToken ls i → E a → E b → E (expr.Binary i op a b)
  binary_names i op a b t x y =
      subst E (expr.rolls-Binary i op a b) (made (layer.Binary i op a b) (layer.Binary i op (a, x) (b, y)) refl (t, tt))

  pub unary_names : (i : ℕ) (op : UnOp) (a : Expr) → IsToken ls i → E a → E (expr.Unary i op a)
  unary_names i op a t x = subst E (expr.rolls-Unary i op a) (made (layer.Unary i op a) (layer.Unary i op (a, x)) refl (t, tt))

  pub sized_names : (i size number : ℕ) → At ls size lex.Decimal → At ls number lex.Based → IsToken ls i → E (expr.Based i (Some size) number)
  sized_names i size number s n t =
      subst E (expr.rolls-Based i (Some size) number) (made (layer.Based i (Some size) number) (layer.Based i (Some size) number) refl (t, (s, n)))

  pub based_names : (i number : ℕ) → At ls number lex.Based → IsToken ls i → E (expr.Based i None number)
  based_names i number n t =
      subst E (expr.rolls-Based i None number) (made (layer.Based i None number) (layer.Based i None number) refl (t, n))

  pub decimal_names : (i number : ℕ) → At ls number lex.Decimal → IsToken ls i → E (expr.Decimal i number)
  decimal_names i number n t =
      subst E (expr.rolls-Decimal i number) (made (layer.Decimal i number) (layer.Decimal i number) refl (t, n))

  pub name_names : (i name : ℕ) (ss : List Select) → IsName ls name → IsToken ls i → All S ss → E (expr.Name i name ss)
  name_names i name ss n t x =
      let all = together S ss x in
      subst E (expr.rolls-Name i name ss) (made (layer.Name i name ss) (layer.Name i name all.all) (ap (λ ss. layer.Name i name ss) all.is) (t, n))

  pub call_names : (i name : ℕ) (es : List Expr) → IsName ls name → IsToken ls i → All E es → E (expr.Call i name es)
  call_names i name es n t x =
      let all = together E es x in
      subst E (expr.rolls-Call i name es) (made (layer.Call i name es) (layer.Call i name all.all) (ap (λ es. layer.Call i name es) all.is) (t, n))

  pub sign_names : (i : ℕ) (sign : Sign) (a : Expr) → IsToken ls i → E a → E (expr.Sign i sign a)
  sign_names i sign a t x = subst E (expr.rolls-Sign i sign a) (made (layer.Sign i sign a) (layer.Sign i sign (a, x)) refl (t, tt))

  pub concat_names : (i : ℕ) (es : List Expr) → IsToken ls i → All E es → E (expr.Concat i es)
  concat_names i es t x =
      let all = together E es x in
      subst E (expr.rolls-Concat i es) (made (layer.Concat i es) (layer.Concat i all.all) (ap (λ es. layer.Concat i es) all.is) (t, tt))

  pub replicate_names : (i : ℕ) (a : Expr) (es : List Expr) → IsToken ls i → E a → All E es → E (expr.Replicate i a es)
  replicate_names i a es t y x =
      let all = together E es x in
      subst E (expr.rolls-Replicate i a es)
      (made (layer.Replicate i a es) (layer.Replicate i (a, y) all.all) (ap (λ es. layer.Replicate i a es) all.is) (t, tt))

  pub index_names : (i : ℕ) (a : Expr) → IsToken ls i → E a → S (select.Index i a)
  index_names i a t x =
      subst S (select.rolls-Index i a) (every_made-Select (HereExpr ls) (HereSelect ls) (layer.Index i a) (layer.Index i (a, x)) refl t)

  pub part_names : (i : ℕ) (a b : Expr) → IsToken ls i → E a → E b → S (select.Part i a b)
  part_names i a b t x y =
      subst S (select.rolls-Part i a b) (every_made-Select (HereExpr ls) (HereSelect ls) (layer.Part i a b) (layer.Part i (a, x) (b, y)) refl t)

  pub up_names : (i : ℕ) (a b : Expr) → IsToken ls i → E a → E b → S (select.Up i a b)
  up_names i a b t x y =
      subst S (select.rolls-Up i a b) (every_made-Select (HereExpr ls) (HereSelect ls) (layer.Up i a b) (layer.Up i (a, x) (b, y)) refl t)

  pub down_names : (i : ℕ) (a b : Expr) → IsToken ls i → E a → E b → S (select.Down i a b)
  down_names i a b t x y =
      subst S (select.rolls-Down i a b) (every_made-Select (HereExpr ls) (HereSelect ls) (layer.Down i a b) (layer.Down i (a, x) (b, y)) refl t)

  -- a part of the grammar begins with a token
  pub level_begins : {n l i j : ℕ} {e : Expr} → IsLevel ls n l i j e → IsToken ls i
  level_begins (IsLevel.choice a q b c d) = level_begins a
  level_begins (IsLevel.binary_op a x o b) = level_begins a
  level_begins (IsLevel.tighter a) = level_begins a
  level_begins (IsLevel.unary_op h u a) = at_within ls _ _ h
  level_begins (IsLevel.sized h b) = at_within ls _ _ h
  level_begins (IsLevel.based h) = at_within ls _ _ h
  level_begins (IsLevel.decimal h) = at_within ls _ _ h
  level_begins (IsLevel.name {i = i} h ss) = name_within ls i h
  level_begins (IsLevel.call {i = i} h given) = name_within ls i h
  level_begins (IsLevel.to_signed h o a c) = at_within ls _ _ h
  level_begins (IsLevel.to_unsigned h o a c) = at_within ls _ _ h
  level_begins (IsLevel.parens h a c) = at_within ls _ _ h
  level_begins (IsLevel.concat h es c) = at_within ls _ _ h
  level_begins (IsLevel.replicate h a o es c d) = at_within ls _ _ h

  mutual
    pub level_names : {n l i j : ℕ} {e : Expr} → IsLevel ls n l i j e → E e
    level_names (IsLevel.choice a q b c d) = choice_names _ _ _ _ (level_begins a) (level_names a) (level_names b) (level_names d)
    level_names (IsLevel.binary_op a x o b) = binary_names _ _ _ _ (level_begins a) (level_names a) (level_names b)
    level_names (IsLevel.tighter a) = level_names a
    level_names (IsLevel.unary_op h u a) = unary_names _ _ _ (at_within ls _ _ h) (level_names a)
    level_names (IsLevel.sized h b) = sized_names _ _ _ h b (at_within ls _ _ h)
    level_names (IsLevel.based h) = based_names _ _ h (at_within ls _ _ h)
    level_names (IsLevel.decimal h) = decimal_names _ _ h (at_within ls _ _ h)
    level_names (IsLevel.name {i = i} h ss) = name_names i i _ h (name_within ls i h) (selects_names ss)
    level_names (IsLevel.call {i = i} h given) = call_names i i _ h (name_within ls i h) (args_names given)
    level_names (IsLevel.to_signed h o a c) = sign_names _ _ _ (at_within ls _ _ h) (level_names a)
    level_names (IsLevel.to_unsigned h o a c) = sign_names _ _ _ (at_within ls _ _ h) (level_names a)
    level_names (IsLevel.parens h a c) = level_names a
    level_names (IsLevel.concat h es c) = concat_names _ _ (at_within ls _ _ h) (exprs_names es)
    level_names (IsLevel.replicate h a o es c d) = replicate_names _ _ _ (at_within ls _ _ h) (level_names a) (exprs_names es)

    pub args_names : {n i j : ℕ} {es : List Expr} → IsArgs ls n i j es → All E es
    args_names (IsArgs.no_args o c) = All-nil E
    args_names (IsArgs.some_args o es c) = exprs_names es

    pub exprs_names : {n i j : ℕ} {es : List Expr} → IsExprs ls n i j es → All E es
    exprs_names (IsExprs.last_expr {e = e} a) = All-cons E e [] (level_names a) (All-nil E)
    exprs_names (IsExprs.more_exprs {e = e} {es = es} a c h) = All-cons E e es (level_names a) (exprs_names h)

    pub selects_names : {n i j : ℕ} {ss : List Select} → IsSelects ls n i j ss → All S ss
    selects_names IsSelects.no_select = All-nil S
    selects_names (IsSelects.one_select {s = s} h) = All-cons S s [] (select_names h) (All-nil S)
    selects_names (IsSelects.two_selects {i = i} {e = e} {s = s} a b) =
        All-cons S (select.Index i e) (s ∷ []) (select_names a) (All-cons S s [] (select_names b) (All-nil S))

    pub select_names : {n i j : ℕ} {s : Select} → IsSelect ls n i j s → S s
    select_names (IsSelect.index o a c) = index_names _ _ (at_within ls _ _ o) (level_names a)
    select_names (IsSelect.part o a q b c) = part_names _ _ _ (at_within ls _ _ o) (level_names a) (level_names b)
    select_names (IsSelect.up o a q b c) = up_names _ _ _ (at_within ls _ _ o) (level_names a) (level_names b)
    select_names (IsSelect.down o a q b c) = down_names _ _ _ (at_within ls _ _ o) (level_names a) (level_names b)

  pub exprs_begin : {n i j : ℕ} {es : List Expr} → IsExprs ls n i j es → IsToken ls i
  exprs_begin (IsExprs.last_expr a) = level_begins a
  exprs_begin (IsExprs.more_exprs a c es) = level_begins a

  -- ---- left sides

  abbrev L : Lvalue → Type 0
  L t = LvalueNames ls t

  abbrev HereLvalue : open_lvalue.Lvalue-F Lvalue → Type 0
  HereLvalue x = IsToken ls (first_of_lvalue x) × OneLvalue ls x

  pub target_names : (i name : ℕ) (ss : List Select) → IsName ls name → IsToken ls i → All S ss → L (lvalue.Name i name ss)
  target_names i name ss n t x =
      subst L (lvalue.rolls-Name i name ss)
      (every_made-Lvalue HereLvalue (open_lvalue.Name i name ss) (open_lvalue.Name i name ss) refl (t, (n, x)))

  pub targets_names : (i : ℕ) (ts : List Lvalue) → IsToken ls i → All L ts → L (lvalue.Concat i ts)
  targets_names i ts t x =
      let all = together L ts x in
      subst L (lvalue.rolls-Concat i ts)
      (every_made-Lvalue HereLvalue (open_lvalue.Concat i ts) (open_lvalue.Concat i all.all) (ap (λ ts. open_lvalue.Concat i ts) all.is) (t, tt))

  pub lvalue_begins : {n i j : ℕ} {t : Lvalue} → IsLvalue ls n i j t → IsToken ls i
  lvalue_begins (IsLvalue.target {i = i} h ss) = name_within ls i h
  lvalue_begins (IsLvalue.targets o ts c) = at_within ls _ _ o

  mutual
    pub lvalue_names : {n i j : ℕ} {t : Lvalue} → IsLvalue ls n i j t → L t
    lvalue_names (IsLvalue.target {i = i} h ss) = target_names i i _ h (name_within ls i h) (selects_names ss)
    lvalue_names (IsLvalue.targets o ts c) = targets_names _ _ (at_within ls _ _ o) (lvalues_names ts)

    pub lvalues_names : {n i j : ℕ} {ts : List Lvalue} → IsLvalues ls n i j ts → All L ts
    lvalues_names (IsLvalues.last_target {t = t} h) = All-cons L t [] (lvalue_names h) (All-nil L)
    lvalues_names (IsLvalues.more_targets {t = t} {ts = ts} h c more) = All-cons L t ts (lvalue_names h) (lvalues_names more)
