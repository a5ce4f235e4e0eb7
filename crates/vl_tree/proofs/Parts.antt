-- What is known of the parts of an expression, a left side or a statement, layer by layer, where it is known of the whole.
use Rattle.std.proofs.Common.{List, [], ◌∷◌, Some, None, map, subst}
use Rattle.std.specs.Prelude.{All, IfSome}
use Rattle.std.proofs.lemmas.List.Elements.{All-nil, All-cons}
use Rattle.vl_tree.specs.declared.terminals.Terminal.{Terminal}
use Rattle.vl_tree.specs.declared.exprs.Expr.{Expr, out-Expr, map-Expr}
use Rattle.vl_tree.specs.declared.exprs.Expr.TheOpen as expr
use Rattle.vl_tree.specs.declared.exprs.Expr.TheFolds.{every_here-Expr, every_held-Expr, every_here-Select, every_held-Select}
use Rattle.vl_tree.specs.declared.exprs.Select.{Select, out-Select, map-Select}
use Rattle.vl_tree.specs.declared.exprs.Lvalue.{Lvalue, out-Lvalue, map-Lvalue}
use Rattle.vl_tree.specs.declared.exprs.Lvalue.TheOpen as lvalue
use Rattle.vl_tree.specs.declared.exprs.Lvalue.TheFolds.{every_here-Lvalue, every_held-Lvalue}
use Rattle.vl_tree.specs.declared.statements.Stmt.{Stmt, out-Stmt, map-Stmt}
use Rattle.vl_tree.specs.declared.statements.Citem.{Citem, out-Citem, map-Citem}
use Rattle.vl_tree.specs.declared.statements.Citem.TheOpen as stmt
use Rattle.vl_tree.specs.declared.statements.Citem.TheFolds.{every-Citem, every_here-Stmt, every_held-Stmt, every_here-Citem, every_held-Citem}
use Rattle.vl_tree.specs.Begins.{first_of_lvalue}
use Rattle.vl_tree.specs.Names.{IsToken, HereExpr, HereSelect, ExprNames, SelectNames, OneLvalue, LvalueNames, HereStmt, HereCitem, StmtNames}

each : {X : Type 0} (P : X → Type 0) (xs : List ((x : X) × P x)) → All P (map (λ x. x.0) xs)
each P [] = All-nil P
each P (x ∷ xs) = All-cons P x.0 (map (λ x. x.0) xs) x.1 (each P xs)

module _ (ls : List Terminal) where
  abbrev E : Expr → Type 0
  E e = ExprNames ls e

  abbrev S : Select → Type 0
  S s = SelectNames ls s

  abbrev L : Lvalue → Type 0
  L t = LvalueNames ls t

  abbrev St : Stmt → Type 0
  St s = StmtNames ls s

  abbrev pub CitemNames : Citem → Type 0
  CitemNames c = every-Citem (HereCitem ls) (HereStmt ls) c

  -- ---- expressions

  abbrev pub PartsOfExpr : expr.Expr-F Expr Select → Type 0
  PartsOfExpr (expr.Choice at a b c) = E a × E b × E c
  PartsOfExpr (expr.Binary at op a b) = E a × E b
  PartsOfExpr (expr.Unary at op a) = E a
  PartsOfExpr (expr.Based at size number) = Unit {0}
  PartsOfExpr (expr.Decimal at number) = Unit {0}
  PartsOfExpr (expr.Name at name ss) = All S ss
  PartsOfExpr (expr.Call at name es) = All E es
  PartsOfExpr (expr.Sign at sign a) = E a
  PartsOfExpr (expr.Concat at es) = All E es
  PartsOfExpr (expr.Replicate at a es) = E a × All E es

  parts_of_expr : (y : expr.Expr-F ((e : Expr) × E e) ((s : Select) × S s)) → PartsOfExpr (map-Expr ((e : Expr) × E e) ((s : Select) × S s) Expr Select (λ e. e.0) (λ s. s.0) y)
  parts_of_expr (expr.Choice at a b c) = (a.1, b.1, c.1)
  parts_of_expr (expr.Binary at op a b) = (a.1, b.1)
  parts_of_expr (expr.Unary at op a) = a.1
  parts_of_expr (expr.Based at size number) = tt
  parts_of_expr (expr.Decimal at number) = tt
  parts_of_expr (expr.Name at name ss) = each S ss
  parts_of_expr (expr.Call at name es) = each E es
  parts_of_expr (expr.Sign at sign a) = a.1
  parts_of_expr (expr.Concat at es) = each E es
  parts_of_expr (expr.Replicate at a es) = (a.1, each E es)

  pub expr_here : (e : Expr) → E e → HereExpr ls (out-Expr e)
  expr_here e h = every_here-Expr (HereExpr ls) (HereSelect ls) e h

  pub expr_parts : (e : Expr) → E e → PartsOfExpr (out-Expr e)
  expr_parts e h =
      let held = every_held-Expr (HereExpr ls) (HereSelect ls) e h in
      subst PartsOfExpr held.1 (parts_of_expr held.0)

  abbrev pub PartsOfSelect : expr.Select-F Expr Select → Type 0
  PartsOfSelect (expr.Index at a) = E a
  PartsOfSelect (expr.Part at a b) = E a × E b
  PartsOfSelect (expr.Up at a b) = E a × E b
  PartsOfSelect (expr.Down at a b) = E a × E b

  parts_of_select : (y : expr.Select-F ((e : Expr) × E e) ((s : Select) × S s)) → PartsOfSelect (map-Select ((e : Expr) × E e) ((s : Select) × S s) Expr Select (λ e. e.0) (λ s. s.0) y)
  parts_of_select (expr.Index at a) = a.1
  parts_of_select (expr.Part at a b) = (a.1, b.1)
  parts_of_select (expr.Up at a b) = (a.1, b.1)
  parts_of_select (expr.Down at a b) = (a.1, b.1)

  pub select_here : (s : Select) → S s → HereSelect ls (out-Select s)
  select_here s h = every_here-Select (HereExpr ls) (HereSelect ls) s h

  pub select_parts : (s : Select) → S s → PartsOfSelect (out-Select s)
  select_parts s h =
      let held = every_held-Select (HereExpr ls) (HereSelect ls) s h in
      subst PartsOfSelect held.1 (parts_of_select held.0)

  -- ---- left sides

  abbrev HereLvalue : lvalue.Lvalue-F Lvalue → Type 0
  HereLvalue x = IsToken ls (first_of_lvalue x) × OneLvalue ls x

  abbrev pub PartsOfLvalue : lvalue.Lvalue-F Lvalue → Type 0
  PartsOfLvalue (lvalue.Name at name ss) = Unit {0}
  PartsOfLvalue (lvalue.Concat at ts) = All L ts

  parts_of_lvalue : (y : lvalue.Lvalue-F ((t : Lvalue) × L t)) → PartsOfLvalue (map-Lvalue ((t : Lvalue) × L t) Lvalue (λ t. t.0) y)
  parts_of_lvalue (lvalue.Name at name ss) = tt
  parts_of_lvalue (lvalue.Concat at ts) = each L ts

  pub lvalue_here : (t : Lvalue) → L t → HereLvalue (out-Lvalue t)
  lvalue_here t h = every_here-Lvalue HereLvalue t h

  pub lvalue_parts : (t : Lvalue) → L t → PartsOfLvalue (out-Lvalue t)
  lvalue_parts t h =
      let held = every_held-Lvalue HereLvalue t h in
      subst PartsOfLvalue held.1 (parts_of_lvalue held.0)

  -- ---- statements

  abbrev pub PartsOfStmt : stmt.Stmt-F Citem Stmt → Type 0
  PartsOfStmt (stmt.Null at) = Unit {0}
  PartsOfStmt (stmt.Blocking at target value) = Unit {0}
  PartsOfStmt (stmt.Nonblocking at target value) = Unit {0}
  PartsOfStmt (stmt.If at test first second) = St first × IfSome second St
  PartsOfStmt (stmt.Case at on cs) = All CitemNames cs
  PartsOfStmt (stmt.For at name first test again next body) = St body
  PartsOfStmt (stmt.While at test body) = St body
  PartsOfStmt (stmt.Repeat at count body) = St body
  PartsOfStmt (stmt.Forever at body) = St body
  PartsOfStmt (stmt.Block at scope ss) = All St ss
  PartsOfStmt (stmt.Wait at edge clock body) = St body
  PartsOfStmt (stmt.Enable at name args) = Unit {0}
  PartsOfStmt (stmt.Disable at names) = Unit {0}

  parts_of_stmt : (y : stmt.Stmt-F ((c : Citem) × CitemNames c) ((s : Stmt) × St s)) → PartsOfStmt (map-Stmt ((c : Citem) × CitemNames c) ((s : Stmt) × St s) Citem Stmt (λ c. c.0) (λ s. s.0) y)
  parts_of_stmt (stmt.Null at) = tt
  parts_of_stmt (stmt.Blocking at target value) = tt
  parts_of_stmt (stmt.Nonblocking at target value) = tt
  parts_of_stmt (stmt.If at test first None) = (first.1, tt)
  parts_of_stmt (stmt.If at test first (Some second)) = (first.1, second.1)
  parts_of_stmt (stmt.Case at on cs) = each CitemNames cs
  parts_of_stmt (stmt.For at name first test again next body) = body.1
  parts_of_stmt (stmt.While at test body) = body.1
  parts_of_stmt (stmt.Repeat at count body) = body.1
  parts_of_stmt (stmt.Forever at body) = body.1
  parts_of_stmt (stmt.Block at scope ss) = each St ss
  parts_of_stmt (stmt.Wait at edge clock body) = body.1
  parts_of_stmt (stmt.Enable at name args) = tt
  parts_of_stmt (stmt.Disable at names) = tt

  pub stmt_here : (s : Stmt) → St s → HereStmt ls (out-Stmt s)
  stmt_here s h = every_here-Stmt (HereCitem ls) (HereStmt ls) s h

  pub stmt_parts : (s : Stmt) → St s → PartsOfStmt (out-Stmt s)
  stmt_parts s h =
      let held = every_held-Stmt (HereCitem ls) (HereStmt ls) s h in
      subst PartsOfStmt held.1 (parts_of_stmt held.0)

  abbrev pub PartsOfCitem : stmt.Citem-F Citem Stmt → Type 0
  PartsOfCitem (stmt.Labels at labels body) = St body
  PartsOfCitem (stmt.Default at colon body) = St body

  parts_of_citem : (y : stmt.Citem-F ((c : Citem) × CitemNames c) ((s : Stmt) × St s)) → PartsOfCitem (map-Citem ((c : Citem) × CitemNames c) ((s : Stmt) × St s) Citem Stmt (λ c. c.0) (λ s. s.0) y)
  parts_of_citem (stmt.Labels at labels body) = body.1
  parts_of_citem (stmt.Default at colon body) = body.1

  pub citem_here : (c : Citem) → CitemNames c → HereCitem ls (out-Citem c)
  citem_here c h = every_here-Citem (HereCitem ls) (HereStmt ls) c h

  pub citem_parts : (c : Citem) → CitemNames c → PartsOfCitem (out-Citem c)
  citem_parts c h =
      let held = every_held-Citem (HereCitem ls) (HereStmt ls) c h in
      subst PartsOfCitem held.1 (parts_of_citem held.0)
