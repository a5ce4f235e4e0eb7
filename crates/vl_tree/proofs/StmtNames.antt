-- The numbers in declarations and statements of the grammar are those of tokens.
use Rattle.std.proofs.Common.{◌≡◌, ◌<◌, ◌+◌, ℕ, List, [], Option, Some, None, Bool, length, refl, ap, subst}
use Rattle.std.specs.Prelude.{All, IfSome}
use Rattle.std.proofs.lemmas.List.Elements.{All-nil, All-cons}
use Rattle.vl_tree.specs.declared.terminals.Terminal.{Terminal}
use Rattle.vl_tree.specs.declared.exprs.Expr.{Expr}
use Rattle.vl_tree.specs.declared.exprs.Lvalue.{Lvalue}
use Rattle.vl_tree.specs.declared.modules.Range.{Range}
use Rattle.vl_tree.specs.declared.modules.Ptype.{Ptype}
use Rattle.vl_tree.specs.declared.routines.Local.{Local}
use Rattle.vl_tree.specs.declared.statements.Stmt.{Stmt, map-Stmt}
use Rattle.vl_tree.specs.declared.statements.Stmt.TheVariants as stmt
use Rattle.vl_tree.specs.declared.statements.Citem.{Citem}
use Rattle.vl_tree.specs.declared.statements.Citem.TheVariants as citem
use Rattle.vl_tree.specs.declared.statements.Citem.TheOpen as layer
use Rattle.vl_tree.specs.declared.statements.Citem.TheViews.{roll-Stmt}
use Rattle.vl_tree.specs.declared.statements.Citem.TheFolds.{every-Citem, every_made-Stmt, every_made-Citem}
use Rattle.vl_tree.specs.declared.statements.Scope.{Scope}
use Rattle.vl_tree.specs.declared.statements.Edge.{Edge}
use Rattle.vl_tree.specs.Places.{IsName}
use Rattle.vl_tree.specs.Lists.{Commas, MaybeCommas, Many, Maybe, Flag, Name}
use Rattle.vl_tree.specs.Expressions.{IsArgs}
use Rattle.vl_tree.specs.Declarations.{IsRange, IsPtype, IsLocal}
use Rattle.vl_tree.specs.Statements.{IsPath, IsScope, IsStmt, IsStmts, IsCitem, IsCitems}
use Rattle.vl_tree.specs.Names.{IsToken, ExprNames, LvalueNames, RangeNames, PtypeNames, LocalNames, ScopeNames, HereStmt, HereCitem, StmtNames}
use Rattle.vl_tree.proofs.Tokens.{at_within, name_within, together}
use Rattle.vl_tree.proofs.ExprNames.{level_names, exprs_names, args_names, lvalue_names, lvalue_begins, exprs_begin}

-- ---- lists and options of the grammar

pub commas_all : {X : Type 0} (ls : List Terminal) (P : ℕ → ℕ → X → Type 0) (Q : X → Type 0) → ((i j : ℕ) (x : X) → P i j x → Q x) →
    {i j : ℕ} {xs : List X} → Commas ls P i j xs → All Q xs
commas_all ls P Q f (Commas.last {x = x} p) = All-cons Q x [] (f _ _ _ p) (All-nil Q)
commas_all ls P Q f (Commas.more {x = x} {xs = xs} p c rest) = All-cons Q x xs (f _ _ _ p) (commas_all ls P Q f rest)

pub commas_begin : {X : Type 0} (ls : List Terminal) (P : ℕ → ℕ → X → Type 0) → ((i j : ℕ) (x : X) → P i j x → i < length ls) →
    {i j : ℕ} {xs : List X} → Commas ls P i j xs → i < length ls
commas_begin ls P f (Commas.last p) = f _ _ _ p
commas_begin ls P f (Commas.more p c rest) = f _ _ _ p

pub maybe_commas_all : {X : Type 0} (ls : List Terminal) (P : ℕ → ℕ → X → Type 0) (Q : X → Type 0) → ((i j : ℕ) (x : X) → P i j x → Q x) →
    {i j : ℕ} {xs : List X} → MaybeCommas ls P i j xs → All Q xs
maybe_commas_all ls P Q f MaybeCommas.none = All-nil Q
maybe_commas_all ls P Q f (MaybeCommas.some some) = commas_all ls P Q f some

pub many_all : {X : Type 0} (P : ℕ → ℕ → X → Type 0) (Q : X → Type 0) → ((i j : ℕ) (x : X) → P i j x → Q x) →
    {i j : ℕ} {xs : List X} → Many P i j xs → All Q xs
many_all P Q f Many.end = All-nil Q
many_all P Q f (Many.next {x = x} {xs = xs} p more) = All-cons Q x xs (f _ _ _ p) (many_all P Q f more)

pub maybe_holds : {X : Type 0} (P : ℕ → ℕ → X → Type 0) (Q : X → Type 0) → ((i j : ℕ) (x : X) → P i j x → Q x) →
    {i j : ℕ} {o : Option X} → Maybe P i j o → IfSome o Q
maybe_holds P Q f Maybe.absent = tt
maybe_holds P Q f (Maybe.present p) = f _ _ _ p

module _ (ls : List Terminal) where
  pub name_is : {i j name : ℕ} → Name ls i j name → IsName ls name
  name_is (Name.id h) = h

  pub names_are : {i j : ℕ} {names : List ℕ} → Commas ls (Name ls) i j names → All (IsName ls) names
  names_are h = commas_all ls (Name ls) (IsName ls) (λ i j x h. name_is h) h

  -- ---- declarations

  module _ (n : ℕ) where
    pub range_begins : {i j : ℕ} {r : Range} → IsRange ls n i j r → IsToken ls i
    range_begins (IsRange.range o a c b d) = at_within ls _ _ o

    pub range_names : {i j : ℕ} {r : Range} → IsRange ls n i j r → RangeNames ls r
    range_names (IsRange.range o a c b d) = (at_within ls _ _ o, level_names ls a, level_names ls b)

    pub maybe_range : {i j : ℕ} {r : Option Range} → Maybe (IsRange ls n) i j r → IfSome r (RangeNames ls)
    maybe_range h = maybe_holds (IsRange ls n) (RangeNames ls) (λ i j x h. range_names h) h

    range_or_next : {i j : ℕ} {r : Option Range} → Maybe (IsRange ls n) i j r → IsToken ls j → IsToken ls i
    range_or_next Maybe.absent t = t
    range_or_next (Maybe.present r) t = range_begins r

    flag_or_next : {l : Terminal} {i j : ℕ} {b : Bool} → Flag ls l i j b → IsToken ls j → IsToken ls i
    flag_or_next Flag.unset t = t
    flag_or_next (Flag.set h) t = at_within ls _ _ h

    -- a type may be empty, and then begins with the token behind it
    pub ptype_names : {i j : ℕ} {p : Ptype} → IsPtype ls n i j p → IsToken ls j → PtypeNames ls p
    ptype_names (IsPtype.vector s r) t = (flag_or_next s (range_or_next r t), maybe_range r)
    ptype_names (IsPtype.integer h) t = at_within ls _ _ h

    pub local_names : {i j : ℕ} {l : Local} → IsLocal ls n i j l → LocalNames ls l
    local_names (IsLocal.reg_local h s r names c) = (at_within ls _ _ h, maybe_range r, names_are names)
    local_names (IsLocal.integer_local h names c) = (at_within ls _ _ h, names_are names)

    pub local_begins : {i j : ℕ} {l : Local} → IsLocal ls n i j l → IsToken ls i
    local_begins (IsLocal.reg_local h s r names c) = at_within ls _ _ h
    local_begins (IsLocal.integer_local h names c) = at_within ls _ _ h

    pub locals_names : {i j : ℕ} {all : List Local} → Many (IsLocal ls n) i j all → All (LocalNames ls) all
    locals_names h = many_all (IsLocal ls n) (LocalNames ls) (λ i j x h. local_names h) h

    pub scope_names : {i j : ℕ} {s : Scope} → IsScope ls n i j s → ScopeNames ls s
    scope_names (IsScope.scope h name locals) = (at_within ls _ _ h, name, locals_names locals)

  -- ---- statements

  abbrev St : Stmt → Type 0
  St s = StmtNames ls s

  abbrev Ci : Citem → Type 0
  Ci c = every-Citem (HereCitem ls) (HereStmt ls) c

  abbrev Kept : Type 0
  Kept = (s : Stmt) × St s

  abbrev KeptItem : Type 0
  KeptItem = (c : Citem) × Ci c

  made : (x : layer.Stmt-F Citem Stmt) (y : layer.Stmt-F KeptItem Kept) →
      map-Stmt KeptItem Kept Citem Stmt (λ c. c.0) (λ s. s.0) y ≡ x → HereStmt ls x → St (roll-Stmt x)
  made x y is here = every_made-Stmt (HereCitem ls) (HereStmt ls) x y is here

  null_names : (i : ℕ) → IsToken ls i → St (stmt.Null i)
  null_names i t = subst St (stmt.rolls-Null i) (made (layer.Null i) (layer.Null i) refl (t, tt))

  blocking_names : (i : ℕ) (l : Lvalue) (e : Expr) → IsToken ls i → LvalueNames ls l → ExprNames ls e → St (stmt.Blocking i l e)
  blocking_names i l e t x y =
      subst St (stmt.rolls-Blocking i l e) (made (layer.Blocking i l e) (layer.Blocking i l e) refl (t, (x, y)))

  nonblocking_names : (i : ℕ) (l : Lvalue) (e : Expr) → IsToken ls i → LvalueNames ls l → ExprNames ls e → St (stmt.Nonblocking i l e)
  nonblocking_names i l e t x y =
      subst St (stmt.rolls-Nonblocking i l e) (made (layer.Nonblocking i l e) (layer.Nonblocking i l e) refl (t, (x, y)))

  alone_names : (i : ℕ) (e : Expr) (s : Stmt) → IsToken ls i → ExprNames ls e → St s → St (stmt.If i e s None)
  alone_names i e s t x y = subst St (stmt.rolls-If i e s None) (made (layer.If i e s None) (layer.If i e (s, y) None) refl (t, x))

  else_names : (i : ℕ) (e : Expr) (s r : Stmt) → IsToken ls i → ExprNames ls e → St s → St r → St (stmt.If i e s (Some r))
  else_names i e s r t x y z =
      subst St (stmt.rolls-If i e s (Some r)) (made (layer.If i e s (Some r)) (layer.If i e (s, y) (Some (r, z))) refl (t, x))

  case_names : (i : ℕ) (e : Expr) (cs : List Citem) → IsToken ls i → ExprNames ls e → All Ci cs → St (stmt.Case i e cs)
  case_names i e cs t x y =
      let all = together Ci cs y in
      subst St (stmt.rolls-Case i e cs) (made (layer.Case i e cs) (layer.Case i e all.all) (ap (λ cs. layer.Case i e cs) all.is) (t, x))

  for_names : (i name again : ℕ) (a b c : Expr) (s : Stmt) → IsToken ls i → IsName ls name → ExprNames ls a → ExprNames ls b → IsName ls again →
      ExprNames ls c → St s → St (stmt.For i name a b again c s)
  for_names i name again a b c s t n x y m z w =
      subst St (stmt.rolls-For i name a b again c s)
      (made (layer.For i name a b again c s) (layer.For i name a b again c (s, w)) refl (t, (n, x, y, m, z)))

  while_names : (i : ℕ) (e : Expr) (s : Stmt) → IsToken ls i → ExprNames ls e → St s → St (stmt.While i e s)
  while_names i e s t x y = subst St (stmt.rolls-While i e s) (made (layer.While i e s) (layer.While i e (s, y)) refl (t, x))

  repeat_names : (i : ℕ) (e : Expr) (s : Stmt) → IsToken ls i → ExprNames ls e → St s → St (stmt.Repeat i e s)
  repeat_names i e s t x y = subst St (stmt.rolls-Repeat i e s) (made (layer.Repeat i e s) (layer.Repeat i e (s, y)) refl (t, x))

  forever_names : (i : ℕ) (s : Stmt) → IsToken ls i → St s → St (stmt.Forever i s)
  forever_names i s t y = subst St (stmt.rolls-Forever i s) (made (layer.Forever i s) (layer.Forever i (s, y)) refl (t, tt))

  block_names : (i : ℕ) (scope : Option Scope) (ss : List Stmt) → IsToken ls i → IfSome scope (ScopeNames ls) → All St ss → St (stmt.Block i scope ss)
  block_names i scope ss t x y =
      let all = together St ss y in
      subst St (stmt.rolls-Block i scope ss)
      (made (layer.Block i scope ss) (layer.Block i scope all.all) (ap (λ ss. layer.Block i scope ss) all.is) (t, x))

  wait_names : (i : ℕ) (edge : Edge) (clock : ℕ) (s : Stmt) → IsToken ls i → IsName ls clock → St s → St (stmt.Wait i edge clock s)
  wait_names i edge clock s t n y =
      subst St (stmt.rolls-Wait i edge clock s) (made (layer.Wait i edge clock s) (layer.Wait i edge clock (s, y)) refl (t, n))

  enable_names : (i name : ℕ) (args : Option (List Expr)) → IsToken ls i → IsName ls name → IfSome args (All (ExprNames ls)) → St (stmt.Enable i name args)
  enable_names i name args t n x =
      subst St (stmt.rolls-Enable i name args) (made (layer.Enable i name args) (layer.Enable i name args) refl (t, (n, x)))

  disable_names : (i : ℕ) (path : List ℕ) → IsToken ls i → All (IsName ls) path → St (stmt.Disable i path)
  disable_names i path t x =
      subst St (stmt.rolls-Disable i path) (made (layer.Disable i path) (layer.Disable i path) refl (t, x))

  labels_names : (i : ℕ) (es : List Expr) (s : Stmt) → IsToken ls i → All (ExprNames ls) es → St s → Ci (citem.Labels i es s)
  labels_names i es s t x y =
      subst Ci (citem.rolls-Labels i es s)
      (every_made-Citem (HereCitem ls) (HereStmt ls) (layer.Labels i es s) (layer.Labels i es (s, y)) refl (t, x))

  default_names : (i : ℕ) (colon : Bool) (s : Stmt) → IsToken ls i → St s → Ci (citem.Default i colon s)
  default_names i colon s t y =
      subst Ci (citem.rolls-Default i colon s)
      (every_made-Citem (HereCitem ls) (HereStmt ls) (layer.Default i colon s) (layer.Default i colon (s, y)) refl t)

  path_names : {i j : ℕ} {path : List ℕ} → IsPath ls i j path → All (IsName ls) path
  path_names (IsPath.last_name {i = i} h) = All-cons (IsName ls) i [] h (All-nil (IsName ls))
  path_names (IsPath.more_names {i = i} {names = names} h d more) = All-cons (IsName ls) i names h (path_names more)

  maybe_args : {n i j : ℕ} {args : Option (List Expr)} → Maybe (IsArgs ls n) i j args → IfSome args (All (ExprNames ls))
  maybe_args Maybe.absent = tt
  maybe_args (Maybe.present a) = args_names ls a

  maybe_scope : {n i j : ℕ} {scope : Option Scope} → Maybe (IsScope ls n) i j scope → IfSome scope (ScopeNames ls)
  maybe_scope Maybe.absent = tt
  maybe_scope {n = n} (Maybe.present s) = scope_names n s

  module _ (names : List (List ℕ)) where
    mutual
      pub stmt_names : {n i j : ℕ} {dangling : Bool} {s : Stmt} → IsStmt ls names n dangling i j s → St s
      stmt_names (IsStmt.null h) = null_names _ (at_within ls _ _ h)
      stmt_names (IsStmt.blocking l q e c) = blocking_names _ _ _ (lvalue_begins ls l) (lvalue_names ls l) (level_names ls e)
      stmt_names (IsStmt.nonblocking l q e c) = nonblocking_names _ _ _ (lvalue_begins ls l) (lvalue_names ls l) (level_names ls e)
      stmt_names (IsStmt.if_alone h o e c s) = alone_names _ _ _ (at_within ls _ _ h) (level_names ls e) (stmt_names s)
      stmt_names (IsStmt.if_else h o e c s d r) = else_names _ _ _ _ (at_within ls _ _ h) (level_names ls e) (stmt_names s) (stmt_names r)
      stmt_names (IsStmt.case h o e c cs few d) = case_names _ _ _ (at_within ls _ _ h) (level_names ls e) (citems_names cs)
      stmt_names (IsStmt.for {i = i} {k = k} h o n q a c b d m r e f same s) =
          for_names i (i + 2) (k + 1) _ _ _ _ (at_within ls _ _ h) n (level_names ls a) (level_names ls b) m (level_names ls e) (stmt_names s)
      stmt_names (IsStmt.while h o e c s) = while_names _ _ _ (at_within ls _ _ h) (level_names ls e) (stmt_names s)
      stmt_names (IsStmt.repeat h o e c s) = repeat_names _ _ _ (at_within ls _ _ h) (level_names ls e) (stmt_names s)
      stmt_names (IsStmt.forever h s) = forever_names _ _ (at_within ls _ _ h) (stmt_names s)
      stmt_names (IsStmt.block h scope body e) = block_names _ _ _ (at_within ls _ _ h) (maybe_scope scope) (stmts_names body)
      stmt_names (IsStmt.wait {i = i} h o e n c s) = wait_names i _ (i + 3) _ (at_within ls _ _ h) n (stmt_names s)
      stmt_names (IsStmt.enable {i = i} h args c) = enable_names i i _ (name_within ls i h) h (maybe_args args)
      stmt_names (IsStmt.disable h path c) = disable_names _ _ (at_within ls _ _ h) (path_names path)

      pub stmts_names : {n i j : ℕ} {ss : List Stmt} → IsStmts ls names n i j ss → All St ss
      stmts_names IsStmts.no_stmt = All-nil St
      stmts_names (IsStmts.more_stmts {s = s} {ss = ss} h more) = All-cons St s ss (stmt_names h) (stmts_names more)

      pub citems_names : {n d i j : ℕ} {cs : List Citem} → IsCitems ls names n d i j cs → All Ci cs
      citems_names (IsCitems.last_citem {c = c} h) = All-cons Ci c [] (citem_names h) (All-nil Ci)
      citems_names (IsCitems.more_citems {c = c} {cs = cs} h more) = All-cons Ci c cs (citem_names h) (citems_names more)

      pub citem_names : {n d i j : ℕ} {c : Citem} → IsCitem ls names n d i j c → Ci c
      citem_names (IsCitem.labels es c s) = labels_names _ _ _ (exprs_begin ls es) (exprs_names ls es) (stmt_names s)
      citem_names (IsCitem.default h c s) = default_names _ _ _ (at_within ls _ _ h) (stmt_names s)
