-- Statements (IEEE 1364-2005, A.6).
use Rattle.std.specs.Prelude.{◌≡◌, ◌≤◌, ℕ, suc, ◌+◌, List, [], ◌∷◌, Option, Some, None, Bool, true, false, slice_get}
use Rattle.vl_tree.specs.declared.terminals.Terminal.{Terminal}
use Rattle.vl_tree.specs.declared.terminals.Terminal.TheVariants as lex
use Rattle.vl_tree.specs.declared.exprs.Expr.{Expr}
use Rattle.vl_tree.specs.declared.exprs.Lvalue.{Lvalue}
use Rattle.vl_tree.specs.declared.routines.Local.{Local}
use Rattle.vl_tree.specs.declared.statements.Stmt.{Stmt}
use Rattle.vl_tree.specs.declared.statements.Stmt.TheVariants as stmt
use Rattle.vl_tree.specs.declared.statements.Citem.{Citem}
use Rattle.vl_tree.specs.declared.statements.Citem.TheVariants as citem
use Rattle.vl_tree.specs.declared.statements.Scope.{Scope}
use Rattle.vl_tree.specs.declared.statements.Edge.{Edge}
use Rattle.vl_tree.specs.declared.statements.Edge.TheVariants as edge
use Rattle.vl_tree.specs.Places.{At, IsName}
use Rattle.vl_tree.specs.Lists.{Many, Maybe, Flag}
use Rattle.vl_tree.specs.Expressions.{IsExpr, IsExprs, IsArgs, IsLvalue}
use Rattle.vl_tree.specs.Declarations.{IsLocal}

-- names joined by dots: ID { "." ID }
pub data IsPath (ls : List Terminal) : ℕ → ℕ → List ℕ → Type 0 where
  last_name : {i : ℕ} → IsName ls i → IsPath ls i (i + 1) (i ∷ [])
  more_names : {i j : ℕ} {names : List ℕ} →
      IsName ls i → At ls (i + 1) lex.Dot → IsPath ls (i + 2) j names → IsPath ls i j (i ∷ names)

-- ":" ID { local }
pub data IsScope (ls : List Terminal) (n : ℕ) : ℕ → ℕ → Scope → Type 0 where
  scope : {i j : ℕ} {locals : List Local} →
      At ls i lex.Colon → IsName ls (i + 1) → Many (IsLocal ls n) (i + 2) j locals →
      IsScope ls n i j (record { at = i; name = i + 1; locals = locals })

-- "posedge" | "negedge"
pub data IsEdge (ls : List Terminal) : ℕ → ℕ → Edge → Type 0 where
  posedge : {i : ℕ} → At ls i lex.Posedge → IsEdge ls i (i + 1) edge.Posedge
  negedge : {i : ℕ} → At ls i lex.Negedge → IsEdge ls i (i + 1) edge.Negedge

-- In these relations names are the spellings of the tokens. The truth value of a statement says whether it ends in an
-- `if` without `else`. The number of case items is that of the defaults among them.
mutual
  pub data IsStmt (ls : List Terminal) (names : List (List ℕ)) : ℕ → Bool → ℕ → ℕ → Stmt → Type 0 where
    -- ";"
    null : {n i : ℕ} → At ls i lex.Semicolon → IsStmt ls names (suc n) false i (i + 1) (stmt.Null i)
    -- lvalue "=" expr ";"
    blocking : {n i j k : ℕ} {t : Lvalue} {e : Expr} →
        IsLvalue ls n i j t → At ls j lex.Equals → IsExpr ls n (j + 1) k e → At ls k lex.Semicolon →
        IsStmt ls names (suc n) false i (k + 1) (stmt.Blocking i t e)
    -- lvalue "<=" expr ";"
    nonblocking : {n i j k : ℕ} {t : Lvalue} {e : Expr} →
        IsLvalue ls n i j t → At ls j lex.LessEqual → IsExpr ls n (j + 1) k e → At ls k lex.Semicolon →
        IsStmt ls names (suc n) false i (k + 1) (stmt.Nonblocking i t e)
    -- "if" "(" expr ")" stmt
    if_alone : {n i j k : ℕ} {dangling : Bool} {e : Expr} {s : Stmt} →
        At ls i lex.If → At ls (i + 1) lex.OpenParen → IsExpr ls n (i + 2) j e → At ls j lex.CloseParen →
        IsStmt ls names n dangling (j + 1) k s → IsStmt ls names (suc n) true i k (stmt.If i e s None)
    -- "if" "(" expr ")" stmt "else" stmt; an else goes with the nearest if, so the first statement ends in no other
    if_else : {n i j k m : ℕ} {dangling : Bool} {e : Expr} {s t : Stmt} →
        At ls i lex.If → At ls (i + 1) lex.OpenParen → IsExpr ls n (i + 2) j e → At ls j lex.CloseParen →
        IsStmt ls names n false (j + 1) k s → At ls k lex.Else → IsStmt ls names n dangling (k + 1) m t →
        IsStmt ls names (suc n) dangling i m (stmt.If i e s (Some t))
    -- "case" "(" expr ")" citem { citem } "endcase"; at most one default
    case : {n i j k defaults : ℕ} {e : Expr} {cs : List Citem} →
        At ls i lex.Case → At ls (i + 1) lex.OpenParen → IsExpr ls n (i + 2) j e → At ls j lex.CloseParen →
        IsCitems ls names n defaults (j + 1) k cs → defaults ≤ 1 → At ls k lex.Endcase →
        IsStmt ls names (suc n) false i (k + 1) (stmt.Case i e cs)
    -- "for" "(" ID "=" expr ";" expr ";" ID "=" expr ")" stmt; both names are the same
    for : {n i j k m p : ℕ} {dangling : Bool} {a b c : Expr} {s : Stmt} →
        At ls i lex.For → At ls (i + 1) lex.OpenParen →
        IsName ls (i + 2) → At ls (i + 3) lex.Equals → IsExpr ls n (i + 4) j a → At ls j lex.Semicolon →
        IsExpr ls n (j + 1) k b → At ls k lex.Semicolon →
        IsName ls (k + 1) → At ls (k + 2) lex.Equals → IsExpr ls n (k + 3) m c → At ls m lex.CloseParen →
        slice_get names (i + 2) ≡ slice_get names (k + 1) → IsStmt ls names n dangling (m + 1) p s →
        IsStmt ls names (suc n) dangling i p (stmt.For i (i + 2) a b (k + 1) c s)
    -- "while" "(" expr ")" stmt
    while : {n i j k : ℕ} {dangling : Bool} {e : Expr} {s : Stmt} →
        At ls i lex.While → At ls (i + 1) lex.OpenParen → IsExpr ls n (i + 2) j e → At ls j lex.CloseParen →
        IsStmt ls names n dangling (j + 1) k s → IsStmt ls names (suc n) dangling i k (stmt.While i e s)
    -- "repeat" "(" expr ")" stmt
    repeat : {n i j k : ℕ} {dangling : Bool} {e : Expr} {s : Stmt} →
        At ls i lex.Repeat → At ls (i + 1) lex.OpenParen → IsExpr ls n (i + 2) j e → At ls j lex.CloseParen →
        IsStmt ls names n dangling (j + 1) k s → IsStmt ls names (suc n) dangling i k (stmt.Repeat i e s)
    -- "forever" stmt
    forever : {n i j : ℕ} {dangling : Bool} {s : Stmt} →
        At ls i lex.Forever → IsStmt ls names n dangling (i + 1) j s → IsStmt ls names (suc n) dangling i j (stmt.Forever i s)
    -- "begin" [ ":" ID { local } ] { stmt } "end"
    block : {n i j k : ℕ} {scope : Option Scope} {body : List Stmt} →
        At ls i lex.Begin → Maybe (IsScope ls n) (i + 1) j scope → IsStmts ls names n j k body → At ls k lex.End →
        IsStmt ls names (suc n) false i (k + 1) (stmt.Block i scope body)
    -- "@" "(" ( "posedge" | "negedge" ) ID ")" stmt
    wait : {n i j : ℕ} {dangling : Bool} {edge : Edge} {s : Stmt} →
        At ls i lex.AtSign → At ls (i + 1) lex.OpenParen → IsEdge ls (i + 2) (i + 3) edge → IsName ls (i + 3) →
        At ls (i + 4) lex.CloseParen → IsStmt ls names n dangling (i + 5) j s →
        IsStmt ls names (suc n) dangling i j (stmt.Wait i edge (i + 3) s)
    -- ID [ "(" [ expr { "," expr } ] ")" ] ";"
    enable : {n i j : ℕ} {args : Option (List Expr)} →
        IsName ls i → Maybe (IsArgs ls n) (i + 1) j args → At ls j lex.Semicolon →
        IsStmt ls names (suc n) false i (j + 1) (stmt.Enable i i args)
    -- "disable" ID { "." ID } ";"
    disable : {n i j : ℕ} {path : List ℕ} →
        At ls i lex.Disable → IsPath ls (i + 1) j path → At ls j lex.Semicolon →
        IsStmt ls names (suc n) false i (j + 1) (stmt.Disable i path)

  -- { stmt }
  pub data IsStmts (ls : List Terminal) (names : List (List ℕ)) : ℕ → ℕ → ℕ → List Stmt → Type 0 where
    no_stmt : {n i : ℕ} → IsStmts ls names n i i []
    more_stmts : {n i j k : ℕ} {dangling : Bool} {s : Stmt} {ss : List Stmt} →
        IsStmt ls names n dangling i j s → IsStmts ls names n j k ss → IsStmts ls names n i k (s ∷ ss)

  -- citem { citem }
  pub data IsCitems (ls : List Terminal) (names : List (List ℕ)) : ℕ → ℕ → ℕ → ℕ → List Citem → Type 0 where
    last_citem : {n d i j : ℕ} {c : Citem} → IsCitem ls names n d i j c → IsCitems ls names n d i j (c ∷ [])
    more_citems : {n d m i j k : ℕ} {c : Citem} {cs : List Citem} →
        IsCitem ls names n d i j c → IsCitems ls names n m j k cs → IsCitems ls names n (d + m) i k (c ∷ cs)

  -- citem = expr { "," expr } ":" stmt | "default" [ ":" ] stmt
  pub data IsCitem (ls : List Terminal) (names : List (List ℕ)) : ℕ → ℕ → ℕ → ℕ → Citem → Type 0 where
    labels : {n i j k : ℕ} {dangling : Bool} {es : List Expr} {s : Stmt} →
        IsExprs ls n i j es → At ls j lex.Colon → IsStmt ls names n dangling (j + 1) k s →
        IsCitem ls names n 0 i k (citem.Labels i es s)
    default : {n i j k : ℕ} {dangling colon : Bool} {s : Stmt} →
        At ls i lex.Default → Flag ls lex.Colon (i + 1) j colon → IsStmt ls names n dangling j k s →
        IsCitem ls names n 1 i k (citem.Default i colon s)
