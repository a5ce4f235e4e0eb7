-- Expressions, selects and left sides (IEEE 1364-2005, A.8).
--
-- In each relation of the grammar ls are the tokens, and n is a depth that the part does not pass. The part stands at
-- the places from i up to but not including the last place, and is the tree behind it. Statements, expressions, left
-- sides, selects and pairs of parentheses of an expression are one deeper than what stands in them; nothing else counts.
use Rattle.std.specs.Prelude.{◌≡◌, ℕ, suc, ◌+◌, List, [], ◌∷◌, Option, Some, None, Bool, true, false, slice_get}
use Rattle.vl_tree.specs.declared.terminals.Terminal.{Terminal}
use Rattle.vl_tree.specs.declared.terminals.Terminal.TheVariants as lex
use Rattle.vl_tree.specs.declared.operators.UnOp.{UnOp}
use Rattle.vl_tree.specs.declared.operators.BinOp.{BinOp}
use Rattle.vl_tree.specs.declared.operators.Sign.TheVariants as sign
use Rattle.vl_tree.specs.declared.exprs.Expr.{Expr}
use Rattle.vl_tree.specs.declared.exprs.Expr.TheVariants as expr
use Rattle.vl_tree.specs.declared.exprs.Select.{Select}
use Rattle.vl_tree.specs.declared.exprs.Select.TheVariants as select
use Rattle.vl_tree.specs.declared.exprs.Lvalue.{Lvalue}
use Rattle.vl_tree.specs.declared.exprs.Lvalue.TheVariants as lvalue
use Rattle.vl_tree.specs.Places.{At, IsName}
use Rattle.vl_tree.specs.Operators.{unary, binary}

-- The second number is a level: 0 for an operand, 1 to 10 for the layers of operators, 11 for an expression.
mutual
  pub data IsLevel (ls : List Terminal) : ℕ → ℕ → ℕ → ℕ → Expr → Type 0 where
    -- expr = lor [ "?" expr ":" expr ]
    choice : {n i j k m : ℕ} {a b c : Expr} →
        IsLevel ls n 10 i j a → At ls j lex.Question → IsLevel ls n 11 (j + 1) k b →
        At ls k lex.Colon → IsLevel ls n 11 (k + 1) m c → IsLevel ls (suc n) 11 i m (expr.Choice i a b c)
    -- a binary operator of layer l + 1; operators of one layer group to the left
    binary_op : {n l i j k : ℕ} {x : Terminal} {op : BinOp} {a b : Expr} →
        IsLevel ls n (suc l) i j a → At ls j x → binary x ≡ Some (suc l, op) → IsLevel ls n l (j + 1) k b →
        IsLevel ls (suc n) (suc l) i k (expr.Binary i op a b)
    -- what stands on a level stands on the next one too
    tighter : {n l i j : ℕ} {e : Expr} → IsLevel ls n l i j e → IsLevel ls n (suc l) i j e
    -- operand = { unary } primary
    unary_op : {n i j : ℕ} {x : Terminal} {op : UnOp} {e : Expr} →
        At ls i x → unary x ≡ Some op → IsLevel ls n 0 (i + 1) j e → IsLevel ls (suc n) 0 i j (expr.Unary i op e)
    -- primary = [ DECIMAL ] BASED
    sized : {n i : ℕ} → At ls i lex.Decimal → At ls (i + 1) lex.Based →
        IsLevel ls (suc n) 0 i (i + 2) (expr.Based i (Some i) (i + 1))
    based : {n i : ℕ} → At ls i lex.Based → IsLevel ls (suc n) 0 i (i + 1) (expr.Based i None i)
    -- | DECIMAL
    decimal : {n i : ℕ} → At ls i lex.Decimal → IsLevel ls (suc n) 0 i (i + 1) (expr.Decimal i i)
    -- | ID { select }
    name : {n i j : ℕ} {ss : List Select} →
        IsName ls i → IsSelects ls n (i + 1) j ss → IsLevel ls (suc n) 0 i j (expr.Name i i ss)
    -- | ID "(" [ expr { "," expr } ] ")"
    call : {n i j : ℕ} {es : List Expr} →
        IsName ls i → IsArgs ls n (i + 1) j es → IsLevel ls (suc n) 0 i j (expr.Call i i es)
    -- | ( "$signed" | "$unsigned" ) "(" expr ")"
    to_signed : {n i j : ℕ} {e : Expr} →
        At ls i lex.ToSigned → At ls (i + 1) lex.OpenParen → IsLevel ls n 11 (i + 2) j e → At ls j lex.CloseParen →
        IsLevel ls (suc n) 0 i (j + 1) (expr.Sign i sign.Signed e)
    to_unsigned : {n i j : ℕ} {e : Expr} →
        At ls i lex.ToUnsigned → At ls (i + 1) lex.OpenParen → IsLevel ls n 11 (i + 2) j e → At ls j lex.CloseParen →
        IsLevel ls (suc n) 0 i (j + 1) (expr.Sign i sign.Unsigned e)
    -- | "(" expr ")", which makes no node but counts for the depth
    parens : {n i j : ℕ} {e : Expr} →
        At ls i lex.OpenParen → IsLevel ls n 11 (i + 1) j e → At ls j lex.CloseParen → IsLevel ls (suc n) 0 i (j + 1) e
    -- | "{" expr { "," expr } "}"
    concat : {n i j : ℕ} {es : List Expr} →
        At ls i lex.OpenBrace → IsExprs ls n (i + 1) j es → At ls j lex.CloseBrace →
        IsLevel ls (suc n) 0 i (j + 1) (expr.Concat i es)
    -- | "{" expr "{" expr { "," expr } "}" "}"
    replicate : {n i j k : ℕ} {e : Expr} {es : List Expr} →
        At ls i lex.OpenBrace → IsLevel ls n 11 (i + 1) j e → At ls j lex.OpenBrace →
        IsExprs ls n (j + 1) k es → At ls k lex.CloseBrace → At ls (k + 1) lex.CloseBrace →
        IsLevel ls (suc n) 0 i (k + 2) (expr.Replicate i e es)

  -- the arguments of a call or of a task's enable: "(" [ expr { "," expr } ] ")"
  pub data IsArgs (ls : List Terminal) : ℕ → ℕ → ℕ → List Expr → Type 0 where
    no_args : {n i : ℕ} → At ls i lex.OpenParen → At ls (i + 1) lex.CloseParen → IsArgs ls n i (i + 2) []
    some_args : {n i j : ℕ} {es : List Expr} →
        At ls i lex.OpenParen → IsExprs ls n (i + 1) j es → At ls j lex.CloseParen → IsArgs ls n i (j + 1) es

  -- expr { "," expr }
  pub data IsExprs (ls : List Terminal) : ℕ → ℕ → ℕ → List Expr → Type 0 where
    last_expr : {n i j : ℕ} {e : Expr} → IsLevel ls n 11 i j e → IsExprs ls n i j (e ∷ [])
    more_exprs : {n i j k : ℕ} {e : Expr} {es : List Expr} →
        IsLevel ls n 11 i j e → At ls j lex.Comma → IsExprs ls n (j + 1) k es → IsExprs ls n i k (e ∷ es)

  -- { select }: at most two, and the first of two is a plain index
  pub data IsSelects (ls : List Terminal) : ℕ → ℕ → ℕ → List Select → Type 0 where
    no_select : {n i : ℕ} → IsSelects ls n i i []
    one_select : {n i j : ℕ} {s : Select} → IsSelect ls n i j s → IsSelects ls n i j (s ∷ [])
    two_selects : {n i j k : ℕ} {e : Expr} {s : Select} →
        IsSelect ls n i j (select.Index i e) → IsSelect ls n j k s → IsSelects ls n i k (select.Index i e ∷ s ∷ [])

  -- select = "[" expr "]" | "[" expr ":" expr "]" | "[" expr "+:" expr "]" | "[" expr "-:" expr "]"
  pub data IsSelect (ls : List Terminal) : ℕ → ℕ → ℕ → Select → Type 0 where
    index : {n i j : ℕ} {e : Expr} →
        At ls i lex.OpenBracket → IsLevel ls n 11 (i + 1) j e → At ls j lex.CloseBracket →
        IsSelect ls (suc n) i (j + 1) (select.Index i e)
    part : {n i j k : ℕ} {a b : Expr} →
        At ls i lex.OpenBracket → IsLevel ls n 11 (i + 1) j a → At ls j lex.Colon →
        IsLevel ls n 11 (j + 1) k b → At ls k lex.CloseBracket → IsSelect ls (suc n) i (k + 1) (select.Part i a b)
    up : {n i j k : ℕ} {a b : Expr} →
        At ls i lex.OpenBracket → IsLevel ls n 11 (i + 1) j a → At ls j lex.PlusColon →
        IsLevel ls n 11 (j + 1) k b → At ls k lex.CloseBracket → IsSelect ls (suc n) i (k + 1) (select.Up i a b)
    down : {n i j k : ℕ} {a b : Expr} →
        At ls i lex.OpenBracket → IsLevel ls n 11 (i + 1) j a → At ls j lex.MinusColon →
        IsLevel ls n 11 (j + 1) k b → At ls k lex.CloseBracket → IsSelect ls (suc n) i (k + 1) (select.Down i a b)

-- expr
abbrev pub IsExpr : List Terminal → ℕ → ℕ → ℕ → Expr → Type 0
IsExpr ls n i j e = IsLevel ls n 11 i j e

-- the tokens before which an expression ends
abbrev pub ends_expr : Option Terminal → Bool
ends_expr (Some lex.CloseParen) = true
ends_expr (Some lex.CloseBracket) = true
ends_expr (Some lex.CloseBrace) = true
ends_expr (Some lex.Comma) = true
ends_expr (Some lex.Semicolon) = true
ends_expr (Some lex.Colon) = true
ends_expr (Some lex.OpenBrace) = true
ends_expr (Some lex.PlusColon) = true
ends_expr (Some lex.MinusColon) = true
ends_expr _ = false

-- an expression that ends before one of the tokens ) ] } , ; : { +: -:
pub record IsWholeExpr (ls : List Terminal) (n i j : ℕ) (e : Expr) : Type 0 where
  pub expr : IsExpr ls n i j e
  pub ends : ends_expr (slice_get ls j) ≡ true

mutual
  -- lvalue = ID { select } | "{" lvalue { "," lvalue } "}"
  pub data IsLvalue (ls : List Terminal) : ℕ → ℕ → ℕ → Lvalue → Type 0 where
    target : {n i j : ℕ} {ss : List Select} →
        IsName ls i → IsSelects ls n (i + 1) j ss → IsLvalue ls (suc n) i j (lvalue.Name i i ss)
    targets : {n i j : ℕ} {ts : List Lvalue} →
        At ls i lex.OpenBrace → IsLvalues ls n (i + 1) j ts → At ls j lex.CloseBrace →
        IsLvalue ls (suc n) i (j + 1) (lvalue.Concat i ts)

  -- lvalue { "," lvalue }
  pub data IsLvalues (ls : List Terminal) : ℕ → ℕ → ℕ → List Lvalue → Type 0 where
    last_target : {n i j : ℕ} {t : Lvalue} → IsLvalue ls n i j t → IsLvalues ls n i j (t ∷ [])
    more_targets : {n i j k : ℕ} {t : Lvalue} {ts : List Lvalue} →
        IsLvalue ls n i j t → At ls j lex.Comma → IsLvalues ls n (j + 1) k ts → IsLvalues ls n i k (t ∷ ts)
