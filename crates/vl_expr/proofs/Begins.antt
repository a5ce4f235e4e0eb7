-- The tokens that an expression begins with.
use Rattle.std.proofs.Common.{◌≡◌, ◌≤◌, ◌<◌, ℕ, List, Option, Some, None, Bool, true, false, slice_get, refl, arith}
use Rattle.std.proofs.lemmas.Bool.{both_ways}
use Rattle.vl_tree.specs.declared.terminals.Terminal.{Terminal}
use Rattle.vl_tree.specs.declared.terminals.Terminal.TheVariants as lex
use Rattle.vl_tree.specs.declared.operators.UnOp.{UnOp}
use Rattle.vl_tree.specs.declared.exprs.Expr.{Expr}
use Rattle.vl_tree.specs.declared.exprs.Select.{Select}
use Rattle.vl_tree.specs.Places.{At, name_in}
use Rattle.vl_tree.specs.Operators.{unary}
use Rattle.vl_tree.specs.Expressions.{IsLevel, IsExprs, IsArgs, IsSelects, IsSelect}
use Rattle.vl_expr.specs.declared.classes.Start.{Start}
use Rattle.vl_expr.specs.declared.classes.Start.TheVariants as start
use Rattle.vl_expr.specs.Classes.{is_in, start_of, unary_of}

-- whether an expression can begin with a token
abbrev pub begins : Option Terminal → Bool
begins o = by_operator (unary_of o)
  where
    by_start : Start → Bool
    by_start start.Nothing = false
    by_start _ = true

    by_operator : Option UnOp → Bool
    by_operator (Some op) = true
    by_operator None = by_start (start_of o)

-- an identifier is nothing else
pub record Named (o : Option Terminal) : Type 0 where
  pub no_operator : unary_of o ≡ None
  pub start : start_of o ≡ start.Name

pub named : (o : Option Terminal) → name_in o ≡ true → Named o
named (Some lex.Identifier) e = record { no_operator = refl; start = refl }
named (Some lex.Import) e = record { no_operator = refl; start = refl }
named (Some lex.Context) e = record { no_operator = refl; start = refl }
named (Some lex.Void) e = record { no_operator = refl; start = refl }
named (Some lex.Bit) e = record { no_operator = refl; start = refl }
named (Some lex.Byte) e = record { no_operator = refl; start = refl }
named (Some lex.Shortint) e = record { no_operator = refl; start = refl }
named (Some lex.Int) e = record { no_operator = refl; start = refl }
named (Some lex.Longint) e = record { no_operator = refl; start = refl }
named _ e = absurd (both_ways _ refl e)

name_begins : (o : Option Terminal) → name_in o ≡ true → begins o ≡ true
name_begins o e = let n = named o e in rw (n.no_operator, n.start) refl

operator_begins : (x : Terminal) (op : UnOp) → unary x ≡ Some op → begins (Some x) ≡ true
operator_begins x op e = rw e refl

at_begins : {o : Option Terminal} {x : Terminal} → o ≡ Some x → begins (Some x) ≡ true → begins o ≡ true
at_begins e h = rw e h

pub level_begins : {ls : List Terminal} {n l i j : ℕ} {e : Expr} → IsLevel ls n l i j e → begins (slice_get ls i) ≡ true
level_begins (IsLevel.choice a b c d f) = level_begins a
level_begins (IsLevel.binary_op a b c d) = level_begins a
level_begins (IsLevel.tighter a) = level_begins a
level_begins (IsLevel.unary_op a b c) = at_begins a (operator_begins _ _ b)
level_begins (IsLevel.sized a b) = at_begins a refl
level_begins (IsLevel.based a) = at_begins a refl
level_begins (IsLevel.decimal a) = at_begins a refl
level_begins (IsLevel.name a b) = name_begins _ a
level_begins (IsLevel.call a b) = name_begins _ a
level_begins (IsLevel.to_signed a b c d) = at_begins a refl
level_begins (IsLevel.to_unsigned a b c d) = at_begins a refl
level_begins (IsLevel.parens a b c) = at_begins a refl
level_begins (IsLevel.concat a b c) = at_begins a refl
level_begins (IsLevel.replicate a b c d f g) = at_begins a refl

pub exprs_begin : {ls : List Terminal} {n i j : ℕ} {es : List Expr} → IsExprs ls n i j es → begins (slice_get ls i) ≡ true
exprs_begin (IsExprs.last_expr a) = level_begins a
exprs_begin (IsExprs.more_exprs a b c) = level_begins a

pub args_open : {ls : List Terminal} {n i j : ℕ} {es : List Expr} → IsArgs ls n i j es → At ls i lex.OpenParen
args_open (IsArgs.no_args a b) = a
args_open (IsArgs.some_args a b c) = a

pub select_opens : {ls : List Terminal} {n i j : ℕ} {s : Select} → IsSelect ls n i j s → At ls i lex.OpenBracket
select_opens (IsSelect.index a b c) = a
select_opens (IsSelect.part a b c d f) = a
select_opens (IsSelect.up a b c d f) = a
select_opens (IsSelect.down a b c d f) = a

-- a list of expressions doesn't begin with a closing parenthesis
pub no_close : (o : Option Terminal) → begins o ≡ true → is_in o lex.CloseParen ≡ false
no_close None e = refl
no_close (Some lex.CloseParen) e = absurd (both_ways _ refl e)
no_close (Some _) e = refl

mutual
  -- a part ends behind where it begins
  pub level_moves : {ls : List Terminal} {n l i j : ℕ} {e : Expr} → IsLevel ls n l i j e → i < j
  level_moves (IsLevel.choice a b c d f) = let p = level_moves a in let q = level_moves c in let r = level_moves f in omega arith
  level_moves (IsLevel.binary_op a b c d) = let p = level_moves a in let q = level_moves d in omega arith
  level_moves (IsLevel.tighter a) = level_moves a
  level_moves (IsLevel.unary_op a b c) = let p = level_moves c in omega arith
  level_moves (IsLevel.sized a b) = omega arith
  level_moves (IsLevel.based a) = omega arith
  level_moves (IsLevel.decimal a) = omega arith
  level_moves (IsLevel.name a b) = let p = selects_move b in omega arith
  level_moves (IsLevel.call a b) = let p = args_move b in omega arith
  level_moves (IsLevel.to_signed a b c d) = let p = level_moves c in omega arith
  level_moves (IsLevel.to_unsigned a b c d) = let p = level_moves c in omega arith
  level_moves (IsLevel.parens a b c) = let p = level_moves b in omega arith
  level_moves (IsLevel.concat a b c) = let p = exprs_move b in omega arith
  level_moves (IsLevel.replicate a b c d f g) = let p = level_moves b in let q = exprs_move d in omega arith

  pub args_move : {ls : List Terminal} {n i j : ℕ} {es : List Expr} → IsArgs ls n i j es → i < j
  args_move (IsArgs.no_args a b) = omega arith
  args_move (IsArgs.some_args a b c) = let p = exprs_move b in omega arith

  pub exprs_move : {ls : List Terminal} {n i j : ℕ} {es : List Expr} → IsExprs ls n i j es → i < j
  exprs_move (IsExprs.last_expr a) = level_moves a
  exprs_move (IsExprs.more_exprs a b c) = let p = level_moves a in let q = exprs_move c in omega arith

  pub selects_move : {ls : List Terminal} {n i j : ℕ} {ss : List Select} → IsSelects ls n i j ss → i ≤ j
  selects_move IsSelects.no_select = omega arith
  selects_move (IsSelects.one_select a) = let p = select_moves a in omega arith
  selects_move (IsSelects.two_selects a b) = let p = select_moves a in let q = select_moves b in omega arith

  pub select_moves : {ls : List Terminal} {n i j : ℕ} {s : Select} → IsSelect ls n i j s → i < j
  select_moves (IsSelect.index a b c) = let p = level_moves b in omega arith
  select_moves (IsSelect.part a b c d f) = let p = level_moves b in let q = level_moves d in omega arith
  select_moves (IsSelect.up a b c d f) = let p = level_moves b in let q = level_moves d in omega arith
  select_moves (IsSelect.down a b c d f) = let p = level_moves b in let q = level_moves d in omega arith
