-- What may follow an expression of a level without going on with it.
use Rattle.std.proofs.Common.{◌≡◌, ◌≤◌, ◌<◌, ℕ, zero, suc, Option, Some, None, Bool, true, false, nat_le, refl, sym, ◌∙◌, ap, lit<, arith}
use Rattle.std.proofs.lemmas.Bool.{ne_eqb, eq-eqb, leb-true, both_ways}
use Rattle.vl_tree.specs.declared.terminals.Terminal.{Terminal}
use Rattle.vl_tree.specs.declared.terminals.Terminal.TheVariants as lex
use Rattle.vl_tree.specs.declared.operators.BinOp.{BinOp}
use Rattle.vl_tree.specs.Operators.{binary}
use Rattle.vl_tree.specs.Expressions.{ends_expr}
use Rattle.vl_expr.specs.Classes.{is_in, of_layer, operator_of}

-- the level of a token that is no binary operator
abbrev pub rank_other : Terminal → ℕ
rank_other lex.OpenBracket = 0
rank_other lex.OpenParen = 0
rank_other lex.Based = 0
rank_other lex.Question = 11
rank_other _ = 12

abbrev pub rank_by : Terminal → Option (ℕ × BinOp) → ℕ
rank_by x None = rank_other x
rank_by x (Some b) = b.0

-- the least level on which a token goes on with an expression, or 12
abbrev pub rank : Option Terminal → ℕ
rank None = 12
rank (Some x) = rank_by x (binary x)

-- a token doesn't go on with an expression of this level
pub record Stops (l : ℕ) (o : Option Terminal) : Type 0 where
  pub above : l < rank o

pub lower : (l : ℕ) (o : Option Terminal) → Stops (suc l) o → Stops l o
lower l o s = let h = s.above in record { above = omega arith }

pub zero_stops : (l : ℕ) (o : Option Terminal) → Stops l o → Stops zero o
zero_stops l o s = let h = s.above in record { above = omega arith }

pub rank_binary : (x : Terminal) (k : ℕ) (op : BinOp) → binary x ≡ Some (k, op) → rank (Some x) ≡ k
rank_binary x k op e = ap (rank_by x) e

in_first_ten : Option (ℕ × BinOp) → Bool
in_first_ten None = true
in_first_ten (Some b) = nat_le b.0 10

all_in : (x : Terminal) → in_first_ten (binary x) ≡ true
unfolding in_first_ten
all_in lex.Star = refl
all_in _ = refl

-- the layer of an operator is one of the first ten
pub binary_within : (x : Terminal) (k : ℕ) (op : BinOp) → binary x ≡ Some (k, op) → k ≤ 10
unfolding in_first_ten
binary_within x k op e = leb-true k 10 (ap in_first_ten (sym e) ∙ all_in x)

-- no operator of layer l + 1, where none of a layer up to it may stand
pub no_operator : (l : ℕ) (o : Option Terminal) → Stops (suc l) o → operator_of l o ≡ None
no_operator l None s = refl
no_operator l (Some x) s = none (binary x) s.above
  where
    none : (b : Option (ℕ × BinOp)) → suc l < rank_by x b → of_layer l b ≡ None
    none None h = refl
    none (Some (k, op)) h = rw (ne_eqb k (suc l) (λ e. omega arith)) refl

-- the operator of layer l + 1 that a token is
pub operator_there : (l : ℕ) (x : Terminal) (op : BinOp) → binary x ≡ Some (suc l, op) → operator_of l (Some x) ≡ Some op
operator_there l x op e = rw e (rw (eq-eqb (suc l) (suc l) refl) refl)

-- a token that stops an operand is none that goes on with one
pub no_bracket : (o : Option Terminal) → Stops zero o → is_in o lex.OpenBracket ≡ false
no_bracket None s = refl
no_bracket (Some lex.OpenBracket) s = let h = s.above in absurd (omega arith)
no_bracket (Some _) s = refl

pub no_paren : (o : Option Terminal) → Stops zero o → is_in o lex.OpenParen ≡ false
no_paren None s = refl
no_paren (Some lex.OpenParen) s = let h = s.above in absurd (omega arith)
no_paren (Some _) s = refl

pub no_base : (o : Option Terminal) → Stops zero o → is_in o lex.Based ≡ false
no_base None s = refl
no_base (Some lex.Based) s = let h = s.above in absurd (omega arith)
no_base (Some _) s = refl

pub no_question : (o : Option Terminal) → Stops 11 o → is_in o lex.Question ≡ false
no_question None s = refl
no_question (Some lex.Question) s = let h = s.above in absurd (omega arith)
no_question (Some _) s = refl

-- the tokens before which a whole expression ends stop every level
pub ends_stops : (o : Option Terminal) → ends_expr o ≡ true → Stops 11 o
ends_stops (Some lex.CloseParen) e = record { above = lit< tt }
ends_stops (Some lex.CloseBracket) e = record { above = lit< tt }
ends_stops (Some lex.CloseBrace) e = record { above = lit< tt }
ends_stops (Some lex.Comma) e = record { above = lit< tt }
ends_stops (Some lex.Semicolon) e = record { above = lit< tt }
ends_stops (Some lex.Colon) e = record { above = lit< tt }
ends_stops (Some lex.OpenBrace) e = record { above = lit< tt }
ends_stops (Some lex.PlusColon) e = record { above = lit< tt }
ends_stops (Some lex.MinusColon) e = record { above = lit< tt }
ends_stops _ e = absurd (both_ways _ refl e)

-- a list of expressions is over before a token
pub record Closes (o : Option Terminal) : Type 0 where
  pub stops : Stops 11 o
  pub comma : is_in o lex.Comma ≡ false
  pub brace : is_in o lex.OpenBrace ≡ false
