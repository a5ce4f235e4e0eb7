-- What a token is where the reader of expressions takes it for something.
use Rattle.std.proofs.Common.{◌≡◌, ◌==◌, ℕ, suc, Option, Some, None, Bool, true, false, cond, refl, ap}
use Rattle.std.proofs.lemmas.Bool.{eqb-true}
use Rattle.vl_tree.specs.declared.terminals.Terminal.{Terminal}
use Rattle.vl_tree.specs.declared.terminals.Terminal.TheVariants as lex
use Rattle.vl_tree.specs.declared.operators.Sign.TheVariants as sign
use Rattle.vl_tree.specs.declared.operators.UnOp.{UnOp}
use Rattle.vl_tree.specs.declared.operators.BinOp.{BinOp}
use Rattle.vl_tree.specs.declared.exprs.Expr.{Expr}
use Rattle.vl_tree.specs.declared.exprs.Expr.TheViews.{outs-Index, outs-Part, outs-Up, outs-Down}
use Rattle.vl_tree.specs.declared.exprs.Select.TheVariants as select
use Rattle.vl_tree.specs.Places.{name_in}
use Rattle.vl_tree.specs.Operators.{unary, binary}
use Rattle.vl_expr.specs.declared.classes.Start.TheVariants as start
use Rattle.vl_expr.specs.declared.classes.Between.TheVariants as between
use Rattle.vl_expr.specs.Reading.{is_index, index_layer}
use Rattle.vl_expr.specs.Classes.{start_of, between_of, unary_of, of_layer, operator_of}

pub start_decimal : (o : Option Terminal) → start_of o ≡ start.Decimal → o ≡ Some lex.Decimal
start_decimal (Some lex.Decimal) e = refl
start_decimal _ e = cc

pub start_based : (o : Option Terminal) → start_of o ≡ start.Based → o ≡ Some lex.Based
start_based (Some lex.Based) e = refl
start_based _ e = cc

pub start_paren : (o : Option Terminal) → start_of o ≡ start.Paren → o ≡ Some lex.OpenParen
start_paren (Some lex.OpenParen) e = refl
start_paren _ e = cc

pub start_brace : (o : Option Terminal) → start_of o ≡ start.Brace → o ≡ Some lex.OpenBrace
start_brace (Some lex.OpenBrace) e = refl
start_brace _ e = cc

pub start_signed : (o : Option Terminal) → start_of o ≡ start.Sign sign.Signed → o ≡ Some lex.ToSigned
start_signed (Some lex.ToSigned) e = refl
start_signed _ e = cc

pub start_unsigned : (o : Option Terminal) → start_of o ≡ start.Sign sign.Unsigned → o ≡ Some lex.ToUnsigned
start_unsigned (Some lex.ToUnsigned) e = refl
start_unsigned _ e = cc

pub start_name : (o : Option Terminal) → start_of o ≡ start.Name → name_in o ≡ true
start_name (Some lex.Identifier) e = refl
start_name (Some lex.Import) e = refl
start_name (Some lex.Context) e = refl
start_name (Some lex.Void) e = refl
start_name (Some lex.Bit) e = refl
start_name (Some lex.Byte) e = refl
start_name (Some lex.Shortint) e = refl
start_name (Some lex.Int) e = refl
start_name (Some lex.Longint) e = refl
start_name _ e = cc

pub between_colon : (o : Option Terminal) → between_of o ≡ Some between.Colon → o ≡ Some lex.Colon
between_colon (Some lex.Colon) e = refl
between_colon _ e = cc

pub between_plus : (o : Option Terminal) → between_of o ≡ Some between.PlusColon → o ≡ Some lex.PlusColon
between_plus (Some lex.PlusColon) e = refl
between_plus _ e = cc

pub between_minus : (o : Option Terminal) → between_of o ≡ Some between.MinusColon → o ≡ Some lex.MinusColon
between_minus (Some lex.MinusColon) e = refl
between_minus _ e = cc

-- the token of an operator before an operand
pub record UnaryAt (o : Option Terminal) (op : UnOp) : Type 0 where
  pub token : Terminal
  pub is : o ≡ Some token
  pub stands_for : unary token ≡ Some op

pub unary_at : (o : Option Terminal) (op : UnOp) → unary_of o ≡ Some op → UnaryAt o op
unary_at None op e = cc
unary_at (Some x) op e = record { token = x; is = refl; stands_for = e }

-- the token of an operator between operands
pub record BinaryAt (o : Option Terminal) (l : ℕ) (op : BinOp) : Type 0 where
  pub token : Terminal
  pub is : o ≡ Some token
  pub stands_for : binary token ≡ Some (suc l, op)

of_layer_some : (l : ℕ) (b : Option (ℕ × BinOp)) (op : BinOp) → of_layer l b ≡ Some op → b ≡ Some (suc l, op)
of_layer_some l None op e = cc
of_layer_some l (Some (k, o)) op e = chosen (k == suc l) refl e
  where
    chosen : (t : Bool) → (k == suc l) ≡ t → cond t (Some o) None ≡ Some op → ◌≡◌ {A = Option (ℕ × BinOp)} (Some (k, o)) (Some (suc l, op))
    chosen true t is = let same : k ≡ suc l = eqb-true k (suc l) t in cc
    chosen false t is = cc

pub binary_at : (o : Option Terminal) (l : ℕ) (op : BinOp) → operator_of l o ≡ Some op → BinaryAt o l op
binary_at None l op e = cc
binary_at (Some x) l op e = record { token = x; is = refl; stands_for = of_layer_some l (binary x) op e }

pub index_is : (at : ℕ) (e : Expr) → is_index (select.Index at e) ≡ true
index_is at e = ap index_layer (outs-Index at e)

pub part_is : (at : ℕ) (a b : Expr) → is_index (select.Part at a b) ≡ false
part_is at a b = ap index_layer (outs-Part at a b)

pub up_is : (at : ℕ) (a b : Expr) → is_index (select.Up at a b) ≡ false
up_is at a b = ap index_layer (outs-Up at a b)

pub down_is : (at : ℕ) (a b : Expr) → is_index (select.Down at a b) ≡ false
down_is at a b = ap index_layer (outs-Down at a b)
