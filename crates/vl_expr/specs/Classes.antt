-- What single tokens are to the reader of expressions. It is this project's own.
use Rattle.std.specs.Prelude.{◌==◌, ℕ, suc, List, Option, Some, None, Bool, false, slice_get, if◌then◌else◌}
use denote.Enum.Bare.{sameb}
use Rattle.vl_tree.specs.contracts.terminals.Terminal.{the_type}
use Rattle.vl_tree.specs.declared.terminals.Terminal.{Terminal}
use Rattle.vl_tree.specs.declared.terminals.Terminal.TheVariants as lex
use Rattle.vl_tree.specs.declared.operators.Sign.TheVariants as sign
use Rattle.vl_tree.specs.declared.operators.UnOp.{UnOp}
use Rattle.vl_tree.specs.declared.operators.BinOp.{BinOp}
use Rattle.vl_tree.specs.Operators.{unary, binary}
use Rattle.vl_tree.specs.Places.{is_name}
use Rattle.vl_expr.specs.declared.classes.Start.{Start}
use Rattle.vl_expr.specs.declared.classes.Start.TheVariants as start
use Rattle.vl_expr.specs.declared.classes.Between.{Between}
use Rattle.vl_expr.specs.declared.classes.Between.TheVariants as between

-- whether the token at a place is this
abbrev pub is_in : Option Terminal → Terminal → Bool
is_in None x = false
is_in (Some l) x = sameb the_type l x

abbrev pub is_at : List Terminal → ℕ → Terminal → Bool
is_at ls i x = is_in (slice_get ls i) x

abbrev pub unary_of : Option Terminal → Option UnOp
unary_of None = None
unary_of (Some x) = unary x

-- what a token begins as the first of a primary
abbrev pub start_of : Option Terminal → Start
start_of None = start.Nothing
start_of (Some lex.Decimal) = start.Decimal
start_of (Some lex.Based) = start.Based
start_of (Some lex.ToSigned) = start.Sign sign.Signed
start_of (Some lex.ToUnsigned) = start.Sign sign.Unsigned
start_of (Some lex.OpenParen) = start.Paren
start_of (Some lex.OpenBrace) = start.Brace
start_of (Some x) = if is_name x then start.Name else start.Nothing

abbrev pub of_layer : ℕ → Option (ℕ × BinOp) → Option BinOp
of_layer l None = None
of_layer l (Some b) = if b.0 == suc l then Some b.1 else None

-- the operator that a token is between operands of layer l; it makes an expression of layer l + 1
abbrev pub operator_of : ℕ → Option Terminal → Option BinOp
operator_of l None = None
operator_of l (Some x) = of_layer l (binary x)

-- how a select goes on behind its first expression, if not with `]`
abbrev pub between_of : Option Terminal → Option Between
between_of (Some lex.Colon) = Some between.Colon
between_of (Some lex.PlusColon) = Some between.PlusColon
between_of (Some lex.MinusColon) = Some between.MinusColon
between_of _ = None
