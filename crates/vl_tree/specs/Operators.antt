-- Operators and their layers (IEEE 1364-2005, table 5-4).
use Rattle.std.specs.Prelude.{ℕ, Option, Some, None}
use Rattle.vl_tree.specs.declared.terminals.Terminal.{Terminal}
use Rattle.vl_tree.specs.declared.terminals.Terminal.TheVariants as lex
use Rattle.vl_tree.specs.declared.operators.UnOp.{UnOp}
use Rattle.vl_tree.specs.declared.operators.UnOp.TheVariants as un
use Rattle.vl_tree.specs.declared.operators.BinOp.{BinOp}
use Rattle.vl_tree.specs.declared.operators.BinOp.TheVariants as bin

-- the operator that a token is before an operand
abbrev pub unary : Terminal → Option UnOp
unary lex.Plus = Some un.Plus
unary lex.Minus = Some un.Minus
unary lex.Bang = Some un.Not
unary lex.Tilde = Some un.Inv
unary lex.Ampersand = Some un.And
unary lex.TildeAmpersand = Some un.Nand
unary lex.Bar = Some un.Or
unary lex.TildeBar = Some un.Nor
unary lex.Caret = Some un.Xor
unary lex.TildeCaret = Some un.Xnor
unary _ = None

-- the operator that a token is between operands, and its layer: 1 is the tightest
abbrev pub binary : Terminal → Option (ℕ × BinOp)
binary lex.Star = Some (1, bin.Mul)
binary lex.Slash = Some (1, bin.Div)
binary lex.Percent = Some (1, bin.Rem)
binary lex.Plus = Some (2, bin.Add)
binary lex.Minus = Some (2, bin.Sub)
binary lex.ShiftLeft = Some (3, bin.Shl)
binary lex.ShiftRight = Some (3, bin.Shr)
binary lex.ArithmeticLeft = Some (3, bin.Ashl)
binary lex.ArithmeticRight = Some (3, bin.Ashr)
binary lex.Less = Some (4, bin.Lt)
binary lex.LessEqual = Some (4, bin.Le)
binary lex.Greater = Some (4, bin.Gt)
binary lex.GreaterEqual = Some (4, bin.Ge)
binary lex.Equal = Some (5, bin.Eq)
binary lex.NotEqual = Some (5, bin.Ne)
binary lex.CaseEqual = Some (5, bin.CaseEq)
binary lex.CaseNotEqual = Some (5, bin.CaseNe)
binary lex.Ampersand = Some (6, bin.And)
binary lex.Caret = Some (7, bin.Xor)
binary lex.TildeCaret = Some (7, bin.Xnor)
binary lex.Bar = Some (8, bin.Or)
binary lex.DoubleAmpersand = Some (9, bin.LogAnd)
binary lex.DoubleBar = Some (10, bin.LogOr)
binary _ = None
