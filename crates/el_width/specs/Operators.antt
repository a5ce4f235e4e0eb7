-- How operators treat their operands (IEEE 1364-2005, 5.4.1 and table 5-22).
use Rattle.std.specs.Prelude.{Bool, true, false}
use Rattle.vl_tree.specs.declared.operators.UnOp.{UnOp}
use Rattle.vl_tree.specs.declared.operators.UnOp.TheVariants as un
use Rattle.vl_tree.specs.declared.operators.BinOp.{BinOp}
use Rattle.vl_tree.specs.declared.operators.BinOp.TheVariants as bin
use Rattle.vl_tree.specs.declared.operators.Sign.{Sign}
use Rattle.vl_tree.specs.declared.operators.Sign.TheVariants as signs
use Rattle.el_design.specs.declared.expressions.UnOp as flat_un
use Rattle.el_design.specs.declared.expressions.UnOp.TheVariants as fun
use Rattle.el_design.specs.declared.expressions.BinOp as flat_bin
use Rattle.el_design.specs.declared.expressions.BinOp.TheVariants as fbin
use Rattle.el_width.specs.declared.operators.Manner.{Manner}
use Rattle.el_width.specs.declared.operators.Manner.TheVariants.{Together, Shifts, Compares, Judges}

-- together: `+ - * / % & | ^ ~^`; shifts: `<< >> <<< >>>`; compares: `< <= > >= == != === !==`; judges: `&& ||`
abbrev pub manner_of : BinOp → Manner
manner_of bin.Shl = Shifts
manner_of bin.Shr = Shifts
manner_of bin.Ashl = Shifts
manner_of bin.Ashr = Shifts
manner_of bin.Lt = Compares
manner_of bin.Le = Compares
manner_of bin.Gt = Compares
manner_of bin.Ge = Compares
manner_of bin.Eq = Compares
manner_of bin.Ne = Compares
manner_of bin.CaseEq = Compares
manner_of bin.CaseNe = Compares
manner_of bin.LogAnd = Judges
manner_of bin.LogOr = Judges
manner_of op = Together

-- `+ - ~` have their operand's length; `!` and the reductions give one bit
abbrev pub keeps_length : UnOp → Bool
keeps_length un.Plus = true
keeps_length un.Minus = true
keeps_length un.Inv = true
keeps_length op = false

abbrev pub is_signed_word : Sign → Bool
is_signed_word signs.Signed = true
is_signed_word signs.Unsigned = false

-- ---- the same operators in the flat design

abbrev pub unary_of : UnOp → flat_un.UnOp
unary_of un.Plus = fun.Plus
unary_of un.Minus = fun.Minus
unary_of un.Not = fun.Not
unary_of un.Inv = fun.Inv
unary_of un.And = fun.And
unary_of un.Nand = fun.Nand
unary_of un.Or = fun.Or
unary_of un.Nor = fun.Nor
unary_of un.Xor = fun.Xor
unary_of un.Xnor = fun.Xnor

abbrev pub binary_of : BinOp → flat_bin.BinOp
binary_of bin.Mul = fbin.Mul
binary_of bin.Div = fbin.Div
binary_of bin.Rem = fbin.Rem
binary_of bin.Add = fbin.Add
binary_of bin.Sub = fbin.Sub
binary_of bin.Shl = fbin.Shl
binary_of bin.Shr = fbin.Shr
binary_of bin.Ashl = fbin.Ashl
binary_of bin.Ashr = fbin.Ashr
binary_of bin.Lt = fbin.Lt
binary_of bin.Le = fbin.Le
binary_of bin.Gt = fbin.Gt
binary_of bin.Ge = fbin.Ge
binary_of bin.Eq = fbin.Eq
binary_of bin.Ne = fbin.Ne
binary_of bin.CaseEq = fbin.CaseEq
binary_of bin.CaseNe = fbin.CaseNe
binary_of bin.And = fbin.And
binary_of bin.Xor = fbin.Xor
binary_of bin.Xnor = fbin.Xnor
binary_of bin.Or = fbin.Or
binary_of bin.LogAnd = fbin.LogAnd
binary_of bin.LogOr = fbin.LogOr

abbrev pub divides : flat_bin.BinOp → Bool
divides fbin.Div = true
divides fbin.Rem = true
divides op = false

-- shifts take an amount of any width, and `&& ||` operands of any
abbrev pub takes_one_width : flat_bin.BinOp → Bool
takes_one_width fbin.Shl = false
takes_one_width fbin.Shr = false
takes_one_width fbin.Ashl = false
takes_one_width fbin.Ashr = false
takes_one_width fbin.LogAnd = false
takes_one_width fbin.LogOr = false
takes_one_width op = true
