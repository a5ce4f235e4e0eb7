-- Each operator once, with the value that the standard gives, or that follows from its words. The rows of `mentioned` are values that the standard gives; its numbers with
-- a sign are written here as an operator on a number.
use Rattle.std.specs.Prelude.{ℕ, List, [], ◌∷◌, ◌++◌, zip}
use Rattle.xt_bits.specs.Word.{Word, word}
use Rattle.el_design.specs.declared.expressions.UnOp.{UnOp}
use Rattle.el_design.specs.declared.expressions.UnOp.TheVariants as unary
use Rattle.el_design.specs.declared.expressions.BinOp.{BinOp}
use Rattle.el_design.specs.declared.expressions.BinOp.TheVariants as op
use Rattle.el_design.specs.Plain.{Expr, Number, NetValue, Variable, MemoryWord, Select, Unary, Binary, Choice, Concat, Copies, Sign, Resize, Call, Exprs, NoExpr, More, Bit, Part, Up, Down}
use Rattle.el_witness.specs.Bench.{Row, a_var, h_var, m_var, u, s, un, sn, minus}

-- ---- integers in expressions (IEEE 1364-2005, 5.1.3), and the remainder's sign (5.1.5)

-- an operation on 32 bits, signed; `of_unsigned` where its left operand is unsigned, so that the operation is
abbrev pub of_signed : BinOp → Expr → Expr → Expr
of_signed o x y = Binary (s 32) o x y

abbrev pub of_unsigned : BinOp → Expr → Expr → Expr
of_unsigned o x y = Binary (u 32) o x y

abbrev pub negated : Expr → Expr
negated x = Unary (s 32) unary.Minus x

-- a bit of `a`, which holds 4
abbrev pub bit_of_a : ℕ → Expr
bit_of_a i = Select (u 1) (Variable (u 8) a_var) (Bit (sn 32 i)) 0

abbrev pub mentioned : List Row
mentioned =
    -- -12 / 3 is -4, -'d12 / 3 is 1431655761, -'sd12 / 3 is -4, and -4'sd12 / 3 is 1
    (of_signed op.Div (negated (sn 32 12)) (sn 32 3), minus 32 4)
    ∷ (of_unsigned op.Div (Unary (u 32) unary.Minus (un 32 12)) (sn 32 3), word 32 1431655761)
    ∷ (of_signed op.Div (negated (sn 32 12)) (sn 32 3), minus 32 4)
    ∷ (of_signed op.Div (negated (Resize (s 32) (sn 4 12))) (sn 32 3), word 32 1)
    -- 10 % 3 is 1, 11 % 3 is 2, 12 % 3 is 0, -10 % 3 is -1, 11 % -3 is 2, and -4'd12 % 3 is 1
    ∷ (of_signed op.Rem (sn 32 10) (sn 32 3), word 32 1)
    ∷ (of_signed op.Rem (sn 32 11) (sn 32 3), word 32 2)
    ∷ (of_signed op.Rem (sn 32 12) (sn 32 3), word 32 0)
    ∷ (of_signed op.Rem (negated (sn 32 10)) (sn 32 3), minus 32 1)
    ∷ (of_signed op.Rem (sn 32 11) (negated (sn 32 3)), word 32 2)
    ∷ (of_unsigned op.Rem (Unary (u 32) unary.Minus (Resize (u 32) (un 4 12))) (sn 32 3), word 32 1)
    -- 4'hf * 6'ha is 6'h16 in 6 bits (5.4.2)
    ∷ (Binary (u 6) op.Mul (Resize (u 6) (un 4 15)) (un 6 10), word 6 0x16)
    -- 4'b0001 << 2 is 0100, and 4'sb1000 >>> 2 is 1110 (5.1.12)
    ∷ (Binary (u 4) op.Shl (un 4 1) (sn 32 2), word 4 4)
    ∷ (Binary (s 4) op.Ashr (sn 4 8) (sn 32 2), word 4 14)
    -- 237 && 0 is 0, and 237 || 0 is 1 (5.1.9)
    ∷ (Binary (u 1) op.LogAnd (un 8 237) (un 8 0), word 1 0)
    ∷ (Binary (u 1) op.LogOr (un 8 237) (un 8 0), word 1 1)
    -- $unsigned(-8'sd4) is 8'b11111100, and $signed(4'b1100) is -4 (5.5)
    ∷ (Sign (u 8) (Unary (s 8) unary.Minus (sn 8 4)), word 8 0xfc)
    ∷ (Resize (s 8) (Sign (s 4) (un 4 12)), minus 8 4)
    -- of a vector that holds 4, bit 2 is 1, and bits 0, 1, 3 and 7 are 0 (5.2.1)
    ∷ (bit_of_a 2, word 1 1) ∷ (bit_of_a 0, word 1 0) ∷ (bit_of_a 1, word 1 0) ∷ (bit_of_a 3, word 1 0) ∷ (bit_of_a 7, word 1 0)
    ∷ []

-- ---- arithmetic (5.1.5 and 5.1.6): modulo 2 to the power of the width; a quotient is cut towards 0, and a remainder has the sign of the left operand

-- `-7 / 2` and the like, of 8 bits
abbrev pub by_signs : BinOp → Expr → Expr → Expr
by_signs o x y = Binary (s 8) o x y

abbrev pub eight_minus : ℕ → Expr
eight_minus n = Number (s 8) (minus 8 n)

abbrev pub arithmetic : List Row
arithmetic =
    (Unary (u 8) unary.Plus (un 8 5), word 8 5)
    ∷ (Unary (u 8) unary.Minus (un 8 5), word 8 251)
    ∷ (Binary (u 8) op.Add (un 8 200) (un 8 100), word 8 44)
    ∷ (Binary (u 8) op.Sub (un 8 3) (un 8 5), word 8 254)
    ∷ (Binary (u 8) op.Mul (un 8 20) (un 8 13), word 8 4)
    ∷ (Binary (s 8) op.Mul (eight_minus 3) (sn 8 5), minus 8 15)
    ∷ (Binary (u 8) op.Div (un 8 249) (un 8 2), word 8 124)
    ∷ (Binary (u 8) op.Rem (un 8 249) (un 8 2), word 8 1)
    ∷ (by_signs op.Div (sn 8 7) (sn 8 2), word 8 3)
    ∷ (by_signs op.Div (eight_minus 7) (sn 8 2), minus 8 3)
    ∷ (by_signs op.Div (sn 8 7) (eight_minus 2), minus 8 3)
    ∷ (by_signs op.Div (eight_minus 7) (eight_minus 2), word 8 3)
    ∷ (by_signs op.Rem (sn 8 7) (sn 8 2), word 8 1)
    ∷ (by_signs op.Rem (eight_minus 7) (sn 8 2), minus 8 1)
    ∷ (by_signs op.Rem (sn 8 7) (eight_minus 2), word 8 1)
    ∷ (by_signs op.Rem (eight_minus 7) (eight_minus 2), minus 8 1)
    -- the least number by -1
    ∷ (by_signs op.Div (eight_minus 128) (eight_minus 1), minus 8 128)
    ∷ (by_signs op.Rem (eight_minus 128) (eight_minus 1), word 8 0)
    -- one operand is unsigned, so both are
    ∷ (Binary (u 8) op.Div (eight_minus 7) (un 8 2), word 8 124)
    ∷ []

-- ---- comparisons (5.1.7 and 5.1.8): 1 against 2, 2 against 2, 2 against 1, and -1 against 1 with both signed, with none, and with the left alone

abbrev pub compared : BinOp → List Expr
compared o =
    Binary (u 1) o (un 8 1) (un 8 2) ∷ Binary (u 1) o (un 8 2) (un 8 2) ∷ Binary (u 1) o (un 8 2) (un 8 1) ∷ Binary (u 1) o (eight_minus 1) (sn 8 1) ∷ Binary (u 1) o (un 8 255) (un 8 1)
    ∷ Binary (u 1) o (eight_minus 1) (un 8 1) ∷ []

abbrev pub ones : List ℕ → List Word
ones [] = []
ones (n ∷ ns) = word 1 n ∷ ones ns

abbrev pub less : List Row
less = zip (compared op.Lt) (ones (1 ∷ 0 ∷ 0 ∷ 1 ∷ 0 ∷ 0 ∷ []))

abbrev pub at_most : List Row
at_most = zip (compared op.Le) (ones (1 ∷ 1 ∷ 0 ∷ 1 ∷ 0 ∷ 0 ∷ []))

abbrev pub greater : List Row
greater = zip (compared op.Gt) (ones (0 ∷ 0 ∷ 1 ∷ 0 ∷ 1 ∷ 1 ∷ []))

abbrev pub at_least : List Row
at_least = zip (compared op.Ge) (ones (0 ∷ 1 ∷ 1 ∷ 0 ∷ 1 ∷ 1 ∷ []))

abbrev pub equal : List Row
equal = zip (compared op.Eq) (ones (0 ∷ 1 ∷ 0 ∷ 0 ∷ 0 ∷ 0 ∷ []))

abbrev pub unequal : List Row
unequal = zip (compared op.Ne) (ones (1 ∷ 0 ∷ 1 ∷ 1 ∷ 1 ∷ 1 ∷ []))

abbrev pub case_equal : List Row
case_equal = zip (compared op.CaseEq) (ones (0 ∷ 1 ∷ 0 ∷ 0 ∷ 0 ∷ 0 ∷ []))

abbrev pub case_unequal : List Row
case_unequal = zip (compared op.CaseNe) (ones (1 ∷ 0 ∷ 1 ∷ 1 ∷ 1 ∷ 1 ∷ []))

abbrev pub comparisons : List Row
comparisons = less ++ at_most ++ greater ++ at_least ++ equal ++ unequal ++ case_equal ++ case_unequal

-- ---- logical operators (5.1.9), on 0 and on values that aren't: 2 has no 1 in its lowest bit

abbrev pub logical : List Row
logical =
    (Unary (u 1) unary.Not (un 8 0), word 1 1)
    ∷ (Unary (u 1) unary.Not (un 8 2), word 1 0)
    ∷ (Binary (u 1) op.LogAnd (un 8 0) (un 4 0), word 1 0)
    ∷ (Binary (u 1) op.LogAnd (un 8 0) (un 4 2), word 1 0)
    ∷ (Binary (u 1) op.LogAnd (un 8 1) (un 4 2), word 1 1)
    ∷ (Binary (u 1) op.LogOr (un 8 0) (un 4 0), word 1 0)
    ∷ (Binary (u 1) op.LogOr (un 8 0) (un 4 2), word 1 1)
    ∷ (Binary (u 1) op.LogOr (un 8 1) (un 4 2), word 1 1)
    ∷ []

-- ---- bit by bit (5.1.10): 0011 with 0101 shows each pair of bits

abbrev pub of_pairs : BinOp → Expr
of_pairs o = Binary (u 4) o (un 4 3) (un 4 5)

abbrev pub bitwise : List Row
bitwise =
    (of_pairs op.And, word 4 1)
    ∷ (of_pairs op.Or, word 4 7)
    ∷ (of_pairs op.Xor, word 4 6)
    ∷ (of_pairs op.Xnor, word 4 9)
    ∷ (Unary (u 4) unary.Inv (un 4 3), word 4 12)
    ∷ []

-- ---- reductions: the standard's table (5.1.11), of 0000, 1111, 0110 and 1000

abbrev pub reduced : UnOp → List Expr
reduced o = Unary (u 1) o (un 4 0) ∷ Unary (u 1) o (un 4 15) ∷ Unary (u 1) o (un 4 6) ∷ Unary (u 1) o (un 4 8) ∷ []

abbrev pub reduced_and : List Row
reduced_and = zip (reduced unary.And) (ones (0 ∷ 1 ∷ 0 ∷ 0 ∷ []))

abbrev pub reduced_nand : List Row
reduced_nand = zip (reduced unary.Nand) (ones (1 ∷ 0 ∷ 1 ∷ 1 ∷ []))

abbrev pub reduced_or : List Row
reduced_or = zip (reduced unary.Or) (ones (0 ∷ 1 ∷ 1 ∷ 1 ∷ []))

abbrev pub reduced_nor : List Row
reduced_nor = zip (reduced unary.Nor) (ones (1 ∷ 0 ∷ 0 ∷ 0 ∷ []))

abbrev pub reduced_xor : List Row
reduced_xor = zip (reduced unary.Xor) (ones (0 ∷ 0 ∷ 0 ∷ 1 ∷ []))

abbrev pub reduced_xnor : List Row
reduced_xnor = zip (reduced unary.Xnor) (ones (1 ∷ 1 ∷ 1 ∷ 0 ∷ []))

abbrev pub reductions : List Row
reductions = reduced_and ++ reduced_nand ++ reduced_or ++ reduced_nor ++ reduced_xor ++ reduced_xnor

-- ---- shifts (5.1.12): the right operand is always unsigned, and alone the sign of the result says what comes in

abbrev pub shifts : List Row
shifts =
    (Binary (u 4) op.Shl (un 4 0b0110) (un 2 1), word 4 0b1100)
    ∷ (Binary (u 4) op.Shr (un 4 0b1001) (un 2 3), word 4 1)
    ∷ (Binary (s 4) op.Shr (sn 4 0b1001) (un 2 1), word 4 0b0100)
    ∷ (Binary (u 4) op.Ashl (un 4 0b0110) (un 2 2), word 4 0b1000)
    ∷ (Binary (u 4) op.Ashr (un 4 0b1001) (un 2 1), word 4 0b0100)
    ∷ (Binary (s 4) op.Ashr (sn 4 0b1001) (un 2 1), word 4 0b1100)
    -- by the width and more; and by 4'sb1111, which is 15
    ∷ (Binary (u 4) op.Shl (un 4 15) (un 3 4), word 4 0)
    ∷ (Binary (u 4) op.Shr (un 4 15) (un 3 7), word 4 0)
    ∷ (Binary (s 4) op.Ashr (sn 4 8) (un 3 7), word 4 15)
    ∷ (Binary (u 4) op.Shl (un 4 15) (sn 4 15), word 4 0)
    ∷ []

-- ---- conditional operator (5.1.13), concatenation and replication (5.1.14), other widths and signs (5.5)

abbrev pub three : Expr → Expr → Expr → Exprs
three x y z = More x (More y (More z NoExpr))

abbrev pub put_together : List Row
put_together =
    (Choice (u 8) (un 1 1) (un 8 10) (un 8 20), word 8 10)
    ∷ (Choice (u 8) (un 1 0) (un 8 10) (un 8 20), word 8 20)
    ∷ (Choice (u 8) (un 4 2) (un 8 10) (un 8 20), word 8 10)
    -- {4'ha, 8'h5c, 4'h3}, {4{2'b10}}, and {b, {3{a, b}}} where a is 1'b1 and b is 1'b0
    ∷ (Concat (u 16) (three (un 4 0xa) (un 8 0x5c) (un 4 0x3)), word 16 0xa5c3)
    ∷ (Copies (u 8) 4 (un 2 0b10), word 8 0b10101010)
    ∷ (Concat (u 7) (More (un 1 0) (More (Copies (u 6) 3 (Concat (u 2) (More (un 1 1) (More (un 1 0) NoExpr)))) NoExpr)), word 7 0b0101010)
    -- longer by zeros, longer by the sign, and cut
    ∷ (Resize (u 8) (un 4 0xc), word 8 0x0c)
    ∷ (Resize (s 8) (sn 4 0xc), word 8 0xfc)
    ∷ (Resize (u 4) (un 8 0x5c), word 4 0xc)
    ∷ []

-- ---- names, and selects (5.2.1): of `h`, which is declared [11:4] and holds a5; and of `m`, which is declared [2:5]

abbrev pub bit_of_h : Expr → Expr
bit_of_h i = Select (u 1) (Variable (u 8) h_var) (Bit i) 4

abbrev pub word_of_m : Expr → Expr
word_of_m i = MemoryWord (u 8) m_var i

abbrev pub names : List Row
names =
    (NetValue (u 8) 0, word 8 0x77)
    ∷ (Variable (u 8) h_var, word 8 0xa5)
    ∷ (bit_of_h (sn 32 4), word 1 1) ∷ (bit_of_h (sn 32 5), word 1 0) ∷ (bit_of_h (sn 32 11), word 1 1)
    -- outside, which gives 0 here
    ∷ (bit_of_h (sn 32 3), word 1 0) ∷ (bit_of_h (sn 32 12), word 1 0) ∷ (bit_of_h (Number (s 32) (minus 32 1)), word 1 0)
    ∷ (Select (u 4) (Variable (u 8) h_var) (Part 7 4) 4, word 4 5)
    ∷ (Select (u 4) (Variable (u 8) h_var) (Up (sn 32 8) 4) 4, word 4 0xa)
    ∷ (Select (u 4) (Variable (u 8) h_var) (Down (sn 32 7) 4) 4, word 4 5)
    ∷ (Select (u 4) (Variable (u 8) h_var) (Up (sn 32 10) 4) 4, word 4 0b0010)
    ∷ (Select (u 4) (Variable (u 8) h_var) (Down (sn 32 5) 4) 4, word 4 0b0100)
    ∷ (word_of_m (sn 32 2), word 8 0x11) ∷ (word_of_m (sn 32 5), word 8 0x44) ∷ (word_of_m (sn 32 6), word 8 0) ∷ (word_of_m (sn 32 1), word 8 0)
    -- a[-1 +: 4] and a[2 -: 4] with a that holds 4: bit -1 lies outside, and an index has its own sign
    ∷ (Select (u 4) (Variable (u 8) a_var) (Up (Number (s 32) (minus 32 1)) 4) 0, word 4 0b1000)
    ∷ (Select (u 4) (Variable (u 8) a_var) (Down (sn 32 2) 4) 0, word 4 0b1000)
    -- a part of a word, and a call: f(8'd200) is 200 + 100 in 8 bits
    ∷ (Select (u 4) (word_of_m (sn 32 3)) (Part 3 0) 0, word 4 2)
    ∷ (Call (u 8) 0 (More (un 8 200) NoExpr), word 8 44)
    ∷ []
