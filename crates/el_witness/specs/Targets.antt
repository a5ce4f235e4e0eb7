-- Each form of target once (IEEE 1364-2005, 9.2 and 5.2; what lies outside isn't stored, which is this project's own).
use Rattle.std.specs.Prelude.{ℕ, true, false, List, [], ◌∷◌}
use Rattle.xt_bits.specs.Word.{word}
use Rattle.el_design.specs.declared.expressions.BinOp.TheVariants as op
use Rattle.el_design.specs.Plain.{Number, Variable, Binary, Resize, Bit, Part, Up, Down, Lvalue, ToVariable, ToPart, ToWord, ToWordPart, Both, Nowhere, Statement, Null, For}
use Rattle.el_design.specs.Store.{Store}
use Rattle.el_design.specs.Witnesses.{at}
use Rattle.el_witness.specs.Bench.{Stores, Copies, a_var, h_var, m_var, b_var, u, s, un, sn, minus, holding}

-- what `a`, `h`, `m` and `b` hold before
abbrev pub before_a : ℕ
before_a = 4

abbrev pub before_h : ℕ
before_h = 0xa5

abbrev pub before_m : List ℕ
before_m = 0x11 ∷ 0x22 ∷ 0x33 ∷ 0x44 ∷ []

abbrev pub before_b : ℕ
before_b = 2

-- each of them alone after
abbrev pub a_is : ℕ → Store
a_is n = holding n before_h before_m before_b

abbrev pub h_is : ℕ → Store
h_is n = holding before_a n before_m before_b

abbrev pub m_is : List ℕ → Store
m_is ns = holding before_a before_h ns before_b

abbrev pub two_parts : Lvalue → Lvalue → Lvalue
two_parts x y = Both x (Both y Nowhere)

abbrev pub targets : List Stores
targets =
    -- a = 8'h3c; and a = 16'h1234, which is cut
    (ToVariable a_var, un 8 0x3c, a_is 0x3c)
    ∷ (ToVariable a_var, un 16 0x1234, a_is 0x34)
    -- h[5] = 1'b1; h[11] = 1'b0; and h[3] = 1'b1, h[12] = 1'b1, which lie outside
    ∷ (ToPart h_var (Bit (sn 32 5)), un 1 1, h_is 0xa7)
    ∷ (ToPart h_var (Bit (sn 32 11)), un 1 0, h_is 0x25)
    ∷ (ToPart h_var (Bit (sn 32 3)), un 1 1, h_is 0xa5)
    ∷ (ToPart h_var (Bit (sn 32 12)), un 1 1, h_is 0xa5)
    -- h[9:6] = 4'b0110; h[8 +: 4] = 4'h3; h[7 -: 4] = 4'hc; and h[10 +: 4] = 4'b0001, h[5 -: 4] = 4'b1011, of which two bits lie outside
    ∷ (ToPart h_var (Part 9 6), un 4 0b0110, h_is 0x99)
    ∷ (ToPart h_var (Up (sn 32 8) 4), un 4 3, h_is 0x35)
    ∷ (ToPart h_var (Down (sn 32 7) 4), un 4 0xc, h_is 0xac)
    ∷ (ToPart h_var (Up (sn 32 10) 4), un 4 0b0001, h_is 0x65)
    ∷ (ToPart h_var (Down (sn 32 5) 4), un 4 0b1011, h_is 0xa6)
    -- a[-1 +: 4] = 4'hf, of which bit -1 lies outside
    ∷ (ToPart a_var (Up (Number (s 32) (minus 32 1)) 4), un 4 0xf, a_is 0x07)
    -- m[3] = 8'h55; m[b] = 8'h66; and m[1] = 8'h77, m[6] = 8'h77, which lie outside
    ∷ (ToWord m_var (sn 32 3), un 8 0x55, m_is (0x11 ∷ 0x55 ∷ 0x33 ∷ 0x44 ∷ []))
    ∷ (ToWord m_var (Variable (u 8) b_var), un 8 0x66, m_is (0x66 ∷ 0x22 ∷ 0x33 ∷ 0x44 ∷ []))
    ∷ (ToWord m_var (sn 32 1), un 8 0x77, m_is before_m)
    ∷ (ToWord m_var (sn 32 6), un 8 0x77, m_is before_m)
    -- m[5][7:4] = 4'hf; and m[6][0] = 1'b1, which lies outside
    ∷ (ToWordPart m_var (sn 32 5) (Part 7 4), un 4 0xf, m_is (0x11 ∷ 0x22 ∷ 0x33 ∷ 0xf4 ∷ []))
    ∷ (ToWordPart m_var (sn 32 6) (Bit (sn 32 0)), un 1 1, m_is before_m)
    -- {a, h} = 16'h1234; {b, m[b]} = 16'h0377, whose index is read before either is stored; and {h[7:4], {a, m[4][3:0]}} = 16'h9abc
    ∷ (two_parts (ToVariable a_var) (ToVariable h_var), un 16 0x1234, holding 0x12 0x34 before_m before_b)
    ∷ (two_parts (ToVariable b_var) (ToWord m_var (Variable (u 8) b_var)), un 16 0x0377, holding before_a before_h (0x77 ∷ 0x22 ∷ 0x33 ∷ 0x44 ∷ []) 3)
    ∷ (
      two_parts (ToPart h_var (Part 7 4)) (two_parts (ToVariable a_var) (ToWordPart m_var (sn 32 4) (Part 3 0))),
      un 16 0x9abc,
      holding 0xab 0xa9 (0x11 ∷ 0x22 ∷ 0x3c ∷ 0x44 ∷ []) before_b,
    )
    ∷ []

-- ---- an output argument's value has its own width and sign: it is extended by them, or cut (5.5.3 and 10.2.2)

-- a target, the value of a formal and its sign, and what is held after it is copied out
abbrev pub copied : List Copies
copied =
    -- to `a`: 4'b1100 as an unsigned formal, and as a signed one; to `h[7:4]`, a byte
    record { to = ToVariable a_var; formal = word 4 0xc; signed = false; held = a_is 0x0c }
    ∷ record { to = ToVariable a_var; formal = word 4 0xc; signed = true; held = a_is 0xfc }
    ∷ record { to = ToPart h_var (Part 7 4); formal = word 8 0x3c; signed = false; held = h_is 0xac }
    -- to {a, b}: 4'b1100 as a signed formal
    ∷ record { to = two_parts (ToVariable a_var) (ToVariable b_var); formal = word 4 0xc; signed = true; held = holding 0xff before_h before_m 0xfc }
    ∷ []

-- ---- what is stored may be wider than the loop's variable: for (a = 16'd0; a < 8'd4; a = a + 16'd1) ;

abbrev pub wide_loop : Statement
wide_loop = For (at 9) a_var (un 16 0) (Binary (u 1) op.Lt (Variable (u 8) a_var) (un 8 4)) (Binary (u 16) op.Add (Resize (u 16) (Variable (u 8) a_var)) (un 16 1)) Null
