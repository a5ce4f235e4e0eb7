-- Worked rows: an expression stands as its layers, each token on a line of its own, which has the token's number.
use Rattle.std.proofs.Common.{◌≡◌, ℕ, zero, suc, Bool, true, false, List, [], ◌∷◌, ◌++◌, Option, Some, None, refl}
use Rattle.std.specs.Prelude.{codes, map, pos, negsuc, option_to_list}
use Rattle.xt_base.specs.declared.refusals.Place.{Place}
use Rattle.xt_base.specs.declared.refusals.Refusal.{Refusal}
use Rattle.xt_base.specs.First.{first}
use Rattle.xt_bits.specs.Word.{word, number_of, bit_of}
use Rattle.xt_bits.specs.Operators.{extended_bit, selected_bit, shifted_bit, turned_bit}
use Rattle.vl_tree.specs.declared.exprs.Expr.TheOpen.{Expr-F, Select-F}
use Rattle.vl_tree.specs.declared.operators.UnOp.{UnOp}
use Rattle.vl_tree.specs.declared.operators.UnOp.TheVariants as un
use Rattle.vl_tree.specs.declared.operators.BinOp.{BinOp}
use Rattle.vl_tree.specs.declared.operators.BinOp.TheVariants as bin
use Rattle.vl_tree.specs.declared.operators.Sign.TheVariants as signs
use Rattle.el_design.specs.declared.expressions.BinOp.TheVariants as fbin
use Rattle.el_design.specs.declared.expressions.Kind.TheVariants as kind
use Rattle.el_design.specs.Plain.{Flat}
use Rattle.el_design.specs.Value.{Scene}
use Rattle.el_width.specs.declared.environment.Meaning.{Meaning}
use Rattle.el_width.specs.declared.environment.Meaning.TheVariants as meaning
use Rattle.el_width.specs.declared.environment.Object.{Object}
use Rattle.el_width.specs.Environment.{Environment}
use Rattle.el_design.specs.declared.expressions.Pick.TheVariants as pick
use Rattle.el_width.specs.Operands.{whole, node, index_of}
use Rattle.el_width.specs.Typed.{Typed, Chosen}
use Rattle.el_width.specs.Breaks.{alone, argument_breaks}
use Rattle.el_width.specs.Values.{argument_values, name_value}
use Rattle.el_width.specs.Expressions.{typed_node, chosen_node, in_context, context_length, context_sign}

-- ---- the environment: eight names, then numbers

abbrev line : ℕ → Place
line n = record { file = 0; line = n; instance = 0 }

abbrev counted : ℕ → ℕ → List ℕ
counted zero from = []
counted (suc n) from = from ∷ counted n (suc from)

abbrev thing : ℕ → ℕ → Bool → ℕ → Object
thing number width signed lsb = record { number = number; width = width; signed = signed; lsb = lsb }

-- reg [7:0] a, b; reg signed [3:0] s; parameter P = 5; reg [7:0] m [0:3]; parameter [7:0] Q = 0; function [7:0] f(input [15:0]); wire [11:4] n;
abbrev env : Environment
env = record {
  spellings = codes "a" ∷ codes "b" ∷ codes "s" ∷ codes "P" ∷ codes "m" ∷ codes "Q" ∷ codes "f" ∷ codes "n" ∷ codes "R" ∷
      codes "1" ∷ codes "4294967295" ∷ codes "4294967296" ∷ codes "'h1ff" ∷ codes "'d0" ∷ codes "8" ∷ codes "64" ∷ codes "65" ∷ codes "0" ∷
      codes "4" ∷ codes "7" ∷ codes "9" ∷ codes "65535" ∷ codes "65536" ∷ codes "6" ∷ codes "'h3f" ∷ codes "'sh3f" ∷ codes "'sd0" ∷ codes "'d8" ∷ codes "3" ∷ codes "2" ∷ [];
  places = map line (counted 60 0);
  bound = counted 9 0;
  meanings = meaning.Variable (thing 0 8 false 0) ∷ meaning.Variable (thing 1 8 false 0) ∷ meaning.Variable (thing 2 4 true 0) ∷ meaning.Parameter (word 32 5) true ∷
      meaning.Memory (thing 3 8 false 0) ∷ meaning.Parameter (word 8 0) false ∷
      meaning.Routine (record { number = 0; formals = 16 ∷ []; width = 8; signed = false; result = None }) ∷ meaning.Net (thing 0 8 false 4) ∷ meaning.Unvalued ∷ [];
  instance = 0;
}

abbrev decimal : ℕ → Typed
decimal at = typed_node env (Expr-F.Decimal at at)

abbrev unsized : ℕ → Typed
unsized at = typed_node env (Expr-F.Based at None at)

abbrev sized : ℕ → ℕ → Typed
sized size number = typed_node env (Expr-F.Based size (Some size) number)

abbrev name : ℕ → Typed
name at = typed_node env (Expr-F.Name at at [])

abbrev with_select : ℕ → Chosen → Typed
with_select at select = typed_node env (Expr-F.Name at at (select ∷ []))

-- at bracket 50
abbrev index : Typed → Chosen
index i = chosen_node env (Select-F.Index 50 i)

abbrev part : Typed → Typed → Chosen
part msb lsb = chosen_node env (Select-F.Part 50 msb lsb)

abbrev up : Typed → Typed → Chosen
up base width = chosen_node env (Select-F.Up 50 base width)

abbrev down : Typed → Typed → Chosen
down base width = chosen_node env (Select-F.Down 50 base width)

abbrev binary : BinOp → Typed → Typed → Typed
binary op a b = typed_node env (Expr-F.Binary a.operand.token op a b)

abbrev unary : UnOp → Typed → Typed
unary op a = typed_node env (Expr-F.Unary 51 op a)

-- at brace 52
abbrev concat : List Typed → Typed
concat parts = typed_node env (Expr-F.Concat 52 parts)

-- at brace 53
abbrev copies : Typed → List Typed → Typed
copies n parts = typed_node env (Expr-F.Replicate 53 n parts)

abbrev call : ℕ → List Typed → Typed
call at args = typed_node env (Expr-F.Call at at args)

-- a = 200, b = 100, s = -1, the words of m 7, 8, 9, 10; n = 0xf3
abbrev flat : Flat
flat = record { vars = []; nets = []; tasks = []; funcs = []; imports = []; procs = []; marks = 0; inputs = []; outputs = []; head = line 0 }

abbrev scene : Scene
scene = record {
  call = λ f args. word 8 0;
  nets = word 8 243 ∷ [];
  store = (word 8 200 ∷ []) ∷ (word 8 100 ∷ []) ∷ (word 4 15 ∷ []) ∷ (word 8 7 ∷ word 8 8 ∷ word 8 9 ∷ word 8 10 ∷ []) ∷ [];
}

-- the value that is assigned to a variable of so many bits, which cuts it
abbrev assigned_value : ℕ → Typed → ℕ
assigned_value w t = (t.value flat scene (context_length (Some (w, true)) t.operand) (context_sign (Some (w, true)) t.operand)).value

abbrev broken_in : ℕ → Typed → List Refusal
broken_in w t = t.broken false ++ (in_context (Some (w, true)) t.operand).broken

-- the rules that an expression breaks in such a variable, each with its token
abbrev rules_of : List Refusal → List (ℕ × ℕ)
rules_of breaks = map (λ r. (r.rule.0, r.place.line)) breaks

abbrev refused : ℕ → Typed → List (ℕ × ℕ)
refused w t = rules_of (t.broken false ++ (in_context (Some (w, true)) t.operand).broken)

-- the same where it must be constant
abbrev refused_constant : Typed → List (ℕ × ℕ)
refused_constant t = rules_of (alone true t)

abbrev listed_first : List Refusal → List Refusal
listed_first breaks = option_to_list (first breaks)

-- ---- 5.4.2: a sum keeps its carry where its context has room for it

carries : map (assigned_value 16) (
    binary bin.Shr (binary bin.Add (name 0) (name 1)) (decimal 9) ∷
    concat (binary bin.Shr (binary bin.Add (name 0) (name 1)) (decimal 9) ∷ []) ∷
    binary bin.Add (name 0) (name 1) ∷
    concat (binary bin.Add (name 0) (name 1) ∷ []) ∷ []) ≡ 150 ∷ 22 ∷ 300 ∷ 44 ∷ []
unfolding number_of extended_bit bit_of selected_bit
carries = refl

-- ---- 5.5: signs. `s`, `s + 4'd0`, `s + 8'sd0`, `s[3:0] + 8'sd0`, `$unsigned(s) + 8'sd0`, `$signed(s[3:0]) + 8'sd0`, `{s} + 8'sd0`, `-s`, `s + m[1]`

abbrev low_bits : Typed
low_bits = with_select 2 (part (decimal 28) (decimal 17))

extensions : map (assigned_value 8) (
    name 2 ∷
    binary bin.Add (name 2) (sized 18 13) ∷
    binary bin.Add (name 2) (sized 14 26) ∷
    binary bin.Add low_bits (sized 14 26) ∷
    binary bin.Add (typed_node env (Expr-F.Sign 54 signs.Unsigned (name 2))) (sized 14 26) ∷
    binary bin.Add (typed_node env (Expr-F.Sign 54 signs.Signed low_bits)) (sized 14 26) ∷
    binary bin.Add (concat (name 2 ∷ [])) (sized 14 26) ∷
    unary un.Minus (name 2) ∷
    binary bin.Add (name 2) (with_select 4 (index (decimal 9))) ∷ []) ≡ 255 ∷ 15 ∷ 255 ∷ 15 ∷ 15 ∷ 255 ∷ 15 ∷ 1 ∷ 23 ∷ []
unfolding number_of extended_bit bit_of selected_bit
extensions = refl

-- comparisons and shifts: `s < 4'sd0`, `s < 4'd0`, `s == 8'hff` (unsigned, 4 bits by zeros), `s >>> 1`, `$unsigned(s) >>> 1`, `a << s` (15 bits), `s ? a : b`
comparisons : map (assigned_value 8) (
    binary bin.Lt (name 2) (sized 18 26) ∷
    binary bin.Lt (name 2) (sized 18 13) ∷
    binary bin.Eq (name 2) (sized 14 12) ∷
    binary bin.Ashr (name 2) (decimal 9) ∷
    binary bin.Ashr (typed_node env (Expr-F.Sign 54 signs.Unsigned (name 2))) (decimal 9) ∷
    binary bin.Shl (name 0) (name 2) ∷
    typed_node env (Expr-F.Choice 2 (name 2) (name 0) (name 1)) ∷ []) ≡ 1 ∷ 0 ∷ 0 ∷ 255 ∷ 7 ∷ 0 ∷ 200 ∷ []
unfolding number_of extended_bit bit_of selected_bit shifted_bit
comparisons = refl

-- `a + b > a` and `a + b > 9'd0 + a` (8 and 9 bits), `1 << s` (15 bits), `(s >>> 1) + 4'd0` (unsigned), `s / 2` and `s / 4'd8` (signed and not), `$signed({a})`, `-4'd8`
apart_from_context : map (assigned_value 16) (
    binary bin.Gt (binary bin.Add (name 0) (name 1)) (name 0) ∷
    binary bin.Gt (binary bin.Add (name 0) (name 1)) (binary bin.Add (sized 20 13) (name 0)) ∷
    binary bin.Shl (decimal 9) (name 2) ∷
    binary bin.Add (binary bin.Ashr (name 2) (decimal 9)) (sized 18 13) ∷
    binary bin.Div (name 2) (decimal 29) ∷
    binary bin.Div (name 2) (sized 18 27) ∷
    typed_node env (Expr-F.Sign 54 signs.Signed (concat (name 0 ∷ []))) ∷
    unary un.Minus (sized 18 27) ∷ []) ≡ 0 ∷ 1 ∷ 32768 ∷ 7 ∷ 0 ∷ 1 ∷ 65480 ∷ 65528 ∷ []
unfolding number_of extended_bit bit_of selected_bit shifted_bit
apart_from_context = refl

-- in 16 bits, a = 8'hc8 and b = 8'h64: `~a`, `a ~^ b`, `b - a`, `a * b`, `a & b`, `a | b`, `a ^ b`, `a <<< 1`
wide_operators : map (assigned_value 16) (
    unary un.Inv (name 0) ∷ binary bin.Xnor (name 0) (name 1) ∷ binary bin.Sub (name 1) (name 0) ∷ binary bin.Mul (name 0) (name 1) ∷
    binary bin.And (name 0) (name 1) ∷ binary bin.Or (name 0) (name 1) ∷ binary bin.Xor (name 0) (name 1) ∷ binary bin.Ashl (name 0) (decimal 9) ∷ [])
    ≡ 65335 ∷ 65363 ∷ 65436 ∷ 20000 ∷ 64 ∷ 236 ∷ 172 ∷ 400 ∷ []
unfolding number_of extended_bit bit_of selected_bit turned_bit
wide_operators = refl

-- one bit in 16: `!a`, `!Q` (Q is 0), `&a`, `~&a`, `|a`, `~|a`, `~|Q`, `^a` (three ones), `~^a`
reductions : map (assigned_value 16) (
    unary un.Not (name 0) ∷ unary un.Not (name 5) ∷ unary un.And (name 0) ∷ unary un.Nand (name 0) ∷ unary un.Or (name 0) ∷
    unary un.Nor (name 0) ∷ unary un.Nor (name 5) ∷ unary un.Xor (name 0) ∷ unary un.Xnor (name 0) ∷ []) ≡ 0 ∷ 1 ∷ 0 ∷ 1 ∷ 1 ∷ 0 ∷ 1 ∷ 1 ∷ 0 ∷ []
unfolding number_of extended_bit bit_of selected_bit lib.Count.ones
reductions = refl

-- `a && s`, `a && Q`, `Q || b`, `Q || Q`, `a <= b`, `a >= b`, `a != b`, `a === a`, `a !== a`
judgements : map (assigned_value 16) (
    binary bin.LogAnd (name 0) (name 2) ∷ binary bin.LogAnd (name 0) (name 5) ∷ binary bin.LogOr (name 5) (name 1) ∷ binary bin.LogOr (name 5) (name 5) ∷
    binary bin.Le (name 0) (name 1) ∷ binary bin.Ge (name 0) (name 1) ∷ binary bin.Ne (name 0) (name 1) ∷ binary bin.CaseEq (name 0) (name 0) ∷ binary bin.CaseNe (name 0) (name 0) ∷ [])
    ≡ 1 ∷ 0 ∷ 1 ∷ 0 ∷ 0 ∷ 1 ∷ 1 ∷ 1 ∷ 0 ∷ []
unfolding number_of extended_bit bit_of selected_bit
judgements = refl

-- arms: `1 ? s : a` and `1 ? s : 8'sd0` in 8 bits
arms : map (assigned_value 8) (
    typed_node env (Expr-F.Choice 9 (decimal 9) (name 2) (name 0)) ∷ typed_node env (Expr-F.Choice 9 (decimal 9) (name 2) (sized 14 26)) ∷ []) ≡ 15 ∷ 255 ∷ []
unfolding number_of extended_bit bit_of selected_bit
arms = refl

-- arguments: `(a + b)` for a formal of 16 bits, for none, and no argument; a function's own name in its body, with a select
call_arguments : map (λ formals. argument_values flat scene formals (binary bin.Add (name 0) (name 1) ∷ [])) ((16 ∷ []) ∷ [] ∷ []) ≡ (word 16 300 ∷ []) ∷ (word 8 44 ∷ []) ∷ []
unfolding number_of extended_bit bit_of selected_bit
call_arguments = refl

abbrev result : Meaning
result = meaning.Routine (record { number = 0; formals = 16 ∷ []; width = 8; signed = false; result = Some (thing 1 8 false 0) })

own_name : map (λ ts. name_value flat scene result ts) ([] ∷ (part (decimal 28) (decimal 17) ∷ []) ∷ []) ≡ word 8 100 ∷ word 4 4 ∷ []
unfolding number_of extended_bit bit_of selected_bit
own_name = refl

-- the items of a `case` and its expression at the longest length: e = 4'hf and 6'h3f, 6'h0f; signed -1 and 6'sh3f
abbrev case_value : Bool → Typed → ℕ
case_value sign t = (t.value flat scene (context_length (Some (6, sign)) t.operand) (context_sign (Some (6, sign)) t.operand)).value

case_items : map (case_value false) (name 2 ∷ sized 23 24 ∷ []) ++ map (case_value true) (name 2 ∷ sized 23 25 ∷ []) ≡ 15 ∷ 63 ∷ 63 ∷ 63 ∷ []
unfolding number_of extended_bit bit_of selected_bit
case_items = refl

-- ---- numbers: `8'h1ff` loses a bit; 4294967295 is -1; 4294967296, `65'h1ff` and `0'h1ff` are refused, `64'h1ff` isn't

number_values : map (assigned_value 16) (sized 14 12 ∷ unsized 12 ∷ decimal 10 ∷ sized 15 12 ∷ []) ≡ 255 ∷ 511 ∷ 4294967295 ∷ 511 ∷ []
unfolding number_of extended_bit bit_of selected_bit
number_values = refl

number_refusals : map (refused 8) (decimal 10 ∷ decimal 11 ∷ sized 15 12 ∷ sized 16 12 ∷ sized 17 12 ∷ []) ≡ [] ∷ ((40, 11) ∷ []) ∷ [] ∷ ((40, 16) ∷ []) ∷ ((40, 17) ∷ []) ∷ []
unfolding number_of extended_bit bit_of selected_bit
number_refusals = refl

-- a number past its width and what is round it: `{65'h1ff, a}` breaks rule 40 twice, `65'h1ff + a` once
wide_numbers : map (refused 8) (concat (sized 16 12 ∷ name 0 ∷ []) ∷ binary bin.Add (sized 16 12) (name 0) ∷ []) ≡ ((40, 16) ∷ (40, 52) ∷ []) ∷ ((40, 16) ∷ []) ∷ []
unfolding number_of extended_bit bit_of selected_bit
wide_numbers = refl

-- ---- concatenations and replications: `{P{a}}` has 40 bits, `{8{a}}` 64, `{9{a}}` 72; counts 0, -1 and a

copies_values : map (assigned_value 64) (copies (decimal 29) (name 0 ∷ []) ∷ copies (decimal 29) (name 0 ∷ name 1 ∷ []) ∷ []) ≡ 51400 ∷ 3362048100 ∷ []
unfolding number_of extended_bit bit_of selected_bit
copies_values = refl

copies_refusals : map (refused 8) (
    copies (name 3) (name 0 ∷ []) ∷ copies (decimal 14) (name 0 ∷ []) ∷ copies (decimal 20) (name 0 ∷ []) ∷
    copies (decimal 17) (name 0 ∷ []) ∷ copies (unary un.Minus (decimal 9)) (name 0 ∷ []) ∷ copies (name 0) (name 1 ∷ []) ∷
    concat (name 0 ∷ copies (decimal 17) (name 1 ∷ []) ∷ []) ∷ concat (decimal 9 ∷ decimal 18 ∷ []) ∷ concat (decimal 9 ∷ decimal 18 ∷ name 0 ∷ []) ∷ [])
    ≡ [] ∷ [] ∷ ((40, 53) ∷ []) ∷ ((40, 53) ∷ []) ∷ ((40, 53) ∷ []) ∷ ((32, 0) ∷ []) ∷ ((40, 53) ∷ []) ∷ [] ∷ ((40, 52) ∷ []) ∷ []
unfolding number_of extended_bit bit_of selected_bit
copies_refusals = refl

-- ---- selects: a = 8'hc8, n = 8'hf3 of wire [11:4] n
-- `a[7:4]`, `a[9:6]`, `n[7:4]`, `n[3:0]`, `a[s]` (bit -1), `a[b]` (bit 100), `a[6 +: 4]`, `a[1 -: 4]`, `m[1]`, `m[9]` (out of range), `m[1][3:0]`

select_values : map (assigned_value 8) (
    with_select 0 (part (decimal 19) (decimal 18)) ∷ with_select 0 (part (decimal 20) (decimal 23)) ∷
    with_select 7 (part (decimal 19) (decimal 18)) ∷ with_select 7 (part (decimal 28) (decimal 17)) ∷
    with_select 0 (index (name 2)) ∷ with_select 0 (index (name 1)) ∷
    with_select 0 (up (decimal 23) (decimal 18)) ∷ with_select 0 (down (decimal 9) (decimal 18)) ∷
    with_select 4 (index (decimal 9)) ∷ with_select 4 (index (decimal 20)) ∷
    typed_node env (Expr-F.Name 4 4 (index (decimal 9) ∷ part (decimal 28) (decimal 17) ∷ [])) ∷ [])
    ≡ 12 ∷ 3 ∷ 3 ∷ 0 ∷ 0 ∷ 0 ∷ 3 ∷ 0 ∷ 8 ∷ 0 ∷ 8 ∷ []
unfolding number_of extended_bit bit_of selected_bit
select_values = refl

-- `a[7:4]`, `a[3:4]`, `a[3:-1]`, `a[65535:65535]`, `a[65536:65535]`, `a[64:1]` (64 bits), `a[64:0]` (65), `a[a:0]`; `a[b +: 4]`, `a[b +: 0]`, `a[b -: 65]`, `a[b +: b]`
select_refusals : map (refused 8) (
    with_select 0 (part (decimal 19) (decimal 18)) ∷ with_select 0 (part (decimal 28) (decimal 18)) ∷ with_select 0 (part (decimal 28) (unary un.Minus (decimal 9))) ∷
    with_select 0 (part (decimal 21) (decimal 21)) ∷ with_select 0 (part (decimal 22) (decimal 21)) ∷
    with_select 0 (part (decimal 15) (decimal 9)) ∷ with_select 0 (part (decimal 15) (decimal 17)) ∷ with_select 0 (part (name 0) (decimal 17)) ∷
    with_select 0 (up (name 1) (decimal 18)) ∷ with_select 0 (up (name 1) (decimal 17)) ∷ with_select 0 (down (name 1) (decimal 16)) ∷ with_select 0 (up (name 1) (name 1)) ∷ [])
    ≡ [] ∷ ((41, 50) ∷ []) ∷ ((41, 50) ∷ []) ∷ [] ∷ ((41, 50) ∷ []) ∷ [] ∷ ((40, 50) ∷ []) ∷ ((32, 0) ∷ []) ∷
    [] ∷ ((40, 50) ∷ []) ∷ ((40, 50) ∷ []) ∷ ((32, 1) ∷ []) ∷ []
unfolding number_of extended_bit bit_of selected_bit
select_refusals = refl

-- ---- divisors: `a / 2`, `a / 0`, `a / b`, `a % Q`, `a / 8'd8`, `s / (4'd8 + 4'd8)` in 8 and in 4 bits, `{a, 64'h1ff} / 0` and `(a / b) + {a, 64'h1ff}` (past the greatest width),
-- `(a / b) + a[3:4]` (of an open length), `a / (1 ? 1 : 1 / 0)`, `a / (1 ? 0 : 1 / 0)`, which is 0 whatever stands in its other arm

abbrev eight : Typed
eight = sized 18 27

divisor_refusals : map (refused 8) (
    binary bin.Div (name 0) (decimal 29) ∷ binary bin.Div (name 0) (decimal 17) ∷ binary bin.Div (name 0) (name 1) ∷ binary bin.Rem (name 0) (name 5) ∷
    binary bin.Div (name 2) (binary bin.Add eight eight) ∷ binary bin.Div (concat (name 0 ∷ sized 15 12 ∷ [])) (decimal 17) ∷
    binary bin.Add (binary bin.Div (name 0) (name 1)) (concat (name 0 ∷ sized 15 12 ∷ [])) ∷
    binary bin.Add (binary bin.Div (name 0) (name 1)) (with_select 0 (part (decimal 28) (decimal 18))) ∷
    binary bin.Div (name 0) (typed_node env (Expr-F.Choice 9 (decimal 9) (decimal 9) (binary bin.Div (decimal 9) (decimal 17)))) ∷
    binary bin.Div (name 0) (typed_node env (Expr-F.Choice 9 (decimal 9) (decimal 17) (binary bin.Div (decimal 9) (decimal 17)))) ∷ [])
    ≡ [] ∷ ((42, 17) ∷ []) ∷ ((42, 1) ∷ []) ∷ ((42, 5) ∷ []) ∷ [] ∷ ((40, 52) ∷ []) ∷ ((40, 52) ∷ []) ∷ ((41, 50) ∷ []) ∷ ((42, 17) ∷ []) ∷ ((42, 17) ∷ (42, 9) ∷ []) ∷ []
unfolding number_of extended_bit bit_of selected_bit
divisor_refusals = refl

-- `1 / 0` in an operand that stands by itself: an index, a base, an argument, `$signed`, a reduction, a comparison, a shift's amount, a test, a part, a count
abbrev quotient : Typed
quotient = binary bin.Div (decimal 9) (decimal 17)

inner_divisors : map (refused 8) (
    with_select 0 (index quotient) ∷ with_select 0 (up quotient (decimal 18)) ∷ call 6 (quotient ∷ []) ∷ typed_node env (Expr-F.Sign 54 signs.Signed quotient) ∷
    unary un.Not quotient ∷ binary bin.Lt quotient (decimal 9) ∷ binary bin.Shl (name 0) quotient ∷ typed_node env (Expr-F.Choice 9 quotient (name 0) (name 1)) ∷
    concat (quotient ∷ []) ∷ copies quotient (name 0 ∷ []) ∷ [])
    ≡ ((42, 17) ∷ []) ∷ ((42, 17) ∷ []) ∷ ((42, 17) ∷ []) ∷ ((42, 17) ∷ []) ∷ ((42, 17) ∷ []) ∷ ((42, 17) ∷ []) ∷ ((42, 17) ∷ []) ∷ ((42, 17) ∷ []) ∷ ((42, 17) ∷ []) ∷ ((42, 17) ∷ []) ∷ []
unfolding number_of extended_bit bit_of selected_bit
inner_divisors = refl

short_divisor : refused 4 (binary bin.Div (name 2) (binary bin.Add eight eight)) ≡ (42, 18) ∷ []
unfolding number_of extended_bit bit_of selected_bit
short_divisor = refl

quotients : map (assigned_value 8) (
    binary bin.Div (name 0) (decimal 28) ∷ binary bin.Rem (name 0) (decimal 19) ∷
    binary bin.Div (unary un.Minus (decimal 19)) (decimal 29) ∷ binary bin.Rem (unary un.Minus (decimal 19)) (decimal 29) ∷ []) ≡ 66 ∷ 4 ∷ 4294967293 ∷ 4294967295 ∷ []
unfolding number_of extended_bit bit_of selected_bit
quotients = refl

-- ---- constants: `P`, `a`, `f(1)`, `R` (whose declaration is broken), `P + a`, `a[b]`

constants : map refused_constant (name 3 ∷ name 0 ∷ call 6 (decimal 9 ∷ []) ∷ name 8 ∷ binary bin.Add (name 3) (name 0) ∷ with_select 0 (index (name 1)) ∷ [])
    ≡ [] ∷ ((32, 0) ∷ []) ∷ ((32, 6) ∷ []) ∷ [] ∷ ((32, 0) ∷ []) ∷ ((32, 0) ∷ (32, 1) ∷ []) ∷ []
unfolding number_of extended_bit bit_of selected_bit
constants = refl

wholes : map (λ t. whole t.operand) (name 3 ∷ binary bin.Sub (name 3) (decimal 19) ∷ decimal 10 ∷ unsized 12 ∷ name 8 ∷ name 0 ∷ binary bin.Div (name 3) (decimal 17) ∷ [])
    ≡ Some (pos 5) ∷ Some (negsuc 1) ∷ Some (negsuc 0) ∷ Some (pos 511) ∷ None ∷ None ∷ None ∷ []
unfolding number_of extended_bit bit_of selected_bit
wholes = refl

-- in a context: `4'd8 / (4'd8 + 4'd8)` and `4'd8 + 4'd8` by themselves, and as the value of a parameter of eight bits
abbrev constant_in : Option (ℕ × Bool) → Typed → List (ℕ × ℕ)
constant_in context t = rules_of (t.broken true ++ (in_context context t.operand).broken)

abbrev half : Typed
half = binary bin.Div eight (binary bin.Add eight eight)

constants_in : map (λ context. constant_in context half) (None ∷ Some (8, true) ∷ []) ≡ ((42, 18) ∷ []) ∷ [] ∷ []
unfolding number_of extended_bit bit_of selected_bit
constants_in = refl

values_in : map (λ context. (in_context context (binary bin.Add eight eight).operand).known) (None ∷ Some (8, true) ∷ []) ≡ Some (word 4 0) ∷ Some (word 8 16) ∷ []
unfolding number_of extended_bit bit_of selected_bit
values_in = refl

-- arguments stand at the formals' lengths, outputs too: `(a, 4'd8 / (4'd8 + 4'd8))` for formals of 8 and 32 bits, of 8 and 4, and for one of 8 alone
passed_breaks : map (λ formals. rules_of (argument_breaks false formals (name 0 ∷ half ∷ []))) ((8 ∷ 32 ∷ []) ∷ (8 ∷ 4 ∷ []) ∷ (8 ∷ []) ∷ []) ≡ [] ∷ ((42, 18) ∷ []) ∷ ((42, 18) ∷ []) ∷ []
unfolding number_of extended_bit bit_of selected_bit
passed_breaks = refl

-- ---- the first break: at the sooner token, and of two at one token the lower rule

firsts : map (λ t. rules_of (listed_first (t.broken false ++ (in_context (Some (8, true)) t.operand).broken))) (
    binary bin.Div (decimal 11) (decimal 17) ∷
    concat (binary bin.Div (name 1) (name 0) ∷ copies (decimal 16) (name 0 ∷ []) ∷ []) ∷
    concat (with_select 0 (part (decimal 28) (decimal 18)) ∷ copies (decimal 20) (name 0 ∷ []) ∷ []) ∷ [])
    ≡ ((40, 11) ∷ []) ∷ ((42, 0) ∷ []) ∷ ((41, 50) ∷ []) ∷ []
unfolding number_of extended_bit bit_of selected_bit
firsts = refl

-- ---- typed forms: `f(a)` has its argument brought to the formal's 16 bits, `m[1]` in a sum of 16 bits is a word that is brought there

call_form : (in_context (Some (8, true)) (call 6 (name 0 ∷ [])).operand).form
    ≡ node 8 false (kind.Call 0 (node 16 false (kind.Resize (node 8 false (kind.Var 0))) ∷ []))
call_form = refl

word_form : (in_context (Some (16, true)) (binary bin.Add (name 2) (with_select 4 (index (name 1)))).operand).form
    ≡ node 16 false (kind.Binary fbin.Add (node 16 false (kind.Resize (node 4 true (kind.Var 2)))) (node 16 false (kind.Resize (node 8 false (kind.Word 3 (index_of (pick.Bit (node 8 false (kind.Var 1)))))))))
word_form = refl

compared_form : (in_context (Some (16, true)) (binary bin.Lt (name 2) (sized 14 26)).operand).form
    ≡ node 16 false (kind.Resize (node 1 false (kind.Binary fbin.Lt (node 8 true (kind.Resize (node 4 true (kind.Var 2)))) (node 8 true (kind.Num (word 8 0))))))
compared_form = refl
