-- A design whose parts the rows of operators and targets name. All of it is this project's own.
use Rattle.std.specs.Prelude.{◌≡◌, ℕ, Bool, true, false, List, [], ◌∷◌, map, All, neg_ℤ, pos}
use Rattle.xt_bits.specs.Word.{Word, word, int_word}
use Rattle.el_design.specs.declared.designs.Var.{Var}
use Rattle.el_design.specs.declared.expressions.BinOp.TheVariants as op
use Rattle.el_design.specs.Plain.{Shape, Expr, Number, Variable, Binary, Lvalue, ToVariable, Assign, FlatFunc, Flat}
use Rattle.el_design.specs.Store.{Store, put_all}
use Rattle.el_design.specs.Value.{Scene, value}
use Rattle.el_design.specs.Function.{call_of}
use Rattle.el_design.specs.Assign.{writes_of, copies_to}
use Rattle.el_design.specs.Sound.{IsExpr, IsTarget}
use Rattle.el_design.specs.Witnesses.{at, variable, input}

-- ---- shapes, literals and words

abbrev pub u : ℕ → Shape
u w = record { width = w; signed = false }

abbrev pub s : ℕ → Shape
s w = record { width = w; signed = true }

-- n as an unsigned literal of this width, and as a signed one
abbrev pub un : ℕ → ℕ → Expr
un w n = Number (u w) (word w n)

abbrev pub sn : ℕ → ℕ → Expr
sn w n = Number (s w) (word w n)

-- a word that stands for -n
abbrev pub minus : ℕ → ℕ → Word
minus w n = int_word w (neg_ℤ (pos n))

-- ---- the design

-- 1 module bench(
-- 2   input [7:0] n);
-- 3 reg [7:0] a;
-- 4 reg [11:4] h;
-- 5 reg [7:0] m [2:5];
-- 6 reg [7:0] b;
-- 7 function [7:0] f(
-- 8   input [7:0] x);
-- 9   f = x + 8'd100;
-- 10 endfunction
-- 11 endmodule
abbrev pub a_var : ℕ
a_var = 0

abbrev pub h_var : ℕ
h_var = 1

abbrev pub m_var : ℕ
m_var = 2

abbrev pub b_var : ℕ
b_var = 3

abbrev pub variables : List Var
variables = variable 3 8 ∷ record (variable 4 8) { lsb = 4 } ∷ record (variable 5 8) { words = 4; low = 2 } ∷ variable 6 8 ∷ variable 7 8 ∷ variable 8 8 ∷ []

abbrev pub f : FlatFunc
f = record { ins = 5 ∷ []; locals = []; result = 4; body = Assign (at 9) (ToVariable 4) (Binary (u 8) op.Add (Variable (u 8) 5) (un 8 100)) false }

abbrev pub bench : Flat
bench = record { vars = variables; nets = input 2 8 ∷ []; tasks = []; funcs = f ∷ []; imports = []; procs = []; marks = 0; inputs = 0 ∷ []; outputs = []; head = at 1 }

abbrev pub bytes : List ℕ → List Word
bytes ns = map (word 8) ns

-- what `a`, `h`, the words of `m` from the lowest, and `b` hold; the function's variables hold 0
abbrev pub holding : ℕ → ℕ → List ℕ → ℕ → Store
holding a h m b = bytes (a ∷ []) ∷ bytes (h ∷ []) ∷ bytes m ∷ bytes (b ∷ []) ∷ bytes (0 ∷ []) ∷ bytes (0 ∷ []) ∷ []

-- `a` holds 4, `h` a5, `m[2]` to `m[5]` 11, 22, 33 and 44 (all hexadecimal), `b` 2; and 77 is on `n`
abbrev pub scene : Scene
scene = record { call = call_of bench; nets = bytes (0x77 ∷ []); store = holding 4 0xa5 (0x11 ∷ 0x22 ∷ 0x33 ∷ 0x44 ∷ []) 2 }

-- ---- rows

-- an expression and its value
abbrev pub Row : Type 0
Row = Expr × Word

abbrev pub IsMade : Row → Type 0
IsMade r = IsExpr bench r.0

-- each expression is well made, and has its value
abbrev pub AreRight : List Row → Type 0
AreRight rows = All IsMade rows × (map (λ r. value bench scene r.0) rows ≡ map (λ r. r.1) rows)

-- a target, what is assigned to it, and what is held then
abbrev pub Stores : Type 0
Stores = Lvalue × Expr × Store

abbrev pub IsStored : Stores → Type 0
IsStored r = (w : ℕ) × IsTarget bench r.0 w

abbrev pub held_after : Stores → Store
held_after r = put_all scene.store (writes_of bench scene r.0 (value bench scene r.1))

abbrev pub AreStored : List Stores → Type 0
AreStored rows = All IsStored rows × (map held_after rows ≡ map (λ r. r.2) rows)

-- a target to which a formal is copied out, the formal's value and sign, and what is held then
pub record Copies : Type 0 where
  pub to : Lvalue
  pub formal : Word
  pub signed : Bool
  pub held : Store

abbrev pub held_copied : Copies → Store
held_copied c = put_all scene.store (copies_to bench scene c.to c.formal c.signed)

abbrev pub AreCopied : List Copies → Type 0
AreCopied rows = map held_copied rows ≡ map (λ c. c.held) rows
