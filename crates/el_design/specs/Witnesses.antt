-- Small designs that are checked: the laws of checked designs speak of something. All of it is this project's own.
use Rattle.std.specs.Prelude.{ℕ, true, false, List, [], ◌∷◌, None}
use Rattle.xt_base.specs.declared.refusals.Place.{Place}
use Rattle.xt_bits.specs.Word.{word}
use Rattle.el_design.specs.declared.designs.Var.{Var}
use Rattle.el_design.specs.declared.designs.Source.TheVariants as source
use Rattle.el_design.specs.declared.expressions.BinOp.TheVariants as op
use Rattle.el_design.specs.Plain.{Shape, Expr, Number, NetValue, Variable, Binary, ToVariable, Statement, Skip, Seq, Block, Assign, Wait, FlatNet, FlatProc, Flat}

abbrev pub at : ℕ → Place
at line = record { file = 0; line = line; instance = 0 }

-- a variable and an input of this width, declared on this line
abbrev pub variable : ℕ → ℕ → Var
variable line w = record { name = []; width = w; signed = false; lsb = 0; words = 0; low = 0; start = word w 0; place = at line }

abbrev pub input : ℕ → ℕ → FlatNet
input line w = record { width = w; signed = false; lsb = 0; value = None; place = at line }

-- an unsigned byte
abbrev pub eight : Shape
eight = record { width = 8; signed = false }

abbrev pub list : List Statement → Statement
list [] = Skip
list (s ∷ ss) = Seq s (list ss)

-- ---- two waits, and an assignment after each

abbrev pub sum : Expr
sum = Binary eight op.Add (Variable eight 0) (Number eight (word 8 1))

abbrev pub takes_input : Statement
takes_input = Assign (at 7) (ToVariable 0) (NetValue eight 1) true

abbrev pub adds_one : Statement
adds_one = Assign (at 9) (ToVariable 0) sum true

abbrev pub twice_waiting : Statement
twice_waiting = Block (at 5) None (list (Wait (at 6) false ∷ takes_input ∷ Wait (at 8) false ∷ adds_one ∷ []))

abbrev pub process : FlatProc
process = record { always = true; body = twice_waiting; place = at 5 }

-- 1 module m(
-- 2   input clk,
-- 3   input [7:0] a,
-- 4   output reg [7:0] x);
-- 5 always begin
-- 6   @(posedge clk);
-- 7   x <= a;
-- 8   @(posedge clk);
-- 9   x <= x + 8'd1;
-- 10 end endmodule
abbrev pub two_waits : Flat
two_waits = record {
  vars = variable 4 8 ∷ [];
  nets = input 2 1 ∷ input 3 8 ∷ [];
  tasks = [];
  funcs = [];
  imports = [];
  procs = process ∷ [];
  marks = 0;
  inputs = 1 ∷ [];
  outputs = record { name = []; from = source.Var 0 } ∷ [];
  head = at 1;
}
