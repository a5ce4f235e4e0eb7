-- A design with a task that waits, a `disable` across two enables, a counted loop, an import with an output, a memory, a function, and
-- two processes over a net. A task, the import and the function are each given an argument that is wider than what takes it. It is checked.
-- All of it is this project's own.
use Rattle.std.specs.Prelude.{ℕ, true, false, List, [], ◌∷◌, Some, None}
use Rattle.xt_bits.specs.Word.{word}
use Rattle.el_design.specs.declared.designs.Var.{Var}
use Rattle.el_design.specs.declared.designs.Port.{Port}
use Rattle.el_design.specs.declared.designs.Import.{Import}
use Rattle.el_design.specs.declared.designs.Source.TheVariants as source
use Rattle.el_design.specs.declared.expressions.BinOp.TheVariants as op
use Rattle.el_design.specs.Plain.{Shape, Expr, Number, NetValue, Variable, MemoryWord, Binary, Choice, Concat, Call, NoExpr, More, ToVariable, ToWord, Statement, Null, Block, Assign, If, For, While, Wait, Enable, Disable, Host, FlatNet, FlatTask, FlatFunc, FlatProc, Flat}
use Rattle.el_design.specs.Witnesses.{at, variable, input, eight, list}

-- 1 module meter(
-- 2   input clk,
-- 3   input [7:0] d,
-- 4   output reg [7:0] q,
-- 5   output reg [7:0] peak);
-- 6 import "DPI-C" function byte unsigned ask(input byte unsigned x, output byte unsigned y);
-- 7 reg [7:0] sample;
-- 8 reg [7:0] answer;
-- 9 reg [7:0] extra;
-- 10 reg [7:0] sums [0:3];
-- 11 integer i;
-- line 12: wire [7:0] next = q + 8'd1;
-- 13 function [7:0] larger(
-- 14   input [7:0] a,
-- 15   input [7:0] b);
-- 16   larger = a > b ? a : b;
-- 17 endfunction
-- 18 task until_up;
-- 19   while (d == 8'd0) begin
-- 20     @(posedge clk);
-- 21     if (d == 8'd255)
-- 22       disable txn;
-- 23   end
-- 24 endtask
-- 25 task fetch(input [7:0] more, output [7:0] o);
-- 26   begin
-- 27     until_up;
-- 28     o = d + more;
-- 29   end
-- 30 endtask
-- 31 always begin
-- 32   begin : txn
-- 33     fetch(16'd256, sample);
-- 34     answer = ask({8'd1, sample}, extra);
-- 35     for (i = 0; i < 4; i = i + 1)
-- 36       sums[i] = sums[i] + extra;
-- 37     q <= larger(answer, sums[2]);
-- 38   end
-- 39   @(posedge clk);
-- 40 end
-- 41 always begin
-- 42   @(posedge clk);
-- 43   peak <= larger({1'b1, next}, peak);
-- 44 end
-- 45 endmodule

-- ---- variables, in the order of their numbers

-- line 4: output reg [7:0] q
abbrev pub q_var : ℕ
q_var = 0

-- line 5: output reg [7:0] peak
abbrev pub peak_var : ℕ
peak_var = 1

-- line 7: reg [7:0] sample
abbrev pub sample_var : ℕ
sample_var = 2

-- line 8: reg [7:0] answer
abbrev pub answer_var : ℕ
answer_var = 3

-- line 9: reg [7:0] extra
abbrev pub extra_var : ℕ
extra_var = 4

-- line 10: reg [7:0] sums [0:3]
abbrev pub sums_var : ℕ
sums_var = 5

-- line 11: integer i
abbrev pub i_var : ℕ
i_var = 6

-- line 13: what `larger` gives
abbrev pub larger_var : ℕ
larger_var = 7

-- line 14: input [7:0] a
abbrev pub a_var : ℕ
a_var = 8

-- line 15: input [7:0] b
abbrev pub b_var : ℕ
b_var = 9

-- line 25: input [7:0] more
abbrev pub more_var : ℕ
more_var = 10

-- line 25: output [7:0] o
abbrev pub o_var : ℕ
o_var = 11

abbrev pub variables : List Var
variables =
    variable 4 8 ∷ variable 5 8 ∷ variable 7 8 ∷ variable 8 8 ∷ variable 9 8 ∷ record (variable 10 8) { words = 4 } ∷ record (variable 11 32) { signed = true }
    ∷ variable 13 8 ∷ variable 14 8 ∷ variable 15 8 ∷ variable 25 8 ∷ variable 25 8 ∷ []

-- ---- expressions

abbrev pub one_bit : Shape
one_bit = record { width = 1; signed = false }

abbrev pub whole : Shape
whole = record { width = 32; signed = true }

abbrev pub shape : ℕ → Shape
shape w = record { width = w; signed = false }

abbrev pub byte : ℕ → Expr
byte n = Number eight (word 8 n)

-- one expression above another, of so many bits together
abbrev pub joined : ℕ → Expr → Expr → Expr
joined w a b = Concat (shape w) (More a (More b NoExpr))

abbrev pub int : ℕ → Expr
int n = Number whole (word 32 n)

abbrev pub read : ℕ → Expr
read v = Variable eight v

abbrev pub d_value : Expr
d_value = NetValue eight 1

abbrev pub i_value : Expr
i_value = Variable whole i_var

abbrev pub larger_of : Expr → Expr → Expr
larger_of a b = Call eight 0 (More a (More b NoExpr))

-- ---- nets, functions and tasks

-- 12 wire [7:0] next = q + 8'd1;
abbrev pub next : FlatNet
next = record (input 12 8) { value = Some (Binary eight op.Add (read q_var) (byte 1)) }

-- line 6: import "DPI-C" function byte unsigned ask(input byte unsigned x, output byte unsigned y);
abbrev pub ask : Import
ask = let unsigned_byte : Port = record { width = 8; signed = false } in record { name = []; ins = unsigned_byte ∷ []; result = Some unsigned_byte; outs = unsigned_byte ∷ [] }

-- lines 13 to 17: function [7:0] larger(input [7:0] a, input [7:0] b); larger = a > b ? a : b; endfunction
abbrev pub larger : FlatFunc
larger = record {
  ins = a_var ∷ b_var ∷ [];
  locals = [];
  result = larger_var;
  body = Assign (at 16) (ToVariable larger_var) (Choice eight (Binary one_bit op.Gt (read a_var) (read b_var)) (read a_var) (read b_var)) false;
}

-- the marks: of the tasks, and of the block
abbrev pub until_up_mark : ℕ
until_up_mark = 0

abbrev pub fetch_mark : ℕ
fetch_mark = 1

abbrev pub txn_mark : ℕ
txn_mark = 2

-- lines 19 to 23: begin @(posedge clk); if (d == 8'd255) disable txn; end
abbrev pub waits_or_leaves : Statement
waits_or_leaves = Block (at 19) None (list (Wait (at 20) false ∷ If (at 21) (Binary one_bit op.Eq d_value (byte 255)) (Disable (at 22) txn_mark) Null ∷ []))

-- line 19: while (d == 8'd0) ..
abbrev pub until_up_loop : Statement
until_up_loop = While (at 19) (Binary one_bit op.Eq d_value (byte 0)) waits_or_leaves

-- line 18: task until_up; .. endtask
abbrev pub until_up : FlatTask
until_up = record {
  mark = until_up_mark;
  ins = [];
  outs = [];
  body = until_up_loop;
}

-- lines 25 to 30: task fetch(input [7:0] more, output [7:0] o); begin until_up; o = d + more; end endtask
abbrev pub fetch : FlatTask
fetch = record {
  mark = fetch_mark;
  ins = more_var ∷ [];
  outs = o_var ∷ [];
  body = Block (at 26) None (list (Enable (at 27) 0 [] [] ∷ Assign (at 28) (ToVariable o_var) (Binary eight op.Add d_value (read more_var)) false ∷ []));
}

-- ---- processes

-- line 36: sums[i] = sums[i] + extra;
abbrev pub adds_extra : Statement
adds_extra = Assign (at 36) (ToWord sums_var i_value) (Binary eight op.Add (MemoryWord eight sums_var i_value) (read extra_var)) false

-- line 35: for (i = 0; i < 4; i = i + 1) ..
abbrev pub four_turns : Statement
four_turns = For (at 35) i_var (int 0) (Binary one_bit op.Lt i_value (int 4)) (Binary whole op.Add i_value (int 1)) adds_extra

-- lines 32 to 38: begin : txn fetch(16'd256, sample); answer = ask({8'd1, sample}, extra); for .. q <= larger(answer, sums[2]); end
abbrev pub txn : Statement
txn = Block (at 32) (Some txn_mark) (list (
    Enable (at 33) 1 (Number (shape 16) (word 16 256) ∷ []) (ToVariable sample_var ∷ [])
    ∷ Host (at 34) 0 (joined 16 (byte 1) (read sample_var) ∷ []) (Some (ToVariable answer_var)) (ToVariable extra_var ∷ [])
    ∷ four_turns
    ∷ Assign (at 37) (ToVariable q_var) (larger_of (read answer_var) (MemoryWord eight sums_var (int 2))) true
    ∷ []))

-- lines 31 to 40: always begin begin : txn .. end @(posedge clk); end
abbrev pub asking : FlatProc
asking = record { always = true; body = Block (at 31) None (list (txn ∷ Wait (at 39) false ∷ [])); place = at 31 }

-- lines 41 to 44: always begin @(posedge clk); peak <= larger({1'b1, next}, peak); end
abbrev pub keeping_peak : FlatProc
keeping_peak = record {
  always = true;
  body = Block (at 41) None (list (Wait (at 42) false ∷ Assign (at 43) (ToVariable peak_var) (larger_of (joined 9 (Number one_bit (word 1 1)) (NetValue eight 2)) (read peak_var)) true ∷ []));
  place = at 41;
}

-- the module
abbrev pub meter : Flat
meter = record {
  vars = variables;
  nets = input 2 1 ∷ input 3 8 ∷ next ∷ [];
  tasks = until_up ∷ fetch ∷ [];
  funcs = larger ∷ [];
  imports = ask ∷ [];
  procs = asking ∷ keeping_peak ∷ [];
  marks = 3;
  inputs = 1 ∷ [];
  outputs = record { name = []; from = source.Var q_var } ∷ record { name = []; from = source.Var peak_var } ∷ [];
  head = at 1;
}
