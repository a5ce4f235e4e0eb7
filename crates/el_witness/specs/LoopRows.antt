-- Refused designs and their neighbours for the rules on loops and sizes, as `RuleRows` has them. To keep them short, the functions of two of them have no inputs, as those
-- of no source do. All of it is this project's own.
use Rattle.std.specs.Prelude.{ℕ, zero, suc, List, [], ◌∷◌, replicate}
use Rattle.el_design.specs.declared.expressions.BinOp.TheVariants as op
use Rattle.el_design.specs.Plain.{Expr, NetValue, Variable, Binary, Call, NoExpr, Statement, Null, For, While, If, FlatNet, FlatTask, FlatFunc, Flat}
use Rattle.el_design.specs.Witnesses.{at, variable, input, list}
use Rattle.el_witness.specs.Bench.{u, un}
use Rattle.el_witness.specs.RuleRows.{read, byte, plus, assign, wait, block, enable, initial, always, wire, design, with_function}

-- ---- rule 61: a walk through a loop without a wait

abbrev pub pins : List FlatNet
pins = input 2 1 ∷ input 3 1 ∷ []

abbrev pub a : Expr
a = NetValue (u 1) 1

-- 1 module m(
-- 2   input clk,
-- 3   input a);
-- 4 always
-- 5   begin
-- 6     if (a)
-- 7       @(posedge clk);
-- 8     ; end endmodule       against   8 else @(posedge clk); end endmodule
abbrev pub waits_if : Statement → Flat
waits_if otherwise = record (design [] pins (always 4 (block 5 (If (at 6) a (wait 7) otherwise ∷ [])) ∷ [])) { inputs = 1 ∷ [] }

-- 4 reg [7:0] x;
-- 5 initial
-- 6   while (a)
-- 7     begin
-- 8       x = 8'd1;
-- 9       ; end endmodule     against   9 @(posedge clk); end endmodule
abbrev pub loops_while : Statement → Flat
loops_while last = record (design (variable 4 8 ∷ []) pins (initial 5 (While (at 6) a (block 7 (assign 8 0 (byte 1) ∷ last ∷ []))) ∷ [])) { inputs = 1 ∷ [] }

-- in the function of rule 50's rows: 6 while (y) 7 f = y;   against   6 if (y) 7 f = y;
abbrev pub loops_inside : Flat
loops_inside = with_function (While (at 6) (read 2) (assign 7 1 (read 2)) ∷ [])

abbrev pub tests_inside : Flat
tests_inside = with_function (If (at 6) (read 2) (assign 7 1 (read 2)) Null ∷ [])

-- ---- rules 83 and 84: the turns of a loop of constant bound

abbrev pub i : Expr
i = Variable (u 32) 1

abbrev pub below : ℕ → Expr
below n = Binary (u 1) op.Lt i (un 32 n)

abbrev pub next_i : Expr
next_i = Binary (u 32) op.Add i (un 32 1)

abbrev pub more_x : ℕ → Statement
more_x line = assign line 0 (plus (read 0) (byte 1))

-- 1 module m;
-- 2 reg [7:0] x;
-- 3 reg [31:0] i;
-- 4 initial
-- 5   for (i = 0; ..; i = i + 1)
-- 6     begin
-- 7       x = x + 8'd1;
-- 8       ..
-- 9     end endmodule
abbrev pub body : Statement → Statement
body second = block 6 (more_x 7 ∷ second ∷ [])

abbrev pub loop : Expr → Statement → Statement
loop test second = For (at 5) 1 (un 32 0) test next_i (body second)

abbrev pub counts : Expr → Statement → Flat
counts test second = design (variable 2 8 ∷ variable 3 32 ∷ []) [] (initial 4 (loop test second) ∷ [])

-- 5 for (i = 0; i < 1025; ..) 8 ;   against   i < 1024
abbrev pub takes : ℕ → Flat
takes n = counts (below n) Null

-- 5 for (i = 0; i >= 0; ..) 8 ;   against   8 @(posedge clk);
abbrev pub never_ends : Statement → Flat
never_ends second = counts (Binary (u 1) op.Ge i (un 32 0)) second

-- ---- rule 84: sizes

-- 5 for (i = 0; i < 1000; ..) 8 x = x + 8'd1;, at the process   against   i < 900: a turn counts 21
abbrev pub adds_twice : ℕ → Flat
adds_twice n = counts (below n) (more_x 8)

-- 1 module m(
-- 2   input clk);
-- 3 initial
-- 4   begin, and so many lines of @(posedge clk);
abbrev pub waits : ℕ → Statement
waits n = list (replicate n (wait 4))

-- 512 of them, at the process   against   511
abbrev pub waits_alone : ℕ → Flat
waits_alone n = design [] (input 2 1 ∷ []) (initial 3 (waits n) ∷ [])

-- 500 of them in each of two processes, at the module   against   499
abbrev pub waits_beside : ℕ → Flat
waits_beside n = design [] (input 2 1 ∷ []) (initial 3 (waits n) ∷ initial 5 (waits n) ∷ [])

-- functions of which each but the first adds two calls of the one before it, and a net on line 4 that calls the last: 17, at the module   against   16
abbrev pub two_calls : ℕ → Expr
two_calls zero = byte 1
two_calls (suc k) = plus (Call (u 8) k NoExpr) (Call (u 8) k NoExpr)

abbrev pub doubling_function : ℕ → FlatFunc
doubling_function k = record { ins = []; locals = []; result = k; body = assign 3 k (two_calls k) }

abbrev pub doubling_functions : ℕ → ℕ → List FlatFunc
doubling_functions j zero = []
doubling_functions j (suc n) = doubling_function j ∷ doubling_functions (suc j) n

abbrev pub doubles_in_net : ℕ → Flat
doubles_in_net k = record (design (replicate (suc k) (variable 2 8)) (wire 4 (Call (u 8) k NoExpr) ∷ []) []) { funcs = doubling_functions 0 (suc k) }

-- ---- rule 82: nesting, and sizes with each loop counted once

-- tasks of which each but the first enables the one before it, and a process on line 3 that enables the last: 65, at the process   against   64
abbrev pub one_down : ℕ → Statement
one_down zero = Null
one_down (suc k) = enable 2 k

abbrev pub chained_task : ℕ → FlatTask
chained_task k = record { mark = k; ins = []; outs = []; body = one_down k }

abbrev pub chained_tasks : ℕ → ℕ → List FlatTask
chained_tasks j zero = []
chained_tasks j (suc n) = chained_task j ∷ chained_tasks (suc j) n

abbrev pub enables_chain : ℕ → Flat
enables_chain k = record (design [] [] (initial 3 (enable 4 k) ∷ [])) { tasks = chained_tasks 0 (suc k); marks = suc k }

-- functions of which each but the first calls the one before it, and a net on line 4 that calls the last: 65, at the net   against   64
abbrev pub one_call : ℕ → Expr
one_call zero = byte 1
one_call (suc k) = Call (u 8) k NoExpr

abbrev pub chained_function : ℕ → FlatFunc
chained_function k = record { ins = []; locals = []; result = k; body = assign 3 k (one_call k) }

abbrev pub chained_functions : ℕ → ℕ → List FlatFunc
chained_functions j zero = []
chained_functions j (suc n) = chained_function j ∷ chained_functions (suc j) n

abbrev pub calls_chain : ℕ → Flat
calls_chain k = record (design (replicate (suc k) (variable 2 8)) (wire 4 (Call (u 8) k NoExpr) ∷ []) []) { funcs = chained_functions 0 (suc k) }

-- tasks of which each but the first enables the one before it twice, and a process on line 3 that enables the last: 13, at the process   against   12
abbrev pub two_down : ℕ → Statement
two_down zero = Null
two_down (suc k) = block 2 (enable 2 k ∷ enable 2 k ∷ [])

abbrev pub doubling_task : ℕ → FlatTask
doubling_task k = record { mark = k; ins = []; outs = []; body = two_down k }

abbrev pub doubling_tasks : ℕ → ℕ → List FlatTask
doubling_tasks j zero = []
doubling_tasks j (suc n) = doubling_task j ∷ doubling_tasks (suc j) n

abbrev pub enables_twice : ℕ → Flat
enables_twice k = record (design [] [] (initial 3 (enable 4 k) ∷ [])) { tasks = doubling_tasks 0 (suc k); marks = suc k }
