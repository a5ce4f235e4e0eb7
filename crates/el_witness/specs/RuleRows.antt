-- For each rule of refusal on flat designs a design that breaks it, with the line of the break, and a neighbour that doesn't break it. Each part stands on a line of its own.
-- All of it is this project's own.
use Rattle.std.specs.Prelude.{ℕ, true, false, List, [], ◌∷◌, Some, None}
use Rattle.xt_base.specs.declared.refusals.Place.{Place}
use Rattle.el_design.specs.declared.designs.Var.{Var}
use Rattle.el_design.specs.declared.designs.Import.{Import}
use Rattle.el_design.specs.declared.expressions.BinOp.TheVariants as op
use Rattle.el_design.specs.Plain.{Expr, NetValue, Variable, Binary, Call, NoExpr, More, Lvalue, ToVariable, Statement, Null, Block, Assign, If, Wait, Enable, Disable, Host, FlatNet, FlatTask, FlatProc, Flat}
use Rattle.el_design.specs.Witnesses.{at, variable, input, list}
use Rattle.el_witness.specs.Bench.{u, un}

-- the one breaks a rule on this line, and the other breaks it nowhere
abbrev pub Row : (Flat → Place → Type 0) → Flat → ℕ → Flat → Type 0
Row rule refused line accepted = rule refused (at line) × ((place : Place) → rule accepted place → ⊥)

-- ---- parts of designs, each with its line

abbrev pub read : ℕ → Expr
read v = Variable (u 8) v

abbrev pub byte : ℕ → Expr
byte n = un 8 n

abbrev pub plus : Expr → Expr → Expr
plus a b = Binary (u 8) op.Add a b

-- `v = e;` and `v <= e;`
abbrev pub assign : ℕ → ℕ → Expr → Statement
assign line v e = Assign (at line) (ToVariable v) e false

abbrev pub later : ℕ → ℕ → Expr → Statement
later line v e = Assign (at line) (ToVariable v) e true

abbrev pub wait : ℕ → Statement
wait line = Wait (at line) false

abbrev pub block : ℕ → List Statement → Statement
block line ss = Block (at line) None (list ss)

abbrev pub named : ℕ → ℕ → List Statement → Statement
named line mark ss = Block (at line) (Some mark) (list ss)

abbrev pub enable : ℕ → ℕ → Statement
enable line t = Enable (at line) t [] []

abbrev pub initial : ℕ → Statement → FlatProc
initial line body = record { always = false; body = body; place = at line }

abbrev pub always : ℕ → Statement → FlatProc
always line body = record { always = true; body = body; place = at line }

abbrev pub wire : ℕ → Expr → FlatNet
wire line e = record (input line 8) { value = Some e }

-- a design whose module begins on line 1
abbrev pub design : List Var → List FlatNet → List FlatProc → Flat
design vars nets procs = record { vars = vars; nets = nets; tasks = []; funcs = []; imports = []; procs = procs; marks = 0; inputs = []; outputs = []; head = at 1 }

-- imports without arguments: `function void h();` and `function byte unsigned h();`
abbrev pub void : Import
void = record { name = []; ins = []; outs = []; result = None }

abbrev pub giving : Import
giving = record void { result = Some (record { width = 8; signed = false }) }

-- ---- rule 50: what a function may do

-- 1 module m;
-- 2 reg [7:0] x;
-- 3 function [7:0] f(
-- 4   input [7:0] y);
-- 5 begin
-- 6   ..
-- 7   ..
-- 8 end endfunction endmodule
abbrev pub with_function : List Statement → Flat
with_function ss = record (design (variable 2 8 ∷ variable 3 8 ∷ variable 4 8 ∷ []) [] []) { funcs = record { ins = 2 ∷ []; locals = []; result = 1; body = block 5 ss } ∷ [] }

-- 6 f = y; 7 f <= y;   against   7 f = y;
abbrev pub holds_back : Flat
holds_back = with_function (assign 6 1 (read 2) ∷ later 7 1 (read 2) ∷ [])

abbrev pub assigns : Flat
assigns = with_function (assign 6 1 (read 2) ∷ assign 7 1 (read 2) ∷ [])

-- 6 f = y; 7 @(posedge clk);
abbrev pub waits_inside : Flat
waits_inside = with_function (assign 6 1 (read 2) ∷ wait 7 ∷ [])

-- 6 f = y; 7 f = x;   against   7 f = y;
abbrev pub names_outside : Flat
names_outside = with_function (assign 6 1 (read 2) ∷ assign 7 1 (read 0) ∷ [])

-- 6 f = y; 7 t;, where t is a task of the module
abbrev pub enables_inside : Flat
enables_inside = record (with_function (assign 6 1 (read 2) ∷ enable 7 0 ∷ [])) { tasks = record { mark = 0; ins = []; outs = []; body = Null } ∷ []; marks = 1 }

-- 6 f = y; 7 h();, where h is a void import
abbrev pub calls_inside : Flat
calls_inside = record (with_function (assign 6 1 (read 2) ∷ Host (at 7) 0 [] None [] ∷ [])) { imports = void ∷ [] }

-- 6 f = y; 7 f = n;, where n is an input of the module
abbrev pub names_net : Flat
names_net = record (with_function (assign 6 1 (read 2) ∷ assign 7 1 (NetValue (u 8) 0) ∷ [])) { nets = input 2 8 ∷ [] }

-- 6 f = y; 7 f = h() + 8'd1;, where h is an import, whose number is 1
abbrev pub names_import : Flat
names_import = record (with_function (assign 6 1 (read 2) ∷ assign 7 1 (plus (Call (u 8) 1 NoExpr) (byte 1)) ∷ [])) { imports = giving ∷ [] }

-- reg [7:0] v; 6 v = y; 7 f = v;, of the module   against   of the function
abbrev pub with_variable : List ℕ → Flat
with_variable locals = record (design (variable 2 8 ∷ variable 3 8 ∷ variable 4 8 ∷ variable 5 8 ∷ []) [] []) {
  funcs = record { ins = 2 ∷ []; locals = locals; result = 1; body = block 5 (assign 6 3 (read 2) ∷ assign 7 1 (read 3) ∷ []) } ∷ [];
}

-- 6 f = f + y;, at the name of the function   against   6 f = y; 7 f = f + y;
abbrev pub reads_early : Flat
reads_early = with_function (assign 6 1 (plus (read 1) (read 2)) ∷ [])

abbrev pub reads_late : Flat
reads_late = with_function (assign 6 1 (read 2) ∷ assign 7 1 (plus (read 1) (read 2)) ∷ [])

-- 6 if (y) 7 f = y;, at the name of the function   against   7 f = y; else 8 f = 8'd0;
abbrev pub leaves_result : Flat
leaves_result = with_function (If (at 6) (read 2) (assign 7 1 (read 2)) Null ∷ [])

abbrev pub gives_result : Flat
gives_result = with_function (If (at 6) (read 2) (assign 7 1 (read 2)) (assign 8 1 (byte 0)) ∷ [])

-- ---- rule 51: recursion

-- 1 module m;
-- 2 task t;
-- 3   u; endtask          against   3 ; endtask
-- 4 task u;
-- 5   t; endtask
-- 6 initial
-- 7   u; endmodule
abbrev pub two_tasks : Statement → Flat
two_tasks first = record (design [] [] (initial 6 (enable 7 1) ∷ [])) {
  tasks = record { mark = 0; ins = []; outs = []; body = first } ∷ record { mark = 1; ins = []; outs = []; body = enable 5 0 } ∷ [];
  marks = 2;
}

abbrev pub tasks_in_circle : Flat
tasks_in_circle = two_tasks (enable 3 1)

abbrev pub tasks_in_line : Flat
tasks_in_line = two_tasks Null

-- 1 module m;
-- 2 function [7:0] g(
-- 3   input [7:0] z);
-- 4   g = z; endfunction
-- 5 function [7:0] f(
-- 6   input [7:0] y);
-- 7   f = f(y); endfunction endmodule   against   7 f = g(y);
abbrev pub two_functions : ℕ → Flat
two_functions called = record (design (variable 2 8 ∷ variable 3 8 ∷ variable 5 8 ∷ variable 6 8 ∷ []) [] []) {
  funcs =
      record { ins = 1 ∷ []; locals = []; result = 0; body = assign 4 0 (read 1) }
      ∷ record { ins = 3 ∷ []; locals = []; result = 2; body = assign 7 2 (Call (u 8) called (More (read 3) NoExpr)) } ∷ [];
}

-- ---- rule 52: arguments

-- 1 module m;
-- 2 reg [7:0] x;
-- 3 task t(
-- 4   input [7:0] y);
-- 5   x = y; endtask
-- 6 initial
-- 7   t; endmodule          against   7 t(8'd1);
abbrev pub enables_with : List Expr → Flat
enables_with ins = record (design (variable 2 8 ∷ variable 4 8 ∷ []) [] (initial 6 (Enable (at 7) 0 ins []) ∷ [])) {
  tasks = record { mark = 0; ins = 1 ∷ []; outs = []; body = assign 5 0 (read 1) } ∷ [];
  marks = 1;
}

-- 3 task t(
-- 4   output [7:0] y);
-- 5   y = 8'd1; endtask
-- 6 initial
-- 7   t(x + 8'd1); endmodule   against   7 t(x);   and   7 t;
abbrev pub copies_all : List Lvalue → Flat
copies_all outs = record (design (variable 2 8 ∷ variable 4 8 ∷ []) [] (initial 6 (Enable (at 7) 0 [] outs) ∷ [])) {
  tasks = record { mark = 0; ins = []; outs = 1 ∷ []; body = assign 5 1 (byte 1) } ∷ [];
  marks = 1;
}

abbrev pub copies_to : Lvalue → Flat
copies_to to = copies_all (to ∷ [])

-- 1 module m;
-- 2 reg [7:0] x;
-- 3 import "DPI-C" function void h();   or   byte unsigned h()
-- 4 initial
-- 5   h(8'd1);   against   5 h();   and   5 x = h();   against the same with a result
abbrev pub calls_host : Import → Statement → Flat
calls_host f body = record (design (variable 2 8 ∷ []) [] (initial 4 body ∷ [])) { imports = f ∷ [] }

abbrev pub host_of : List Expr → Statement
host_of ins = Host (at 5) 0 ins None []

abbrev pub host_to_x : Statement
host_to_x = Host (at 5) 0 [] (Some (ToVariable 0)) []

-- 1 module m;
-- 2 reg [7:0] x;
-- 3 function [7:0] f(
-- 4   input [7:0] y);
-- 5   f = y; endfunction
-- 6 wire [7:0] n = ..;
-- 7 initial
-- 8   x = ..; endmodule       each of f() and f(8'd1)
abbrev pub calls_with : Expr → Expr → Flat
calls_with of_net of_statement = record (design (variable 2 8 ∷ variable 3 8 ∷ variable 4 8 ∷ []) (wire 6 of_net ∷ []) (initial 7 (assign 8 0 of_statement) ∷ [])) {
  funcs = record { ins = 2 ∷ []; locals = []; result = 1; body = assign 5 1 (read 2) } ∷ [];
}

abbrev pub bare_call : Expr
bare_call = Call (u 8) 0 NoExpr

abbrev pub full_call : Expr
full_call = Call (u 8) 0 (More (byte 1) NoExpr)

-- ---- rule 53: disables

-- 5 begin : b 6 f = y; 7 disable b;   against   7 ;
abbrev pub with_block : Statement → Flat
with_block second = record (with_function (named 5 0 (assign 6 1 (read 2) ∷ second ∷ []) ∷ [])) { marks = 1 }

-- 1 module m;
-- 2 reg [7:0] x;
-- 3 initial
-- 4   begin : b
-- 5     x = 8'd1;
-- 6     ; end                 against   6 disable b; end
-- 7 initial
-- 8   disable b; endmodule    against   8 ; endmodule
abbrev pub beside_block : Statement → Statement → Flat
beside_block own other = record (design (variable 2 8 ∷ []) [] (initial 3 (named 4 0 (assign 5 0 (byte 1) ∷ own ∷ [])) ∷ initial 7 other ∷ [])) { marks = 1 }

-- 1 module m;
-- 2 reg [7:0] x;
-- 3 task t;
-- 4   begin : b
-- 5     x = 8'd1; end endtask
-- 6 initial begin
-- 7   ;                       against   7 t;
-- 8   disable t.b; end endmodule
abbrev pub idle_task : FlatTask
idle_task = record { mark = 0; ins = []; outs = []; body = named 4 1 (assign 5 0 (byte 1) ∷ []) }

abbrev pub disables_in_task : Statement → Flat
disables_in_task first = record (design (variable 2 8 ∷ []) [] (initial 6 (block 6 (first ∷ Disable (at 8) 1 ∷ [])) ∷ [])) { tasks = idle_task ∷ []; marks = 2 }

-- 1 module m(input clk);
-- 2 task t;
-- 3   begin : b
-- 4     @(posedge clk);
-- 5     disable b; end endtask
-- 6 always
-- 7   t;
-- 8 always
-- 9   t; endmodule            against   9 @(posedge clk); endmodule
abbrev pub shared_task : FlatTask
shared_task = record { mark = 0; ins = []; outs = []; body = named 3 1 (wait 4 ∷ Disable (at 5) 1 ∷ []) }

abbrev pub sharing : Statement → Flat
sharing second = record (design [] [] (always 6 (enable 7 0) ∷ always 8 second ∷ [])) { tasks = shared_task ∷ []; marks = 2 }

-- ---- rule 62: calls of the host

-- 4 initial 5 x = h() + 8'd1;   against   5 x = h();
abbrev pub host_inside : Statement
host_inside = assign 5 0 (plus bare_call (byte 1))

-- 1 module m;
-- 2 reg [7:0] x;
-- 3 import "DPI-C" function byte unsigned h();
-- 4 wire [7:0] n = h();   against   4 wire [7:0] n = x;   and for rule 52 of a void h, and n = h(8'd1) against n = h()
abbrev pub net_of : Import → Expr → Flat
net_of f e = record (design (variable 2 8 ∷ []) (wire 4 e ∷ []) []) { imports = f ∷ [] }

-- ---- races: rules 70 to 72, each at a declaration

-- 1 module m;
-- 2 reg [7:0] x;
-- 3 reg [7:0] y;
-- 4 initial
-- 5   ..
-- 6 initial
-- 7   ..
abbrev pub two_processes : Statement → Statement → Flat
two_processes first second = design (variable 2 8 ∷ variable 3 8 ∷ []) [] (initial 4 first ∷ initial 6 second ∷ [])

-- 5 x = 8'd1; 7 x = 8'd2;   against   7 y = 8'd2;
abbrev pub write_both : Flat
write_both = two_processes (assign 5 0 (byte 1)) (assign 7 0 (byte 2))

-- 5 x <= 8'd1; 7 x <= 8'd2;   against the same
abbrev pub update_both : Flat
update_both = two_processes (later 5 0 (byte 1)) (later 7 0 (byte 2))

abbrev pub write_apart : Flat
write_apart = two_processes (assign 5 0 (byte 1)) (assign 7 1 (byte 2))

-- 5 begin x <= 8'd1; 8 x = 8'd2; end   against   8 x <= 8'd2; end
abbrev pub writes_both_ways : Flat
writes_both_ways = two_processes (block 5 (later 5 0 (byte 1) ∷ assign 8 0 (byte 2) ∷ [])) Null

abbrev pub writes_one_way : Flat
writes_one_way = two_processes (block 5 (later 5 0 (byte 1) ∷ later 8 0 (byte 2) ∷ [])) Null

-- 5 x = 8'd1; 7 y = x;   against   5 x <= 8'd1;
abbrev pub reads_across : Flat
reads_across = two_processes (assign 5 0 (byte 1)) (assign 7 1 (read 0))

abbrev pub reads_update : Flat
reads_update = two_processes (later 5 0 (byte 1)) (assign 7 1 (read 0))

-- 5 x = 8'd1; 7 y = n; 8 wire [7:0] n = x;, at the net   against   5 x <= 8'd1;
abbrev pub over_net : Statement → Flat
over_net first = record (two_processes first (assign 7 1 (NetValue (u 8) 0))) { nets = wire 8 (read 0) ∷ [] }

-- ---- rule 73: loops of nets

-- 1 module m;
-- 2 reg [7:0] x;
-- 3 wire [7:0] a = b;         against   3 wire [7:0] a = x;
-- 4 wire [7:0] b = a; endmodule
abbrev pub two_nets : Expr → Flat
two_nets e = design (variable 2 8 ∷ []) (wire 3 e ∷ wire 4 (NetValue (u 8) 0) ∷ []) []
