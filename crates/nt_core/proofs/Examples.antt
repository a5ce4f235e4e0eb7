-- The definitions at small designs: what they compute to stands here.
use Rattle.std.proofs.Common.{◌≡◌, ℕ, List, [], ◌∷◌, refl, Some}
use Rattle.std.specs.Prelude.{codes}
use Rattle.std.specs.Fmt.{digits}
use Rattle.xt_bits.specs.Word.{Word, word, number_of, bit_of}
use Rattle.xt_bits.specs.Operators.{turned_bit}
use Rattle.nt_core.specs.declared.netlist.Wire.{Wire}
use Rattle.nt_core.specs.declared.netlist.Node.{Node}
use Rattle.nt_core.specs.declared.netlist.Op.{Op}
use Rattle.nt_core.specs.declared.netlist.Op.TheVariants.{Pin, Ack, Ret, Reg, Const, Not, Choice}
use Rattle.nt_core.specs.Parts.{Parts}
use Rattle.nt_core.specs.Text.{text_of}
use Rattle.xt_bits.specs.Stimulus.{Reply, Stimulus}
use Rattle.nt_core.specs.FunctionLine.{FunctionLine}
use Rattle.nt_core.specs.HostLine.{HostLine}
use Rattle.xt_bits.specs.Trace.{Call, Seen, Rested, Starved, Stalled, Called, Unknown}
use Rattle.nt_core.specs.DesignRun.{trace_within, run_start}

abbrev node : ℕ → Op → Node
node w op = record { width = w; op = op }

abbrev wire : List ℕ → ℕ → Wire
wire name w = record { name = name; width = w }

-- a design that turns each bit of its input over; `edge` is the value on `xtc_edge`
abbrev inverter : ℕ → Parts
inverter edge = record {
  version = 1;
  processes = 0;
  functions = [];
  inputs = wire (codes "a") 8 ∷ [];
  outputs = wire (codes "y") 8 ∷ [];
  hosts = [];
  registers = [];
  memories = [];
  nodes = node 8 (Pin 0 8) ∷ node 8 (Not 0) ∷ node 1 (Const (word 1 edge)) ∷ [];
  drives = 2 ∷ 1 ∷ [];
  nexts = [];
  writes = [];
}

inverter_text : text_of (inverter 1) ≡ codes "// xtc design 1\n// processes 0\nmodule xtc_design (\n  input wire xtc_clk,\n  input wire [7:0] a,\n  output wire xtc_edge,\n  output wire [7:0] y\n);\n  wire [7:0] xtc_n0 = a;\n  wire [7:0] xtc_n1 = ~xtc_n0;\n  wire xtc_n2 = 1'h1;\n  assign xtc_edge = xtc_n2;\n  assign y = xtc_n1;\n  always @(posedge xtc_clk) begin\n  end\nendmodule\n"
unfolding digits
inverter_text = refl

abbrev two_rows : Stimulus
two_rows = record { rows = (word 8 15 ∷ []) ∷ (word 8 240 ∷ []) ∷ []; replies = [] }

inverter_trace : trace_within 1 (inverter 1) two_rows.rows (run_start (inverter 1) two_rows)
    ≡ Some (record { calls = []; ending = Rested 1 (word 8 240 ∷ []) } ∷ record { calls = []; ending = Rested 1 (word 8 15 ∷ []) } ∷ [])
unfolding number_of turned_bit bit_of
inverter_trace = refl

-- without an edge the first tick is made, and then the design waits for nothing
stalled_trace : trace_within 9 (inverter 0) two_rows.rows (run_start (inverter 0) two_rows) ≡ Some (record { calls = []; ending = Stalled } ∷ [])
stalled_trace = refl

-- a design that asks function 0 again and again, with its register as the argument, and keeps the reply; each reply ends an edge
abbrev asker : Parts
asker = record {
  version = 1;
  processes = 1;
  functions = record { name = codes "f"; ins = 8 ∷ []; rets = 8 ∷ [] } ∷ [];
  inputs = [];
  outputs = wire (codes "y") 8 ∷ [];
  hosts = record { process = 0; rets = 8 ∷ []; args = 8 ∷ [] } ∷ [];
  registers = word 8 5 ∷ [];
  memories = [];
  nodes = node 8 (Reg 0 8) ∷ node 1 (Ack 0) ∷ node 8 (Ret 0 0 8) ∷ node 8 (Choice 1 2 0) ∷ node 1 (Const (word 1 1)) ∷ node 8 (Const (word 8 0)) ∷ [];
  drives = 1 ∷ 0 ∷ 4 ∷ 5 ∷ 0 ∷ [];
  nexts = 3 ∷ [];
  writes = [];
}

asker_text : text_of asker ≡ codes "// xtc design 1\n// processes 1\n// function f in 8 out 8\nmodule xtc_design (\n  input wire xtc_clk,\n  input wire xtc_p0_ack,\n  input wire [7:0] xtc_p0_ret0,\n  output wire xtc_edge,\n  output wire [7:0] y,\n  output wire xtc_p0_req,\n  output wire [7:0] xtc_p0_fn,\n  output wire [7:0] xtc_p0_arg0\n);\n  reg [7:0] xtc_r0 = 8'h05;\n  wire [7:0] xtc_n0 = xtc_r0;\n  wire xtc_n1 = xtc_p0_ack;\n  wire [7:0] xtc_n2 = xtc_p0_ret0;\n  wire [7:0] xtc_n3 = xtc_n1 ? xtc_n2 : xtc_n0;\n  wire xtc_n4 = 1'h1;\n  wire [7:0] xtc_n5 = 8'h00;\n  assign xtc_edge = xtc_n1;\n  assign y = xtc_n0;\n  assign xtc_p0_req = xtc_n4;\n  assign xtc_p0_fn = xtc_n5;\n  assign xtc_p0_arg0 = xtc_n0;\n  always @(posedge xtc_clk) begin\n    xtc_r0 <= xtc_n3;\n  end\nendmodule\n"
unfolding digits
asker_text = refl

abbrev two_replies : Stimulus
two_replies = record { rows = [] ∷ [] ∷ [] ∷ []; replies = (record { wait = 2; items = 7 ∷ [] } ∷ record { wait = 0; items = 9 ∷ [] } ∷ []) ∷ [] }

abbrev asked : ℕ → List (List Call)
asked n = (Called 0 (word 8 n ∷ []) ∷ []) ∷ []

-- a reply that waits for two ticks takes three; the third request has no reply
asker_trace : trace_within 4 asker two_replies.rows (run_start asker two_replies)
    ≡ Some (record { calls = asked 5; ending = Rested 3 (word 8 7 ∷ []) } ∷ record { calls = asked 7; ending = Rested 1 (word 8 9 ∷ []) } ∷ record { calls = asked 9; ending = Starved } ∷ [])
asker_trace = refl

-- ---- the host's side

-- a design of these functions, hosts and nodes, without output pins
abbrev hosted : List FunctionLine → List Wire → List HostLine → List Word → List Node → List ℕ → List ℕ → Parts
hosted functions inputs hosts registers nodes drives nexts = record {
  version = 1;
  processes = 1;
  functions = functions;
  inputs = inputs;
  outputs = [];
  hosts = hosts;
  registers = registers;
  memories = [];
  nodes = nodes;
  drives = drives;
  nexts = nexts;
  writes = [];
}

abbrev function : List ℕ → FunctionLine
function ins = record { name = codes "f"; ins = ins; rets = [] }

abbrev host : ℕ → List ℕ → HostLine
host p args = record { process = p; rets = []; args = args }

abbrev reply : ℕ → Reply
reply wait = record { wait = wait; items = [] }

-- what is seen of an edge of so many ticks, by the calls of its processes
abbrev seen : ℕ → List (List Call) → Seen
seen ticks calls = record { calls = calls; ending = Rested ticks [] }

-- a design whose only request, for the function of this number, is always up, and each tick of which ends an edge
abbrev open_request : ℕ → Parts
open_request number = hosted (function [] ∷ []) [] (host 0 [] ∷ []) [] (node 1 (Const (word 1 1)) ∷ node 8 (Const (word 8 number)) ∷ []) (0 ∷ 0 ∷ 1 ∷ []) []

abbrev one_reply : Stimulus
one_reply = record { rows = [] ∷ [] ∷ [] ∷ [] ∷ []; replies = (reply 2 ∷ []) ∷ [] }

-- a request that is open at an edge's end isn't new in the next: its wait goes on, and it is acknowledged in the third edge; the request after that has no reply, but
-- an edge's first tick is made all the same
open_trace : trace_within 1 (open_request 0) one_reply.rows (run_start (open_request 0) one_reply)
    ≡ Some (seen 1 ((Called 0 [] ∷ []) ∷ []) ∷ seen 1 ([] ∷ []) ∷ seen 1 ([] ∷ []) ∷ seen 1 ((Called 0 [] ∷ []) ∷ []) ∷ [])
open_trace = refl

-- a number that no function has is recorded, and its reply is drawn
unknown_trace : trace_within 1 (open_request 1) one_reply.rows (run_start (open_request 1) one_reply)
    ≡ Some (seen 1 ((Unknown ∷ []) ∷ []) ∷ seen 1 ([] ∷ []) ∷ seen 1 ([] ∷ []) ∷ seen 1 ((Unknown ∷ []) ∷ []) ∷ [])
unknown_trace = refl

-- inputs of 4, 16 and 8 bits, and argument pins for two of them, of 8 bits
abbrev caller : Parts
caller =
    hosted (function (4 ∷ 16 ∷ 8 ∷ []) ∷ []) [] (host 0 (8 ∷ 8 ∷ []) ∷ []) []
    (node 1 (Const (word 1 1)) ∷ node 8 (Const (word 8 0)) ∷ node 8 (Const (word 8 171)) ∷ node 8 (Const (word 8 205)) ∷ []) (0 ∷ 0 ∷ 1 ∷ 2 ∷ 3 ∷ []) []

abbrev one_row : Stimulus
one_row = record { rows = [] ∷ []; replies = [] ∷ [] }

-- an argument is cut to its input's width, has zeros above its pin, and is 0 without one
arguments_trace : trace_within 1 caller one_row.rows (run_start caller one_row) ≡ Some (seen 1 ((Called 0 (word 4 11 ∷ word 16 205 ∷ word 8 0 ∷ []) ∷ []) ∷ []) ∷ [])
arguments_trace = refl

-- a design whose request is a pin
abbrev follower : Parts
follower = hosted (function [] ∷ []) (wire (codes "go") 1 ∷ []) (host 0 [] ∷ []) [] (node 1 (Const (word 1 1)) ∷ node 8 (Const (word 8 0)) ∷ node 1 (Pin 0 1) ∷ []) (0 ∷ 2 ∷ 1 ∷ []) []

abbrev up_and_down : Stimulus
up_and_down = record { rows = (word 1 1 ∷ []) ∷ (word 1 0 ∷ []) ∷ (word 1 1 ∷ []) ∷ (word 1 1 ∷ []) ∷ []; replies = (reply 5 ∷ reply 0 ∷ []) ∷ [] }

-- a request that goes down without an acknowledgement loses its reply; the next draws another, which is taken at once
lost_trace : trace_within 1 follower up_and_down.rows (run_start follower up_and_down)
    ≡ Some (seen 1 ((Called 0 [] ∷ []) ∷ []) ∷ seen 1 ([] ∷ []) ∷ seen 1 ((Called 0 [] ∷ []) ∷ []) ∷ seen 1 ((Called 0 [] ∷ []) ∷ []) ∷ [])
lost_trace = refl

-- two processes that each ask once an edge, with 1 and with 2; a register holds whether a process was answered, and the edge ends once both were
abbrev two_askers : Parts
two_askers = record (hosted (function (8 ∷ []) ∷ []) [] (host 0 (8 ∷ []) ∷ host 1 (8 ∷ []) ∷ []) (word 1 0 ∷ word 1 0 ∷ [])
    (node 1 (Reg 0 1) ∷ node 1 (Reg 1 1) ∷ node 1 (Ack 0) ∷ node 1 (Ack 1) ∷ node 1 (Const (word 1 0)) ∷ node 1 (Const (word 1 1))
    ∷ node 1 (Choice 2 5 0) ∷ node 1 (Choice 3 5 1) ∷ node 1 (Choice 6 7 4) ∷ node 1 (Choice 0 4 5) ∷ node 1 (Choice 1 4 5) ∷ node 1 (Choice 8 4 6) ∷ node 1 (Choice 8 4 7)
    ∷ node 8 (Const (word 8 0)) ∷ node 8 (Const (word 8 1)) ∷ node 8 (Const (word 8 2)) ∷ [])
    (8 ∷ 9 ∷ 13 ∷ 14 ∷ 10 ∷ 13 ∷ 15 ∷ []) (11 ∷ 12 ∷ [])) { processes = 2 }

abbrev delays : Stimulus
delays = record { rows = [] ∷ [] ∷ []; replies = (reply 3 ∷ reply 0 ∷ []) ∷ (reply 0 ∷ []) ∷ [] }

abbrev both_asked : List (List Call)
both_asked = (Called 0 (word 8 1 ∷ []) ∷ []) ∷ (Called 0 (word 8 2 ∷ []) ∷ []) ∷ []

-- the longer delay holds the edge; in the next edge one is answered in the first tick, and then the other has no reply
delays_trace : trace_within 4 two_askers delays.rows (run_start two_askers delays) ≡ Some (seen 4 both_asked ∷ record { calls = both_asked; ending = Starved } ∷ [])
delays_trace = refl
