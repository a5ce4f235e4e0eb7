-- Worked runs: the definitions give the traces that the language's rules ask for.
use Rattle.std.proofs.Common.{◌≡◌, ℕ, zero, suc, Bool, true, false, List, [], ◌∷◌, map, Some, refl}
use Rattle.xt_bits.specs.Word.{Word, word}
use Rattle.xt_bits.specs.Word as words
use Rattle.xt_bits.specs.Operators as operators
use Rattle.el_design.specs.declared.designs.Var.{Var}
use Rattle.el_design.specs.declared.designs.Import.{Import}
use Rattle.el_design.specs.declared.designs.Source.TheVariants as source
use Rattle.el_design.specs.declared.expressions.BinOp.TheVariants as op
use Rattle.el_design.specs.declared.expressions.UnOp.TheVariants as unary
use Rattle.xt_bits.specs.Trace as traces
use Rattle.xt_bits.specs.Trace.{Trace, Seen, Called, Ending, Rested, Starved}
use Rattle.el_design.specs.Plain.{Shape, Expr, Number, NetValue, Variable, MemoryWord, Select, Unary, Binary, Concat, Resize, Call, Bit, Part, Up, Down, Lvalue, ToVariable, ToPart, ToWord, Both, Nowhere, Statement, Null, Block, Assign, If, Case, Arm, For, While, Repeat, Enable, Disable, Host, FlatTask, FlatFunc, FlatProc, Flat}
use Rattle.el_design.specs.Queue.{Run}
use Rattle.xt_bits.specs.Stimulus.{Reply}
use Rattle.el_design.proofs.Sample.{trace_of, events_of, choose, at, reg, input, out, u, signed, posedge, block, always, initial, assign, later, byte, int, bytes, exprs, design, none_for}

abbrev no_calls : ℕ → List (List traces.Call)
no_calls zero = []
no_calls (suc n) = [] ∷ no_calls n

-- an edge without calls of so many processes: one tick, and these values on the output pins, which have these widths
abbrev pins : List ℕ → List ℕ → List Word
pins (w ∷ ws) (n ∷ ns) = word w n ∷ pins ws ns
pins ws ns = []

abbrev shown : ℕ → List ℕ → List ℕ → Seen
shown procs widths ns = record { calls = no_calls procs; ending = Rested 1 (pins widths ns) }

abbrev one : ℕ → Seen
one n = shown 1 (8 ∷ []) (n ∷ [])

-- one row without input pins
abbrev still : List (List Word)
still = [] ∷ []

-- two waits: `always begin @(posedge clk); q <= d; @(posedge clk); q <= q + 8'd1; end`
abbrev two_waits : Flat
two_waits = design (reg 8 ∷ []) (input 8 ∷ [])
    (always (block (posedge ∷ later 0 (NetValue (u 8) 1) ∷ posedge ∷ later 0 (Binary (u 8) op.Add (Variable (u 8) 0) (byte 1)) ∷ [])) ∷ []) (1 ∷ []) (0 ∷ [])

two_waits_runs : trace_of two_waits 0 (bytes (0 ∷ 5 ∷ 9 ∷ 7 ∷ [])) (none_for 1) ≡ map one (0 ∷ 5 ∷ 6 ∷ 7 ∷ [])
unfolding words.number_of words.bit_of operators.selected_bit operators.turned_bit operators.extended_bit operators.shifted_bit operators.replaced_bit
two_waits_runs = refl

-- `(a + b) >> 1` and `{(a + b) >> 1}` in an assignment to 16 bits, where a = 200 and b = 100
abbrev sum_16 : Expr
sum_16 = Binary (u 16) op.Shr (Binary (u 16) op.Add (Resize (u 16) (Variable (u 8) 0)) (Resize (u 16) (Variable (u 8) 1))) (int 1)

abbrev sum_8 : Expr
sum_8 = Resize (u 16) (Concat (u 8) (exprs (Binary (u 8) op.Shr (Binary (u 8) op.Add (Variable (u 8) 0) (Variable (u 8) 1)) (int 1) ∷ [])))

abbrev reg_at : ℕ → ℕ → Var
reg_at w n = record (reg w) { start = word w n }

abbrev assigned_16 : Expr → Flat
assigned_16 e = design (reg_at 8 200 ∷ reg_at 8 100 ∷ reg 16 ∷ []) [] (initial (assign 2 e) ∷ []) [] (2 ∷ [])

contexts_run_0 : trace_of (assigned_16 sum_16) 0 still (none_for 1) ≡ shown 1 (16 ∷ []) (0x96 ∷ []) ∷ []
unfolding words.number_of words.bit_of operators.selected_bit operators.turned_bit operators.extended_bit operators.shifted_bit operators.replaced_bit
contexts_run_0 = refl

contexts_run_1 : trace_of (assigned_16 sum_8) 0 still (none_for 1) ≡ shown 1 (16 ∷ []) (0x16 ∷ []) ∷ []
unfolding words.number_of words.bit_of operators.selected_bit operators.turned_bit operators.extended_bit operators.shifted_bit operators.replaced_bit
contexts_run_1 = refl

-- `reg signed [3:0] s = -1;`: `y = s` is extended by the sign, `y = s + 4'd0` by zeros
abbrev nibble : Var
nibble = record (reg_at 4 15) { signed = true }

abbrev from_nibble : Expr → Flat
from_nibble e = design (nibble ∷ reg 8 ∷ []) [] (initial (assign 1 e) ∷ []) [] (1 ∷ [])

signs_run_0 : trace_of (from_nibble (Resize (signed 8) (Variable (signed 4) 0))) 0 still (none_for 1) ≡ one 0xff ∷ []
unfolding words.number_of words.bit_of operators.selected_bit operators.turned_bit operators.extended_bit operators.shifted_bit operators.replaced_bit
signs_run_0 = refl

signs_run_1 : trace_of (from_nibble (Binary (u 8) op.Add (Resize (u 8) (Variable (signed 4) 0)) (Resize (u 8) (Number (u 4) (word 4 0))))) 0 still (none_for 1) ≡ one 0x0f ∷ []
unfolding words.number_of words.bit_of operators.selected_bit operators.turned_bit operators.extended_bit operators.shifted_bit operators.replaced_bit
signs_run_1 = refl

-- a `case` brings its items to the longest width: `4'hf` among `6'h3f`, `6'h0f`, and -1 among `6'sh3f`, `6'sh0f`
abbrev label : Shape → ℕ → Expr
label s n = Number s (word 6 n)

abbrev case_of : Shape → Shape → Statement
case_of four six = let on = Resize six (Variable four 0) in
    Case (at 1) on (Arm on (label six 0x3f ∷ []) (assign 1 (byte 1)) (Arm on (label six 0x0f ∷ []) (assign 1 (byte 2)) Null))

abbrev chosen : Var → Statement → Flat
chosen e s = design (e ∷ reg 8 ∷ []) [] (initial s ∷ []) [] (1 ∷ [])

cases_run_0 : trace_of (chosen (reg_at 4 15) (case_of (u 4) (u 6))) 0 still (none_for 1) ≡ one 2 ∷ []
unfolding words.number_of words.bit_of operators.selected_bit operators.turned_bit operators.extended_bit operators.shifted_bit operators.replaced_bit
cases_run_0 = refl

cases_run_1 : trace_of (chosen nibble (case_of (signed 4) (signed 6))) 0 still (none_for 1) ≡ one 1 ∷ []
unfolding words.number_of words.bit_of operators.selected_bit operators.turned_bit operators.extended_bit operators.shifted_bit operators.replaced_bit
cases_run_1 = refl

-- two processes over a net, `x <= d`, `assign y = x` and `z <= y`: one trace for every pick
abbrev over_a_net : Flat
over_a_net = record (design (reg 8 ∷ reg 8 ∷ []) (input 8 ∷ record (input 8) { value = Some (Variable (u 8) 0) } ∷ [])
    (always (block (posedge ∷ later 0 (NetValue (u 8) 1) ∷ [])) ∷ always (block (posedge ∷ later 1 (NetValue (u 8) 2) ∷ [])) ∷ []) (1 ∷ []) [])
    { outputs = record { name = []; from = source.Net 2 } ∷ out 1 ∷ [] }

abbrev over_a_net_seen : Trace
over_a_net_seen = shown 2 (8 ∷ 8 ∷ []) (0 ∷ 0 ∷ []) ∷ shown 2 (8 ∷ 8 ∷ []) (5 ∷ 0 ∷ []) ∷ shown 2 (8 ∷ 8 ∷ []) (6 ∷ 5 ∷ []) ∷ []

over_a_net_run_0 : trace_of over_a_net 0 (bytes (0 ∷ 5 ∷ 6 ∷ [])) (none_for 2) ≡ over_a_net_seen
unfolding words.number_of words.bit_of operators.selected_bit operators.turned_bit operators.extended_bit operators.shifted_bit operators.replaced_bit
over_a_net_run_0 = refl

over_a_net_run_1 : trace_of over_a_net 1 (bytes (0 ∷ 5 ∷ 6 ∷ [])) (none_for 2) ≡ over_a_net_seen
unfolding words.number_of words.bit_of operators.selected_bit operators.turned_bit operators.extended_bit operators.shifted_bit operators.replaced_bit
over_a_net_run_1 = refl

over_a_net_run_2 : trace_of over_a_net 2 (bytes (0 ∷ 5 ∷ 6 ∷ [])) (none_for 2) ≡ over_a_net_seen
unfolding words.number_of words.bit_of operators.selected_bit operators.turned_bit operators.extended_bit operators.shifted_bit operators.replaced_bit
over_a_net_run_2 = refl

over_a_net_run_3 : trace_of over_a_net 3 (bytes (0 ∷ 5 ∷ 6 ∷ [])) (none_for 2) ≡ over_a_net_seen
unfolding words.number_of words.bit_of operators.selected_bit operators.turned_bit operators.extended_bit operators.shifted_bit operators.replaced_bit
over_a_net_run_3 = refl

over_a_net_run_4 : trace_of over_a_net 4 (bytes (0 ∷ 5 ∷ 6 ∷ [])) (none_for 2) ≡ over_a_net_seen
unfolding words.number_of words.bit_of operators.selected_bit operators.turned_bit operators.extended_bit operators.shifted_bit operators.replaced_bit
over_a_net_run_4 = refl

over_a_net_run_5 : trace_of over_a_net 5 (bytes (0 ∷ 5 ∷ 6 ∷ [])) (none_for 2) ≡ over_a_net_seen
unfolding words.number_of words.bit_of operators.selected_bit operators.turned_bit operators.extended_bit operators.shifted_bit operators.replaced_bit
over_a_net_run_5 = refl

over_a_net_run_6 : trace_of over_a_net 6 (bytes (0 ∷ 5 ∷ 6 ∷ [])) (none_for 2) ≡ over_a_net_seen
unfolding words.number_of words.bit_of operators.selected_bit operators.turned_bit operators.extended_bit operators.shifted_bit operators.replaced_bit
over_a_net_run_6 = refl

over_a_net_run_7 : trace_of over_a_net 7 (bytes (0 ∷ 5 ∷ 6 ∷ [])) (none_for 2) ≡ over_a_net_seen
unfolding words.number_of words.bit_of operators.selected_bit operators.turned_bit operators.extended_bit operators.shifted_bit operators.replaced_bit
over_a_net_run_7 = refl

over_a_net_run_8 : trace_of over_a_net 8 (bytes (0 ∷ 5 ∷ 6 ∷ [])) (none_for 2) ≡ over_a_net_seen
unfolding words.number_of words.bit_of operators.selected_bit operators.turned_bit operators.extended_bit operators.shifted_bit operators.replaced_bit
over_a_net_run_8 = refl

over_a_net_run_9 : trace_of over_a_net 9 (bytes (0 ∷ 5 ∷ 6 ∷ [])) (none_for 2) ≡ over_a_net_seen
unfolding words.number_of words.bit_of operators.selected_bit operators.turned_bit operators.extended_bit operators.shifted_bit operators.replaced_bit
over_a_net_run_9 = refl

over_a_net_run_10 : choose 0 0 (Run 0 ∷ Run 1 ∷ []) ≡ Some (Run 1)
over_a_net_run_10 = refl

over_a_net_run_11 : choose 1 0 (Run 0 ∷ Run 1 ∷ []) ≡ Some (Run 0)
over_a_net_run_11 = refl

-- `always begin @(posedge clk); while (!rdy) @(posedge clk); n <= n + 8'd1; end`
abbrev until_ready : Flat
until_ready = design (reg 8 ∷ []) (input 1 ∷ [])
    (always (block (posedge ∷ While (at 1) (Unary (u 1) unary.Not (NetValue (u 1) 1)) posedge ∷ later 0 (Binary (u 8) op.Add (Variable (u 8) 0) (byte 1)) ∷ [])) ∷ []) (1 ∷ []) (0 ∷ [])

abbrev bits : List ℕ → List (List Word)
bits ns = map (λ n. word 1 n ∷ []) ns

until_ready_runs : trace_of until_ready 0 (bits (1 ∷ 1 ∷ 0 ∷ 1 ∷ [])) (none_for 1) ≡ map one (0 ∷ 1 ∷ 1 ∷ 2 ∷ [])
unfolding words.number_of words.bit_of operators.selected_bit operators.turned_bit operators.extended_bit operators.shifted_bit operators.replaced_bit
until_ready_runs = refl

-- a `for` of ten turns, a `repeat` of three, which has seven events, its count, three statements and three tests; and a `repeat` whose count is -1
abbrev integer : Var
integer = record (reg 32) { signed = true }

abbrev i : Expr
i = Variable (signed 32) 0

abbrev counted : Statement → Flat
counted s = design (integer ∷ reg 8 ∷ []) [] (initial s ∷ []) [] (1 ∷ [])

abbrev more_by_one : Statement
more_by_one = assign 1 (Binary (u 8) op.Add (Variable (u 8) 1) (byte 1))

loops_run_0 : trace_of (counted (For (at 1) 0 (int 0) (Binary (u 1) op.Lt i (int 10)) (Binary (signed 32) op.Add i (int 1)) more_by_one)) 0 still (none_for 1) ≡ one 10 ∷ []
unfolding words.number_of words.bit_of operators.selected_bit operators.turned_bit operators.extended_bit operators.shifted_bit operators.replaced_bit
loops_run_0 = refl

loops_run_1 : trace_of (counted (Repeat (at 1) (int 3) more_by_one)) 0 still (none_for 1) ≡ one 3 ∷ []
unfolding words.number_of words.bit_of operators.selected_bit operators.turned_bit operators.extended_bit operators.shifted_bit operators.replaced_bit
loops_run_1 = refl

loops_run_2 : events_of (counted (Repeat (at 1) (int 3) more_by_one)) [] (none_for 1) ≡ 7
unfolding words.number_of words.bit_of operators.selected_bit operators.turned_bit operators.extended_bit operators.shifted_bit operators.replaced_bit
loops_run_2 = refl

loops_run_3 : trace_of (counted (block (assign 0 (Unary (signed 32) unary.Minus (int 1)) ∷ Repeat (at 1) i posedge ∷ later 1 (byte 1) ∷ []))) 0 still (none_for 1) ≡ one 1 ∷ []
unfolding words.number_of words.bit_of operators.selected_bit operators.turned_bit operators.extended_bit operators.shifted_bit operators.replaced_bit
loops_run_3 = refl

-- a `disable` over two enables drops both, copies no output and drops the count:
-- `task inner(output [7:0] o); begin o = d; @(posedge clk); o = o + d; @(posedge clk); if (d[0]) disable txn; end endtask`,
-- `task outer; begin inner(r); n <= n + 8'd1; end endtask` and `always begin begin : txn repeat (4) outer; end q <= r; @(posedge clk); end`
abbrev d_in : Expr
d_in = NetValue (u 8) 1

abbrev inner : FlatTask
inner = record {
  mark = 0;
  ins = [];
  outs = 3 ∷ [];
  body = block (assign 3 d_in ∷ posedge ∷ assign 3 (Binary (u 8) op.Add (Variable (u 8) 3) d_in) ∷ posedge
      ∷ If (at 1) (Select (u 1) d_in (Bit (int 0)) 0) (Disable (at 1) 2) Null ∷ []);
}

abbrev outer : FlatTask
outer = record { mark = 1; ins = []; outs = []; body = block (Enable (at 1) 0 [] (ToVariable 2 ∷ []) ∷ later 1 (Binary (u 8) op.Add (Variable (u 8) 1) (byte 1)) ∷ []) }

abbrev disabled : Flat
disabled = record (design (reg 8 ∷ reg 8 ∷ reg 8 ∷ reg 8 ∷ []) (input 8 ∷ [])
    (always (block (Block (at 1) (Some 2) (block (Repeat (at 1) (int 4) (Enable (at 1) 1 [] []) ∷ [])) ∷ later 0 (Variable (u 8) 2) ∷ posedge ∷ [])) ∷ []) (1 ∷ []) (0 ∷ 1 ∷ []))
    { tasks = inner ∷ outer ∷ []; marks = 3 }

disabled_runs : trace_of disabled 0 (bytes (2 ∷ 3 ∷ 4 ∷ 5 ∷ 7 ∷ 8 ∷ [])) (none_for 1) ≡ map (shown 1 (8 ∷ 8 ∷ [])) ((0 ∷ 0 ∷ []) ∷ (0 ∷ 0 ∷ []) ∷ (0 ∷ 1 ∷ []) ∷ (0 ∷ 1 ∷ []) ∷ (5 ∷ 1 ∷ []) ∷ (5 ∷ 1 ∷ []) ∷ [])
unfolding words.number_of words.bit_of operators.selected_bit operators.turned_bit operators.extended_bit operators.shifted_bit operators.replaced_bit
disabled_runs = refl

-- a task's variables are kept between enables: `task t(output [7:0] o); reg [7:0] k; begin k = k + 8'd1; o = k; end endtask`
abbrev kept : Flat
kept = record (design (reg 8 ∷ reg 8 ∷ reg 8 ∷ []) [] (always (block (posedge ∷ Enable (at 1) 0 [] (ToVariable 0 ∷ []) ∷ [])) ∷ []) [] (0 ∷ []))
    { tasks = record { mark = 0; ins = []; outs = 1 ∷ []; body = block (assign 2 (Binary (u 8) op.Add (Variable (u 8) 2) (byte 1)) ∷ assign 1 (Variable (u 8) 2) ∷ []) } ∷ []; marks = 1 }

kept_runs : trace_of kept 0 ([] ∷ [] ∷ [] ∷ [] ∷ []) (none_for 1) ≡ map one (0 ∷ 1 ∷ 2 ∷ 3 ∷ [])
unfolding words.number_of words.bit_of operators.selected_bit operators.turned_bit operators.extended_bit operators.shifted_bit operators.replaced_bit
kept_runs = refl

-- host calls of two processes in one edge, and an edge that starves
abbrev f : Import
f = record { name = []; ins = record { width = 32; signed = true } ∷ []; result = Some (record { width = 32; signed = true }); outs = [] }

abbrev call_f : Expr → ℕ → Statement
call_f e v = Host (at 1) 0 (e ∷ []) (Some (ToVariable v)) []

abbrev calling : List FlatProc → Flat
calling procs = record (design (integer ∷ integer ∷ reg 8 ∷ reg 8 ∷ []) [] procs [] (2 ∷ 3 ∷ [])) { imports = f ∷ [] }

abbrev with_calls : Flat
with_calls = calling (always (block (posedge ∷ call_f (int 1) 0 ∷ later 2 (Variable (signed 32) 0) ∷ []))
    ∷ always (block (posedge ∷ later 3 (byte 9) ∷ call_f (int 2) 1 ∷ call_f (Variable (signed 32) 1) 1 ∷ [])) ∷ [])

abbrev reply : ℕ → ℕ → Reply
reply w n = record { wait = w; items = n ∷ [] }

abbrev called : ℕ → traces.Call
called n = Called 0 (word 32 n ∷ [])

abbrev starving : Flat
starving = calling (initial (block (call_f (int 1) 0 ∷ later 2 (byte 1) ∷ [])) ∷ always (block (later 3 (byte 1) ∷ call_f (int 2) 1 ∷ posedge ∷ [])) ∷ [])

calls_run_0 : trace_of with_calls 0 ([] ∷ [] ∷ [] ∷ [])
    ((reply 3 7 ∷ reply 2 1 ∷ []) ∷ (reply 0 4 ∷ reply 1 5 ∷ reply 0 6 ∷ reply 0 8 ∷ []) ∷ [])
    ≡ shown 2 (8 ∷ 8 ∷ []) (0 ∷ 0 ∷ [])
    ∷ record { calls = (called 1 ∷ []) ∷ (called 2 ∷ called 4 ∷ []) ∷ []; ending = Rested 5 (pins (8 ∷ 8 ∷ []) (7 ∷ 9 ∷ [])) }
    ∷ record { calls = (called 1 ∷ []) ∷ (called 2 ∷ called 6 ∷ []) ∷ []; ending = Rested 4 (pins (8 ∷ 8 ∷ []) (1 ∷ 9 ∷ [])) }
    ∷ []
unfolding words.number_of words.bit_of operators.selected_bit operators.turned_bit operators.extended_bit operators.shifted_bit operators.replaced_bit
calls_run_0 = refl

calls_run_1 : trace_of starving 0 ([] ∷ []) ([] ∷ (reply 0 0 ∷ []) ∷ []) ≡ record { calls = (called 1 ∷ []) ∷ (called 2 ∷ []) ∷ []; ending = Starved } ∷ []
unfolding words.number_of words.bit_of operators.selected_bit operators.turned_bit operators.extended_bit operators.shifted_bit operators.replaced_bit
calls_run_1 = refl

-- memories: a write out of range does nothing and a read gives 0; of two updates of a word in an edge the later stays
abbrev memory : Var
memory = record (reg 8) { words = 8 }

abbrev m_at : ℕ → Expr
m_at n = MemoryWord (u 8) 1 (int n)

abbrev remembered : List Statement → (Statement → FlatProc) → Flat
remembered ss how = design (reg 8 ∷ memory ∷ []) [] (how (block ss) ∷ []) [] (0 ∷ [])

abbrev set_word : ℕ → ℕ → Bool → Statement
set_word n x held = Assign (at 1) (ToWord 1 (int n)) (byte x) held

memories_run_0 : trace_of (remembered (posedge ∷ set_word 9 5 false ∷ set_word 1 6 false ∷ assign 0 (Binary (u 8) op.Add (m_at 1) (m_at 9)) ∷ []) always) 0 ([] ∷ [] ∷ []) (none_for 1) ≡ map one (0 ∷ 6 ∷ [])
unfolding words.number_of words.bit_of operators.selected_bit operators.turned_bit operators.extended_bit operators.shifted_bit operators.replaced_bit
memories_run_0 = refl

memories_run_1 : trace_of (remembered (set_word 2 1 true ∷ set_word 2 3 true ∷ posedge ∷ assign 0 (m_at 2) ∷ []) initial) 0 ([] ∷ [] ∷ []) (none_for 1) ≡ map one (0 ∷ 3 ∷ [])
unfolding words.number_of words.bit_of operators.selected_bit operators.turned_bit operators.extended_bit operators.shifted_bit operators.replaced_bit
memories_run_1 = refl

-- a function is run on its arguments in a store of its own: `function [7:0] g(input [7:0] x); integer j; begin g = x; for (j = 0; j < 3; j = j + 1) g = g + g; end`, in `g(g(5))`
abbrev g : FlatFunc
g = record {
  ins = 1 ∷ [];
  locals = 2 ∷ [];
  result = 3;
  body = block (assign 3 (Variable (u 8) 1)
      ∷ For (at 1) 2 (int 0) (Binary (u 1) op.Lt (Variable (signed 32) 2) (int 3)) (Binary (signed 32) op.Add (Variable (signed 32) 2) (int 1)) (assign 3 (Binary (u 8) op.Add (Variable (u 8) 3) (Variable (u 8) 3))) ∷ []);
}

abbrev functional : Flat
functional = record (design (reg 8 ∷ reg 8 ∷ integer ∷ reg 8 ∷ []) [] (initial (assign 0 (Call (u 8) 0 (exprs (Call (u 8) 0 (exprs (byte 5 ∷ [])) ∷ [])))) ∷ []) [] (0 ∷ 3 ∷ []))
    { funcs = g ∷ [] }

functions_runs : trace_of functional 0 still (none_for 1) ≡ shown 1 (8 ∷ 8 ∷ []) (64 ∷ 0 ∷ []) ∷ []
unfolding words.number_of words.bit_of operators.selected_bit operators.turned_bit operators.extended_bit operators.shifted_bit operators.replaced_bit
functions_runs = refl

-- targets: `{y, z} = 16'h1234`, `y[5:2] = 4'hf`, `y[6 +: 4] = 4'hf` past the end, and `y[1 -: 4] = 4'hf` below bit 0
abbrev stored_at : Lvalue → Expr → Flat
stored_at to e = design (reg 8 ∷ reg 8 ∷ []) [] (initial (Assign (at 1) to e false) ∷ []) [] (0 ∷ 1 ∷ [])

abbrev ones : Expr
ones = Number (u 4) (word 4 15)

abbrev two : ℕ → ℕ → Trace
two a b = shown 1 (8 ∷ 8 ∷ []) (a ∷ b ∷ []) ∷ []

targets_run_0 : trace_of (stored_at (Both (ToVariable 0) (Both (ToVariable 1) Nowhere)) (Number (u 16) (word 16 0x1234))) 0 still (none_for 1) ≡ two 0x12 0x34
unfolding words.number_of words.bit_of operators.selected_bit operators.turned_bit operators.extended_bit operators.shifted_bit operators.replaced_bit
targets_run_0 = refl

targets_run_1 : trace_of (stored_at (ToPart 0 (Part 5 2)) ones) 0 still (none_for 1) ≡ two 0x3c 0
unfolding words.number_of words.bit_of operators.selected_bit operators.turned_bit operators.extended_bit operators.shifted_bit operators.replaced_bit
targets_run_1 = refl

targets_run_2 : trace_of (stored_at (ToPart 0 (Up (int 6) 4)) ones) 0 still (none_for 1) ≡ two 0xc0 0
unfolding words.number_of words.bit_of operators.selected_bit operators.turned_bit operators.extended_bit operators.shifted_bit operators.replaced_bit
targets_run_2 = refl

targets_run_3 : trace_of (stored_at (ToPart 0 (Down (int 1) 4)) ones) 0 still (none_for 1) ≡ two 0x03 0
unfolding words.number_of words.bit_of operators.selected_bit operators.turned_bit operators.extended_bit operators.shifted_bit operators.replaced_bit
targets_run_3 = refl
