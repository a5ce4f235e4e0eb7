-- The text of a written design. All of it is this project's own, within the Verilog of IEEE 1364-2005.
use Rattle.std.specs.Prelude.{ℕ, zero, suc, ◌+◌, ◌-◌, ◌/◌, ◌%◌, ◌==◌, false, List, [], ◌∷◌, ◌++◌, map, flat_map, zip, get_or, codes, decimal, if◌then◌else◌}
use Rattle.std.specs.List.{enumerate_from}
use Rattle.std.specs.Fmt.{digit_glyph}
use Rattle.xt_bits.specs.Word as bits
use Rattle.nt_core.specs.declared.netlist.Memory.{Memory}
use Rattle.nt_core.specs.declared.netlist.Node.{Node}
use Rattle.nt_core.specs.declared.netlist.MemWrite.{MemWrite}
use Rattle.nt_core.specs.declared.netlist.Op.{Op}
use Rattle.nt_core.specs.declared.netlist.Op.TheVariants.{Pin, Ack, Ret, Reg, Const, Word, Not, And, Or, Xor, Add, Sub, Mul, Div, Rem, SDiv, SRem, Shl, Shr, Sar, Eq, Lt, SLt, Parity, Choice, Concat, Slice, Copies}
use Rattle.nt_core.specs.FunctionLine.{FunctionLine}
use Rattle.nt_core.specs.HostLine.{HostLine}
use Rattle.nt_core.specs.Parts.{Parts}
use Rattle.nt_core.specs.Conditions.{port_widths}

-- ---- words of the text

-- the range of a declaration; nothing for one bit
abbrev pub range_text : ℕ → List ℕ
range_text w = if w == 1 then [] else codes "[" ++ decimal (w - 1) ++ codes ":0] "

-- so many hexadecimal digits, in lower case
abbrev pub hex_digits : ℕ → ℕ → List ℕ
hex_digits zero n = []
hex_digits (suc count) n = hex_digits count (n / 16) ++ digit_glyph false (n % 16) ∷ []

-- a value in as many hexadecimal digits as a quarter of its width, rounded up
abbrev pub hex_text : bits.Word → List ℕ
hex_text k = hex_digits ((k.width + 3) / 4) k.value

-- a constant: its width, and its value in hexadecimal digits
abbrev pub constant_text : bits.Word → List ℕ
constant_text k = decimal k.width ++ codes "'h" ++ hex_text k

-- the same of a constant that is read as a signed number
abbrev pub signed_constant_text : bits.Word → List ℕ
signed_constant_text k = decimal k.width ++ codes "'sh" ++ hex_text k

-- ---- names

-- the names of the design's own, by their numbers: a node
abbrev pub node_name : ℕ → List ℕ
node_name i = codes "xtc_n" ++ decimal i

-- a register
abbrev pub register_name : ℕ → List ℕ
register_name i = codes "xtc_r" ++ decimal i

-- a memory
abbrev pub memory_name : ℕ → List ℕ
memory_name i = codes "xtc_m" ++ decimal i

-- the pins of a process with host calls: what their names begin with
abbrev pub host_name : ℕ → List ℕ
host_name p = codes "xtc_p" ++ decimal p

-- its request is acknowledged
abbrev pub ack_name : ℕ → List ℕ
ack_name p = host_name p ++ codes "_ack"

-- an item of its reply
abbrev pub ret_name : ℕ → ℕ → List ℕ
ret_name p i = host_name p ++ codes "_ret" ++ decimal i

-- an argument of its call
abbrev pub arg_name : ℕ → ℕ → List ℕ
arg_name p i = host_name p ++ codes "_arg" ++ decimal i

-- the names of the output ports, in port order
abbrev pub host_port_names : HostLine → List (List ℕ)
host_port_names h = (host_name h.process ++ codes "_req") ∷ (host_name h.process ++ codes "_fn") ∷ map (λ i. arg_name h.process i.0) (enumerate_from 0 h.args)

-- of all: `xtc_edge`, the output pins, then each host's
abbrev pub port_names : Parts → List (List ℕ)
port_names n = codes "xtc_edge" ∷ map (λ o. o.name) n.outputs ++ flat_map host_port_names n.hosts

-- ---- forms

-- an operator between two nodes
abbrev pub infix_text : List ℕ → ℕ → ℕ → List ℕ
infix_text operator a b = node_name a ++ operator ++ node_name b

-- a node that is read as a signed number
abbrev pub signed_text : ℕ → List ℕ
signed_text a = codes "$signed(" ++ node_name a ++ codes ")"

-- a form; a pin goes by its own name
abbrev pub form_text : Parts → Op → List ℕ
form_text n (Pin p w) = get_or (map (λ i. i.name) n.inputs) p []
form_text n (Ack p) = ack_name p
form_text n (Ret p i w) = ret_name p i
form_text n (Reg r w) = register_name r
form_text n (Const k) = constant_text k
form_text n (Word m a w) = memory_name m ++ codes "[" ++ node_name a ++ codes "]"
form_text n (Not a) = codes "~" ++ node_name a
form_text n (And a b) = infix_text (codes " & ") a b
form_text n (Or a b) = infix_text (codes " | ") a b
form_text n (Xor a b) = infix_text (codes " ^ ") a b
form_text n (Add a b) = infix_text (codes " + ") a b
form_text n (Sub a b) = infix_text (codes " - ") a b
form_text n (Mul a b) = infix_text (codes " * ") a b
form_text n (Div a k) = node_name a ++ codes " / " ++ constant_text k
form_text n (Rem a k) = node_name a ++ codes " % " ++ constant_text k
form_text n (SDiv a k) = signed_text a ++ codes " / " ++ signed_constant_text k
form_text n (SRem a k) = signed_text a ++ codes " % " ++ signed_constant_text k
form_text n (Shl a b) = infix_text (codes " << ") a b
form_text n (Shr a b) = infix_text (codes " >> ") a b
form_text n (Sar a b) = signed_text a ++ codes " >>> " ++ node_name b
form_text n (Eq a b) = infix_text (codes " == ") a b
form_text n (Lt a b) = infix_text (codes " < ") a b
form_text n (SLt a b) = signed_text a ++ codes " < " ++ signed_text b
form_text n (Parity a) = codes "^" ++ node_name a
form_text n (Choice a b c) = node_name a ++ codes " ? " ++ node_name b ++ codes " : " ++ node_name c
form_text n (Concat a b) = codes "{" ++ node_name a ++ codes ", " ++ node_name b ++ codes "}"
form_text n (Slice a high low) = node_name a ++ codes "[" ++ decimal high ++ codes ":" ++ decimal low ++ codes "]"
form_text n (Copies a times) = codes "{" ++ decimal times ++ codes "{" ++ node_name a ++ codes "}}"

-- ---- lines, without their line feeds

-- a line for each item, with its place
abbrev pub numbered : {X : Type 0} → (ℕ → X → List ℕ) → List X → List (List ℕ)
numbered line xs = map (λ i. line i.0 i.1) (enumerate_from 0 xs)

-- widths, each after a blank
abbrev pub width_texts : List ℕ → List ℕ
width_texts ws = flat_map (λ w. codes " " ++ decimal w) ws

-- a function of the host: its name, then the widths of its inputs and of its reply items
abbrev pub function_line : FunctionLine → List ℕ
function_line f = codes "// function " ++ f.name ++ codes " in" ++ width_texts f.ins ++ codes " out" ++ width_texts f.rets

-- the version, the number of processes, the functions, and the module's first line
abbrev pub head_lines : Parts → List (List ℕ)
head_lines n = (codes "// xtc design " ++ decimal n.version) ∷ (codes "// processes " ++ decimal n.processes) ∷ map function_line n.functions ++ codes "module xtc_design (" ∷ []

-- an input pin of a width and a name; another pin always follows
abbrev pub input_line : ℕ → List ℕ → List ℕ
input_line w name = codes "  input wire " ++ range_text w ++ name ++ codes ","

-- a host's input pins: the acknowledgement, then the reply items
abbrev pub host_input_lines : HostLine → List (List ℕ)
host_input_lines h = input_line 1 (ack_name h.process) ∷ numbered (λ i w. input_line w (ret_name h.process i)) h.rets

-- all input pins, the clock first
abbrev pub input_lines : Parts → List (List ℕ)
input_lines n = input_line 1 (codes "xtc_clk") ∷ map (λ i. input_line i.width i.name) n.inputs ++ flat_map host_input_lines n.hosts

-- an output pin of a width and a name
abbrev pub output_line : ℕ → List ℕ → List ℕ
output_line w name = codes "  output wire " ++ range_text w ++ name

-- each line but the last ends with a comma
abbrev pub with_commas : List (List ℕ) → List (List ℕ)
with_commas [] = []
with_commas (line ∷ []) = line ∷ []
with_commas (line ∷ following ∷ rest) = (line ++ codes ",") ∷ with_commas (following ∷ rest)

-- all output pins, in port order, and the end of the pins
abbrev pub output_lines : Parts → List (List ℕ)
output_lines n = with_commas (map (λ p. output_line p.0 p.1) (zip (port_widths n) (port_names n))) ++ codes ");" ∷ []

-- a register with its start value
abbrev pub register_line : ℕ → bits.Word → List ℕ
register_line i k = codes "  reg " ++ range_text k.width ++ register_name i ++ codes " = " ++ constant_text k ++ codes ";"

-- a memory, by the number of its last word
abbrev pub memory_line : ℕ → Memory → List ℕ
memory_line i m = codes "  reg " ++ range_text m.width ++ memory_name i ++ codes " [0:" ++ decimal (m.words - 1) ++ codes "];"

-- a node with its form
abbrev pub node_line : Parts → ℕ → Node → List ℕ
node_line n i m = codes "  wire " ++ range_text m.width ++ node_name i ++ codes " = " ++ form_text n m.op ++ codes ";"

-- an output pin and the node that drives it
abbrev pub assign_line : List ℕ → ℕ → List ℕ
assign_line name a = codes "  assign " ++ name ++ codes " = " ++ node_name a ++ codes ";"

-- a register and the node of its next value
abbrev pub next_line : ℕ → ℕ → List ℕ
next_line i a = codes "    " ++ register_name i ++ codes " <= " ++ node_name a ++ codes ";"

-- a write to a memory under its condition
abbrev pub write_line : MemWrite → List ℕ
write_line w = codes "    if (" ++ node_name w.when ++ codes ") " ++ memory_name w.memory ++ codes "[" ++ node_name w.index ++ codes "] <= " ++ node_name w.value ++ codes ";"

-- the registers, the memories and the nodes
abbrev pub declaration_lines : Parts → List (List ℕ)
declaration_lines n = numbered register_line n.registers ++ numbered memory_line n.memories ++ numbered (node_line n) n.nodes

-- all output pins with the nodes that drive them, in port order
abbrev pub assign_lines : Parts → List (List ℕ)
assign_lines n = map (λ p. assign_line p.0 p.1) (zip (port_names n) n.drives)

-- what each edge of the clock does, and the module's end
abbrev pub clock_lines : Parts → List (List ℕ)
clock_lines n = codes "  always @(posedge xtc_clk) begin" ∷ numbered next_line n.nexts ++ map write_line n.writes ++ codes "  end" ∷ codes "endmodule" ∷ []

-- the lines of a written design
abbrev pub lines_of : Parts → List (List ℕ)
lines_of n = head_lines n ++ input_lines n ++ output_lines n ++ declaration_lines n ++ assign_lines n ++ clock_lines n

-- the text: each line is ended by one line feed
abbrev pub text_of : Parts → List ℕ
text_of n = flat_map (λ line. line ++ codes "\n") (lines_of n)
