-- The parts that a netlist's text tells are the netlist's.
use Rattle.std.proofs.Common.{◌≡◌, ℕ, ◌^◌, ◌≤◌, ◌<◌, false, List, [], ◌∷◌, ◌++◌, length, map, flat_map, filter, fold, zip, cond, refl, sym, ap, ◌∙◌, subst, arith, append-nil, drop, codes, decimal}
use Rattle.std.specs.List.{enumerate_from, AllByRecursion}
use Rattle.std.proofs.lemmas.List.Sums.{fold-append}
use Rattle.std.proofs.lemmas.List.Elements.{recursion_from_All}
use Rattle.xt_bits.specs.Word.{IsKept}
use Rattle.xt_bits.specs.Word as bits
use Rattle.nt_core.specs.declared.netlist.Wire.{Wire}
use Rattle.nt_core.specs.declared.netlist.Node.{Node}
use Rattle.nt_core.specs.HostLine.{HostLine}
use Rattle.nt_core.specs.Parts.{Parts, assembled}
use Rattle.nt_core.specs.Forms.{IsWidth}
use Rattle.nt_core.specs.Conditions.{IsNetlist, IsMemory, port_widths}
use Rattle.nt_core.specs.Text.{host_name, ack_name, ret_name, arg_name, port_names, numbered, function_line, head_lines, input_line, host_input_lines, input_lines, output_line, with_commas, output_lines, register_line, memory_line, node_line, declaration_lines, assign_line, assign_lines, next_line, write_line, clock_lines, lines_of, text_of}
use Rattle.nt_write.specs.Lines.{host_output_lines}
use Rattle.nt_write.proofs.PortLists.{arg_lines, other_lines}
use Rattle.nt_read.specs.declared.sketch.Told.{Told}
use Rattle.nt_read.specs.Words.{greatest}
use Rattle.nt_read.specs.Names.{names_of}
use Rattle.nt_read.specs.Sketch.{nothing, is_node_line, lines_in, told, shell_told, node_told, nodes_told, parts_told}
use Rattle.nt_read.proofs.Pieces.{word_bytes}
use Rattle.nt_read.proofs.PinNames.{pin_word}
use Rattle.nt_read.proofs.FormTexts.{Fits}
use Rattle.nt_read.proofs.Sections.{GoodHost, GoodPin}
use Rattle.nt_read.proofs.Facts.{Counts, counts, fits, good_hosts, good_pins}
use Rattle.nt_read.proofs.Plain.{Plain, piece, joined, number_plain, name_plain, host_plain, ack_plain, ret_plain, arg_plain, lines_of_text}
use Rattle.nt_read.proofs.PlainLines.{function_plain, input_plain, output_plain, register_line_plain, memory_line_plain, assign_plain, next_plain, write_plain, all_append, all_lines, all_numbered, with_commas_plain}
use Rattle.nt_read.proofs.Nodes.{GoodNode, good_nodes, line_plain, of_lines, of_lines_append, nodes_from}
use Rattle.nt_read.proofs.Whole.{GoodFunction, good_functions, GoodWrite, good_writes, driven, IsBytes, port_words, shell_of, lines_told}

-- ---- lines that are no node's

abbrev Other : List ℕ → Type 0
Other line = is_node_line line ≡ false

none : (lines : List (List ℕ)) → AllByRecursion Other lines → filter is_node_line lines ≡ []
none [] others = refl
none (line ∷ lines) others = ap (λ b. cond b (line ∷ filter is_node_line lines) (filter is_node_line lines)) others.0 ∙ none lines others.1

others_of : {X : Type 0} (line : X → List ℕ) → ((x : X) → is_node_line (line x) ≡ false) → (xs : List X) → AllByRecursion Other (map line xs)
others_of line other [] = tt
others_of line other (x ∷ xs) = (other x, others_of line other xs)

host_others : (hs : List HostLine) → AllByRecursion Other (flat_map host_input_lines hs)
host_others [] = tt
host_others (h ∷ hs) = all_append Other (host_input_lines h) (flat_map host_input_lines hs) (refl, others_of (λ (i : ℕ × ℕ). input_line i.1 (ret_name h.process i.0)) (λ i. refl) (enumerate_from 0 h.rets)) (host_others hs)

comma_others : (ports : List (ℕ × List ℕ)) → AllByRecursion Other (with_commas (map (λ p. output_line p.0 p.1) ports))
comma_others [] = tt
comma_others (p ∷ []) = (refl, tt)
comma_others (p ∷ q ∷ rest) = (refl, comma_others (q ∷ rest))

head_others : (n : Parts) → AllByRecursion Other (head_lines n)
head_others n = (refl, (refl, all_append Other (map function_line n.functions) (codes "module xtc_design (" ∷ []) (others_of function_line (λ f. refl) n.functions) (refl, tt)))

input_others : (n : Parts) → AllByRecursion Other (input_lines n)
input_others n = (refl, all_append Other (map (λ i. input_line i.width i.name) n.inputs) (flat_map host_input_lines n.hosts) (others_of (λ (i : Wire). input_line i.width i.name) (λ i. refl) n.inputs) (host_others n.hosts))

output_others : (n : Parts) → AllByRecursion Other (output_lines n)
output_others n = all_append Other (with_commas (map (λ p. output_line p.0 p.1) (zip (port_widths n) (port_names n)))) (codes ");" ∷ []) (comma_others (zip (port_widths n) (port_names n))) (refl, tt)

declared_others : (n : Parts) → AllByRecursion Other (numbered register_line n.registers ++ numbered memory_line n.memories)
declared_others n = all_append Other (numbered register_line n.registers) (numbered memory_line n.memories) (others_of (λ i. register_line i.0 i.1) (λ i. refl) (enumerate_from 0 n.registers)) (others_of (λ i. memory_line i.0 i.1) (λ i. refl) (enumerate_from 0 n.memories))

assign_others : (n : Parts) → AllByRecursion Other (assign_lines n)
assign_others n = others_of (λ (p : List ℕ × ℕ). assign_line p.0 p.1) (λ p. refl) (zip (port_names n) n.drives)

clock_others : (n : Parts) → AllByRecursion Other (clock_lines n)
clock_others n = (
  refl,
  all_append Other (numbered next_line n.nexts ++ map write_line n.writes) (codes "  end" ∷ codes "endmodule" ∷ [])
      (all_append Other (numbered next_line n.nexts) (map write_line n.writes) (others_of (λ (i : ℕ × ℕ). next_line i.0 i.1) (λ i. refl) (enumerate_from 0 n.nexts)) (others_of write_line (λ w. refl) n.writes))
      (refl, (refl, tt)),
)

module _ (most : ℕ) (wide : most < 2 ^ 64) (room : 65536 ≤ most) where
  -- ---- no line has a line feed

  small_widths : (ws : List ℕ) → AllByRecursion IsWidth ws → AllByRecursion (λ w. w < 2 ^ 64) ws
  small_widths [] good = tt
  small_widths (w ∷ ws) good = (omega (arith, good.0.1), small_widths ws good.1)

  head_plain : (n : Parts) → n.version ≤ most → n.processes ≤ most → AllByRecursion GoodFunction n.functions → AllByRecursion Plain (head_lines n)
  head_plain n version processes functions = (
    joined (codes "// xtc design ") (decimal n.version) (piece refl) (number_plain n.version (omega (arith, version, wide))),
    (
      joined (codes "// processes ") (decimal n.processes) (piece refl) (number_plain n.processes (omega (arith, processes, wide))),
      all_append Plain (map function_line n.functions) (codes "module xtc_design (" ∷ []) (all_lines function_line GoodFunction (λ f good. function_plain most wide f good.name (small_widths f.ins good.ins) (small_widths f.rets good.rets)) n.functions functions) (piece refl, tt),
    ),
  )

  host_inputs_plain : (hs : List HostLine) → AllByRecursion (GoodHost most) hs → AllByRecursion Plain (flat_map host_input_lines hs)
  host_inputs_plain [] good = tt
  host_inputs_plain (h ∷ hs) good =
      let small : h.process < 2 ^ 64 = omega (arith, good.0.process, wide) in
      all_append Plain (host_input_lines h) (flat_map host_input_lines hs) (
        input_plain most wide 1 (ack_name h.process) (omega arith) (ack_plain h.process small),
        all_numbered most (λ i w. input_line w (ret_name h.process i)) IsWidth (λ k w small_k width. input_plain most wide w (ret_name h.process k) (omega (arith, width.1)) (ret_plain h.process k small (omega (arith, small_k, wide)))) 0 h.rets (omega (arith, good.0.rets_few)) good.0.rets,
      )
      (host_inputs_plain hs good.1)

  pin_plain : (p : Wire) → GoodPin p → Plain p.name
  pin_plain p good = name_plain p.name (word_bytes p.name (pin_word p.name good.name))

  input_lines_plain : (n : Parts) → AllByRecursion GoodPin n.inputs → AllByRecursion (GoodHost most) n.hosts → AllByRecursion Plain (input_lines n)
  input_lines_plain n inputs hosts = (
    input_plain most wide 1 (codes "xtc_clk") (omega arith) (piece refl),
    all_append Plain (map (λ i. input_line i.width i.name) n.inputs) (flat_map host_input_lines n.hosts)
        (all_lines (λ (i : Wire). input_line i.width i.name) GoodPin (λ i good. input_plain most wide i.width i.name (omega (arith, good.width.1)) (pin_plain i good)) n.inputs inputs)
        (host_inputs_plain n.hosts hosts),
  )

  host_outputs_plain : (hs : List HostLine) → AllByRecursion (GoodHost most) hs → AllByRecursion Plain (flat_map host_output_lines hs)
  host_outputs_plain [] good = tt
  host_outputs_plain (h ∷ hs) good =
      let small : h.process < 2 ^ 64 = omega (arith, good.0.process, wide) in
      all_append Plain (host_output_lines h) (flat_map host_output_lines hs) (
        output_plain most wide 1 (host_name h.process ++ codes "_req") (omega arith) (joined (host_name h.process) (codes "_req") (host_plain h.process small) (piece refl)),
        (
          output_plain most wide 8 (host_name h.process ++ codes "_fn") (omega arith) (joined (host_name h.process) (codes "_fn") (host_plain h.process small) (piece refl)),
          subst (AllByRecursion Plain) (arg_lines h.process h.args)
              (all_numbered most (λ i w. output_line w (arg_name h.process i)) IsWidth (λ k w small_k width. output_plain most wide w (arg_name h.process k) (omega (arith, width.1)) (arg_plain h.process k small (omega (arith, small_k, wide)))) 0 h.args (omega (arith, good.0.args_few)) good.0.args),
        ),
      )
      (host_outputs_plain hs good.1)

  output_lines_plain : (n : Parts) → AllByRecursion GoodPin n.outputs → AllByRecursion (GoodHost most) n.hosts → AllByRecursion Plain (output_lines n)
  output_lines_plain n outputs hosts =
      let pins : List (List ℕ) = map (λ o. output_line o.width o.name) n.outputs in
      let others : List (List ℕ) = flat_map host_output_lines n.hosts in
      let lines : List (List ℕ) = map (λ p. output_line p.0 p.1) (zip (port_widths n) (port_names n)) in
      let split : lines ≡ output_line 1 (codes "xtc_edge") ∷ (pins ++ others) = ap (λ t. output_line 1 (codes "xtc_edge") ∷ t) (other_lines n.outputs n.hosts) in
      let plain : AllByRecursion Plain (output_line 1 (codes "xtc_edge") ∷ (pins ++ others)) = (
        output_plain most wide 1 (codes "xtc_edge") (omega arith) (piece refl),
        all_append Plain pins others (all_lines (λ (o : Wire). output_line o.width o.name) GoodPin (λ o good. output_plain most wide o.width o.name (omega (arith, good.width.1)) (pin_plain o good)) n.outputs outputs) (host_outputs_plain n.hosts hosts),
      ) in
      all_append Plain (with_commas lines) (codes ");" ∷ []) (with_commas_plain lines (subst (AllByRecursion Plain) (sym split) plain)) (piece refl, tt)

  declaration_plain : (n : Parts) → IsNetlist n → Counts most n → Fits most n → AllByRecursion Plain (declaration_lines n)
  declaration_plain n net c fit =
      all_append Plain (numbered register_line n.registers ++ numbered memory_line n.memories) (numbered (node_line n) n.nodes)
      (all_append Plain (numbered register_line n.registers) (numbered memory_line n.memories)
      (all_numbered most register_line (λ (k : bits.Word). IsKept k.width k.value) (λ i k small kept. register_line_plain most wide i k small kept) 0 n.registers (omega (arith, c.registers)) (recursion_from_All (λ (k : bits.Word). IsKept k.width k.value) n.registers net.shell.parts.registers))
      (all_numbered most memory_line IsMemory (λ i m small is. memory_line_plain most wide i m small is.width is.words) 0 n.memories (omega (arith, c.memories)) (recursion_from_All IsMemory n.memories net.shell.parts.memories)))
      (all_numbered most (node_line n) (GoodNode most n) (λ i m small good. line_plain most wide room n fit i m small good) 0 n.nodes (omega (arith, c.nodes)) (good_nodes most n net c.nodes))

  assigns_plain : (names : List (List ℕ)) (drives : List ℕ) → AllByRecursion IsBytes names → AllByRecursion (λ a. a ≤ most) drives → AllByRecursion Plain (map (λ p. assign_line p.0 p.1) (zip names drives))
  assigns_plain [] ds words small = tt
  assigns_plain (x ∷ xs) [] words small = tt
  assigns_plain (x ∷ xs) (d ∷ ds) words small = (assign_plain most wide x d words.0 small.0, assigns_plain xs ds words.1 small.1)

  clock_plain : (n : Parts) → Counts most n → AllByRecursion (λ a. a ≤ most) n.nexts → AllByRecursion (GoodWrite most) n.writes → AllByRecursion Plain (clock_lines n)
  clock_plain n c nexts writes = (
    piece refl,
    all_append Plain (numbered next_line n.nexts ++ map write_line n.writes) (codes "  end" ∷ codes "endmodule" ∷ [])
        (all_append Plain (numbered next_line n.nexts) (map write_line n.writes)
        (all_numbered most next_line (λ a. a ≤ most) (λ i a small_i small. next_plain most wide i a small_i small) 0 n.nexts (omega (arith, c.nexts)) nexts)
        (all_lines write_line (GoodWrite most) (λ w good. write_plain most wide w good.when good.memory good.index good.value) n.writes writes))
        (piece refl, (piece refl, tt)),
  )

  plain_lines : (n : Parts) → IsNetlist n → Counts most n → Fits most n → AllByRecursion Plain (lines_of n)
  plain_lines n net c fit =
      let shell = net.shell in
      let hosts : AllByRecursion (GoodHost most) n.hosts = good_hosts most n.processes n.hosts room shell.counts.processes shell.parts.hosts.each in
      let outputs : AllByRecursion GoodPin n.outputs = good_pins n.outputs shell.pins.outputs in
      all_append Plain (head_lines n ++ input_lines n ++ output_lines n ++ declaration_lines n ++ assign_lines n) (clock_lines n)
      (all_append Plain (head_lines n ++ input_lines n ++ output_lines n ++ declaration_lines n) (assign_lines n)
      (all_append Plain (head_lines n ++ input_lines n ++ output_lines n) (declaration_lines n)
      (all_append Plain (head_lines n ++ input_lines n) (output_lines n)
      (all_append Plain (head_lines n) (input_lines n)
      (head_plain n (omega (arith, shell.counts.version, room)) (omega (arith, shell.counts.processes, room)) (good_functions n.functions shell.parts.functions))
      (input_lines_plain n (good_pins n.inputs shell.pins.inputs) hosts))
      (output_lines_plain n outputs hosts))
      (declaration_plain n net c fit))
      (assigns_plain (port_names n) n.drives (port_words most wide room n outputs hosts) (driven most n.nodes n.drives (port_widths n) c.nodes shell.connected.drives)))
      (clock_plain n c (driven most n.nodes n.nexts _ c.nodes shell.connected.nexts) (good_writes most n c shell.connected.writes))

  -- ---- the nodes

  no_nodes : (n : Parts) (fit : Fits most n) (lines : List (List ℕ)) → AllByRecursion Other lines → of_lines most wide room n fit lines ≡ []
  no_nodes n fit lines others = ap (map (λ line. node_told most (names_of (n.inputs ++ n.outputs)) (drop 7 line))) (none lines others)

  nodes_of_lines : (n : Parts) → IsNetlist n → Counts most n → (fit : Fits most n) → of_lines most wide room n fit (lines_of n ++ [] ∷ []) ≡ n.nodes
  nodes_of_lines n net c fit =
      let F : List (List ℕ) → List Node = of_lines most wide room n fit in
      let before : List (List ℕ) = head_lines n ++ input_lines n ++ output_lines n in
      let declared : List (List ℕ) = numbered register_line n.registers ++ numbered memory_line n.memories in
      let nodes : List (List ℕ) = numbered (node_line n) n.nodes in
      let before_others : AllByRecursion Other before = all_append Other (head_lines n ++ input_lines n) (output_lines n) (all_append Other (head_lines n) (input_lines n) (head_others n) (input_others n)) (output_others n) in
      of_lines_append most wide room n fit (lines_of n) ([] ∷ [])
      ∙ append-nil (F (lines_of n))
      ∙ of_lines_append most wide room n fit (before ++ declaration_lines n ++ assign_lines n) (clock_lines n)
      ∙ ap (λ t. F (before ++ declaration_lines n ++ assign_lines n) ++ t) (no_nodes n fit (clock_lines n) (clock_others n))
      ∙ append-nil (F (before ++ declaration_lines n ++ assign_lines n))
      ∙ of_lines_append most wide room n fit (before ++ declaration_lines n) (assign_lines n)
      ∙ ap (λ t. F (before ++ declaration_lines n) ++ t) (no_nodes n fit (assign_lines n) (assign_others n))
      ∙ append-nil (F (before ++ declaration_lines n))
      ∙ of_lines_append most wide room n fit before (declaration_lines n)
      ∙ ap (λ t. t ++ F (declaration_lines n)) (no_nodes n fit before before_others)
      ∙ of_lines_append most wide room n fit declared nodes
      ∙ ap (λ t. t ++ F nodes) (no_nodes n fit declared (declared_others n))
      ∙ nodes_from most wide room n fit 0 n.nodes (omega (arith, c.nodes)) (good_nodes most n net c.nodes)

-- ---- the whole

pub wide : greatest < 2 ^ 64
wide = omega arith

pub room : 65536 ≤ greatest
room = omega arith

-- what a netlist's text tells is the netlist's
pub tells : (n : Parts) → IsNetlist n → (shell_told greatest (text_of n) ≡ shell_of greatest wide room n) × (nodes_told greatest (names_of (n.inputs ++ n.outputs)) (text_of n) ≡ n.nodes)
tells n net =
    let c : Counts greatest n = counts greatest n (omega arith) net in
    let fit : Fits greatest n = fits greatest n room net c in
    let lines : lines_in (text_of n) ≡ lines_of n ++ [] ∷ [] = lines_of_text (lines_of n) (plain_lines greatest wide room n net c fit) in
    let told_all : fold (told greatest) nothing (lines_in (text_of n)) ≡ record { shell = shell_of greatest wide room n; asked = length n.hosts } =
    ap (fold (told greatest) nothing) lines ∙ fold-append (told greatest) nothing (lines_of n) ([] ∷ []) ∙ ap (λ s. told greatest s []) (lines_told greatest wide room n net c) in
    (ap (λ (s : Told). s.shell) told_all, ap (of_lines greatest wide room n fit) lines ∙ nodes_of_lines greatest wide room n net c fit)

parts_read : (n : Parts) → IsNetlist n → parts_told greatest (text_of n) ≡ n
parts_read n net =
    ap (λ s. assembled s (nodes_told greatest (names_of (s.inputs ++ s.outputs)) (text_of n))) (tells n net).0
    ∙ ap (assembled (shell_of greatest wide room n)) (tells n net).1

-- two netlists with one text are one
pub one : (m n : Parts) → IsNetlist m → IsNetlist n → text_of m ≡ text_of n → m ≡ n
one m n first second same = sym (parts_read m first) ∙ ap (parts_told greatest) same ∙ parts_read n second
