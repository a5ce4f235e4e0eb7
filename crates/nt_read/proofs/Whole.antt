-- A netlist, read of its own text.
use Rattle.std.proofs.Common.{◌≡◌, ℕ, ◌+◌, ◌^◌, ◌≤◌, ◌<◌, true, List, [], ◌∷◌, ◌++◌, length, map, flat_map, fold, get_or, refl, ap, ◌∙◌, arith, codes, decimal, Some, slice_get, All}
use Rattle.std.specs.List.{list_all, enumerate_from, AllByRecursion}
use Rattle.std.proofs.lemmas.Option.{slice_get_within, slice_get-get_or}
use Rattle.std.proofs.lemmas.List.{length-map, length-append}
use Rattle.std.proofs.lemmas.List.Sums.{fold-append}
use Rattle.std.proofs.lemmas.List.Folds.{list_all-append}
use Rattle.std.proofs.lemmas.List.Elements.{recursion_from_All}
use Rattle.xt_bits.specs.Word.{IsKept}
use Rattle.xt_bits.specs.Word as bits
use Rattle.nt_core.specs.declared.netlist.Wire.{Wire}
use Rattle.nt_core.specs.declared.netlist.Memory.{Memory}
use Rattle.nt_core.specs.declared.netlist.MemWrite.{MemWrite}
use Rattle.nt_core.specs.declared.netlist.Node.{Node}
use Rattle.nt_core.specs.FunctionLine.{FunctionLine}
use Rattle.nt_core.specs.HostLine.{HostLine}
use Rattle.nt_core.specs.Parts.{Parts, ShellParts}
use Rattle.xt_base.specs.Identifiers.{is_in_word, is_word}
use Rattle.nt_core.specs.Forms.{IsWidth, widths}
use Rattle.nt_core.specs.Conditions.{IsNetlist, IsFunction, IsMemory, IsWrite, Drive, port_widths}
use Rattle.nt_core.specs.Text.{host_name, arg_name, host_port_names, port_names, numbered, function_line, head_lines, input_line, host_input_lines, input_lines, output_lines, register_line, memory_line, node_line, declaration_lines, assign_lines, next_line, write_line, clock_lines, lines_of}
use Rattle.nt_write.proofs.PortLists.{drives_fit}
use Rattle.nt_read.specs.declared.sketch.Told.{Told}
use Rattle.nt_read.specs.Sketch.{nothing, told}
use Rattle.nt_read.proofs.Numbers.{both, and_is}
use Rattle.nt_read.proofs.Pieces.{word_bytes}
use Rattle.nt_read.proofs.PinNames.{pin_word}
use Rattle.nt_read.proofs.LineTexts.{at_shell, version_told, processes_told, function_line_told, input_pin_told, register_told, memory_line_told, next_told, write_line_told}
use Rattle.nt_read.proofs.Sections.{GoodHost, GoodPin, bare, section, section_from, host_inputs, outputs_told, assigns_told}
use Rattle.nt_read.proofs.Facts.{Counts, good_hosts, good_pins}
use Rattle.nt_read.proofs.Plain.{number_word}

-- ---- what the lists keep, item by item

pub record GoodFunction (f : FunctionLine) : Type 0 where
  pub name : is_word f.name ≡ true
  pub ins_few : length f.ins ≤ 16
  pub ins : AllByRecursion IsWidth f.ins
  pub rets_few : length f.rets ≤ 16
  pub rets : AllByRecursion IsWidth f.rets

pub good_functions : (fs : List FunctionLine) → All IsFunction fs → AllByRecursion GoodFunction fs
good_functions fs each = recursion_from_All GoodFunction fs (λ i d within. good (get_or fs i d) (each i d within))
  where
    good : (f : FunctionLine) → IsFunction f → GoodFunction f
    good f is = record {
      name = (both (is_word f.name) _ is.name).0;
      ins_few = is.ins.0;
      ins = recursion_from_All IsWidth f.ins is.ins.1;
      rets_few = is.rets.0;
      rets = recursion_from_All IsWidth f.rets is.rets.1;
    }

pub record GoodWrite (most : ℕ) (w : MemWrite) : Type 0 where
  pub when : w.when ≤ most
  pub memory : w.memory ≤ most
  pub index : w.index ≤ most
  pub value : w.value ≤ most

pub good_writes : (most : ℕ) (n : Parts) → Counts most n → All (IsWrite n) n.writes → AllByRecursion (GoodWrite most) n.writes
good_writes most n c each = recursion_from_All (GoodWrite most) n.writes (λ i d within. good (get_or n.writes i d) (each i d within))
  where
    size : length (widths n.nodes) ≡ length n.nodes
    size = length-map n.nodes (λ (m : Node). m.width)

    good : (w : MemWrite) → IsWrite n w → GoodWrite most w
    good w is =
        let memory : slice_get (map (λ (m : Memory). m.width) n.memories) w.memory ≡ Some (get_or (map (λ (m : Memory). m.width) n.memories) w.memory 0) = slice_get-get_or (map (λ (m : Memory). m.width) n.memories) w.memory 0 (omega (arith, is.memory, length-map n.memories (λ (m : Memory). m.width))) in
        record {
          when = omega (arith, c.nodes, size, slice_get_within (widths n.nodes) w.when 1 is.when);
          memory = omega (arith, c.memories, is.memory);
          index = omega (arith, c.nodes, is.index);
          value = omega (arith, c.nodes, size, slice_get_within (widths n.nodes) w.value _ (is.value ∙ memory));
        }

-- nodes that drive something are there
pub driven : (most : ℕ) (nodes : List Node) (drives wanted : List ℕ) → length nodes ≤ most → Drive nodes drives wanted → AllByRecursion (λ a. a ≤ most) drives
driven most nodes [] wanted few drive = tt
driven most nodes (d ∷ ds) [] few drive = cc
driven most nodes (d ∷ ds) (w ∷ ws) few drive =
    let first : slice_get (widths nodes) d ≡ Some w = cc in
    let rest : map (slice_get (widths nodes)) ds ≡ map (λ x. Some x) ws = cc in
    (omega (arith, few, slice_get_within (widths nodes) d w first, length-map nodes (λ (m : Node). m.width)), driven most nodes ds ws few rest)

-- ---- the names of ports are words

all_append : {X : Type 0} (P : X → Type 0) (xs ys : List X) → AllByRecursion P xs → AllByRecursion P ys → AllByRecursion P (xs ++ ys)
all_append P [] ys good more = more
all_append P (x ∷ xs) ys good more = (good.0, all_append P xs ys good.1 more)

abbrev pub IsBytes : List ℕ → Type 0
IsBytes name = list_all is_in_word name ≡ true

two_words : (a b : List ℕ) → IsBytes a → IsBytes b → IsBytes (a ++ b)
two_words a b first second = list_all-append is_in_word a b ∙ and_is _ _ first second

host_word : (p : ℕ) → p < 2 ^ 64 → IsBytes (host_name p)
host_word p small = two_words (codes "xtc_p") (decimal p) refl (number_word p small)

pin_words : (pins : List Wire) → AllByRecursion GoodPin pins → AllByRecursion IsBytes (map (λ o. o.name) pins)
pin_words [] good = tt
pin_words (p ∷ pins) good = (word_bytes p.name (pin_word p.name good.0.name), pin_words pins good.1)

module _ (most : ℕ) (wide : most < 2 ^ 64) (room : 65536 ≤ most) where
  arg_words : (p : ℕ) → p < 2 ^ 64 → (k : ℕ) (args : List ℕ) → k + length args ≤ most → AllByRecursion IsBytes (map (λ i. arg_name p i.0) (enumerate_from k args))
  arg_words p small k [] few = tt
  arg_words p small k (w ∷ args) few = (two_words (host_name p ++ codes "_arg") (decimal k) (two_words (host_name p) (codes "_arg") (host_word p small) refl) (number_word k (omega (arith, few, wide))), arg_words p small (k + 1) args (omega (arith, few)))

  host_words : (hs : List HostLine) → AllByRecursion (GoodHost most) hs → AllByRecursion IsBytes (flat_map host_port_names hs)
  host_words [] good = tt
  host_words (h ∷ hs) good =
      let small : h.process < 2 ^ 64 = omega (arith, good.0.process, wide) in (
        two_words (host_name h.process) (codes "_req") (host_word h.process small) refl,
        (
          two_words (host_name h.process) (codes "_fn") (host_word h.process small) refl,
          all_append IsBytes (map (λ i. arg_name h.process i.0) (enumerate_from 0 h.args)) (flat_map host_port_names hs) (arg_words h.process small 0 h.args (omega (arith, good.0.args_few))) (host_words hs good.1),
        ),
      )

  pub port_words : (n : Parts) → AllByRecursion GoodPin n.outputs → AllByRecursion (GoodHost most) n.hosts → AllByRecursion IsBytes (port_names n)
  port_words n pins hosts = (refl, all_append IsBytes (map (λ o. o.name) n.outputs) (flat_map host_port_names n.hosts) (pin_words n.outputs pins) (host_words n.hosts hosts))

  -- ---- the sections

  -- the parts so far
  abbrev far : Parts → List FunctionLine → List Wire → List Wire → List HostLine → List bits.Word → List Memory → ℕ → Told
  far n functions inputs outputs hosts registers memories asked = record {
    shell = record { version = n.version; processes = n.processes; functions = functions; inputs = inputs; outputs = outputs; hosts = hosts; registers = registers; memories = memories; drives = []; nexts = []; writes = [] };
    asked = asked;
  }

  head_part : (n : Parts) → n.version ≤ most → n.processes ≤ most → AllByRecursion GoodFunction n.functions → fold (told most) nothing (head_lines n) ≡ far n n.functions [] [] [] [] [] 0
  head_part n version processes functions =
      let rest : List (List ℕ) = map function_line n.functions ++ codes "module xtc_design (" ∷ [] in
      ap (λ s. fold (told most) (told most s (codes "// processes " ++ decimal n.processes)) rest) (version_told most wide room nothing n.version version)
      ∙ ap (λ s. fold (told most) s rest) (processes_told most wide room (at_shell nothing (λ p. record p { version = n.version })) n.processes processes)
      ∙ fold-append (told most) (far n [] [] [] [] [] [] 0) (map function_line n.functions) (codes "module xtc_design (" ∷ [])
      ∙ ap (λ s. told most s (codes "module xtc_design (")) (section most wide room function_line GoodFunction (λ fs. far n fs [] [] [] [] [] 0)
      (λ fs f good. function_line_told most wide room (far n fs [] [] [] [] [] 0) f good.name good.ins_few good.ins good.rets_few good.rets) n.functions [] functions)

  input_part : (n : Parts) → AllByRecursion GoodPin n.inputs → AllByRecursion (GoodHost most) n.hosts → fold (told most) (far n n.functions [] [] [] [] [] 0) (input_lines n) ≡ far n n.functions n.inputs [] (map bare n.hosts) [] [] 0
  input_part n inputs hosts =
      fold-append (told most) (far n n.functions [] [] [] [] [] 0) (map (λ i. input_line i.width i.name) n.inputs) (flat_map host_input_lines n.hosts)
      ∙ ap (λ s. fold (told most) s (flat_map host_input_lines n.hosts)) (section most wide room (λ i. input_line i.width i.name) GoodPin (λ pins. far n n.functions pins [] [] [] [] 0)
      (λ pins i good. input_pin_told most wide room (far n n.functions pins [] [] [] [] 0) i good.name good.width) n.inputs [] inputs)
      ∙ host_inputs most wide room (far n n.functions n.inputs [] [] [] [] 0) n.hosts [] hosts

  declaration_part : (n : Parts) (c : Counts most n) → AllByRecursion (λ (k : bits.Word). IsKept k.width k.value) n.registers → AllByRecursion IsMemory n.memories
      → fold (told most) (far n n.functions n.inputs n.outputs n.hosts [] [] (length n.hosts)) (declaration_lines n) ≡ far n n.functions n.inputs n.outputs n.hosts n.registers n.memories (length n.hosts)
  declaration_part n c registers memories =
      let start : Told = far n n.functions n.inputs n.outputs n.hosts [] [] (length n.hosts) in
      fold-append (told most) start (numbered register_line n.registers ++ numbered memory_line n.memories) (numbered (node_line n) n.nodes)
      ∙ ap (λ s. fold (told most) s (numbered (node_line n) n.nodes)) (fold-append (told most) start (numbered register_line n.registers) (numbered memory_line n.memories)
      ∙ ap (λ s. fold (told most) s (numbered memory_line n.memories)) (section_from most wide room register_line (λ (k : bits.Word). IsKept k.width k.value) (λ ks. far n n.functions n.inputs n.outputs n.hosts ks [] (length n.hosts))
      (λ i ks k small kept. register_told most wide room (far n n.functions n.inputs n.outputs n.hosts ks [] (length n.hosts)) i k small kept) 0 n.registers [] (omega (arith, c.registers)) registers)
      ∙ section_from most wide room memory_line IsMemory (λ ms. far n n.functions n.inputs n.outputs n.hosts n.registers ms (length n.hosts))
      (λ i ms m small is. memory_line_told most wide room (far n n.functions n.inputs n.outputs n.hosts n.registers ms (length n.hosts)) i m small is.width is.some is.words) 0 n.memories [] (omega (arith, c.memories)) memories)
      ∙ nodes_part (far n n.functions n.inputs n.outputs n.hosts n.registers n.memories (length n.hosts)) n 0 n.nodes
    where
      nodes_part : (s : Told) (n : Parts) (k : ℕ) (ms : List Node) → fold (told most) s (map (λ i. node_line n i.0 i.1) (enumerate_from k ms)) ≡ s
      nodes_part s n k [] = refl
      nodes_part s n k (m ∷ ms) = nodes_part s n (k + 1) ms

  -- all parts but the nodes
  abbrev pub shell_of : Parts → ShellParts
  shell_of n = record { version = n.version; processes = n.processes; functions = n.functions; inputs = n.inputs; outputs = n.outputs; hosts = n.hosts; registers = n.registers; memories = n.memories; drives = n.drives; nexts = n.nexts; writes = n.writes }

  clock_part : (n : Parts) (c : Counts most n) (asked : ℕ) → AllByRecursion (λ a. a ≤ most) n.nexts → AllByRecursion (GoodWrite most) n.writes
      → fold (told most) (record { shell = record (shell_of n) { nexts = []; writes = [] }; asked = asked }) (clock_lines n) ≡ record { shell = shell_of n; asked = asked }
  clock_part n c asked nexts writes =
      let start : Told = record { shell = record (shell_of n) { nexts = []; writes = [] }; asked = asked } in
      fold-append (told most) start (numbered next_line n.nexts ++ map write_line n.writes) (codes "  end" ∷ codes "endmodule" ∷ [])
      ∙ ap (λ s. fold (told most) s (codes "  end" ∷ codes "endmodule" ∷ [])) (fold-append (told most) start (numbered next_line n.nexts) (map write_line n.writes)
      ∙ ap (λ s. fold (told most) s (map write_line n.writes)) (section_from most wide room next_line (λ a. a ≤ most) (λ as'. record { shell = record (shell_of n) { nexts = as'; writes = [] }; asked = asked })
      (λ i as' a small_i small. next_told most wide room (record { shell = record (shell_of n) { nexts = as'; writes = [] }; asked = asked }) i a small_i small) 0 n.nexts [] (omega (arith, c.nexts)) nexts)
      ∙ section most wide room write_line (GoodWrite most) (λ ws. record { shell = record (shell_of n) { writes = ws }; asked = asked })
      (λ ws w good. write_line_told most wide room (record { shell = record (shell_of n) { writes = ws }; asked = asked }) w good.when good.memory good.index good.value) n.writes [] writes)

  pub lines_told : (n : Parts) → IsNetlist n → Counts most n → fold (told most) nothing (lines_of n) ≡ record { shell = shell_of n; asked = length n.hosts }
  lines_told n net c =
      let shell = net.shell in
      let hosts : AllByRecursion (GoodHost most) n.hosts = good_hosts most n.processes n.hosts room shell.counts.processes shell.parts.hosts.each in
      let inputs : AllByRecursion GoodPin n.inputs = good_pins n.inputs shell.pins.inputs in
      let outputs : AllByRecursion GoodPin n.outputs = good_pins n.outputs shell.pins.outputs in
      let names_drives : length (port_names n) ≡ length n.drives = omega (arith, drives_fit n net, length-append (map (λ (o : Wire). o.name) n.outputs) (flat_map host_port_names n.hosts), length-map n.outputs (λ (o : Wire). o.name)) in
      fold-append (told most) nothing (head_lines n ++ input_lines n ++ output_lines n ++ declaration_lines n ++ assign_lines n) (clock_lines n)
      ∙ ap (λ s. fold (told most) s (clock_lines n)) (fold-append (told most) nothing (head_lines n ++ input_lines n ++ output_lines n ++ declaration_lines n) (assign_lines n)
      ∙ ap (λ s. fold (told most) s (assign_lines n)) (fold-append (told most) nothing (head_lines n ++ input_lines n ++ output_lines n) (declaration_lines n)
      ∙ ap (λ s. fold (told most) s (declaration_lines n)) (fold-append (told most) nothing (head_lines n ++ input_lines n) (output_lines n)
      ∙ ap (λ s. fold (told most) s (output_lines n)) (fold-append (told most) nothing (head_lines n) (input_lines n)
      ∙ ap (λ s. fold (told most) s (input_lines n)) (head_part n (omega (arith, shell.counts.version, room)) (omega (arith, shell.counts.processes, room)) (good_functions n.functions shell.parts.functions))
      ∙ input_part n inputs hosts)
      ∙ outputs_told most wide room (far n n.functions n.inputs [] (map bare n.hosts) [] [] 0) n outputs hosts (omega (arith, c.hosts, wide)))
      ∙ declaration_part n c (recursion_from_All (λ (k : bits.Word). IsKept k.width k.value) n.registers shell.parts.registers) (recursion_from_All IsMemory n.memories shell.parts.memories))
      ∙ assigns_told most wide room (far n n.functions n.inputs n.outputs n.hosts n.registers n.memories (length n.hosts)) (port_names n) n.drives [] names_drives (port_words n outputs hosts) (driven most n.nodes n.drives (port_widths n) c.nodes shell.connected.drives))
      ∙ clock_part n c (length n.hosts) (driven most n.nodes n.nexts _ c.nodes shell.connected.nexts) (good_writes most n c shell.connected.writes)
