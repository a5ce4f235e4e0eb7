-- What the lines of a text tell, one after another. A line of another kind tells nothing. All of it is this project's own.
use Rattle.std.specs.Prelude.{ℕ, ◌+◌, ◌-◌, ◌^◌, ◌==◌, Bool, List, [], ◌∷◌, ◌++◌, length, drop, map, filter, fold, get_or, nat_eq, codes, min, Option, Some, None, slice_get, slice_set, if◌then◌else◌}
use Rattle.std.specs.List.{starts_with, slice_split, before_first, after_first}
use Rattle.nt_core.specs.declared.netlist.Wire.{Wire}
use Rattle.nt_core.specs.declared.netlist.Memory.{Memory}
use Rattle.nt_core.specs.declared.netlist.MemWrite.{MemWrite}
use Rattle.nt_core.specs.declared.netlist.Node.{Node}
use Rattle.nt_core.specs.FunctionLine.{FunctionLine}
use Rattle.nt_core.specs.HostLine.{HostLine}
use Rattle.nt_core.specs.Parts.{Parts, ShellParts, assembled}
use Rattle.nt_read.specs.declared.sketch.Told.{Told}
use Rattle.nt_read.specs.Words.{number, after_number, word_of, after_word, range, after_range, constant, widths, after_widths}
use Rattle.nt_read.specs.Forms.{own, after_own, form}
use Rattle.nt_read.specs.Names.{names_of}

-- nothing
abbrev pub nothing : Told
nothing = record {
  shell = record { version = 0; processes = 0; functions = []; inputs = []; outputs = []; hosts = []; registers = []; memories = []; drives = []; nexts = []; writes = [] };
  asked = 0;
}

-- ---- hosts

-- a host with one more reply item
abbrev pub with_ret : ℕ → HostLine → HostLine
with_ret w h = record h { rets = h.rets ++ w ∷ [] }

-- a host with one more argument
abbrev pub with_arg : ℕ → HostLine → HostLine
with_arg w h = record h { args = h.args ++ w ∷ [] }

-- hosts with one changed, if there is one at the place
abbrev pub changed_at : (HostLine → HostLine) → List HostLine → ℕ → Option HostLine → List HostLine
changed_at change hosts i None = hosts
changed_at change hosts i (Some h) = slice_set hosts i (change h)

abbrev pub changed : (HostLine → HostLine) → List HostLine → ℕ → List HostLine
changed change hosts i = changed_at change hosts i (slice_get hosts i)

-- ---- lines, split at their line feeds

abbrev pub lines_in : List ℕ → List (List ℕ)
lines_in text = slice_split (λ c. c == 10) text

-- the line at the front, and what follows its line feed
abbrev pub line_of : List ℕ → List ℕ
line_of text = before_first (λ c. c == 10) text

abbrev pub after_line : List ℕ → List ℕ
after_line text = after_first (λ c. c == 10) text

-- a node's line
abbrev pub is_node_line : List ℕ → Bool
is_node_line line = starts_with nat_eq line (codes "  wire ")

-- what is read where no number is greater than this
module _ (most : ℕ) where
  -- ---- the line of each kind, behind what tells its kind

  -- a function: `NAME in W .. out W ..`
  unfoldable pub function_told : List ℕ → FunctionLine
  function_told text = record {
    name = word_of text;
    ins = widths most 16 (drop 3 (after_word text));
    rets = widths most 16 (drop 4 (after_widths 16 (drop 3 (after_word text))));
  }

  -- a pin: its range and its name
  abbrev pub pin_told : List ℕ → Wire
  pin_told text = record { name = word_of (after_range text); width = range most text }

  -- an input of a process: told by the byte behind its number and a low line, 97 for the acknowledgement, else an item of its reply
  abbrev pub host_input_told : ℕ → List ℕ → List HostLine → List HostLine
  host_input_told w text hosts =
      if get_or (after_own text) 1 0 == 97 then hosts ++ record { process = own most text; rets = []; args = [] } ∷ [] else
      changed (with_ret w) hosts (length hosts - 1)

  -- an output of a process: its request, told by the byte 114, or an argument, 97
  abbrev pub host_output_told : ℕ → List ℕ → Told → Told
  host_output_told w text s =
      if get_or (after_own text) 1 0 == 114 then record s { asked = min (2 ^ 64 - 1) (s.asked + 1) } else
      (if get_or (after_own text) 1 0 == 97 then record s { shell = record s.shell { hosts = changed (with_arg w) s.shell.hosts (s.asked - 1) } } else
      s)

  -- an input: told by the byte behind `xtc_`, 112 for `p`, where it isn't a pin
  abbrev pub input_told : List ℕ → ShellParts → ShellParts
  input_told text s =
      if starts_with nat_eq (after_range text) (codes "xtc_")
      then (if get_or (after_range text) 4 0 == 112 then record s { hosts = host_input_told (range most text) (after_range text) s.hosts } else s)
      else record s { inputs = s.inputs ++ pin_told text ∷ [] }

  abbrev pub output_told : List ℕ → Told → Told
  output_told text s =
      if starts_with nat_eq (after_range text) (codes "xtc_")
      then (if get_or (after_range text) 4 0 == 112 then host_output_told (range most text) (after_range text) s else s)
      else record s { shell = record s.shell { outputs = s.shell.outputs ++ pin_told text ∷ [] } }

  -- a memory: its range, its name and its greatest index
  abbrev pub memory_told : List ℕ → Memory
  memory_told text = record { width = range most text; words = min most (number most (drop 4 (after_own (after_range text))) + 1) }

  -- a register or a memory: told by the byte behind `xtc_`, 109 for `m`
  abbrev pub declaration_told : List ℕ → ShellParts → ShellParts
  declaration_told text s =
      if get_or (after_range text) 4 0 == 109
      then record s { memories = s.memories ++ memory_told text ∷ [] }
      else record s { registers = s.registers ++ constant most 2 (drop 3 (after_own (after_range text))) ∷ [] }

  -- a write to a memory: `A) xtc_mI[xtc_nB] <= xtc_nC;`
  abbrev pub write_told : List ℕ → MemWrite
  write_told text = record {
    when = own most text;
    memory = own most (drop 2 (after_own text));
    index = own most (drop 1 (after_own (drop 2 (after_own text))));
    value = own most (drop 5 (after_own (drop 1 (after_own (drop 2 (after_own text))))));
  }

  -- a line that counts
  abbrev pub comment_told : List ℕ → ShellParts → ShellParts
  comment_told line s =
      if starts_with nat_eq line (codes "// processes ") then record s { processes = number most (drop 13 line) } else
      (if starts_with nat_eq line (codes "// xtc design ") then record s { version = number most (drop 14 line) } else
      s)

  -- a line that isn't one of the ports
  abbrev pub inner_told : List ℕ → ShellParts → ShellParts
  inner_told line s =
      if starts_with nat_eq line (codes "  assign ") then record s { drives = s.drives ++ own most (drop 3 (after_word (drop 9 line))) ∷ [] } else
      (if starts_with nat_eq line (codes "    xtc_r") then record s { nexts = s.nexts ++ own most (drop 4 (after_number (drop 9 line))) ∷ [] } else
      (if starts_with nat_eq line (codes "    if (") then record s { writes = s.writes ++ write_told (drop 8 line) ∷ [] } else
      (if starts_with nat_eq line (codes "  reg ") then declaration_told (drop 6 line) s else
      (if starts_with nat_eq line (codes "// function ") then record s { functions = s.functions ++ function_told (drop 12 line) ∷ [] } else
      comment_told line s))))

  -- what was told after a line more; nodes are told apart
  abbrev pub told : Told → List ℕ → Told
  told s line =
      if is_node_line line then s else
      (if starts_with nat_eq line (codes "  input wire ") then record s { shell = input_told (drop 13 line) s.shell } else
      (if starts_with nat_eq line (codes "  output wire ") then output_told (drop 14 line) s else
      record s { shell = inner_told line s.shell }))

  -- all but the nodes
  abbrev pub shell_told : List ℕ → ShellParts
  shell_told text = (fold told nothing (lines_in text)).shell

  -- a node: its range, its name, and its form over the names of the pins
  abbrev pub node_told : List (List ℕ) → List ℕ → Node
  node_told names text = record { width = range most text; op = form most names (range most text) (drop 3 (after_own (after_range text))) }

  -- the nodes
  abbrev pub nodes_told : List (List ℕ) → List ℕ → List Node
  nodes_told names text = map (λ line. node_told names (drop 7 line)) (filter is_node_line (lines_in text))

  -- the parts that a text tells
  abbrev pub parts_told : List ℕ → Parts
  parts_told text = assembled (shell_told text) (nodes_told (names_of ((shell_told text).inputs ++ (shell_told text).outputs)) text)
