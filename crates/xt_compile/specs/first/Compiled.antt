-- What a compiled netlist is made of, and what its ticks do. All of it is this project's own.
use Rattle.std.specs.Prelude.{◌≡◌, ◌<◌, ◌≤◌, ◌^◌, ℕ, true, List, [], ◌∷◌, ◌++◌, map, length, get_or}
use Rattle.xt_bits.specs.Word.{Word, word}
use Rattle.nt_core.specs.declared.netlist.Node.{Node}
use Rattle.nt_core.specs.NodeValue.{value_at, values}
use Rattle.nt_core.specs.Parts.{Parts}
use Rattle.nt_core.specs.Ports.{edge_up, outputs}
use Rattle.nt_core.specs.Sources.{Sources, State}
use Rattle.el_design.specs.declared.designs.Design.{Design}
use Rattle.el_design.specs.Plain.{Statement}
use Rattle.el_design.specs.Queue.{scene_of}
use Rattle.el_design.specs.Value.{Scene}
use Rattle.el_design.specs.View.{flat_of}
use Rattle.xt_compile.specs.declared.first.compile.expression.ValueMap.{ValueMap}
use Rattle.xt_compile.specs.Hardware.{input_pins, output_pins}
use Rattle.xt_compile.specs.first.Form.{var_widths}
use Rattle.xt_compile.specs.first.Machine.{stretch, nets_of, pins_seen}
use Rattle.xt_compile.specs.first.Nodes.{node_shown, words_of, read_registers, all_assigned, rest_at, waits, next_point, state_width}

-- a netlist has the pins and processes of a design; it has no functions, and no ports for calls
pub record HasPins (d : Design) (n : Parts) : Type 0 where
  pub inputs : n.inputs ≡ input_pins d
  pub outputs : n.outputs ≡ output_pins d
  pub processes : n.processes ≡ length d.procs
  pub functions : n.functions ≡ []
  pub hosts : n.hosts ≡ []

-- the parts of the netlist of a design, with these nodes
pub record IsBuilt (d : Design) (n : Parts) (m : ValueMap) (edge : ℕ) (nodes : List Node) (nexts : List ℕ) : Type 0 where
  pub with_nodes : n.nodes ≡ nodes
  pub outside : HasPins d n
  pub registers : n.registers ≡ map (λ v. v.start) d.vars ++ word state_width 0 ∷ []
  pub drives : n.drives ≡ edge ∷ map (λ p. node_shown m p.from) d.outputs
  pub with_nexts : n.nexts ≡ nexts

-- the values that the registers hold for the variables
abbrev pub held : Design → State → List Word
held d state = read_registers (var_widths d) state.registers

abbrev pub scene_held : Design → Sources → Scene
scene_held d s = scene_of (flat_of d) (words_of (held d s.state)) (nets_of (flat_of d) s.inputs.row)

-- A netlist without hosts of which each tick ends an edge, shows the variables and nets on the pins, and takes the process from one control point to its next wait:
-- all assignments on the way are evaluated before the tick, and of two to one variable the later one counts.
pub record Ticks (d : Design) (n : Parts) (body : List Statement) : Type 0 where
  pub hosts : n.hosts ≡ []
  pub registers : n.registers ≡ map (λ v. v.start) d.vars ++ word state_width 0 ∷ []
  pub edges : (s : Sources) → edge_up n (values n.nodes s) ≡ true
  pub pins : (s : Sources) → outputs n (values n.nodes s) ≡ pins_seen (flat_of d) s.inputs.row (words_of (held d s.state))
  pub points : waits body < 2 ^ state_width
  pub steps : (s : Sources) (point : ℕ) → get_or s.state.registers (length d.vars) (word state_width 0) ≡ word state_width point → point ≤ waits body → 1 ≤ waits body
      → map (value_at (values n.nodes s)) n.nexts
      ≡ all_assigned (flat_of d) (scene_held d s) (stretch body (rest_at point body)) (held d s.state) ++ word state_width (next_point point body) ∷ []
