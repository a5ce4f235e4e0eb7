-- The parts of a written design as plain data, in the order of the design text. All of it is this project's own.
use Rattle.std.specs.Prelude.{ℕ, List}
use Rattle.xt_bits.specs.Word.{Word}
use Rattle.nt_core.specs.declared.netlist.Wire.{Wire}
use Rattle.nt_core.specs.declared.netlist.Memory.{Memory}
use Rattle.nt_core.specs.declared.netlist.Node.{Node}
use Rattle.nt_core.specs.declared.netlist.MemWrite.{MemWrite}
use Rattle.nt_core.specs.FunctionLine.{FunctionLine}
use Rattle.nt_core.specs.HostLine.{HostLine}

-- a written design
pub record Parts : Type 0 where
  pub version : ℕ
  pub processes : ℕ
  pub functions : List FunctionLine
  pub inputs : List Wire
  pub outputs : List Wire
  pub hosts : List HostLine
  pub registers : List Word
  pub memories : List Memory
  pub nodes : List Node
  pub drives : List ℕ
  pub nexts : List ℕ
  pub writes : List MemWrite

-- all of it but its nodes
pub record ShellParts : Type 0 where
  pub version : ℕ
  pub processes : ℕ
  pub functions : List FunctionLine
  pub inputs : List Wire
  pub outputs : List Wire
  pub hosts : List HostLine
  pub registers : List Word
  pub memories : List Memory
  pub drives : List ℕ
  pub nexts : List ℕ
  pub writes : List MemWrite

-- the whole, of a shell and nodes
abbrev pub assembled : ShellParts → List Node → Parts
assembled s nodes = record {
  version = s.version;
  processes = s.processes;
  functions = s.functions;
  inputs = s.inputs;
  outputs = s.outputs;
  hosts = s.hosts;
  registers = s.registers;
  memories = s.memories;
  nodes = nodes;
  drives = s.drives;
  nexts = s.nexts;
  writes = s.writes;
}
