-- A netlist as contracts see it: its parts with plain lists.
use Rattle.nt_core.specs.declared.netlist.Netlist.TheInside.{Inside}
use Rattle.nt_core.specs.Parts.{Parts}

-- a netlist of the code, with its lists as plain ones
abbrev pub parts_of : Inside → Parts
parts_of n = record {
  version = n.version;
  processes = n.processes;
  functions = n.functions.items;
  inputs = n.inputs.items;
  outputs = n.outputs.items;
  hosts = n.hosts.items;
  registers = n.registers.items;
  memories = n.memories.items;
  nodes = n.nodes.items;
  drives = n.drives.items;
  nexts = n.nexts.items;
  writes = n.writes.items;
}
