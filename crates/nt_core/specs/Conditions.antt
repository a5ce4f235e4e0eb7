-- The conditions that every netlist keeps. All of them are this project's own.
use Rattle.std.specs.Prelude.{◌≡◌, ◌≢◌, ℕ, ◌<◌, ◌≤◌, ◌==◌, List, [], ◌∷◌, ◌++◌, map, flat_map, length, take, Option, Some, None, slice_get, All, AllPairs, find, IsSome, IsTrue}
use Rattle.std.specs.List.Sorted.{IsStrictlyIncreasing}
use Rattle.xt_bits.specs.Word.{IsKept}
use Rattle.nt_core.specs.declared.netlist.Wire.{Wire}
use Rattle.nt_core.specs.declared.netlist.Memory.{Memory}
use Rattle.nt_core.specs.declared.netlist.Node.{Node}
use Rattle.nt_core.specs.declared.netlist.MemWrite.{MemWrite}
use Rattle.nt_core.specs.declared.netlist.Op.{Op}
use Rattle.nt_core.specs.declared.netlist.Op.TheVariants.{Pin, Ack, Ret, Reg, Word}
use Rattle.nt_core.specs.FunctionLine.{FunctionLine}
use Rattle.nt_core.specs.HostLine.{HostLine}
use Rattle.nt_core.specs.Parts.{Parts}
use Rattle.xt_base.specs.Identifiers.{is_identifier}
use Rattle.nt_core.specs.Names.{is_pin_name}
use Rattle.nt_core.specs.Forms.{IsWidth, IsNode, widths}

-- a list whose entries are numbered by 32 bits holds at most so many; its length has 32 bits as well
abbrev pub IsNumbered : {X : Type 0} → List X → Type 0
IsNumbered xs = length xs ≤ 4294967295

-- ---- the parts by themselves

-- at most 16 widths, each in range
abbrev pub AreWidths : List ℕ → Type 0
AreWidths ws = (length ws ≤ 16) × All IsWidth ws

-- a function has an identifier as its name, and at most 16 inputs and 16 items in its reply
pub record IsFunction (f : FunctionLine) : Type 0 where
  pub name : IsTrue (is_identifier f.name)
  pub ins : AreWidths f.ins
  pub rets : AreWidths f.rets

-- a pin has a pin's name, and its width is in range
pub record IsPin (p : Wire) : Type 0 where
  pub name : IsTrue (is_pin_name p.name)
  pub width : IsWidth p.width

-- a host serves a process that there is, with at most 16 reply items and 16 arguments
pub record IsHost (processes : ℕ) (h : HostLine) : Type 0 where
  pub process : h.process < processes
  pub rets : AreWidths h.rets
  pub args : AreWidths h.args

-- the hosts' processes rise
pub record AreHosts (processes : ℕ) (hosts : List HostLine) : Type 0 where
  pub each : All (IsHost processes) hosts
  pub rising : IsStrictlyIncreasing (map (λ h. h.process) hosts)

-- a memory has from 1 to 65,536 words of a width in range
pub record IsMemory (m : Memory) : Type 0 where
  pub width : IsWidth m.width
  pub some : 1 ≤ m.words
  pub words : m.words ≤ 65536

-- ---- what the nodes read

-- the host of a process, if it has one
abbrev pub host_of : List HostLine → ℕ → Option HostLine
host_of hosts p = find (λ h. h.process == p) hosts

-- the widths of its reply items; none where there is no host
abbrev pub reply_widths : Option HostLine → List ℕ
reply_widths None = []
reply_widths (Some h) = h.rets

-- a pin, process, reply item, register or memory that a form reads is there and has the form's width
abbrev pub HasSource : Parts → Op → Type 0
HasSource n (Pin p w) = slice_get (map (λ i. i.width) n.inputs) p ≡ Some w
HasSource n (Ack p) = IsSome (host_of n.hosts p)
HasSource n (Ret p i w) = slice_get (reply_widths (host_of n.hosts p)) i ≡ Some w
HasSource n (Reg r w) = slice_get (map (λ k. k.width) n.registers) r ≡ Some w
HasSource n (Word m a w) = slice_get (map (λ k. k.width) n.memories) m ≡ Some w
HasSource n _ = Unit {0}

-- ---- what the nodes drive

-- the widths of a host's output ports: its request, the function's number, and its arguments
abbrev pub host_port_widths : HostLine → List ℕ
host_port_widths h = 1 ∷ 8 ∷ h.args

-- the widths of all output ports, in port order: `xtc_edge`, the output pins, then each host's
abbrev pub port_widths : Parts → List ℕ
port_widths n = 1 ∷ map (λ o. o.width) n.outputs ++ flat_map host_port_widths n.hosts

-- one node for each of these widths, and of this width
abbrev pub Drive : List Node → List ℕ → List ℕ → Type 0
Drive nodes drives wanted = map (slice_get (widths nodes)) drives ≡ map Some wanted

-- a write has a condition of one bit, a place, and a value as wide as the memory's words
pub record IsWrite (n : Parts) (w : MemWrite) : Type 0 where
  pub memory : w.memory < length n.memories
  pub when : slice_get (widths n.nodes) w.when ≡ Some 1
  pub index : w.index < length n.nodes
  pub value : slice_get (widths n.nodes) w.value ≡ slice_get (map (λ m. m.width) n.memories) w.memory

-- ---- all of them

-- the version is 1, there are at most 64 processes and 256 functions, and the other lists can be numbered; hosts, drives and next values are bounded by these
pub record HasCounts (n : Parts) : Type 0 where
  pub version : n.version ≡ 1
  pub processes : n.processes ≤ 64
  pub functions : length n.functions ≤ 256
  pub inputs : IsNumbered n.inputs
  pub outputs : IsNumbered n.outputs
  pub registers : IsNumbered n.registers
  pub memories : IsNumbered n.memories
  pub writes : IsNumbered n.writes

-- each part is as it has to be
pub record HasParts (n : Parts) : Type 0 where
  pub functions : All IsFunction n.functions
  pub registers : All (λ k. IsKept k.width k.value) n.registers
  pub memories : All IsMemory n.memories
  pub hosts : AreHosts n.processes n.hosts

-- each pin is as it has to be, and no two have one name
pub record HasPins (n : Parts) : Type 0 where
  pub inputs : All IsPin n.inputs
  pub outputs : All IsPin n.outputs
  pub distinct : AllPairs (λ a b. a.name ≢ b.name) (n.inputs ++ n.outputs)

-- what the nodes read is there, and they drive all that is to be driven
pub record IsConnected (n : Parts) : Type 0 where
  pub sources : All (λ m. HasSource n m.op) n.nodes
  pub drives : Drive n.nodes n.drives (port_widths n)
  pub nexts : Drive n.nodes n.nexts (map (λ k. k.width) n.registers)
  pub writes : All (IsWrite n) n.writes

-- all conditions but those on the nodes alone
pub record IsShell (n : Parts) : Type 0 where
  pub counts : HasCounts n
  pub parts : HasParts n
  pub pins : HasPins n
  pub connected : IsConnected n

-- the nodes can be numbered, and each fits the nodes before it
pub record AreNodes (nodes : List Node) : Type 0 where
  pub few : IsNumbered nodes
  pub each : (i : ℕ) (m : Node) → slice_get nodes i ≡ Some m → IsNode (take i (widths nodes)) m

-- a netlist
pub record IsNetlist (n : Parts) : Type 0 where
  pub shell : IsShell n
  pub nodes : AreNodes n.nodes
