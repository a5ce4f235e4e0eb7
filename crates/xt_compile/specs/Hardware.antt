-- The hardware of a design: what is promised of a netlist that is compiled. All of it is this project's own.
use Rattle.std.specs.Prelude.{◌≡◌, ◌≤◌, ◌↔◌, ℕ, zero, suc, max, List, [], ◌∷◌, ◌++◌, map, flat_map, length, option_map, unwrap_or, slice_get, Contains, Option, Some, None}
use Rattle.std.specs.List.{enumerate_from, filter_map}
use Rattle.xt_bits.specs.Stimulus.{Stimulus}
use Rattle.xt_bits.specs.Trace.{Trace}
use Rattle.xt_bits.specs.Word.{Word}
use Rattle.nt_core.specs.declared.netlist.Wire.{Wire}
use Rattle.nt_core.specs.Conditions.{IsNetlist}
use Rattle.nt_core.specs.DesignRun.{IsDesignTrace}
use Rattle.nt_core.specs.FunctionLine.{FunctionLine}
use Rattle.nt_core.specs.HostLine.{HostLine}
use Rattle.nt_core.specs.Parts.{Parts}
use Rattle.nt_core.specs.Text.{text_of}
use Rattle.el_design.specs.declared.designs.Design.{Design}
use Rattle.el_design.specs.declared.designs.Import.{Import}
use Rattle.el_design.specs.declared.designs.Source.{Source}
use Rattle.el_design.specs.declared.designs.Source.TheVariants as shown
use Rattle.el_design.specs.InPlace.{HasInPlace}
use Rattle.el_design.specs.Laws.{EdgeBegins}
use Rattle.el_design.specs.Names.{listed}
use Rattle.el_design.specs.Plain.{Expr, Lvalue, Statement, Enable, Host, FlatProc, Flat}
use Rattle.el_design.specs.Queue.{Config, Event}
use Rattle.el_design.specs.Run.{IsStimulus, Runs, Takes, Any, net_width}
use Rattle.el_design.specs.Store.{width_of}
use Rattle.el_design.specs.Texts.{texts}
use Rattle.el_design.specs.View.{flat_of}
use Rattle.xt_base.specs.declared.refusals.Place.{Place}

-- ---- the outside

abbrev pub pin : List ℕ → ℕ → Wire
pin name width = record { name = name; width = width }

abbrev pub net_name : Design → ℕ → List ℕ
net_name d n = unwrap_or (option_map (λ net. net.name) (slice_get d.nets n)) []

-- the width in bits of the variable or net that an output pin shows
abbrev pub shown_width : Flat → Source → ℕ
shown_width d (shown.Var v) = width_of d v
shown_width d (shown.Net n) = net_width d n

-- the top module's input ports but for the clock, and its output ports, each in port order
abbrev pub input_pins : Design → List Wire
input_pins d = map (λ n. pin (net_name d n) (net_width (flat_of d) n)) d.inputs

abbrev pub output_pins : Design → List Wire
output_pins d = map (λ p. pin p.name (shown_width (flat_of d) p.from)) d.outputs

-- an import as a function of the host: its name, the widths of its inputs, and those of its result, if it has one, and its outputs
abbrev pub function_of : Import → FunctionLine
function_of f = record { name = f.name; ins = map (λ p. p.width) f.ins; rets = map (λ p. p.width) (listed f.result ++ f.outs) }

-- ---- the pins for calls of the host

-- the imports that a statement calls by itself, or that a task calls where it enables one, by their numbers
abbrev pub called_by : (ℕ → List ℕ) → Statement → List ℕ
called_by of_task (Enable at t ins outs) = of_task t
called_by of_task (Host at f ins result outs) = f ∷ []
called_by of_task x = []

-- those that a text calls
abbrev pub called_in : (ℕ → List ℕ) → Statement → List ℕ
called_in of_task s = flat_map (called_by of_task) (texts s)

-- those that a task calls, where enables nest so deep at most
abbrev pub called_in_task : Flat → ℕ → ℕ → List ℕ
called_in_task d zero t = []
called_in_task d (suc n) t = elim (slice_get d.tasks t) [ None ↦ [] | Some task ↦ called_in (called_in_task d n) task.body ]

-- Those that a statement calls in place, with the bodies of tasks. In a design in which no task leads back to itself, no chain of enables is longer than there are tasks.
abbrev pub called_in_place : Flat → Statement → List ℕ
called_in_place d s = called_in (called_in_task d (length d.tasks)) s

-- by place the larger of two widths, or the one that is there
abbrev pub wider : List ℕ → List ℕ → List ℕ
wider [] vs = vs
wider (w ∷ ws) [] = w ∷ ws
wider (w ∷ ws) (v ∷ vs) = max w v ∷ wider ws vs

-- by place the largest width
abbrev pub widest : List (List ℕ) → List ℕ
widest [] = []
widest (ws ∷ more) = wider ws (widest more)

-- The pins of a process that calls these functions, none if it calls none: each pin for an item of replies, and each for an argument, is as wide as the widest that
-- stands at its place in one of them.
abbrev pub host_of : ℕ → List FunctionLine → List HostLine
host_of p [] = []
host_of p (f ∷ fs) = record { process = p; rets = widest (map (λ g. g.rets) (f ∷ fs)); args = widest (map (λ g. g.ins) (f ∷ fs)) } ∷ []

-- the functions that a statement calls in place
abbrev pub functions_called : Flat → Statement → List FunctionLine
functions_called d s = map function_of (filter_map (slice_get d.imports) (called_in_place d s))

-- the pins of all processes that call the host, by number
abbrev pub hosts_of : Flat → List HostLine
hosts_of d = flat_map (λ p. host_of p.0 (functions_called d p.1.body)) (enumerate_from 0 d.procs)

-- a process calls an import, in its own text or in that of a task that it enables
pub data CallsImport (d : Flat) (p f : ℕ) : Type 0 where
  calls_import : {at : Place} {ins : List Expr} {result : Option Lvalue} {outs : List Lvalue} → HasInPlace d p (Host at f ins result outs) → CallsImport d p f

-- the imports so listed of a process's text are those that the process calls
abbrev pub CallsAreListed : Flat → Type 0
CallsAreListed d = (p : ℕ) (process : FlatProc) → slice_get d.procs p ≡ Some process → (f : ℕ) → Contains (called_in_place d process.body) f ↔ CallsImport d p f

-- ---- both

-- a netlist has the pins of a design, its functions and its processes, and pins for the calls of those processes that call
pub record HasOutside (d : Design) (n : Parts) : Type 0 where
  pub inputs : n.inputs ≡ input_pins d
  pub outputs : n.outputs ≡ output_pins d
  pub functions : n.functions ≡ map function_of d.imports
  pub processes : n.processes ≡ length d.procs
  pub hosts : n.hosts ≡ hosts_of (flat_of d)

-- ---- what is seen

-- Under a stimulus a design always shows one trace, whatever order its events are taken in (IEEE 1364-2005, 11.4.2): some order comes to the end of the run, each that
-- does shows this trace, and in no edge do events go on without end.
pub record AlwaysShows (d : Flat) (x : Stimulus) (t : Trace) : Type 0 where
  pub some_order : (plays : List (List Event)) × Runs d x plays t
  pub each_order : (plays : List (List Event)) (other : Trace) → Runs d x plays other → other ≡ t
  pub no_endless : (rows : List (List Word)) (begin : Config) → EdgeBegins d x rows begin →
      (most : ℕ) × ((es : List Event) (end : Config) → Takes d Any 0 begin es end → length es ≤ most)

-- ---- the headline

-- Bytes are the hardware of a design: they are the text of one netlist with the design's pins and functions, and for every stimulus (any values on the pins for any number
-- of edges, any replies of the host, each after any delay) the netlist's trace is the one that the design always shows.
pub record IsHardwareOf (d : Design) (bytes : List ℕ) : Type 0 where
  pub netlist : Parts
  pub is_netlist : IsNetlist netlist
  pub text : bytes ≡ text_of netlist
  pub outside : HasOutside d netlist
  pub same_trace : (x : Stimulus) → IsStimulus (flat_of d) x → (t : Trace) × IsDesignTrace netlist x t × AlwaysShows (flat_of d) x t
