-- The netlist's parts beside its nodes meet its conditions.
use Rattle.std.proofs.Common.{◌≡◌, ◌≢◌, ◌++◌, ℕ, suc, false, List, [], ◌∷◌, Option, Some, None, length, map, refl, sym, ap, ◌∙◌, subst, arith}
use Rattle.std.specs.Prelude.{slice_get, flat_map, All, AllPairs}
use Rattle.std.proofs.lemmas.List.{map-append, append-nil}
use Rattle.std.proofs.lemmas.List.Elements.{All-nil}
use Rattle.xt_bits.specs.Word as bits
use Rattle.xt_bits.specs.Word.{word, IsKept}
use Rattle.nt_core.specs.declared.netlist.Memory.{Memory}
use Rattle.nt_core.specs.declared.netlist.MemWrite.{MemWrite}
use Rattle.nt_core.specs.declared.netlist.Node.{Node}
use Rattle.nt_core.specs.declared.netlist.Wire.{Wire}
use Rattle.nt_core.specs.declared.netlist.Op.{Op}
use Rattle.nt_core.specs.declared.netlist.Op.TheVariants.{Pin, Ack, Ret, Reg, Word}
use Rattle.nt_core.specs.Conditions.{Drive, HasSource, IsFunction, IsMemory, IsHost, AreHosts, IsPin, IsWrite, IsNumbered, IsShell, port_widths, host_port_widths}
use Rattle.nt_core.specs.Forms.{widths}
use Rattle.nt_core.specs.FunctionLine.{FunctionLine}
use Rattle.nt_core.specs.HostLine.{HostLine}
use Rattle.nt_core.specs.Parts.{Parts}
use Rattle.el_design.specs.declared.designs.Design.{Design}
use Rattle.el_design.specs.declared.designs.Net.{Net}
use Rattle.el_design.specs.declared.designs.Pin as shown
use Rattle.el_design.specs.declared.designs.Proc.{Proc}
use Rattle.el_design.specs.declared.designs.Source.{Source}
use Rattle.el_design.specs.declared.designs.Source.TheVariants as sources
use Rattle.el_design.specs.declared.designs.Var.{Var}
use Rattle.xt_compile.specs.declared.first.compile.expression.ValueMap.{ValueMap}
use Rattle.el_design.specs.View.{flat_of}
use Rattle.xt_compile.specs.Hardware.{pin, shown_width, input_pins, output_pins}
use Rattle.xt_compile.specs.first.Form.{IsOfForm, IsVariable, IsThere, var_widths, net_widths}
use Rattle.xt_compile.specs.first.Tree.{whole_file}
use Rattle.xt_compile.specs.first.Nodes.{IsSourced, AreSourced, IsMap, IsShown, node_shown, HasWidth, register_widths, state_width}
use Rattle.xt_compile.proofs.first_form.Growing.{node_there, node_width}
use Rattle.xt_compile.proofs.first_form.Outside.{net_width_at, var_width_at}

-- ---- what an output pin shows

abbrev any_net : Net
any_net = record { name = []; width = 1; signed = false; lsb = 0; value = None; place = whole_file }

abbrev any_var : Var
any_var = record { name = []; width = 1; signed = false; lsb = 0; words = 0; low = 0; start = word 1 0; place = whole_file }

pub shown_there : (d : Design) (ns : List Node) (m : ValueMap) → IsMap d ns m → (x : Source) → IsThere d x → IsShown m x
shown_there d ns m is (sources.Var v) h = node_there ns m.vars.items (var_widths d) v _ is.vars (var_width_at d v any_var h)
shown_there d ns m is (sources.Net n) h = node_there ns m.nets.items (net_widths d) n _ is.nets (net_width_at d n any_net h)

shown_node : (d : Design) (ns : List Node) (m : ValueMap) → IsMap d ns m → (x : Source) → IsThere d x → HasWidth ns (node_shown m x) (shown_width (flat_of d) x)
shown_node d ns m is (sources.Var v) h = node_width ns m.vars.items (var_widths d) v _ is.vars (var_width_at d v any_var h)
shown_node d ns m is (sources.Net n) h = node_width ns m.nets.items (net_widths d) n _ is.nets (net_width_at d n any_net h)

pub all_shown : (d : Design) (ns : List Node) (m : ValueMap) → IsMap d ns m → (ps : List shown.Pin) → All (λ p. IsThere d p.from) ps → All (λ p. IsShown m p.from) ps
all_shown d ns m is ps h k e lt = shown_there d ns m is _ (h k e lt)

outputs_driven : (d : Design) (ns : List Node) (m : ValueMap) → IsMap d ns m → (ps : List shown.Pin) → All (λ p. IsThere d p.from) ps
    → map (slice_get (widths ns)) (map (λ p. node_shown m p.from) ps) ≡ map (λ (w : ℕ). Some w) (map (λ (o : Wire). o.width) (map (λ p. pin p.name (shown_width (flat_of d) p.from)) ps))
outputs_driven d ns m is [] h = refl
outputs_driven d ns m is (p ∷ ps) h =
    let head = shown_node d ns m is p.from (h 0 p (omega arith)) in
    let tail = outputs_driven d ns m is ps (λ k e lt. h (suc k) e (omega arith)) in
    cc

-- ---- what the nodes read

has_source : (d : Design) (n : Parts) (op : Op) → n.inputs ≡ input_pins d → map (λ k. k.width) n.registers ≡ register_widths d → IsSourced d op → HasSource n op
has_source d n (Pin p w) ins regs h = ap (λ (ws : List Wire). slice_get (map (λ i. i.width) ws) p) ins ∙ h
has_source d n (Reg r w) ins regs h = ap (λ (ws : List ℕ). slice_get ws r) regs ∙ h
has_source d n (Ack p) ins regs h = absurd h
has_source d n (Ret p i w) ins regs h = absurd h
has_source d n (Word m a w) ins regs h = absurd h
has_source d n _ ins regs h = tt

starts_widths : (vs : List Var) → All IsVariable vs → map (λ (k : bits.Word). k.width) (map (λ v. v.start) vs) ≡ map (λ v. v.width) vs
starts_widths [] h = refl
starts_widths (v ∷ vs) h = let head = (h 0 v (omega arith)).start in let tail = starts_widths vs (λ k e lt. h (suc k) e (omega arith)) in cc

registers_widths : (d : Design) → IsOfForm d → (starts : List bits.Word) → starts ≡ map (λ v. v.start) d.vars ++ word state_width 0 ∷ [] → map (λ (k : bits.Word). k.width) starts ≡ register_widths d
registers_widths d form starts is =
    ap (map (λ (k : bits.Word). k.width)) is ∙ map-append (λ (k : bits.Word). k.width) (map (λ v. v.start) d.vars) (word state_width 0 ∷ [])
    ∙ ap (λ ws. ws ++ state_width ∷ []) (starts_widths d.vars form.vars)

-- ---- all of it

pub record AreParts (d : Design) (n : Parts) : Type 0 where
  pub version : n.version ≡ 1
  pub processes : n.processes ≡ length d.procs
  pub functions : n.functions ≡ []
  pub inputs : n.inputs ≡ input_pins d
  pub inputs_few : IsNumbered n.inputs
  pub outputs : n.outputs ≡ output_pins d
  pub outputs_few : IsNumbered n.outputs
  pub hosts : n.hosts ≡ []
  pub registers : n.registers ≡ map (λ v. v.start) d.vars ++ word state_width 0 ∷ []
  pub kept : All (λ k. IsKept k.width k.value) n.registers
  pub registers_few : IsNumbered n.registers
  pub memories : n.memories ≡ []
  pub writes : n.writes ≡ []

ports_are : (d : Design) (n : Parts) → AreParts d n → port_widths n ≡ 1 ∷ map (λ o. o.width) (output_pins d)
ports_are d n parts =
    ap (λ (ws : List Wire). 1 ∷ map (λ o. o.width) ws ++ flat_map host_port_widths n.hosts) parts.outputs
    ∙ ap (λ (hs : List HostLine). 1 ∷ map (λ o. o.width) (output_pins d) ++ flat_map host_port_widths hs) parts.hosts
    ∙ ap (λ (ws : List ℕ). 1 ∷ ws) (append-nil (map (λ o. o.width) (output_pins d)))

driven_ports : (d : Design) (n : Parts) (m : ValueMap) (edge : ℕ) → IsOfForm d → AreParts d n → IsMap d n.nodes m → HasWidth n.nodes edge 1
    → n.drives ≡ edge ∷ map (λ p. node_shown m p.from) d.outputs → Drive n.nodes n.drives (port_widths n)
driven_ports d n m edge form parts is up drives =
    let rest = outputs_driven d n.nodes m is d.outputs form.outputs in
    ap (map (slice_get (widths n.nodes))) drives
    ∙ ap (λ (o : Option ℕ). o ∷ map (slice_get (widths n.nodes)) (map (λ p. node_shown m p.from) d.outputs)) up
    ∙ ap (λ (os : List (Option ℕ)). Some 1 ∷ os) rest
    ∙ ap (map (λ (w : ℕ). Some w)) (sym (ports_are d n parts))

pub shell_of_form : (d : Design) (n : Parts) (m : ValueMap) (edge : ℕ) → IsOfForm d → AreParts d n → AreSourced d n.nodes → IsMap d n.nodes m → HasWidth n.nodes edge 1
    → n.drives ≡ edge ∷ map (λ p. node_shown m p.from) d.outputs → Drive n.nodes n.nexts (register_widths d) → IsShell n
shell_of_form d n m edge form parts sourced is up drives nexts =
    let one : length d.procs ≡ 1 = ap (λ (ps : List Proc). length ps) form.one in
    record {
      counts = record {
        version = parts.version;
        processes = omega (arith, parts.processes, one);
        functions = omega (arith, ap (λ (fs : List FunctionLine). length fs) parts.functions);
        inputs = parts.inputs_few;
        outputs = parts.outputs_few;
        registers = parts.registers_few;
        memories = omega (arith, ap (λ (ms : List Memory). length ms) parts.memories);
        writes = omega (arith, ap (λ (ws : List MemWrite). length ws) parts.writes);
      };
      parts = record {
        functions = subst (All IsFunction) (sym parts.functions) (All-nil IsFunction);
        registers = parts.kept;
        memories = subst (All IsMemory) (sym parts.memories) (All-nil IsMemory);
        hosts = subst (AreHosts n.processes) (sym parts.hosts) (record { each = All-nil (IsHost n.processes); rising = λ k lt. absurd (omega arith) });
      };
      pins = record {
        inputs = subst (All IsPin) (sym parts.inputs) form.named_inputs;
        outputs = subst (All IsPin) (sym parts.outputs) form.named_outputs;
        distinct = subst (AllPairs (λ a b. a.name ≢ b.name)) (ap (λ (ws : List Wire). ws ++ output_pins d) (sym parts.inputs) ∙ ap (λ (ws : List Wire). n.inputs ++ ws) (sym parts.outputs)) form.distinct;
      };
      connected = record {
        sources = λ k e lt. has_source d n _ parts.inputs (registers_widths d form n.registers parts.registers) (sourced.each k e lt);
        drives = driven_ports d n m edge form parts is up drives;
        nexts = subst (λ (ws : List ℕ). Drive n.nodes n.nexts ws) (sym (registers_widths d form n.registers parts.registers)) nexts;
        writes = subst (All (IsWrite n)) (sym parts.writes) (All-nil (IsWrite n));
      };
    }
