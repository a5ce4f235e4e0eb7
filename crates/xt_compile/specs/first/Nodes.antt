-- What the nodes of a netlist are of while it is compiled, and what their values are. All of it is this project's own.
use Rattle.std.specs.Prelude.{◌≡◌, ◌<◌, ◌≤◌, ◌==◌, ◌^◌, ℕ, zero, suc, if◌then◌else◌, List, [], ◌∷◌, ◌++◌, map, fold, set, length, get_or, slice_get, slice_index, Some, unwrap_or, All}
use Rattle.std.specs.List.{enumerate_from}
use Rattle.xt_bits.specs.Word.{word}
use Rattle.xt_bits.specs.Word as bits
use Rattle.nt_core.specs.declared.netlist.Node.{Node}
use Rattle.nt_core.specs.declared.netlist.Op.{Op}
use Rattle.nt_core.specs.declared.netlist.Op.TheVariants.{Pin, Ack, Ret, Reg, Word}
use Rattle.nt_core.specs.Conditions.{Drive}
use Rattle.nt_core.specs.Forms.{widths}
use Rattle.nt_core.specs.Growth.{Grows}
use Rattle.nt_core.specs.NodeValue.{node_value}
use Rattle.nt_core.specs.Sources.{Sources}
use Rattle.el_design.specs.declared.designs.Design.{Design}
use Rattle.el_design.specs.declared.designs.Source.{Source}
use Rattle.el_design.specs.declared.designs.Source.TheVariants as sources
use Rattle.el_design.specs.Plain.{Statement, Assign, ToVariable, Flat}
use Rattle.el_design.specs.Store.{Store}
use Rattle.el_design.specs.Value.{Scene, value}
use Rattle.el_design.specs.Queue.{scene_of}
use Rattle.el_design.specs.View.{flat_of}
use Rattle.xt_compile.specs.declared.first.compile.expression.ValueMap.{ValueMap}
use Rattle.xt_compile.specs.Hardware.{input_pins}
use Rattle.xt_compile.specs.first.Form.{var_widths, net_widths}
use Rattle.xt_compile.specs.first.Machine.{is_wait, behind, stretch, read_pins}

-- the width of a control point, in bits
abbrev pub state_width : ℕ
state_width = 16

-- the registers are the variables and then the control point
abbrev pub register_widths : Design → List ℕ
register_widths d = var_widths d ++ state_width ∷ []

-- ---- what the nodes read

-- a form reads only pins and registers that the design has, in their widths
abbrev pub IsSourced : Design → Op → Type 0
IsSourced d (Pin p w) = slice_get (map (λ i. i.width) (input_pins d)) p ≡ Some w
IsSourced d (Reg r w) = slice_get (register_widths d) r ≡ Some w
IsSourced d (Ack p) = ⊥
IsSourced d (Ret p i w) = ⊥
IsSourced d (Word m a w) = ⊥
IsSourced d _ = Unit {0}

pub record AreSourced (d : Design) (nodes : List Node) : Type 0 where
  pub each : All (λ m. IsSourced d m.op) nodes

-- nodes were added that read only such pins and registers
pub record Extends (d : Design) (old new : List Node) : Type 0 where
  pub grows : Grows old new
  pub sourced : AreSourced d old → AreSourced d new

-- ---- a node and its value

-- a node has this width
abbrev pub HasWidth : List Node → ℕ → ℕ → Type 0
HasWidth nodes i w = slice_get (widths nodes) i ≡ Some w

-- nodes were added; the node with this number has this width, and in each tick this value
pub record Means (d : Design) (old new : List Node) (i w : ℕ) (v : Sources → bits.Word) : Type 0 where
  pub extends : Extends d old new
  pub width : HasWidth new i w
  pub value : (s : Sources) → node_value new s i ≡ v s

-- the values of nodes, in order
abbrev pub values_at : List Node → Sources → List ℕ → List bits.Word
values_at nodes s is = map (node_value nodes s) is

-- nodes were added; there is one for each of these widths, and in each tick these are their values
pub record MeansEach (d : Design) (old new : List Node) (is ws : List ℕ) (vs : Sources → List bits.Word) : Type 0 where
  pub extends : Extends d old new
  pub widths : Drive new is ws
  pub values : (s : Sources) → values_at new s is ≡ vs s

-- ---- the nodes of variables and nets

-- there is a node for each variable and each net
pub record IsMap (d : Design) (nodes : List Node) (m : ValueMap) : Type 0 where
  pub vars : Drive nodes m.vars.items (var_widths d)
  pub nets : Drive nodes m.nets.items (net_widths d)

-- the node of what an output pin shows
abbrev pub node_shown : ValueMap → Source → ℕ
node_shown m (sources.Var v) = slice_index m.vars.items v
node_shown m (sources.Net n) = slice_index m.nets.items n

-- there is such a node
abbrev pub IsShown : ValueMap → Source → Type 0
IsShown m (sources.Var v) = v < length m.vars.items
IsShown m (sources.Net n) = n < length m.nets.items

-- the store in which each variable has one word
abbrev pub words_of : List bits.Word → Store
words_of vs = map (λ v. v ∷ []) vs

-- what the nodes of variables and nets stand for in a tick
abbrev pub scene_at : Design → List Node → ValueMap → Sources → Scene
scene_at d nodes m s = scene_of (flat_of d) (words_of (values_at nodes s m.vars.items)) (values_at nodes s m.nets.items)

-- the registers of things of these widths, from register 0 on
abbrev pub read_registers : List ℕ → List bits.Word → List bits.Word
read_registers ws registers = map (λ x. get_or registers x.0 (word x.1 0)) (enumerate_from 0 ws)

-- the nodes of variables read their registers, and those of nets their pins
pub record Reads (d : Design) (nodes : List Node) (m : ValueMap) : Type 0 where
  pub vars : (s : Sources) → values_at nodes s m.vars.items ≡ read_registers (var_widths d) s.state.registers
  pub nets : (s : Sources) → values_at nodes s m.nets.items ≡ read_pins (flat_of d) (net_widths d) s.inputs.row

-- ---- next values

-- the next values of the variables after an assignment, whose value is that in the scene
abbrev pub assigned : Flat → Scene → List bits.Word → Statement → List bits.Word
assigned d s nexts (Assign at (ToVariable v) e held) = set nexts v (value d s e)
assigned d s nexts other = nexts

abbrev pub all_assigned : Flat → Scene → List Statement → List bits.Word → List bits.Word
all_assigned d s ss nexts = fold (assigned d s) nexts ss

-- nodes were added; in place of the nodes `is` of the next values there are `js`, which stand for these after the assignments of a tick
pub record Assigns (d : Design) (old new : List Node) (m : ValueMap) (is js : List ℕ) (ss : Sources → List Statement) : Type 0 where
  pub extends : Extends d old new
  pub widths : Drive new js (var_widths d)
  pub values : (s : Sources) → values_at new s js ≡ all_assigned (flat_of d) (scene_at d old m s) (ss s) (values_at old s is)

-- ---- control points: 0 at the start, and n at the n-th wait

abbrev pub waits : List Statement → ℕ
waits [] = 0
waits (s ∷ ss) = if is_wait s then suc (waits ss) else waits ss

-- the statements that run from this point on before the next wait, where the first of these statements is behind wait number `at`
abbrev pub run_from : ℕ → ℕ → List Statement → List Statement
run_from point at [] = []
run_from point at (s ∷ ss) =
    if is_wait s then run_from point (suc at) ss
    else (if point == at then s ∷ run_from point at ss else run_from point at ss)

-- what is left of a body behind a point
abbrev pub rest_at : ℕ → List Statement → List Statement
rest_at zero ss = ss
rest_at (suc n) ss = rest_at n (unwrap_or (behind ss) [])

-- the point at the next wait
abbrev pub next_point : ℕ → List Statement → ℕ
next_point point body = if point == waits body then 1 else suc point

-- nodes were added; these stand for the registers after a tick in which the process goes from one point to its next wait
pub record Steps (d : Design) (old new : List Node) (m : ValueMap) (state : ℕ) (body : List Statement) (js : List ℕ) : Type 0 where
  pub extends : Extends d old new
  pub widths : Drive new js (register_widths d)
  pub points : waits body < 2 ^ state_width
  pub values : (s : Sources) (point : ℕ) → node_value old s state ≡ word state_width point → point ≤ waits body → 1 ≤ waits body
      → values_at new s js
      ≡ all_assigned (flat_of d) (scene_at d old m s) (stretch body (rest_at point body)) (values_at old s m.vars.items) ++ word state_width (next_point point body) ∷ []
