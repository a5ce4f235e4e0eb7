-- The ticks of a finished netlist.
use Rattle.std.proofs.Common.{◌≡◌, ◌<◌, ◌≤◌, ◌++◌, ℕ, suc, List, [], ◌∷◌, length, map, get_or, take, drop, refl, sym, ap, ◌∙◌, subst, arith}
use Rattle.std.specs.Prelude.{slice_index, All}
use Rattle.std.proofs.lemmas.List.{length-map, take_all}
use Rattle.xt_bits.specs.Word.{Word, word}
use Rattle.xt_bits.specs.Operators.{any_of}
use Rattle.nt_core.specs.declared.netlist.Node.{Node}
use Rattle.nt_core.specs.declared.netlist.Wire.{Wire}
use Rattle.nt_core.specs.NodeValue.{value_at, values, node_value}
use Rattle.nt_core.specs.Parts.{Parts}
use Rattle.nt_core.specs.Ports.{outputs}
use Rattle.nt_core.specs.Sources.{Sources}
use Rattle.el_design.specs.declared.designs.Design.{Design}
use Rattle.el_design.specs.declared.designs.Pin as shown
use Rattle.el_design.specs.declared.designs.Source.{Source}
use Rattle.el_design.specs.declared.designs.Source.TheVariants as sources
use Rattle.el_design.specs.Plain.{Statement}
use Rattle.el_design.specs.Queue.{scene_of}
use Rattle.el_design.specs.Run.{source_value, net_width}
use Rattle.el_design.specs.Store.{width_of}
use Rattle.el_design.specs.Value.{Scene}
use Rattle.el_design.specs.View.{flat_of}
use Rattle.xt_compile.specs.declared.first.compile.expression.ValueMap.{ValueMap}
use Rattle.xt_compile.specs.first.Compiled.{IsBuilt, Ticks, held, scene_held}
use Rattle.xt_compile.specs.Hardware.{pin, shown_width, output_pins}
use Rattle.xt_compile.specs.first.Form.{IsOfForm, var_widths, net_widths}
use Rattle.xt_compile.specs.first.Machine.{stretch, read_pins, nets_of, between}
use Rattle.xt_compile.specs.first.Nodes.{Extends, HasWidth, IsMap, Reads, Steps, IsShown, node_shown, values_at, words_of, scene_at, all_assigned, rest_at, next_point, state_width}
use Rattle.xt_compile.proofs.first_form.Growing.{value_grows, values_grow}
use Rattle.xt_compile.proofs.first_form.Outside.{flat_widths}
use Rattle.xt_compile.proofs.first_form.Shells.{shown_there}
use Rattle.xt_compile.proofs.first_form.Sums.{nodes_value, word_there}

pub nets_are : (d : Design) (row : List Word) → read_pins (flat_of d) (net_widths d) row ≡ nets_of (flat_of d) row
nets_are d row = ap (λ (ws : List ℕ). read_pins (flat_of d) ws row) (sym (flat_widths d.nets))

-- the nodes that read go on reading as others are added
pub reads_grow : (d : Design) (old nodes : List Node) (m : ValueMap) → Extends d old nodes → IsMap d old m → Reads d old m → Reads d nodes m
reads_grow d old nodes m e map_is reads = record {
  vars = λ s. values_grow old nodes m.vars.items (var_widths d) e.grows map_is.vars s ∙ reads.vars s;
  nets = λ s. values_grow old nodes m.nets.items (net_widths d) e.grows map_is.nets s ∙ reads.nets s;
}

-- what is held, and the scene, by the nodes that read them
scene_read : (d : Design) (nodes : List Node) (m : ValueMap) → Reads d nodes m → (s : Sources) → scene_at d nodes m s ≡ scene_held d s
scene_read d nodes m reads s =
    ap (λ (vs : List Word). scene_of (flat_of d) (words_of vs) (values_at nodes s m.nets.items)) (reads.vars s)
    ∙ ap (λ (vs : List Word). scene_of (flat_of d) (words_of (held d s.state)) vs) (reads.nets s ∙ nets_are d s.inputs.row)

-- ---- the pins

pin_is : (d : Design) (nodes : List Node) (m : ValueMap) → Reads d nodes m → (s : Sources) (x : Source) → IsShown m x
    → node_value nodes s (node_shown m x) ≡ source_value (between s.inputs.row (words_of (held d s.state)) (nets_of (flat_of d) s.inputs.row)) (flat_of d) x
pin_is d nodes m reads s (sources.Var v) h =
    let within : v < length (held d s.state) = subst (λ (vs : List Word). v < length vs) (reads.vars s) (omega (arith, h, length-map m.vars.items (node_value nodes s))) in
    nodes_value nodes s m.vars.items v (word 1 0) h
    ∙ ap (λ (vs : List Word). get_or vs v (word 1 0)) (reads.vars s)
    ∙ sym (word_there (held d s.state) v (width_of (flat_of d) v) (word 1 0) within)
pin_is d nodes m reads s (sources.Net n) h =
    nodes_value nodes s m.nets.items n (word (net_width (flat_of d) n) 0) h
    ∙ ap (λ (vs : List Word). get_or vs n (word (net_width (flat_of d) n) 0)) (reads.nets s ∙ nets_are d s.inputs.row)

pins_are : (d : Design) (nodes : List Node) (m : ValueMap) → Reads d nodes m → (s : Sources) (ps : List shown.Pin) → All (λ p. IsShown m p.from) ps
    → map (value_at (values nodes s)) (map (λ p. node_shown m p.from) ps)
    ≡ map (λ p. source_value (between s.inputs.row (words_of (held d s.state)) (nets_of (flat_of d) s.inputs.row)) (flat_of d) p.from) ps
pins_are d nodes m reads s [] h = refl
pins_are d nodes m reads s (p ∷ ps) h =
    let head = pin_is d nodes m reads s p.from (h 0 p (omega arith)) in
    let tail = pins_are d nodes m reads s ps (λ k e lt. h (suc k) e (omega arith)) in
    cc

outputs_are : (d : Design) (n : Parts) (m : ValueMap) (edge : ℕ) (nodes : List Node) (nexts : List ℕ) → IsBuilt d n m edge nodes nexts → (vs : List Word)
    → outputs n vs ≡ map (value_at vs) (map (λ p. node_shown m p.from) d.outputs)
outputs_are d n m edge nodes nexts built vs =
    let ps : List ℕ = map (λ p. node_shown m p.from) d.outputs in
    let count : length ps ≤ length (output_pins d) =
    omega (arith, length-map d.outputs (λ (p : shown.Pin). node_shown m p.from), length-map d.outputs (λ (p : shown.Pin). pin p.name (shown_width (flat_of d) p.from))) in
    ap (λ (ds : List ℕ). map (value_at vs) (take (length n.outputs) (drop 1 ds))) built.drives
    ∙ ap (λ (ws : List Wire). map (value_at vs) (take (length ws) ps)) built.outside.outputs
    ∙ ap (map (value_at vs)) (take_all (length (output_pins d)) ps count)

-- ---- all of it

pub ticking : (d : Design) (form : IsOfForm d) (n : Parts) (m : ValueMap) (edge state : ℕ) (old nodes : List Node) (nexts : List ℕ) (body : List Statement)
    → IsBuilt d n m edge nodes nexts → IsMap d old m → Reads d old m
    → HasWidth old edge 1 → ((s : Sources) → node_value old s edge ≡ word 1 1)
    → HasWidth old state state_width → ((s : Sources) → node_value old s state ≡ get_or s.state.registers (length d.vars) (word state_width 0))
    → Steps d old nodes m state body nexts → Ticks d n body
ticking d form n m edge state old nodes nexts body built map_is reads edge_is up state_is reads_state steps = record {
  hosts = built.outside.hosts;
  registers = built.registers;
  edges = λ s.
      ap (λ (ds : List ℕ). any_of (value_at (values n.nodes s) (slice_index ds 0))) built.drives
      ∙ ap (λ (ns : List Node). any_of (node_value ns s edge)) built.with_nodes
      ∙ ap any_of (value_grows old nodes edge 1 steps.extends.grows edge_is s ∙ up s);
  pins = λ s.
      outputs_are d n m edge nodes nexts built (values n.nodes s)
      ∙ ap (λ (ns : List Node). map (value_at (values ns s)) (map (λ p. node_shown m p.from) d.outputs)) built.with_nodes
      ∙ pins_are d nodes m (reads_grow d old nodes m steps.extends map_is reads) s d.outputs (λ k e lt. shown_there d old m map_is _ (form.outputs k e lt));
  points = steps.points;
  steps = λ s q at within some.
      ap (λ (ns : List Node). map (value_at (values ns s)) n.nexts) built.with_nodes
      ∙ ap (map (value_at (values nodes s))) built.with_nexts
      ∙ steps.values s q (reads_state s ∙ at) within some
      ∙ ap (λ (sc : Scene). all_assigned (flat_of d) sc (stretch body (rest_at q body)) (values_at old s m.vars.items) ++ word state_width (next_point q body) ∷ []) (scene_read d old m reads s)
      ∙ ap (λ (vs : List Word). all_assigned (flat_of d) (scene_held d s) (stretch body (rest_at q body)) vs ++ word state_width (next_point q body) ∷ []) (reads.vars s);
}
