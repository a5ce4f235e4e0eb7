-- The nodes of a tick stand for the registers after it.
use Rattle.std.proofs.Common.{◌≡◌, ◌<◌, ◌+◌, ◌%◌, ◌^◌, ◌++◌, ℕ, suc, Bool, true, false, if◌then◌else◌, List, [], ◌∷◌, length, take, drop, refl, sym, ap, ◌∙◌, arith}
use Rattle.std.specs.Prelude.{◌==◌, ◌||◌}
use Rattle.std.proofs.lemmas.List.{map-append, take-map, drop-map}
use Rattle.xt_bits.specs.Word.{Word, word, truth}
use Rattle.xt_bits.specs.Operators.{any_of, add_of, or_of}
use Rattle.xt_bits.proofs.Numbers.{mod_small}
use Rattle.nt_core.specs.declared.netlist.Node.{Node}
use Rattle.nt_core.specs.NodeValue.{node_value}
use Rattle.el_design.specs.declared.designs.Design.{Design}
use Rattle.el_design.specs.declared.statements.Stmt.{Stmt}
use Rattle.el_design.specs.Plain.{Statement}
use Rattle.el_design.specs.View.{flat_of, statement_of}
use Rattle.xt_compile.specs.declared.first.compile.expression.ValueMap.{ValueMap}
use Rattle.xt_compile.specs.first.Form.{var_widths}
use Rattle.xt_compile.specs.first.Machine.{statements_of, before, stretch}
use Rattle.xt_compile.specs.first.Nodes.{Extends, HasWidth, Means, Assigns, Steps, IsMap, values_at, scene_at, all_assigned, run_from, rest_at, waits, next_point, state_width}
use Rattle.xt_compile.proofs.first_form.Growing.{extends_trans, map_grows, width_grows, value_grows, means_still, means_later}
use Rattle.xt_compile.proofs.first_form.Nexts.{drive_push}
use Rattle.xt_compile.proofs.first_form.Points.{run_stretch, waits_tail}
use Rattle.xt_compile.proofs.first_form.Walks.{assigns_as, assigns_later, assigns_then, truth_up}

either_up : (a b : Bool) → any_of (or_of (truth a) (truth b)) ≡ (a || b)
either_up true true = refl
either_up true false = refl
either_up false true = refl
either_up false false = refl

pub record Stages (d : Design) (b0 b1 b2 b3 b4 b5 : List Node) (m : ValueMap) (state start last next here : ℕ) (tail prefix : List Statement) (n1 n2 : List ℕ) : Type 0 where
  pub starts : Means d b0 b1 start 1 (λ s. truth ((node_value b0 s state).value == 0))
  pub lasts : Means d b1 b2 last 1 (λ s. truth ((node_value b1 s state).value == waits tail))
  pub behind : Assigns d b1 b2 m m.vars.items n1 (λ s. run_from (node_value b1 s state).value 0 tail)
  pub nexts : Means d b2 b3 next state_width (λ s. if any_of (node_value b2 s last) then word state_width 1 else add_of (node_value b2 s state) (word state_width 1))
  pub heres : Means d b3 b4 here 1 (λ s. or_of (node_value b3 s last) (node_value b3 s start))
  pub before : Assigns d b4 b5 m n1 n2 (λ s. if any_of (node_value b4 s here) then prefix else [])

-- the assignments of the whole tick
assigned_in : (d : Design) (b0 b1 b2 b3 b4 b5 : List Node) (m : ValueMap) (state start last next here : ℕ) (tail prefix : List Statement) (n1 n2 : List ℕ) → IsMap d b0 m → HasWidth b0 state state_width
    → Stages d b0 b1 b2 b3 b4 b5 m state start last next here tail prefix n1 n2
    → Assigns d b0 b5 m m.vars.items n2
    (λ s. run_from (node_value b0 s state).value 0 tail ++ (if ((node_value b0 s state).value == waits tail) || ((node_value b0 s state).value == 0) then prefix else []))
assigned_in d b0 b1 b2 b3 b4 b5 m state start last next here tail prefix n1 n2 map_is state_is g =
    let to2 : Extends d b0 b2 = extends_trans d b0 b1 b2 g.starts.extends g.lasts.extends in
    let from2 : Extends d b2 b4 = extends_trans d b2 b3 b4 g.nexts.extends g.heres.extends in
    assigns_as d b0 b5 m m.vars.items n2 _ _
    (assigns_then d b0 b2 b5 m m.vars.items n1 n2 _ _ map_is
    (assigns_later d b0 b1 b2 m m.vars.items n1 _ g.starts.extends map_is map_is.vars g.behind)
    (assigns_later d b2 b4 b5 m n1 n2 _ from2 (map_grows d b0 b2 m to2 map_is) g.behind.widths g.before))
    (λ s.
    let at1 : node_value b1 s state ≡ node_value b0 s state = value_grows b0 b1 state state_width g.starts.extends.grows state_is s in
    let is_last : node_value b3 s last ≡ truth ((node_value b0 s state).value == waits tail) =
    value_grows b2 b3 last 1 g.nexts.extends.grows g.lasts.width s ∙ g.lasts.value s ∙ ap (λ (x : Word). truth (x.value == waits tail)) at1 in
    let start2 : HasWidth b2 start 1 = width_grows b1 b2 start 1 g.lasts.extends.grows g.starts.width in
    let is_start : node_value b3 s start ≡ truth ((node_value b0 s state).value == 0) =
    value_grows b2 b3 start 1 g.nexts.extends.grows start2 s ∙ value_grows b1 b2 start 1 g.lasts.extends.grows g.starts.width s ∙ g.starts.value s in
    let up : any_of (node_value b4 s here) ≡ (((node_value b0 s state).value == waits tail) || ((node_value b0 s state).value == 0)) =
    ap any_of (g.heres.value s ∙ ap (λ (x : Word). or_of x (node_value b3 s start)) is_last ∙ ap (or_of (truth ((node_value b0 s state).value == waits tail))) is_start)
    ∙ either_up ((node_value b0 s state).value == waits tail) ((node_value b0 s state).value == 0) in
    ap (λ (x : Word). run_from x.value 0 tail ++ (if any_of (node_value b4 s here) then prefix else [])) at1
    ∙ ap (λ (b : Bool). run_from (node_value b0 s state).value 0 tail ++ (if b then prefix else [])) up)

-- the control point after the tick
point_in : (d : Design) (b0 b1 b2 b3 b4 b5 : List Node) (m : ValueMap) (state start last next here : ℕ) (tail prefix : List Statement) (n1 n2 : List ℕ) → HasWidth b0 state state_width
    → Stages d b0 b1 b2 b3 b4 b5 m state start last next here tail prefix n1 n2
    → Means d b0 b5 next state_width (λ s. if (node_value b0 s state).value == waits tail then word state_width 1 else add_of (node_value b0 s state) (word state_width 1))
point_in d b0 b1 b2 b3 b4 b5 m state start last next here tail prefix n1 n2 state_is g =
    let to2 : Extends d b0 b2 = extends_trans d b0 b1 b2 g.starts.extends g.lasts.extends in
    let all : Means d b0 b5 next state_width (λ s. if any_of (node_value b2 s last) then word state_width 1 else add_of (node_value b2 s state) (word state_width 1)) =
    means_still d b0 b3 b5 next state_width _ (means_later d b0 b2 b3 next state_width _ to2 g.nexts) (extends_trans d b3 b4 b5 g.heres.extends g.before.extends) in
    record {
      extends = all.extends;
      width = all.width;
      value = λ s.
          let at1 : node_value b1 s state ≡ node_value b0 s state = value_grows b0 b1 state state_width g.starts.extends.grows state_is s in
          let at2 : node_value b2 s state ≡ node_value b0 s state = value_grows b0 b2 state state_width to2.grows state_is s in
          let up : any_of (node_value b2 s last) ≡ ((node_value b0 s state).value == waits tail) =
          ap any_of (g.lasts.value s) ∙ truth_up ((node_value b1 s state).value == waits tail) ∙ ap (λ (x : Word). x.value == waits tail) at1 in
          all.value s
          ∙ ap (λ (b : Bool). if b then word state_width 1 else add_of (node_value b2 s state) (word state_width 1)) up
          ∙ ap (λ (x : Word). if (node_value b0 s state).value == waits tail then word state_width 1 else add_of x (word state_width 1)) at2;
    }

numbered : (point w : ℕ) (b : Bool) → point < 2 ^ state_width → (if b then word state_width 1 else add_of (word state_width point) (word state_width 1)) ≡ word state_width (if b then 1 else suc point)
numbered point w true h = refl
numbered point w false h =
    let small : point % 65536 ≡ point = mod_small point 16 h in
    let e : point % 65536 + 1 ≡ suc point = omega (arith, small) in
    ap (word state_width) e

pub stepped : (d : Design) (b0 b1 b2 b3 b4 b5 : List Node) (m : ValueMap) (state start last next here first : ℕ) (body tail prefix : List Stmt) (n1 n2 : List ℕ) → IsMap d b0 m → HasWidth b0 state state_width
    → first ≡ length (before (statements_of body)) → tail ≡ drop first body → prefix ≡ take first body → waits (statements_of tail) < 2 ^ state_width
    → Stages d b0 b1 b2 b3 b4 b5 m state start last next here (statements_of tail) (statements_of prefix) n1 n2
    → Steps d b0 b5 m state (statements_of body) (n2 ++ next ∷ [])
stepped d b0 b1 b2 b3 b4 b5 m state start last next here first body tail prefix n1 n2 map_is state_is first_is is_tail is_prefix below g =
    let ss : List Statement = statements_of body in
    let tail_is : statements_of tail ≡ drop (length (before ss)) ss = ap statements_of is_tail ∙ sym (drop-map statement_of first body) ∙ ap (λ (k : ℕ). drop k ss) first_is in
    let prefix_is : statements_of prefix ≡ take (length (before ss)) ss = ap statements_of is_prefix ∙ sym (take-map statement_of first body) ∙ ap (λ (k : ℕ). take k ss) first_is in
    let count : waits (statements_of tail) ≡ waits ss = ap waits tail_is ∙ waits_tail ss in
    let all = assigned_in d b0 b1 b2 b3 b4 b5 m state start last next here _ _ n1 n2 map_is state_is g in
    let point = point_in d b0 b1 b2 b3 b4 b5 m state start last next here _ _ n1 n2 state_is g in
    record {
      extends = all.extends;
      widths = drive_push b5 n2 (var_widths d) next state_width all.widths point.width;
      points = omega (arith, below, count);
      values = λ s q at within some.
          let small : q % 65536 ≡ q = mod_small q 16 (omega (arith, below, count, within)) in
          let at_q : (node_value b0 s state).value ≡ q = ap (λ (x : Word). x.value) at ∙ small in
          let runs :
          run_from (node_value b0 s state).value 0 (statements_of tail)
          ++ (if ((node_value b0 s state).value == waits (statements_of tail)) || ((node_value b0 s state).value == 0) then statements_of prefix else [])
          ≡ stretch ss (rest_at q ss) =
          ap (λ (k : ℕ). run_from k 0 (statements_of tail) ++ (if (k == waits (statements_of tail)) || (k == 0) then statements_of prefix else [])) at_q
          ∙ ap (λ (k : ℕ). run_from q 0 (statements_of tail) ++ (if (q == k) || (q == 0) then statements_of prefix else [])) count
          ∙ ap (λ (xs : List Statement). run_from q 0 xs ++ (if (q == waits ss) || (q == 0) then statements_of prefix else [])) tail_is
          ∙ ap (λ (xs : List Statement). run_from q 0 (drop (length (before ss)) ss) ++ (if (q == waits ss) || (q == 0) then xs else [])) prefix_is
          ∙ run_stretch q ss within some in
          let next_is : node_value b5 s next ≡ word state_width (next_point q ss) =
          point.value s
          ∙ ap (λ (k : ℕ). if k == waits (statements_of tail) then word state_width 1 else add_of (node_value b0 s state) (word state_width 1)) at_q
          ∙ ap (λ (k : ℕ). if q == k then word state_width 1 else add_of (node_value b0 s state) (word state_width 1)) count
          ∙ ap (λ (x : Word). if q == waits ss then word state_width 1 else add_of x (word state_width 1)) at
          ∙ numbered q 0 (q == waits ss) (omega (arith, below, count, within)) in
          map-append (node_value b5 s) n2 (next ∷ [])
          ∙ ap (λ (vs : List Word). vs ++ node_value b5 s next ∷ []) (all.values s ∙ ap (λ (xs : List Statement). all_assigned (flat_of d) (scene_at d b0 m s) xs (values_at b0 s m.vars.items)) runs)
          ∙ ap (λ (x : Word). all_assigned (flat_of d) (scene_at d b0 m s) (stretch ss (rest_at q ss)) (values_at b0 s m.vars.items) ++ x ∷ []) next_is;
    }
