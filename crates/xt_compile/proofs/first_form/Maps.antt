-- The nodes of variables, nets and pins.
use Rattle.std.proofs.Common.{◌≡◌, ◌<◌, ◌≤◌, ◌+◌, ◌++◌, ℕ, List, [], ◌∷◌, Option, Some, None, length, map, get_or, take, length-take, refl, sym, ap, ◌∙◌, subst, arith}
use Rattle.std.specs.Prelude.{slice_get, position, ◌==◌}
use Rattle.std.proofs.lemmas.List.Quantifiers.{position-Some}
use Rattle.std.specs.Option.{option_map}
use Rattle.std.proofs.lemmas.List.{map-append, length-map, take_more, take_all}
use Rattle.std.proofs.lemmas.Option.{slice_get-map, slice_get-get_or, slice_get_read, slice_get_within, get_or_from_slice_get}
use Rattle.nt_core.specs.declared.netlist.Node.{Node}
use Rattle.nt_core.specs.declared.netlist.Wire.{Wire}
use Rattle.nt_core.specs.Forms.{widths, IsWidth}
use Rattle.nt_core.specs.NodeValue.{node_value}
use Rattle.nt_core.specs.Sources.{Sources}
use Rattle.xt_bits.specs.Word.{Word, word}
use Rattle.el_design.specs.Plain.{Flat}
use Rattle.el_design.specs.Queue.{pin_value}
use Rattle.std.specs.List.{enumerate_from}
use Rattle.el_design.specs.declared.designs.Design.{Design}
use Rattle.el_design.specs.declared.designs.Net.{Net}
use Rattle.el_design.specs.declared.designs.Var.{Var}
use Rattle.el_design.specs.Run.{net_width}
use Rattle.el_design.specs.View.{flat_of}
use Rattle.xt_compile.specs.Hardware.{pin, net_name, input_pins}
use Rattle.xt_compile.specs.first.Form.{IsOfForm, IsVariable, IsInput, var_widths, net_widths}
use Rattle.xt_compile.specs.first.Nodes.{Means, MeansEach, register_widths, state_width}
use Rattle.xt_compile.proofs.first_form.Lists.{enumerate_push}
use Rattle.xt_compile.proofs.first_form.NumberTests.{number_is}
use Rattle.xt_compile.proofs.first_form.Outside.{net_width_is}
use Rattle.xt_compile.proofs.first_form.Growing.{extends_refl, extends_trans, drive_grows, values_grow, get_front, get_at_end}

-- ---- widths

-- a variable, and its width
pub var_there : (d : Design) → IsOfForm d → (i : ℕ) (v : Var) → i < length d.vars → v ≡ get_or d.vars i v → (slice_get (var_widths d) i ≡ Some v.width) × IsWidth v.width
var_there d form i v h is =
    let at : IsVariable (get_or d.vars i v) = form.vars i v h in
    (slice_get-map (λ (x : Var). x.width) d.vars i ∙ ap (option_map (λ (x : Var). x.width)) (slice_get_read d.vars (length d.vars) i v refl h is), subst (λ (x : Var). IsWidth x.width) (sym is) at.width)

pub net_there : (d : Design) → IsOfForm d → (i : ℕ) (n : Net) → i < length d.nets → n ≡ get_or d.nets i n → (slice_get (net_widths d) i ≡ Some n.width) × IsWidth n.width
net_there d form i n h is =
    let at : IsInput (get_or d.nets i n) = form.nets i n h in
    (slice_get-map (λ (x : Net). x.width) d.nets i ∙ ap (option_map (λ (x : Net). x.width)) (slice_get_read d.nets (length d.nets) i n refl h is), subst (λ (x : Net). IsWidth x.width) (sym is) at.width)

pub register_there : (d : Design) (i w : ℕ) → slice_get (var_widths d) i ≡ Some w → slice_get (register_widths d) i ≡ Some w
register_there d i w h = get_front (var_widths d) (state_width ∷ []) i w h

pub state_there : (d : Design) → slice_get (register_widths d) (length d.vars) ≡ Some state_width
state_there d = get_at_end (var_widths d) state_width (length d.vars) (sym (length-map d.vars (λ (v : Var). v.width)))

-- the pin of a net has the net's width
pub pin_there : (d : Design) (place n w : ℕ) → slice_get d.inputs place ≡ Some n → slice_get (net_widths d) n ≡ Some w → slice_get (map (λ i. i.width) (input_pins d)) place ≡ Some w
pin_there d place n w at width =
    slice_get-map (λ (i : Wire). i.width) (input_pins d) place
    ∙ ap (option_map (λ (i : Wire). i.width)) (slice_get-map (λ (k : ℕ). pin (net_name d k) (net_width (flat_of d) k)) d.inputs place ∙ ap (option_map (λ (k : ℕ). pin (net_name d k) (net_width (flat_of d) k))) at)
    ∙ ap (λ (k : ℕ). Some k) (net_width_is d n w width)

-- the place at which a net stands among the pins
pub pin_found : (inputs : List ℕ) (found net place : ℕ) → Some found ≡ position (λ n. n == net) inputs → net ≡ place → slice_get inputs found ≡ Some place
pin_found inputs found net place at is =
    let here = position-Some (λ n. n == net) inputs found 0 (sym at) in
    slice_get-get_or inputs found 0 here.0 ∙ ap (λ (k : ℕ). Some k) (number_is (get_or inputs found 0) net here.1 ∙ is)

-- the value of a net's pin, and 0 of a net that has none
pub pin_at : (d : Flat) (row : List Word) (w found net place : ℕ) → Some found ≡ position (λ n. n == net) d.inputs → net ≡ place → get_or row found (word w 0) ≡ pin_value d row place w
pin_at d row w found net place at is =
    ap (λ (o : Option ℕ). elim o as (λ _. Word) [ None ↦ word w 0 | Some i ↦ get_or row i (word w 0) ]) (at ∙ ap (λ (k : ℕ). position (λ n. n == k) d.inputs) is)

pub pin_nowhere : (d : Flat) (row : List Word) (w net place : ℕ) → None ≡ position (λ n. n == net) d.inputs → net ≡ place → word w 0 ≡ pin_value d row place w
pin_nowhere d row w net place found is =
    ap (λ (o : Option ℕ). elim o as (λ _. Word) [ None ↦ word w 0 | Some i ↦ get_or row i (word w 0) ]) (found ∙ ap (λ (k : ℕ). position (λ n. n == k) d.inputs) is)

-- ---- one node for each width

-- the first widths, with one more
take_one : (ws : List ℕ) (i w : ℕ) → slice_get ws i ≡ Some w → take (i + 1) ws ≡ take i ws ++ w ∷ []
take_one ws i w at = take_more ws i 0 (slice_get_within ws i w at) ∙ ap (λ x. take i ws ++ x ∷ []) (get_or_from_slice_get ws i w 0 at)

enumerate_one : (ws : List ℕ) (i w : ℕ) → slice_get ws i ≡ Some w → enumerate_from 0 (take (i + 1) ws) ≡ enumerate_from 0 (take i ws) ++ (i, w) ∷ []
enumerate_one ws i w at =
    let within = slice_get_within ws i w at in
    let place : 0 + length (take i ws) ≡ i = omega (arith, length-take i ws) in
    ap (enumerate_from 0) (take_one ws i w at) ∙ enumerate_push 0 (take i ws) w ∙ ap (λ k. enumerate_from 0 (take i ws) ++ (k, w) ∷ []) place

-- so far each thing has its node, whose value is a function of its place and its width
abbrev pub EachSoFar : Design → List Node → List Node → List ℕ → List ℕ → ℕ → (Sources → ℕ × ℕ → Word) → Type 0
EachSoFar d old new is ws i f = MeansEach d old new is (take i ws) (λ s. map (f s) (enumerate_from 0 (take i ws)))

pub each_none : (d : Design) (ns : List Node) (ws : List ℕ) (f : Sources → ℕ × ℕ → Word) → EachSoFar d ns ns [] ws 0 f
each_none d ns ws f = record { extends = extends_refl d ns; widths = refl; values = λ s. refl }

pub each_more : (d : Design) (old mid new : List Node) (is ws : List ℕ) (i k w : ℕ) (f : Sources → ℕ × ℕ → Word) → EachSoFar d old mid is ws i f
    → Means d mid new k w (λ s. f s (i, w)) → slice_get ws i ≡ Some w → EachSoFar d old new (is ++ k ∷ []) ws (i + 1) f
each_more d old mid new is ws i k w f each means at = record {
  extends = extends_trans d old mid new each.extends means.extends;
  widths = driven_more (widths new) is ws i k w (drive_grows mid new is (take i ws) means.extends.grows each.widths) means.width at;
  values = λ s.
      map-append (node_value new s) is (k ∷ [])
      ∙ ap (λ (vs : List Word). vs ++ node_value new s k ∷ []) (values_grow mid new is (take i ws) means.extends.grows each.widths s ∙ each.values s)
      ∙ ap (λ (v : Word). map (f s) (enumerate_from 0 (take i ws)) ++ v ∷ []) (means.value s)
      ∙ sym (ap (map (f s)) (enumerate_one ws i w at) ∙ map-append (f s) (enumerate_from 0 (take i ws)) ((i, w) ∷ []));
}
  where
    driven_more : (vs is ws : List ℕ) (i k w : ℕ) → map (slice_get vs) is ≡ map Some (take i ws) → slice_get vs k ≡ Some w → slice_get ws i ≡ Some w → map (slice_get vs) (is ++ k ∷ []) ≡ map Some (take (i + 1) ws)
    driven_more vs is ws i k w e g at =
        map-append (slice_get vs) is (k ∷ []) ∙ ap (λ xs. xs ++ slice_get vs k ∷ []) e ∙ ap (λ x. map Some (take i ws) ++ x ∷ []) g
        ∙ sym (ap (map Some) (take_one ws i w at) ∙ map-append (λ (x : ℕ). Some x) (take i ws) (w ∷ []))

pub each_all : (d : Design) (old new : List Node) (is ws : List ℕ) (i : ℕ) (f : Sources → ℕ × ℕ → Word) → length ws ≤ i → EachSoFar d old new is ws i f
    → MeansEach d old new is ws (λ s. map (f s) (enumerate_from 0 ws))
each_all d old new is ws i f h each = subst (λ (vs : List ℕ). MeansEach d old new is vs (λ s. map (f s) (enumerate_from 0 vs))) (take_all i ws h) each
