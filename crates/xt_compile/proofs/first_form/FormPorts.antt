-- The ports that are read are ports of a source.
use Rattle.std.proofs.Common.{◌≡◌, ◌≢◌, ◌≤◌, ℕ, suc, List, [], ◌∷◌, Option, Some, None, true, false, get_or, slice_get, refl, sym, ap, subst, ◌∙◌, arith}
use Rattle.std.specs.Prelude.{◌&&◌, ◌||◌, not, bytes_eq, is_none, is_some, codes}
use Rattle.std.specs.List.{All}
use Rattle.std.proofs.lemmas.Bool.{and_parts, or_parts, not-true}
use Rattle.std.proofs.lemmas.List.Elements.{All-nil, All-push}
use Rattle.std.proofs.lemmas.List.Quantifiers.{all_pairs_push}
use Rattle.xt_base.specs.declared.TheConstants.{MAX_WIDTH}
use Rattle.xt_base.specs.declared.refusals.Place.{Place}
use Rattle.nt_core.specs.Names.{is_pin_name}
use Rattle.vl_lex.specs.Numbers.{number_of}
use Rattle.vl_tree.specs.declared.modules.Range.{Range}
use Rattle.vl_tree.specs.declared.modules.Port as trees
use Rattle.vl_tree.specs.declared.modules.Dir.{Dir}
use Rattle.vl_tree.specs.declared.modules.Dir.TheVariants as dirs
use Rattle.vl_tree.specs.declared.modules.Direction.{Direction}
use Rattle.vl_tree.specs.declared.modules.Direction.TheVariants as directions
use Rattle.xt_compile.specs.declared.first.reader.ports.Ports.{Ports}
use Rattle.xt_compile.specs.declared.first.source.Port.{Port}
use Rattle.xt_compile.specs.first.Source.{IsPort, ArePorts}
use Rattle.xt_compile.specs.first.Tree.{◌>>=◌, width_of, found, is_declared, no_ports, added, checked, decimal_of, place_at, named_port, bounds_width, range_width, lead_of, port_of, next_port, ports_from, spells}
use Rattle.xt_compile.proofs.first_form.Somes.{some_one, none_some, bind_some, test_some}
use Rattle.xt_compile.proofs.first_form.FormNumbers.{width_fits}
use Rattle.xt_compile.proofs.first_form.Found.{new_from}

-- ---- names

-- no port has the name
pub record IsNew (ins outs : List Port) (name : List ℕ) : Type 0 where
  pub inputs : All (λ p. p.name ≢ name) ins
  pub outputs : All (λ p. p.name ≢ name) outs

ports_added : (ps : Ports) (q : Direction × Port) → ArePorts ps.inputs ps.outputs → IsPort q.1 → IsNew ps.inputs ps.outputs q.1.name → ArePorts (added ps q).inputs (added ps q).outputs
ports_added ps (directions.Input, p) are is new = record {
  inputs = All-push IsPort ps.inputs p are.inputs is;
  outputs = are.outputs;
  distinct = record {
    inputs = all_pairs_push (λ (a b : Port). a.name ≢ b.name) ps.inputs p are.distinct.inputs new.inputs;
    outputs = are.distinct.outputs;
    across = All-push (λ (a : Port). All (λ (b : Port). a.name ≢ b.name) ps.outputs) ps.inputs p are.distinct.across (λ k d h e. new.outputs k d h (sym e));
  };
}
ports_added ps (directions.Output, p) are is new = record {
  inputs = are.inputs;
  outputs = All-push IsPort ps.outputs p are.outputs is;
  distinct = record {
    inputs = are.distinct.inputs;
    outputs = all_pairs_push (λ (a b : Port). a.name ≢ b.name) ps.outputs p are.distinct.outputs new.outputs;
    across = λ k d h. All-push (λ (b : Port). (get_or ps.inputs k d).name ≢ b.name) ps.outputs p (are.distinct.across k d h) (new.inputs k d h);
  };
}

-- a port is checked against those before it
pub record IsChecked (clock : List ℕ) (ps : Ports) (p q : Direction × Port) : Type 0 where
  pub same : p ≡ q
  pub pin : is_pin_name p.1.name ≡ true
  pub new : is_declared clock ps p.1.name ≡ false

checked_some : (clock : List ℕ) (ps : Ports) (p q : Direction × Port) → checked clock ps p ≡ Some q → IsChecked clock ps p q
checked_some clock ps p q e =
    let t = test_some (is_pin_name p.1.name && not (is_declared clock ps p.1.name)) (Some p) q e in
    let parts = and_parts (is_pin_name p.1.name) (not (is_declared clock ps p.1.name)) t.holds in
    record { same = some_one t.rest; pin = parts.0; new = not-true (is_declared clock ps p.1.name) parts.1 }

none_of : (o : Option (ℕ × ℕ)) → is_some o ≡ false → o ≡ None
none_of None e = refl
none_of (Some f) e = cc

is_new : (clock : List ℕ) (ps : Ports) (name : List ℕ) → is_declared clock ps name ≡ false → IsNew ps.inputs ps.outputs name
is_new clock ps name e =
    let parts = or_parts (bytes_eq clock name || is_some (found name ps.inputs)) (is_some (found name ps.outputs)) e in
    let first = or_parts (bytes_eq clock name) (is_some (found name ps.inputs)) parts.0 in
    record { inputs = new_from name ps.inputs (none_of _ first.1); outputs = new_from name ps.outputs (none_of _ parts.1) }

-- ---- widths

abbrev InRange : ℕ → Type 0
InRange w = (1 ≤ w) × (w ≤ MAX_WIDTH)

module _ (names : List (List ℕ)) where
  width_in_range : (r : Option Range) (w : ℕ) → range_width names r ≡ Some w → InRange w
  width_in_range None w e = let is : 1 ≡ w = some_one e in (omega (arith, is), omega (arith, is))
  width_in_range (Some r) w e =
      let high = bind_some (decimal_of r.msb) (λ msb. decimal_of r.lsb >>= λ lsb. bounds_width names msb lsb) w e in
      let low = bind_some (decimal_of r.lsb) (λ lsb. bounds_width names high.val lsb) w high.rest in
      let zero = test_some (spells names low.val (codes "0")) (slice_get names high.val >>= λ bytes. width_of (suc (number_of 10 bytes))) w low.rest in
      let spelled = bind_some (slice_get names high.val) (λ bytes. width_of (suc (number_of 10 bytes))) w zero.rest in
      let fits = width_fits (suc (number_of 10 spelled.val)) w spelled.rest in
      subst InRange fits.is (fits.positive, fits.within)

  led_in_range : (range : Option Range) (direction : Direction) (lead : Direction × ℕ) → (range_width names range >>= λ width. Some (direction, width)) ≡ Some lead → InRange lead.1
  led_in_range range direction lead e =
      let b = bind_some (range_width names range) (λ width. Some (direction, width)) lead e in
      let same : (direction, b.val) ≡ lead = some_one b.rest in
      subst (λ (l : Direction × ℕ). InRange l.1) same (width_in_range range b.val b.first)

  lead_in_range : (d : Option Dir) (lead : Direction × ℕ) → lead_of names d ≡ Some lead → InRange lead.1
  lead_in_range (Some (dirs.Net at directions.Input false false range)) lead e = led_in_range range directions.Input lead e
  lead_in_range (Some (dirs.Reg at false range)) lead e = led_in_range range directions.Output lead e
  lead_in_range d lead e = absurd (none_some e)

  -- ---- ports

  module _ (places : List Place) where
    port_in_range : (p : trees.Port) (q : Direction × Port) → port_of names places p ≡ Some q → InRange q.1.width
    port_in_range p q e =
        let t = test_some (is_none p.value) (lead_of names p.dir >>= λ lead. slice_get names p.name >>= λ name. Some (named_port lead name (place_at places p.name))) q e in
        let lead = bind_some (lead_of names p.dir) (λ lead. slice_get names p.name >>= λ name. Some (named_port lead name (place_at places p.name))) q t.rest in
        let name = bind_some (slice_get names p.name) (λ name. Some (named_port lead.val name (place_at places p.name))) q lead.rest in
        let same : named_port lead.val name.val (place_at places p.name) ≡ q = some_one name.rest in
        subst (λ (x : Direction × Port). InRange x.1.width) same (lead_in_range p.dir lead.val lead.first)

    more_are : (clock : List ℕ) (ps : Ports) (list : List trees.Port) (all : Ports) → ports_from names places clock ps list ≡ Some all → ArePorts ps.inputs ps.outputs → ArePorts all.inputs all.outputs
    more_are clock ps [] all e are = subst (λ (qs : Ports). ArePorts qs.inputs qs.outputs) (some_one e) are
    more_are clock ps (p ∷ more) all e are =
        let b = bind_some (next_port names places clock ps p) (λ q. ports_from names places clock (added ps q) more) all e in
        let n = bind_some (port_of names places p) (checked clock ps) b.val b.first in
        let c = subst (λ (x : Direction × Port). IsChecked clock ps x b.val) (checked_some clock ps n.val b.val n.rest).same (checked_some clock ps n.val b.val n.rest) in
        let range = port_in_range p b.val (n.first ∙ ap (λ (x : Direction × Port). Some x) (checked_some clock ps n.val b.val n.rest).same) in
        more_are clock (added ps b.val) more all b.rest (ports_added ps b.val are (record { name = c.pin; positive = range.0; within = range.1 }) (is_new clock ps b.val.1.name c.new))

    -- the ports of a module
    pub ports_are : (clock : List ℕ) (list : List trees.Port) (all : Ports) → ports_from names places clock no_ports list ≡ Some all → ArePorts all.inputs all.outputs
    ports_are clock list all e = more_are clock no_ports list all e (record {
      inputs = All-nil IsPort;
      outputs = All-nil IsPort;
      distinct = record { inputs = λ i j d lt within. absurd (omega arith); outputs = λ i j d lt within. absurd (omega arith); across = All-nil _ };
    })
