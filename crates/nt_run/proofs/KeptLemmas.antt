-- What a running design keeps, from its start through each tick.
use Rattle.std.proofs.Common.{◌≡◌, ℕ, ◌+◌, ◌<◌, ◌≤◌, List, length, map, take, drop, Bool, true, false, arith, refl, ap, sym, subst, ◌∙◌, Some}
use Rattle.std.specs.Prelude.{slice_get, not, if◌then◌else◌}
use Rattle.std.proofs.lemmas.Option.{slice_get-get_or}
use Rattle.std.proofs.lemmas.List.{length-map, length-take-le, length-drop, get_or-map, get_or-take, get_or-drop}
use Rattle.xt_bits.specs.Word.{Word, word}
use Rattle.nt_core.specs.Parts.{Parts}
use Rattle.nt_core.specs.Sources.{Inputs, State, silent}
use Rattle.nt_core.specs.Forms.{widths}
use Rattle.nt_core.specs.Conditions.{IsNetlist, port_widths}
use Rattle.nt_core.specs.Fitting.{value_widths}
use Rattle.nt_core.specs.NodeValue.{value_at}
use Rattle.nt_core.specs.Ports.{port, outputs, edge_up}
use Rattle.nt_core.specs.Tick.{start, settled, tick_values, next}
use Rattle.nt_core.proofs.States.{start_fits, next_fits}
use Rattle.nt_run.specs.declared.ends.TickEnd.TheVariants.{Stalled}
use Rattle.nt_run.specs.Acknowledged.{Acknowledged, silence, driven_by}
use Rattle.nt_run.specs.Machine.{Machine, settled_values}
use Rattle.nt_run.specs.declared.orders.Step.{Step}
use Rattle.nt_run.specs.Order.{IsOrder}
use Rattle.nt_run.specs.Kept.{ArePorts, IsKept}
use Rattle.nt_run.specs.Ticks.{is_stalled, has_unanswered, values_in_tick, made_end, tick_end, ticked, after_tick}
use Rattle.nt_run.proofs.PortLemmas.{length-drives, length-ports}
use Rattle.nt_run.proofs.States.{zero_row, tick-widths}

-- at the start
pub kept_start : (n : Parts) → IsNetlist n → (i : Inputs) (s : State) (a : Acknowledged) (vs : List Word) (steps : List Step) (places : List ℕ)
    → i.row ≡ map (λ p. word p.width 0) n.inputs → s ≡ start n → a ≡ silence → value_widths vs ≡ widths n.nodes → IsOrder n.nodes steps → ArePorts n places
    → IsKept n i s a vs steps places false
kept_start n is i s a vs steps places row state quiet wide whole ports = record {
  design = is;
  fits = record { row = ap value_widths row ∙ zero_row n.inputs; state = rw state (start_fits n) };
  quiet = quiet;
  values = wide;
  settled = λ e. cc;
  order = whole;
  ports = ports;
}

-- once it has settled
pub kept_settled : (n : Parts) (i : Inputs) (s : State) (a : Acknowledged) (vs us : List Word) (steps : List Step) (places : List ℕ) (b : Bool) → IsKept n i s a vs steps places b
    → us ≡ tick_values n (driven_by i.row a) s → IsKept n i s a us steps places true
kept_settled n i s a vs us steps places b kept e =
    let made : us ≡ settled n i.row s = e ∙ ap (λ q. tick_values n (driven_by i.row q) s) kept.quiet in
    record {
      design = kept.design;
      fits = kept.fits;
      quiet = kept.quiet;
      values = ap value_widths made ∙ tick-widths n kept.design i (silent i.row) s kept.fits refl;
      settled = λ f. made;
      order = kept.order;
      ports = kept.ports;
    }

-- after a tick
pub kept_ticked : (n : Parts) (i : Inputs) (s t : State) (a : Acknowledged) (vs us : List Word) (steps : List Step) (places : List ℕ) (b : Bool) → IsKept n i s a vs steps places b
    → value_widths us ≡ widths n.nodes → t ≡ next n us s → IsKept n i t a us steps places false
kept_ticked n i s t a vs us steps places b kept e is = record {
  design = kept.design;
  fits = record { row = kept.fits.row; state = rw is (next_fits n us s kept.design e kept.fits.state) };
  quiet = kept.quiet;
  values = e;
  settled = λ f. cc;
  order = kept.order;
  ports = kept.ports;
}

-- the value on an output pin
pub output_at : (n : Parts) → IsNetlist n → (vs : List Word) (i : ℕ) → i < length n.outputs → slice_get (outputs n vs) i ≡ Some (port n vs (1 + i))
output_at n is vs i h =
    let pins : List ℕ = take (length n.outputs) (drop 1 n.drives) in
    let drives : length n.outputs ≤ length (drop 1 n.drives) =
    omega (arith, length-drop 1 n.drives, length-drives n.nodes n.drives (port_widths n) is.shell.connected.drives, length-ports n) in
    let count : length pins ≡ length n.outputs = length-take-le (length n.outputs) (drop 1 n.drives) drives in
    let below : i < length pins = omega arith in
    slice_get-get_or (outputs n vs) i (word 1 0) (omega (arith, length-map pins (value_at vs)))
    ∙ ap Some (get_or-map (value_at vs) pins i 0 (word 1 0) below
    ∙ ap (value_at vs) (get_or-take (length n.outputs) (drop 1 n.drives) i 0 h ∙ get_or-drop 1 n.drives i 0))

-- ---- the answers of a tick

pub stalled_end : (m : Machine) (a : Acknowledged) → is_stalled m ≡ true → Stalled ≡ tick_end m a
stalled_end m a e =
    subst (λ b. Stalled ≡ (if b then Stalled else made_end (edge_up m.design (values_in_tick m a)) (has_unanswered m.design (settled_values m) a))) (sym e) refl

pub going_end : (m : Machine) (a : Acknowledged) → is_stalled m ≡ false
    → made_end (edge_up m.design (values_in_tick m a)) (has_unanswered m.design (settled_values m) a) ≡ tick_end m a
going_end m a e =
    let made = made_end (edge_up m.design (values_in_tick m a)) (has_unanswered m.design (settled_values m) a) in
    subst (λ b. made ≡ (if b then Stalled else made)) (sym e) refl

pub going_machine : (m : Machine) (a : Acknowledged) → is_stalled m ≡ false → ticked m a ≡ after_tick m a
going_machine m a e = subst (λ b. ticked m a ≡ (if b then record m { is_settled = true } else ticked m a)) (sym e) refl

-- a tick that was made
pub ticked_machine : (m : Machine) (a : Acknowledged) (s : State) (b : Bool) → s ≡ next m.design (values_in_tick m a) m.state → b ≡ edge_up m.design (values_in_tick m a)
    → ◌≡◌ {A = Machine} (record { design = m.design; row = m.row; state = s; is_begun = not b; is_settled = false }) (ticked m a)
ticked_machine m a s b p q =
    let made : State → Bool → Machine = λ t d. record { design = m.design; row = m.row; state = t; is_begun = not d; is_settled = false } in
    ap (λ t. made t b) p ∙ ap (made (next m.design (values_in_tick m a) m.state)) q
