-- The places and the widths of the output ports.
use Rattle.std.proofs.Common.{◌≡◌, ℕ, zero, suc, ◌+◌, ◌<◌, ◌≤◌, List, [], ◌∷◌, length, map, take, get_or, arith, refl, ap, sym, ◌∙◌, Some, subst}
use Rattle.std.specs.Prelude.{slice_get, slice_index, sum_by, flat_map}
use Rattle.std.proofs.lemmas.Option.{slice_get-get_or, slice_get_within}
use Rattle.std.proofs.lemmas.List.{length-map, length-append, get_or-append-add, get_or_read}
use Rattle.std.proofs.lemmas.List.Sums.{sum_by-cons}
use Rattle.std.proofs.lemmas.List.Concat.{flat_map-cons, get_or-flat_map}
use Rattle.std.proofs.lemmas.List.Folds.{length-flat_map-take}
use Rattle.xt_bits.specs.Word.{Word, word}
use Rattle.nt_core.specs.HostLine.{HostLine}
use Rattle.nt_core.specs.declared.netlist.Node.{Node}
use Rattle.nt_core.specs.declared.netlist.Wire.{Wire}
use Rattle.nt_core.specs.Parts.{Parts}
use Rattle.nt_core.specs.Forms.{widths}
use Rattle.nt_core.specs.Conditions.{IsNetlist, Drive, host_port_widths, port_widths}
use Rattle.nt_core.specs.Fitting.{value_widths}
use Rattle.nt_core.specs.NodeValue.{value_at}
use Rattle.nt_core.specs.Ports.{port, request_port, argument_count}
use Rattle.nt_core.proofs.Values.{get-width}
use Rattle.nt_run.proofs.Hosts.{no_host}

-- ---- the node that drives a port

pub length-drives : (nodes : List Node) (drives wanted : List ℕ) → Drive nodes drives wanted → length drives ≡ length wanted
length-drives nodes drives wanted e =
    sym (length-map drives (slice_get (widths nodes))) ∙ ap length e ∙ length-map wanted Some

drive_at : (ws drives wanted : List ℕ) → map (slice_get ws) drives ≡ map Some wanted → (i : ℕ) → i < length wanted → slice_get ws (get_or drives i 0) ≡ Some (get_or wanted i 0)
drive_at ws [] [] e i h = absurd (omega arith)
drive_at ws [] (w ∷ wanted) e i h = cc
drive_at ws (a ∷ drives) [] e i h = absurd (omega arith)
drive_at ws (a ∷ drives) (w ∷ wanted) e zero h = cc
drive_at ws (a ∷ drives) (w ∷ wanted) e (suc i) h = drive_at ws drives wanted (cc) i (omega arith)

-- the value on a port has the port's width
pub record IsPort (n : Parts) (vs : List Word) (i : ℕ) : Type 0 where
  pub place : i < length n.drives
  pub node : slice_index n.drives i < length vs
  pub width : (port n vs i).width ≡ slice_index (port_widths n) i

pub is_port : (n : Parts) → IsNetlist n → (vs : List Word) → value_widths vs ≡ widths n.nodes → (i : ℕ) → i < length (port_widths n) → IsPort n vs i
is_port n is vs e i h =
    let at = drive_at (widths n.nodes) n.drives (port_widths n) is.shell.connected.drives i h in
    let here = subst (λ ws. slice_get ws (get_or n.drives i 0) ≡ Some (get_or (port_widths n) i 0)) (sym e) at in
    record {
      place = omega (arith, h, length-drives n.nodes n.drives (port_widths n) is.shell.connected.drives);
      node = omega (arith, slice_get_within (value_widths vs) (get_or n.drives i 0) _ here, length-map vs (λ (v : Word). v.width));
      width = get-width vs (get_or n.drives i 0) (get_or (port_widths n) i 0) (word 1 0) here;
    }

-- ---- the ports of a host

-- as many ports as the hosts have
sum_by-ports : (hs : List HostLine) → sum_by (λ h. 2 + length h.args) hs ≡ length (flat_map host_port_widths hs)
sum_by-ports [] = refl
sum_by-ports (h ∷ hs) =
    omega (
      arith,
      sum_by-cons (λ (l : HostLine). 2 + length l.args) h hs,
      sum_by-ports hs,
      ap length (flat_map-cons host_port_widths h hs),
      length-append (host_port_widths h) (flat_map host_port_widths hs),
    )

length-first : (n : Parts) → length (1 ∷ map (λ o. o.width) n.outputs) ≡ 1 + length n.outputs
length-first n = omega (arith, length-map n.outputs (λ (o : Wire). o.width))

pub length-ports : (n : Parts) → length (port_widths n) ≡ 1 + length n.outputs + length (flat_map host_port_widths n.hosts)
length-ports n =
    omega (arith, length-append (1 ∷ map (λ (o : Wire). o.width) n.outputs) (flat_map host_port_widths n.hosts), length-first n)

-- all ports of a host are there
pub host_within : (n : Parts) (h : ℕ) (d : HostLine) → h < length n.hosts → request_port n h + 2 + length (get_or n.hosts h d).args ≤ length (port_widths n)
host_within n h d below =
    omega (arith, sum_by-ports (take h n.hosts), length-ports n, length-flat_map-take host_port_widths n.hosts h d below)

-- each has its width
pub host_width : (n : Parts) (h k : ℕ) (d : HostLine) → h < length n.hosts → k < 2 + length (get_or n.hosts h d).args
    → slice_index (port_widths n) (request_port n h + k) ≡ slice_index (host_port_widths (get_or n.hosts h d)) k
host_width n h k d below within =
    let before = flat_map host_port_widths (take h n.hosts) in
    let place : request_port n h + k ≡ length (1 ∷ map (λ (o : Wire). o.width) n.outputs) + (length before + k) =
    omega (arith, length-first n, sum_by-ports (take h n.hosts)) in
    ap (λ i. get_or (port_widths n) i 0) place
    ∙ get_or-append-add (1 ∷ map (λ (o : Wire). o.width) n.outputs) (flat_map host_port_widths n.hosts) (length before + k) 0
    ∙ get_or-flat_map host_port_widths n.hosts h k d 0 below (omega arith)

-- what is read for a port: its node, and the node's value
pub record IsRead (n : Parts) (vs : List Word) (i a : ℕ) : Type 0 where
  pub node : a < length vs
  pub value : (v : Word) → v ≡ get_or vs a v → v ≡ port n vs i
  pub width : (v : Word) → v ≡ get_or vs a v → v.width ≡ slice_index (port_widths n) i

pub is_read : (n : Parts) → IsNetlist n → (vs : List Word) → value_widths vs ≡ widths n.nodes → (i : ℕ) → i < length (port_widths n)
    → (ds : List ℕ) → ds ≡ n.drives → (a : ℕ) → a ≡ get_or ds i a → IsRead n vs i a
is_read n is vs e i h ds same a at =
    let p : IsPort n vs i = is_port n is vs e i h in
    let within : i < length ds = subst (λ l. i < length l) (sym same) p.place in
    let here : a ≡ get_or n.drives i 0 = get_or_read ds i a within at 0 ∙ ap (λ l. get_or l i 0) same in
    let below : a < length vs = subst (λ k. k < length vs) (sym here) p.node in
    let value : (v : Word) → v ≡ get_or vs a v → v ≡ port n vs i = λ v g. get_or_read vs a v below g (word 1 0) ∙ ap (value_at vs) here in
    record {
      node = below;
      value = value;
      width = λ v g. ap (λ (w : Word). w.width) (value v g) ∙ p.width;
    }

-- the same, of the host as a look-up gives it
pub host_has : (n : Parts) (h : ℕ) → h < length n.hosts → request_port n h + 2 + argument_count (slice_get n.hosts h) ≤ length (port_widths n)
host_has n h below =
    omega (arith, host_within n h no_host below, ap argument_count (slice_get-get_or n.hosts h no_host below))

-- a function's number has 8 bits
pub function_width : (n : Parts) (h : ℕ) → h < length n.hosts → slice_index (port_widths n) (request_port n h + 1) ≡ 8
function_width n h below = host_width n h 1 no_host below (omega arith)
