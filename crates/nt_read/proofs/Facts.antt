-- What every netlist keeps, as its reading asks for it.
use Rattle.std.proofs.Common.{◌≡◌, ℕ, suc, ◌+◌, ◌≤◌, ◌<◌, ◌==◌, true, List, [], ◌∷◌, ◌++◌, length, map, get_or, refl, sym, ap, ◌∙◌, subst, arith, IsTrue, Option, Some, None, slice_get, slice_index, All}
use Rattle.std.specs.Prelude.{IsSome}
use Rattle.std.specs.List.{AllByRecursion, position_or_len}
use Rattle.std.specs.List.Sorted.{IsStrictlyIncreasing}
use Rattle.std.proofs.Math.ListN.{get_or-map}
use Rattle.std.proofs.lemmas.Option.{slice_get_within, get_or_from_slice_get}
use Rattle.std.proofs.lemmas.Bool.{eqb-true}
use Rattle.std.proofs.lemmas.List.{length-map, length-append, get_or_append_left}
use Rattle.std.proofs.lemmas.List.Folds.{find_at}
use Rattle.std.proofs.lemmas.List.Sums.{passes_at_first}
use Rattle.std.proofs.lemmas.List.Elements.{recursion_from_All}
use Rattle.xt_bits.specs.Word.{Word}
use Rattle.nt_core.specs.declared.netlist.Wire.{Wire}
use Rattle.nt_core.specs.HostLine.{HostLine}
use Rattle.nt_core.specs.Parts.{Parts}
use Rattle.nt_core.specs.Names.{is_pin_name}
use Rattle.nt_core.specs.Forms.{IsWidth}
use Rattle.nt_core.specs.Conditions.{IsNetlist, IsPin, IsHost, AreHosts, HasCounts, host_of, reply_widths}
use Rattle.nt_core.proofs.Drives.{drive_length}
use Rattle.nt_read.specs.Names.{names_of}
use Rattle.nt_read.specs.Forms.{place_of}
use Rattle.nt_read.proofs.PinNames.{place_is_pin}
use Rattle.nt_read.proofs.FormTexts.{Fits}
use Rattle.nt_read.proofs.Sections.{GoodHost, GoodPin}

-- ---- counts

-- rising numbers, none below the one and all below the other, are no more than lie between them
rising_few : (least bound x : ℕ) (xs : List ℕ) → least ≤ x → IsStrictlyIncreasing (x ∷ xs) → AllByRecursion (λ k. k < bound) (x ∷ xs) → least + length (x ∷ xs) ≤ bound
rising_few least bound x [] low rising below = omega (arith, low, below.0)
rising_few least bound x (y ∷ ys) low rising below =
    let first : x < y = rising 0 (omega arith) in
    let rest : IsStrictlyIncreasing (y ∷ ys) = λ k within. let next : suc k + 1 ≡ suc (k + 1) = omega arith in subst (λ j. slice_index (y ∷ ys) k < slice_index (x ∷ y ∷ ys) j) next (rising (suc k) (omega (arith, within))) in
    omega (arith, rising_few (least + 1) bound y ys (omega (arith, low, first)) rest below.1)

few_below : (bound : ℕ) (xs : List ℕ) → IsStrictlyIncreasing xs → AllByRecursion (λ k. k < bound) xs → length xs ≤ bound
few_below bound [] rising below = omega arith
few_below bound (x ∷ xs) rising below = omega (arith, rising_few 0 bound x xs (omega arith) rising below)

served : (processes : ℕ) (hs : List HostLine) → AllByRecursion (IsHost processes) hs → AllByRecursion (λ k. k < processes) (map (λ h. h.process) hs)
served processes [] each = tt
served processes (h ∷ hs) each = (each.0.process, served processes hs each.1)

-- each process has at most one host
hosts_few : (processes : ℕ) (hs : List HostLine) → AreHosts processes hs → length hs ≤ processes
hosts_few processes hs are =
    omega (arith, length-map hs (λ (h : HostLine). h.process), few_below processes (map (λ h. h.process) hs) are.rising (served processes hs (recursion_from_All (IsHost processes) hs are.each)))

-- no part has more items than this
pub record Counts (most : ℕ) (n : Parts) : Type 0 where
  pub inputs : length n.inputs ≤ most
  pub hosts : length n.hosts ≤ most
  pub registers : length n.registers ≤ most
  pub memories : length n.memories ≤ most
  pub nodes : length n.nodes ≤ most
  pub nexts : length n.nexts ≤ most

pub counts : (most : ℕ) (n : Parts) → 4294967295 ≤ most → IsNetlist n → Counts most n
counts most n room net =
    let counted : HasCounts n = net.shell.counts in
    record {
      inputs = omega (arith, room, counted.inputs);
      hosts = omega (arith, room, counted.processes, hosts_few n.processes n.hosts net.shell.parts.hosts);
      registers = omega (arith, room, counted.registers);
      memories = omega (arith, room, counted.memories);
      nodes = omega (arith, room, net.nodes.few);
      nexts = omega (arith, room, counted.registers, drive_length n.nodes n.nexts _ net.shell.connected.nexts, length-map n.registers (λ (k : Word). k.width));
    }

-- ---- hosts

host_is : (processes : ℕ) (hs : List HostLine) (p : ℕ) (h : HostLine) → All (IsHost processes) hs → host_of hs p ≡ Some h → (p < processes) × (length h.rets ≤ 16)
host_is processes hs p h each found =
    let at : slice_get hs (position_or_len (λ k. k.process == p) hs) ≡ Some h = sym (find_at (λ (k : HostLine). k.process == p) hs) ∙ found in
    let within : position_or_len (λ k. k.process == p) hs < length hs = slice_get_within hs _ h at in
    let is : get_or hs (position_or_len (λ k. k.process == p) hs) h ≡ h = get_or_from_slice_get hs _ h h at in
    let good : IsHost processes h = subst (IsHost processes) is (each (position_or_len (λ k. k.process == p) hs) h within) in
    let process : h.process ≡ p = eqb-true h.process p (subst (λ (k : HostLine). (k.process == p) ≡ true) is (passes_at_first (λ (k : HostLine). k.process == p) hs h within)) in
    (subst (λ q. q < processes) process good.process, good.rets.0)

acks_small : (processes : ℕ) (hs : List HostLine) (p : ℕ) → All (IsHost processes) hs → IsSome (host_of hs p) → p < processes
acks_small processes hs p each some = go (host_of hs p) refl some
  where
    go : (o : Option HostLine) → host_of hs p ≡ o → IsSome o → p < processes
    go None e s = cc
    go (Some h) e s = (host_is processes hs p h each e).0

rets_small : (processes : ℕ) (hs : List HostLine) (p i w : ℕ) → All (IsHost processes) hs → slice_get (reply_widths (host_of hs p)) i ≡ Some w → (p < processes) × (i < 16)
rets_small processes hs p i w each at = go (host_of hs p) refl at
  where
    go : (o : Option HostLine) → host_of hs p ≡ o → slice_get (reply_widths o) i ≡ Some w → (p < processes) × (i < 16)
    go None e s = absurd (omega (arith, slice_get_within [] i w s))
    go (Some h) e s = ((host_is processes hs p h each e).0, omega (arith, slice_get_within h.rets i w s, (host_is processes hs p h each e).1))

-- ---- all of it

abbrev no_wire : Wire
no_wire = record { name = []; width = 0 }

pub fits : (most : ℕ) (n : Parts) → 65536 ≤ most → IsNetlist n → Counts most n → Fits most n
fits most n room net c =
    record {
      inputs = c.inputs;
      registers = c.registers;
      memories = c.memories;
      nodes = c.nodes;
      acks = λ p some. omega (arith, acks_small n.processes n.hosts p net.shell.parts.hosts.each some, net.shell.counts.processes, room);
      rets = λ p i w at. (omega (arith, (rets_small n.processes n.hosts p i w net.shell.parts.hosts.each at).0, net.shell.counts.processes, room), omega (arith, (rets_small n.processes n.hosts p i w net.shell.parts.hosts.each at).1, room));
      pins = λ p within.
          let name : get_or (map (λ (i : Wire). i.name) n.inputs) p [] ≡ (get_or n.inputs p no_wire).name = get_or-map (λ (i : Wire). i.name) n.inputs p no_wire in (
            subst (λ t. IsTrue (is_pin_name t)) (sym name) (net.shell.pins.inputs p no_wire within).name,
            ap (place_of (names_of (n.inputs ++ n.outputs))) (name ∙ ap (λ (i : Wire). i.name) (sym (get_or_append_left n.inputs n.outputs no_wire p within)))
                ∙ place_is_pin (n.inputs ++ n.outputs) p no_wire (omega (arith, within, length-append n.inputs n.outputs)) net.shell.pins.distinct,
          );
    }

pub good_hosts : (most : ℕ) (processes : ℕ) (hs : List HostLine) → 65536 ≤ most → processes ≤ 64 → All (IsHost processes) hs → AllByRecursion (GoodHost most) hs
good_hosts most processes hs room few each = recursion_from_All (GoodHost most) hs (λ i d within. good (get_or hs i d) (each i d within))
  where
    good : (h : HostLine) → IsHost processes h → GoodHost most h
    good h is = record {
      process = omega (arith, is.process, few, room);
      rets = recursion_from_All IsWidth h.rets is.rets.1;
      rets_few = omega (arith, is.rets.0, room);
      args = recursion_from_All IsWidth h.args is.args.1;
      args_few = omega (arith, is.args.0, room);
    }

pub good_pins : (pins : List Wire) → All IsPin pins → AllByRecursion GoodPin pins
good_pins pins each = recursion_from_All GoodPin pins (λ i d within. record { name = (each i d within).name; width = (each i d within).width })
