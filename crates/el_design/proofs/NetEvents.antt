-- Events of nets alone lead to settled nets: each lowers a number.
use Rattle.std.proofs.Common.{◌≡◌, ℕ, zero, suc, ◌+◌, ◌<◌, Bool, true, false, ◌&&◌, if◌then◌else◌, List, [], ◌∷◌, length, get_or, set, slice_get, Some, None, refl, sym, ◌∙◌, ap, subst, arith}
use Rattle.std.specs.List.{list_all}
use Rattle.std.proofs.lemmas.Option.{slice_get_within, get_or_from_slice_get}
use Rattle.xt_bits.specs.Word.{Word, word}
use Rattle.el_design.specs.Plain.{FlatNet, Flat}
use Rattle.el_design.specs.Store.{Store}
use Rattle.el_design.specs.Queue.{Config, scene, scene_of, net_aim, has_value, are_valued, Event, Follow, take_net, take}
use Rattle.el_design.specs.Run.{IsSettled, Takes, Any}
use Rattle.el_design.specs.Rules.{IsOrder}
use Rattle.el_design.specs.RunLaws.{is_net_event, NetsSettle, SettledNetsAreOne, NetEventsSettle, FittingNetsSettle}
use Rattle.el_design.specs.Value.{Scene}
use Rattle.el_design.specs.Fits.{IsWordOf, FitsConfig}
use Rattle.el_design.proofs.FitStates.{aim_word}
use Rattle.el_design.proofs.OrderPlaces.{got_below}
use Rattle.el_design.proofs.OrderNets.{NetsSized, settled_sized, moved_sized, Valued, all_are_valued, is_aim, nets_one}
use Rattle.el_design.proofs.OrderDigits.{digits, digits_lower}
use Rattle.el_design.proofs.OrderTrace.{settled_valued}
use Rattle.el_design.proofs.OrderSettles.{settle_nets}

pub nets_settle : (d : Flat) (order : List ℕ) → IsOrder d order → NetsSettle d
nets_settle d order ordered row store = settle_nets d order ordered row store

-- a state of which only the row, the store and the nets are told
with_nets : List Word → Store → List Word → Config
with_nets row store nets = record { edge = 0; row = row; store = store; nets = nets; procs = [] }

pub settled_nets_are_one : (d : Flat) (order : List ℕ) → IsOrder d order → SettledNetsAreOne d
unfolding with_nets
settled_nets_are_one d order ordered row store a b h g =
    nets_one d order ordered (with_nets row store a) (with_nets row store b) refl refl (settled_sized d row a store h) (settled_sized d row b store g)
    (settled_valued d (with_nets row store a) h) (settled_valued d (with_nets row store b) g)

-- in a state that fits the design each net has a value of the width that it takes
fitting_sized : (d : Flat) (c : Config) → FitsConfig d c → NetsSized d c.row c.nets
fitting_sized d c fits = record { size = fits.size; wide = wide }
  where
    wide : (n : ℕ) (net : FlatNet) (s : Scene) → slice_get d.nets n ≡ Some net → (get_or c.nets n (word net.width 0)).width ≡ (net_aim d c.row s n net).width
    wide n net s is =
        let l : n < length d.nets = slice_get_within d.nets n net is in
        let size : length c.nets ≡ length d.nets = fits.size in
        let x : (w : Word) × (slice_get c.nets n ≡ Some w) = got_below c.nets n (omega arith) in
        let own : IsWordOf net.width x.0 = fits.nets n net x.0 is x.1 in
        let aim : IsWordOf net.width (net_aim d c.row s n net) = aim_word d c.row s n net fits.row is in
        ap (λ w. w.width) (get_or_from_slice_get c.nets n x.0 (word net.width 0) x.1) ∙ own.0 ∙ sym aim.0

-- a net that hasn't its value
record Differs (d : Flat) (c : Config) : Type 0 where
  number : ℕ
  net : FlatNet
  is : slice_get d.nets number ≡ Some net
  differs : has_value d c number net ≡ false

differs_from : (d : Flat) (c : Config) (m : ℕ) (nets : List FlatNet) → are_valued d c m nets ≡ false → ((k : ℕ) (net : FlatNet) → slice_get nets k ≡ Some net → slice_get d.nets (m + k) ≡ Some net) → Differs d c
differs_from d c m [] h at = cc
differs_from d c m (x ∷ xs) h at = go (has_value d c m x) refl h (λ k. differs_from d c (suc m) xs k (λ j net e. subst (λ i. slice_get d.nets i ≡ Some net) (next j) (at (suc j) net e)))
  where
    next : (j : ℕ) → m + suc j ≡ suc m + j
    next j = omega arith

    here : m + 0 ≡ m
    here = omega arith

    go : (b : Bool) → has_value d c m x ≡ b → (has_value d c m x && are_valued d c (suc m) xs) ≡ false → (are_valued d c (suc m) xs ≡ false → Differs d c) → Differs d c
    go false e k more = record { number = m; net = x; is = subst (λ i. slice_get d.nets i ≡ Some x) here (at 0 x refl); differs = e }
    go true e k more = more (sym (ap (λ b. b && are_valued d c (suc m) xs) e) ∙ k)

-- the state after its event
abbrev Moved : (d : Flat) (c : Config) → Differs d c → Config
Moved d c x = record c { nets = set c.nets x.number (net_aim d c.row (scene d c) x.number x.net) }

module _ (d : Flat) (order : List ℕ) (ordered : IsOrder d order) where
  -- events of nets that lead to settled ones
  record Settles (k : ℕ) (c : Config) : Type 0 where
    events : List Event
    nets : List Word
    all : list_all is_net_event events ≡ true
    takes : Takes d Any k c events (record c { nets = nets })
    settled : IsSettled d c.row c.store nets

  has_settled : (c : Config) → NetsSized d c.row c.nets → Valued d c → IsSettled d c.row c.store c.nets
  has_settled c z valued = record { size = z.size; each = each }
    where
      each : (n : ℕ) (net : FlatNet) → slice_get d.nets n ≡ Some net → slice_get c.nets n ≡ Some (net_aim d c.row (scene_of d c.store c.nets) n net)
      each n net is =
          let l : n < length d.nets = slice_get_within d.nets n net is in
          let size : length c.nets ≡ length d.nets = z.size in
          let x : (w : Word) × (slice_get c.nets n ≡ Some w) = got_below c.nets n (omega arith) in
          x.1 ∙ ap Some (sym (get_or_from_slice_get c.nets n x.0 (word net.width 0) x.1) ∙ is_aim d c n net z is (valued n net is))

  settles : (bound k : ℕ) (c : Config) → digits d order c < bound → NetsSized d c.row c.nets → Settles k c
  settles zero k c l z = absurd (omega arith)
  settles (suc bound) k c l z = go (are_valued d c 0 d.nets) refl (settles bound)
    where
      same : (j : ℕ) → 0 + j ≡ j
      same j = omega arith

      taken : (x : Differs d c) → take d c (Follow x.number) ≡ Some (Moved d c x)
      taken x = ap (take_net d c x.number) x.is ∙ ap (λ b. if b then None else Some (Moved d c x)) x.differs

      after : (x : Differs d c) → Settles (suc k) (Moved d c x) → Settles k c
      after x s = record { events = Follow x.number ∷ s.events; nets = s.nets; all = s.all; takes = (tt, (Moved d c x, taken x, s.takes)); settled = s.settled }

      go : (b : Bool) → are_valued d c 0 d.nets ≡ b → ((j : ℕ) (t : Config) → digits d order t < bound → NetsSized d t.row t.nets → Settles j t) → Settles k c
      go true e more = record { events = []; nets = c.nets; all = refl; takes = refl; settled = has_settled c z (all_are_valued d c e) }
      go false e more =
          let x : Differs d c = differs_from d c 0 d.nets e (λ j net i. subst (λ n. slice_get d.nets n ≡ Some net) (sym (same j)) i) in
          let low : digits d order (Moved d c x) < digits d order c = digits_lower d order c (Moved d c x) x.number ordered z.size (taken x) in
          after x (more (suc k) (Moved d c x) (omega arith) (moved_sized d c x.number x.net z x.is))

  pub net_events_settle : NetEventsSettle d
  net_events_settle k c before h =
      let s : Settles k c = settles (suc (digits d order c)) k c (omega arith) (settled_sized d c.row c.nets before h) in
      (s.events, s.nets, s.all, s.takes, s.settled)

  pub fitting_nets_settle : FittingNetsSettle d
  fitting_nets_settle k c fits =
      let s : Settles k c = settles (suc (digits d order c)) k c (omega arith) (fitting_sized d c fits) in
      (s.events, s.nets, s.all, s.takes, s.settled)
