-- An event leaves as it was what isn't its process's own.
use Rattle.std.proofs.Common.{◌≡◌, ℕ, List, ◌∷◌, All, set, slice_get, Some, refl, sym, subst}
use Rattle.std.proofs.lemmas.List.Elements.{All-head}
use Rattle.el_design.specs.Plain.{Flat}
use Rattle.el_design.specs.Queue.{Config, scene, net_aim, is_quiet, Event, Run, Follow, Update, take_update, take}
use Rattle.el_design.specs.Run.{Any}
use Rattle.el_design.specs.Touches.{WritesBlocking, WritesNonblocking}
use Rattle.el_design.specs.Checked.{IsChecked}
use Rattle.el_design.specs.RunLaws.{Keeps, EventsKeep}
use Rattle.el_design.proofs.OrderPlaces.{set_other}
use Rattle.el_design.proofs.OrderWrites.{WritesIn, kept_all}
use Rattle.el_design.proofs.OrderActs.{Acts, act_shared}
use Rattle.el_design.proofs.OrderCommute.{Fine, Ran, ran_is, Updated, updated_is, if_some}
use Rattle.el_design.proofs.OrderDigits.{Followed, followed}
use Rattle.el_design.proofs.OrderTrace.{takes_path, path_fine}
use Rattle.el_design.proofs.OrderEnds.{Begins}
use Rattle.el_design.proofs.OrderLaws.{begins}

module _ (d : Flat) (order : List ℕ) (checked : IsChecked d order) where
  -- of a state in which each process has left what is its own
  keeps : (c t : Config) (e : Event) → Fine d c → take d c e ≡ Some t → Keeps d e c t
  keeps c t (Run i) fine h =
      let r : Ran d c t i = ran_is d c t i h in
      let a : Acts d i r.process r.acted = act_shared d i checked.sound (scene d c) r.process r.acted (fine.procs i r.process r.is).stack r.acts in
      subst (λ x. Keeps d (Run i) c x) r.end (
        (refl, refl, refl),
        (λ j n. set_other c.procs i j r.acted.process n),
        (λ v none. kept_all (WritesBlocking d i) c.store r.acted.writes v a.writes none),
      )
  keeps c t (Update i) fine h =
      let u : Updated d c t i = updated_is d c t i (if_some (is_quiet d c) (take_update c i (slice_get c.procs i)) t h).1 in
      let held : All (WritesIn (WritesNonblocking d i)) (u.writes ∷ u.more) = subst (All (WritesIn (WritesNonblocking d i))) u.updates (fine.procs i u.process u.is).updates in
      subst (λ x. Keeps d (Update i) c x) u.end (
        (refl, refl, refl),
        (λ j n. set_other c.procs i j (record u.process { updates = u.more }) n),
        (λ v none. kept_all (WritesNonblocking d i) c.store u.writes v (All-head (WritesIn (WritesNonblocking d i)) u.writes u.more held) none),
      )
  keeps c t (Follow n) fine h =
      let f : Followed d c t n = followed d c t n h in
      (set c.nets n (net_aim d c.row (scene d c) n f.net), sym f.end, λ m other. set_other c.nets n m (net_aim d c.row (scene d c) n f.net) other)

  pub events_keep : EventsKeep d
  events_keep x rows begin c t es e edge takes taken =
      let b : Begins d begin = begins d order checked x rows begin edge in
      keeps c t e (path_fine d order checked begin c es b.fine b.settled (takes_path d Any 0 begin c es takes)) taken
