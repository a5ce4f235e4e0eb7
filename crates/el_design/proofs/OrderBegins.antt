-- How edges begin: one way each, in a state that is good.
use Rattle.std.proofs.Common.{◌≡◌, inr, ℕ, zero, suc, List, [], ◌∷◌, map, length, slice_get, Option, Some, None, zip, option_map, refl, sym, ◌∙◌, ap, subst}
use Rattle.std.proofs.lemmas.Option.{slice_get-map}
use Rattle.std.proofs.lemmas.List.{length-map}
use Rattle.std.proofs.lemmas.List.Elements.{All-nil}
use Rattle.xt_bits.specs.Word.{Word}
use Rattle.xt_bits.specs.Stimulus.{Reply, Stimulus}
use Rattle.el_design.specs.Plain.{FlatProc, Flat}
use Rattle.el_design.specs.Store.{Store}
use Rattle.el_design.specs.Act.{Process}
use Rattle.el_design.specs.Queue.{Config}
use Rattle.el_design.specs.Run.{IsSettled, started, Starts, woken, Continues}
use Rattle.el_design.specs.Touches.{WritesNonblocking}
use Rattle.el_design.specs.Sound.{IsSound}
use Rattle.el_design.proofs.OrderWrites.{WritesIn}
use Rattle.el_design.proofs.OrderShare.{started_shared, wake_shared}
use Rattle.el_design.proofs.OrderNets.{settled_sized}
use Rattle.el_design.proofs.OrderCommute.{ProcessShared, Fine}
use Rattle.el_design.proofs.OrderCore.{Good}

mapped_got : {X Y : Type 0} (f : X → Y) (xs : List X) (i : ℕ) (y : Y) → slice_get (map f xs) i ≡ Some y → (x : X) × (slice_get xs i ≡ Some x) × (f x ≡ y)
mapped_got f xs i y h = go (slice_get xs i) refl (sym (slice_get-map f xs i) ∙ h)
  where
    go : (o : Option _) → slice_get xs i ≡ o → option_map f o ≡ Some y → (x : _) × (slice_get xs i ≡ Some x) × (f x ≡ y)
    go None e k = cc
    go (Some x) e k = (x, e, cc)

zipped_got : {X Y : Type 0} (xs : List X) (ys : List Y) (i : ℕ) (p : X × Y) → slice_get (zip xs ys) i ≡ Some p → slice_get xs i ≡ Some p.0
zipped_got [] ys i p h = cc
zipped_got (x ∷ xs) [] i p h = cc
zipped_got (x ∷ xs) (y ∷ ys) zero p h = ap (λ o. option_map (λ q. q.0) o) h
zipped_got (x ∷ xs) (y ∷ ys) (suc i) p h = zipped_got xs ys i p h

pub starts_fine : (d : Flat) (x : Stimulus) (pins : List Word) (c : Config) → IsSound d → Starts d x pins c → Fine d c
starts_fine d x pins c sound h = record { size = ap length h.store ∙ length-map d.vars _; procs = procs }
  where
    procs : (i : ℕ) (p : Process) → slice_get c.procs i ≡ Some p → ProcessShared d i p
    procs i p is =
        let at : (y : FlatProc × List Reply) × (slice_get (zip d.procs x.replies) i ≡ Some y) × (started y ≡ p) =
        mapped_got started (zip d.procs x.replies) i p (ap (λ ps. slice_get ps i) (sym h.procs) ∙ is) in
        subst (ProcessShared d i) at.2
        (record { stack = started_shared d i at.0.0 sound (zipped_got d.procs x.replies i at.0 at.1); updates = All-nil (WritesIn (WritesNonblocking d i)) })

pub continues_fine : (d : Flat) (last : Config) (pins : List Word) (c : Config) → Fine d last → Continues d last pins c → Fine d c
continues_fine d last pins c fine h = record { size = ap length h.store ∙ fine.size; procs = procs }
  where
    procs : (i : ℕ) (p : Process) → slice_get c.procs i ≡ Some p → ProcessShared d i p
    procs i p is =
        let at : (q : Process) × (slice_get last.procs i ≡ Some q) × (woken q ≡ p) = mapped_got woken last.procs i p (ap (λ ps. slice_get ps i) (sym h.procs) ∙ is) in
        subst (ProcessShared d i) at.2 (record { stack = wake_shared d i at.0.stack (fine.procs i at.0 at.1).stack; updates = (fine.procs i at.0 at.1).updates })

pub begins_good : (d : Flat) (c : Config) → Fine d c → IsSettled d c.row c.store c.nets → Good d c.row c.store c.nets c
begins_good d c fine settled = record {
  fine = record { size = fine.size; procs = fine.procs };
  row_is = refl;
  sized = settled_sized d c.row c.nets c.store settled;
  settles = inr (record { words = λ v h. refl; nets = λ n w r. refl });
}

pub good_fine : (d : Flat) (row : List Word) (begin : Store) (frozen : List Word) (c : Config) → Good d row begin frozen c → Fine d c
good_fine d row begin frozen c g = record { size = g.fine.size; procs = g.fine.procs }
