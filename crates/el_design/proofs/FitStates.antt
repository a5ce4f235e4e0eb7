-- What fits a sound design goes on to fit it: the states of a run, from an edge's beginning on.
use Rattle.std.proofs.Common.{◌<◌, ◌^◌, ◌==◌, get_or, map, length, unwrap_or, arith, eqb-true, ◌≡◌, ◌⊎◌, inl, inr, ℕ, zero, suc, List, [], ◌∷◌, zip, set, slice_get, All, Contains, Option, Some, None, IfSome, option_map, refl, sym, ◌∙◌, ap, subst, length-set}
use Rattle.std.proofs.lemmas.List.Elements.{All-nil, All-head, All-tail, All-map, All-set, All-weaker, All-contains_itself}
use Rattle.xt_bits.specs.Stimulus.{Reply, Stimulus}
use Rattle.xt_bits.specs.Word.{Word, word}
use Rattle.std.specs.List.{position}
use Rattle.std.proofs.lemmas.List.{length-map}
use Rattle.std.proofs.lemmas.List.Quantifiers.{position-Some}
use Rattle.el_design.specs.Value.{Scene, value}
use Rattle.el_design.proofs.FitWords.{word_is}
use Rattle.el_design.specs.Plain.{Expr, FlatNet, FlatProc, Flat}
use Rattle.el_design.specs.Sound.{IsSound}
use Rattle.el_design.specs.Store.{Store, Write}
use Rattle.el_design.specs.Act.{Process, Acted, act}
use Rattle.el_design.specs.Queue.{Config, Event, Run, Follow, Update, scene, scene_of, pin_value, net_aim, has_value, with_process, take_run, take_net, take_oldest, take_update, is_quiet, take}
use Rattle.el_design.specs.Run.{net_width, IsStimulus, IsRow, IsSettled, started, Starts, woken, Continues, Takes}
use Rattle.el_design.proofs.OrderPlaces.{got_one}
use Rattle.el_design.specs.Fits.{IsWordOf, FitsStore, FitNets, FitsWrite, FitsProcess, FitsConfig}
use Rattle.el_design.proofs.FitValues.{all_at}
use Rattle.el_design.proofs.FitStores.{put_all_fits, put_all_size, start_fits}
use Rattle.el_design.proofs.FitSteps.{chosen, zipped, any_one, wake_fits, start_stack_fits, act_fits}

zip_length : {X Y : Type 0} (xs : List X) (ys : List Y) → length ys ≡ length xs → length (zip xs ys) ≡ length xs
zip_length [] ys e = refl
zip_length (x ∷ xs) [] e = absurd (omega (arith, e))
zip_length (x ∷ xs) (y ∷ ys) e = ap suc (zip_length xs ys (let k : length ys ≡ length xs = omega (arith, e) in k))

-- ---- processes

pub process_fits : (d : Flat) (c : Config) (i : ℕ) (p : Process) → FitsConfig d c → slice_get c.procs i ≡ Some p → FitsProcess d p
process_fits d c i p f e = all_at (FitsProcess d) c.procs i p e f.procs

-- ---- nets

-- what stands at a place after one is set
set_cases : {X : Type 0} (xs : List X) (n m : ℕ) (x y : X) → slice_get (set xs n x) m ≡ Some y → ((m ≡ n) × (y ≡ x)) ⊎ (slice_get xs m ≡ Some y)
set_cases [] n m x y e = inr e
set_cases (z ∷ xs) zero zero x y e = inl (refl, cc)
set_cases (z ∷ xs) zero (suc m) x y e = inr e
set_cases (z ∷ xs) (suc n) zero x y e = inr e
set_cases (z ∷ xs) (suc n) (suc m) x y e = go (set_cases xs n m x y e)
  where
    go : ((m ≡ n) × (y ≡ x)) ⊎ (slice_get xs m ≡ Some y) → ((suc m ≡ suc n) × (y ≡ x)) ⊎ (slice_get xs m ≡ Some y)
    go (inl p) = inl (ap suc p.0, p.1)
    go (inr h) = inr h

-- ---- the value that a net takes

row_word : (d : Flat) (ks : List ℕ) (row : List Word) (i n w : ℕ) → map (λ x. x.width) row ≡ map (net_width d) ks → All (λ v. v.value < 2 ^ v.width) row → i < length ks →
    net_width d (get_or ks i n) ≡ w → IsWordOf w (get_or row i (word w 0))
row_word d [] row i n w e h l is = absurd (omega (arith, l))
row_word d (k ∷ ks) [] i n w e h l is = word_is w 0
row_word d (k ∷ ks) (x ∷ row) zero n w e h l is = let same : x.width ≡ net_width d k = cc in let wide : x.width ≡ w = same ∙ is in subst (λ m. IsWordOf m x) wide (refl, All-head (λ v. v.value < 2 ^ v.width) x row h)
row_word d (k ∷ ks) (x ∷ row) (suc i) n w e h l is =
    let others : map (λ y. y.width) row ≡ map (net_width d) ks = cc in
    row_word d ks row i n w others (All-tail (λ v. v.value < 2 ^ v.width) x row h) (omega (arith, l)) is

pin_word : (d : Flat) (row : List Word) (n w : ℕ) → IsRow d row → net_width d n ≡ w → IsWordOf w (pin_value d row n w)
pin_word d row n w fits is = go (position (λ k. k == n) d.inputs) refl
  where
    go : (o : Option ℕ) → position (λ k. k == n) d.inputs ≡ o → IsWordOf w (elim o [ None ↦ word w 0 | Some i ↦ get_or row i (word w 0) ])
    go None e = word_is w 0
    go (Some i) e =
        let at = position-Some (λ k. k == n) d.inputs i n e in
        row_word d d.inputs row i n w fits.0 fits.1 at.0 (ap (net_width d) (eqb-true (get_or d.inputs i n) n at.1) ∙ is)

pub aim_word : (d : Flat) (row : List Word) (s : Scene) (n : ℕ) (net : FlatNet) → IsRow d row → slice_get d.nets n ≡ Some net → IsWordOf net.width (net_aim d row s n net)
aim_word d row s n net fits e = go net.value
  where
    there : net_width d n ≡ net.width
    there = ap (λ o. unwrap_or (option_map (λ x. x.width) o) 0) e

    go : (o : Option Expr) → IsWordOf net.width (elim o [ None ↦ pin_value d row n net.width | Some x ↦ word net.width (value d s x).value ])
    go None = pin_word d row n net.width fits there
    go (Some x) = word_is net.width (value d s x).value

module _ (d : Flat) where
  set_fits : (nets : List Word) (n : ℕ) (net : FlatNet) (x : Word) → slice_get d.nets n ≡ Some net → IsWordOf net.width x → FitNets d nets → FitNets d (set nets n x)
  set_fits nets n net x is wide fits m other y e got = go (set_cases nets n m x y got)
    where
      go : ((m ≡ n) × (y ≡ x)) ⊎ (slice_get nets m ≡ Some y) → IsWordOf other.width y
      go (inl p) =
          let same : net ≡ other = got_one (slice_get d.nets n) net other is (subst (λ k. slice_get d.nets k ≡ Some other) p.0 e) in
          subst (λ z. IsWordOf other.width z) (sym p.1) (subst (λ z. IsWordOf z.width x) same wide)
      go (inr h) = fits m other y e h

  settled_fit : (row : List Word) (store : Store) (nets : List Word) → IsRow d row → IsSettled d row store nets → FitNets d nets
  settled_fit row store nets fits settled n net x is got =
      let aim = net_aim d row (scene_of d store nets) n net in
      subst (IsWordOf net.width) (sym (got_one (slice_get nets n) x aim got (settled.each n net is))) (aim_word d row (scene_of d store nets) n net fits is)

  -- ---- the next edge

  pub continues_fit : (last : Config) (pins : List Word) (c : Config) → FitsConfig d last → IsRow d pins → Continues d last pins c → FitsConfig d c
  continues_fit last pins c h row next = record {
    store = subst (FitsStore d) (sym next.store) h.store;
    variables = ap length next.store ∙ h.variables;
    nets = settled_fit c.row c.store c.nets fits next.nets;
    size = next.nets.size;
    row = fits;
    procs = subst (All (FitsProcess d)) (sym next.procs) (All-map (FitsProcess d) woken last.procs (All-weaker (FitsProcess d) (λ p. FitsProcess d (woken p)) wakes last.procs h.procs));
    each = ap length next.procs ∙ length-map last.procs woken ∙ h.each;
  }
    where
      fits : IsRow d c.row
      fits = subst (IsRow d) (sym next.row) row

      wakes : (p : Process) → FitsProcess d p → FitsProcess d (woken p)
      wakes p k = record { work = wake_fits d p.stack k.work; updates = k.updates }

module _ (d : Flat) (sound : IsSound d) where
  -- ---- the first edge

  pub starts_fit : (x : Stimulus) (pins : List Word) (c : Config) → IsStimulus d x → IsRow d pins → Starts d x pins c → FitsConfig d c
  starts_fit x pins c given row first = record {
    store = subst (FitsStore d) (sym first.store) (start_fits d sound);
    variables = ap length first.store ∙ length-map d.vars _;
    nets = settled_fit d c.row c.store c.nets fits first.nets;
    size = first.nets.size;
    row = fits;
    procs = subst (All (FitsProcess d)) (sym first.procs) (All-map (FitsProcess d) started (zip d.procs x.replies)
        (zipped (Contains d.procs) (λ rs. Unit {0}) (λ z. FitsProcess d (started z)) begins d.procs x.replies (All-contains_itself d.procs) (any_one x.replies)));
    each = ap length first.procs ∙ length-map (zip d.procs x.replies) started ∙ zip_length d.procs x.replies given.replies;
  }
    where
      fits : IsRow d c.row
      fits = subst (IsRow d) (sym first.row) row

      begins : (p : FlatProc) (rs : List Reply) → Contains d.procs p → Unit {0} → FitsProcess d (started (p, rs))
      begins p rs at h = record { work = start_stack_fits d sound p at; updates = All-nil (All (FitsWrite d)) }

  -- ---- events

  module _ (c : Config) (h : FitsConfig d c) where
    abbrev Leads : Option Config → Type 0
    Leads o = IfSome o (FitsConfig d)

    with_fits : (i : ℕ) (ws : List Write) (p : Process) → All (FitsWrite d) ws → FitsProcess d p → FitsConfig d (with_process c i ws p)
    with_fits i ws p hw hp = record {
      store = put_all_fits d c.store ws h.store hw;
      variables = put_all_size c.store ws ∙ h.variables;
      nets = h.nets;
      size = h.size;
      row = h.row;
      procs = All-set (FitsProcess d) c.procs i p hp h.procs;
      each = length-set c.procs i p ∙ h.each;
    }

    ran_leads : (i : ℕ) (o : Option Process) → slice_get c.procs i ≡ o → Leads (take_run d c i o)
    ran_leads i None e = tt
    ran_leads i (Some p) e = go (act d (scene d c) p) refl
      where
        go : (a : Option Acted) → act d (scene d c) p ≡ a → Leads (option_map (λ a. with_process c i a.writes a.process) a)
        go None is = tt
        go (Some a) is = let left = act_fits d sound (scene d c) p a (process_fits d c i p h e) is in with_fits i a.writes a.process left.1 left.0

    net_leads : (n : ℕ) (o : Option FlatNet) → slice_get d.nets n ≡ o → Leads (take_net d c n o)
    net_leads n None e = tt
    net_leads n (Some net) e = chosen Leads (has_value d c n net) None (Some (record c { nets = set c.nets n aim })) tt taken
      where
        aim : Word
        aim = net_aim d c.row (scene d c) n net

        taken : FitsConfig d (record c { nets = set c.nets n aim })
        taken = record {
          store = h.store;
          variables = h.variables;
          nets = set_fits d c.nets n net aim e (aim_word d c.row (scene d c) n net h.row e) h.nets;
          size = length-set c.nets n aim ∙ h.size;
          row = h.row;
          procs = h.procs;
          each = h.each;
        }

    oldest_leads : (i : ℕ) (p : Process) (us : List (List Write)) → FitsProcess d p → All (All (FitsWrite d)) us → Leads (take_oldest c i p us)
    oldest_leads i p [] hp hu = tt
    oldest_leads i p (ws ∷ more) hp hu =
        with_fits i ws (record p { updates = more }) (All-head (All (FitsWrite d)) ws more hu) (record { work = hp.work; updates = All-tail (All (FitsWrite d)) ws more hu })

    update_leads : (i : ℕ) (o : Option Process) → slice_get c.procs i ≡ o → Leads (take_update c i o)
    update_leads i None e = tt
    update_leads i (Some p) e = let fits = process_fits d c i p h e in oldest_leads i p p.updates fits fits.updates

    leads : (e : Event) → Leads (take d c e)
    leads (Run i) = ran_leads i (slice_get c.procs i) refl
    leads (Follow n) = net_leads n (slice_get d.nets n) refl
    leads (Update i) = chosen Leads (is_quiet d c) (take_update c i (slice_get c.procs i)) None (update_leads i (slice_get c.procs i) refl) tt

  pub take_fits : (c : Config) (e : Event) (end : Config) → FitsConfig d c → take d c e ≡ Some end → FitsConfig d end
  take_fits c e end h is = subst (λ o. IfSome o (FitsConfig d)) is (leads c h e)

  pub takes_fit : (C : ℕ → List Event → Event → Type 0) (k : ℕ) (c : Config) (es : List Event) (end : Config) → FitsConfig d c → Takes d C k c es end → FitsConfig d end
  takes_fit C k c [] end h t = subst (FitsConfig d) t h
  takes_fit C k c (e ∷ es) end h t = takes_fit C (suc k) t.1.0 es end (take_fits c e t.1.0 h t.1.1) t.1.2
