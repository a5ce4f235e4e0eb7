-- The states of an edge follow the events of processes alone, with nets as they stood when the edge began.
use Rattle.std.proofs.Common.{◌≡◌, ◌⊎◌, inl, inr, ℕ, ◌<◌, Bool, true, false, not, ◌&&◌, if◌then◌else◌, List, [], length, get_or, set, slice_get, Contains, Option, Some, None, option_map, refl, sym, ◌∙◌, ap, ap₂, subst, arith, get_or-set_other, get_or-set_same}
use Rattle.std.specs.List.{list_any}
use Rattle.std.proofs.lemmas.Bool.{cases_eq}
use Rattle.std.proofs.lemmas.Option.{slice_get_within, get_or_from_slice_get}
use Rattle.xt_bits.specs.Word.{Word}
use Rattle.el_design.specs.Plain.{Expr, FlatNet, Flat}
use Rattle.el_design.specs.Store.{Store}
use Rattle.el_design.specs.Names.{nets_in, variables_in}
use Rattle.el_design.specs.Act.{Process}
use Rattle.el_design.specs.Queue.{Config, scene, scene_of, net_aim, are_valued, is_stuck, can_run, is_quiet, Event, Run, Follow, Update, with_process, take_run, take_oldest, take_update, take}
use Rattle.el_design.specs.Run.{IsSettled}
use Rattle.el_design.specs.Touches.{WritesBlocking, Reads, ReadsNet, Reaches, names_it, through, NetIs, DependsOn, depends, depends_through}
use Rattle.el_design.specs.Rules.{IsClean, across, net_across}
use Rattle.el_design.specs.Checked.{IsChecked}
use Rattle.el_design.proofs.OrderPlaces.{any_set}
use Rattle.el_design.proofs.OrderFoot.{value_same, named_nodes}
use Rattle.el_design.proofs.OrderWrites.{WritesIn}
use Rattle.el_design.proofs.OrderSame.{Same}
use Rattle.el_design.proofs.OrderSwap.{kept_in}
use Rattle.el_design.proofs.OrderActs.{act_shared, act_same}
use Rattle.el_design.proofs.OrderNets.{NetsSized, moved_sized, aim_alike}
use Rattle.el_design.proofs.OrderDigits.{digits, Followed, followed, digits_lower}
use Rattle.el_design.proofs.OrderCommute.{if_some, step, Fine, Ran, ran_is, ran_can, Updated, updated_is, step_fine}

abbrev pub taking : Flat → Event → Config → Option Config
taking d e c = take d c e

-- what processes change
abbrev pub core : List Word → Config → Config
core frozen c = record c { nets = frozen }

abbrev pub is_agent : Event → Bool
is_agent (Run i) = true
is_agent (Follow n) = false
is_agent (Update i) = true

-- a net that a process reads, or on which such a net depends
pub data Reached (d : Flat) : ℕ → Type 0 where
  read_itself : {p n : ℕ} → ReadsNet d p n → Reached d n
  read_through : {p m n : ℕ} → ReadsNet d p m → DependsOn d m n → Reached d n

-- all that nets on which processes depend are made of is as when the edge began
pub record IsAsBegun (d : Flat) (begin : Store) (frozen : List Word) (c : Config) : Type 0 where
  pub words : (v : ℕ) → ((p : ℕ) → WritesBlocking d p v → ⊥) → get_or c.store v [] ≡ get_or begin v []
  pub nets : (n : ℕ) (w : Word) → Reached d n → get_or c.nets n w ≡ get_or frozen n w

-- a state of an edge that began with this row, store and nets
pub record Good (d : Flat) (row : List Word) (begin : Store) (frozen : List Word) (c : Config) : Type 0 where
  pub fine : Fine d (core frozen c)
  pub row_is : c.row ≡ row
  pub sized : NetsSized d c.row c.nets
  pub settles : (list_any can_run c.procs ≡ false) ⊎ IsAsBegun d begin frozen c

-- ---- nets that are reached

reaches_on : {d : Flat} {m n v : ℕ} → DependsOn d m n → Reaches d n v → Reaches d m v
reaches_on (depends i c) r = through i c r
reaches_on (depends_through i c rest) r = through i c (reaches_on rest r)

depends_on : {d : Flat} {m n k : ℕ} → DependsOn d m n → DependsOn d n k → DependsOn d m k
depends_on (depends i c) r = depends_through i c r
depends_on (depends_through i c rest) r = depends_through i c (depends_on rest r)

net_there : {d : Flat} {m n : ℕ} → DependsOn d m n → (net : FlatNet) × (slice_get d.nets m ≡ Some net)
net_there (depends i c) = (i.net, i.is)
net_there (depends_through i c rest) = (i.net, i.is)

reached_on : {d : Flat} {n m : ℕ} {e : Expr} → Reached d n → NetIs d n e → Contains (nets_in e) m → Reached d m
reached_on (read_itself r) i c = read_through r (depends i c)
reached_on (read_through r dep) i c = read_through r (depends_on dep (depends i c))

-- no process writes by blocking what such a net names
not_written : {d : Flat} {n v p : ℕ} {e : Expr} → IsClean d → Reached d n → NetIs d n e → Contains (variables_in e) v → WritesBlocking d p v → ⊥
not_written clean (read_itself r) i c w = clean 14 72 i.net.place (across (net_across i.is w (names_it i c) r))
not_written clean (read_through r dep) i c w = let x = net_there dep in clean 14 72 x.0.place (across (net_across x.1 w (reaches_on dep (names_it i c)) r))

quiet_parts : (a v s : Bool) → (not a && v && not s) ≡ true → (a ≡ false) × (v ≡ true) × (s ≡ false)
quiet_parts false true false h = (refl, refl, refl)
quiet_parts false true true h = cc
quiet_parts false false s h = cc
quiet_parts true v s h = cc

module _ (d : Flat) (order : List ℕ) (checked : IsChecked d order) (row : List Word) (begin : Store) (frozen : List Word) (settled : IsSettled d row begin frozen) where
  abbrev IsGood : Config → Type 0
  IsGood c = Good d row begin frozen c

  -- a net that is reached takes the value that it had
  aim_frozen : (c : Config) (n : ℕ) (net : FlatNet) (w : Word) → c.row ≡ row → IsAsBegun d begin frozen c → Reached d n → slice_get d.nets n ≡ Some net → net_aim d c.row (scene d c) n net ≡ get_or frozen n w
  aim_frozen c n net w same held r is =
      ap (λ x. net_aim d x (scene d c) n net) same
      ∙ aim_alike d row (scene d c) (scene_of d begin frozen) n net (λ e k.
      value_same (λ v. Contains (variables_in e) v) (λ m. Contains (nets_in e) m) d (scene d c) (scene_of d begin frozen)
      (record {
        calls = refl;
        words = λ v i. held.words v (λ p b. not_written checked.clean r (record { net = net; is = is; value = k }) i b);
        values = λ m u i. held.nets m u (reached_on r (record { net = net; is = is; value = k }) i);
      }) e
      (named_nodes (λ v. Contains (variables_in e) v) (λ m. Contains (nets_in e) m) e (λ v i. i) (λ m i. i)))
      ∙ sym (get_or_from_slice_get frozen n (net_aim d row (scene_of d begin frozen) n net) w (settled.each n net is))

  -- ---- events of processes

  ran_good : (c t : Config) (i : ℕ) → IsGood c → Ran d c t i → (step d (Run i) (core frozen c) ≡ Some (core frozen t)) × IsGood t
  ran_good c t i good r = subst (λ x. (step d (Run i) (core frozen c) ≡ Some (core frozen x)) × IsGood x) r.end (begun good.settles)
    where
      begun : (list_any can_run c.procs ≡ false) ⊎ IsAsBegun d begin frozen c → (step d (Run i) (core frozen c) ≡ Some (core frozen (with_process c i r.acted.writes r.acted.process))) × IsGood (with_process c i r.acted.writes r.acted.process)
      begun (inl none) = absurd (let e : true ≡ false = sym (ran_can d c t i r) ∙ none in cc)
      begun (inr held) =
          let shared = (good.fine.procs i r.process r.is).stack in
          let same : Same (Reads d i) (ReadsNet d i) (scene d (core frozen c)) (scene d c) =
          record { agree = record { calls = refl; words = λ v a. refl; values = λ n w a. sym (held.nets n w (read_itself a)) }; size = refl } in
          let taken : step d (Run i) (core frozen c) ≡ Some (core frozen (with_process c i r.acted.writes r.acted.process)) =
          ap (take_run d (core frozen c) i) r.is
          ∙ ap (option_map (λ a. with_process (core frozen c) i a.writes a.process)) (act_same d i checked.sound (scene d (core frozen c)) (scene d c) same r.process shared ∙ r.acts) in
          let written : WritesIn (WritesBlocking d i) r.acted.writes = (act_shared d i checked.sound (scene d c) r.process r.acted shared r.acts).writes in (
            taken,
            record {
              fine = step_fine d checked.sound (core frozen c) (core frozen (with_process c i r.acted.writes r.acted.process)) (Run i) good.fine taken;
              row_is = good.row_is;
              sized = good.sized;
              settles = inr (record { words = λ v none. kept_in (WritesBlocking d i) c.store r.acted.writes v written (λ l b. none i b) ∙ held.words v none; nets = held.nets });
            },
          )

  updated_good : (c t : Config) (i : ℕ) → IsGood c → list_any can_run c.procs ≡ false → list_any is_stuck c.procs ≡ false → Updated d c t i → (step d (Update i) (core frozen c) ≡ Some (core frozen t)) × IsGood t
  updated_good c t i good none free r =
      let p : Process = record r.process { updates = r.more } in
      let taken : step d (Update i) (core frozen c) ≡ Some (core frozen (with_process c i r.writes p)) =
      ap (λ b. if b then take_update (core frozen c) i (slice_get c.procs i) else None) (ap₂ (λ x y. not x && not y) none free)
      ∙ ap (take_update (core frozen c) i) r.is
      ∙ ap (take_oldest (core frozen c) i r.process) r.updates in
      subst (λ x. (step d (Update i) (core frozen c) ≡ Some (core frozen x)) × IsGood x) r.end (
        taken,
        record {
          fine = step_fine d checked.sound (core frozen c) (core frozen (with_process c i r.writes p)) (Update i) good.fine taken;
          row_is = good.row_is;
          sized = good.sized;
          settles = inl (any_set can_run c.procs i r.process p r.is refl ∙ none);
        },
      )

  pub agent : (c t : Config) (e : Event) → IsGood c → is_agent e ≡ true → taking d e c ≡ Some t → (step d e (core frozen c) ≡ Some (core frozen t)) × IsGood t
  agent c t (Run i) good a h = ran_good c t i good (ran_is d c t i h)
  agent c t (Follow n) good a h = cc
  agent c t (Update i) good a h =
      let x : (is_quiet d c ≡ true) × (take_update c i (slice_get c.procs i) ≡ Some t) = if_some (is_quiet d c) (take_update c i (slice_get c.procs i)) t h in
      let q = quiet_parts (list_any can_run c.procs) (are_valued d c 0 d.nets) (list_any is_stuck c.procs) x.0 in
      updated_good c t i good q.0 q.2 (updated_is d c t i x.1)

  -- ---- events of nets

  moved_begun : (c : Config) (n : ℕ) (net : FlatNet) → c.row ≡ row → length c.nets ≡ length d.nets → slice_get d.nets n ≡ Some net → IsAsBegun d begin frozen c →
      IsAsBegun d begin frozen (record c { nets = set c.nets n (net_aim d c.row (scene d c) n net) })
  moved_begun c n net same size is held = record { words = held.words; nets = nets }
    where
      nets : (m : ℕ) (w : Word) → Reached d m → get_or (set c.nets n (net_aim d c.row (scene d c) n net)) m w ≡ get_or frozen m w
      nets m w r = go (cases_eq m n)
        where
          go : (m ≡ n) ⊎ (m ≡ n → ⊥) → get_or (set c.nets n (net_aim d c.row (scene d c) n net)) m w ≡ get_or frozen m w
          go (inr other) = get_or-set_other c.nets n m (net_aim d c.row (scene d c) n net) w other ∙ held.nets m w r
          go (inl e) =
              let l : n < length d.nets = slice_get_within d.nets n net is in
              subst (λ j. get_or (set c.nets n (net_aim d c.row (scene d c) n net)) j w ≡ get_or frozen j w) (sym e)
              (get_or-set_same c.nets n (net_aim d c.row (scene d c) n net) w (omega arith) ∙ aim_frozen c n net w same held (subst (Reached d) e r) is)

  followed_good : (c t : Config) (n : ℕ) → IsGood c → Followed d c t n → (core frozen c ≡ core frozen t) × IsGood t
  followed_good c t n good f = subst (λ x. (core frozen c ≡ core frozen x) × IsGood x) f.end (
    refl,
    record {
      fine = good.fine;
      row_is = good.row_is;
      sized = moved_sized d c n f.net good.sized f.is;
      settles = go good.settles;
    },
  )
    where
      go : (list_any can_run c.procs ≡ false) ⊎ IsAsBegun d begin frozen c → (list_any can_run c.procs ≡ false) ⊎ IsAsBegun d begin frozen (record c { nets = set c.nets n (net_aim d c.row (scene d c) n f.net) })
      go (inl none) = inl none
      go (inr held) = inr (moved_begun c n f.net good.row_is good.sized.size f.is held)

  pub follower : (c t : Config) (e : Event) → IsGood c → is_agent e ≡ false → taking d e c ≡ Some t → (core frozen c ≡ core frozen t) × IsGood t × (digits d order t < digits d order c)
  follower c t (Run i) good a h = cc
  follower c t (Update i) good a h = cc
  follower c t (Follow n) good a h =
      let x : (core frozen c ≡ core frozen t) × IsGood t = followed_good c t n good (followed d c t n h) in
      (x.0, x.1, digits_lower d order c t n checked.ordered good.sized.size h)
