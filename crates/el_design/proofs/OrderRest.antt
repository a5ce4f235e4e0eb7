-- The end of an edge: no event may be taken; then no process has one left, and the state is determined by what processes changed.
use Rattle.std.proofs.Common.{◌≡◌, ◌⊎◌, inl, inr, ℕ, zero, suc, ◌+◌, ◌<◌, ◌≤◌, Bool, true, false, not, ◌&&◌, if◌then◌else◌, List, [], ◌∷◌, ◌++◌, map, filter, length, set, slice_get, Contains, Option, Some, None, is_some, option_map, refl, sym, ◌∙◌, ap, ap₂, subst, arith}
use Rattle.std.specs.List.{list_any}
use Rattle.std.proofs.lemmas.Option.{slice_get_within}
use Rattle.std.proofs.lemmas.List.Elements.{Contains-append_left, Contains-append_right}
use Rattle.xt_bits.specs.Word.{Word}
use Rattle.el_design.specs.Plain.{FlatNet, Flat}
use Rattle.el_design.specs.Store.{Store, Write}
use Rattle.el_design.specs.Act.{Process, act}
use Rattle.el_design.specs.Queue.{Config, scene, net_aim, has_value, is_stuck, can_run, is_quiet, Event, Run, Follow, Update, with_process, take_run, take_net, take_oldest, take_update, numbers_from, numbers, take, ready}
use Rattle.el_design.specs.Run.{IsSettled}
use Rattle.el_design.specs.Checked.{IsChecked}
use Rattle.el_design.proofs.Ready.{acts}
use Rattle.el_design.proofs.OrderLists.{con_nil, con_head, con_tail, con_cases}
use Rattle.el_design.proofs.OrderPlaces.{con_map, none_got}
use Rattle.el_design.proofs.OrderNets.{Valued, are_valued_all, nets_one}
use Rattle.el_design.proofs.OrderDigits.{weight, digits, digits_below}
use Rattle.el_design.proofs.OrderCommute.{step, Fine}
use Rattle.el_design.proofs.OrderCore.{taking, core, is_agent, Good, agent, follower}
use Rattle.el_design.proofs.OrderDiamond.{Ended}
use Rattle.el_design.proofs.OrderFollows.{Follows}

none_of : {X : Type 0} (o : Option X) → is_some o ≡ false → o ≡ None
none_of None h = refl
none_of (Some x) h = cc

not_some : {X : Type 0} (o : Option X) → o ≡ None → is_some o ≡ false
not_some o h = ap is_some h

unmapped : {X Y : Type 0} (f : X → Y) (o : Option X) → option_map f o ≡ None → o ≡ None
unmapped f None h = refl
unmapped f (Some x) h = cc

-- ---- at the end

module _ (d : Flat) (c : Config) (ended : Ended (taking d) c) where
  pub ended_valued : Valued d c
  ended_valued n net is = go (has_value d c n net) refl (ap (take_net d c n) (sym is) ∙ ended (Follow n))
    where
      go : (b : Bool) → has_value d c n net ≡ b → take_net d c n (Some net) ≡ None → has_value d c n net ≡ true
      go true e h = e
      go false e h = absurd (let k : Some _ ≡ None = sym (ap (λ b. if b then None else Some (record c { nets = set c.nets n (net_aim d c.row (scene d c) n net) })) e) ∙ h in cc)

  ended_run : (i : ℕ) (p : Process) → slice_get c.procs i ≡ Some p → can_run p ≡ false
  ended_run i p is =
      sym (acts d (scene d c) p) ∙ not_some (act d (scene d c) p) (unmapped (λ a. with_process c i a.writes a.process) (act d (scene d c) p) (ap (take_run d c i) (sym is) ∙ ended (Run i)))

  pub ended_calm : list_any can_run c.procs ≡ false
  ended_calm = none_got can_run c.procs ended_run

  -- and where no process waits for a reply, no update is left
  ended_quiet : list_any is_stuck c.procs ≡ false → is_quiet d c ≡ true
  ended_quiet free = rw (ended_calm, are_valued_all d c ended_valued, free) refl

  pub ended_updates : list_any is_stuck c.procs ≡ false → (i : ℕ) (p : Process) → slice_get c.procs i ≡ Some p → p.updates ≡ []
  ended_updates free i p is =
      go p.updates refl (ap (take_update c i) (sym is) ∙ ap (λ b. if b then take_update c i (slice_get c.procs i) else None) (sym (ended_quiet free)) ∙ ended (Update i))
    where
      go : (us : List (List Write)) → p.updates ≡ us → take_oldest c i p p.updates ≡ None → p.updates ≡ []
      go [] e h = e
      go (ws ∷ more) e h = absurd (let k : Some _ ≡ None = sym (ap (take_oldest c i p) e) ∙ h in cc)

-- the core has come to its end too
pub ended_core : (d : Flat) (frozen : List Word) (c : Config) → Ended (taking d) c → Ended (step d) (core frozen c)
ended_core d frozen c ended (Follow n) = refl
ended_core d frozen c ended (Run i) = go (slice_get c.procs i) refl
  where
    go : (o : Option Process) → slice_get c.procs i ≡ o → take_run d (core frozen c) i (slice_get c.procs i) ≡ None
    go None e = ap (take_run d (core frozen c) i) e
    go (Some p) e =
        ap (take_run d (core frozen c) i) e
        ∙ ap (option_map (λ a. with_process (core frozen c) i a.writes a.process)) (none_of (act d (scene d (core frozen c)) p) (acts d (scene d (core frozen c)) p ∙ ended_run d c ended i p e))
ended_core d frozen c ended (Update i) = choose (list_any is_stuck c.procs) refl
  where
    updates : list_any is_stuck c.procs ≡ false → (o : Option Process) → slice_get c.procs i ≡ o → take_update (core frozen c) i o ≡ None
    updates free None e = refl
    updates free (Some p) e = ap (take_oldest (core frozen c) i p) (ended_updates d c ended free i p e)

    choose : (b : Bool) → list_any is_stuck c.procs ≡ b → step d (Update i) (core frozen c) ≡ None
    choose true e = ap₂ (λ x y. if not x && not y then take_update (core frozen c) i (slice_get c.procs i) else None) (ended_calm d c ended) e
    choose false e = ap₂ (λ x y. if not x && not y then take_update (core frozen c) i (slice_get c.procs i) else None) (ended_calm d c ended) e ∙ updates e (slice_get c.procs i) refl

module _ (d : Flat) (order : List ℕ) (checked : IsChecked d order) (row : List Word) (begin : Store) (frozen : List Word) (settled : IsSettled d row begin frozen) where
  one : (s t : Config) → Good d row begin frozen s → Good d row begin frozen t → Ended (taking d) s → Ended (taking d) t → core frozen s ≡ core frozen t → s ≡ t
  one s t g h e f same =
      let nets : s.nets ≡ t.nets = nets_one d order checked.ordered s t (ap (λ c. c.row) same) (ap (λ c. c.store) same) g.sized h.sized (ended_valued d s e) (ended_valued d t f) in
      ap₂ (λ (c : Config) (ns : List Word). core ns c) same nets

  below : (c : Config) → digits d order c ≤ weight order
  below c = let h : digits d order c < weight order = digits_below d order c in omega arith

  -- the states of an edge follow the events of its processes
  pub follows : Follows Config Config Event (taking d) (step d) (core frozen) is_agent (Fine d) (Good d row begin frozen) (digits d order) (weight order)
  follows = record {
    fine = λ c g. g.fine;
    agent = agent d order checked row begin frozen settled;
    follow = follower d order checked row begin frozen settled;
    below = λ c g. below c;
    rest = λ c g e. ended_core d frozen c e;
    one = one;
  }

-- ---- the list of events that may be taken

filtered_none : {X : Type 0} (f : X → Bool) (xs : List X) (x : X) → filter f xs ≡ [] → Contains xs x → f x ≡ false
filtered_none f [] x h c = absurd (con_nil x c)
filtered_none f (y ∷ ys) x h c = go (f y) refl h (con_cases y x ys c) (λ k m. filtered_none f ys x k m)
  where
    go : (b : Bool) → f y ≡ b → (if b then y ∷ filter f ys else filter f ys) ≡ [] → (y ≡ x) ⊎ Contains ys x → (filter f ys ≡ [] → Contains ys x → f x ≡ false) → f x ≡ false
    go true e k m more = cc
    go false e k (inl i) more = ap f (sym i) ∙ e
    go false e k (inr m) more = more k m

none_filtered : {X : Type 0} (f : X → Bool) (xs : List X) → ((x : X) → f x ≡ false) → filter f xs ≡ []
none_filtered f [] h = refl
none_filtered f (x ∷ xs) h = rw (h x) (none_filtered f xs h)

first_passes : {X : Type 0} (f : X → Bool) (xs : List X) (y : X) (ys : List X) → filter f xs ≡ y ∷ ys → f y ≡ true
first_passes f [] y ys h = cc
first_passes f (x ∷ xs) y ys h = go (f x) refl h (λ k. first_passes f xs y ys k)
  where
    go : (b : Bool) → f x ≡ b → (if b then x ∷ filter f xs else filter f xs) ≡ y ∷ ys → (filter f xs ≡ y ∷ ys → f y ≡ true) → f y ≡ true
    go true e k more = let same : x ≡ y = cc in ap f (sym same) ∙ e
    go false e k more = more k

con_numbers : (m n i : ℕ) → i < n → Contains (numbers_from m n) (m + i)
con_numbers m zero i h = absurd (omega arith)
con_numbers m (suc n) zero h = let e : m ≡ m + 0 = omega arith in subst (Contains (numbers_from m (suc n))) e (con_head m (numbers_from (suc m) n))
con_numbers m (suc n) (suc i) h = let e : suc m + i ≡ m + suc i = omega arith in subst (Contains (numbers_from m (suc n))) e (con_tail m (suc m + i) (numbers_from (suc m) n) (con_numbers (suc m) n i (omega arith)))

con_number : (n i : ℕ) → i < n → Contains (numbers n) i
con_number n i h = let e : 0 + i ≡ i = omega arith in subst (Contains (numbers n)) e (con_numbers 0 n i h)

module _ (d : Flat) (c : Config) where
  abbrev runs : List Event
  runs = map Run (numbers (length c.procs))

  abbrev moves : List Event
  moves = map Follow (numbers (length d.nets))

  abbrev updates : List Event
  updates = map Update (numbers (length c.procs))

  no_process : (i : ℕ) (o : Option Process) (f : Option Process → Option Config) → f None ≡ None → slice_get c.procs i ≡ o → (i < length c.procs → f o ≡ None) → f o ≡ None
  no_process i None f e is h = e
  no_process i (Some p) f e is h = h (slice_get_within c.procs i p is)

  no_net : (n : ℕ) (o : Option FlatNet) (f : Option FlatNet → Option Config) → f None ≡ None → slice_get d.nets n ≡ o → (n < length d.nets → f o ≡ None) → f o ≡ None
  no_net n None f e is h = e
  no_net n (Some x) f e is h = h (slice_get_within d.nets n x is)

  -- none may be taken exactly where the list is empty
  pub ready_ended : ready d c ≡ [] → Ended (taking d) c
  ready_ended h (Run i) = no_process i (slice_get c.procs i) (take_run d c i) refl refl (λ l.
      none_of (take d c (Run i)) (filtered_none (λ e. is_some (take d c e)) (runs ++ moves ++ updates) (Run i) h
      (Contains-append_left (runs ++ moves) updates (Run i) (Contains-append_left runs moves (Run i) (con_map Run (numbers (length c.procs)) i (con_number (length c.procs) i l))))))
  ready_ended h (Follow n) = no_net n (slice_get d.nets n) (take_net d c n) refl refl (λ l.
      none_of (take d c (Follow n)) (filtered_none (λ e. is_some (take d c e)) (runs ++ moves ++ updates) (Follow n) h
      (Contains-append_left (runs ++ moves) updates (Follow n) (Contains-append_right runs moves (Follow n) (con_map Follow (numbers (length d.nets)) n (con_number (length d.nets) n l))))))
  ready_ended h (Update i) = no_process i (slice_get c.procs i) (λ o. if is_quiet d c then take_update c i o else None) (never (is_quiet d c)) refl (λ l.
      none_of (take d c (Update i)) (filtered_none (λ e. is_some (take d c e)) (runs ++ moves ++ updates) (Update i) h
      (Contains-append_right (runs ++ moves) updates (Update i) (con_map Update (numbers (length c.procs)) i (con_number (length c.procs) i l)))))
    where
      never : (b : Bool) → (if b then take_update c i None else None) ≡ None
      never true = refl
      never false = refl

  pub ended_ready : Ended (taking d) c → ready d c ≡ []
  ended_ready h = none_filtered (λ e. is_some (take d c e)) (runs ++ moves ++ updates) (λ e. not_some (take d c e) (h e))

  -- an event may be taken, or none
  pub may_go : ((e : Event) × ((t : Config) × (taking d e c ≡ Some t))) ⊎ Ended (taking d) c
  may_go = go (ready d c) refl
    where
      taken : (e : Event) (o : Option Config) → taking d e c ≡ o → is_some o ≡ true → ((f : Event) × ((t : Config) × (taking d f c ≡ Some t))) ⊎ Ended (taking d) c
      taken e None h k = cc
      taken e (Some t) h k = inl (e, (t, h))

      go : (es : List Event) → ready d c ≡ es → ((f : Event) × ((t : Config) × (taking d f c ≡ Some t))) ⊎ Ended (taking d) c
      go [] h = inr (ready_ended h)
      go (e ∷ es) h = taken e (take d c e) refl (first_passes (λ f. is_some (take d c f)) (runs ++ moves ++ updates) e es h)
