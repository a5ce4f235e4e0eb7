-- A chooser that passes one event of each list that has some has one run. So there are runs.
use Rattle.std.proofs.Common.{◌≡◌, ◌⊎◌, inl, inr, ℕ, zero, suc, ◌+◌, ◌<◌, ◌≤◌, ◌/◌, ◌%◌, ◌^◌, Bool, true, false, if◌then◌else◌, List, [], ◌∷◌, ◌++◌, map, filter, zip, length, slice_get, Contains, Option, Some, None, is_some, refl, sym, ◌∙◌, ap, subst, arith}
use Rattle.std.specs.List.{list_any}
use Rattle.std.proofs.Math.Nat.{mod-lt}
use Rattle.xt_bits.specs.Word.{Word}
use Rattle.xt_bits.specs.Trace.{Trace}
use Rattle.xt_bits.specs.Stimulus.{Stimulus}
use Rattle.el_design.specs.Plain.{Flat}
use Rattle.el_design.specs.Store.{start_store}
use Rattle.el_design.specs.Queue.{Config, is_stuck, Event, Run, Follow, Update, numbers, take, ready}
use Rattle.el_design.specs.Run.{IsStimulus, IsSettled, started, Starts, woken, Continues, Takes, rest_seen, starved_seen, Goes, RunsBy, Any, First, pick_after, Picked}
use Rattle.el_design.specs.Checked.{IsChecked}
use Rattle.el_design.specs.Laws.{EveryStimulusRuns}
use Rattle.el_design.specs.RunLaws.{Chooser, TakesAt, passed_by, HasOneRun, PassesOne}
use Rattle.el_design.proofs.OrderLists.{con_nil, con_head, con_cases, some_is}
use Rattle.el_design.proofs.OrderPlaces.{con_got, got_below}
use Rattle.el_design.proofs.OrderDiamond.{Path}
use Rattle.el_design.proofs.OrderCore.{taking}
use Rattle.el_design.proofs.OrderRest.{ready_ended}
use Rattle.el_design.proofs.OrderTrace.{takes_path, heads, tails, goes_ready, not_both, not_empty, begins_one}
use Rattle.el_design.proofs.OrderEnds.{Begins, Rested, starts_begins, continues_begins, edge_bound, edge_rest}
use Rattle.el_design.proofs.OrderSettles.{settle_nets}

-- what is filtered passes
filtered_passes : {X : Type 0} (f : X → Bool) (xs : List X) (x : X) → Contains (filter f xs) x → f x ≡ true
filtered_passes f [] x c = absurd (con_nil x c)
filtered_passes f (y ∷ ys) x c = go (f y) refl c (filtered_passes f ys x)
  where
    go : (b : Bool) → f y ≡ b → Contains (if b then y ∷ filter f ys else filter f ys) x → (Contains (filter f ys) x → f x ≡ true) → f x ≡ true
    go false e k more = more k
    go true e k more = choose (con_cases y x (filter f ys) k)
      where
        choose : (y ≡ x) ⊎ Contains (filter f ys) x → f x ≡ true
        choose (inl i) = ap f (sym i) ∙ e
        choose (inr m) = more m

-- ---- choosers

-- the one event of a list that a chooser passes
pub record Choice (C : ℕ → List Event → Event → Type 0) (k : ℕ) (es : List Event) : Type 0 where
  pub event : Event
  pub among : Contains es event
  pub passes : C k es event
  pub one : (other : Event) → C k es other → other ≡ event

abbrev pub IsChoice : (ℕ → List Event → Event → Type 0) → Type 0
IsChoice C = (k : ℕ) (e : Event) (es : List Event) → Choice C k (e ∷ es)

pub chooses_one : (c : Chooser) → PassesOne c → IsChoice (passed_by c)
chooses_one c one k e es = let p = one k e es in record { event = p.0; among = p.1; passes = p.2; one = p.3 }

-- the one at a place that is there
placed : (C : ℕ → List Event → Event → Type 0) (k i : ℕ) (es : List Event) → i < length es → ((f : Event) → slice_get es i ≡ Some f → C k es f) → ((f : Event) → C k es f → slice_get es i ≡ Some f) → Choice C k es
placed C k i es h to from =
    let x = got_below es i h in
    record { event = x.0; among = con_got es i x.0 x.1; passes = to x.0 x.1; one = λ other c. some_is other x.0 (sym (from other c) ∙ x.1) }

pub first_chooses : IsChoice First
first_chooses k e es = placed First k 0 (e ∷ es) (omega arith) (λ f h. h) (λ f h. h)

pub pick_chooses : (pick : ℕ) → IsChoice (Picked pick)
pick_chooses pick k e es =
    placed (Picked pick) k ((pick_after pick (suc k) / 2 ^ 33) % length (e ∷ es)) (e ∷ es) (mod-lt (pick_after pick (suc k) / 2 ^ 33) (omega arith)) (λ f h. h) (λ f h. h)

pub place_chooses : (place : ℕ → List Event → ℕ) → PassesOne (TakesAt place)
place_chooses place k e es =
    let p : Choice (passed_by (TakesAt place)) k (e ∷ es) = placed (passed_by (TakesAt place)) k (place k (e ∷ es) % length (e ∷ es)) (e ∷ es) (mod-lt (place k (e ∷ es)) (omega arith)) (λ f h. h) (λ f h. h) in
    (p.event, p.among, p.passes, p.one)

module _ (d : Flat) (order : List ℕ) (checked : IsChecked d order) (C : ℕ → List Event → Event → Type 0) (choice : IsChoice C) where
  -- ---- there is a run

  -- an edge that ends by the events that are chosen
  record Over (begin : Config) (k : ℕ) : Type 0 where
    events : List Event
    end : Config
    takes : Takes d C k begin events end
    none : ready d end ≡ []

  abbrev IsBounded : ℕ → Config → Type 0
  IsBounded n c = (es : List Event) (t : Config) → Path (taking d) es c t → length es ≤ n

  taken : (c : Config) (e : Event) → Contains (ready d c) e → (t : Config) × (take d c e ≡ Some t)
  taken c e h = go (take d c e) refl (filtered_passes (λ f. is_some (take d c f)) (map Run (numbers (length c.procs)) ++ map Follow (numbers (length d.nets)) ++ map Update (numbers (length c.procs))) e h)
    where
      go : (o : Option Config) → take d c e ≡ o → is_some (take d c e) ≡ true → (t : Config) × (take d c e ≡ Some t)
      go None i s = absurd (let f : false ≡ true = sym (ap is_some i) ∙ s in cc)
      go (Some t) i s = (t, i)

  chosen_over : (n : ℕ) (c : Config) (k : ℕ) → IsBounded n c → Over c k
  chosen_over zero c k bound = go (ready d c) refl
    where
      go : (es : List Event) → ready d c ≡ es → Over c k
      go [] e = record { events = []; end = c; takes = refl; none = e }
      go (x ∷ xs) e = absurd (let t = taken c x (subst (λ es. Contains es x) (sym e) (con_head x xs)) in let l : length (x ∷ []) ≤ 0 = bound (x ∷ []) t.0 (t.0, t.1, refl) in omega arith)
  chosen_over (suc n) c k bound = go (ready d c) refl (chosen_over n)
    where
      go : (es : List Event) → ready d c ≡ es → ((t : Config) (j : ℕ) → IsBounded n t → Over t j) → Over c k
      go [] e more = record { events = []; end = c; takes = refl; none = e }
      go (x ∷ xs) e more =
          let p : Choice C k (x ∷ xs) = choice k x xs in
          let t = taken c p.event (subst (λ es. Contains es p.event) (sym e) p.among) in
          let o : Over t.0 (suc k) = more t.0 (suc k) (λ es u q. let l : length (p.event ∷ es) ≤ suc n = bound (p.event ∷ es) u (t.0, t.1, q) in omega arith) in
          record { events = p.event ∷ o.events; end = o.end; takes = (subst (λ es. C k es p.event) (sym e) p.passes, (t.0, t.1, o.takes)); none = o.none }

  over_from : (begin : Config) → Begins d begin → (k : ℕ) → Over begin k
  over_from begin b k = let n = edge_bound d order checked begin b in chosen_over n.0 begin k n.1

  record Runs_on (begin : Config) (k : ℕ) (rows : List (List Word)) : Type 0 where
    events : List Event
    end : Config
    takes : Takes d C k begin events end
    plays : List (List Event)
    trace : Trace
    goes : Goes d C (k + length events) end rows plays trace

  starved_on : (rows : List (List Word)) (begin : Config) (k : ℕ) (o : Over begin k) → list_any is_stuck o.end.procs ≡ true → Runs_on begin k rows
  starved_on rows begin k o s = record { events = o.events; end = o.end; takes = o.takes; plays = []; trace = starved_seen o.end ∷ []; goes = inl ((o.none, s), refl) }

  next_on : (row : List Word) (rest : List (List Word)) (begin : Config) → Begins d begin → (k : ℕ) (o : Over begin k) → list_any is_stuck o.end.procs ≡ false → ((next : Config) → Begins d next → (j : ℕ) → Runs_on next j rest) → Runs_on begin k (row ∷ rest)
  next_on row rest begin b k o s more =
      let nets : (ns : List Word) × IsSettled d row o.end.store ns = settle_nets d order checked.ordered row o.end.store in
      let next : Config = record { edge = suc o.end.edge; row = row; store = o.end.store; nets = nets.0; procs = map woken o.end.procs } in
      let c : Continues d o.end row next = record { edge = refl; row = refl; store = refl; procs = refl; nets = nets.1 } in
      let rested : Rested d o.end = (edge_rest d order checked begin b o.events o.end (takes_path d C k begin o.end o.events o.takes) (ready_ended d o.end o.none)).1 in
      let r : Runs_on next (k + length o.events) rest = more next (continues_begins d o.end row next rested s c) (k + length o.events) in
      record {
        events = o.events;
        end = o.end;
        takes = o.takes;
        plays = r.events ∷ r.plays;
        trace = rest_seen d o.end ∷ r.trace;
        goes = ((o.none, s), (row, rest, next, r.end, r.trace, refl, refl, c, r.takes, r.goes));
      }

  runs_on : (rows : List (List Word)) (begin : Config) → Begins d begin → (k : ℕ) → Runs_on begin k rows
  runs_on [] begin b k = choose (over_from begin b k)
    where
      pick : (o : Over begin k) → (s : Bool) → list_any is_stuck o.end.procs ≡ s → Runs_on begin k []
      pick o true s = starved_on [] begin k o s
      pick o false s = record { events = o.events; end = o.end; takes = o.takes; plays = []; trace = rest_seen d o.end ∷ []; goes = inr ((o.none, s), refl, refl) }

      choose : Over begin k → Runs_on begin k []
      choose o = pick o (list_any is_stuck o.end.procs) refl
  runs_on (row ∷ rest) begin b k = choose (over_from begin b k) (runs_on rest)
    where
      pick : (o : Over begin k) → (s : Bool) → list_any is_stuck o.end.procs ≡ s → ((next : Config) → Begins d next → (j : ℕ) → Runs_on next j rest) → Runs_on begin k (row ∷ rest)
      pick o true s more = starved_on (row ∷ rest) begin k o s
      pick o false s more = next_on row rest begin b k o s more

      choose : Over begin k → ((next : Config) → Begins d next → (j : ℕ) → Runs_on next j rest) → Runs_on begin k (row ∷ rest)
      choose o more = pick o (list_any is_stuck o.end.procs) refl more

  record HasRun (x : Stimulus) : Type 0 where
    plays : List (List Event)
    trace : Trace
    runs : RunsBy d C x plays trace

  has_run : (x : Stimulus) → IsStimulus d x → HasRun x
  has_run x fits = go x.rows refl
    where
      go : (rows : List (List Word)) → x.rows ≡ rows → HasRun x
      go [] e = absurd (fits.some_row e)
      go (row ∷ more) e =
          let nets : (ns : List Word) × IsSettled d row (start_store d) ns = settle_nets d order checked.ordered row (start_store d) in
          let begin : Config = record { edge = 0; row = row; store = start_store d; nets = nets.0; procs = map started (zip d.procs x.replies) } in
          let s : Starts d x row begin = record { edge = refl; row = refl; store = refl; procs = refl; nets = nets.1 } in
          let r : Runs_on begin 0 more = runs_on more begin (starts_begins d order checked x row begin s) 0 in
          record {
            plays = r.events ∷ r.plays;
            trace = r.trace;
            runs = (row, more, begin, r.end, e, s, r.takes, subst (λ n. Goes d C n r.end more r.plays r.trace) (let a : 0 + length r.events ≡ length r.events = omega arith in a) r.goes);
          }

  -- ---- and no other

  no_event : (c t : Config) (e : Event) → ready d c ≡ [] → take d c e ≡ Some t → ⊥
  no_event c t e none h = let f : Some t ≡ None = sym h ∙ ready_ended d c none e in cc

  -- of the events that may be taken the chooser passes one
  same_event : (c s t : Config) (k : ℕ) (e f : Event) → C k (ready d c) e → C k (ready d c) f → take d c e ≡ Some s → take d c f ≡ Some t → e ≡ f
  same_event c s t k e f a b h g = go (ready d c) refl
    where
      go : (es : List Event) → ready d c ≡ es → e ≡ f
      go [] i = absurd (no_event c s e i h)
      go (x ∷ xs) i = let p : Choice C k (x ∷ xs) = choice k x xs in p.one e (subst (λ es. C k es e) i a) ∙ sym (p.one f (subst (λ es. C k es f) i b))

  takes_one : (k : ℕ) (c s t : Config) (es fs : List Event) → Takes d C k c es s → ready d s ≡ [] → Takes d C k c fs t → ready d t ≡ [] → (es ≡ fs) × (s ≡ t)
  takes_one k c s t [] [] h none g over = (refl, sym h ∙ g)
  takes_one k c s t [] (f ∷ fs) h none g over = absurd (no_event c g.1.0 f (subst (λ x. ready d x ≡ []) (sym h) none) g.1.1)
  takes_one k c s t (e ∷ es) [] h none g over = absurd (no_event c h.1.0 e (subst (λ x. ready d x ≡ []) (sym g) over) h.1.1)
  takes_one k c s t (e ∷ es) (f ∷ fs) h none g over =
      let same : e ≡ f = same_event c h.1.0 g.1.0 k e f h.0 g.0 h.1.1 g.1.1 in
      let mid : g.1.0 ≡ h.1.0 = some_is g.1.0 h.1.0 (sym g.1.1 ∙ ap (take d c) (sym same) ∙ h.1.1) in
      let r : (es ≡ fs) × (s ≡ t) = takes_one (suc k) h.1.0 s t es fs h.1.2 none (subst (λ x. Takes d C (suc k) x fs t) mid g.1.2) over in
      (ap (λ x. x ∷ es) same ∙ ap (λ xs. f ∷ xs) r.0, r.1)

  abbrev Alike : List (List Event) → List (List Event) → Trace → Trace → Type 0
  Alike plays others trace other = (plays ≡ others) × (trace ≡ other)

  -- two edges that begin alike: what comes after them is alike
  edges_one : (k : ℕ) (a b s t : Config) (es fs : List Event) (rows : List (List Word)) (plays others : List (List Event)) (trace other : Trace) → a ≡ b →
      Takes d C k a es s → Goes d C (k + length es) s rows plays trace → Takes d C k b fs t → Goes d C (k + length fs) t rows others other →
      ((n : ℕ) → Goes d C n s rows plays trace → Goes d C n s rows others other → Alike plays others trace other) → Alike (es ∷ plays) (fs ∷ others) trace other
  edges_one k a b s t es fs rows plays others trace other same run goes path going next =
      let one : (es ≡ fs) × (s ≡ t) =
      takes_one k a s t es fs run (goes_ready d C (k + length es) s rows plays trace goes) (subst (λ c. Takes d C k c fs t) (sym same) path) (goes_ready d C (k + length fs) t rows others other going) in
      let r : Alike plays others trace other =
      next (k + length es) goes (subst (λ c. Goes d C (k + length es) c rows others other) (sym one.1) (subst (λ xs. Goes d C (k + length xs) t rows others other) (sym one.0) going)) in
      (ap (λ xs. xs ∷ plays) one.0 ∙ ap (λ ps. fs ∷ ps) r.0, r.1)

  goes_one : (k : ℕ) (last : Config) (rows : List (List Word)) (plays others : List (List Event)) (trace other : Trace) → Goes d C k last rows plays trace → Goes d C k last rows others other → Alike plays others trace other
  goes_one k last rows [] [] trace other (inl h) (inl g) = (refl, h.1 ∙ sym g.1)
  goes_one k last rows [] [] trace other (inl h) (inr g) = not_both (list_any is_stuck last.procs) h.0.1 g.0.1
  goes_one k last rows [] [] trace other (inr h) (inl g) = not_both (list_any is_stuck last.procs) g.0.1 h.0.1
  goes_one k last rows [] [] trace other (inr h) (inr g) = (refl, h.2 ∙ sym g.2)
  goes_one k last rows [] (fs ∷ others) trace other (inl h) g = not_both (list_any is_stuck last.procs) h.0.1 g.0.1
  goes_one k last rows [] (fs ∷ others) trace other (inr h) (rest, (row, more, begin, end, later, rows_are, trace_is, continues, takes, goes)) = not_empty rows more row h.1 rows_are
  goes_one k last rows (es ∷ plays) [] trace other h (inl g) = not_both (list_any is_stuck last.procs) g.0.1 h.0.1
  goes_one k last rows (es ∷ plays) [] trace other (rest, (row, more, begin, end, later, rows_are, trace_is, continues, takes, goes)) (inr g) = not_empty rows more row g.1 rows_are
  goes_one k last rows (es ∷ plays) (fs ∷ others) trace other (rest, (row, more, begin, end, later, rows_are, trace_is, continues, takes, goes))
      (also, (row2, more2, begin2, end2, later2, rows_are2, trace_is2, continues2, takes2, goes2)) =
      let row_one : row ≡ row2 = heads row row2 more more2 (sym rows_are ∙ rows_are2) in
      let more_one : more ≡ more2 = tails row row2 more more2 (sym rows_are ∙ rows_are2) in
      let begin_one : begin ≡ begin2 =
      begins_one d order checked begin begin2 (continues.edge ∙ sym continues2.edge) (continues.row ∙ row_one ∙ sym continues2.row) (continues.store ∙ sym continues2.store) (continues.procs ∙ sym continues2.procs)
      continues.nets continues2.nets in
      let r : Alike (es ∷ plays) (fs ∷ others) later later2 =
      edges_one k begin begin2 end end2 es fs more plays others later later2 begin_one takes goes takes2 (subst (λ rs. Goes d C (k + length fs) end2 rs others later2) (sym more_one) goes2)
      (λ n g h. goes_one n end more plays others later later2 g h) in
      (r.0, trace_is ∙ ap (λ l. rest_seen d last ∷ l) r.1 ∙ sym trace_is2)

  runs_one : (x : Stimulus) (plays others : List (List Event)) (trace other : Trace) → RunsBy d C x plays trace → RunsBy d C x others other → Alike plays others trace other
  runs_one x [] others trace other h g = absurd h
  runs_one x (es ∷ plays) [] trace other h g = absurd g
  runs_one x (es ∷ plays) (fs ∷ others) trace other (row, more, begin, end, rows_are, starts, takes, goes) (row2, more2, begin2, end2, rows_are2, starts2, takes2, goes2) =
      let row_one : row ≡ row2 = heads row row2 more more2 (sym rows_are ∙ rows_are2) in
      let more_one : more ≡ more2 = tails row row2 more more2 (sym rows_are ∙ rows_are2) in
      let begin_one : begin ≡ begin2 =
      begins_one d order checked begin begin2 (starts.edge ∙ sym starts2.edge) (starts.row ∙ row_one ∙ sym starts2.row) (starts.store ∙ sym starts2.store) (starts.procs ∙ sym starts2.procs) starts.nets starts2.nets in
      edges_one 0 begin begin2 end end2 es fs more plays others trace other begin_one takes (subst (λ n. Goes d C n end more plays trace) (none (length es)) goes) takes2
      (subst (λ n. Goes d C n end2 more others other) (none (length fs)) (subst (λ rs. Goes d C (length fs) end2 rs others other) (sym more_one) goes2))
      (λ n g h. goes_one n end more plays others trace other g h)
    where
      none : (n : ℕ) → n ≡ 0 + n
      none n = omega arith

  pub has_one_run : (x : Stimulus) → IsStimulus d x → HasOneRun d C x
  has_one_run x fits = let r : HasRun x = has_run x fits in (r.plays, r.trace, r.runs, λ others other h. runs_one x others r.plays other r.trace h r.runs)

-- ---- a run of a chooser is a run

module _ (d : Flat) (C : ℕ → List Event → Event → Type 0) where
  any_takes : (k : ℕ) (c end : Config) (es : List Event) → Takes d C k c es end → Takes d Any k c es end
  any_takes k c end [] h = h
  any_takes k c end (e ∷ es) h = (tt, (h.1.0, h.1.1, any_takes (suc k) h.1.0 end es h.1.2))

  any_goes : (k : ℕ) (last : Config) (rows : List (List Word)) (plays : List (List Event)) (trace : Trace) → Goes d C k last rows plays trace → Goes d Any k last rows plays trace
  any_goes k last rows [] trace h = h
  any_goes k last rows (es ∷ plays) trace (rest, (row, more, begin, end, later, rows_are, trace_is, continues, takes, goes)) =
      (rest, (row, more, begin, end, later, rows_are, trace_is, continues, any_takes k begin end es takes, any_goes (k + length es) end more plays later goes))

  pub any_runs : (x : Stimulus) (plays : List (List Event)) (trace : Trace) → RunsBy d C x plays trace → RunsBy d Any x plays trace
  any_runs x [] trace h = h
  any_runs x (es ∷ plays) trace (row, more, begin, end, rows_are, starts, takes, goes) =
      (row, more, begin, end, rows_are, starts, any_takes 0 begin end es takes, any_goes (length es) end more plays trace goes)

pub every_stimulus_runs : (d : Flat) (order : List ℕ) → IsChecked d order → EveryStimulusRuns d
every_stimulus_runs d order checked x fits =
    let r : HasRun d order checked First first_chooses x = has_run d order checked First first_chooses x fits in
    (r.plays, (r.trace, any_runs d First x r.plays r.trace r.runs))
