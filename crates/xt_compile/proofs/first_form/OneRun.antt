-- One run of a design of one process: in each edge the process goes to its next wait, and then its updates come. Its trace is that of the big steps.
use Rattle.std.proofs.Common.{◌≡◌, ◌≤◌, ◌+◌, ◌++◌, ℕ, zero, suc, Bool, true, false, not, ◌&&◌, if◌then◌else◌, List, [], ◌∷◌, Option, Some, None, length, map, get_or, refl, sym, ap, ◌∙◌, subst, inr, arith, append_assoc}
use Rattle.std.specs.Prelude.{fold, slice_get, unwrap_or, zip}
use Rattle.std.specs.List.{enumerate_from, list_any}
use Rattle.std.proofs.lemmas.List.{append-nil}
use Rattle.std.proofs.lemmas.Option.{none-some, same_Some, get_or_from_slice_get}
use Rattle.xt_base.specs.declared.refusals.Place.{Place}
use Rattle.xt_bits.specs.Operators.{eq_of}
use Rattle.xt_bits.specs.Stimulus.{Reply, Stimulus}
use Rattle.xt_bits.specs.Trace.{Rested, Seen, Trace}
use Rattle.xt_bits.specs.Word.{Word, word}
use Rattle.el_design.specs.declared.designs.Pin.{Pin}
use Rattle.el_design.specs.declared.designs.Source.{Source}
use Rattle.el_design.specs.declared.designs.Source.TheVariants as sources
use Rattle.el_design.specs.Act.{Process}
use Rattle.el_design.specs.Assign.{writes_of}
use Rattle.el_design.specs.Laws.{places_from, has_updates, is_empty}
use Rattle.el_design.specs.Plain.{Expr, ToVariable, Statement, Seq, Block, Assign, Wait, Forever, FlatNet, FlatProc, Flat}
use Rattle.el_design.specs.Queue.{Config, scene_of, pin_value, net_aim, has_value, are_valued, is_stuck, Event, Run, Follow, Update, take, IsAtRest}
use Rattle.el_design.specs.Run.{IsStimulus, IsSettled, Starts, started, Takes, Any, source_value, rest_seen, Goes, Runs}
use Rattle.el_design.specs.Stack.{Work, Do, settle}
use Rattle.el_design.specs.Store.{Store, Write, put_all, start_store}
use Rattle.el_design.specs.Value.{Scene, value}
use Rattle.el_design.specs.View.{seq_of}
use Rattle.el_design.proofs.Ready.{events_are_listed}
use Rattle.xt_compile.specs.first.Form.{IsStatement}
use Rattle.xt_compile.specs.first.Machine.{HasBody, Point, before, behind, stretch, onward, update, nets_of, between, seen, edge, trace_of, start_point}
use Rattle.xt_compile.specs.first.Nodes.{waits}
use Rattle.xt_compile.proofs.first_form.NumberTests.{same_number}
use Rattle.xt_compile.proofs.first_form.Stores.{AreFormal, formal_behind}

-- each net is a pin
abbrev pub NoValues : Flat → Type 0
NoValues d = (n : ℕ) (net : FlatNet) → slice_get d.nets n ≡ Some net → net.value ≡ None

-- what all of an edge shares: its number, its row, the replies, and the process with the places of it and of its block
pub record Frame : Type 0 where
  pub edge : ℕ
  pub row : List Word
  pub replies : List Reply
  pub at : Place
  pub place : Place
  pub body : List Statement

-- the process itself below what is left of its body
abbrev pub base : Frame → List Work
base f = Do (Forever f.place (Block f.at None (seq_of f.body))) ∷ []

-- behind the end of its body it begins again
begins_again : (vars nets : List ℕ) (f : Frame) → AreFormal vars nets f.body → 1 ≤ waits f.body → settle (base f) ≡ settle (Do (seq_of f.body) ∷ base f)
begins_again vars nets f h some = go f.body h some
  where
    go : (ss : List Statement) → AreFormal vars nets ss → 1 ≤ waits ss
        → settle (Do (Forever f.place (Block f.at None (seq_of ss))) ∷ []) ≡ settle (Do (seq_of ss) ∷ Do (Forever f.place (Block f.at None (seq_of ss))) ∷ [])
    go [] h some = absurd (omega arith)
    go (s ∷ ss) h some = one s ss h.0
      where
        one : (s : Statement) (ss : List Statement) → IsStatement vars nets s
            → settle (Do (Forever f.place (Block f.at None (Seq s (seq_of ss)))) ∷ []) ≡ settle (Do (Seq s (seq_of ss)) ∷ Do (Forever f.place (Block f.at None (Seq s (seq_of ss)))) ∷ [])
        one (Wait at false) ss h = refl
        one (Assign at (ToVariable v) e true) ss h = refl
        one s ss h = absurd h

formal_onward : (vars nets : List ℕ) (ss rest : List Statement) → AreFormal vars nets ss → AreFormal vars nets rest → AreFormal vars nets (onward ss rest)
formal_onward vars nets ss rest h g = go (behind rest) (formal_behind vars nets rest g)
  where
    go : (o : Option (List Statement)) → AreFormal vars nets (unwrap_or o []) → AreFormal vars nets (unwrap_or o (unwrap_or (behind ss) []))
    go None f = formal_behind vars nets ss h
    go (Some k) f = f

-- ---- nets that are pins

pin_nets : (d : Flat) (row : List Word) (ns : List FlatNet) (k n : ℕ) (net : FlatNet) → slice_get ns n ≡ Some net → slice_get (map (λ x. pin_value d row x.0 x.1) (enumerate_from k (map (λ n. n.width) ns))) n ≡ Some (pin_value d row (k + n) net.width)
pin_nets d row [] k n net there = absurd (none-some net there)
pin_nets d row (x ∷ ns) k zero net there =
    let e : k ≡ k + 0 = omega arith in
    ap (λ (m : ℕ). Some (pin_value d row m x.width)) e ∙ ap (λ (y : FlatNet). Some (pin_value d row (k + 0) y.width)) (same_Some x net there)
pin_nets d row (x ∷ ns) k (suc n) net there =
    let e : k + 1 + n ≡ k + suc n = omega arith in
    pin_nets d row ns (k + 1) n net there ∙ ap (λ (m : ℕ). Some (pin_value d row m net.width)) e

pin_there : (d : Flat) (row : List Word) (n : ℕ) (net : FlatNet) → slice_get d.nets n ≡ Some net → slice_get (nets_of d row) n ≡ Some (pin_value d row n net.width)
pin_there d row n net there = let e : 0 + n ≡ n = omega arith in pin_nets d row d.nets 0 n net there ∙ ap (λ (m : ℕ). Some (pin_value d row m net.width)) e

as_many_nets : (d : Flat) (row : List Word) (ns : List FlatNet) (k : ℕ) → length (map (λ x. pin_value d row x.0 x.1) (enumerate_from k (map (λ n. n.width) ns))) ≡ length ns
as_many_nets d row [] k = refl
as_many_nets d row (x ∷ ns) k = ap suc (as_many_nets d row ns (k + 1))

aim_is : (d : Flat) (row : List Word) (s : Scene) (n : ℕ) (net : FlatNet) → net.value ≡ None → net_aim d row s n net ≡ pin_value d row n net.width
aim_is d row s n net none = ap (λ (o : Option Expr). elim o as (λ _. Word) [ None ↦ pin_value d row n net.width | Some e ↦ word net.width (value d s e).value ]) none

-- the one process at its start
started_is : (f : Frame) (vars nets : List ℕ) (procs : List FlatProc) (replies : List (List Reply)) → AreFormal vars nets f.body → 1 ≤ waits f.body
    → procs ≡ record { always = true; body = Block f.at None (seq_of f.body); place = f.place } ∷ [] → replies ≡ f.replies ∷ []
    → map started (zip procs replies) ≡ record { stack = settle (Do (seq_of f.body) ∷ base f); updates = []; replies = f.replies; calls = []; delays = [] } ∷ []
started_is f vars nets procs replies formal some one rs =
    ap (λ (ps : List FlatProc). map started (zip ps replies)) one
    ∙ ap (λ (xs : List (List Reply)). map started (zip (record { always = true; body = Block f.at None (seq_of f.body); place = f.place } ∷ []) xs)) rs
    ∙ ap (λ (k : List Work). record { stack = k; updates = []; replies = f.replies; calls = []; delays = [] } ∷ []) (begins_again vars nets f formal some)

one_list : (replies : List (List Reply)) → length replies ≡ 1 → (r : List Reply) × (replies ≡ r ∷ [])
one_list [] e = absurd (omega arith)
one_list (r ∷ []) e = (r, refl)
one_list (r ∷ x ∷ replies) e = absurd (omega arith)

module _ (d : Flat) where
  abbrev process_at : Frame → List Statement → List (List Write) → Process
  process_at f rest us = record { stack = settle (Do (seq_of rest) ∷ base f); updates = us; replies = f.replies; calls = []; delays = [] }

  -- a state in which this is left of the body, and these updates
  abbrev state_at : Frame → Store → List Statement → List (List Write) → Config
  state_at f store rest us = record { edge = f.edge; row = f.row; store = store; nets = nets_of d f.row; procs = process_at f rest us ∷ [] }

  -- the process at a wait
  abbrev waiting_at : Frame → Store → Place → List Statement → Config
  waiting_at f store at rest = record {
    edge = f.edge;
    row = f.row;
    store = store;
    nets = nets_of d f.row;
    procs = record { stack = Do (Wait at false) ∷ Do (seq_of rest) ∷ base f; updates = []; replies = f.replies; calls = []; delays = [] } ∷ [];
  }

  -- what the statements of an edge are evaluated in
  abbrev here : Frame → Store → Scene
  here f store = scene_of d store (nets_of d f.row)

  -- ---- what is seen

  pin_seen : (f : Frame) (store : Store) (at : Place) (rest : List Statement) (x : Source) → source_value (waiting_at f store at rest) d x ≡ source_value (between f.row store (nets_of d f.row)) d x
  pin_seen f store at rest (sources.Var v) = refl
  pin_seen f store at rest (sources.Net n) = refl

  all_seen : (f : Frame) (store : Store) (at : Place) (rest : List Statement) (ps : List Pin) → map (λ p. source_value (waiting_at f store at rest) d p.from) ps ≡ map (λ p. source_value (between f.row store (nets_of d f.row)) d p.from) ps
  all_seen f store at rest [] = refl
  all_seen f store at rest (p ∷ ps) = let head = pin_seen f store at rest p.from in let tail = all_seen f store at rest ps in cc

  rest_is : (f : Frame) (store : Store) (at : Place) (rest : List Statement) → rest_seen d (waiting_at f store at rest) ≡ seen d f.row (record { store = store; rest = rest })
  rest_is f store at rest = ap (λ (ws : List Word). record { calls = [] ∷ []; ending = Rested 1 ws }) (all_seen f store at rest d.outputs)

  module _ (none : NoValues d) where
    -- ---- the nets have their values

    nets_settled : (row : List Word) (store : Store) → IsSettled d row store (nets_of d row)
    nets_settled row store = record {
      size = as_many_nets d row d.nets 0;
      each = λ n net there. pin_there d row n net there ∙ ap (λ (x : Word). Some x) (sym (aim_is d row (scene_of d store (nets_of d row)) n net (none n net there)));
    }

    valued : (f : Frame) (store : Store) (rest : List Statement) (us : List (List Write)) (n : ℕ) (net : FlatNet) → slice_get d.nets n ≡ Some net → has_value d (state_at f store rest us) n net ≡ true
    valued f store rest us n net there =
        ap (eq_of (get_or (nets_of d f.row) n (word net.width 0))) (aim_is d f.row (here f store) n net (none n net there))
        ∙ ap (λ (x : Word). eq_of x (pin_value d f.row n net.width)) (get_or_from_slice_get (nets_of d f.row) n (pin_value d f.row n net.width) (word net.width 0) (pin_there d f.row n net there))
        ∙ same_number (pin_value d f.row n net.width).value

    all_valued : (c : Config) (nets : List FlatNet) (n : ℕ) → ((i : ℕ) (net : FlatNet) → slice_get nets i ≡ Some net → has_value d c (n + i) net ≡ true) →
        (are_valued d c n nets ≡ true) × (places_from n (λ n net. not (has_value d c n net)) nets ≡ [])
    all_valued c [] n h = (refl, refl)
    all_valued c (net ∷ nets) n h =
        let e : n + 0 ≡ n = omega arith in
        let first : has_value d c n net ≡ true = subst (λ (k : ℕ). has_value d c k net ≡ true) e (h 0 net refl) in
        let more = all_valued c nets (suc n) (λ i x there. let f : n + suc i ≡ suc n + i = omega arith in subst (λ (k : ℕ). has_value d c k x ≡ true) f (h (suc i) x there)) in (
          ap (λ (b : Bool). b && are_valued d c (suc n) nets) first ∙ more.0,
          ap (λ (b : Bool). if not b then n ∷ places_from (suc n) (λ n net. not (has_value d c n net)) nets else places_from (suc n) (λ n net. not (has_value d c n net)) nets) first ∙ more.1,
        )

    nets_rest : (f : Frame) (store : Store) (rest : List Statement) (us : List (List Write)) →
        (are_valued d (state_at f store rest us) 0 d.nets ≡ true) × (places_from 0 (λ n net. not (has_value d (state_at f store rest us) n net)) d.nets ≡ [])
    nets_rest f store rest us =
        all_valued (state_at f store rest us) d.nets 0 (λ i net there. let e : i ≡ 0 + i = omega arith in subst (λ (k : ℕ). has_value d (state_at f store rest us) k net ≡ true) e (valued f store rest us i net there))

    -- a process at a wait, with nothing left to write, is at rest
    at_rest : (f : Frame) (store : Store) (at : Place) (rest : List Statement) → IsAtRest d (waiting_at f store at rest)
    at_rest f store at rest = (
      events_are_listed d (waiting_at f store at rest)
          ∙ ap (λ (is : List ℕ). map Follow is ++ (if is_empty (map Follow is) && not (list_any is_stuck (process_at f (Wait at false ∷ rest) [] ∷ [])) then map Update (places_from 0 (λ i p. has_updates p) (process_at f (Wait at false ∷ rest) [] ∷ [])) else []))
          (nets_rest f store (Wait at false ∷ rest) []).1,
      refl,
    )

    update_taken : (f : Frame) (store : Store) (at : Place) (ss : List Statement) (ws : List Write) (us : List (List Write))
        → take d (state_at f store (Wait at false ∷ ss) (ws ∷ us)) (Update 0) ≡ Some (state_at f (put_all store ws) (Wait at false ∷ ss) us)
    update_taken f store at ss ws us =
        ap (λ (b : Bool). if b && true then Some (state_at f (put_all store ws) (Wait at false ∷ ss) us) else None) (nets_rest f store (Wait at false ∷ ss) (ws ∷ us)).0

    -- ---- one edge

    -- events lead to the next wait, behind which this is left, with all these updates written
    abbrev Comes : ℕ → Frame → Store → List Statement → List (List Write) → List (List Write) → List Statement → Type 0
    Comes k f store rest us all left = (es : List Event) × (at : Place) × Takes d Any k (state_at f store rest us) es (waiting_at f (fold put_all store all) at left)

    updates_come : (k : ℕ) (f : Frame) (store : Store) (at : Place) (ss : List Statement) (us : List (List Write)) → (es : List Event) × Takes d Any k (state_at f store (Wait at false ∷ ss) us) es (waiting_at f (fold put_all store us) at ss)
    updates_come k f store at ss [] = ([], refl)
    updates_come k f store at ss (ws ∷ us) =
        let more = updates_come (suc k) f (put_all store ws) at ss us in
        (Update 0 ∷ more.0, (tt, (state_at f (put_all store ws) (Wait at false ∷ ss) us, update_taken f store at ss ws us, more.1)))

    at_wait : (k : ℕ) (f : Frame) (store : Store) (at : Place) (ss : List Statement) (us : List (List Write)) → Comes k f store (Wait at false ∷ ss) us (us ++ []) ss
    at_wait k f store at ss us =
        let come = updates_come k f store at ss us in
        (come.0, at, subst (λ (all : List (List Write)). Takes d Any k (state_at f store (Wait at false ∷ ss) us) come.0 (waiting_at f (fold put_all store all) at ss)) (sym (append-nil us)) come.1)

    -- one assignment more
    assigns : (k : ℕ) (f : Frame) (store : Store) (at : Place) (v : ℕ) (e : Expr) (ss : List Statement) (us more : List (List Write)) (left : List Statement)
        → Comes (suc k) f store ss (us ++ update d (here f store) (Assign at (ToVariable v) e true) ∷ []) ((us ++ update d (here f store) (Assign at (ToVariable v) e true) ∷ []) ++ more) left
        → Comes k f store (Assign at (ToVariable v) e true ∷ ss) us (us ++ update d (here f store) (Assign at (ToVariable v) e true) ∷ more) left
    assigns k f store at v e ss us more left come =
        let writes : List Write = writes_of d (here f store) (ToVariable v) (value d (here f store) e) in (
          Run 0 ∷ come.0,
          come.1,
          (tt, (state_at f store ss (us ++ writes ∷ []), refl, subst (λ (all : List (List Write)). Takes d Any (suc k) (state_at f store ss (us ++ writes ∷ [])) come.0 (waiting_at f (fold put_all store all) come.1 left)) (append_assoc us (writes ∷ []) more) come.2)),
        )

    module _ (vars nets : List ℕ) where
      -- up to a wait that is there
      before_wait : (k : ℕ) (f : Frame) (store : Store) (ss : List Statement) (us : List (List Write)) → AreFormal vars nets ss → 1 ≤ waits ss → Comes k f store ss us (us ++ map (update d (here f store)) (before ss)) (unwrap_or (behind ss) [])
      before_wait k f store [] us formal some = absurd (omega arith)
      before_wait k f store (Wait at false ∷ ss) us formal some = at_wait k f store at ss us
      before_wait k f store (Assign at (ToVariable v) e true ∷ ss) us formal some =
          assigns k f store at v e ss us (map (update d (here f store)) (before ss)) (unwrap_or (behind ss) [])
          (before_wait (suc k) f store ss (us ++ update d (here f store) (Assign at (ToVariable v) e true) ∷ []) formal.1 some)
      before_wait k f store (s ∷ ss) us formal some = absurd formal.0

      -- from anywhere
      comes : (k : ℕ) (f : Frame) (store : Store) (rest : List Statement) (us : List (List Write)) → AreFormal vars nets f.body → 1 ≤ waits f.body → AreFormal vars nets rest
          → Comes k f store rest us (us ++ map (update d (here f store)) (stretch f.body rest)) (onward f.body rest)
      comes k f store [] us formal some left =
          subst (λ (stack : List Work). (es : List Event) × (at : Place) × Takes d Any k (record { edge = f.edge; row = f.row; store = store; nets = nets_of d f.row; procs = record { stack = stack; updates = us; replies = f.replies; calls = []; delays = [] } ∷ [] }) es
          (waiting_at f (fold put_all store (us ++ map (update d (here f store)) (before f.body))) at (unwrap_or (behind f.body) [])))
          (sym (begins_again vars nets f formal some)) (before_wait k f store f.body us formal some)
      comes k f store (Wait at false ∷ ss) us formal some left = at_wait k f store at ss us
      comes k f store (Assign at (ToVariable v) e true ∷ ss) us formal some left =
          assigns k f store at v e ss us (map (update d (here f store)) (stretch f.body ss)) (onward f.body ss)
          (comes (suc k) f store ss (us ++ update d (here f store) (Assign at (ToVariable v) e true) ∷ []) formal some left.1)
      comes k f store (s ∷ ss) us formal some left = absurd left.0

      -- ---- all edges

      abbrev next_frame : Frame → List Word → Frame
      next_frame f row = record { edge = suc f.edge; row = row; replies = f.replies; at = f.at; place = f.place; body = f.body }

      -- one edge more, with what is seen of the last one
      one_more : (k : ℕ) (f : Frame) (store : Store) (at : Place) (rest : List Statement) (row : List Word) (rows : List (List Word)) (es : List Event) (end : Config) (plays : List (List Event)) (later : Trace)
          → Takes d Any k (state_at (next_frame f row) store rest []) es end → Goes d Any (k + length es) end rows plays later
          → Goes d Any k (waiting_at f store at rest) (row ∷ rows) (es ∷ plays) (seen d f.row (record { store = store; rest = rest }) ∷ later)
      one_more k f store at rest row rows es end plays later takes goes = (
        at_rest f store at rest,
        (
          row,
          rows,
          state_at (next_frame f row) store rest [],
          end,
          later,
          refl,
          ap (λ (x : Seen). x ∷ later) (sym (rest_is f store at rest)),
          record { edge = refl; row = refl; store = refl; procs = refl; nets = nets_settled row store },
          takes,
          goes,
        ),
      )

      goes_on : (rows : List (List Word)) (k : ℕ) (f : Frame) (store : Store) (at : Place) (rest : List Statement) → AreFormal vars nets f.body → 1 ≤ waits f.body → AreFormal vars nets rest
          → (plays : List (List Event)) × Goes d Any k (waiting_at f store at rest) rows plays (seen d f.row (record { store = store; rest = rest }) ∷ trace_of d f.body rows (record { store = store; rest = rest }))
      goes_on [] k f store at rest formal some left = ([], inr (at_rest f store at rest, refl, ap (λ (x : Seen). x ∷ []) (sym (rest_is f store at rest))))
      goes_on (row ∷ rows) k f store at rest formal some left =
          let next : Point = edge d f.body (nets_of d row) (record { store = store; rest = rest }) in
          let come = comes k (next_frame f row) store rest [] formal some left in
          let more = goes_on rows (k + length come.0) (next_frame f row) next.store come.1 next.rest formal some (formal_onward vars nets f.body rest formal left) in (
            come.0 ∷ more.0,
            one_more k f store at rest row rows come.0 (waiting_at (next_frame f row) next.store come.1 next.rest) more.0 (seen d row next ∷ trace_of d f.body rows next) come.2 more.1,
          )

      -- a run for each stimulus
      pub one_run : (body : List Statement) → HasBody d body → AreFormal vars nets body → 1 ≤ waits body → (x : Stimulus) → IsStimulus d x
          → (plays : List (List Event)) × Runs d x plays (trace_of d body x.rows (start_point d body))
      one_run body has formal some x is = go x.rows refl
        where
          go : (rows : List (List Word)) → x.rows ≡ rows → (plays : List (List Event)) × Runs d x plays (trace_of d body x.rows (start_point d body))
          go [] e = absurd (is.some_row e)
          go (row ∷ rows) e =
              let r = one_list x.replies (is.replies ∙ ap (λ (ps : List FlatProc). length ps) has.is) in
              let f : Frame = record { edge = 0; row = row; replies = r.0; at = has.at; place = has.place; body = body } in
              let next : Point = edge d body (nets_of d row) (start_point d body) in
              let come = comes 0 f (start_store d) body [] formal some formal in
              let more = goes_on rows (length come.0) f next.store come.1 next.rest formal some (formal_onward vars nets body body formal formal) in
              let begin : Config = state_at f (start_store d) body [] in
              let starts : Starts d x row begin = record { edge = refl; row = refl; store = refl; procs = sym (started_is f vars nets d.procs x.replies formal some has.is r.1); nets = nets_settled row (start_store d) } in
              let runs : Runs d x (come.0 ∷ more.0) (seen d row next ∷ trace_of d body rows next) = (row, rows, begin, waiting_at f next.store come.1 next.rest, e, starts, come.2, more.1) in
              (come.0 ∷ more.0, subst (λ (rs : List (List Word)). Runs d x (come.0 ∷ more.0) (trace_of d body rs (start_point d body))) (sym e) runs)
