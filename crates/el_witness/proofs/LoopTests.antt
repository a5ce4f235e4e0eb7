-- A test of waits: where it holds, each loop's body waits, and so does each `always`. It computes.
use Rattle.std.proofs.Common.{◌≡◌, ◌⊎◌, inl, inr, ◌&&◌, ◌||◌, not, ℕ, Bool, true, false, List, [], Option, Some, None, subst}
use Rattle.std.specs.List.{list_all}
use Rattle.xt_base.specs.declared.refusals.Place.{Place}
use Rattle.el_design.specs.Plain.{Statement, For, FlatProc, Flat}
use Rattle.el_design.specs.InPlace.{LoopAt, loop_of_process, loop_of_function}
use Rattle.el_design.specs.Turns.{body_of}
use Rattle.el_design.specs.Walk.{HasWalk}
use Rattle.el_design.specs.Exits.{Told, NotCounted, Past, Alone, TaskExits, exits, TellsRightly, AreOfTasks}
use Rattle.el_design.specs.Rules as rules
use Rattle.el_design.specs.Rules.{IsFinite, SpinsAt, TurnsTooOften}
use Rattle.el_design.proofs.OrderLists.{con_all}
use Rattle.el_design.proofs.OrderPlaces.{con_got}
use Rattle.el_design.proofs.Texts.{in_place_stands}
use Rattle.el_design.proofs.WaysPuts.{left_of, right_of, one_of, not_so, clash}
use Rattle.el_design.proofs.ExitsWalks.{exits_are_walks}
use Rattle.el_witness.proofs.PlaceTests as place
use Rattle.el_witness.proofs.PlaceTests.{Inside, placed, AreInside}

abbrev pub not_counted : Statement → Told
not_counted x = NotCounted

abbrev pub no_for : Statement → Bool
no_for (For at v first test next body) = false
no_for x = true

module _ (d : Flat) (finite : IsFinite d) (inside : Inside) (given : AreInside d.tasks inside) (task_exits : TaskExits) (of_tasks : AreOfTasks d not_counted task_exits) where
  abbrev pub without_for : List ℕ → Statement → Bool
  without_for marks s = list_all (λ y. no_for y.1) (placed inside marks s)

  told_rightly : (marks : List ℕ) (s : Statement) → without_for marks s ≡ true → TellsRightly d not_counted s
  told_rightly marks s h at v first test next body p =
      let st = in_place_stands marks s p in
      let e : false ≡ true = con_all (λ y. no_for y.1) (placed inside marks s) (st.0, For at v first test next body) h (place.stands_placed d.tasks inside given marks st.0 s (For at v first test next body) st.1) in cc

  -- a statement without a `for` that has no walk to its end
  abbrev pub waits : List ℕ → Statement → Bool
  waits marks s = not (exits d not_counted task_exits Alone marks s Past) && without_for marks s

  pub no_walk : (marks : List ℕ) (s : Statement) → waits marks s ≡ true → HasWalk d marks s → ⊥
  no_walk marks s h w =
      let f = told_rightly marks s (right_of (not (exits d not_counted task_exits Alone marks s Past)) (without_for marks s) h) in
      let n = not_so (exits d not_counted task_exits Alone marks s Past) (left_of (not (exits d not_counted task_exits Alone marks s Past)) (without_for marks s) h) in
      clash (exits d not_counted task_exits Alone marks s Past) ((exits_are_walks d finite not_counted task_exits of_tasks marks s f).past_only w) n

  abbrev pub body_waits : List ℕ → Option Statement → Bool
  body_waits marks None = true
  body_waits marks (Some b) = waits marks b

  abbrev pub loop_waits : List ℕ × Statement → Bool
  loop_waits y = body_waits y.0 (body_of y.1)

  abbrev pub no_tasks : Inside
  no_tasks t marks = []

  none_inside : AreInside [] no_tasks
  none_inside t task marks e = absurd (let f : None ≡ Some task = e in cc)

  abbrev pub LoopsWait : Type 0
  LoopsWait = (list_all (λ p. list_all loop_waits (placed inside [] p.body)) d.procs ≡ true) × (list_all (λ g. list_all loop_waits (placed no_tasks [] g.body)) d.funcs ≡ true)

  waits_there : {marks : List ℕ} {x : Statement} → LoopsWait → LoopAt d marks x → loop_waits (marks, x) ≡ true
  waits_there {marks = marks} {x = x} h (loop_of_process {p = p} m) =
      con_all loop_waits (placed inside [] m.process.body) (marks, x) (con_all (λ p. list_all loop_waits (placed inside [] p.body)) d.procs m.process h.0 (con_got d.procs p m.process m.is))
      (place.stands_placed d.tasks inside given [] marks m.process.body x m.stands)
  waits_there {marks = marks} {x = x} h (loop_of_function {g = g} c s) =
      con_all loop_waits (placed no_tasks [] g.body) (marks, x) (con_all (λ g. list_all loop_waits (placed no_tasks [] g.body)) d.funcs g h.1 c) (place.stands_placed [] no_tasks none_inside [] marks g.body x s)

  pub no_body_walk : {marks : List ℕ} {x body : Statement} → LoopsWait → LoopAt d marks x → body_of x ≡ Some body → HasWalk d marks body → ⊥
  no_body_walk {marks = marks} {x = x} {body = body} h l b w = no_walk marks body (subst (λ o. body_waits marks o ≡ true) b (waits_there h l)) w

  abbrev pub always_waits : FlatProc → Bool
  always_waits p = not p.always || waits [] p.body

  pub none_spins : LoopsWait → list_all always_waits d.procs ≡ true → (at : Place) → SpinsAt d at → ⊥
  none_spins h k _ (rules.loop_spins l b n w) = no_body_walk h l b w
  none_spins h k _ (rules.always_spins {process = q} c a w) = go (one_of (not q.always) (waits [] q.body) (con_all always_waits d.procs q k c))
    where
      go : (not q.always ≡ true) ⊎ (waits [] q.body ≡ true) → ⊥
      go (inl e) = clash q.always a (not_so q.always e)
      go (inr e) = no_walk [] q.body e w

  pub none_turns : LoopsWait → (at : Place) → TurnsTooOften d at → ⊥
  none_turns h _ (rules.too_many l b t m w) = no_body_walk h l b w
  none_turns h _ (rules.without_end l b e w) = no_body_walk h l b w
