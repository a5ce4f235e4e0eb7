-- What processes have in place is what stands in their texts and in those of the tasks that they reach.
use Rattle.std.proofs.Common.{◌≡◌, ◌⊎◌, inl, inr, ℕ, ◌<◌, true, false, List, [], Some, None, length, slice_get, refl, sym, ap, subst, arith}
use Rattle.std.specs.Prelude.{Contains, flat_map, nat_lt}
use Rattle.std.proofs.lemmas.Bool.{ltb-true, lt-ltb}
use Rattle.std.proofs.lemmas.List.{length-map}
use Rattle.std.proofs.lemmas.List.Elements.{Contains-append_left, Contains-append_right, Contains-append_cases}
use Rattle.std.proofs.lemmas.Option.{slice_get_within, get_or_from_slice_get}
use Rattle.xt_base.specs.declared.refusals.Place.{Place}
use Rattle.xt_graph.specs.Graph as graph
use Rattle.xt_graph.specs.Graph.{row, Points, IsReached}
use Rattle.el_design.specs.Plain.{Expr, Lvalue, Statement, Null, Skip, Seq, Block, Assign, If, Case, Arm, For, While, Repeat, Forever, Wait, Enable, Disable, Host, FlatTask, Flat}
use Rattle.el_design.specs.InPlace.{InPlace, in_text, in_body}
use Rattle.el_design.specs.Texts.{texts}
use Rattle.el_design.proofs.OrderLists.{con_nil}
use Rattle.el_design.proofs.OrderPlaces.{con_flat, got_below, got_one}
use Rattle.ck_call.specs.declared.lines.Line.{Line}
use Rattle.ck_call.specs.inner.Lines.{form_of, line_of, lines}
use Rattle.ck_call.specs.inner.Texts.{texts_of}
use Rattle.ck_call.specs.inner.Routines.{form_targets, text_enables, enable_rows}
use Rattle.ck_call.specs.inner.Placed.{IsReach, text_at, placed}
use Rattle.ck_call.proofs.Members.{un_flat}
use Rattle.ck_call.proofs.LinesAre.{is_real, has_line, line_is}
use Rattle.ck_call.proofs.Recursions.{only_then, then_is, mapped_got}

module _ (d : Flat) where
  abbrev pub tasks : ℕ
  tasks = length (texts_of d).tasks

  abbrev pub rows : List (List ℕ)
  rows = enable_rows (texts_of d)

  tasks_are : tasks ≡ length d.tasks
  tasks_are = length-map d.tasks (λ t. lines t.body)

  rows_are : length rows ≡ tasks
  rows_are = length-map (texts_of d).tasks (text_enables tasks)

  -- ---- enables

  pub enable_listed : (s : Statement) (at : Place) (t : ℕ) (ins : List Expr) (outs : List Lvalue) (task : FlatTask) → Contains (texts s) (Enable at t ins outs) → slice_get d.tasks t ≡ Some task → Contains (text_enables tasks (lines s)) t
  enable_listed s at t ins outs task c e =
      let l : t < tasks = (let k = slice_get_within d.tasks t task e in let h : tasks ≡ length d.tasks = tasks_are in omega (arith, k)) in
      con_flat (λ l. form_targets tasks l.form) (lines s) (line_of (Enable at t ins outs)) t (has_line s (Enable at t ins outs) refl c) (then_is (nat_lt t tasks) t (lt-ltb t tasks l))

  record Enables (x : Statement) (n : ℕ) : Type 0 where
    at : Place
    ins : List Expr
    outs : List Lvalue
    task : FlatTask
    is : x ≡ Enable at n ins outs
    task_is : slice_get d.tasks n ≡ Some task

  enables_one : (x : Statement) (n : ℕ) → Contains (form_targets tasks (form_of x)) n → Enables x n
  enables_one (Enable at t ins outs) n c =
      let o = only_then (nat_lt t tasks) t n c in
      let g = got_below d.tasks t (let l = ltb-true t tasks o.0 in let h : tasks ≡ length d.tasks = tasks_are in omega (arith, l)) in
      record { at = at; ins = ins; outs = outs; task = g.0; is = ap (λ k. Enable at k ins outs) o.1; task_is = subst (λ k. slice_get d.tasks k ≡ Some g.0) o.1 g.1 }
  enables_one Null n c = absurd (con_nil n c)
  enables_one Skip n c = absurd (con_nil n c)
  enables_one (Seq a b) n c = absurd (con_nil n c)
  enables_one (Block at None body) n c = absurd (con_nil n c)
  enables_one (Block at (Some m) body) n c = absurd (con_nil n c)
  enables_one (Assign at to v true) n c = absurd (con_nil n c)
  enables_one (Assign at to v false) n c = absurd (con_nil n c)
  enables_one (If at test a b) n c = absurd (con_nil n c)
  enables_one (Case at on arms) n c = absurd (con_nil n c)
  enables_one (Arm on labels body others) n c = absurd (con_nil n c)
  enables_one (For at v first test next body) n c = absurd (con_nil n c)
  enables_one (While at test body) n c = absurd (con_nil n c)
  enables_one (Repeat at count body) n c = absurd (con_nil n c)
  enables_one (Forever at body) n c = absurd (con_nil n c)
  enables_one (Wait at falling) n c = absurd (con_nil n c)
  enables_one (Disable at m) n c = absurd (con_nil n c)
  enables_one (Host at f ins result outs) n c = absurd (con_nil n c)

  -- an enable in a text, of a task that there is
  record EnablesIn (s : Statement) (n : ℕ) : Type 0 where
    at : Place
    ins : List Expr
    outs : List Lvalue
    task : FlatTask
    there : Contains (texts s) (Enable at n ins outs)
    task_is : slice_get d.tasks n ≡ Some task

  listed_enable : (s : Statement) (n : ℕ) → Contains (text_enables tasks (lines s)) n → EnablesIn s n
  listed_enable s n c =
      let a = un_flat (λ l. form_targets tasks l.form) (lines s) n c in
      let l = line_is s a.0 a.1 in
      let e = enables_one l.statement n (subst (λ k. Contains (form_targets tasks k.form) n) (sym l.is) a.2) in
      record { at = e.at; ins = e.ins; outs = e.outs; task = e.task; there = subst (Contains (texts s)) e.is l.there; task_is = e.task_is }

  row_got : (t : ℕ) (task : FlatTask) → slice_get d.tasks t ≡ Some task → slice_get rows t ≡ Some (text_enables tasks (lines task.body))
  row_got t task e = mapped_got (text_enables tasks) (texts_of d).tasks t (lines task.body) (mapped_got (λ k. lines k.body) d.tasks t task e)

  row_is : (t : ℕ) (task : FlatTask) → slice_get d.tasks t ≡ Some task → row rows t ≡ text_enables tasks (lines task.body)
  row_is t task e = get_or_from_slice_get rows t (text_enables tasks (lines task.body)) [] (row_got t task e)

  below : (t : ℕ) (task : FlatTask) → slice_get d.tasks t ≡ Some task → t < length rows
  below t task e = slice_get_within rows t (text_enables tasks (lines task.body)) (row_got t task e)

  -- ---- reach

  -- a statement of a task that a text reaches
  pub record ReachedIn (s x : Statement) : Type 0 where
    pub number : ℕ
    pub task : FlatTask
    pub task_is : slice_get d.tasks number ≡ Some task
    pub reached : IsReached rows (text_enables tasks (lines s)) number
    pub there : Contains (texts task.body) x

  from_place : {x : Statement} (s : Statement) → InPlace d.tasks x s → Contains (texts s) x ⊎ ReachedIn s x
  from_place s (in_text c) = inl c
  from_place {x = x} s (in_body {at = at} {t = t} {ins = ins} {outs = outs} {task = task} c e h) = inr (go (from_place task.body h))
    where
      listed : Contains (text_enables tasks (lines s)) t
      listed = enable_listed s at t ins outs task c e

      go : Contains (texts task.body) x ⊎ ReachedIn task.body x → ReachedIn s x
      go (inl k) = record { number = t; task = task; task_is = e; reached = record { first = t; listed = listed; leads = graph.there }; there = k }
      go (inr r) =
          let f = listed_enable task.body r.reached.first r.reached.listed in
          let p : Points rows t r.reached.first = record { listed = subst (λ l. Contains l r.reached.first) (sym (row_is t task e)) r.reached.listed; node = below r.reached.first f.task f.task_is } in
          record { number = r.number; task = r.task; task_is = r.task_is; reached = record { first = t; listed = listed; leads = graph.onward p r.reached.leads }; there = r.there }

  to_place : {n m : ℕ} {x : Statement} (s : Statement) (task : FlatTask) → Contains (text_enables tasks (lines s)) n → graph.Leads (Points rows) n m → slice_get d.tasks m ≡ Some task → Contains (texts task.body) x → InPlace d.tasks x s
  to_place {n = n} {x = x} s task c graph.there e k =
      let f = listed_enable s n c in
      in_body f.there f.task_is (subst (λ t. InPlace d.tasks x t.body) (got_one (slice_get d.tasks n) task f.task e f.task_is) (in_text k))
  to_place {n = n} s task c (graph.onward {b = b} p more) e k =
      let f = listed_enable s n c in
      in_body f.there f.task_is (to_place f.task.body task (subst (λ l. Contains l b) (row_is n f.task f.task_is) p.listed) more e k)

  -- ---- lines

  text_is : (n : ℕ) (task : FlatTask) → slice_get d.tasks n ≡ Some task → text_at (texts_of d).tasks n ≡ lines task.body
  text_is n task e = get_or_from_slice_get (texts_of d).tasks n (lines task.body) [] (mapped_got (λ k. lines k.body) d.tasks n task e)

  pub placed_line : (s x : Statement) (reach : List ℕ) → IsReach rows (text_enables tasks (lines s)) reach → InPlace d.tasks x s → is_real x ≡ true → Contains (placed (texts_of d).tasks reach (lines s)) (line_of x)
  placed_line s x reach h i r = go (from_place s i)
    where
      go : Contains (texts s) x ⊎ ReachedIn s x → Contains (placed (texts_of d).tasks reach (lines s)) (line_of x)
      go (inl c) = Contains-append_left (lines s) (flat_map (text_at (texts_of d).tasks) reach) (line_of x) (has_line s x r c)
      go (inr k) =
          Contains-append_right (lines s) (flat_map (text_at (texts_of d).tasks) reach) (line_of x)
          (con_flat (text_at (texts_of d).tasks) reach k.number (line_of x) ((h k.number).1 (below k.number k.task k.task_is, k.reached))
          (subst (λ l. Contains l (line_of x)) (sym (text_is k.number k.task k.task_is)) (has_line k.task.body x r k.there)))

  -- a statement in place that a line stands for
  pub record PlacedLine (s : Statement) (l : Line) : Type 0 where
    pub statement : Statement
    pub there : InPlace d.tasks statement s
    pub real : is_real statement ≡ true
    pub is : line_of statement ≡ l

  pub line_placed : (s : Statement) (reach : List ℕ) (l : Line) → IsReach rows (text_enables tasks (lines s)) reach → Contains (placed (texts_of d).tasks reach (lines s)) l → PlacedLine s l
  line_placed s reach l h c = go (Contains-append_cases (lines s) (flat_map (text_at (texts_of d).tasks) reach) l c)
    where
      go : Contains (lines s) l ⊎ Contains (flat_map (text_at (texts_of d).tasks) reach) l → PlacedLine s l
      go (inl k) = let i = line_is s l k in record { statement = i.statement; there = in_text i.there; real = i.real; is = i.is }
      go (inr k) =
          let a = un_flat (text_at (texts_of d).tasks) reach l k in
          let b = (h a.0).0 a.1 in
          let g = got_below d.tasks a.0 (let m = b.0 in let i : tasks ≡ length d.tasks = tasks_are in let j : length rows ≡ tasks = rows_are in omega (arith, m, i, j)) in
          let i = line_is g.0.body l (subst (λ t. Contains t l) (text_is a.0 g.0 g.1) a.2) in
          record { statement = i.statement; there = to_place s g.0 b.1.listed b.1.leads g.1 i.there; real = i.real; is = i.is }
