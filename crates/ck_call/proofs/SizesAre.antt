-- A measure's size is the size in place, up to the limit: a body's own size with those of what it enables and calls.
use Rattle.std.proofs.Common.{◌≡◌, inl, inr, ℕ, zero, suc, ◌+◌, ◌-◌, ◌*◌, ◌<◌, ◌≤◌, min, ◌&&◌, Bool, true, false, if◌then◌else◌, List, [], ◌∷◌, ◌++◌, map, Option, Some, None, length, slice_get, refl, sym, ◌∙◌, ap, ap₂, subst, arith}
use Rattle.std.specs.Prelude.{Contains, flat_map, nat_lt}
use Rattle.std.specs.List.{sum_by}
use Rattle.std.proofs.lemmas.Bool.{lt-ltb}
use Rattle.std.proofs.lemmas.List.{length-map}
use Rattle.std.proofs.lemmas.List.Sums.{sum_by-cons}
use Rattle.std.proofs.lemmas.Grind.{flat_map-append}
use Rattle.std.proofs.lemmas.List.Elements.{Contains-append_left, Contains-append_right, All-contains}
use Rattle.std.proofs.lemmas.Option.{slice_get_past, slice_get_within, get_or_from_slice_get}
use Rattle.xt_graph.specs.Graph.{Points, IsOrder}
use Rattle.el_design.specs.Plain as plain
use Rattle.el_design.specs.Plain.{Expr, Exprs, Range, Bit, Part, Up, Down, Lvalue, ToVariable, ToPart, ToWord, ToWordPart, Both, Nowhere, Statement, Null, Skip, Seq, Block, Assign, If, Case, Arm, For, While, Repeat, Forever, Wait, Enable, Disable, Host, FlatTask, FlatFunc, FlatProc, Flat}
use Rattle.el_design.specs.Names.{nodes_of, range_indexes, own_targets}
use Rattle.el_design.specs.Texts.{texts}
use Rattle.el_design.specs.View.{exprs_of, parts_of}
use Rattle.el_design.specs.Calls as calls
use Rattle.el_design.specs.Calls.{Routine, TaskOf, FunctionOf, BodyIs}
use Rattle.el_design.specs.Rules.{IsFinite}
use Rattle.el_design.specs.Sound as sounds
use Rattle.el_design.specs.Sound.{IsSound, IsStatement, IsTarget, IsParts, IsOutput, arms_fit, bodies_of}
use Rattle.el_design.specs.Sizes.{node_size, expr_size, exprs_size, target_size, parts_size, targets_size, Counting, size_of, function_size, task_size, counting, in_place, once}
use Rattle.el_design.proofs.OrderLists.{con_head, con_tail}
use Rattle.el_design.proofs.OrderPlaces.{con_got, got_con, con_map, got_left}
use Rattle.el_design.proofs.Texts.{holds_is}
use Rattle.el_design.proofs.WaysPuts.{left_of, right_of}
use Rattle.el_design.proofs.SizeBodies as law
use Rattle.ck_call.specs.declared.nodes.Node.{Node}
use Rattle.ck_call.specs.declared.lines.Line.{Line}
use Rattle.ck_call.specs.declared.measures.Measure.{Measure}
use Rattle.ck_call.specs.inner.Nodes.{node_of, named, named_all, named_range, indexes_named, labels_named}
use Rattle.ck_call.specs.inner.Weights.{capped, node_weight, nodes_weight, target_weight, parts_weight, own_weight}
use Rattle.ck_call.specs.inner.Lines.{line_of, lines}
use Rattle.ck_call.specs.inner.Texts.{texts_of}
use Rattle.ck_call.specs.inner.Routines.{node_targets, line_targets, text_targets}
use Rattle.ck_call.specs.inner.Measures.{measure_at, sizes, lines_weight, text_weight, routine_weights, measures, text_measure}
use Rattle.ck_call.proofs.Lists.{nil_end}
use Rattle.ck_call.proofs.LinesAre.{named_is}
use Rattle.ck_call.proofs.Recursions.{tasks, funcs, rows, number, row_is, has_row, target_text, mapped_got, got_right}
use Rattle.ck_call.proofs.Tables.{all_measured}

weight_append : (xs ys : List Node) → nodes_weight (xs ++ ys) ≡ nodes_weight xs + nodes_weight ys
weight_append [] ys = omega arith
weight_append (x ∷ xs) ys = let h = weight_append xs ys in omega (arith, h)

-- ---- where counting doesn't go by the marks

module _ (c : Counting) (tasks_alike : (marks others : List ℕ) (t : ℕ) → c.tasks marks t ≡ c.tasks others t) (times_once : (marks : List ℕ) (s : Statement) → c.times marks s ≡ 1) where
  times_alike : (marks others : List ℕ) (s : Statement) → c.times marks s ≡ c.times others s
  times_alike marks others s = times_once marks s ∙ sym (times_once others s)

  size_alike : (marks others : List ℕ) (s : Statement) → size_of c marks s ≡ size_of c others s
  size_alike marks others Null = refl
  size_alike marks others Skip = refl
  size_alike marks others (Seq a b) = ap₂ (λ x y. x + y) (size_alike marks others a) (size_alike marks others b)
  size_alike marks others (Block at None body) = ap (λ x. 1 + x) (size_alike marks others body)
  size_alike marks others (Block at (Some m) body) = ap (λ x. 1 + x) (size_alike (m ∷ marks) (m ∷ others) body)
  size_alike marks others (Assign at to e held) = refl
  size_alike marks others (If at test a b) = ap₂ (λ x y. 1 + expr_size c.calls test + x + y) (size_alike marks others a) (size_alike marks others b)
  size_alike marks others (Case at on arms) = ap (λ x. 1 + expr_size c.calls on + x) (size_alike marks others arms)
  size_alike marks others (Arm on labels body more) = ap₂ (λ x y. exprs_size c.calls labels + x + y) (size_alike marks others body) (size_alike marks others more)
  size_alike marks others (For at v first test next body) =
      ap₂ (λ x y. x * (3 + exprs_size c.calls (first ∷ test ∷ next ∷ []) + y)) (times_alike marks others (For at v first test next body)) (size_alike marks others body)
  size_alike marks others (While at test body) = ap₂ (λ x y. x * (1 + expr_size c.calls test + y)) (times_alike marks others (While at test body)) (size_alike marks others body)
  size_alike marks others (Repeat at count body) = ap₂ (λ x y. x * (2 + expr_size c.calls count + y)) (times_alike marks others (Repeat at count body)) (size_alike marks others body)
  size_alike marks others (Forever at body) = ap (λ x. 1 + x) (size_alike marks others body)
  size_alike marks others (Wait at falling) = refl
  size_alike marks others (Enable at t ins outs) = ap (λ x. 2 + exprs_size c.calls ins + targets_size c.calls outs + x) (tasks_alike marks others t)
  size_alike marks others (Disable at m) = refl
  size_alike marks others (Host at f ins result outs) = refl

module _ (d : Flat) where
  times_are : (n : ℕ) (marks : List ℕ) (s : Statement) → (counting d once n).times marks s ≡ 1
  times_are zero marks s = refl
  times_are (suc n) marks s = refl

  tasks_alike : (n : ℕ) (marks others : List ℕ) (t : ℕ) → (counting d once n).tasks marks t ≡ (counting d once n).tasks others t
  tasks_alike zero marks others t = refl
  tasks_alike (suc n) marks others t = go (slice_get d.tasks t) (tasks_alike n)
    where
      go : (o : Option FlatTask) → ((marks others : List ℕ) (t : ℕ) → (counting d once n).tasks marks t ≡ (counting d once n).tasks others t) → task_size (counting d once n) marks o ≡ task_size (counting d once n) others o
      go None h = refl
      go (Some task) h = size_alike (counting d once n) h (times_are n) (task.mark ∷ marks) (task.mark ∷ others) task.body

  calls_none : (n f : ℕ) → length d.funcs ≤ f → (counting d once n).calls f ≡ 0
  calls_none zero f h = refl
  calls_none (suc n) f h = ap (function_size (counting d once n)) (slice_get_past d.funcs f h)

  tasks_none : (n t : ℕ) (marks : List ℕ) → length d.tasks ≤ t → (counting d once n).tasks marks t ≡ 0
  tasks_none zero t marks h = refl
  tasks_none (suc n) t marks h = ap (task_size (counting d once n) marks) (slice_get_past d.tasks t h)

  -- the size of a routine in place, by its number
  abbrev pub real : ℕ → ℕ
  real n = if nat_lt n (tasks d) then (in_place d once).tasks [] n else (in_place d once).calls (n - tasks d)

  abbrev total : List ℕ → ℕ
  total [] = 0
  total (r ∷ rs) = real r + total rs

  total_append : (xs ys : List ℕ) → total (xs ++ ys) ≡ total xs + total ys
  total_append [] ys = omega arith
  total_append (x ∷ xs) ys = let h = total_append xs ys in omega (arith, h)

  tasks_are : tasks d ≡ length d.tasks
  tasks_are = length-map d.tasks (λ t. lines t.body)

  funcs_are : funcs d ≡ length d.funcs
  funcs_are = length-map d.funcs (λ f. lines f.body)

  function_total : (f : ℕ) → total (if nat_lt f (funcs d) then (tasks d + f) ∷ [] else []) ≡ (in_place d once).calls f
  function_total f = go (nat_lt f (funcs d)) refl
    where
      go : (b : Bool) → nat_lt f (funcs d) ≡ b → total (if nat_lt f (funcs d) then (tasks d + f) ∷ [] else []) ≡ (in_place d once).calls f
      go true e =
          let h : nat_lt (tasks d + f) (tasks d) ≡ false = grind arith in
          let j : (tasks d + f) - tasks d ≡ f = omega arith in
          let i : real (tasks d + f) ≡ (in_place d once).calls f = rw (h, j) refl in
          rw e (let w : real (tasks d + f) + 0 ≡ (in_place d once).calls f = omega (arith, i) in w)
      go false e =
          let h : length d.funcs ≤ f = (let j : funcs d ≡ length d.funcs = funcs_are in grind (arith, e, j)) in
          rw e (sym (calls_none (length d.tasks + length d.funcs) f h))

  task_total : (t : ℕ) (marks : List ℕ) → total (if nat_lt t (tasks d) then t ∷ [] else []) ≡ (in_place d once).tasks marks t
  task_total t marks = go (nat_lt t (tasks d)) refl
    where
      go : (b : Bool) → nat_lt t (tasks d) ≡ b → total (if nat_lt t (tasks d) then t ∷ [] else []) ≡ (in_place d once).tasks marks t
      go true e =
          let i : real t ≡ (in_place d once).tasks marks t = rw e (tasks_alike (length d.tasks + length d.funcs) [] marks t) in
          rw e (let w : real t + 0 ≡ (in_place d once).tasks marks t = omega (arith, i) in w)
      go false e =
          let h : length d.tasks ≤ t = (let j : tasks d ≡ length d.tasks = tasks_are in grind (arith, e, j)) in
          rw e (sym (tasks_none (length d.tasks + length d.funcs) t marks h))

  -- ---- nodes

  -- nodes with the bodies of the functions that they call
  abbrev ntotal : List Node → ℕ
  ntotal ns = nodes_weight ns + total (flat_map (node_targets (tasks d) (funcs d)) ns)

  ntotal_append : (xs ys : List Node) → ntotal (xs ++ ys) ≡ ntotal xs + ntotal ys
  ntotal_append xs ys =
      let h = weight_append xs ys in
      let j = ap total (flat_map-append (node_targets (tasks d) (funcs d)) xs ys) ∙ total_append (flat_map (node_targets (tasks d) (funcs d)) xs) (flat_map (node_targets (tasks d) (funcs d)) ys) in
      omega (arith, h, j)

  node_total : (e : Expr) → node_size (in_place d once).calls e ≡ node_weight (node_of e) + total (node_targets (tasks d) (funcs d) (node_of e))
  node_total (plain.Call s f es) = ap (λ x. 1 + x) (sym (function_total f))
  node_total (plain.Number s b) = refl
  node_total (plain.NetValue s n) = refl
  node_total (plain.Variable s v) = refl
  node_total (plain.MemoryWord s v i) = refl
  node_total (plain.Select s x r lsb) = refl
  node_total (plain.Unary s op x) = refl
  node_total (plain.Binary s op a b) = refl
  node_total (plain.Choice s t a b) = refl
  node_total (plain.Concat s es) = refl
  node_total (plain.Copies s n x) = refl
  node_total (plain.Sign s x) = refl
  node_total (plain.Resize s x) = refl

  nodes_total : (es : List Expr) → sum_by (node_size (in_place d once).calls) es ≡ ntotal (map node_of es)
  nodes_total [] = refl
  nodes_total (e ∷ es) =
      let h = sum_by-cons (node_size (in_place d once).calls) e es in
      let i = node_total e in
      let j = nodes_total es in
      let m = total_append (node_targets (tasks d) (funcs d) (node_of e)) (flat_map (node_targets (tasks d) (funcs d)) (map node_of es)) in
      h ∙ omega (arith, i, j, m)

  expr_total : (e : Expr) → expr_size (in_place d once).calls e ≡ ntotal (named e)
  expr_total e = nodes_total (nodes_of e) ∙ ap ntotal (sym (named_is e))

  exprs_total : (es : List Expr) → exprs_size (in_place d once).calls es ≡ ntotal (named_all (exprs_of es))
  exprs_total [] = refl
  exprs_total (e ∷ es) =
      sum_by-cons (λ n. n) (expr_size (in_place d once).calls e) (map (expr_size (in_place d once).calls) es)
      ∙ ap₂ (λ x y. x + y) (expr_total e) (exprs_total es) ∙ sym (ntotal_append (named e) (named_all (exprs_of es)))

  one_total : (e : Expr) → exprs_size (in_place d once).calls (e ∷ []) ≡ ntotal (named e)
  one_total e = exprs_total (e ∷ []) ∙ ap ntotal (nil_end (named e))

  range_total : (r : Range) → exprs_size (in_place d once).calls (range_indexes r) ≡ ntotal (named_range r)
  range_total (Bit e) = one_total e
  range_total (Part high low) = refl
  range_total (Up e w) = one_total e
  range_total (Down e w) = one_total e

  -- ---- targets

  mutual
    target_total : {t : Lvalue} {w : ℕ} → IsTarget d t w → target_size (in_place d once).calls t ≡ target_weight t + ntotal (indexes_named t)
    target_total (sounds.variable h) = refl
    target_total (sounds.part w {r = r} h i) = let j = range_total r in omega (arith, j)
    target_total (sounds.word {i = i} h) = let j = expr_total i in omega (arith, j)
    target_total (sounds.word_part w {i = i} {r = r} h k) = let j = expr_total i in let m = range_total r in let n = ntotal_append (named i) (named_range r) in omega (arith, j, m, n)
    target_total (sounds.parts {t = t} {more = more} h i) = let j = target_total h in let m = parts_total i in let n = ntotal_append (indexes_named t) (indexes_named more) in omega (arith, j, m, n)

    parts_total : {t : Lvalue} {w : ℕ} → IsParts d t w → parts_size (in_place d once).calls t ≡ parts_weight t + ntotal (indexes_named t)
    parts_total sounds.no_part = refl
    parts_total (sounds.more_parts {t = t} {more = more} h i) = let j = target_total h in let m = parts_total i in let n = ntotal_append (indexes_named t) (indexes_named more) in omega (arith, j, m, n)

  output_total : (t : Lvalue) → IsOutput d t → target_size (in_place d once).calls t ≡ target_weight t + ntotal (indexes_named t)
  output_total t (inr h) = target_total h.1
  output_total Nowhere (inl e) = refl
  output_total (ToVariable v) (inl e) = cc
  output_total (ToPart v r) (inl e) = cc
  output_total (ToWord v i) (inl e) = cc
  output_total (ToWordPart v i r) (inl e) = cc
  output_total (Both a b) (inl e) = cc

  outputs_total : (ts : List Lvalue) → ((t : Lvalue) → Contains ts t → IsOutput d t) → targets_size (in_place d once).calls ts ≡ parts_weight (parts_of ts) + ntotal (indexes_named (parts_of ts))
  outputs_total [] h = refl
  outputs_total (t ∷ ts) h =
      let i = sum_by-cons (λ n. n) (target_size (in_place d once).calls t) (map (target_size (in_place d once).calls) ts) in
      let j = output_total t (h t (con_head t ts)) in
      let m = outputs_total ts (λ u c. h u (con_tail t u ts c)) in
      let n = ntotal_append (indexes_named t) (indexes_named (parts_of ts)) in
      i ∙ omega (arith, j, m, n)

  -- ---- statements

  abbrev own_total : Statement → ℕ
  own_total x = own_weight x + total (line_targets (tasks d) (funcs d) (line_of x))

  abbrev stmt_total : Statement → ℕ
  stmt_total Skip = 0
  stmt_total (Seq a b) = stmt_total a + stmt_total b
  stmt_total (Arm on labels body others) = stmt_total body + stmt_total others
  stmt_total (Block at mark body) = own_total (Block at mark body) + stmt_total body
  stmt_total (If at test a b) = own_total (If at test a b) + (stmt_total a + stmt_total b)
  stmt_total (Case at on arms) = own_total (Case at on arms) + stmt_total arms
  stmt_total (For at v first test next body) = own_total (For at v first test next body) + stmt_total body
  stmt_total (While at test body) = own_total (While at test body) + stmt_total body
  stmt_total (Repeat at count body) = own_total (Repeat at count body) + stmt_total body
  stmt_total (Forever at body) = own_total (Forever at body) + stmt_total body
  stmt_total x = own_total x

  no_labels : (s : Statement) → arms_fit false s ≡ true → labels_named s ≡ []
  no_labels (Arm on labels body others) e = cc
  no_labels Null e = refl
  no_labels Skip e = refl
  no_labels (Seq a b) e = refl
  no_labels (Block at mark body) e = refl
  no_labels (Assign at to v held) e = refl
  no_labels (If at test a b) e = refl
  no_labels (Case at on arms) e = refl
  no_labels (For at v first test next body) e = refl
  no_labels (While at test body) e = refl
  no_labels (Repeat at count body) e = refl
  no_labels (Forever at body) e = refl
  no_labels (Wait at falling) e = refl
  no_labels (Enable at t ins outs) e = refl
  no_labels (Disable at m) e = refl
  no_labels (Host at f ins result outs) e = refl

  abbrev Fit : Statement → Type 0
  Fit s = (x : Statement) → Contains (texts s) x → IsStatement d x

  zero_labels : (s : Statement) → arms_fit false s ≡ true → (n x : ℕ) → n ≡ ntotal (labels_named s) + x → n ≡ x
  zero_labels s e n x h = let i : ntotal (labels_named s) ≡ 0 = ap ntotal (no_labels s e) in omega (arith, h, i)

  fit_one : (s body : Statement) → ((x : Statement) → Contains (s ∷ texts body) x → IsStatement d x) → Fit body
  fit_one s body f x c = f x (con_tail s x (texts body) c)

  fit_first : (s a b : Statement) → ((x : Statement) → Contains (s ∷ texts a ++ texts b) x → IsStatement d x) → Fit a
  fit_first s a b f x c = f x (con_tail s x (texts a ++ texts b) (Contains-append_left (texts a) (texts b) x c))

  fit_second : (s a b : Statement) → ((x : Statement) → Contains (s ∷ texts a ++ texts b) x → IsStatement d x) → Fit b
  fit_second s a b f x c = f x (con_tail s x (texts a ++ texts b) (Contains-append_right (texts a) (texts b) x c))

  fit_outs : (x : Statement) (ts : List Lvalue) → IsStatement d x → ((t : Lvalue) → Contains ts t → Contains (own_targets x) t) → (t : Lvalue) → Contains ts t → IsOutput d t
  fit_outs x ts h f t c = All-contains (IsOutput d) (own_targets x) t h.outputs (f t c)

  sizes_split : (marks : List ℕ) (inner : Bool) (s : Statement) → arms_fit inner s ≡ true → Fit s → size_of (in_place d once) marks s ≡ ntotal (labels_named s) + stmt_total s
  sizes_split marks inner Null e f = refl
  sizes_split marks inner Skip e f = refl
  sizes_split marks inner (Seq a b) e f =
      let i = zero_labels a (left_of (arms_fit false a) (arms_fit false b) e) _ _ (sizes_split marks false a (left_of (arms_fit false a) (arms_fit false b) e) (fit_first (Seq a b) a b f)) in
      let j = zero_labels b (right_of (arms_fit false a) (arms_fit false b) e) _ _ (sizes_split marks false b (right_of (arms_fit false a) (arms_fit false b) e) (fit_second (Seq a b) a b f)) in
      omega (arith, i, j)
  sizes_split marks inner (Block at None body) e f = let i = zero_labels body e _ _ (sizes_split marks false body e (fit_one (Block at None body) body f)) in omega (arith, i)
  sizes_split marks inner (Block at (Some m) body) e f = let i = zero_labels body e _ _ (sizes_split (m ∷ marks) false body e (fit_one (Block at (Some m) body) body f)) in omega (arith, i)
  sizes_split marks inner (Assign at to v true) e f =
      let i = output_total to (All-contains (IsOutput d) (to ∷ []) to (f (Assign at to v true) (con_head (Assign at to v true) [])).outputs (con_head to [])) in
      let j = expr_total v in let m = ntotal_append (indexes_named to) (named v) in omega (arith, i, j, m)
  sizes_split marks inner (Assign at to v false) e f =
      let i = output_total to (All-contains (IsOutput d) (to ∷ []) to (f (Assign at to v false) (con_head (Assign at to v false) [])).outputs (con_head to [])) in
      let j = expr_total v in let m = ntotal_append (indexes_named to) (named v) in omega (arith, i, j, m)
  sizes_split marks inner (If at test a b) e f =
      let i = zero_labels a (left_of (arms_fit false a) (arms_fit false b) e) _ _ (sizes_split marks false a (left_of (arms_fit false a) (arms_fit false b) e) (fit_first (If at test a b) a b f)) in
      let j = zero_labels b (right_of (arms_fit false a) (arms_fit false b) e) _ _ (sizes_split marks false b (right_of (arms_fit false a) (arms_fit false b) e) (fit_second (If at test a b) a b f)) in
      let m = expr_total test in
      omega (arith, i, j, m)
  sizes_split marks inner (Case at on arms) e f =
      let i = sizes_split marks true arms e (fit_one (Case at on arms) arms f) in
      let j = expr_total on in
      let m = ntotal_append (named on) (labels_named arms) in
      omega (arith, i, j, m)
  sizes_split marks inner (Arm on labels body others) e f =
      let a = right_of inner (arms_fit false body) (left_of (inner && arms_fit false body) (arms_fit true others) e) in
      let i = zero_labels body a _ _ (sizes_split marks false body a (fit_first (Arm on labels body others) body others f)) in
      let j = sizes_split marks true others (right_of (inner && arms_fit false body) (arms_fit true others) e) (fit_second (Arm on labels body others) body others f) in
      let m = exprs_total labels in
      let n = ntotal_append (named_all (exprs_of labels)) (labels_named others) in
      omega (arith, i, j, m, n)
  sizes_split marks inner (For at v first test next body) e f =
      let i = zero_labels body e _ _ (sizes_split marks false body e (fit_one (For at v first test next body) body f)) in
      let j = exprs_total (first ∷ test ∷ next ∷ []) in
      let m = ntotal_append (named first) (named test ++ (named next ++ [])) in
      let n = ntotal_append (named test) (named next ++ []) in
      let p = ap ntotal (nil_end (named next)) in
      let q = ntotal_append (named first ++ named test) (named next) in
      let r = ntotal_append (named first) (named test) in
      ap (λ z. z * (3 + exprs_size (in_place d once).calls (first ∷ test ∷ next ∷ []) + size_of (in_place d once) marks body)) (times_are (length d.tasks + length d.funcs) marks (For at v first test next body))
      ∙ omega (arith, i, j, m, n, p, q, r)
  sizes_split marks inner (While at test body) e f =
      let i = zero_labels body e _ _ (sizes_split marks false body e (fit_one (While at test body) body f)) in
      let j = expr_total test in
      ap (λ z. z * (1 + expr_size (in_place d once).calls test + size_of (in_place d once) marks body)) (times_are (length d.tasks + length d.funcs) marks (While at test body)) ∙ omega (arith, i, j)
  sizes_split marks inner (Repeat at count body) e f =
      let i = zero_labels body e _ _ (sizes_split marks false body e (fit_one (Repeat at count body) body f)) in
      let j = expr_total count in
      ap (λ z. z * (2 + expr_size (in_place d once).calls count + size_of (in_place d once) marks body)) (times_are (length d.tasks + length d.funcs) marks (Repeat at count body)) ∙ omega (arith, i, j)
  sizes_split marks inner (Forever at body) e f = let i = zero_labels body e _ _ (sizes_split marks false body e (fit_one (Forever at body) body f)) in omega (arith, i)
  sizes_split marks inner (Wait at falling) e f = refl
  sizes_split marks inner (Enable at t ins outs) e f =
      let x = f (Enable at t ins outs) (con_head (Enable at t ins outs) []) in
      let i = exprs_total ins in
      let j = outputs_total outs (fit_outs (Enable at t ins outs) outs x (λ u c. c)) in
      let m = ntotal_append (named_all (exprs_of ins)) (indexes_named (parts_of outs)) in
      let n = task_total t marks in
      let p = total_append (if nat_lt t (tasks d) then t ∷ [] else []) (flat_map (node_targets (tasks d) (funcs d)) (named_all (exprs_of ins) ++ indexes_named (parts_of outs))) in
      omega (arith, i, j, m, n, p)
  sizes_split marks inner (Disable at m) e f = refl
  sizes_split marks inner (Host at g ins None outs) e f =
      let x = f (Host at g ins None outs) (con_head (Host at g ins None outs) []) in
      let i = exprs_total ins in
      let j = outputs_total outs (fit_outs (Host at g ins None outs) outs x (λ u c. c)) in
      let m = ntotal_append (named_all (exprs_of ins) ++ []) (indexes_named (parts_of outs)) in
      let n = ap ntotal (nil_end (named_all (exprs_of ins))) in
      omega (arith, i, j, m, n)
  sizes_split marks inner (Host at g ins (Some t) outs) e f =
      let x = f (Host at g ins (Some t) outs) (con_head (Host at g ins (Some t) outs) []) in
      let i = exprs_total ins in
      let j = outputs_total outs (fit_outs (Host at g ins (Some t) outs) outs x (λ u c. con_tail t u outs c)) in
      let m = ntotal_append (named_all (exprs_of ins) ++ indexes_named t) (indexes_named (parts_of outs)) in
      let n = ntotal_append (named_all (exprs_of ins)) (indexes_named t) in
      let p = output_total t (All-contains (IsOutput d) (t ∷ outs) t x.outputs (con_head t outs)) in
      let q = sum_by-cons (λ n. n) (target_size (in_place d once).calls t) [] in
      omega (arith, i, j, m, n, p, q)

  -- ---- lines

  abbrev lines_total : List Line → ℕ
  lines_total [] = 0
  lines_total (l ∷ ls) = (l.weight + total (line_targets (tasks d) (funcs d) l)) + lines_total ls

  lines_are : (ls : List Line) → lines_weight ls + total (text_targets (tasks d) (funcs d) ls) ≡ lines_total ls
  lines_are [] = refl
  lines_are (l ∷ ls) = let h = lines_are ls in let i = total_append (line_targets (tasks d) (funcs d) l) (text_targets (tasks d) (funcs d) ls) in omega (arith, h, i)

  lines_append : (xs ys : List Line) → lines_total (xs ++ ys) ≡ lines_total xs + lines_total ys
  lines_append [] ys = omega arith
  lines_append (x ∷ xs) ys = let h = lines_append xs ys in omega (arith, h)

  join_cap : (a b m n : ℕ) → capped a ≡ capped m → capped b ≡ capped n → capped (a + b) ≡ capped (m + n)
  join_cap a b m n h i = omega (arith, h, i)

  own_cap : (w t : ℕ) → capped (w + t) ≡ capped (capped w + t)
  own_cap w t = omega arith

  last_cap : (w t : ℕ) → capped (w + t) ≡ capped ((capped w + t) + 0)
  last_cap w t = omega arith

  leaf : (x : Statement) → capped (own_total x) ≡ capped (lines_total (line_of x ∷ []))
  leaf x = last_cap (own_weight x) (total (line_targets (tasks d) (funcs d) (line_of x)))

  over : (x : Statement) (n : ℕ) (ls : List Line) → capped n ≡ capped (lines_total ls) → capped (own_total x + n) ≡ capped (lines_total (line_of x ∷ ls))
  over x n ls h = join_cap (own_total x) n ((line_of x).weight + total (line_targets (tasks d) (funcs d) (line_of x))) (lines_total ls) (own_cap (own_weight x) (total (line_targets (tasks d) (funcs d) (line_of x)))) h

  beside : (m n : ℕ) (xs ys : List Line) → capped m ≡ capped (lines_total xs) → capped n ≡ capped (lines_total ys) → capped (m + n) ≡ capped (lines_total (xs ++ ys))
  beside m n xs ys h i = join_cap m n (lines_total xs) (lines_total ys) h i ∙ ap capped (sym (lines_append xs ys))

  caps : (s : Statement) → capped (stmt_total s) ≡ capped (lines_total (lines s))
  caps Skip = refl
  caps (Seq a b) = beside (stmt_total a) (stmt_total b) (lines a) (lines b) (caps a) (caps b)
  caps (Arm on labels body others) = beside (stmt_total body) (stmt_total others) (lines body) (lines others) (caps body) (caps others)
  caps (Block at mark body) = over (Block at mark body) (stmt_total body) (lines body) (caps body)
  caps (If at test a b) = over (If at test a b) (stmt_total a + stmt_total b) (lines a ++ lines b) (beside (stmt_total a) (stmt_total b) (lines a) (lines b) (caps a) (caps b))
  caps (Case at on arms) = over (Case at on arms) (stmt_total arms) (lines arms) (caps arms)
  caps (For at v first test next body) = over (For at v first test next body) (stmt_total body) (lines body) (caps body)
  caps (While at test body) = over (While at test body) (stmt_total body) (lines body) (caps body)
  caps (Repeat at count body) = over (Repeat at count body) (stmt_total body) (lines body) (caps body)
  caps (Forever at body) = over (Forever at body) (stmt_total body) (lines body) (caps body)
  caps Null = leaf Null
  caps (Assign at to v held) = leaf (Assign at to v held)
  caps (Wait at falling) = leaf (Wait at falling)
  caps (Enable at t ins outs) = leaf (Enable at t ins outs)
  caps (Disable at m) = leaf (Disable at m)
  caps (Host at g ins result outs) = leaf (Host at g ins result outs)

  grown : (table : List Measure) (w : ℕ) (rs : List ℕ) → ((r : ℕ) → Contains rs r → (measure_at table r).size ≡ capped (real r)) → capped (capped w + sizes table rs) ≡ capped (w + total rs)
  grown table w [] h = omega arith
  grown table w (r ∷ rs) h = one_more w (measure_at table r).size (sizes table rs) (real r) (total rs) (h r (con_head r rs)) (grown table w rs (λ q c. h q (con_tail r q rs c)))
    where
      one_more : (w m n a b : ℕ) → m ≡ capped a → capped (capped w + n) ≡ capped (w + b) → capped (capped w + (m + n)) ≡ capped (w + (a + b))
      one_more w m n a b h i = omega (arith, h, i)

  -- ---- routines and processes

  module _ (sound : IsSound d) (finite : IsFinite d) where
    routine_size : {a : Routine} {s : Statement} → BodyIs d a s → real (number d a) ≡ size_of (in_place d once) [] s
    routine_size (calls.task_body {t = t} {task = task} e) =
        let h : nat_lt t (tasks d) ≡ true = lt-ltb t (tasks d) (let l = slice_get_within d.tasks t task e in let i : tasks d ≡ length d.tasks = tasks_are in omega (arith, l, i)) in
        rw h (law.task_counts d sound finite once [] t task e ∙ size_alike (in_place d once) (tasks_alike (length d.tasks + length d.funcs)) (times_are (length d.tasks + length d.funcs)) (task.mark ∷ []) [] task.body)
    routine_size (calls.function_body {f = f} {g = g} e) =
        let h : nat_lt (tasks d + f) (tasks d) ≡ false = grind arith in
        let j : (tasks d + f) - tasks d ≡ f = omega arith in
        rw (h, j) (law.function_counts d sound finite once f g e)

    body_fits : (s : Statement) → Contains (bodies_of d) s → Fit s
    body_fits s c x k = sound.statements s x c ((holds_is s x).1 k)

    body_size : (s : Statement) → Contains (bodies_of d) s → capped (lines_weight (lines s) + total (text_targets (tasks d) (funcs d) (lines s))) ≡ capped (size_of (in_place d once) [] s)
    body_size s c =
        let e : arms_fit false s ≡ true = All-contains (λ s. arms_fit false s ≡ true) (bodies_of d) s sound.arms c in
        ap capped (lines_are (lines s)) ∙ sym (caps s) ∙ ap capped (sym (zero_labels s e _ _ (sizes_split [] false s e (body_fits s c))))

    has_body : {a : Routine} {s : Statement} → BodyIs d a s → Contains (bodies_of d) s
    has_body (calls.task_body {t = t} {task = task} e) =
        Contains-append_left (map (λ p. p.body) d.procs ++ map (λ t. t.body) d.tasks) (map (λ f. f.body) d.funcs) task.body
        (Contains-append_right (map (λ p. p.body) d.procs) (map (λ t. t.body) d.tasks) task.body (con_map (λ t. t.body) d.tasks task (con_got d.tasks t task e)))
    has_body (calls.function_body {f = f} {g = g} e) =
        Contains-append_right (map (λ p. p.body) d.procs ++ map (λ t. t.body) d.tasks) (map (λ f. f.body) d.funcs) g.body (con_map (λ f. f.body) d.funcs g (con_got d.funcs f g e))

    weight_got : {a : Routine} {s : Statement} → BodyIs d a s → slice_get (routine_weights (texts_of d)) (number d a) ≡ Some (text_weight (lines s))
    weight_got (calls.task_body {t = t} {task = task} e) =
        let g = mapped_got text_weight (texts_of d).tasks t (lines task.body) (mapped_got (λ k. lines k.body) d.tasks t task e) in
        got_left (map text_weight (texts_of d).tasks) (map text_weight (texts_of d).funcs) t (slice_get_within (map text_weight (texts_of d).tasks) t _ g) ∙ g
    weight_got (calls.function_body {f = f} {g = g} e) =
        subst (λ n. slice_get (routine_weights (texts_of d)) (n + f) ≡ Some (text_weight (lines g.body))) (length-map (texts_of d).tasks text_weight)
        (got_right (map text_weight (texts_of d).tasks) (map text_weight (texts_of d).funcs) f ∙ mapped_got text_weight (texts_of d).funcs f (lines g.body) (mapped_got (λ k. lines k.body) d.funcs f g e))

    module _ (order : List ℕ) (ordered : IsOrder (rows d) order) where
      abbrev table : List Measure
      table = measures (rows d) (routine_weights (texts_of d)) order

      -- what a routine's measure says, where those of its targets say so
      one_size : (a : Routine) (s : Statement) → BodyIs d a s → ((t : ℕ) → Contains (text_targets (tasks d) (funcs d) (lines s)) t → (measure_at table t).size ≡ capped (real t)) → (measure_at table (number d a)).size ≡ capped (real (number d a))
      one_size a s b h =
          ap (λ m. m.size) (all_measured (rows d) (routine_weights (texts_of d)) order ordered (number d a) (has_row d b))
          ∙ ap₂ (λ w r. capped (w + sizes table r)) (get_or_from_slice_get (routine_weights (texts_of d)) (number d a) (text_weight (lines s)) 0 (weight_got b)) (row_is d b)
          ∙ grown table (lines_weight (lines s)) (text_targets (tasks d) (funcs d) (lines s)) h
          ∙ body_size s (has_body b) ∙ ap capped (sym (routine_size b))

      placed_size : (m i : ℕ) → i < m → (a : Routine) (s : Statement) → BodyIs d a s → slice_get order i ≡ Some (number d a) → (measure_at table (number d a)).size ≡ capped (real (number d a))
      placed_size zero i l a s b e = absurd (omega (arith, l))
      placed_size (suc m) i l a s b e = one_size a s b (each (λ j k q u v w. placed_size m j k q u v w))
        where
          each : ((j : ℕ) → j < m → (q : Routine) (u : Statement) → BodyIs d q u → slice_get order j ≡ Some (number d q) → (measure_at table (number d q)).size ≡ capped (real (number d q))) →
              (t : ℕ) → Contains (text_targets (tasks d) (funcs d) (lines s)) t → (measure_at table t).size ≡ capped (real t)
          each before t c =
              let u = target_text d s t c in
              let p : Points (rows d) (number d a) t = record { listed = subst (λ l. Contains l t) (sym (row_is d b)) c; node = subst (λ z. z < length (rows d)) u.used.is (has_row d u.used.body_is) } in
              let q = ordered.after i (number d a) t e p in
              subst (λ z. (measure_at table z).size ≡ capped (real z)) u.used.is
              (before q.0 (let k = q.1 in omega (arith, k, l)) u.used.routine u.used.body u.used.body_is (q.2 ∙ ap Some (sym u.used.is)))

      any_size : (s : Statement) (t : ℕ) → Contains (text_targets (tasks d) (funcs d) (lines s)) t → (measure_at table t).size ≡ capped (real t)
      any_size s t c =
          let u = target_text d s t c in
          let g = got_con order (number d u.used.routine) (ordered.each (number d u.used.routine) (has_row d u.used.body_is)) in
          subst (λ z. (measure_at table z).size ≡ capped (real z)) u.used.is (placed_size (suc g.0) g.0 (omega arith) u.used.routine u.used.body u.used.body_is g.1)

      pub process_size : (q : FlatProc) → Contains d.procs q → (text_measure table (tasks d) (funcs d) (lines q.body)).size ≡ min (size_of (in_place d once) [] q.body) 20001
      process_size q c =
          grown table (lines_weight (lines q.body)) (text_targets (tasks d) (funcs d) (lines q.body)) (any_size q.body)
          ∙ body_size q.body
          (Contains-append_left (map (λ p. p.body) d.procs ++ map (λ t. t.body) d.tasks) (map (λ f. f.body) d.funcs) q.body
          (Contains-append_left (map (λ p. p.body) d.procs) (map (λ t. t.body) d.tasks) q.body (con_map (λ p. p.body) d.procs q c)))
