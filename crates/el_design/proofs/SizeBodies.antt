-- An enable counts the task's body and a call the function's, in place: where tasks and functions don't lead back to themselves, they nest no deeper than there are of them.
use Rattle.std.proofs.Common.{◌≡◌, ◌⊎◌, inl, inr, ℕ, zero, suc, ◌+◌, ◌*◌, ◌<◌, ◌≤◌, Bool, true, false, ◌&&◌, List, [], ◌∷◌, ◌++◌, Option, Some, None, Contains, flat_map, map, slice_get, length, refl, sym, ◌∙◌, ap, ap₂, subst, arith}
use Rattle.std.specs.List.{sum_by}
use Rattle.std.proofs.lemmas.Option.{slice_get_within}
use Rattle.std.proofs.lemmas.List.Sums.{sum_by-cons}
use Rattle.std.proofs.lemmas.List.Concat.{flat_map-append}
use Rattle.std.proofs.lemmas.List.Elements.{Contains-append_left, Contains-append_right, Contains-append_cases, All-contains}
use Rattle.xt_base.specs.declared.refusals.Place.{Place}
use Rattle.el_design.specs.Plain.{Expr, Number, NetValue, Variable, MemoryWord, Select, Unary, Binary, Choice, Concat, Copies, Sign, Resize, Call, Lvalue, ToVariable, ToPart, ToWord, ToWordPart, Both, Nowhere, Statement, Null, Skip, Seq, Block, Assign, If, Case, Arm, For, While, Repeat, Forever, Wait, Enable, Disable, Host, FlatTask, FlatFunc, Flat}
use Rattle.el_design.specs.Names.{nodes_of, called, calls_in, range_indexes, target_indexes, own_expressions, labels_in, listed}
use Rattle.el_design.specs.InPlace.{Stands, itself, in_first, in_rest, in_block, in_named, in_then, in_else, in_case, in_arm, in_others, in_for, in_while, in_repeat, in_forever}
use Rattle.el_design.specs.Calls.{Routine, TaskOf, FunctionOf, BodyIs, task_body, function_body, Uses, enables, Leads, leads}
use Rattle.el_design.specs.Calls as use_of
use Rattle.el_design.specs.Sizes.{node_size, expr_size, exprs_size, target_size, parts_size, targets_size, Counting, size_of, function_size, task_size, counting, in_place, Stopping, stops_in, task_stops, stopping}
use Rattle.el_design.specs.Rules.{IsFinite}
use Rattle.el_design.specs.Sound.{arms_fit, bodies_of, IsSound}
use Rattle.el_design.specs.CallLaws.{EnablesCountBodies, CallsCountBodies, EnablesStopInBodies}
use Rattle.el_design.proofs.OrderLists.{con_head, con_tail, con_nil, con_mapped}
use Rattle.el_design.proofs.OrderPlaces.{con_got, con_map}
use Rattle.el_design.proofs.OrderRule.{split}
use Rattle.el_design.proofs.Nesting.{Nests, Comes, at_once, by_way, nests_few, HasBody, LeadsOn, not_to_itself}

-- ---- sizes of expressions depend on what the functions count that are called in them

module _ (k l : ℕ → ℕ) where
  abbrev AgreeIn : List Expr → Type 0
  AgreeIn es = (f : ℕ) → Contains (flat_map calls_in es) f → k f ≡ l f

  node_same : (e : Expr) → ((f : ℕ) → called e ≡ Some f → k f ≡ l f) → node_size k e ≡ node_size l e
  node_same (Call s f es) h = ap (λ n. 1 + n) (h f refl)
  node_same (Number s b) h = refl
  node_same (NetValue s n) h = refl
  node_same (Variable s v) h = refl
  node_same (MemoryWord s v i) h = refl
  node_same (Select s x r lsb) h = refl
  node_same (Unary s op x) h = refl
  node_same (Binary s op a b) h = refl
  node_same (Choice s x a b) h = refl
  node_same (Concat s es) h = refl
  node_same (Copies s n x) h = refl
  node_same (Sign s x) h = refl
  node_same (Resize s x) h = refl

  nodes_same : (ns : List Expr) → ((x : Expr) → Contains ns x → (f : ℕ) → called x ≡ Some f → k f ≡ l f) → sum_by (node_size k) ns ≡ sum_by (node_size l) ns
  nodes_same [] h = refl
  nodes_same (n ∷ ns) h =
      sum_by-cons (node_size k) n ns
      ∙ ap₂ (λ a b. a + b) (node_same n (h n (con_head n ns))) (nodes_same ns (λ x c. h x (con_tail n x ns c)))
      ∙ sym (sum_by-cons (node_size l) n ns)

  expr_same : (e : Expr) → ((f : ℕ) → Contains (calls_in e) f → k f ≡ l f) → expr_size k e ≡ expr_size l e
  expr_same e h = nodes_same (nodes_of e) (λ x c f i. h f (con_mapped called (nodes_of e) x f c i))

  in_head : (e : Expr) (es : List Expr) → AgreeIn (e ∷ es) → (f : ℕ) → Contains (calls_in e) f → k f ≡ l f
  in_head e es h f c = h f (Contains-append_left (calls_in e) (flat_map calls_in es) f c)

  in_tail : (e : Expr) (es : List Expr) → AgreeIn (e ∷ es) → AgreeIn es
  in_tail e es h f c = h f (Contains-append_right (calls_in e) (flat_map calls_in es) f c)

  in_left : (es fs : List Expr) → AgreeIn (es ++ fs) → AgreeIn es
  in_left [] fs h f c = absurd (con_nil f c)
  in_left (e ∷ es) fs h f c = go (Contains-append_cases (calls_in e) (flat_map calls_in es) f c) (λ m. in_left es fs (in_tail e (es ++ fs) h) f m)
    where
      go : Contains (calls_in e) f ⊎ Contains (flat_map calls_in es) f → (Contains (flat_map calls_in es) f → k f ≡ l f) → k f ≡ l f
      go (inl m) more = in_head e (es ++ fs) h f m
      go (inr m) more = more m

  in_right : (es fs : List Expr) → AgreeIn (es ++ fs) → AgreeIn fs
  in_right [] fs h = h
  in_right (e ∷ es) fs h = in_right es fs (in_tail e (es ++ fs) h)

  head_same : (e : Expr) (es : List Expr) → AgreeIn (e ∷ es) → expr_size k e ≡ expr_size l e
  head_same e es h = expr_same e (in_head e es h)

  exprs_same : (es : List Expr) → AgreeIn es → exprs_size k es ≡ exprs_size l es
  exprs_same [] h = refl
  exprs_same (e ∷ es) h =
      sum_by-cons (λ n. n) (expr_size k e) (map (expr_size k) es)
      ∙ ap₂ (λ a b. a + b) (head_same e es h) (exprs_same es (in_tail e es h))
      ∙ sym (sum_by-cons (λ n. n) (expr_size l e) (map (expr_size l) es))

  mutual
    target_same : (t : Lvalue) → AgreeIn (target_indexes t) → target_size k t ≡ target_size l t
    target_same (ToVariable v) h = refl
    target_same (ToPart v r) h = ap (λ n. 2 + n) (exprs_same (range_indexes r) h)
    target_same (ToWord v i) h = ap (λ n. 2 + n) (head_same i [] h)
    target_same (ToWordPart v i r) h = ap₂ (λ m n. 3 + m + n) (head_same i (range_indexes r) h) (exprs_same (range_indexes r) (in_tail i (range_indexes r) h))
    target_same (Both a b) h = ap₂ (λ m n. 1 + m + n) (target_same a (in_left (target_indexes a) (target_indexes b) h)) (parts_same b (in_right (target_indexes a) (target_indexes b) h))
    target_same Nowhere h = refl

    parts_same : (t : Lvalue) → AgreeIn (target_indexes t) → parts_size k t ≡ parts_size l t
    parts_same (ToVariable v) h = refl
    parts_same (ToPart v r) h = refl
    parts_same (ToWord v i) h = refl
    parts_same (ToWordPart v i r) h = refl
    parts_same (Both a b) h = ap₂ (λ m n. m + n) (target_same a (in_left (target_indexes a) (target_indexes b) h)) (parts_same b (in_right (target_indexes a) (target_indexes b) h))
    parts_same Nowhere h = refl

  targets_same : (ts : List Lvalue) → AgreeIn (flat_map target_indexes ts) → targets_size k ts ≡ targets_size l ts
  targets_same [] h = refl
  targets_same (t ∷ ts) h =
      sum_by-cons (λ n. n) (target_size k t) (map (target_size k) ts)
      ∙ ap₂ (λ a b. a + b) (target_same t (in_left (target_indexes t) (flat_map target_indexes ts) h)) (targets_same ts (in_right (target_indexes t) (flat_map target_indexes ts) h))
      ∙ sym (sum_by-cons (λ n. n) (target_size l t) (map (target_size l) ts))

-- ---- sizes of statements depend on what is enabled and called in them

module _ (c e : Counting) (times : c.times ≡ e.times) where
  -- of all that stands in a statement, calls and enables agree
  record Agrees (s : Statement) : Type 0 where
    text : List ℕ
    each : (o : List ℕ) (x : Statement) → Stands [] text s o x → AgreeIn c.calls e.calls (own_expressions x)
    tasks : (o : List ℕ) (at : Place) (t : ℕ) (ins : List Expr) (outs : List Lvalue) → Stands [] text s o (Enable at t ins outs) → (marks : List ℕ) → c.tasks marks t ≡ e.tasks marks t

  abbrev Embeds : Statement → Statement → Type 0
  Embeds s t = (marks o : List ℕ) (x : Statement) → Stands [] marks t o x → Stands [] marks s o x

  part : {s t : Statement} → Embeds s t → Agrees s → Agrees t
  part f h = record { text = h.text; each = λ o x st. h.each o x (f h.text o x st); tasks = λ o at t ins outs st. h.tasks o at t ins outs (f h.text o (Enable at t ins outs) st) }

  named : {at : Place} {m : ℕ} {body : Statement} → Agrees (Block at (Some m) body) → Agrees body
  named {m = m} h = record { text = m ∷ h.text; each = λ o x st. h.each o x (in_named st); tasks = λ o at t ins outs st. h.tasks o at t ins outs (in_named st) }

  own : {s : Statement} → Agrees s → AgreeIn c.calls e.calls (own_expressions s)
  own {s} h = h.each h.text s itself

  both_parts : (a b : Bool) → (a && b) ≡ true → (a ≡ true) × (b ≡ true)
  both_parts true b e = (refl, e)
  both_parts false b e = cc

  abbrev Chosen : Bool → Statement → Type 0
  Chosen inner s = inner ≡ true → AgreeIn c.calls e.calls (labels_in s)

  alone : (s : Statement) → Chosen false s
  alone s e = absurd (let f : false ≡ true = e in cc)

  size_same : (inner : Bool) (marks : List ℕ) (s : Statement) → Agrees s → arms_fit inner s ≡ true → Chosen inner s → size_of c marks s ≡ size_of e marks s
  size_same inner marks Null h fit g = refl
  size_same inner marks Skip h fit g = refl
  size_same inner marks (Seq a b) h fit g =
      let fits = both_parts (arms_fit false a) (arms_fit false b) fit in
      ap₂ (λ m n. m + n) (size_same false marks a (part (λ m o x st. in_first st) h) fits.0 (alone a)) (size_same false marks b (part (λ m o x st. in_rest st) h) fits.1 (alone b))
  size_same inner marks (Block at None body) h fit g = ap (λ n. 1 + n) (size_same false marks body (part (λ m o x st. in_block st) h) fit (alone body))
  size_same inner marks (Block at (Some m) body) h fit g = ap (λ n. 1 + n) (size_same false (m ∷ marks) body (named h) fit (alone body))
  size_same inner marks (Assign at to x held) h fit g =
      ap₂ (λ m n. 1 + m + n) (target_same c.calls e.calls to (in_left c.calls e.calls (target_indexes to) (x ∷ []) (own h))) (head_same c.calls e.calls x [] (in_right c.calls e.calls (target_indexes to) (x ∷ []) (own h)))
  size_same inner marks (If at test a b) h fit g =
      let fits = both_parts (arms_fit false a) (arms_fit false b) fit in
      ap₂ (λ l (mn : ℕ × ℕ). 1 + l + mn.0 + mn.1) (head_same c.calls e.calls test [] (own h))
      (ap₂ (λ m n. (m, n)) (size_same false marks a (part (λ m o x st. in_then st) h) fits.0 (alone a)) (size_same false marks b (part (λ m o x st. in_else st) h) fits.1 (alone b)))
  size_same inner marks (Case at on arms) h fit g =
      ap₂ (λ m n. 1 + m + n) (head_same c.calls e.calls on (labels_in arms) (own h))
      (size_same true marks arms (part (λ m o x st. in_case st) h) fit (λ i. in_tail c.calls e.calls on (labels_in arms) (own h)))
  size_same false marks (Arm on labels body others) h fit g = cc
  size_same true marks (Arm on labels body others) h fit g =
      let fits = both_parts (arms_fit false body) (arms_fit true others) fit in
      let k : AgreeIn c.calls e.calls (labels ++ labels_in others) = g refl in
      ap₂ (λ l (mn : ℕ × ℕ). l + mn.0 + mn.1) (exprs_same c.calls e.calls labels (in_left c.calls e.calls labels (labels_in others) k))
      (ap₂ (λ m n. (m, n)) (size_same false marks body (part (λ m o x st. in_arm st) h) fits.0 (alone body))
      (size_same true marks others (part (λ m o x st. in_others st) h) fits.1 (λ i. in_right c.calls e.calls labels (labels_in others) k)))
  size_same inner marks (For at v first test next body) h fit g =
      ap₂ (λ (t : List ℕ → Statement → ℕ) (mn : ℕ × ℕ). t marks (For at v first test next body) * (3 + mn.0 + mn.1)) times
      (ap₂ (λ m n. (m, n)) (exprs_same c.calls e.calls (first ∷ test ∷ next ∷ []) (own h)) (size_same false marks body (part (λ m o x st. in_for st) h) fit (alone body)))
  size_same inner marks (While at test body) h fit g =
      ap₂ (λ (t : List ℕ → Statement → ℕ) (mn : ℕ × ℕ). t marks (While at test body) * (1 + mn.0 + mn.1)) times
      (ap₂ (λ m n. (m, n)) (head_same c.calls e.calls test [] (own h)) (size_same false marks body (part (λ m o x st. in_while st) h) fit (alone body)))
  size_same inner marks (Repeat at count body) h fit g =
      ap₂ (λ (t : List ℕ → Statement → ℕ) (mn : ℕ × ℕ). t marks (Repeat at count body) * (2 + mn.0 + mn.1)) times
      (ap₂ (λ m n. (m, n)) (head_same c.calls e.calls count [] (own h)) (size_same false marks body (part (λ m o x st. in_repeat st) h) fit (alone body)))
  size_same inner marks (Forever at body) h fit g = ap (λ n. 1 + n) (size_same false marks body (part (λ m o x st. in_forever st) h) fit (alone body))
  size_same inner marks (Wait at falling) h fit g = refl
  size_same inner marks (Enable at t ins outs) h fit g =
      ap₂ (λ l (mn : ℕ × ℕ). 2 + l + mn.0 + mn.1) (exprs_same c.calls e.calls ins (in_left c.calls e.calls ins (flat_map target_indexes outs) (own h)))
      (ap₂ (λ m n. (m, n)) (targets_same c.calls e.calls outs (in_right c.calls e.calls ins (flat_map target_indexes outs) (own h))) (h.tasks h.text at t ins outs itself marks))
  size_same inner marks (Disable at m) h fit g = refl
  size_same inner marks (Host at f ins result outs) h fit g =
      let targets : AgreeIn c.calls e.calls (flat_map target_indexes (listed result ++ outs)) = in_right c.calls e.calls ins (flat_map target_indexes (listed result ++ outs)) (own h) in
      let parts : AgreeIn c.calls e.calls (flat_map target_indexes (listed result) ++ flat_map target_indexes outs) = subst (AgreeIn c.calls e.calls) (flat_map-append target_indexes (listed result) outs) targets in
      ap₂ (λ l (mn : ℕ × ℕ). 2 + l + mn.0 + mn.1) (exprs_same c.calls e.calls ins (in_left c.calls e.calls ins (flat_map target_indexes (listed result ++ outs)) (own h)))
      (ap₂ (λ m n. (m, n)) (targets_same c.calls e.calls (listed result) (in_left c.calls e.calls (flat_map target_indexes (listed result)) (flat_map target_indexes outs) parts))
      (targets_same c.calls e.calls outs (in_right c.calls e.calls (flat_map target_indexes (listed result)) (flat_map target_indexes outs) parts)))

module _ (c e : Stopping) (often : c.as_often ≡ e.as_often) where
  abbrev TasksAgree : List ℕ → Statement → Type 0
  TasksAgree text s = (o : List ℕ) (at : Place) (t : ℕ) (ins : List Expr) (outs : List Lvalue) → Stands [] text s o (Enable at t ins outs) → (marks : List ℕ) → c.in_task marks t ≡ e.in_task marks t

  stops_same : (text marks : List ℕ) (s : Statement) → TasksAgree text s → stops_in c marks s ≡ stops_in e marks s
  stops_same text marks Null h = refl
  stops_same text marks Skip h = refl
  stops_same text marks (Seq a b) h =
      ap₂ (λ m n. m + n) (stops_same text marks a (λ o at t ins outs st. h o at t ins outs (in_first st))) (stops_same text marks b (λ o at t ins outs st. h o at t ins outs (in_rest st)))
  stops_same text marks (Block at None body) h = stops_same text marks body (λ o at t ins outs st. h o at t ins outs (in_block st))
  stops_same text marks (Block at (Some m) body) h = stops_same (m ∷ text) (m ∷ marks) body (λ o at t ins outs st. h o at t ins outs (in_named st))
  stops_same text marks (Assign at to x held) h = refl
  stops_same text marks (If at test a b) h =
      ap₂ (λ m n. m + n) (stops_same text marks a (λ o at t ins outs st. h o at t ins outs (in_then st))) (stops_same text marks b (λ o at t ins outs st. h o at t ins outs (in_else st)))
  stops_same text marks (Case at on arms) h = stops_same text marks arms (λ o at t ins outs st. h o at t ins outs (in_case st))
  stops_same text marks (Arm on labels body others) h =
      ap₂ (λ m n. m + n) (stops_same text marks body (λ o at t ins outs st. h o at t ins outs (in_arm st))) (stops_same text marks others (λ o at t ins outs st. h o at t ins outs (in_others st)))
  stops_same text marks (For at v first test next body) h =
      ap₂ (λ (f : List ℕ → Statement → ℕ) n. f marks (For at v first test next body) * n) often (stops_same text marks body (λ o at t ins outs st. h o at t ins outs (in_for st)))
  stops_same text marks (While at test body) h =
      ap₂ (λ (f : List ℕ → Statement → ℕ) n. f marks (While at test body) * n) often (stops_same text marks body (λ o at t ins outs st. h o at t ins outs (in_while st)))
  stops_same text marks (Repeat at count body) h =
      ap₂ (λ (f : List ℕ → Statement → ℕ) n. f marks (Repeat at count body) * n) often (stops_same text marks body (λ o at t ins outs st. h o at t ins outs (in_repeat st)))
  stops_same text marks (Forever at body) h = stops_same text marks body (λ o at t ins outs st. h o at t ins outs (in_forever st))
  stops_same text marks (Wait at falling) h = refl
  stops_same text marks (Enable at t ins outs) h = h text at t ins outs itself marks
  stops_same text marks (Disable at m) h = refl
  stops_same text marks (Host at f ins result outs) h = refl

-- ---- in place, so deep

module _ (d : Flat) (sound : IsSound d) where
  abbrev Deep : ℕ → Routine → Type 0
  Deep n r = Nests Routine (HasBody d) (LeadsOn d) n r

  -- the body of a task or function has its arms in `case`s
  body_fits : (r : Routine) (s : Statement) → BodyIs d r s → arms_fit false s ≡ true
  body_fits r s (task_body {task = task} e) = All-contains (λ s. arms_fit false s ≡ true) (bodies_of d) task.body sound.arms
      (Contains-append_left (map (λ p. p.body) d.procs ++ map (λ t. t.body) d.tasks) (map (λ f. f.body) d.funcs) task.body
      (Contains-append_right (map (λ p. p.body) d.procs) (map (λ t. t.body) d.tasks) task.body (con_map (λ t. t.body) d.tasks task (con_got d.tasks _ task e))))
  body_fits r s (function_body {g = g} e) = All-contains (λ s. arms_fit false s ≡ true) (bodies_of d) g.body sound.arms
      (Contains-append_right (map (λ p. p.body) d.procs ++ map (λ t. t.body) d.tasks) (map (λ f. f.body) d.funcs) g.body (con_map (λ f. f.body) d.funcs g (con_got d.funcs _ g e)))

  module _ (times : List ℕ → Statement → ℕ) where
    times_are : (n : ℕ) → (counting d times n).times ≡ times
    times_are zero = refl
    times_are (suc n) = refl

    -- so deep, two depths count the same of a routine
    abbrev SameAt : ℕ → ℕ → Routine → Type 0
    SameAt n m (TaskOf t) = (marks : List ℕ) → (counting d times n).tasks marks t ≡ (counting d times m).tasks marks t
    SameAt n m (FunctionOf f) = (counting d times n).calls f ≡ (counting d times m).calls f

    -- what is no function counts nothing
    past_calls : (n f : ℕ) → length d.funcs ≤ f → (counting d times n).calls f ≡ 0
    past_calls zero f p = refl
    past_calls (suc n) f p = go (slice_get d.funcs f) refl
      where
        go : (o : Option FlatFunc) → slice_get d.funcs f ≡ o → function_size (counting d times n) (slice_get d.funcs f) ≡ 0
        go None e = ap (function_size (counting d times n)) e
        go (Some g) e = absurd (let l : f < length d.funcs = slice_get_within d.funcs f g e in omega arith)

    -- a body counts the same where what it leads to does
    body_same : (n m : ℕ) (r : Routine) (s : Statement) → BodyIs d r s → ((q : Routine) → LeadsOn d r q → SameAt n m q) → (marks : List ℕ) →
        size_of (counting d times n) marks s ≡ size_of (counting d times m) marks s
    body_same n m r s body leads_same marks =
        size_same (counting d times n) (counting d times m) (times_are n ∙ sym (times_are m)) false marks s
        (record { text = []; each = each; tasks = λ o at t ins outs st. leads_same (TaskOf t) (_, leads body (o, st) enables) })
        (body_fits r s body) (alone (counting d times n) (counting d times m) (times_are n ∙ sym (times_are m)) s)
      where
        each : (o : List ℕ) (x : Statement) → Stands [] [] s o x → (f : ℕ) → Contains (flat_map calls_in (own_expressions x)) f → (counting d times n).calls f ≡ (counting d times m).calls f
        each o x st f c = go (split (length d.funcs) f)
          where
            go : (length d.funcs ≤ f) ⊎ (f < length d.funcs) → (counting d times n).calls f ≡ (counting d times m).calls f
            go (inl p) = past_calls n f p ∙ sym (past_calls m f p)
            go (inr l) = leads_same (FunctionOf f) (_, leads body (o, st) (use_of.calls l c))

    deeper_same : (n m : ℕ) (r : Routine) → n ≤ m → (Deep n r → ⊥) → SameAt n m r
    deeper_same zero m (TaskOf t) l short = λ marks. go marks (slice_get d.tasks t) refl m
      where
        go : (marks : List ℕ) (o : Option FlatTask) → slice_get d.tasks t ≡ o → (m : ℕ) → 0 ≡ (counting d times m).tasks marks t
        go marks None e zero = refl
        go marks None e (suc m) = sym (ap (task_size (counting d times m) marks) e)
        go marks (Some task) e m = absurd (short (task.body, task_body e))
    deeper_same zero m (FunctionOf f) l short = go (slice_get d.funcs f) refl m
      where
        go : (o : Option FlatFunc) → slice_get d.funcs f ≡ o → (m : ℕ) → 0 ≡ (counting d times m).calls f
        go None e zero = refl
        go None e (suc m) = sym (ap (function_size (counting d times m)) e)
        go (Some g) e m = absurd (short (g.body, function_body e))
    deeper_same (suc n) zero r l short = absurd (omega arith)
    deeper_same (suc n) (suc m) (TaskOf t) l short = λ marks. go marks (slice_get d.tasks t) refl (λ q s. deeper_same n m q (omega arith) s)
      where
        go : (marks : List ℕ) (o : Option FlatTask) → slice_get d.tasks t ≡ o → ((q : Routine) → (Deep n q → ⊥) → SameAt n m q) → task_size (counting d times n) marks (slice_get d.tasks t) ≡ task_size (counting d times m) marks (slice_get d.tasks t)
        go marks None e more = ap (task_size (counting d times n) marks) e ∙ sym (ap (task_size (counting d times m) marks) e)
        go marks (Some task) e more =
            ap (task_size (counting d times n) marks) e
            ∙ body_same n m (TaskOf t) task.body (task_body e) (λ q led. more q (λ deep. short ((task.body, task_body e), (q, led, deep)))) (task.mark ∷ marks)
            ∙ sym (ap (task_size (counting d times m) marks) e)
    deeper_same (suc n) (suc m) (FunctionOf f) l short = go (slice_get d.funcs f) refl (λ q s. deeper_same n m q (omega arith) s)
      where
        go : (o : Option FlatFunc) → slice_get d.funcs f ≡ o → ((q : Routine) → (Deep n q → ⊥) → SameAt n m q) → function_size (counting d times n) (slice_get d.funcs f) ≡ function_size (counting d times m) (slice_get d.funcs f)
        go None e more = ap (function_size (counting d times n)) e ∙ sym (ap (function_size (counting d times m)) e)
        go (Some g) e more =
            ap (function_size (counting d times n)) e
            ∙ body_same n m (FunctionOf f) g.body (function_body e) (λ q led. more q (λ deep. short ((g.body, function_body e), (q, led, deep)))) []
            ∙ sym (ap (function_size (counting d times m)) e)

  module _ (finite : IsFinite d) where
    abbrev number : Routine → ℕ
    number (TaskOf t) = t
    number (FunctionOf f) = length d.tasks + f

    inside : (r : Routine) → HasBody d r → number r < length d.tasks + length d.funcs
    inside r (s, task_body {t = t} {task = task} e) = let l : t < length d.tasks = slice_get_within d.tasks t task e in omega arith
    inside r (s, function_body {f = f} {g = g} e) = let l : f < length d.funcs = slice_get_within d.funcs f g e in omega arith

    same_routine : (r q : Routine) → HasBody d r → HasBody d q → number r ≡ number q → r ≡ q
    same_routine r q (s, task_body {t = t} e) (u, task_body {t = p} i) h = ap TaskOf h
    same_routine r q (s, function_body {f = f} e) (u, function_body {f = g} i) h = ap FunctionOf (omega arith)
    same_routine r q (s, task_body {t = t} {task = task} e) (u, function_body {f = g} i) h = absurd (let l : t < length d.tasks = slice_get_within d.tasks t task e in omega arith)
    same_routine r q (s, function_body {f = f} e) (u, task_body {t = p} {task = task} i) h = absurd (let l : p < length d.tasks = slice_get_within d.tasks p task i in omega arith)

    few_deep : (n : ℕ) (r : Routine) → Deep n r → n < length d.tasks + length d.funcs
    few_deep n r h = nests_few Routine (HasBody d) (LeadsOn d) number (length d.tasks + length d.funcs) inside same_routine (not_to_itself d finite) n r h

    module _ (times : List ℕ → Statement → ℕ) where
      -- at the depth of all routines a body counts as one less deep
      all_same : (n : ℕ) → length d.tasks + length d.funcs ≡ suc n → (r : Routine) (s : Statement) → BodyIs d r s → (marks : List ℕ) →
          size_of (counting d times n) marks s ≡ size_of (in_place d times) marks s
      all_same n e r s body marks =
          body_same times n (length d.tasks + length d.funcs) r s body
          (λ q led. deeper_same times n (length d.tasks + length d.funcs) q (omega (arith, e)) (λ deep. let k : suc n < length d.tasks + length d.funcs = few_deep (suc n) r ((s, body), (q, led, deep)) in omega (arith, e, k))) marks

      pub task_counts : (marks : List ℕ) (t : ℕ) (task : FlatTask) → slice_get d.tasks t ≡ Some task → (in_place d times).tasks marks t ≡ size_of (in_place d times) (task.mark ∷ marks) task.body
      task_counts marks t task is = go (length d.tasks + length d.funcs) refl
        where
          go : (n : ℕ) → length d.tasks + length d.funcs ≡ n → (in_place d times).tasks marks t ≡ size_of (in_place d times) (task.mark ∷ marks) task.body
          go zero e = absurd (let l : t < length d.tasks = slice_get_within d.tasks t task is in omega (arith, e))
          go (suc n) e = ap (λ k. (counting d times k).tasks marks t) e ∙ ap (task_size (counting d times n) marks) is ∙ all_same n e (TaskOf t) task.body (task_body is) (task.mark ∷ marks)

      pub function_counts : (f : ℕ) (g : FlatFunc) → slice_get d.funcs f ≡ Some g → (in_place d times).calls f ≡ size_of (in_place d times) [] g.body
      function_counts f g is = go (length d.tasks + length d.funcs) refl
        where
          go : (n : ℕ) → length d.tasks + length d.funcs ≡ n → (in_place d times).calls f ≡ size_of (in_place d times) [] g.body
          go zero e = absurd (let l : f < length d.funcs = slice_get_within d.funcs f g is in omega (arith, e))
          go (suc n) e = ap (λ k. (counting d times k).calls f) e ∙ ap (function_size (counting d times n)) is ∙ all_same n e (FunctionOf f) g.body (function_body is) []

    pub enables_count_bodies : EnablesCountBodies d
    enables_count_bodies times marks at t ins outs task is =
        ap (λ n. 2 + exprs_size (in_place d times).calls ins + targets_size (in_place d times).calls outs + n) (task_counts times marks t task is)

    pub calls_count_bodies : CallsCountBodies d
    calls_count_bodies times f g is = function_counts times f g is

-- ---- stops, in tasks alone

module _ (d : Flat) where
  abbrev IsTask : ℕ → Type 0
  IsTask t = (task : FlatTask) × (slice_get d.tasks t ≡ Some task)

  abbrev EnablesOn : ℕ → ℕ → Type 0
  EnablesOn t u = LeadsOn d (TaskOf t) (TaskOf u)

  abbrev DeepTask : ℕ → ℕ → Type 0
  DeepTask n t = Nests ℕ IsTask EnablesOn n t

  module _ (often : List ℕ → Statement → ℕ) where
    often_is : (n : ℕ) → (stopping d often n).as_often ≡ often
    often_is zero = refl
    often_is (suc n) = refl

    abbrev SameStops : ℕ → ℕ → ℕ → Type 0
    SameStops n m t = (marks : List ℕ) → (stopping d often n).in_task marks t ≡ (stopping d often m).in_task marks t

    body_stops : (n m t : ℕ) (task : FlatTask) → slice_get d.tasks t ≡ Some task → ((u : ℕ) → EnablesOn t u → SameStops n m u) → (marks : List ℕ) →
        stops_in (stopping d often n) marks task.body ≡ stops_in (stopping d often m) marks task.body
    body_stops n m t task is same marks =
        stops_same (stopping d often n) (stopping d often m) (often_is n ∙ sym (often_is m)) [] marks task.body (λ o at u ins outs st. same u (_, leads (task_body is) (o, st) enables))

    deeper_stops : (n m t : ℕ) → n ≤ m → (DeepTask n t → ⊥) → SameStops n m t
    deeper_stops zero m t l short = λ marks. go marks (slice_get d.tasks t) refl m
      where
        go : (marks : List ℕ) (o : Option FlatTask) → slice_get d.tasks t ≡ o → (m : ℕ) → 0 ≡ (stopping d often m).in_task marks t
        go marks None e zero = refl
        go marks None e (suc m) = sym (ap (task_stops (stopping d often m) marks) e)
        go marks (Some task) e m = absurd (short (task, e))
    deeper_stops (suc n) zero t l short = absurd (omega arith)
    deeper_stops (suc n) (suc m) t l short = λ marks. go marks (slice_get d.tasks t) refl (λ u s. deeper_stops n m u (omega arith) s)
      where
        go : (marks : List ℕ) (o : Option FlatTask) → slice_get d.tasks t ≡ o → ((u : ℕ) → (DeepTask n u → ⊥) → SameStops n m u) →
            task_stops (stopping d often n) marks (slice_get d.tasks t) ≡ task_stops (stopping d often m) marks (slice_get d.tasks t)
        go marks None e more = ap (task_stops (stopping d often n) marks) e ∙ sym (ap (task_stops (stopping d often m) marks) e)
        go marks (Some task) e more =
            ap (task_stops (stopping d often n) marks) e
            ∙ body_stops n m t task e (λ u led. more u (λ deep. short ((task, e), (u, led, deep)))) (task.mark ∷ marks)
            ∙ sym (ap (task_stops (stopping d often m) marks) e)

  module _ (finite : IsFinite d) where
    far : {t u : ℕ} → Comes EnablesOn t u → Comes (LeadsOn d) (TaskOf t) (TaskOf u)
    far (at_once t) = at_once t
    far (by_way t c) = by_way t (far c)

    few_tasks : (n t : ℕ) → DeepTask n t → n < length d.tasks
    few_tasks n t h = nests_few ℕ IsTask EnablesOn (λ t. t) (length d.tasks) (λ t i. slice_get_within d.tasks t i.0 i.1) (λ t u i j e. e) (λ t c. not_to_itself d finite (TaskOf t) (far c)) n t h

    pub enables_stop_in_bodies : EnablesStopInBodies d
    enables_stop_in_bodies often marks at t ins outs task is = go (length d.tasks) refl
      where
        go : (n : ℕ) → length d.tasks ≡ n → (stopping d often (length d.tasks)).in_task marks t ≡ stops_in (stopping d often (length d.tasks)) (task.mark ∷ marks) task.body
        go zero e = absurd (let l : t < length d.tasks = slice_get_within d.tasks t task is in omega (arith, e))
        go (suc n) e =
            ap (λ k. (stopping d often k).in_task marks t) e ∙ ap (task_stops (stopping d often n) marks) is
            ∙ body_stops often n (length d.tasks) t task is
            (λ u led. deeper_stops often n (length d.tasks) u (omega (arith, e)) (λ deep. let k : suc n < length d.tasks = few_tasks (suc n) t ((task, is), (u, led, deep)) in omega (arith, e, k))) (task.mark ∷ marks)
