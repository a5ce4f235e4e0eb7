-- Rule 51: the graph's edges are the enables and calls, and the breaks that are listed are all that there are.
use Rattle.std.proofs.Common.{◌≡◌, ◌⊎◌, inl, inr, ℕ, zero, suc, ◌+◌, ◌-◌, ◌<◌, ◌≤◌, ◌==◌, Bool, true, false, if◌then◌else◌, List, [], ◌∷◌, ◌++◌, map, Option, Some, None, option_map, length, slice_get, refl, sym, ◌∙◌, ap, subst, arith, T, eqb→eq, eq-eqb, length-append}
use Rattle.std.specs.Prelude.{Contains, flat_map, nat_lt}
use Rattle.std.proofs.lemmas.Bool.{ltb-true, lt-ltb}
use Rattle.std.proofs.lemmas.List.{length-map}
use Rattle.std.proofs.lemmas.List.Elements.{Contains-append_left, Contains-append_right, Contains-append_cases}
use Rattle.std.proofs.lemmas.Option.{slice_get_within, slice_get-map, get_or_from_slice_get}
use Rattle.xt_base.specs.declared.refusals.Place.{Place}
use Rattle.xt_base.specs.declared.refusals.Refusal.{Refusal}
use Rattle.xt_graph.specs.Graph as graph
use Rattle.xt_graph.specs.Graph.{row, Points, HasCircle, AreCircles}
use Rattle.el_design.specs.Plain as plain
use Rattle.el_design.specs.Plain.{Expr, Lvalue, Statement, Null, Skip, Seq, Block, Assign, If, Case, Arm, For, While, Repeat, Forever, Wait, Enable, Disable, Host, FlatTask, FlatFunc, Flat}
use Rattle.el_design.specs.Names.{nodes_of, called, calls_in, own_expressions, place_of_statement}
use Rattle.el_design.specs.InPlace.{Holds}
use Rattle.el_design.specs.Calls as calls
use Rattle.el_design.specs.Calls.{Routine, TaskOf, FunctionOf, BodyIs, Uses, Leads, LeadsTo, IsRecursive}
use Rattle.std.proofs.lemmas.List.{get_or_past}
use Rattle.el_design.proofs.OrderLists.{con_nil, con_head, con_cases, con_mapped}
use Rattle.el_design.proofs.OrderPlaces.{con_map, con_flat, got_left, got_below}
use Rattle.el_design.proofs.Texts.{holds_is}
use Rattle.ck_call.specs.declared.nodes.Node.TheVariants as node
use Rattle.ck_call.specs.declared.lines.Line.{Line}
use Rattle.ck_call.specs.inner.Nodes.{node_of, own_named}
use Rattle.ck_call.specs.inner.Lines.{form_of, line_of, lines}
use Rattle.ck_call.specs.inner.Texts.{texts_of}
use Rattle.ck_call.specs.inner.Breaks.{break_at, breaks_by}
use Rattle.ck_call.specs.inner.Routines.{form_targets, node_targets, line_targets, text_targets, routine_rows, label, leads_back, circle_breaks, recursion_breaks}
use Rattle.ck_call.proofs.Members.{un_map, un_flat, un_filter, any_has, has_any}
use Rattle.ck_call.proofs.LinesAre.{is_real, has_line, line_is, own_is, has_own, plain_nodes}
use Rattle.ck_call.proofs.Bodies.{body_broken, broken_body}

pub only_then : (b : Bool) (n m : ℕ) → Contains (if b then n ∷ [] else []) m → (b ≡ true) × (n ≡ m)
only_then false n m c = absurd (con_nil m c)
only_then true n m c = go (con_cases n m [] c)
  where
    go : (n ≡ m) ⊎ Contains [] m → (true ≡ true) × (n ≡ m)
    go (inl e) = (refl, e)
    go (inr k) = absurd (con_nil m k)

pub then_is : (b : Bool) (n : ℕ) → b ≡ true → Contains (if b then n ∷ [] else []) n
then_is true n e = con_head n []
then_is false n e = cc

pub got_at : {X : Type 0} (xs ys : List X) (i k : ℕ) → k ≡ length xs + i → slice_get (xs ++ ys) k ≡ slice_get ys i
got_at [] ys i k e = let h : k ≡ i = omega (arith, e) in ap (slice_get ys) h
got_at (x ∷ xs) ys i zero e = absurd (omega (arith, e))
got_at (x ∷ xs) ys i (suc k) e = got_at xs ys i k (omega (arith, e))

pub got_right : {X : Type 0} (xs ys : List X) (i : ℕ) → slice_get (xs ++ ys) (length xs + i) ≡ slice_get ys i
got_right xs ys i = got_at xs ys i (length xs + i) refl

pub mapped_got : {X Y : Type 0} (f : X → Y) (xs : List X) (i : ℕ) (x : X) → slice_get xs i ≡ Some x → slice_get (map f xs) i ≡ Some (f x)
mapped_got f xs i x e = slice_get-map f xs i ∙ ap (option_map f) e

pub got_mapped : {X Y : Type 0} (f : X → Y) (xs : List X) (i : ℕ) (y : Y) → slice_get (map f xs) i ≡ Some y → (x : X) × (slice_get xs i ≡ Some x) × (f x ≡ y)
got_mapped {X = X} f xs i y e = go (slice_get xs i) refl
  where
    go : (o : Option X) → slice_get xs i ≡ o → (x : X) × (slice_get xs i ≡ Some x) × (f x ≡ y)
    go None h = let k : None ≡ Some y = sym (slice_get-map f xs i ∙ ap (option_map f) h) ∙ e in cc
    go (Some x) h = let k : Some (f x) ≡ Some y = sym (slice_get-map f xs i ∙ ap (option_map f) h) ∙ e in (x, h, cc)

pub call_node : (c : Expr) (f : ℕ) → called c ≡ Some f → (n : ℕ) × (node_of c ≡ node.Call f n)
call_node (plain.Call s g es) f e = let h : g ≡ f = cc in (count, ap (λ k. node.Call k count) h)
  where
    count : ℕ
    count = calls.count_of_exprs es
call_node (plain.Number s b) f e = cc
call_node (plain.NetValue s n) f e = cc
call_node (plain.Variable s v) f e = cc
call_node (plain.MemoryWord s v i) f e = cc
call_node (plain.Select s x r lsb) f e = cc
call_node (plain.Unary s op x) f e = cc
call_node (plain.Binary s op a b) f e = cc
call_node (plain.Choice s c a b) f e = cc
call_node (plain.Concat s es) f e = cc
call_node (plain.Copies s n x) f e = cc
call_node (plain.Sign s x) f e = cc
call_node (plain.Resize s x) f e = cc

-- a call that a line has is one of the statement's expressions
pub named_call : (x : Statement) (f : ℕ) → Contains (flat_map calls_in (own_expressions x)) f → (n : ℕ) × Contains (own_named x) (node.Call f n)
named_call x f c =
    let a = un_flat calls_in (own_expressions x) f c in
    let b = un_filter called (nodes_of a.0) f a.2 in
    let n = call_node b.0 f b.2 in
    (n.0, subst (λ l. Contains l (node.Call f n.0)) (sym (own_is x)) (subst (λ k. Contains (plain_nodes (own_expressions x)) k) n.1 (con_map node_of (flat_map nodes_of (own_expressions x)) b.0 (con_flat nodes_of (own_expressions x) a.0 b.0 a.1 b.1))))

module _ (d : Flat) where
  abbrev pub tasks : ℕ
  tasks = length (texts_of d).tasks

  abbrev pub funcs : ℕ
  funcs = length (texts_of d).funcs

  abbrev pub rows : List (List ℕ)
  rows = routine_rows (texts_of d)

  tasks_are : tasks ≡ length d.tasks
  tasks_are = length-map d.tasks (λ t. lines t.body)

  funcs_are : funcs ≡ length d.funcs
  funcs_are = length-map d.funcs (λ f. lines f.body)

  abbrev pub number : Routine → ℕ
  number (TaskOf t) = t
  number (FunctionOf f) = tasks + f

  -- ---- what a line enables and calls is what its statement does

  pub use_target : (x : Statement) (b : Routine) (s : Statement) → Uses d x b → BodyIs d b s → Contains (line_targets tasks funcs (line_of x)) (number b)
  use_target _ _ _ (calls.enables {at = at} {t = t} {ins = ins} {outs = outs}) (calls.task_body {task = task} e) =
      let l : t < tasks = (let k = slice_get_within d.tasks t task e in let h : tasks ≡ length d.tasks = tasks_are in omega arith) in
      Contains-append_left (form_targets tasks (form_of (Enable at t ins outs))) (flat_map (node_targets tasks funcs) (own_named (Enable at t ins outs))) t (then_is (nat_lt t tasks) t (lt-ltb t tasks l))
  use_target x _ s (calls.calls {f = f} l c) b =
      let k : f < funcs = (let h : funcs ≡ length d.funcs = funcs_are in omega (arith, l)) in
      let n = named_call x f c in
      Contains-append_right (form_targets tasks (form_of x)) (flat_map (node_targets tasks funcs) (own_named x)) (tasks + f)
      (con_flat (node_targets tasks funcs) (own_named x) (node.Call f n.0) (tasks + f) n.1 (then_is (nat_lt f funcs) (tasks + f) (lt-ltb f funcs k)))

  pub record Used (x : Statement) (n : ℕ) : Type 0 where
    pub routine : Routine
    pub body : Statement
    pub uses : Uses d x routine
    pub is : number routine ≡ n
    pub body_is : BodyIs d routine body

  used_task : (x : Statement) (n : ℕ) → Contains (form_targets tasks (form_of x)) n → Used x n
  used_task (Enable at t ins outs) n c =
      let o = only_then (nat_lt t tasks) t n c in
      let g = got_below d.tasks t (let l = ltb-true t tasks o.0 in let h : tasks ≡ length d.tasks = tasks_are in omega (arith, l)) in
      record { routine = TaskOf t; body = g.0.body; uses = calls.enables; is = o.1; body_is = calls.task_body g.1 }
  used_task Null n c = absurd (con_nil n c)
  used_task Skip n c = absurd (con_nil n c)
  used_task (Seq a b) n c = absurd (con_nil n c)
  used_task (Block at None body) n c = absurd (con_nil n c)
  used_task (Block at (Some m) body) n c = absurd (con_nil n c)
  used_task (Assign at to v true) n c = absurd (con_nil n c)
  used_task (Assign at to v false) n c = absurd (con_nil n c)
  used_task (If at test a b) n c = absurd (con_nil n c)
  used_task (Case at on arms) n c = absurd (con_nil n c)
  used_task (Arm on labels body others) n c = absurd (con_nil n c)
  used_task (For at v first test next body) n c = absurd (con_nil n c)
  used_task (While at test body) n c = absurd (con_nil n c)
  used_task (Repeat at count body) n c = absurd (con_nil n c)
  used_task (Forever at body) n c = absurd (con_nil n c)
  used_task (Wait at falling) n c = absurd (con_nil n c)
  used_task (Disable at m) n c = absurd (con_nil n c)
  used_task (Host at f ins result outs) n c = absurd (con_nil n c)

  pub called_node : (c : Expr) (n : ℕ) → Contains (node_targets tasks funcs (node_of c)) n → (f : ℕ) × (called c ≡ Some f) × (f < length d.funcs) × (tasks + f ≡ n)
  called_node (plain.Call s f es) n c =
      let o = only_then (nat_lt f funcs) (tasks + f) n c in
      (f, refl, (let l = ltb-true f funcs o.0 in let h : funcs ≡ length d.funcs = funcs_are in omega (arith, l)), o.1)
  called_node (plain.Number s b) n c = absurd (con_nil n c)
  called_node (plain.NetValue s m) n c = absurd (con_nil n c)
  called_node (plain.Variable s v) n c = absurd (con_nil n c)
  called_node (plain.MemoryWord s v i) n c = absurd (con_nil n c)
  called_node (plain.Select s x r lsb) n c = absurd (con_nil n c)
  called_node (plain.Unary s op x) n c = absurd (con_nil n c)
  called_node (plain.Binary s op a b) n c = absurd (con_nil n c)
  called_node (plain.Choice s t a b) n c = absurd (con_nil n c)
  called_node (plain.Concat s es) n c = absurd (con_nil n c)
  called_node (plain.Copies s m x) n c = absurd (con_nil n c)
  called_node (plain.Sign s x) n c = absurd (con_nil n c)
  called_node (plain.Resize s x) n c = absurd (con_nil n c)

  -- a function that one of some expressions calls
  pub record CalledIn (es : List Expr) (n : ℕ) : Type 0 where
    pub function : ℕ
    pub whole : Expr
    pub there : Contains es whole
    pub calls : Contains (calls_in whole) function
    pub below : function < length d.funcs
    pub is : tasks + function ≡ n

  pub called_in : (es : List Expr) (n : ℕ) → Contains (flat_map (node_targets tasks funcs) (plain_nodes es)) n → CalledIn es n
  called_in es n c =
      let a = un_flat (node_targets tasks funcs) (plain_nodes es) n c in
      let b = un_map node_of (flat_map nodes_of es) a.0 a.1 in
      let e = un_flat nodes_of es b.0 b.1 in
      let f = called_node b.0 n (subst (λ k. Contains (node_targets tasks funcs k) n) (sym b.2) a.2) in
      record { function = f.0; whole = e.0; there = e.1; calls = con_mapped called (nodes_of e.0) b.0 f.0 e.2 f.1; below = f.2; is = f.3 }

  used_function : (x : Statement) (n : ℕ) → Contains (flat_map (node_targets tasks funcs) (own_named x)) n → Used x n
  used_function x n c =
      let f = called_in (own_expressions x) n (subst (λ l. Contains (flat_map (node_targets tasks funcs) l) n) (own_is x) c) in
      let g = got_below d.funcs f.function f.below in
      record { routine = FunctionOf f.function; body = g.0.body; uses = calls.calls f.below (con_flat calls_in (own_expressions x) f.whole f.function f.there f.calls); is = f.is; body_is = calls.function_body g.1 }

  pub target_use : (x : Statement) (n : ℕ) → Contains (line_targets tasks funcs (line_of x)) n → Used x n
  target_use x n c = go (Contains-append_cases (form_targets tasks (form_of x)) (flat_map (node_targets tasks funcs) (own_named x)) n c)
    where
      go : Contains (form_targets tasks (form_of x)) n ⊎ Contains (flat_map (node_targets tasks funcs) (own_named x)) n → Used x n
      go (inl k) = used_task x n k
      go (inr k) = used_function x n k

  pub use_real : {x : Statement} {b : Routine} → Uses d x b → is_real x ≡ true
  use_real calls.enables = refl
  use_real (calls.calls {x = x} {f = f} l c) = let a = un_flat calls_in (own_expressions x) f c in has_own x a.0 a.1

  -- a statement of a body uses what the body's targets have, and the other way round
  pub text_target : (s x : Statement) (b : Routine) (body : Statement) → Holds s x → Uses d x b → BodyIs d b body → Contains (text_targets tasks funcs (lines s)) (number b)
  text_target s x b body h u i = con_flat (line_targets tasks funcs) (lines s) (line_of x) (number b) (has_line s x (use_real u) ((holds_is s x).0 h)) (use_target x b body u i)

  pub record UsedIn (s : Statement) (n : ℕ) : Type 0 where
    pub statement : Statement
    pub held : Holds s statement
    pub used : Used statement n

  pub target_text : (s : Statement) (n : ℕ) → Contains (text_targets tasks funcs (lines s)) n → UsedIn s n
  target_text s n c =
      let a = un_flat (line_targets tasks funcs) (lines s) n c in
      let l = line_is s a.0 a.1 in
      record { statement = l.statement; held = (holds_is s l.statement).1 l.there; used = target_use l.statement n (subst (λ k. Contains (line_targets tasks funcs k) n) (sym l.is) a.2) }

  -- ---- rows

  abbrev task_rows : List (List ℕ)
  task_rows = map (text_targets tasks funcs) (texts_of d).tasks

  abbrev function_rows : List (List ℕ)
  function_rows = map (text_targets tasks funcs) (texts_of d).funcs

  task_rows_are : length task_rows ≡ tasks
  task_rows_are = length-map (texts_of d).tasks (text_targets tasks funcs)

  pub row_got : {a : Routine} {s : Statement} → BodyIs d a s → slice_get rows (number a) ≡ Some (text_targets tasks funcs (lines s))
  row_got (calls.task_body {t = t} {task = task} e) =
      let g = mapped_got (text_targets tasks funcs) (texts_of d).tasks t (lines task.body) (mapped_got (λ k. lines k.body) d.tasks t task e) in
      got_left task_rows function_rows t (slice_get_within task_rows t _ g) ∙ g
  row_got (calls.function_body {f = f} {g = g} e) =
      subst (λ n. slice_get rows (n + f) ≡ Some (text_targets tasks funcs (lines g.body))) task_rows_are
      (got_right task_rows function_rows f ∙ mapped_got (text_targets tasks funcs) (texts_of d).funcs f (lines g.body) (mapped_got (λ k. lines k.body) d.funcs f g e))

  pub row_is : {a : Routine} {s : Statement} → BodyIs d a s → row rows (number a) ≡ text_targets tasks funcs (lines s)
  row_is {a = a} {s = s} b = get_or_from_slice_get rows (number a) (text_targets tasks funcs (lines s)) [] (row_got b)

  pub has_row : {a : Routine} {s : Statement} → BodyIs d a s → number a < length rows
  has_row {a = a} {s = s} b = slice_get_within rows (number a) (text_targets tasks funcs (lines s)) (row_got b)

  one_number : {a b : Routine} {s u : Statement} → BodyIs d a s → BodyIs d b u → number a ≡ number b → a ≡ b
  one_number (calls.task_body h) (calls.task_body k) e = ap TaskOf e
  one_number (calls.task_body {t = t} {task = task} h) (calls.function_body {f = f} k) e =
      absurd (let l = slice_get_within d.tasks t task h in let i : tasks ≡ length d.tasks = tasks_are in omega (arith, l, e))
  one_number (calls.function_body {f = f} h) (calls.task_body {t = t} {task = task} k) e =
      absurd (let l = slice_get_within d.tasks t task k in let i : tasks ≡ length d.tasks = tasks_are in omega (arith, l, e))
  one_number (calls.function_body {f = f} h) (calls.function_body {f = g} k) e = ap FunctionOf (omega (arith, e))

  -- ---- ways

  pub edge : {a b : Routine} {s x u : Statement} → BodyIs d a s → Holds s x → Uses d x b → BodyIs d b u → Points rows (number a) (number b)
  edge {a = a} {b = b} {s = s} {x = x} {u = u} i h v j = record { listed = subst (λ l. Contains l (number b)) (sym (row_is i)) (text_target s x b u h v j); node = has_row j }

  pub body_of : {b a : Routine} {s : Statement} → LeadsTo d b a → BodyIs d a s → (u : Statement) × BodyIs d b u
  body_of {s = s} calls.there i = (s, i)
  body_of (calls.onward (calls.leads {s = s} j h u) more) i = (s, j)

  way : {b a : Routine} {s : Statement} → LeadsTo d b a → BodyIs d a s → graph.Leads (Points rows) (number b) (number a)
  way calls.there i = graph.there
  way (calls.onward (calls.leads j h u) more) i = let k = body_of more i in graph.onward (edge j h u k.1) (way more i)

  leads_way : {m n : ℕ} (b a : Routine) (s u : Statement) → graph.Leads (Points rows) m n → number b ≡ m → number a ≡ n → BodyIs d b s → BodyIs d a u → LeadsTo d b a
  leads_way b a s u graph.there e f i j = subst (λ c. LeadsTo d b c) (one_number i j (e ∙ sym f)) calls.there
  leads_way b a s u (graph.onward {b = k} p more) e f i j =
      let t = target_text s k (subst (λ l. Contains l k) (ap (row rows) (sym e) ∙ row_is i) p.listed) in
      calls.onward (calls.leads i t.held t.used.uses) (leads_way t.used.routine a t.used.body u more t.used.is f t.used.body_is j)

  -- ---- breaks

  circle_at : (labels : List ℕ) (from : ℕ) (ts : List (List Line)) (i : ℕ) (ls : List Line) (r : Refusal) → slice_get ts i ≡ Some ls → Contains (breaks_by (leads_back labels tasks funcs (from + i)) 51 ls) r →
      Contains (circle_breaks labels tasks funcs from ts) r
  circle_at labels from [] i ls r e c = cc
  circle_at labels from (t ∷ ts) zero ls r e c =
      let h : t ≡ ls = cc in
      let k : from + zero ≡ from = omega arith in
      Contains-append_left (breaks_by (leads_back labels tasks funcs from) 51 t) (circle_breaks labels tasks funcs (suc from) ts) r
      (subst (λ n. Contains (breaks_by (leads_back labels tasks funcs n) 51 t) r) k (subst (λ l. Contains (breaks_by (leads_back labels tasks funcs (from + zero)) 51 l) r) (sym h) c))
  circle_at labels from (t ∷ ts) (suc i) ls r e c =
      let k : from + suc i ≡ suc from + i = omega arith in
      Contains-append_right (breaks_by (leads_back labels tasks funcs from) 51 t) (circle_breaks labels tasks funcs (suc from) ts) r
      (circle_at labels (suc from) ts i ls r e (subst (λ n. Contains (breaks_by (leads_back labels tasks funcs n) 51 ls) r) k c))

  record CircleAt (labels : List ℕ) (from : ℕ) (ts : List (List Line)) (r : Refusal) : Type 0 where
    index : ℕ
    text : List Line
    is : slice_get ts index ≡ Some text
    breaks : Contains (breaks_by (leads_back labels tasks funcs (from + index)) 51 text) r

  at_circle : (labels : List ℕ) (from : ℕ) (ts : List (List Line)) (r : Refusal) → Contains (circle_breaks labels tasks funcs from ts) r → CircleAt labels from ts r
  at_circle labels from [] r c = absurd (con_nil r c)
  at_circle labels from (t ∷ ts) r c = go (Contains-append_cases (breaks_by (leads_back labels tasks funcs from) 51 t) (circle_breaks labels tasks funcs (suc from) ts) r c) (at_circle labels (suc from) ts r)
    where
      go : Contains (breaks_by (leads_back labels tasks funcs from) 51 t) r ⊎ Contains (circle_breaks labels tasks funcs (suc from) ts) r → (Contains (circle_breaks labels tasks funcs (suc from) ts) r → CircleAt labels (suc from) ts r) →
          CircleAt labels from (t ∷ ts) r
      go (inl k) more = let e : from ≡ from + zero = omega arith in record { index = zero; text = t; is = refl; breaks = subst (λ n. Contains (breaks_by (leads_back labels tasks funcs n) 51 t) r) e k }
      go (inr k) more =
          let m = more k in
          let e : suc from + m.index ≡ from + suc m.index = omega arith in
          record { index = suc m.index; text = m.text; is = m.is; breaks = subst (λ n. Contains (breaks_by (leads_back labels tasks funcs n) 51 m.text) r) e m.breaks }

  -- where the breaks of a routine's body are listed
  body_circle : (labels : List ℕ) {a : Routine} {s : Statement} (r : Refusal) → BodyIs d a s → Contains (breaks_by (leads_back labels tasks funcs (number a)) 51 (lines s)) r → Contains (recursion_breaks labels (texts_of d)) r
  body_circle labels r (calls.task_body {t = t} {task = task} e) c =
      Contains-append_left (circle_breaks labels tasks funcs 0 (texts_of d).tasks) (circle_breaks labels tasks funcs tasks (texts_of d).funcs) r
      (let z : t ≡ 0 + t = omega arith in
      circle_at labels 0 (texts_of d).tasks t (lines task.body) r (mapped_got (λ k. lines k.body) d.tasks t task e) (subst (λ n. Contains (breaks_by (leads_back labels tasks funcs n) 51 (lines task.body)) r) z c))
  body_circle labels r (calls.function_body {f = f} {g = g} e) c =
      Contains-append_right (circle_breaks labels tasks funcs 0 (texts_of d).tasks) (circle_breaks labels tasks funcs tasks (texts_of d).funcs) r
      (circle_at labels tasks (texts_of d).funcs f (lines g.body) r (mapped_got (λ k. lines k.body) d.funcs f g e) c)

  pub recursive_broken : (labels : List ℕ) (at : Place) → AreCircles rows labels → IsRecursive d at → Contains (recursion_breaks labels (texts_of d)) (break_at 51 at)
  recursive_broken labels _ circles (calls.leads_back {a = a} {b = b} (calls.leads {s = s} {x = x} i h u) back) =
      let j = body_of back i in
      let p = edge i h u j.1 in
      let e : label labels (number b) ≡ label labels (number a) = (circles.same (number b) (number a) (has_row j.1) (has_row i)).1 (way back i, graph.onward p graph.there) in
      body_circle labels _ i
      (body_broken (leads_back labels tasks funcs (number a)) 51 s x h (use_real u)
      (has_any (λ k. label labels k == label labels (number a)) (line_targets tasks funcs (line_of x)) (number b) (use_target x b j.0 u j.1) (eq-eqb (label labels (number b)) (label labels (number a)) e)))

  broken_routine : (labels : List ℕ) (a : Routine) (s : Statement) (r : Refusal) → AreCircles rows labels → BodyIs d a s → Contains (breaks_by (leads_back labels tasks funcs (number a)) 51 (lines s)) r → (r.rule.0 ≡ 51) × IsRecursive d r.place
  broken_routine labels a s r circles i c =
      let b = broken_body (leads_back labels tasks funcs (number a)) 51 s r c in
      let k = any_has (λ k. label labels k == label labels (number a)) (line_targets tasks funcs (line_of b.statement)) b.found in
      let u = target_use b.statement k.0 k.1 in
      let e : label labels k.0 ≡ label labels (number a) = eqb→eq (label labels k.0) (label labels (number a)) (subst T (sym k.2) tt) in
      let e2 : label labels (number u.routine) ≡ label labels (number a) = ap (label labels) u.is ∙ e in
      let w = (circles.same (number u.routine) (number a) (has_row u.body_is) (has_row i)).0 e2 in
      (ap (λ z. z.rule.0) (sym b.is), subst (λ z. IsRecursive d z.place) b.is (calls.leads_back (calls.leads i b.held u.uses) (leads_way u.routine a u.body s w.0 refl refl u.body_is i)))

  pub broken_recursive : (labels : List ℕ) (r : Refusal) → AreCircles rows labels → Contains (recursion_breaks labels (texts_of d)) r → (r.rule.0 ≡ 51) × IsRecursive d r.place
  broken_recursive labels r circles c = go (Contains-append_cases (circle_breaks labels tasks funcs 0 (texts_of d).tasks) (circle_breaks labels tasks funcs tasks (texts_of d).funcs) r c)
    where
      of_task : CircleAt labels 0 (texts_of d).tasks r → (r.rule.0 ≡ 51) × IsRecursive d r.place
      of_task m =
          let g = got_mapped (λ k. lines k.body) d.tasks m.index m.text m.is in
          let z : 0 + m.index ≡ m.index = omega arith in
          broken_routine labels (TaskOf m.index) g.0.body r circles (calls.task_body g.1)
          (subst (λ n. Contains (breaks_by (leads_back labels tasks funcs n) 51 (lines g.0.body)) r) z (subst (λ l. Contains (breaks_by (leads_back labels tasks funcs (0 + m.index)) 51 l) r) (sym g.2) m.breaks))

      of_function : CircleAt labels tasks (texts_of d).funcs r → (r.rule.0 ≡ 51) × IsRecursive d r.place
      of_function m =
          let g = got_mapped (λ k. lines k.body) d.funcs m.index m.text m.is in
          broken_routine labels (FunctionOf m.index) g.0.body r circles (calls.function_body g.1) (subst (λ l. Contains (breaks_by (leads_back labels tasks funcs (tasks + m.index)) 51 l) r) (sym g.2) m.breaks)

      go : Contains (circle_breaks labels tasks funcs 0 (texts_of d).tasks) r ⊎ Contains (circle_breaks labels tasks funcs tasks (texts_of d).funcs) r → (r.rule.0 ≡ 51) × IsRecursive d r.place
      go (inl k) = of_task (at_circle labels 0 (texts_of d).tasks r k)
      go (inr k) = of_function (at_circle labels tasks (texts_of d).funcs r k)

  -- ---- a circle is a recursion, and the other way round

  pub recursion_circle : (at : Place) → IsRecursive d at → HasCircle rows
  recursion_circle _ (calls.leads_back {a = a} {b = b} (calls.leads {s = s} {x = x} i h u) back) =
      let j = body_of back i in record { from = number a; to = number b; edge = edge i h u j.1; back = way back i }

  routine_at : (n : ℕ) → n < length rows → (a : Routine) × (s : Statement) × BodyIs d a s × (number a ≡ n)
  routine_at n l = go (nat_lt n tasks) refl
    where
      go : (b : Bool) → nat_lt n tasks ≡ b → (a : Routine) × (s : Statement) × BodyIs d a s × (number a ≡ n)
      go true e =
          let k = ltb-true n tasks e in
          let g = got_below d.tasks n (let h : tasks ≡ length d.tasks = tasks_are in omega (arith, k)) in
          (TaskOf n, g.0.body, calls.task_body g.1, refl)
      go false e =
          let k : tasks ≤ n = grind (arith, e) in
          let h : length rows ≡ length task_rows + length function_rows = length-append task_rows function_rows in
          let i : length task_rows ≡ tasks = task_rows_are in
          let j : length function_rows ≡ funcs = length-map (texts_of d).funcs (text_targets tasks funcs) in
          let m : funcs ≡ length d.funcs = funcs_are in
          let g = got_below d.funcs (n - tasks) (omega (arith, l, h, i, j, m, k)) in
          (FunctionOf (n - tasks), g.0.body, calls.function_body g.1, omega (arith, k))

  pub circle_recursion : HasCircle rows → (at : Place) × IsRecursive d at
  circle_recursion c =
      let p : Points rows c.from c.to = c.edge in
      let a = routine_at c.from (has_list c.from c.to p.listed) in
      let t = target_text a.1 c.to (subst (λ l. Contains l c.to) (ap (row rows) (sym a.3) ∙ row_is a.2) p.listed) in
      (place_of_statement t.statement, calls.leads_back (calls.leads a.2 t.held t.used.uses) (leads_way t.used.routine a.0 t.used.body a.1 c.back t.used.is a.3 t.used.body_is a.2))
    where
      has_list : (n k : ℕ) → Contains (row rows n) k → n < length rows
      has_list n k c = go (nat_lt n (length rows)) refl
        where
          go : (b : Bool) → nat_lt n (length rows) ≡ b → n < length rows
          go true e = ltb-true n (length rows) e
          go false e = absurd (con_nil k (subst (λ l. Contains l k) (get_or_past rows n [] (grind (arith, e))) c))
