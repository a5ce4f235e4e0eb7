-- Rules 53 and 62: the breaks that are listed are all that there are.
use Rattle.std.proofs.Common.{◌≡◌, ◌⊎◌, inl, inr, ℕ, zero, suc, ◌+◌, ◌-◌, ◌<◌, ◌≤◌, ◌==◌, not, Bool, true, false, List, [], ◌∷◌, ◌++◌, map, Option, Some, None, length, slice_get, replicate, refl, sym, ◌∙◌, ap, subst, arith, T, eqb→eq, eq-eqb}
use Rattle.std.specs.Prelude.{Contains, flat_map, nat_lt}
use Rattle.std.specs.List.{list_any}
use Rattle.std.proofs.lemmas.Bool.{cases_eq, leb-true, le-leb, ltb-true, lt-ltb}
use Rattle.std.proofs.lemmas.List.{length-map, length-replicate, get_or_past}
use Rattle.std.proofs.lemmas.List.Elements.{Contains-append_left, Contains-append_right, Contains-append_cases, All-contains}
use Rattle.std.proofs.lemmas.Option.{slice_get_within}
use Rattle.xt_base.specs.declared.refusals.Place.{Place}
use Rattle.xt_base.specs.declared.refusals.Refusal.{Refusal}
use Rattle.el_design.specs.Plain as plain
use Rattle.el_design.specs.Plain.{Expr, Statement, Null, Skip, Seq, Block, Assign, If, Case, Arm, For, While, Repeat, Forever, Wait, Enable, Disable, Host, FlatTask, FlatProc, Flat}
use Rattle.el_design.specs.Names.{nodes_of, called, calls_in, own_expressions, place_of_statement}
use Rattle.el_design.specs.InPlace.{InPlace, in_text, in_body, HasInPlace, IsPart, block_part, task_part, Holds}
use Rattle.el_design.specs.Texts.{texts}
use Rattle.el_design.specs.Sound.{IsSound, marks_in, all_marks, bodies_of}
use Rattle.el_design.specs.Calls as calls
use Rattle.el_design.specs.Calls.{DisablesWrongly, CallsHostInside, IsImportNumber}
use Rattle.el_design.proofs.OrderLists.{con_nil, con_head, con_tail, con_cases, con_mapped}
use Rattle.el_design.proofs.OrderPlaces.{con_got, con_map, con_flat}
use Rattle.ck_call.specs.declared.lines.Line.{Line}
use Rattle.ck_call.specs.declared.owners.Owner.{Owner}
use Rattle.ck_call.specs.declared.owners.Owner.TheVariants as owner
use Rattle.ck_call.specs.inner.Nodes.{node_of}
use Rattle.ck_call.specs.inner.Lines.{form_of, line_of, lines}
use Rattle.ck_call.specs.inner.Texts.{texts_of}
use Rattle.ck_call.specs.inner.Breaks.{break_at, only_if, breaks_by}
use Rattle.ck_call.specs.inner.Placed.{AreReaches, reach_at, placed, owner_at, form_marks, task_marks, owners_of, is_owner, is_misplaced, is_import, calls_import, line_breaks, process_breaks, is_disable, place_breaks}
use Rattle.ck_call.proofs.Members.{un_map, un_flat, un_filter, any_has, has_any, only, is_only}
use Rattle.ck_call.proofs.LinesAre.{is_real, own_is, has_own, plain_nodes, one_named, only_one}
use Rattle.ck_call.proofs.Bodies.{among_broken, broken_among, BrokenAmong, net_broken, broken_net, BrokenNet}
use Rattle.ck_call.proofs.Recursions.{mapped_got, got_mapped, call_node}
use Rattle.ck_call.proofs.Placings.{placed_line, line_placed}
use Rattle.ck_call.proofs.Owning.{Tells, nobody, alone, several, same_tells, NotedIn, all_told, all_length, none_told}

-- ---- calls of imports

module _ (d : Flat) where
  abbrev pub funcs : ℕ
  funcs = length (texts_of d).funcs

  funcs_are : funcs ≡ length d.funcs
  funcs_are = length-map d.funcs (λ f. lines f.body)

  record CallsImport (es : List Expr) : Type 0 where
    whole : Expr
    there : Contains es whole
    function : ℕ
    calls : Contains (calls_in whole) function
    index : ℕ
    number : IsImportNumber d function index

  import_node : (c : Expr) → is_import funcs (node_of c) ≡ true → (f : ℕ) × (called c ≡ Some f) × (funcs ≤ f)
  import_node (plain.Call s f es) e = (f, refl, leb-true funcs f e)
  import_node (plain.Number s b) e = cc
  import_node (plain.NetValue s n) e = cc
  import_node (plain.Variable s v) e = cc
  import_node (plain.MemoryWord s v i) e = cc
  import_node (plain.Select s x r lsb) e = cc
  import_node (plain.Unary s op x) e = cc
  import_node (plain.Binary s op a b) e = cc
  import_node (plain.Choice s t a b) e = cc
  import_node (plain.Concat s es) e = cc
  import_node (plain.Copies s n x) e = cc
  import_node (plain.Sign s x) e = cc
  import_node (plain.Resize s x) e = cc

  calls_of : (es : List Expr) → list_any (is_import funcs) (plain_nodes es) ≡ true → CallsImport es
  calls_of es e =
      let a = any_has (is_import funcs) (plain_nodes es) e in
      let b = un_map node_of (flat_map nodes_of es) a.0 a.1 in
      let w = un_flat nodes_of es b.0 b.1 in
      let f = import_node b.0 (subst (λ n. is_import funcs n ≡ true) (sym b.2) a.2) in
      let h : f.0 ≡ length d.funcs + (f.0 - length d.funcs) = (let l = f.2 in let k : funcs ≡ length d.funcs = funcs_are in omega (arith, l, k)) in
      record { whole = w.0; there = w.1; function = f.0; calls = con_mapped called (nodes_of w.0) b.0 f.0 w.2 f.1; index = f.0 - length d.funcs; number = calls.import_number h }

  of_calls : (es : List Expr) (e : Expr) (f i : ℕ) → Contains es e → Contains (calls_in e) f → IsImportNumber d f i → list_any (is_import funcs) (plain_nodes es) ≡ true
  of_calls es e f i c k (calls.import_number h) =
      let b = un_filter called (nodes_of e) f k in
      let n = call_node b.0 f b.2 in
      let l : funcs ≤ f = (let j : funcs ≡ length d.funcs = funcs_are in omega (arith, h, j)) in
      has_any (is_import funcs) (plain_nodes es) (node_of b.0) (con_map node_of (flat_map nodes_of es) b.0 (con_flat nodes_of es e b.0 c b.1))
      (subst (λ z. is_import funcs z ≡ true) (sym n.1) (le-leb funcs f l))

  -- ---- processes

  module _ (os : List Owner) (reaches : List (List ℕ)) where
    process_at : (from : ℕ) (procs : List (List Line)) (i : ℕ) (ls : List Line) (r : Refusal) → slice_get procs i ≡ Some ls →
        Contains (flat_map (line_breaks os funcs (from + i)) (placed (texts_of d).tasks (reach_at reaches (from + i)) ls)) r → Contains (process_breaks os funcs (texts_of d).tasks reaches from procs) r
    process_at from [] i ls r e c = cc
    process_at from (t ∷ more) zero ls r e c =
        let h : t ≡ ls = cc in
        let k : from + zero ≡ from = omega arith in
        Contains-append_left (flat_map (line_breaks os funcs from) (placed (texts_of d).tasks (reach_at reaches from) t)) (process_breaks os funcs (texts_of d).tasks reaches (suc from) more) r
        (subst (λ n. Contains (flat_map (line_breaks os funcs n) (placed (texts_of d).tasks (reach_at reaches n) t)) r) k
        (subst (λ l. Contains (flat_map (line_breaks os funcs (from + zero)) (placed (texts_of d).tasks (reach_at reaches (from + zero)) l)) r) (sym h) c))
    process_at from (t ∷ more) (suc i) ls r e c =
        let k : from + suc i ≡ suc from + i = omega arith in
        Contains-append_right (flat_map (line_breaks os funcs from) (placed (texts_of d).tasks (reach_at reaches from) t)) (process_breaks os funcs (texts_of d).tasks reaches (suc from) more) r
        (process_at (suc from) more i ls r e (subst (λ n. Contains (flat_map (line_breaks os funcs n) (placed (texts_of d).tasks (reach_at reaches n) ls)) r) k c))

    record ProcessAt (from : ℕ) (procs : List (List Line)) (r : Refusal) : Type 0 where
      index : ℕ
      text : List Line
      is : slice_get procs index ≡ Some text
      breaks : Contains (flat_map (line_breaks os funcs (from + index)) (placed (texts_of d).tasks (reach_at reaches (from + index)) text)) r

    at_process : (from : ℕ) (procs : List (List Line)) (r : Refusal) → Contains (process_breaks os funcs (texts_of d).tasks reaches from procs) r → ProcessAt from procs r
    at_process from [] r c = absurd (con_nil r c)
    at_process from (t ∷ more) r c =
        go (Contains-append_cases (flat_map (line_breaks os funcs from) (placed (texts_of d).tasks (reach_at reaches from) t)) (process_breaks os funcs (texts_of d).tasks reaches (suc from) more) r c) (at_process (suc from) more r)
      where
        go : Contains (flat_map (line_breaks os funcs from) (placed (texts_of d).tasks (reach_at reaches from) t)) r ⊎ Contains (process_breaks os funcs (texts_of d).tasks reaches (suc from) more) r →
            (Contains (process_breaks os funcs (texts_of d).tasks reaches (suc from) more) r → ProcessAt (suc from) more r) → ProcessAt from (t ∷ more) r
        go (inl k) rest =
            let e : from ≡ from + zero = omega arith in
            record { index = zero; text = t; is = refl; breaks = subst (λ n. Contains (flat_map (line_breaks os funcs n) (placed (texts_of d).tasks (reach_at reaches n) t)) r) e k }
        go (inr k) rest =
            let m = rest k in
            let e : suc from + m.index ≡ from + suc m.index = omega arith in
            record { index = suc m.index; text = m.text; is = m.is; breaks = subst (λ n. Contains (flat_map (line_breaks os funcs n) (placed (texts_of d).tasks (reach_at reaches n) m.text)) r) e m.breaks }

  module _ (reaches : List (List ℕ)) (all : AreReaches (texts_of d) reaches (length (texts_of d).procs)) where
    -- ---- a process and a statement that it has in place

    pub own_line : {p : ℕ} {x : Statement} (h : HasInPlace d p x) → is_real x ≡ true → Contains (placed (texts_of d).tasks (reach_at reaches p) (lines h.process.body)) (line_of x)
    own_line {p = p} {x = x} h r =
        let g = mapped_got (λ k. lines k.body) d.procs p h.process h.is in
        placed_line d h.process.body x (reach_at reaches p) (all.each p (lines h.process.body) (slice_get_within (texts_of d).procs p (lines h.process.body) g) g) h.there r

    pub record Had (p : ℕ) (l : Line) : Type 0 where
      pub statement : Statement
      pub has : HasInPlace d p statement
      pub real : is_real statement ≡ true
      pub is : line_of statement ≡ l

    pub had : (p : ℕ) (ls : List Line) (l : Line) → slice_get (texts_of d).procs p ≡ Some ls → Contains (placed (texts_of d).tasks (reach_at reaches p) ls) l → Had p l
    had p ls l e c =
        let g = got_mapped (λ k. lines k.body) d.procs p ls e in
        let k = subst (λ z. Contains (placed (texts_of d).tasks (reach_at reaches p) z) l) (sym g.2) c in
        let e2 : slice_get (texts_of d).procs p ≡ Some (lines g.0.body) = e ∙ ap Some (sym g.2) in
        let i = line_placed d g.0.body (reach_at reaches p) l (all.each p (lines g.0.body) (slice_get_within (texts_of d).procs p ls e) e2) k in
        record { statement = i.statement; has = record { process = g.0; is = g.1; there = i.there }; real = i.real; is = i.is }

    -- ---- parts

    mark_part : (p : ℕ) (x : Statement) (m : ℕ) → HasInPlace d p x → Contains (form_marks d (form_of x)) m → IsPart d p m
    mark_part p (Block at (Some n) body) m h c = subst (IsPart d p) (only_number n m c) (block_part h)
      where
        only_number : (n m : ℕ) → Contains (n ∷ []) m → n ≡ m
        only_number n m c = go (con_cases n m [] c)
          where
            go : (n ≡ m) ⊎ Contains [] m → n ≡ m
            go (inl e) = e
            go (inr k) = absurd (con_nil m k)
    mark_part p (Enable at t ins outs) m h c = go (slice_get d.tasks t) refl c
      where
        go : (o : Option FlatTask) → slice_get d.tasks t ≡ o → Contains (task_marks o) m → IsPart d p m
        go None e k = absurd (con_nil m k)
        go (Some task) e k = one (con_cases task.mark m [] k)
          where
            one : (task.mark ≡ m) ⊎ Contains [] m → IsPart d p m
            one (inl i) = task_part h e i
            one (inr n) = absurd (con_nil m n)
    mark_part p Null m h c = absurd (con_nil m c)
    mark_part p Skip m h c = absurd (con_nil m c)
    mark_part p (Seq a b) m h c = absurd (con_nil m c)
    mark_part p (Block at None body) m h c = absurd (con_nil m c)
    mark_part p (Assign at to v true) m h c = absurd (con_nil m c)
    mark_part p (Assign at to v false) m h c = absurd (con_nil m c)
    mark_part p (If at test a b) m h c = absurd (con_nil m c)
    mark_part p (Case at on arms) m h c = absurd (con_nil m c)
    mark_part p (Arm on labels body others) m h c = absurd (con_nil m c)
    mark_part p (For at v first test next body) m h c = absurd (con_nil m c)
    mark_part p (While at test body) m h c = absurd (con_nil m c)
    mark_part p (Repeat at count body) m h c = absurd (con_nil m c)
    mark_part p (Forever at body) m h c = absurd (con_nil m c)
    mark_part p (Wait at falling) m h c = absurd (con_nil m c)
    mark_part p (Disable at n) m h c = absurd (con_nil m c)
    mark_part p (Host at f ins result outs) m h c = absurd (con_nil m c)

    noted_part : (p m : ℕ) → NotedIn d (texts_of d).tasks reaches 0 (texts_of d).procs p m → IsPart d p m
    noted_part p m n =
        let e : n.index ≡ p = (let k = n.number in omega (arith, k)) in
        let a = un_flat (λ l. form_marks d l.form) (placed (texts_of d).tasks (reach_at reaches p) n.text) m n.there in
        let h = had p n.text a.0 (subst (λ z. slice_get (texts_of d).procs z ≡ Some n.text) e n.is) a.1 in
        mark_part p h.statement m h.has (subst (λ l. Contains (form_marks d l.form) m) (sym h.is) a.2)

    noted_by : (p m : ℕ) (x : Statement) → is_real x ≡ true → HasInPlace d p x → Contains (form_marks d (form_of x)) m → NotedIn d (texts_of d).tasks reaches 0 (texts_of d).procs p m
    noted_by p m x r h c = record {
      index = p;
      text = lines h.process.body;
      is = mapped_got (λ k. lines k.body) d.procs p h.process h.is;
      number = omega arith;
      there = con_flat (λ l. form_marks d l.form) (placed (texts_of d).tasks (reach_at reaches p) (lines h.process.body)) (line_of x) m (own_line h r) c;
    }

    part_noted : (p m : ℕ) → IsPart d p m → NotedIn d (texts_of d).tasks reaches 0 (texts_of d).procs p m
    part_noted p m (block_part {at = at} {body = body} h) = noted_by p m (Block at (Some m) body) refl h (con_head m [])
    part_noted p m (task_part {at = at} {t = t} {ins = ins} {outs = outs} {task = task} h e i) =
        noted_by p m (Enable at t ins outs) refl h (subst (λ o. Contains (task_marks o) m) (sym e) (subst (λ z. Contains (task.mark ∷ []) z) i (con_head task.mark [])))

    abbrev pub os : List Owner
    os = owners_of d (texts_of d) reaches

    os_length : length os ≡ d.marks
    os_length = all_length d (texts_of d).tasks reaches 0 (replicate d.marks owner.Nobody) (texts_of d).procs ∙ length-replicate d.marks owner.Nobody

    pub owner_tells : (m : ℕ) → m < d.marks → Tells (λ p. IsPart d p m) (owner_at os m)
    owner_tells m l =
        same_tells there (λ p h. inr (part_noted p m h))
        (all_told d (texts_of d).tasks reaches (λ q m. ⊥) 0 (replicate d.marks owner.Nobody) (texts_of d).procs (none_told d.marks) m (let e : length os ≡ d.marks = os_length in omega (arith, l, e)))
      where
        there : (p : ℕ) → ⊥ ⊎ NotedIn d (texts_of d).tasks reaches 0 (texts_of d).procs p m → IsPart d p m
        there p (inl h) = absurd h
        there p (inr h) = noted_part p m h

-- ---- marks are below their count

skip : (s x : Statement) (xs : List Statement) → (s ≡ x → ⊥) → Contains (s ∷ xs) x → Contains xs x
skip s x xs n c = go (con_cases s x xs c)
  where
    go : (s ≡ x) ⊎ Contains xs x → Contains xs x
    go (inl e) = absurd (n e)
    go (inr k) = k

two_marks : (xs ys : List Statement) (x : Statement) (ms ns : List ℕ) (m : ℕ) → (Contains xs x → Contains ms m) → (Contains ys x → Contains ns m) → Contains (xs ++ ys) x → Contains (ms ++ ns) m
two_marks xs ys x ms ns m f g c = go (Contains-append_cases xs ys x c)
  where
    go : Contains xs x ⊎ Contains ys x → Contains (ms ++ ns) m
    go (inl k) = Contains-append_left ms ns m (f k)
    go (inr k) = Contains-append_right ms ns m (g k)

no_block : (x : Statement) (ms : List ℕ) (m : ℕ) → Contains [] x → Contains ms m
no_block x ms m c = absurd (con_nil x c)

marks_of : (s : Statement) (at : Place) (m : ℕ) (body : Statement) → Contains (texts s) (Block at (Some m) body) → Contains (marks_in s) m
marks_of Null at m body c = no_block _ [] m (skip Null _ [] (λ e. cc) c)
marks_of Skip at m body c = no_block _ [] m (skip Skip _ [] (λ e. cc) c)
marks_of (Seq a b) at m body c =
    two_marks (texts a) (texts b) (Block at (Some m) body) (marks_in a) (marks_in b) m (marks_of a at m body) (marks_of b at m body) (skip (Seq a b) (Block at (Some m) body) (texts a ++ texts b) (λ e. cc) c)
marks_of (Block a None s) at m body c = marks_of s at m body (skip (Block a None s) (Block at (Some m) body) (texts s) (λ e. cc) c)
marks_of (Block a (Some n) s) at m body c = go (con_cases (Block a (Some n) s) (Block at (Some m) body) (texts s) c) (marks_of s at m body)
  where
    go : (Block a (Some n) s ≡ Block at (Some m) body) ⊎ Contains (texts s) (Block at (Some m) body) → (Contains (texts s) (Block at (Some m) body) → Contains (marks_in s) m) → Contains (n ∷ marks_in s) m
    go (inl e) more = let h : n ≡ m = cc in subst (Contains (n ∷ marks_in s)) h (con_head n (marks_in s))
    go (inr k) more = con_tail n m (marks_in s) (more k)
marks_of (Assign a to v held) at m body c = no_block _ [] m (skip (Assign a to v held) _ [] (λ e. cc) c)
marks_of (If p test a b) at m body c =
    two_marks (texts a) (texts b) (Block at (Some m) body) (marks_in a) (marks_in b) m (marks_of a at m body) (marks_of b at m body) (skip (If p test a b) (Block at (Some m) body) (texts a ++ texts b) (λ e. cc) c)
marks_of (Case p on arms) at m body c = marks_of arms at m body (skip (Case p on arms) (Block at (Some m) body) (texts arms) (λ e. cc) c)
marks_of (Arm on labels a b) at m body c =
    two_marks (texts a) (texts b) (Block at (Some m) body) (marks_in a) (marks_in b) m (marks_of a at m body) (marks_of b at m body) (skip (Arm on labels a b) (Block at (Some m) body) (texts a ++ texts b) (λ e. cc) c)
marks_of (For p v first test next s) at m body c = marks_of s at m body (skip (For p v first test next s) (Block at (Some m) body) (texts s) (λ e. cc) c)
marks_of (While p test s) at m body c = marks_of s at m body (skip (While p test s) (Block at (Some m) body) (texts s) (λ e. cc) c)
marks_of (Repeat p count s) at m body c = marks_of s at m body (skip (Repeat p count s) (Block at (Some m) body) (texts s) (λ e. cc) c)
marks_of (Forever p s) at m body c = marks_of s at m body (skip (Forever p s) (Block at (Some m) body) (texts s) (λ e. cc) c)
marks_of (Wait p falling) at m body c = no_block _ [] m (skip (Wait p falling) _ [] (λ e. cc) c)
marks_of (Enable p t ins outs) at m body c = no_block _ [] m (skip (Enable p t ins outs) _ [] (λ e. cc) c)
marks_of (Disable p n) at m body c = no_block _ [] m (skip (Disable p n) _ [] (λ e. cc) c)
marks_of (Host p f ins result outs) at m body c = no_block _ [] m (skip (Host p f ins result outs) _ [] (λ e. cc) c)

module _ (d : Flat) (sound : IsSound d) where
  in_bodies : {x : Statement} (s : Statement) → Contains (bodies_of d) s → InPlace d.tasks x s → (u : Statement) × Contains (bodies_of d) u × Contains (texts u) x
  in_bodies s b (in_text c) = (s, b, c)
  in_bodies s b (in_body {t = t} {task = task} c e h) =
      in_bodies task.body
      (Contains-append_left (map (λ p. p.body) d.procs ++ map (λ t. t.body) d.tasks) (map (λ f. f.body) d.funcs) task.body
      (Contains-append_right (map (λ p. p.body) d.procs) (map (λ t. t.body) d.tasks) task.body (con_map (λ t. t.body) d.tasks task (con_got d.tasks t task e)))) h

  process_body : (p : ℕ) (q : FlatProc) → slice_get d.procs p ≡ Some q → Contains (bodies_of d) q.body
  process_body p q e =
      Contains-append_left (map (λ p. p.body) d.procs ++ map (λ t. t.body) d.tasks) (map (λ f. f.body) d.funcs) q.body
      (Contains-append_left (map (λ p. p.body) d.procs) (map (λ t. t.body) d.tasks) q.body (con_map (λ p. p.body) d.procs q (con_got d.procs p q e)))

  low : (m : ℕ) → Contains (all_marks d) m → m < d.marks
  low m c = All-contains (λ m. m < d.marks) (all_marks d) m sound.marks_below c

  part_low : (p m : ℕ) → IsPart d p m → m < d.marks
  part_low p m (block_part {at = at} {body = body} h) =
      let b = in_bodies h.process.body (process_body p h.process h.is) h.there in
      low m (Contains-append_right (map (λ t. t.mark) d.tasks) (flat_map marks_in (bodies_of d)) m (con_flat marks_in (bodies_of d) b.0 m b.1 (marks_of b.0 at m body b.2)))
  part_low p m (task_part {t = t} {task = task} h e i) =
      low m (subst (Contains (all_marks d)) i (Contains-append_left (map (λ t. t.mark) d.tasks) (flat_map marks_in (bodies_of d)) task.mark (con_map (λ t. t.mark) d.tasks task (con_got d.tasks t task e))))

  module _ (reaches : List (List ℕ)) (all : AreReaches (texts_of d) reaches (length (texts_of d).procs)) where
    is_one : (p : ℕ) (o : Owner) → is_owner p o ≡ true → o ≡ owner.One p
    is_one p (owner.One q) e = ap owner.One (eqb→eq q p (subst T (sym e) tt))
    is_one p owner.Nobody e = cc
    is_one p owner.Many e = cc

    past_nobody : (m : ℕ) → nat_lt m d.marks ≡ false → owner_at (owners_of d (texts_of d) reaches) m ≡ owner.Nobody
    past_nobody m e =
        let l : length (owners_of d (texts_of d) reaches) ≡ d.marks = all_length d (texts_of d).tasks reaches 0 (replicate d.marks owner.Nobody) (texts_of d).procs ∙ length-replicate d.marks owner.Nobody in
        get_or_past (owners_of d (texts_of d) reaches) m owner.Nobody (grind (arith, e, l))

    -- a process that is the only owner has the part, and no other has it
    owns : (p m : ℕ) → is_owner p (owner_at (owners_of d (texts_of d) reaches) m) ≡ true → IsPart d p m × ((q : ℕ) → IsPart d q m → p ≡ q)
    owns p m e = go (nat_lt m d.marks) refl
      where
        tell : Tells (λ p. IsPart d p m) (owner.One p) → IsPart d p m × ((q : ℕ) → IsPart d q m → p ≡ q)
        tell (alone h n) = (h, n)

        go : (b : Bool) → nat_lt m d.marks ≡ b → IsPart d p m × ((q : ℕ) → IsPart d q m → p ≡ q)
        go true l = tell (subst (Tells (λ p. IsPart d p m)) (is_one p (owner_at (owners_of d (texts_of d) reaches) m) e) (owner_tells d reaches all m (ltb-true m d.marks l)))
        go false l = absurd (let h : is_owner p owner.Nobody ≡ true = subst (λ o. is_owner p o ≡ true) (past_nobody m l) e in cc)

    wrong : (p m : ℕ) → (IsPart d p m → ((q : ℕ) → IsPart d q m → p ≡ q) → ⊥) → not (is_owner p (owner_at (owners_of d (texts_of d) reaches) m)) ≡ true
    wrong p m n = go (is_owner p (owner_at (owners_of d (texts_of d) reaches) m)) refl
      where
        go : (b : Bool) → is_owner p (owner_at (owners_of d (texts_of d) reaches) m) ≡ b → not b ≡ true
        go true e = let o = owns p m e in absurd (n o.0 o.1)
        go false e = refl

    misplaced : (p m : ℕ) (at : Place) → HasInPlace d p (Disable at m) → not (is_owner p (owner_at (owners_of d (texts_of d) reaches) m)) ≡ true → DisablesWrongly d at
    misplaced p m at h e = go (nat_lt m d.marks) refl
      where
        tell : (o : Owner) → Tells (λ p. IsPart d p m) o → not (is_owner p o) ≡ true → DisablesWrongly d at
        tell o (nobody n) k = calls.not_own h (n p)
        tell o (alone {q = q} i n) k = calls.also_other h (λ z. let f : not (q == p) ≡ true = k in let g : (q == p) ≡ true = eq-eqb q p z in let w : not true ≡ true = subst (λ b. not b ≡ true) g f in cc) i
        tell o (several {p = a} {q = b} i j n) k = choose (cases_eq a p)
          where
            choose : (a ≡ p) ⊎ (a ≡ p → ⊥) → DisablesWrongly d at
            choose (inl z) = calls.also_other h (λ w. n (z ∙ sym w)) j
            choose (inr z) = calls.also_other h z i

        go : (b : Bool) → nat_lt m d.marks ≡ b → DisablesWrongly d at
        go true l = tell (owner_at (owners_of d (texts_of d) reaches) m) (owner_tells d reaches all m (ltb-true m d.marks l)) e
        go false l = calls.not_own h (λ part. let k = part_low p m part in let z : nat_lt m d.marks ≡ true = lt-ltb m d.marks k in let w : true ≡ false = sym z ∙ l in cc)

    -- ---- lists

    of_processes : (r : Refusal) → Contains (process_breaks (owners_of d (texts_of d) reaches) (funcs d) (texts_of d).tasks reaches 0 (texts_of d).procs) r → Contains (place_breaks d (texts_of d) reaches) r
    of_processes r c =
        Contains-append_left (process_breaks (owners_of d (texts_of d) reaches) (funcs d) (texts_of d).tasks reaches 0 (texts_of d).procs ++ flat_map (breaks_by is_disable 53) (texts_of d).funcs) (breaks_by (calls_import (funcs d)) 62 (texts_of d).nets) r
        (Contains-append_left (process_breaks (owners_of d (texts_of d) reaches) (funcs d) (texts_of d).tasks reaches 0 (texts_of d).procs) (flat_map (breaks_by is_disable 53) (texts_of d).funcs) r c)

    at_line : (p : ℕ) (x : Statement) (r : Refusal) (h : HasInPlace d p x) → is_real x ≡ true → Contains (line_breaks (owners_of d (texts_of d) reaches) (funcs d) p (line_of x)) r → Contains (place_breaks d (texts_of d) reaches) r
    at_line p x r h real c =
        let z : p ≡ 0 + p = omega arith in
        of_processes r
        (process_at d (owners_of d (texts_of d) reaches) reaches 0 (texts_of d).procs p (lines h.process.body) r (mapped_got (λ k. lines k.body) d.procs p h.process h.is)
        (subst (λ n. Contains (flat_map (line_breaks (owners_of d (texts_of d) reaches) (funcs d) n) (placed (texts_of d).tasks (reach_at reaches n) (lines h.process.body))) r) z
        (con_flat (line_breaks (owners_of d (texts_of d) reaches) (funcs d) p) (placed (texts_of d).tasks (reach_at reaches p) (lines h.process.body)) (line_of x) r (own_line d reaches all h real) c)))

    at_disable : (p m : ℕ) (at : Place) (h : HasInPlace d p (Disable at m)) → not (is_owner p (owner_at (owners_of d (texts_of d) reaches) m)) ≡ true → Contains (place_breaks d (texts_of d) reaches) (break_at 53 at)
    at_disable p m at h e =
        at_line p (Disable at m) (break_at 53 at) h refl
        (Contains-append_left (only_if (is_misplaced (owners_of d (texts_of d) reaches) p (form_of (Disable at m))) 53 at) (only_if (calls_import (funcs d) (line_of (Disable at m))) 62 at) (break_at 53 at)
        (is_only (not (is_owner p (owner_at (owners_of d (texts_of d) reaches) m))) 53 at e))

    pub disable_broken : (at : Place) → DisablesWrongly d at → Contains (place_breaks d (texts_of d) reaches) (break_at 53 at)
    disable_broken at (calls.in_function {g = g} {m = m} c h) =
        Contains-append_left (process_breaks (owners_of d (texts_of d) reaches) (funcs d) (texts_of d).tasks reaches 0 (texts_of d).procs ++ flat_map (breaks_by is_disable 53) (texts_of d).funcs) (breaks_by (calls_import (funcs d)) 62 (texts_of d).nets) (break_at 53 at)
        (Contains-append_right (process_breaks (owners_of d (texts_of d) reaches) (funcs d) (texts_of d).tasks reaches 0 (texts_of d).procs) (flat_map (breaks_by is_disable 53) (texts_of d).funcs) (break_at 53 at)
        (among_broken (λ f. f.body) d.funcs g is_disable 53 (Disable at m) c h refl refl))
    disable_broken at (calls.not_own {p = p} {m = m} h n) = at_disable p m at h (wrong p m (λ part rest. n part))
    disable_broken at (calls.also_other {p = p} {q = q} {m = m} h n part) = at_disable p m at h (wrong p m (λ own rest. n (sym (rest q part))))

    pub host_broken : (at : Place) → CallsHostInside d at → Contains (place_breaks d (texts_of d) reaches) (break_at 62 at)
    host_broken _ (calls.inside_statement {p = p} {f = f} {i = i} {x = x} {e = e} h c k n) =
        at_line p x (break_at 62 (place_of_statement x)) h (has_own x e c)
        (Contains-append_right (only_if (is_misplaced (owners_of d (texts_of d) reaches) p (form_of x)) 53 (place_of_statement x)) (only_if (calls_import (funcs d) (line_of x)) 62 (place_of_statement x)) (break_at 62 (place_of_statement x))
        (is_only (calls_import (funcs d) (line_of x)) 62 (place_of_statement x)
        (subst (λ l. list_any (is_import (funcs d)) l ≡ true) (sym (own_is x)) (of_calls d (own_expressions x) e f i c k n))))
    host_broken _ (calls.inside_net {f = f} {i = i} {net = net} {e = e} c j k n) =
        Contains-append_right (process_breaks (owners_of d (texts_of d) reaches) (funcs d) (texts_of d).tasks reaches 0 (texts_of d).procs ++ flat_map (breaks_by is_disable 53) (texts_of d).funcs) (breaks_by (calls_import (funcs d)) 62 (texts_of d).nets) (break_at 62 net.place)
        (net_broken d net e (calls_import (funcs d)) 62 c j (subst (λ l. list_any (is_import (funcs d)) l ≡ true) (sym (one_named e)) (of_calls d (e ∷ []) e f i (con_head e []) k n)))

    -- ---- back

    abbrev pub Wrong : Refusal → Type 0
    Wrong r = ((r.rule.0 ≡ 53) × DisablesWrongly d r.place) ⊎ ((r.rule.0 ≡ 62) × CallsHostInside d r.place)

    disable_form : (p : ℕ) (x : Statement) → HasInPlace d p x → is_misplaced (owners_of d (texts_of d) reaches) p (form_of x) ≡ true → DisablesWrongly d (place_of_statement x)
    disable_form p (Disable at m) h e = misplaced p m at h e
    disable_form p Null h e = cc
    disable_form p Skip h e = cc
    disable_form p (Seq a b) h e = cc
    disable_form p (Block at None body) h e = cc
    disable_form p (Block at (Some n) body) h e = cc
    disable_form p (Assign at to v true) h e = cc
    disable_form p (Assign at to v false) h e = cc
    disable_form p (If at test a b) h e = cc
    disable_form p (Case at on arms) h e = cc
    disable_form p (Arm on labels body others) h e = cc
    disable_form p (For at v first test next body) h e = cc
    disable_form p (While at test body) h e = cc
    disable_form p (Repeat at count body) h e = cc
    disable_form p (Forever at body) h e = cc
    disable_form p (Wait at falling) h e = cc
    disable_form p (Enable at t ins outs) h e = cc
    disable_form p (Host at f ins result outs) h e = cc

    function_form : (g : _) (x : Statement) → Contains d.funcs g → Holds g.body x → is_disable (line_of x) ≡ true → DisablesWrongly d (place_of_statement x)
    function_form g (Disable at m) c h e = calls.in_function c h
    function_form g Null c h e = cc
    function_form g Skip c h e = cc
    function_form g (Seq a b) c h e = cc
    function_form g (Block at None body) c h e = cc
    function_form g (Block at (Some n) body) c h e = cc
    function_form g (Assign at to v true) c h e = cc
    function_form g (Assign at to v false) c h e = cc
    function_form g (If at test a b) c h e = cc
    function_form g (Case at on arms) c h e = cc
    function_form g (Arm on labels body others) c h e = cc
    function_form g (For at v first test next body) c h e = cc
    function_form g (While at test body) c h e = cc
    function_form g (Repeat at count body) c h e = cc
    function_form g (Forever at body) c h e = cc
    function_form g (Wait at falling) c h e = cc
    function_form g (Enable at t ins outs) c h e = cc
    function_form g (Host at f ins result outs) c h e = cc

    statement_wrong : (p : ℕ) (x : Statement) (r : Refusal) → HasInPlace d p x → Contains (line_breaks (owners_of d (texts_of d) reaches) (funcs d) p (line_of x)) r → Wrong r
    statement_wrong p x r h c =
        go (Contains-append_cases (only_if (is_misplaced (owners_of d (texts_of d) reaches) p (form_of x)) 53 (place_of_statement x)) (only_if (calls_import (funcs d) (line_of x)) 62 (place_of_statement x)) r c)
      where
        go : Contains (only_if (is_misplaced (owners_of d (texts_of d) reaches) p (form_of x)) 53 (place_of_statement x)) r ⊎ Contains (only_if (calls_import (funcs d) (line_of x)) 62 (place_of_statement x)) r → Wrong r
        go (inl k) =
            let o = only (is_misplaced (owners_of d (texts_of d) reaches) p (form_of x)) 53 (place_of_statement x) r k in
            inl (ap (λ z. z.rule.0) (sym o.1), subst (λ z. DisablesWrongly d z.place) o.1 (disable_form p x h o.0))
        go (inr k) =
            let o = only (calls_import (funcs d) (line_of x)) 62 (place_of_statement x) r k in
            let i = calls_of d (own_expressions x) (subst (λ l. list_any (is_import (funcs d)) l ≡ true) (own_is x) o.0) in
            inr (ap (λ z. z.rule.0) (sym o.1), subst (λ z. CallsHostInside d z.place) o.1 (calls.inside_statement h i.there i.calls i.number))

    process_wrong : (r : Refusal) → ProcessAt d (owners_of d (texts_of d) reaches) reaches 0 (texts_of d).procs r → Wrong r
    process_wrong r m =
        let z : 0 + m.index ≡ m.index = omega arith in
        let k = subst (λ n. Contains (flat_map (line_breaks (owners_of d (texts_of d) reaches) (funcs d) n) (placed (texts_of d).tasks (reach_at reaches n) m.text)) r) z m.breaks in
        let a = un_flat (line_breaks (owners_of d (texts_of d) reaches) (funcs d) m.index) (placed (texts_of d).tasks (reach_at reaches m.index) m.text) r k in
        let h = had d reaches all m.index m.text a.0 m.is a.1 in
        statement_wrong m.index h.statement r h.has (subst (λ l. Contains (line_breaks (owners_of d (texts_of d) reaches) (funcs d) m.index l) r) (sym h.is) a.2)

    function_wrong : (r : Refusal) → BrokenAmong (λ f. f.body) d.funcs is_disable 53 r → Wrong r
    function_wrong r b = inl (ap (λ z. z.rule.0) (sym b.broken.is), subst (λ z. DisablesWrongly d z.place) b.broken.is (function_form b.one b.broken.statement b.there b.broken.held b.broken.found))

    net_wrong : (r : Refusal) → BrokenNet d (calls_import (funcs d)) 62 r → Wrong r
    net_wrong r b =
        let i = calls_of d (b.value ∷ []) (subst (λ l. list_any (is_import (funcs d)) l ≡ true) (one_named b.value) b.found) in
        inr (ap (λ z. z.rule.0) (sym b.is), subst (λ z. CallsHostInside d z.place) b.is (calls.inside_net b.there (b.has ∙ ap Some (only_one b.value i.whole i.there)) i.calls i.number))

    pub broken_place : (r : Refusal) → Contains (place_breaks d (texts_of d) reaches) r → Wrong r
    broken_place r c =
        first (Contains-append_cases (process_breaks (owners_of d (texts_of d) reaches) (funcs d) (texts_of d).tasks reaches 0 (texts_of d).procs ++ flat_map (breaks_by is_disable 53) (texts_of d).funcs) (breaks_by (calls_import (funcs d)) 62 (texts_of d).nets) r c)
      where
        second : Contains (process_breaks (owners_of d (texts_of d) reaches) (funcs d) (texts_of d).tasks reaches 0 (texts_of d).procs) r ⊎ Contains (flat_map (breaks_by is_disable 53) (texts_of d).funcs) r → Wrong r
        second (inl k) = process_wrong r (at_process d (owners_of d (texts_of d) reaches) reaches 0 (texts_of d).procs r k)
        second (inr k) = function_wrong r (broken_among (λ f. f.body) d.funcs is_disable 53 r k)

        first : Contains (process_breaks (owners_of d (texts_of d) reaches) (funcs d) (texts_of d).tasks reaches 0 (texts_of d).procs ++ flat_map (breaks_by is_disable 53) (texts_of d).funcs) r ⊎ Contains (breaks_by (calls_import (funcs d)) 62 (texts_of d).nets) r → Wrong r
        first (inl k) = second (Contains-append_cases (process_breaks (owners_of d (texts_of d) reaches) (funcs d) (texts_of d).tasks reaches 0 (texts_of d).procs) (flat_map (breaks_by is_disable 53) (texts_of d).funcs) r k)
        first (inr k) = net_wrong r (broken_net d (calls_import (funcs d)) 62 r k)
