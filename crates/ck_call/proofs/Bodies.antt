-- Where a rule's breaks stand that a test of lines finds in all bodies and nets.
use Rattle.std.proofs.Common.{◌≡◌, ◌⊎◌, inl, inr, ℕ, Bool, true, List, [], ◌∷◌, ◌++◌, map, Some, None, Option, refl, sym, ◌∙◌, ap, subst}
use Rattle.std.specs.Prelude.{Contains, flat_map}
use Rattle.std.proofs.lemmas.List.Elements.{Contains-append_left, Contains-append_right, Contains-append_cases}
use Rattle.xt_base.specs.declared.refusals.Place.{Place}
use Rattle.xt_base.specs.declared.refusals.Refusal.{Refusal}
use Rattle.el_design.specs.Plain.{Expr, Statement, FlatNet, Flat}
use Rattle.el_design.specs.Names.{place_of_statement}
use Rattle.el_design.specs.InPlace.{Holds}
use Rattle.el_design.specs.Calls as calls
use Rattle.el_design.specs.Calls.{InText, BodyIs, Routine, TaskOf, FunctionOf}
use Rattle.el_design.proofs.OrderLists.{con_nil, con_head, con_cases}
use Rattle.el_design.proofs.OrderPlaces.{con_got, got_con, con_map, con_flat}
use Rattle.el_design.proofs.Texts.{holds_is}
use Rattle.ck_call.specs.declared.lines.Line.{Line}
use Rattle.ck_call.specs.inner.Lines.{line_of, lines}
use Rattle.ck_call.specs.inner.Texts.{value_lines, net_lines, value_line, texts_of}
use Rattle.ck_call.specs.inner.Breaks.{break_at, breaks_by, text_breaks}
use Rattle.ck_call.proofs.Members.{un_map, un_flat, broken_line, line_broken}
use Rattle.ck_call.proofs.LinesAre.{is_real, has_line, line_is}

-- ---- in one body

pub body_broken : (test : Line → Bool) (rule : ℕ) (s x : Statement) → Holds s x → is_real x ≡ true → test (line_of x) ≡ true → Contains (breaks_by test rule (lines s)) (break_at rule (place_of_statement x))
body_broken test rule s x h r e = line_broken test rule (lines s) (line_of x) (has_line s x r ((holds_is s x).0 h)) e

-- a statement of a body at which a test finds a break
pub record Broken (test : Line → Bool) (rule : ℕ) (s : Statement) (r : Refusal) : Type 0 where
  pub statement : Statement
  pub held : Holds s statement
  pub real : is_real statement ≡ true
  pub found : test (line_of statement) ≡ true
  pub is : break_at rule (place_of_statement statement) ≡ r

pub broken_body : (test : Line → Bool) (rule : ℕ) (s : Statement) (r : Refusal) → Contains (breaks_by test rule (lines s)) r → Broken test rule s r
broken_body test rule s r c =
    let b = broken_line test rule (lines s) r c in
    let l = line_is s b.0 b.1 in
    record { statement = l.statement; held = (holds_is s l.statement).1 l.there; real = l.real; found = subst (λ k. test k ≡ true) (sym l.is) b.2; is = ap (λ k. break_at rule k.at) l.is ∙ b.3 }

-- ---- in all of a list

pub among_broken : {X : Type 0} (body : X → Statement) (xs : List X) (a : X) (test : Line → Bool) (rule : ℕ) (x : Statement) → Contains xs a → Holds (body a) x → is_real x ≡ true → test (line_of x) ≡ true →
    Contains (flat_map (breaks_by test rule) (map (λ y. lines (body y)) xs)) (break_at rule (place_of_statement x))
among_broken body xs a test rule x c h r e =
    con_flat (breaks_by test rule) (map (λ y. lines (body y)) xs) (lines (body a)) (break_at rule (place_of_statement x)) (con_map (λ y. lines (body y)) xs a c) (body_broken test rule (body a) x h r e)

pub record BrokenAmong {X : Type 0} (body : X → Statement) (xs : List X) (test : Line → Bool) (rule : ℕ) (r : Refusal) : Type 0 where
  pub one : X
  pub there : Contains xs one
  pub broken : Broken test rule (body one) r

pub broken_among : {X : Type 0} (body : X → Statement) (xs : List X) (test : Line → Bool) (rule : ℕ) (r : Refusal) → Contains (flat_map (breaks_by test rule) (map (λ y. lines (body y)) xs)) r → BrokenAmong body xs test rule r
broken_among body xs test rule r c =
    let a = un_flat (breaks_by test rule) (map (λ y. lines (body y)) xs) r c in
    let b = un_map (λ y. lines (body y)) xs a.0 a.1 in
    record { one = b.0; there = b.1; broken = broken_body test rule (body b.0) r (subst (λ l. Contains (breaks_by test rule l) r) (sym b.2) a.2) }

-- ---- in nets

value_in : (at : Place) (o : Option Expr) (e : Expr) → o ≡ Some e → Contains (value_lines at o) (value_line at e)
value_in at None e i = cc
value_in at (Some f) e i = let h : f ≡ e = cc in subst (λ g. Contains (value_line at f ∷ []) (value_line at g)) h (con_head (value_line at f) [])

in_value : (at : Place) (o : Option Expr) (l : Line) → Contains (value_lines at o) l → (e : Expr) × (o ≡ Some e) × (value_line at e ≡ l)
in_value at None l c = absurd (con_nil l c)
in_value at (Some f) l c = go (con_cases (value_line at f) l [] c)
  where
    go : (value_line at f ≡ l) ⊎ Contains [] l → (e : Expr) × (Some f ≡ Some e) × (value_line at e ≡ l)
    go (inl e) = (f, refl, e)
    go (inr k) = absurd (con_nil l k)

pub net_broken : (d : Flat) (net : FlatNet) (e : Expr) (test : Line → Bool) (rule : ℕ) → Contains d.nets net → net.value ≡ Some e → test (value_line net.place e) ≡ true →
    Contains (breaks_by test rule (flat_map net_lines d.nets)) (break_at rule net.place)
net_broken d net e test rule c i h = line_broken test rule (flat_map net_lines d.nets) (value_line net.place e) (con_flat net_lines d.nets net (value_line net.place e) c (value_in net.place net.value e i)) h

pub record BrokenNet (d : Flat) (test : Line → Bool) (rule : ℕ) (r : Refusal) : Type 0 where
  pub net : FlatNet
  pub value : Expr
  pub there : Contains d.nets net
  pub has : net.value ≡ Some value
  pub found : test (value_line net.place value) ≡ true
  pub is : break_at rule net.place ≡ r

pub broken_net : (d : Flat) (test : Line → Bool) (rule : ℕ) (r : Refusal) → Contains (breaks_by test rule (flat_map net_lines d.nets)) r → BrokenNet d test rule r
broken_net d test rule r c =
    let b = broken_line test rule (flat_map net_lines d.nets) r c in
    let n = un_flat net_lines d.nets b.0 b.1 in
    let v = in_value n.0.place n.0.value b.0 n.2 in
    record { net = n.0; value = v.0; there = n.1; has = v.1; found = subst (λ k. test k ≡ true) (sym v.2) b.2; is = ap (λ k. break_at rule k.at) v.2 ∙ b.3 }

-- ---- in all texts

pub text_broken : (d : Flat) (test : Line → Bool) (rule : ℕ) (x : Statement) → InText d x → is_real x ≡ true → test (line_of x) ≡ true → Contains (text_breaks test rule (texts_of d)) (break_at rule (place_of_statement x))
text_broken d test rule x (calls.in_process {process = p} c h) r e =
    let t = texts_of d in
    Contains-append_left (flat_map (breaks_by test rule) t.procs ++ flat_map (breaks_by test rule) t.tasks ++ flat_map (breaks_by test rule) t.funcs) (breaks_by test rule t.nets) _
    (Contains-append_left (flat_map (breaks_by test rule) t.procs ++ flat_map (breaks_by test rule) t.tasks) (flat_map (breaks_by test rule) t.funcs) _
    (Contains-append_left (flat_map (breaks_by test rule) t.procs) (flat_map (breaks_by test rule) t.tasks) _ (among_broken (λ p. p.body) d.procs p test rule x c h r e)))
text_broken d test rule x (calls.in_routine (calls.task_body {t = n} {task = task} i) h) r e =
    let t = texts_of d in
    Contains-append_left (flat_map (breaks_by test rule) t.procs ++ flat_map (breaks_by test rule) t.tasks ++ flat_map (breaks_by test rule) t.funcs) (breaks_by test rule t.nets) _
    (Contains-append_left (flat_map (breaks_by test rule) t.procs ++ flat_map (breaks_by test rule) t.tasks) (flat_map (breaks_by test rule) t.funcs) _
    (Contains-append_right (flat_map (breaks_by test rule) t.procs) (flat_map (breaks_by test rule) t.tasks) _ (among_broken (λ p. p.body) d.tasks task test rule x (con_got d.tasks n task i) h r e)))
text_broken d test rule x (calls.in_routine (calls.function_body {f = n} {g = g} i) h) r e =
    let t = texts_of d in
    Contains-append_left (flat_map (breaks_by test rule) t.procs ++ flat_map (breaks_by test rule) t.tasks ++ flat_map (breaks_by test rule) t.funcs) (breaks_by test rule t.nets) _
    (Contains-append_right (flat_map (breaks_by test rule) t.procs ++ flat_map (breaks_by test rule) t.tasks) (flat_map (breaks_by test rule) t.funcs) _
    (among_broken (λ p. p.body) d.funcs g test rule x (con_got d.funcs n g i) h r e))

pub value_broken : (d : Flat) (test : Line → Bool) (rule : ℕ) (net : FlatNet) (e : Expr) → Contains d.nets net → net.value ≡ Some e → test (value_line net.place e) ≡ true → Contains (text_breaks test rule (texts_of d)) (break_at rule net.place)
value_broken d test rule net e c i h =
    let t = texts_of d in
    Contains-append_right (flat_map (breaks_by test rule) t.procs ++ flat_map (breaks_by test rule) t.tasks ++ flat_map (breaks_by test rule) t.funcs) (breaks_by test rule t.nets) _ (net_broken d net e test rule c i h)

-- where a break of all texts stands
pub data BrokenText (d : Flat) (test : Line → Bool) (rule : ℕ) (r : Refusal) : Type 0 where
  at_statement : (x : Statement) → InText d x → is_real x ≡ true → test (line_of x) ≡ true → break_at rule (place_of_statement x) ≡ r → BrokenText d test rule r
  at_net : BrokenNet d test rule r → BrokenText d test rule r

of_process : (d : Flat) (test : Line → Bool) (rule : ℕ) (r : Refusal) → BrokenAmong (λ p. p.body) d.procs test rule r → BrokenText d test rule r
of_process d test rule r b = at_statement b.broken.statement (calls.in_process b.there b.broken.held) b.broken.real b.broken.found b.broken.is

of_task : (d : Flat) (test : Line → Bool) (rule : ℕ) (r : Refusal) → BrokenAmong (λ p. p.body) d.tasks test rule r → BrokenText d test rule r
of_task d test rule r b = let g = got_con d.tasks b.one b.there in at_statement b.broken.statement (calls.in_routine (calls.task_body g.1) b.broken.held) b.broken.real b.broken.found b.broken.is

of_function : (d : Flat) (test : Line → Bool) (rule : ℕ) (r : Refusal) → BrokenAmong (λ p. p.body) d.funcs test rule r → BrokenText d test rule r
of_function d test rule r b = let g = got_con d.funcs b.one b.there in at_statement b.broken.statement (calls.in_routine (calls.function_body g.1) b.broken.held) b.broken.real b.broken.found b.broken.is

pub broken_text : (d : Flat) (test : Line → Bool) (rule : ℕ) (r : Refusal) → Contains (text_breaks test rule (texts_of d)) r → BrokenText d test rule r
broken_text d test rule r c = all (Contains-append_cases (ps ++ ts ++ fs) (breaks_by test rule (texts_of d).nets) r c)
  where
    ps : List Refusal
    ps = flat_map (breaks_by test rule) (texts_of d).procs

    ts : List Refusal
    ts = flat_map (breaks_by test rule) (texts_of d).tasks

    fs : List Refusal
    fs = flat_map (breaks_by test rule) (texts_of d).funcs

    two : Contains ps r ⊎ Contains ts r → BrokenText d test rule r
    two (inl k) = of_process d test rule r (broken_among (λ p. p.body) d.procs test rule r k)
    two (inr k) = of_task d test rule r (broken_among (λ p. p.body) d.tasks test rule r k)

    three : Contains (ps ++ ts) r ⊎ Contains fs r → BrokenText d test rule r
    three (inl k) = two (Contains-append_cases ps ts r k)
    three (inr k) = of_function d test rule r (broken_among (λ p. p.body) d.funcs test rule r k)

    all : Contains (ps ++ ts ++ fs) r ⊎ Contains (breaks_by test rule (texts_of d).nets) r → BrokenText d test rule r
    all (inl k) = three (Contains-append_cases (ps ++ ts) fs r k)
    all (inr k) = at_net (broken_net d test rule r k)
