-- The steps that are read are steps of a source, and have so many tokens as these have at least.
use Rattle.std.proofs.Common.{◌≡◌, ◌≤◌, ◌+◌, ◌*◌, ◌++◌, ℕ, suc, List, [], ◌∷◌, Some, None, Bool, true, length, slice_get, refl, sym, ap, subst, ◌∙◌, arith}
use Rattle.std.specs.Prelude.{◌==◌, ◌&&◌, nat_le, option_map}
use Rattle.std.specs.List.{All, sum_by}
use Rattle.std.proofs.lemmas.Bool.{and_parts}
use Rattle.std.proofs.lemmas.List.Elements.{All-push}
use Rattle.std.proofs.lemmas.List.Sums.{sum_by_push}
use Rattle.std.proofs.lemmas.Option.{slice_get-map}
use Rattle.xt_base.specs.declared.refusals.Place.{Place}
use Rattle.vl_tree.specs.declared.terminals.Terminal.{Terminal}
use Rattle.vl_tree.specs.declared.exprs.Expr.{Expr}
use Rattle.vl_tree.specs.declared.exprs.Select.{Select}
use Rattle.vl_tree.specs.declared.exprs.Lvalue.{Lvalue, out-Lvalue}
use Rattle.vl_tree.specs.declared.exprs.Lvalue.TheOpen as target
use Rattle.vl_tree.specs.declared.exprs.Lvalue.TheViews as targets
use Rattle.vl_tree.specs.declared.statements.Stmt.{Stmt, out-Stmt}
use Rattle.vl_tree.specs.declared.statements.Citem.{Citem}
use Rattle.vl_tree.specs.declared.statements.Citem.TheOpen as layer
use Rattle.vl_tree.specs.declared.statements.Citem.TheViews as views
use Rattle.vl_tree.specs.declared.statements.Edge.TheVariants as edges
use Rattle.vl_tree.specs.Expressions as grammar
use Rattle.vl_tree.specs.Expressions.{IsExpr, IsLvalue, IsSelects}
use Rattle.vl_tree.specs.Statements as statements
use Rattle.vl_tree.specs.Statements.{IsStmt, IsStmts}
use Rattle.xt_compile.specs.declared.first.reader.ports.Ports.{Ports}
use Rattle.xt_compile.specs.declared.first.source.Port.{Port}
use Rattle.xt_compile.specs.declared.first.source.Sum.{Sum}
use Rattle.xt_compile.specs.declared.first.source.Step.{Step}
use Rattle.xt_compile.specs.declared.first.source.Step.TheVariants.{Wait, Assign}
use Rattle.xt_compile.specs.first.Source.{IsStep, tokens_of, widths}
use Rattle.xt_compile.specs.first.Tree.{◌>>=◌, most_operators, spells, found, place_at, null_layer, is_null, assign_of, target_layer, target_of, sum_of, assigned, step_layer, step_of, steps_from}
use Rattle.xt_compile.proofs.first_form.Somes.{some_one, none_some, bind_some, test_some}
use Rattle.xt_compile.proofs.first_form.NumberTests.{number_is}
use Rattle.xt_compile.proofs.first_form.Found.{found_is}
use Rattle.xt_compile.proofs.first_form.FormSums.{sum_right, sum_tokens}

-- ---- where statements of the grammar stand, by their first node

module _ (ls : List Terminal) (names : List (List ℕ)) where
  abbrev pub Spans : ℕ → ℕ → layer.Stmt-F Citem Stmt → Type 0
  Spans i j (layer.Null at) = suc i ≡ j
  Spans i j (layer.Nonblocking at t e) = (n : ℕ) × (k : ℕ) × (m : ℕ) × IsLvalue ls n i k t × IsExpr ls n (k + 1) m e × (m + 1 ≡ j)
  Spans i j (layer.Wait at edge name s) = (n : ℕ) × (d : Bool) × IsStmt ls names n d (i + 5) j s
  Spans i j (layer.Block at scope body) = (n : ℕ) × (a : ℕ) × (b : ℕ) × IsStmts ls names n a b body × (b + 1 ≡ j)
  Spans i j _ = Unit {0}

  pub spans : {n i j : ℕ} {d : Bool} {s : Stmt} → IsStmt ls names n d i j s → Spans i j (out-Stmt s)
  spans {i = i} {j = j} (statements.null p) = subst (Spans i j) (sym (views.outs-Null i)) (omega arith)
  spans {i = i} {j = j} (statements.blocking {t = t} {e = e} p q r x) = subst (Spans i j) (sym (views.outs-Blocking i t e)) tt
  spans {i = i} {j = j} (statements.nonblocking {n = n} {j = k} {k = m} {t = t} {e = e} p q r x) = subst (Spans i j) (sym (views.outs-Nonblocking i t e)) (n, k, m, p, r, refl)
  spans {i = i} {j = j} (statements.if_alone {e = e} {s = s} p q r x y) = subst (Spans i j) (sym (views.outs-If i e s None)) tt
  spans {i = i} {j = j} (statements.if_else {e = e} {s = s} {t = t} p q r x y z w) = subst (Spans i j) (sym (views.outs-If i e s (Some t))) tt
  spans {i = i} {j = j} (statements.case {e = e} {cs = cs} p q r x y z w) = subst (Spans i j) (sym (views.outs-Case i e cs)) tt
  spans {i = i} {j = j} (statements.for {k = k} {a = a} {b = b} {c = c} {s = s} p q r x y z w p2 q2 r2 x2 y2 z2 w2) = subst (Spans i j) (sym (views.outs-For i (i + 2) a b (k + 1) c s)) tt
  spans {i = i} {j = j} (statements.while {e = e} {s = s} p q r x y) = subst (Spans i j) (sym (views.outs-While i e s)) tt
  spans {i = i} {j = j} (statements.repeat {e = e} {s = s} p q r x y) = subst (Spans i j) (sym (views.outs-Repeat i e s)) tt
  spans {i = i} {j = j} (statements.forever {s = s} p q) = subst (Spans i j) (sym (views.outs-Forever i s)) tt
  spans {i = i} {j = j} (statements.block {n = n} {j = a} {k = b} {scope = scope} {body = body} p q r x) = subst (Spans i j) (sym (views.outs-Block i scope body)) (n, a, b, r, refl)
  spans {i = i} {j = j} (statements.wait {n = n} {dangling = d} {edge = edge} {s = s} p q r x y z) = subst (Spans i j) (sym (views.outs-Wait i edge (i + 3) s)) (n, d, z)
  spans {i = i} {j = j} (statements.enable {args = args} p q r) = subst (Spans i j) (sym (views.outs-Enable i i args)) tt
  spans {i = i} {j = j} (statements.disable {path = path} p q r) = subst (Spans i j) (sym (views.outs-Disable i path)) tt

  null_spans : (x : layer.Stmt-F Citem Stmt) (i j : ℕ) → null_layer x ≡ true → Spans i j x → suc i ≡ j
  null_spans (layer.Null at) i j e s = s
  null_spans x i j e s = cc

  module _ (places : List Place) (ps : Ports) (clock : List ℕ) where
    -- ---- targets

    target_width : (x : target.Lvalue-F Lvalue) (f : ℕ × ℕ) → target_layer names ps x ≡ Some f → slice_get (widths ps.outputs) f.0 ≡ Some f.1
    target_width (target.Name at name []) f e =
        let b = bind_some (slice_get names name) (λ bytes. found bytes ps.outputs) f e in
        let (port, there, named, width) = found_is b.val ps.outputs f b.rest in
        slice_get-map (λ (p : Port). p.width) ps.outputs f.0 ∙ ap (option_map (λ (p : Port). p.width)) there ∙ ap (λ (w : ℕ). Some w) width
    target_width x f e = absurd (none_some e)

    name_tokens : {n i k : ℕ} {ss : List Select} → IsSelects ls n (i + 1) k ss → (f : ℕ × ℕ) → target_layer names ps (target.Name i i ss) ≡ Some f → suc i ≤ k
    name_tokens grammar.no_select f e = omega arith
    name_tokens (grammar.one_select h) f e = absurd (none_some e)
    name_tokens (grammar.two_selects h g) f e = absurd (none_some e)

    target_tokens : {n i k : ℕ} {t : Lvalue} → IsLvalue ls n i k t → (f : ℕ × ℕ) → target_of names ps t ≡ Some f → suc i ≤ k
    target_tokens {i = i} (grammar.target {ss = ss} p h) f e = name_tokens h f (sym (ap (target_layer names ps) (targets.outs-Name i i ss)) ∙ e)
    target_tokens {i = i} (grammar.targets {ts = ts} p h q) f e = absurd (none_some (sym (ap (target_layer names ps) (targets.outs-Concat i ts)) ∙ e))

    -- ---- assignments

    pub record IsAssigned (place : Place) (t : Lvalue) (value : Expr) (step : Step) : Type 0 where
      pub output : ℕ × ℕ
      pub sum : Sum
      pub to : target_of names ps t ≡ Some output
      pub from : sum_of names ps value ≡ Some sum
      pub width : sum.width ≡ output.1
      pub is : Assign place output.0 sum ≡ step

    assigned_is : (place : Place) (t : Lvalue) (value : Expr) (step : Step) → assigned names ps place t value ≡ Some step → IsAssigned place t value step
    assigned_is place t value step e =
        let f = bind_some (target_of names ps t) (λ output. sum_of names ps value >>= assign_of place output) step e in
        let sum = bind_some (sum_of names ps value) (assign_of place f.val) step f.rest in
        let t = test_some (sum.val.width == f.val.1 && nat_le (length sum.val.more) most_operators) (Some (Assign place f.val.0 sum.val)) step sum.rest in
        let parts = and_parts (sum.val.width == f.val.1) (nat_le (length sum.val.more) most_operators) t.holds in
        record { output = f.val; sum = sum.val; to = f.first; from = sum.first; width = number_is sum.val.width f.val.1 parts.0; is = some_one t.rest }

    -- ---- steps

    step_right : (x : layer.Stmt-F Citem Stmt) (step : Step) → step_layer names places ps clock x ≡ Some step → IsStep ps.inputs ps.outputs step
    step_right (layer.Wait at edges.Posedge name body) step e =
        let t = test_some (spells names name clock && is_null body) (Some (Wait (place_at places at))) step e in
        subst (IsStep ps.inputs ps.outputs) (some_one t.rest) tt
    step_right (layer.Nonblocking at t value) step e =
        let a = assigned_is (place_at places at) t value step e in
        subst (IsStep ps.inputs ps.outputs) a.is (target_width (out-Lvalue t) a.output a.to ∙ ap (λ (w : ℕ). Some w) (sym a.width), sum_right names ps value a.sum a.from)
    step_right x step e = absurd (none_some e)

    step_tokens : (x : layer.Stmt-F Citem Stmt) (i j : ℕ) (step : Step) → step_layer names places ps clock x ≡ Some step → Spans i j x → i + tokens_of step ≤ j
    step_tokens (layer.Wait at edges.Posedge name body) i j step e s =
        let t = test_some (spells names name clock && is_null body) (Some (Wait (place_at places at))) step e in
        let parts = and_parts (spells names name clock) (is_null body) t.holds in
        let end = null_spans (out-Stmt body) (i + 5) j parts.1 (spans s.2) in
        let size : 6 ≡ tokens_of step = ap tokens_of (some_one t.rest) in
        omega (arith, end, size)
    step_tokens (layer.Nonblocking at t value) i j step e s =
        let a = assigned_is (place_at places at) t value step e in
        let left = target_tokens s.3 a.output a.to in
        let right = sum_tokens names ps ls s.4 a.sum a.from in
        let end = s.5 in
        let size : 4 + 2 * length a.sum.more ≡ tokens_of step = ap tokens_of a.is in
        omega (arith, left, right, end, size)
    step_tokens x i j step e s = absurd (none_some e)

    pub steps_right : (steps : List Step) (body : List Stmt) (all : List Step) → steps_from names places ps clock steps body ≡ Some all → All (IsStep ps.inputs ps.outputs) steps → All (IsStep ps.inputs ps.outputs) all
    steps_right steps [] all e are = subst (All (IsStep ps.inputs ps.outputs)) (some_one e) are
    steps_right steps (s ∷ body) all e are =
        let b = bind_some (step_of names places ps clock s) (λ step. steps_from names places ps clock (steps ++ step ∷ []) body) all e in
        steps_right (steps ++ b.val ∷ []) body all b.rest (All-push (IsStep ps.inputs ps.outputs) steps b.val are (step_right (out-Stmt s) b.val b.first))

    pub steps_tokens : {n i j : ℕ} {body : List Stmt} → IsStmts ls names n i j body → (steps all : List Step) → steps_from names places ps clock steps body ≡ Some all → i + sum_by tokens_of all ≤ j + sum_by tokens_of steps
    steps_tokens statements.no_stmt steps all e = let same = ap (sum_by tokens_of) (some_one e) in omega (arith, same)
    steps_tokens {i = i} (statements.more_stmts {j = k} {s = s} {ss = ss} h more) steps all e =
        let b = bind_some (step_of names places ps clock s) (λ step. steps_from names places ps clock (steps ++ step ∷ []) ss) all e in
        let here = step_tokens (out-Stmt s) i k b.val b.first (spans h) in
        let later = steps_tokens more (steps ++ b.val ∷ []) all b.rest in
        let pushed = sum_by_push tokens_of steps b.val in
        omega (arith, here, later, pushed)
