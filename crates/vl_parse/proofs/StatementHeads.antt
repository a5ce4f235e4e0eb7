-- A statement is its head and the rest.
use Rattle.std.specs.Prelude.{if◌then◌else◌}
use Rattle.std.proofs.Common.{◌≡◌, ◌≢◌, ◌&&◌, ℕ, zero, suc, ◌+◌, ◌-◌, List, Bool, true, false, Result, Ok, Err, slice_get, length, refl, sym, ap, subst, ◌∙◌, arith}
use Rattle.vl_tree.specs.declared.terminals.Terminal.{Terminal}
use Rattle.vl_tree.specs.declared.terminals.Terminal.TheVariants as lex
use Rattle.vl_tree.specs.declared.exprs.Expr.{Expr}
use Rattle.vl_tree.specs.declared.exprs.Lvalue.{Lvalue}
use Rattle.vl_tree.specs.declared.statements.Stmt.{Stmt}
use Rattle.vl_tree.specs.declared.statements.Stmt.TheVariants as stmt
use Rattle.vl_tree.specs.declared.statements.Citem.{Citem}
use Rattle.vl_tree.specs.Places.{name_in}
use Rattle.vl_expr.specs.declared.found.ParseError.{ParseError}
use Rattle.vl_expr.specs.Classes.{is_at}
use Rattle.vl_expr.specs.Reading.{Reading, Gives, ◌>>=◌, past}
use Rattle.vl_expr.proofs.Turns.{gives_stuck, gives_along}
use Rattle.vl_expr.proofs.Primaries.{bind_at}
use Rattle.vl_parse.specs.declared.part.Part.{Part}
use Rattle.vl_parse.specs.declared.classes.Opening.{Opening}
use Rattle.vl_parse.specs.declared.classes.Opening.TheVariants as opening
use Rattle.vl_parse.specs.declared.simple.Right.{Right}
use Rattle.vl_parse.specs.declared.simple.Right.TheVariants as right
use Rattle.vl_parse.specs.declared.simple.Label.{Label}
use Rattle.vl_parse.specs.declared.simple.Label.TheVariants as label
use Rattle.vl_parse.specs.declared.simple.Head.{Head}
use Rattle.vl_parse.specs.declared.simple.Head.TheVariants as head
use Rattle.vl_parse.specs.declared.simple.Before.TheVariants as before
use Rattle.vl_parse.specs.declared.simple.Header.{Header}
use Rattle.vl_parse.specs.Input.{same_name}
use Rattle.vl_parse.specs.Parts.{part, single, behind, named, maybe_of}
use Rattle.vl_parse.specs.Declarations.{expr_at, exprs_at, paren_of, lvalue_of}
use Rattle.vl_parse.specs.Statements.{opening_of, enables, enable_of, named_of, disable_of, assign_of, blocking_of, nonblocking_of, header_end, for_of, opens_scope, scope_of, clock_of, next_citem, citem_of, labels_of, default_of, citems_from, citems_of, stmt_by, stmt_of}
use Rattle.vl_parse.specs.inner.Steps.{ended_of, made_of}
use Rattle.vl_parse.specs.inner.Heads.{right_of, assigned, assign_head, named_head, clauses_of, next_of, for_head, head_by, head_of, labelled, citem_by, citems_by, rest_of}
use Rattle.vl_parse.proofs.Steps.{bind_bind, test_bind, choice_bind, bind_like, test_like, choice_like, ended_bind, pair_bind, made_bind}

module _ (ls : List Terminal) (below : ℕ → Reading (Part Stmt)) (n : ℕ) where
  pub next_same : (defaulted : Bool) (at : ℕ) → next_citem ls below n defaulted at ≡ citem_by ls below n defaulted at
  next_same defaulted at =
      sym (choice_bind (defaulted && is_at ls at lex.Default) (Err at) (label_in at) (item_at at)
      ∙ choice_like (defaulted && is_at ls at lex.Default) (Err at) (label_in at >>= item_at at) (Err at) (citem_of ls below n at) refl
      (choice_bind (is_at ls at lex.Default) (default_in at) (made_of label.Exprs (ended_of ls lex.Colon (exprs_at ls n) at)) (item_at at)
      ∙ choice_like (is_at ls at lex.Default) (default_in at >>= item_at at)
      (made_of label.Exprs (ended_of ls lex.Colon (exprs_at ls n) at) >>= item_at at) (default_of ls below at) (labels_of ls below n at) refl
      (made_bind label.Exprs (ended_of ls lex.Colon (exprs_at ls n) at) (item_at at)
      ∙ ended_bind ls lex.Colon (exprs_at ls n) at (λ p. item_at at (part (label.Exprs p.tree) p.end)))))
    where
      default_in : ℕ → Reading (Part Label)
      default_in at = Ok (part (label.Default (is_at ls (at + 1) lex.Colon)) (behind ls lex.Colon (at + 1)))

      label_in : ℕ → Reading (Part Label)
      label_in at = if is_at ls at lex.Default then default_in at else made_of label.Exprs (ended_of ls lex.Colon (exprs_at ls n) at)

      item_at : ℕ → Part Label → Reading (Part Citem)
      item_at at l = below l.end >>= λ s. Ok (part (labelled at l.tree s.tree) s.end)

  citems_same : (at : ℕ) → citems_of ls below n at ≡ citems_by ls below n at
  citems_same at =
      ap (λ r. r >>= λ first. citems_from ls below n (length ls) (is_at ls at lex.Default) (single first)) (next_same false at)

  -- a whole statement has nothing behind it
  whole_rest : (at : ℕ) (r : Reading (Part Stmt)) → r ≡ (made_of head.Whole r >>= rest_of ls below n at)
  whole_rest at (Ok p) = refl
  whole_rest at (Err e) = refl

  assign_rest : (at : ℕ) → assign_of ls n at ≡ (assign_head ls n at >>= rest_of ls below n at)
  assign_rest at =
      bind_like (lvalue_of ls n at) _ (λ t. head_in t >>= rest_of ls below n at) right_rest
      ∙ sym (bind_bind (lvalue_of ls n at) head_in (rest_of ls below n at))
    where
      head_in : Part Lvalue → Reading (Part Head)
      head_in t = right_of ls n t.end >>= λ r. Ok (part (head.Whole (assigned at t.tree r.tree)) r.end)

      stmt_in : Part Lvalue → Part Right → Reading (Part Stmt)
      stmt_in t r = Ok (part (assigned at t.tree r.tree) r.end)

      value_in : ℕ → Reading (Part Expr)
      value_in from = ended_of ls lex.Semicolon (expr_at ls n) from

      right_rest : (t : Part Lvalue) →
          (if is_at ls t.end lex.Equals then blocking_of ls n at t else nonblocking_of ls n at t) ≡ (head_in t >>= rest_of ls below n at)
      right_rest t =
          sym (bind_bind (right_of ls n t.end) (λ r. Ok (part (head.Whole (assigned at t.tree r.tree)) r.end)) (rest_of ls below n at)
          ∙ choice_bind (is_at ls t.end lex.Equals) (made_of right.Blocking (value_in (t.end + 1)))
          (past ls t.end lex.LessEqual (made_of right.Nonblocking (value_in (t.end + 1)))) (stmt_in t)
          ∙ choice_like (is_at ls t.end lex.Equals) (made_of right.Blocking (value_in (t.end + 1)) >>= stmt_in t)
          (past ls t.end lex.LessEqual (made_of right.Nonblocking (value_in (t.end + 1))) >>= stmt_in t) (blocking_of ls n at t) (nonblocking_of ls n at t)
          (made_bind right.Blocking (value_in (t.end + 1)) (stmt_in t)
          ∙ ended_bind ls lex.Semicolon (expr_at ls n) (t.end + 1) (λ e. stmt_in t (part (right.Blocking e.tree) e.end)))
          (test_bind (is_at ls t.end lex.LessEqual) (made_of right.Nonblocking (value_in (t.end + 1))) t.end (stmt_in t)
          ∙ test_like (is_at ls t.end lex.LessEqual) (made_of right.Nonblocking (value_in (t.end + 1)) >>= stmt_in t)
          (expr_at ls n (t.end + 1) >>= λ e. past ls e.end lex.Semicolon (stmt_in t (part (right.Nonblocking e.tree) (e.end + 1)))) t.end
          (made_bind right.Nonblocking (value_in (t.end + 1)) (stmt_in t)
          ∙ ended_bind ls lex.Semicolon (expr_at ls n) (t.end + 1) (λ e. stmt_in t (part (right.Nonblocking e.tree) e.end)))))

  named_rest : (at : ℕ) → named_of ls n at ≡ (named_head ls n at >>= rest_of ls below n at)
  named_rest at =
      choice_like (enables (slice_get ls (at + 1))) (enable_of ls n at) (assign_of ls n at)
      (made_of head.Whole (enable_of ls n at) >>= rest_of ls below n at) (assign_head ls n at >>= rest_of ls below n at)
      (whole_rest at (enable_of ls n at)) (assign_rest at)
      ∙ sym (choice_bind (enables (slice_get ls (at + 1))) (made_of head.Whole (enable_of ls n at)) (assign_head ls n at) (rest_of ls below n at))

  module _ (names : List (List ℕ)) where
    module _ (at : ℕ) where
      abbrev loop : Part Header → Reading (Part Stmt)
      loop h = below h.end >>= λ s. Ok (part (stmt.For at (at + 2) h.tree.first h.tree.test h.tree.again h.tree.next s.tree) s.end)

      abbrev header_in : Part (Expr × Expr) → Part Expr → Header
      header_in c next = record { first = c.tree.0; test = c.tree.1; again = c.end; next = next.tree }

      abbrev header_at : Part (Expr × Expr) → Reading (Part Head)
      header_at c = next_of ls names n (at + 2) c.end >>= λ next. Ok (part (head.Before (before.For (header_in c next))) next.end)

      abbrev clauses_at : Part Expr → Part Expr → Part (Expr × Expr)
      clauses_at first test = part (first.tree, test.tree) (test.end + 1)

      closed : (c : Part (Expr × Expr)) (next : Part Expr) (b : Bool) →
          ((if b then Ok (part (header_in c next) (next.end + 1)) else Err next.end) >>= loop)
          ≡ (((if b then Ok (part next.tree (next.end + 1)) else Err next.end) >>= λ next. Ok (part (head.Before (before.For (header_in c next))) next.end))
          >>= rest_of ls below n at)
      closed c next true = refl
      closed c next false = refl

      again : (c : Part (Expr × Expr)) (named same equals : Bool) (value : Reading (Part Expr)) →
          ((if named then (if same then (if equals
          then (value >>= λ next. past ls next.end lex.CloseParen (Ok (part (header_in c next) (next.end + 1))))
          else Err (c.end + 1)) else Err c.end) else Err c.end) >>= loop)
          ≡ (((if named then (if same then (if equals
          then (value >>= λ next. past ls next.end lex.CloseParen (Ok (part next.tree (next.end + 1))))
          else Err (c.end + 1)) else Err c.end) else Err c.end) >>= λ next. Ok (part (head.Before (before.For (header_in c next))) next.end))
          >>= rest_of ls below n at)
      again c false same equals value = refl
      again c true false equals value = refl
      again c true true false value = refl
      again c true true true (Err e) = refl
      again c true true true (Ok next) = closed c next (is_at ls next.end lex.CloseParen)

      abbrev header_tail : Part Expr → Part Expr → ℕ → ℕ → Reading (Part Header)
      header_tail first test equals from =
          named ls (test.end + 1) (if same_name names (at + 2) (test.end + 1)
          then past ls equals lex.Equals
          (expr_at ls n from >>= λ next. past ls next.end lex.CloseParen (Ok (part (header_in (clauses_at first test) next) (next.end + 1))))
          else Err (test.end + 1))

      header_rest : (first test : Part Expr) →
          (header_end ls names n (at + 2) first.tree test >>= loop) ≡ (header_at (clauses_at first test) >>= rest_of ls below n at)
      header_rest first test =
          let one : test.end + 2 ≡ test.end + 1 + 1 = omega arith in
          let two : test.end + 3 ≡ test.end + 1 + 2 = omega arith in
          ap (λ k. header_tail first test k (test.end + 3) >>= loop) one ∙ ap (λ k. header_tail first test (test.end + 1 + 1) k >>= loop) two
          ∙ again (clauses_at first test) (name_in (slice_get ls (test.end + 1))) (same_name names (at + 2) (test.end + 1))
          (is_at ls (test.end + 1 + 1) lex.Equals) (expr_at ls n (test.end + 1 + 2))

      abbrev clause : Part Expr → ℕ → Reading (Part Stmt)
      clause first from = expr_at ls n from >>= λ test. past ls test.end lex.Semicolon (header_at (clauses_at first test) >>= rest_of ls below n at)

      second : (first : Part Expr) (r : Reading (Part Expr)) →
          ((r >>= λ test. past ls test.end lex.Semicolon (header_end ls names n (at + 2) first.tree test)) >>= loop)
          ≡ (r >>= λ test. past ls test.end lex.Semicolon (header_at (clauses_at first test) >>= rest_of ls below n at))
      second first (Err e) = refl
      second first (Ok test) =
          test_bind (is_at ls test.end lex.Semicolon) (header_end ls names n (at + 2) first.tree test) test.end loop
          ∙ test_like (is_at ls test.end lex.Semicolon) (header_end ls names n (at + 2) first.tree test >>= loop)
          (header_at (clauses_at first test) >>= rest_of ls below n at) test.end (header_rest first test)

      abbrev header_from : Part Expr → Reading (Part Header)
      header_from first = expr_at ls n (first.end + 1) >>= λ test. past ls test.end lex.Semicolon (header_end ls names n (at + 2) first.tree test)

      first_clause : (r : Reading (Part Expr)) →
          ((r >>= λ first. past ls first.end lex.Semicolon (header_from first)) >>= loop)
          ≡ (r >>= λ first. past ls first.end lex.Semicolon (clause first (first.end + 1)))
      first_clause (Err e) = refl
      first_clause (Ok first) =
          test_bind (is_at ls first.end lex.Semicolon) (header_from first) first.end loop
          ∙ test_like (is_at ls first.end lex.Semicolon) (header_from first >>= loop) (clause first (first.end + 1)) first.end
          (second first (expr_at ls n (first.end + 1)))

      abbrev value_in : ℕ → Reading (Part Expr)
      value_in from = ended_of ls lex.Semicolon (expr_at ls n) from

      abbrev behind_clauses : Part (Expr × Expr) → Reading (Part Stmt)
      behind_clauses c = header_at c >>= rest_of ls below n at

      clauses_rest : (from : ℕ) →
          ((clauses_of ls n from >>= header_at) >>= rest_of ls below n at)
          ≡ (expr_at ls n from >>= λ first. past ls first.end lex.Semicolon (clause first (first.end + 1)))
      clauses_rest from =
          bind_bind (clauses_of ls n from) header_at (rest_of ls below n at)
          ∙ pair_bind value_in value_in from behind_clauses
          ∙ ended_bind ls lex.Semicolon (expr_at ls n) from (λ a. value_in a.end >>= λ b. behind_clauses (part (a.tree, b.tree) b.end))
          ∙ bind_like (expr_at ls n from)
          (λ first. past ls first.end lex.Semicolon (value_in (first.end + 1) >>= λ b. behind_clauses (part (first.tree, b.tree) b.end)))
          (λ first. past ls first.end lex.Semicolon (clause first (first.end + 1)))
          (λ first. test_like (is_at ls first.end lex.Semicolon) (value_in (first.end + 1) >>= λ b. behind_clauses (part (first.tree, b.tree) b.end))
          (clause first (first.end + 1)) first.end
          (ended_bind ls lex.Semicolon (expr_at ls n) (first.end + 1) (λ b. behind_clauses (part (first.tree, b.tree) b.end))))

      opened : (paren name equals : Bool) (r : Reading (Part Header)) (s : Reading (Part Head)) → (r >>= loop) ≡ (s >>= rest_of ls below n at) →
          ((if paren then (if name then (if equals then r else Err (at + 3)) else Err (at + 2)) else Err (at + 1)) >>= loop)
          ≡ ((if paren then (if name then (if equals then s else Err (at + 3)) else Err (at + 2)) else Err (at + 1)) >>= rest_of ls below n at)
      opened false name equals r s same = refl
      opened true false equals r s same = refl
      opened true true false r s same = refl
      opened true true true r s same = same

      -- a header is read as its clauses and the second assignment
      for_rest : for_of ls names below n at ≡ (for_head ls names n at >>= rest_of ls below n at)
      for_rest =
          opened (is_at ls (at + 1) lex.OpenParen) (name_in (slice_get ls (at + 2))) (is_at ls (at + 3) lex.Equals)
          (expr_at ls n (at + 4) >>= λ first. past ls first.end lex.Semicolon (header_from first)) (clauses_of ls n (at + 4) >>= header_at)
          (first_clause (expr_at ls n (at + 4)) ∙ sym (clauses_rest (at + 4)))

      -- a statement is its head and the rest
      stmt_rest : (o : Opening) → stmt_by ls names below n at o ≡ (head_by ls names n at o >>= rest_of ls below n at)
      stmt_rest opening.Null = refl
      stmt_rest opening.Assign = assign_rest at
      stmt_rest opening.Name = named_rest at
      stmt_rest opening.If = sym (made_bind head.If (paren_of ls n at) (rest_of ls below n at))
      stmt_rest opening.Case =
          bind_like (paren_of ls n at) (λ on. citems_of ls below n on.end >>= λ all. past ls all.end lex.Endcase (Ok (part (stmt.Case at on.tree all.tree) (all.end + 1))))
          (λ on. rest_of ls below n at (part (head.Case on.tree) on.end))
          (λ on. ap (λ r. r >>= λ all. past ls all.end lex.Endcase (Ok (part (stmt.Case at on.tree all.tree) (all.end + 1)))) (citems_same on.end))
          ∙ sym (made_bind head.Case (paren_of ls n at) (rest_of ls below n at))
      stmt_rest opening.For = for_rest
      stmt_rest opening.While = sym (made_bind (λ e. head.Before (before.While e)) (paren_of ls n at) (rest_of ls below n at))
      stmt_rest opening.Repeat = sym (made_bind (λ e. head.Before (before.Repeat e)) (paren_of ls n at) (rest_of ls below n at))
      stmt_rest opening.Forever = refl
      stmt_rest opening.Block = sym (made_bind head.Block (maybe_of ls opens_scope (scope_of ls n) (at + 1)) (rest_of ls below n at))
      stmt_rest opening.Wait = sym (bind_bind (clock_of ls at) (λ e. Ok (part (head.Before (before.Wait e (at + 3))) (at + 5))) (rest_of ls below n at))
      stmt_rest opening.Disable = whole_rest at (disable_of ls at)
      stmt_rest opening.Nothing = refl

module _ (ls : List Terminal) (names : List (List ℕ)) where
  stmt_step : (n at : ℕ) → stmt_of ls names (suc n) at ≡ (head_of ls names n at >>= rest_of ls (stmt_of ls names n) n at)
  stmt_step n at = stmt_rest ls (stmt_of ls names n) n names at (opening_of (slice_get ls at))

  pub stmt_up : (depth at : ℕ) (h : Part Head) (r : Result (Part Stmt) ParseError) → depth ≢ 0 → head_of ls names (depth - 1) at ≡ Ok h →
      Gives r (rest_of ls (stmt_of ls names (depth - 1)) (depth - 1) at h) → Gives r (stmt_of ls names depth at)
  stmt_up zero at h r some e g = absurd (some refl)
  stmt_up (suc n) at h r some e g =
      let same : suc n - 1 ≡ n = omega arith in
      gives_along r _ _ (stmt_step n at ∙ bind_at _ (subst (λ k. head_of ls names k at ≡ Ok h) same e))
      (subst (λ k. Gives r (rest_of ls (stmt_of ls names k) k at h)) same g)

  pub stmt_stuck : (depth at : ℕ) (e : ParseError) → depth ≢ 0 → Gives (Err e) (head_of ls names (depth - 1) at) → Gives (Err e) (stmt_of ls names depth at)
  stmt_stuck zero at e some g = absurd (some refl)
  stmt_stuck (suc n) at e some g =
      let same : suc n - 1 ≡ n = omega arith in
      gives_along (Err e) _ _ (stmt_step n at)
      (gives_stuck e (head_of ls names n at) (rest_of ls (stmt_of ls names n) n at) (subst (λ k. Gives (Err e) (head_of ls names k at)) same g))
