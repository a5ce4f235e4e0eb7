-- Statements that are read are in the grammar.
use Rattle.std.proofs.Common.{◌≡◌, ◌≤◌, ◌&&◌, ◌||◌, ℕ, zero, suc, ◌+◌, List, [], ◌∷◌, ◌++◌, Option, Some, None, Bool, true, false, cond, Ok, Err, slice_get, length, refl, sym, ap, subst, ◌∙◌, arith, rules}
use Rattle.std.proofs.lemmas.Bool.{and_parts, and_right, both_ways}
use Rattle.vl_tree.specs.declared.terminals.Terminal.{Terminal}
use Rattle.vl_tree.specs.declared.terminals.Terminal.TheVariants as lex
use Rattle.vl_tree.specs.declared.exprs.Expr.{Expr}
use Rattle.vl_tree.specs.declared.exprs.Lvalue.{Lvalue}
use Rattle.vl_tree.specs.declared.statements.Stmt.{Stmt}
use Rattle.vl_tree.specs.declared.statements.Stmt.TheVariants as stmt
use Rattle.vl_tree.specs.declared.statements.Citem.{Citem}
use Rattle.vl_tree.specs.declared.statements.Citem.TheVariants as citem
use Rattle.vl_tree.specs.declared.statements.Scope.{Scope}
use Rattle.vl_tree.specs.declared.statements.Edge.{Edge}
use Rattle.vl_tree.specs.Places.{At, IsName}
use Rattle.vl_tree.specs.Lists.{Many, Maybe, Flag, Name}
use Rattle.vl_tree.specs.Expressions.{IsExpr, IsArgs, IsLvalue}
use Rattle.vl_tree.specs.Declarations.{IsLocal}
use Rattle.vl_tree.specs.Statements.{IsPath, IsScope, IsEdge, IsStmt, IsStmts, IsCitem, IsCitems}
use Rattle.vl_expr.specs.Classes.{is_at, is_in}
use Rattle.vl_expr.specs.Reading.{Reading}
use Rattle.vl_expr.proofs.Results.{ok_one, bind_ok, past_ok, cond_ok, was_true, was_false, is_in_true, in_is_true, test_ok}
use Rattle.vl_parse.specs.declared.part.Part.{Part}
use Rattle.vl_parse.specs.declared.classes.Opening.{Opening}
use Rattle.vl_parse.specs.declared.classes.Opening.TheVariants as opening
use Rattle.vl_parse.specs.declared.simple.Header.{Header}
use Rattle.vl_parse.specs.Input.{same_name}
use Rattle.vl_parse.specs.Parts.{part, single, added, behind, name_of, many_of}
use Rattle.vl_parse.specs.Declarations.{expr_at, exprs_at, args_at, paren_of, lvalue_of, opens_local, local_of}
use Rattle.vl_parse.specs.Statements
use Rattle.vl_parse.specs.Statements.{opening_of, opens_args, opens_scope, opens_stmt, opens_citem, scope_of, stmt_by, stmt_of}
use Rattle.vl_parse.proofs.Names.{same_name_is}
use Rattle.vl_parse.proofs.Parts.{Sound, Separated, separated_stand, many_stand, maybe_stands, named_ok, name_sound, flag_stands}
use Rattle.vl_parse.proofs.Expressions.{expr_stands, exprs_stand_at, args_stand_at}
use Rattle.vl_parse.proofs.SoundDeclarations.{ParenAt, paren_stands, lvalue_stands, local_stands}
use Rattle.vl_parse.proofs.Tokens.{opens_null, opens_if, opens_case, opens_for, opens_while, opens_repeat, opens_forever, opens_block, opens_wait, opens_disable, opens_name, edge_is}

plus_two : (i : ℕ) → i + 1 + 1 ≡ i + 2
plus_two i = omega arith

plus_three : (i : ℕ) → i + 2 + 1 ≡ i + 3
plus_three i = omega arith

path_of : {ls : List Terminal} {i j : ℕ} {names : List ℕ} → Separated ls lex.Dot (Name ls) i j names → IsPath ls i j names
path_of (Separated.only (Name.id h)) = IsPath.last_name h
path_of {ls = ls} {i = i} {j = j} (Separated.before {ts = names} (Name.id h) c more) =
    IsPath.more_names h c (subst (λ k. IsPath ls k j names) (plus_two i) (path_of more))

-- a statement that was read, and that no `else` is missing at its end
pub record StmtStands (ls : List Terminal) (names : List (List ℕ)) (n i : ℕ) (q : Part Stmt) : Type 0 where
  pub dangling : Bool
  pub stands : IsStmt ls names n dangling i q.end q.tree
  pub closed : (dangling && is_at ls q.end lex.Else) ≡ false

pub record AnyStmt (ls : List Terminal) (names : List (List ℕ)) (n i j : ℕ) (s : Stmt) : Type 0 where
  pub dangling : Bool
  pub stands : IsStmt ls names n dangling i j s

stmts_of_many : {ls : List Terminal} {names : List (List ℕ)} {n i j : ℕ} {ss : List Stmt} → Many (AnyStmt ls names n) i j ss → IsStmts ls names n i j ss
stmts_of_many Many.end = IsStmts.no_stmt
stmts_of_many (Many.next a more) = IsStmts.more_stmts a.stands (stmts_of_many more)

citems_snoc : {ls : List Terminal} {names : List (List ℕ)} {n d m i j k : ℕ} {cs : List Citem} {c : Citem} →
    IsCitems ls names n d i j cs → IsCitem ls names n m j k c → IsCitems ls names n (d + m) i k (cs ++ c ∷ [])
citems_snoc (IsCitems.last_citem a) b = IsCitems.more_citems a (IsCitems.last_citem b)
citems_snoc {ls = ls} {names = names} {n = n} {m = m} {i = i} {k = k} {c = c} (IsCitems.more_citems {d = d} {m = p} {c = a_tree} {cs = cs} a more) b =
    let same : d + (p + m) ≡ d + p + m = omega arith in
    subst (λ t. IsCitems ls names n t i k (a_tree ∷ cs ++ c ∷ [])) same (IsCitems.more_citems a (citems_snoc more b))

-- how many defaults there are
abbrev pub count : Bool → ℕ
count true = 1
count false = 0

module _ (ls : List Terminal) (names : List (List ℕ)) where
  module _ (n : ℕ) where
    made : (i : ℕ) (p q : Part Stmt) → p ≡ q → IsStmt ls names (suc n) false i p.end p.tree → StmtStands ls names (suc n) i q
    made i p q e s = subst (StmtStands ls names (suc n) i) e (record { dangling = false; stands = s; closed = refl })

    blocking_stands : (i : ℕ) (t : Part Lvalue) (q : Part Stmt) → IsLvalue ls n i t.end t.tree → At ls t.end lex.Equals →
        Statements.blocking_of ls n i t ≡ Ok q → StmtStands ls names (suc n) i q
    blocking_stands i t q h k e =
        let b = bind_ok _ _ q e in
        let c = past_ok ls b.val.end lex.Semicolon _ q b.rest in
        made i _ q (ok_one c.rest) (IsStmt.blocking h k ((expr_stands ls n).stands (t.end + 1) b.val b.first) c.here)

    nonblocking_stands : (i : ℕ) (t : Part Lvalue) (q : Part Stmt) → IsLvalue ls n i t.end t.tree →
        Statements.nonblocking_of ls n i t ≡ Ok q → StmtStands ls names (suc n) i q
    nonblocking_stands i t q h e =
        let k = past_ok ls t.end lex.LessEqual _ q e in
        let b = bind_ok _ _ q k.rest in
        let c = past_ok ls b.val.end lex.Semicolon _ q b.rest in
        made i _ q (ok_one c.rest) (IsStmt.nonblocking h k.here ((expr_stands ls n).stands (t.end + 1) b.val b.first) c.here)

    assign_stands : (i : ℕ) (q : Part Stmt) → Statements.assign_of ls n i ≡ Ok q → StmtStands ls names (suc n) i q
    assign_stands i q e =
        let b = bind_ok _ _ q e in
        let t = (lvalue_stands ls n).stands i b.val b.first in
        elim (cond_ok (is_at ls b.val.end lex.Equals) _ _ q b.rest) [
          | was_true h r ↦ blocking_stands i b.val q t (is_in_true (slice_get ls b.val.end) lex.Equals h) r
          | was_false h r ↦ nonblocking_stands i b.val q t r
        ]

    enable_stands : (i : ℕ) (q : Part Stmt) → IsName ls i → Statements.enable_of ls n i ≡ Ok q → StmtStands ls names (suc n) i q
    enable_stands i q h e =
        let b = bind_ok _ _ q e in
        let c = past_ok ls b.val.end lex.Semicolon _ q b.rest in
        made i _ q (ok_one c.rest)
        (IsStmt.enable h (maybe_stands ls (IsArgs ls n) (args_at ls n) (args_stand_at ls n) opens_args (i + 1) b.val b.first) c.here)

    named_stands : (i : ℕ) (q : Part Stmt) → IsName ls i → Statements.named_of ls n i ≡ Ok q → StmtStands ls names (suc n) i q
    named_stands i q h e =
        elim (cond_ok (Statements.enables (slice_get ls (i + 1))) _ _ q e) [
          | was_true t r ↦ enable_stands i q h r
          | was_false t r ↦ assign_stands i q r
        ]

    disable_stands : (i : ℕ) (q : Part Stmt) → At ls i lex.Disable → Statements.disable_of ls i ≡ Ok q → StmtStands ls names (suc n) i q
    disable_stands i q h e =
        let b = bind_ok _ _ q e in
        let c = past_ok ls b.val.end lex.Semicolon _ q b.rest in
        made i _ q (ok_one c.rest)
        (IsStmt.disable h (path_of (separated_stand ls (Name ls) (name_of ls) (name_sound ls) lex.Dot (i + 1) b.val b.first)) c.here)

    pub scope_stands : Sound (IsScope ls n) (scope_of ls n)
    scope_stands = record {
      stands = λ i q e.
          let o = past_ok ls i lex.Colon _ q e in
          let m = named_ok ls (i + 1) _ q o.rest in
          let b = bind_ok _ _ q m.rest in
          subst (λ r. IsScope ls n i r.end r.tree) (ok_one b.rest)
          (IsScope.scope o.here m.here (many_stand ls (IsLocal ls n) (local_of ls n) (local_stands ls n) opens_local (i + 2) b.val b.first));
    }

    -- the header of a loop, as the grammar has it
    record HeaderAt (i : ℕ) (h : Part Header) : Type 0 where
      j : ℕ
      k : ℕ
      m : ℕ
      opens : At ls (i + 1) lex.OpenParen
      name : IsName ls (i + 2)
      equals : At ls (i + 3) lex.Equals
      first : IsExpr ls n (i + 4) j h.tree.first
      first_ends : At ls j lex.Semicolon
      test : IsExpr ls n (j + 1) k h.tree.test
      test_ends : At ls k lex.Semicolon
      again : IsName ls (k + 1)
      again_is : k + 1 ≡ h.tree.again
      again_equals : At ls (k + 2) lex.Equals
      next : IsExpr ls n (k + 3) m h.tree.next
      closes : At ls m lex.CloseParen
      end : m + 1 ≡ h.end
      same : slice_get names (i + 2) ≡ slice_get names (k + 1)

    header_stands : (i : ℕ) (h : Part Header) → Statements.header_of ls names n i ≡ Ok h → HeaderAt i h
    header_stands i h e =
        let o = past_ok ls (i + 1) lex.OpenParen _ h e in
        let a = named_ok ls (i + 2) _ h o.rest in
        let c = past_ok ls (i + 3) lex.Equals _ h a.rest in
        let first = bind_ok _ _ h c.rest in
        let d = past_ok ls first.val.end lex.Semicolon _ h first.rest in
        let test = bind_ok _ _ h d.rest in
        let f = past_ok ls test.val.end lex.Semicolon _ h test.rest in
        let g = named_ok ls (test.val.end + 1) _ h f.rest in
        let s = test_ok (same_name names (i + 2) (test.val.end + 1)) _ (test.val.end + 1) h g.rest in
        let u = past_ok ls (test.val.end + 2) lex.Equals _ h s.rest in
        let next = bind_ok _ _ h u.rest in
        let v = past_ok ls next.val.end lex.CloseParen _ h next.rest in
        subst (HeaderAt i) (ok_one v.rest) (record {
          j = first.val.end;
          k = test.val.end;
          m = next.val.end;
          opens = o.here;
          name = a.here;
          equals = c.here;
          first = (expr_stands ls n).stands (i + 4) first.val first.first;
          first_ends = d.here;
          test = (expr_stands ls n).stands (first.val.end + 1) test.val test.first;
          test_ends = f.here;
          again = g.here;
          again_is = refl;
          again_equals = u.here;
          next = (expr_stands ls n).stands (test.val.end + 3) next.val next.first;
          closes = v.here;
          end = refl;
          same = same_name_is names (i + 2) (test.val.end + 1) s.holds;
        })

    module _ (below : ℕ → Reading (Part Stmt)) (sound : (i : ℕ) (q : Part Stmt) → below i ≡ Ok q → StmtStands ls names n i q) where
      -- a statement that ends with another one
      ended : (i : ℕ) (s q p : Part Stmt) (inner : StmtStands ls names n i s) (at : ℕ) → p ≡ q → s.end ≡ p.end →
          IsStmt ls names (suc n) inner.dangling at p.end p.tree → StmtStands ls names (suc n) at q
      ended i s q p inner at e same is =
          subst (StmtStands ls names (suc n) at) e (record {
            dangling = inner.dangling;
            stands = is;
            closed = subst (λ k. (inner.dangling && is_at ls k lex.Else) ≡ false) same inner.closed;
          })

      not_dangling : (i : ℕ) (s : Part Stmt) → StmtStands ls names n i s → At ls s.end lex.Else → IsStmt ls names n false i s.end s.tree
      not_dangling i s inner h = by_end inner.dangling inner.stands inner.closed
        where
          by_end : (d : Bool) → IsStmt ls names n d i s.end s.tree → (d && is_at ls s.end lex.Else) ≡ false → IsStmt ls names n false i s.end s.tree
          by_end false is c = is
          by_end true is c = absurd (both_ways _ c (in_is_true (slice_get ls s.end) lex.Else h))

      else_stands : (i : ℕ) (test first : Part Expr) (s q : Part Stmt) → At ls i lex.If → ParenAt ls n i test → StmtStands ls names n test.end s →
          Statements.else_of ls below i test.tree s ≡ Ok q → StmtStands ls names (suc n) i q
      else_stands i test first s q h p inner e =
          elim (cond_ok (is_at ls s.end lex.Else) _ _ q e) [
            | was_true t r ↦
                let b = bind_ok _ _ q r in
                let here : At ls s.end lex.Else = is_in_true (slice_get ls s.end) lex.Else t in
                let one = not_dangling test.end s inner here in
                let two = sound (s.end + 1) b.val b.first in
                ended (s.end + 1) b.val q _ two i (ok_one b.rest) refl
                (IsStmt.if_else h p.opens p.expr p.closes
                (subst (λ k. IsStmt ls names n false k s.end s.tree) (sym p.end) one) here two.stands)
            | was_false t r ↦
                subst (StmtStands ls names (suc n) i) (ok_one r) (record {
                  dangling = true;
                  stands = IsStmt.if_alone h p.opens p.expr p.closes
                      (subst (λ k. IsStmt ls names n inner.dangling k s.end s.tree) (sym p.end) inner.stands);
                  closed = t;
                })
          ]

      if_stands : (i : ℕ) (q : Part Stmt) → At ls i lex.If → Statements.if_of ls below n i ≡ Ok q → StmtStands ls names (suc n) i q
      if_stands i q h e =
          let a = bind_ok _ _ q e in
          let b = bind_ok _ _ q a.rest in
          else_stands i a.val a.val b.val q h (paren_stands ls n i a.val a.first) (sound a.val.end b.val b.first) b.rest

      while_stands : (i : ℕ) (q : Part Stmt) → At ls i lex.While → Statements.while_of ls below n i ≡ Ok q → StmtStands ls names (suc n) i q
      while_stands i q h e =
          let a = bind_ok _ _ q e in
          let b = bind_ok _ _ q a.rest in
          let p = paren_stands ls n i a.val a.first in
          let s = sound a.val.end b.val b.first in
          ended a.val.end b.val q _ s i (ok_one b.rest) refl
          (IsStmt.while h p.opens p.expr p.closes (subst (λ k. IsStmt ls names n s.dangling k b.val.end b.val.tree) (sym p.end) s.stands))

      repeat_stands : (i : ℕ) (q : Part Stmt) → At ls i lex.Repeat → Statements.repeat_of ls below n i ≡ Ok q → StmtStands ls names (suc n) i q
      repeat_stands i q h e =
          let a = bind_ok _ _ q e in
          let b = bind_ok _ _ q a.rest in
          let p = paren_stands ls n i a.val a.first in
          let s = sound a.val.end b.val b.first in
          ended a.val.end b.val q _ s i (ok_one b.rest) refl
          (IsStmt.repeat h p.opens p.expr p.closes (subst (λ k. IsStmt ls names n s.dangling k b.val.end b.val.tree) (sym p.end) s.stands))

      forever_stands : (i : ℕ) (q : Part Stmt) → At ls i lex.Forever → Statements.forever_of below i ≡ Ok q → StmtStands ls names (suc n) i q
      forever_stands i q h e =
          let b = bind_ok _ _ q e in
          let s = sound (i + 1) b.val b.first in
          ended (i + 1) b.val q _ s i (ok_one b.rest) refl (IsStmt.forever h s.stands)

      for_made : (i : ℕ) (head : Part Header) (s : Part Stmt) → At ls i lex.For → HeaderAt i head → (inner : StmtStands ls names n head.end s) →
          IsStmt ls names (suc n) inner.dangling i s.end
          (stmt.For i (i + 2) head.tree.first head.tree.test head.tree.again head.tree.next s.tree)
      for_made i head s h p inner =
          subst (λ k. IsStmt ls names (suc n) inner.dangling i s.end (stmt.For i (i + 2) head.tree.first head.tree.test k head.tree.next s.tree)) p.again_is
          (IsStmt.for h p.opens p.name p.equals p.first p.first_ends p.test p.test_ends p.again p.again_equals p.next p.closes p.same
          (subst (λ k. IsStmt ls names n inner.dangling k s.end s.tree) (sym p.end) inner.stands))

      for_stands : (i : ℕ) (q : Part Stmt) → At ls i lex.For → Statements.for_of ls names below n i ≡ Ok q → StmtStands ls names (suc n) i q
      for_stands i q h e =
          let a = bind_ok _ _ q e in
          let b = bind_ok _ _ q a.rest in
          let s = sound a.val.end b.val b.first in
          ended a.val.end b.val q _ s i (ok_one b.rest) refl (for_made i a.val b.val h (header_stands i a.val a.first) s)

      wait_stands : (i : ℕ) (q : Part Stmt) → At ls i lex.AtSign → Statements.wait_of ls below i ≡ Ok q → StmtStands ls names (suc n) i q
      wait_stands i q h e =
          let a = bind_ok _ _ q e in
          let b = bind_ok _ _ q a.rest in
          let o = past_ok ls (i + 1) lex.OpenParen _ a.val a.first in
          let c = bind_ok _ _ a.val o.rest in
          let m = named_ok ls (i + 3) _ a.val c.rest in
          let k = past_ok ls (i + 4) lex.CloseParen _ a.val m.rest in
          let edge = edge_stands (i + 2) (Statements.edge_of (slice_get ls (i + 2))) c.val refl c.first in
          let there = subst (λ t. IsEdge ls (i + 2) (i + 3) t) (ok_one k.rest) (subst (λ t. IsEdge ls (i + 2) t c.val) (plus_three i) edge) in
          let s = sound (i + 5) b.val b.first in
          ended (i + 5) b.val q _ s i (ok_one b.rest) refl (IsStmt.wait h o.here there m.here k.here s.stands)
        where
          edge_stands : (j : ℕ) (o : Option Edge) (t : Edge) → Statements.edge_of (slice_get ls j) ≡ o → Statements.edge_by j o ≡ Ok t → IsEdge ls j (j + 1) t
          edge_stands j None t h e = cc
          edge_stands j (Some u) t h e = edge_is ls j (slice_get ls j) t refl (h ∙ ap Some (ok_one e))

      block_stands : (i : ℕ) (q : Part Stmt) → At ls i lex.Begin → Statements.block_of ls below n i ≡ Ok q → StmtStands ls names (suc n) i q
      block_stands i q h e =
          let a = bind_ok _ _ q e in
          let b = bind_ok _ _ q a.rest in
          let c = past_ok ls b.val.end lex.End _ q b.rest in
          let scope = maybe_stands ls (IsScope ls n) (scope_of ls n) scope_stands opens_scope (i + 1) a.val a.first in
          let any : Sound (AnyStmt ls names n) below =
          record { stands = λ j r f. let s = sound j r f in record { dangling = s.dangling; stands = s.stands } } in
          let body = many_stand ls (AnyStmt ls names n) below any opens_stmt a.val.end b.val b.first in
          made i _ q (ok_one c.rest) (IsStmt.block h scope (stmts_of_many body) c.here)

      -- a case item, and whether it is a default
      record CitemStands (i : ℕ) (q : Part Citem) : Type 0 where
        stands : IsCitem ls names n (count (is_at ls i lex.Default)) i q.end q.tree

      citem_stands : (i : ℕ) (q : Part Citem) → Statements.citem_of ls below n i ≡ Ok q → CitemStands i q
      citem_stands i q e =
          elim (cond_ok (is_at ls i lex.Default) _ _ q e) [
            | was_true t r ↦
                let b = bind_ok _ _ q r in
                let s = sound (behind ls lex.Colon (i + 1)) b.val b.first in
                let c = IsCitem.default (is_in_true (slice_get ls i) lex.Default t) (flag_stands ls lex.Colon (i + 1)) s.stands in
                subst (CitemStands i) (ok_one b.rest)
                (record { stands = subst (λ d. IsCitem ls names n (count d) i b.val.end (citem.Default i (is_at ls (i + 1) lex.Colon) b.val.tree)) (sym t) c })
            | was_false t r ↦
                let a = bind_ok _ _ q r in
                let c = past_ok ls a.val.end lex.Colon _ q a.rest in
                let b = bind_ok _ _ q c.rest in
                let s = sound (a.val.end + 1) b.val b.first in
                let d = IsCitem.labels ((exprs_stand_at ls n).stands i a.val a.first) c.here s.stands in
                subst (CitemStands i) (ok_one b.rest)
                (record { stands = subst (λ d. IsCitem ls names n (count d) i b.val.end (citem.Labels i a.val.tree b.val.tree)) (sym t) d })
          ]

      -- case items from a place on, of which one was a default or none
      record CitemsAt (i : ℕ) (q : Part (List Citem)) : Type 0 where
        had : Bool
        stands : IsCitems ls names n (count had) i q.end q.tree

      counted : (a b : Bool) → (a && b) ≡ false → count a + count b ≡ count (a || b)
      counted true true e = cc
      counted true false e = refl
      counted false true e = refl
      counted false false e = refl

      citems_from_stand : (turns i : ℕ) (had : Bool) (all q : Part (List Citem)) → IsCitems ls names n (count had) i all.end all.tree →
          Statements.citems_from ls below n turns had all ≡ Ok q → CitemsAt i q
      citems_from_stand zero i had all q h e = subst (CitemsAt i) (ok_one e) (record { had = had; stands = h })
      citems_from_stand (suc turns) i had all q h e =
          elim (cond_ok (opens_citem (slice_get ls all.end)) _ _ q e) [
            | was_true t r ↦
                let b = bind_ok _ _ q r in
                elim (cond_ok (had && is_at ls all.end lex.Default) _ _ b.val b.first) [
                  | was_true u s ↦ cc
                  | was_false u s ↦
                      let c = citem_stands all.end b.val s in
                      citems_from_stand turns i (had || is_at ls all.end lex.Default) (added all b.val) q
                      (subst (λ d. IsCitems ls names n d i b.val.end (all.tree ++ b.val.tree ∷ [])) (counted had (is_at ls all.end lex.Default) u)
                      (citems_snoc h c.stands)) b.rest
                ]
            | was_false t r ↦ subst (CitemsAt i) (ok_one r) (record { had = had; stands = h })
          ]

      case_stands : (i : ℕ) (q : Part Stmt) → At ls i lex.Case → Statements.case_of ls below n i ≡ Ok q → StmtStands ls names (suc n) i q
      case_stands i q h e =
          let a = bind_ok _ _ q e in
          let b = bind_ok _ _ q a.rest in
          let c = past_ok ls b.val.end lex.Endcase _ q b.rest in
          let p = paren_stands ls n i a.val a.first in
          let first = bind_ok _ _ b.val b.first in
          let one = citem_stands a.val.end first.val first.first in
          let all = citems_from_stand (length ls) a.val.end (is_at ls a.val.end lex.Default) (single first.val) b.val (IsCitems.last_citem one.stands) first.rest in
          made i _ q (ok_one c.rest)
          (IsStmt.case h p.opens p.expr p.closes
          (subst (λ k. IsCitems ls names n (count all.had) k b.val.end b.val.tree) (sym p.end) all.stands) (at_most all.had) c.here)
        where
          at_most : (d : Bool) → count d ≤ 1
          at_most true = omega arith
          at_most false = omega arith

      pub by_stands : (i : ℕ) (q : Part Stmt) (o : Opening) → opening_of (slice_get ls i) ≡ o → stmt_by ls names below n i o ≡ Ok q → StmtStands ls names (suc n) i q
      by_stands i q opening.Null is e = made i _ q (ok_one e) (IsStmt.null (opens_null _ is))
      by_stands i q opening.Assign is e = assign_stands i q e
      by_stands i q opening.Name is e = named_stands i q (opens_name _ is) e
      by_stands i q opening.If is e = if_stands i q (opens_if _ is) e
      by_stands i q opening.Case is e = case_stands i q (opens_case _ is) e
      by_stands i q opening.For is e = for_stands i q (opens_for _ is) e
      by_stands i q opening.While is e = while_stands i q (opens_while _ is) e
      by_stands i q opening.Repeat is e = repeat_stands i q (opens_repeat _ is) e
      by_stands i q opening.Forever is e = forever_stands i q (opens_forever _ is) e
      by_stands i q opening.Block is e = block_stands i q (opens_block _ is) e
      by_stands i q opening.Wait is e = wait_stands i q (opens_wait _ is) e
      by_stands i q opening.Disable is e = disable_stands i q (opens_disable _ is) e
      by_stands i q opening.Nothing is e = cc

  -- what is read is a statement
  pub stmt_stands : (n i : ℕ) (q : Part Stmt) → stmt_of ls names n i ≡ Ok q → StmtStands ls names n i q
  stmt_stands zero i q e = cc
  stmt_stands (suc n) i q e = by_stands n (stmt_of ls names n) (λ j r f. stmt_stands n j r f) i q (opening_of (slice_get ls i)) refl e
