-- What is read is not deeper than it may be.
use Rattle.std.proofs.Common.{◌≡◌, ◌≤◌, ◌==◌, ◌&&◌, ℕ, zero, suc, ◌+◌, List, Option, Some, None, Bool, true, false, Ok, slice_get, length, nat_le, subst, arith}
use Rattle.std.proofs.lemmas.Bool.{leb-true}
use Rattle.vl_tree.specs.declared.terminals.Terminal.{Terminal}
use Rattle.vl_tree.specs.declared.terminals.Terminal.TheVariants as lex
use Rattle.vl_tree.specs.declared.operators.UnOp.{UnOp}
use Rattle.vl_tree.specs.declared.operators.BinOp.{BinOp}
use Rattle.vl_tree.specs.declared.exprs.Expr.{Expr}
use Rattle.vl_tree.specs.declared.exprs.Select.{Select}
use Rattle.vl_expr.specs.declared.found.Found.{Found}
use Rattle.vl_expr.specs.declared.classes.Start.{Start}
use Rattle.vl_expr.specs.declared.classes.Start.TheVariants as start
use Rattle.vl_expr.specs.declared.classes.Between.{Between}
use Rattle.vl_expr.specs.Classes.{start_of, between_of, unary_of, operator_of, is_at}
use Rattle.vl_expr.specs.Reading
use Rattle.vl_expr.specs.Reading.{Reading, Reader, ◌>>=◌, single, added}
use Rattle.vl_expr.proofs.Results.{ok_one, bind_ok, past_ok, test_ok, cond_ok, was_true, was_false}

-- a depth
abbrev pub Within : {X : Type 0} → ℕ → Found X → Type 0
Within n p = p.depth ≤ n

-- what a reader of the parts reads is not deeper than n
pub record Fits (below : Reader) (n : ℕ) : Type 0 where
  pub level : (l at : ℕ) (p : Found Expr) → below.level l at ≡ Ok p → p.depth ≤ n
  pub select : (at : ℕ) (s : Found Select) → below.select at ≡ Ok s → s.depth ≤ n

same_depth : {X : Type 0} {n : ℕ} (p q : Found X) → p ≡ q → p.depth ≤ n → q.depth ≤ n
same_depth {n = n} p q e h = subst (λ r. r.depth ≤ n) e h

module _ (ls : List Terminal) (below : Reader) (n : ℕ) (fits : Fits below n) where
  exprs_from_fit : (turns : ℕ) (all q : Found (List Expr)) → all.depth ≤ n → Reading.exprs_from ls below turns all ≡ Ok q → q.depth ≤ n
  exprs_from_fit zero all q h e = same_depth all q (ok_one e) h
  exprs_from_fit (suc turns) all q h e =
      elim (cond_ok (is_at ls all.end lex.Comma) _ _ q e) [
        | was_true t r ↦
            let b = bind_ok _ _ q r in
            let f = fits.level 11 (all.end + 1) b.val b.first in
            exprs_from_fit turns (added all b.val) q (omega arith) b.rest
        | was_false t r ↦ same_depth all q (ok_one r) h
      ]

  pub exprs_fit : (at : ℕ) (q : Found (List Expr)) → Reading.exprs_of ls below at ≡ Ok q → q.depth ≤ n
  exprs_fit at q e =
      let b = bind_ok _ _ q e in
      exprs_from_fit (length ls) (single b.val) q (fits.level 11 at b.val b.first) b.rest

  closed_fits : {X : Type 0} (x : Terminal) (p q : Found X) → p.depth ≤ n → Reading.closed ls x p ≡ Ok q → q.depth ≤ n
  closed_fits x p q h e = let t = past_ok ls p.end x _ q e in same_depth _ q (ok_one t.rest) h

  pub args_fit : (at : ℕ) (q : Found (List Expr)) → Reading.args_of ls below at ≡ Ok q → q.depth ≤ n
  args_fit at q e =
      let t = past_ok ls at lex.OpenParen _ q e in
      elim (cond_ok (is_at ls (at + 1) lex.CloseParen) _ _ q t.rest) [
        | was_true c r ↦ same_depth _ q (ok_one r) (omega arith)
        | was_false c r ↦ let b = bind_ok _ _ q r in closed_fits lex.CloseParen b.val q (exprs_fit (at + 1) b.val b.first) b.rest
      ]

  paren_fits : (at : ℕ) (p : Found Expr) → Reading.paren_of ls below at ≡ Ok p → p.depth ≤ n
  paren_fits at p e =
      let t = past_ok ls at lex.OpenParen _ p e in
      let b = bind_ok _ _ p t.rest in
      closed_fits lex.CloseParen b.val p (fits.level 11 (at + 1) b.val b.first) b.rest

  select_by_fits : (at : ℕ) (first : Found Expr) (s : Found Select) (kind : Option Between) → first.depth ≤ n →
      Reading.select_by ls below at first kind ≡ Ok s → s.depth ≤ suc n
  select_by_fits at first s None h e =
      let t = past_ok ls first.end lex.CloseBracket _ s e in same_depth _ s (ok_one t.rest) (omega arith)
  select_by_fits at first s (Some kind) h e =
      let b = bind_ok _ _ s e in
      let f = fits.level 11 (first.end + 1) b.val b.first in
      let t = past_ok ls b.val.end lex.CloseBracket _ s b.rest in
      same_depth _ s (ok_one t.rest) (omega arith)

  select_fits : (at : ℕ) (s : Found Select) → Reading.select_of ls below at ≡ Ok s → s.depth ≤ suc n
  select_fits at s e =
      let t = past_ok ls at lex.OpenBracket _ s e in
      let b = bind_ok _ _ s t.rest in
      select_by_fits at b.val s (between_of (slice_get ls b.val.end)) (fits.level 11 (at + 1) b.val b.first) b.rest

  second_fits : (first : Found Select) (q : Found (List Select)) → first.depth ≤ n → Reading.second_of ls below first ≡ Ok q → q.depth ≤ n
  second_fits first q h e =
      elim (cond_ok (Reading.is_index first.tree && is_at ls first.end lex.OpenBracket) _ _ q e) [
        | was_true t r ↦
            let b = bind_ok _ _ q r in
            let f = fits.select first.end b.val b.first in
            same_depth _ q (ok_one b.rest) (omega arith)
        | was_false t r ↦ same_depth _ q (ok_one r) h
      ]

  pub selects_fit : (at : ℕ) (q : Found (List Select)) → Reading.selects_of ls below at ≡ Ok q → q.depth ≤ n
  selects_fit at q e =
      elim (cond_ok (is_at ls at lex.OpenBracket) _ _ q e) [
        | was_true t r ↦ let b = bind_ok _ _ q r in second_fits b.val q (fits.select at b.val b.first) b.rest
        | was_false t r ↦ same_depth _ q (ok_one r) (omega arith)
      ]

  name_fits : (at : ℕ) (p : Found Expr) (call : Bool) → Reading.name_by ls below at call ≡ Ok p → p.depth ≤ suc n
  name_fits at p true e =
      let b = bind_ok _ _ p e in let f = args_fit (at + 1) b.val b.first in same_depth _ p (ok_one b.rest) (omega arith)
  name_fits at p false e =
      let b = bind_ok _ _ p e in let f = selects_fit (at + 1) b.val b.first in same_depth _ p (ok_one b.rest) (omega arith)

  replicate_fits : (at : ℕ) (count p : Found Expr) → count.depth ≤ n → Reading.replicate_of ls below at count ≡ Ok p → p.depth ≤ suc n
  replicate_fits at count p h e =
      let b = bind_ok _ _ p e in
      let c = bind_ok _ _ p b.rest in
      let f = closed_fits lex.CloseBrace b.val c.val (exprs_fit (count.end + 1) b.val b.first) c.first in
      let t = past_ok ls c.val.end lex.CloseBrace _ p c.rest in
      same_depth _ p (ok_one t.rest) (omega arith)

  concat_fits : (at : ℕ) (first p : Found Expr) → first.depth ≤ n → Reading.concat_of ls below at first ≡ Ok p → p.depth ≤ suc n
  concat_fits at first p h e =
      let b = bind_ok _ _ p e in
      let f = exprs_from_fit (length ls) (single first) b.val h b.first in
      let t = past_ok ls b.val.end lex.CloseBrace _ p b.rest in
      same_depth _ p (ok_one t.rest) (omega arith)

  braces_fit : (at : ℕ) (p : Found Expr) → Reading.braces_of ls below at ≡ Ok p → p.depth ≤ suc n
  braces_fit at p e =
      let b = bind_ok _ _ p e in
      let f = fits.level 11 (at + 1) b.val b.first in
      elim (cond_ok (is_at ls b.val.end lex.OpenBrace) _ _ p b.rest) [
        | was_true t r ↦ replicate_fits at b.val p f r
        | was_false t r ↦ concat_fits at b.val p f r
      ]

  decimal_fits : (at : ℕ) (b : Bool) → (Reading.decimal_by at b).depth ≤ suc n
  decimal_fits at true = omega arith
  decimal_fits at false = omega arith

  primary_fits : (at : ℕ) (p : Found Expr) (s : Start) → Reading.primary_by ls below at s ≡ Ok p → p.depth ≤ suc n
  primary_fits at p start.Decimal e = same_depth _ p (ok_one e) (decimal_fits at (is_at ls (at + 1) lex.Based))
  primary_fits at p start.Based e = same_depth _ p (ok_one e) (omega arith)
  primary_fits at p start.Name e = name_fits at p (is_at ls (at + 1) lex.OpenParen) e
  primary_fits at p (start.Sign sign) e =
      let b = bind_ok _ _ p e in let f = paren_fits (at + 1) b.val b.first in same_depth _ p (ok_one b.rest) (omega arith)
  primary_fits at p start.Paren e =
      let b = bind_ok _ _ p e in let f = paren_fits at b.val b.first in same_depth _ p (ok_one b.rest) (omega arith)
  primary_fits at p start.Brace e = braces_fit at p e
  primary_fits at p start.Nothing e = cc

  operand_fits : (at : ℕ) (p : Found Expr) (u : Option UnOp) → Reading.operand_by ls below at u ≡ Ok p → p.depth ≤ suc n
  operand_fits at p None e = primary_fits at p (start_of (slice_get ls at)) e
  operand_fits at p (Some op) e =
      let b = bind_ok _ _ p e in let f = fits.level 0 (at + 1) b.val b.first in same_depth _ p (ok_one b.rest) (omega arith)

  choice_fits : (from : ℕ) (test p : Found Expr) → test.depth ≤ suc n → Reading.choice_of ls below n from test ≡ Ok p → p.depth ≤ suc n
  choice_fits from test p h e =
      elim (cond_ok (is_at ls test.end lex.Question) _ _ p e) [
        | was_true t r ↦
            let u = test_ok (nat_le test.depth n) _ test.end p r in
            let b = bind_ok _ _ p u.rest in
            let c = past_ok ls b.val.end lex.Colon _ p b.rest in
            let d = bind_ok _ _ p c.rest in
            let k = leb-true test.depth n u.holds in
            let f = fits.level 11 (test.end + 1) b.val b.first in
            let g = fits.level 11 (b.val.end + 1) d.val d.first in
            same_depth _ p (ok_one d.rest) (omega arith)
        | was_false t r ↦ same_depth _ p (ok_one r) h
      ]

  binary_fits : (l from : ℕ) (left p : Found Expr) (op : BinOp) → Reading.binary_of below n l from left op ≡ Ok p → p.depth ≤ suc n
  binary_fits l from left p op e =
      let u = test_ok (nat_le left.depth n) _ left.end p e in
      let b = bind_ok _ _ p u.rest in
      let k = leb-true left.depth n u.holds in
      let f = fits.level l (left.end + 1) b.val b.first in
      same_depth _ p (ok_one b.rest) (omega arith)

  step_fits : (l from : ℕ) (more : Found Expr → Reading (Found Expr)) (left p : Found Expr) (o : Option BinOp) → left.depth ≤ suc n →
      ((q : Found Expr) → q.depth ≤ suc n → more q ≡ Ok p → p.depth ≤ suc n) → Reading.step_by below n l from more left o ≡ Ok p → p.depth ≤ suc n
  step_fits l from more left p None h rec e = same_depth _ p (ok_one e) h
  step_fits l from more left p (Some op) h rec e =
      let b = bind_ok _ _ p e in rec b.val (binary_fits l from left b.val op b.first) b.rest

  tail_fits : (l from turns : ℕ) (left p : Found Expr) → left.depth ≤ suc n → Reading.tail_of ls below n l from turns left ≡ Ok p → p.depth ≤ suc n
  tail_fits l from zero left p h e = same_depth left p (ok_one e) h
  tail_fits l from (suc turns) left p h e =
      step_fits l from (Reading.tail_of ls below n l from turns) left p (operator_of l (slice_get ls left.end)) h
      (λ q k r. tail_fits l from turns q p k r) e

  rest_fits : (l from : ℕ) (left p : Found Expr) (last : Bool) → left.depth ≤ suc n → Reading.rest_of ls below n l from left last ≡ Ok p → p.depth ≤ suc n
  rest_fits l from left p false h e = tail_fits l from n left p h e
  rest_fits l from left p true h e = choice_fits from left p h e

  level_fits : (l at : ℕ) (p : Found Expr) → Reading.level_of ls below n l at ≡ Ok p → p.depth ≤ suc n
  level_fits zero at p e = operand_fits at p (unary_of (slice_get ls at)) e
  level_fits (suc l) at p e =
      let b = bind_ok _ _ p e in rest_fits l at b.val p (l == 10) (level_fits l at b.val b.first) b.rest

pub reader_fits : (ls : List Terminal) (n : ℕ) → Fits (Reading.reader_of ls n) n
reader_fits ls zero = record { level = λ l at p e. cc; select = λ at s e. cc }
reader_fits ls (suc n) = record {
  level = λ l at p e. level_fits ls (Reading.reader_of ls n) n (reader_fits ls n) l at p e;
  select = λ at s e. select_fits ls (Reading.reader_of ls n) n (reader_fits ls n) at s e;
}
