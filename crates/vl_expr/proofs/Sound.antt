-- What is read is in the grammar, at each depth from its own on.
use Rattle.std.proofs.Common.{◌≡◌, ◌≤◌, ◌==◌, ◌&&◌, ℕ, zero, suc, ◌+◌, max, List, [], ◌∷◌, Option, Some, None, Bool, true, false, Ok, slice_get, length, nat_le, refl, sym, subst, arith}
use Rattle.std.proofs.lemmas.Bool.{eqb-true, and_parts, both_ways}
use Rattle.vl_tree.specs.declared.terminals.Terminal.{Terminal}
use Rattle.vl_tree.specs.declared.terminals.Terminal.TheVariants as lex
use Rattle.vl_tree.specs.declared.operators.Sign.TheVariants as sign
use Rattle.vl_tree.specs.declared.operators.UnOp.{UnOp}
use Rattle.vl_tree.specs.declared.operators.BinOp.{BinOp}
use Rattle.vl_tree.specs.declared.exprs.Expr.{Expr}
use Rattle.vl_tree.specs.declared.exprs.Expr.TheVariants as expr
use Rattle.vl_tree.specs.declared.exprs.Select.{Select}
use Rattle.vl_tree.specs.declared.exprs.Select.TheVariants as select
use Rattle.vl_tree.specs.Places.{At, IsName}
use Rattle.vl_tree.specs.Expressions.{IsLevel, IsArgs, IsSelects, IsSelect}
use Rattle.vl_expr.specs.declared.found.Found.{Found}
use Rattle.vl_expr.specs.declared.classes.Start.{Start}
use Rattle.vl_expr.specs.declared.classes.Start.TheVariants as start
use Rattle.vl_expr.specs.declared.classes.Between.{Between}
use Rattle.vl_expr.specs.declared.classes.Between.TheVariants as between
use Rattle.vl_expr.specs.Classes.{start_of, between_of, unary_of, operator_of, is_at}
use Rattle.vl_expr.specs.Reading
use Rattle.vl_expr.specs.Reading.{Reading, Reader, ◌>>=◌, node, single, added}
use Rattle.vl_expr.proofs.Results.{ok_one, bind_ok, past_ok, test_ok, cond_ok, was_true, was_false, is_in_true}
use Rattle.vl_expr.proofs.Stands.{Stands, SelectStands, ExprsStand, ArgsStand, SelectsStand, max_left, max_right, raised, single_stands, added_stands, node_stands, select_stands}
use Rattle.vl_expr.proofs.Tokens.{start_decimal, start_based, start_brace, start_signed, start_unsigned, start_name, between_colon, between_plus, between_minus, unary_at, binary_at, BinaryAt, part_is, up_is, down_is}

-- what a reader of the parts reads stands where it was read
pub record Sound (ls : List Terminal) (below : Reader) : Type 0 where
  pub level : (l at : ℕ) (p : Found Expr) → below.level l at ≡ Ok p → Stands ls l at p
  pub select : (at : ℕ) (s : Found Select) → below.select at ≡ Ok s → SelectStands ls at s

plus_two : (i : ℕ) → i + 1 + 1 ≡ i + 2
plus_two i = omega arith

-- an expression in parentheses
record Parens (ls : List Terminal) (at : ℕ) (p : Found Expr) : Type 0 where
  inner : Found Expr
  opens : At ls at lex.OpenParen
  stands : Stands ls 11 (at + 1) inner
  closes : At ls inner.end lex.CloseParen
  is : p ≡ record { tree = inner.tree; end = inner.end + 1; depth = inner.depth }

parens_made : {ls : List Terminal} (at : ℕ) (p : Found Expr) → Parens ls at p → Stands ls 0 at (node p.tree p.end p.depth)
parens_made {ls = ls} at p q =
    subst (λ r. Stands ls 0 at (node r.tree r.end r.depth)) (sym q.is)
    (node_stands ls 0 at (q.inner.end + 1) q.inner.depth q.inner.tree
    (λ m le. IsLevel.parens q.opens (q.stands.at_least m le) q.closes))

signed_made : {ls : List Terminal} (at : ℕ) (p : Found Expr) → At ls at lex.ToSigned → Parens ls (at + 1) p →
    Stands ls 0 at (node (expr.Sign at sign.Signed p.tree) p.end p.depth)
signed_made {ls = ls} at p t q =
    subst (λ r. Stands ls 0 at (node (expr.Sign at sign.Signed r.tree) r.end r.depth)) (sym q.is)
    (node_stands ls 0 at (q.inner.end + 1) q.inner.depth (expr.Sign at sign.Signed q.inner.tree)
    (λ m le. IsLevel.to_signed t q.opens
    (subst (λ k. IsLevel ls m 11 k q.inner.end q.inner.tree) (plus_two at) (q.stands.at_least m le)) q.closes))

unsigned_made : {ls : List Terminal} (at : ℕ) (p : Found Expr) → At ls at lex.ToUnsigned → Parens ls (at + 1) p →
    Stands ls 0 at (node (expr.Sign at sign.Unsigned p.tree) p.end p.depth)
unsigned_made {ls = ls} at p t q =
    subst (λ r. Stands ls 0 at (node (expr.Sign at sign.Unsigned r.tree) r.end r.depth)) (sym q.is)
    (node_stands ls 0 at (q.inner.end + 1) q.inner.depth (expr.Sign at sign.Unsigned q.inner.tree)
    (λ m le. IsLevel.to_unsigned t q.opens
    (subst (λ k. IsLevel ls m 11 k q.inner.end q.inner.tree) (plus_two at) (q.stands.at_least m le)) q.closes))

-- a replication, whose inner brace is closed before the outer one
replicate_made : {ls : List Terminal} (at : ℕ) (count : Found Expr) (all : Found (List Expr)) (p : Found Expr) →
    At ls at lex.OpenBrace → Stands ls 11 (at + 1) count → At ls count.end lex.OpenBrace →
    ExprsStand ls (count.end + 1) all → At ls all.end lex.CloseBrace → (inner : Found (List Expr)) →
    ◌≡◌ {A = Found (List Expr)} (record { tree = all.tree; end = all.end + 1; depth = all.depth }) inner → At ls inner.end lex.CloseBrace →
    node (expr.Replicate at count.tree inner.tree) (inner.end + 1) (max count.depth inner.depth) ≡ p → Stands ls 0 at p
replicate_made {ls = ls} at count all p opens h inner_opens parts closes inner is outer_closes e =
    let made : Stands ls 0 at (node (expr.Replicate at count.tree all.tree) (all.end + 1 + 1) (max count.depth all.depth)) =
    subst (λ k. Stands ls 0 at (node (expr.Replicate at count.tree all.tree) k (max count.depth all.depth))) (sym (plus_two all.end))
    (node_stands ls 0 at (all.end + 2) (max count.depth all.depth) (expr.Replicate at count.tree all.tree)
    (λ m le. IsLevel.replicate opens (h.at_least m (max_left count.depth all.depth m le)) inner_opens
    (parts.at_least m (max_right count.depth all.depth m le)) closes
    (subst (λ r. At ls r.end lex.CloseBrace) (sym is) outer_closes))) in
    subst (Stands ls 0 at) e
    (subst (λ r. Stands ls 0 at (node (expr.Replicate at count.tree r.tree) (r.end + 1) (max count.depth r.depth))) is made)

two_made : {ls : List Terminal} {m i j k : ℕ} {s t : Select} → IsSelect ls m i j s → Reading.is_index s ≡ true →
    IsSelect ls m j k t → IsSelects ls m i k (s ∷ t ∷ [])
two_made (IsSelect.index a b c) is second = IsSelects.two_selects (IsSelect.index a b c) second
two_made (IsSelect.part a b c d f) is second = absurd (both_ways _ (part_is _ _ _) is)
two_made (IsSelect.up a b c d f) is second = absurd (both_ways _ (up_is _ _ _) is)
two_made (IsSelect.down a b c d f) is second = absurd (both_ways _ (down_is _ _ _) is)

-- two selects, the first of them a plain index
two_stand : {ls : List Terminal} (at : ℕ) (first second : Found Select) (q : Found (List Select)) → SelectStands ls at first →
    Reading.is_index first.tree ≡ true → SelectStands ls first.end second → added (single first) second ≡ q → SelectsStand ls at q
two_stand {ls = ls} at first second q h is k e =
    subst (SelectsStand ls at) e (record {
      at_least = λ m le. two_made (h.at_least m (max_left first.depth second.depth m le)) is
          (k.at_least m (max_right first.depth second.depth m le));
    })

module _ (ls : List Terminal) (below : Reader) (sound : Sound ls below) where
  exprs_from_stand : (turns i : ℕ) (all q : Found (List Expr)) → ExprsStand ls i all → Reading.exprs_from ls below turns all ≡ Ok q → ExprsStand ls i q
  exprs_from_stand zero i all q h e = subst (ExprsStand ls i) (ok_one e) h
  exprs_from_stand (suc turns) i all q h e =
      elim (cond_ok (is_at ls all.end lex.Comma) _ _ q e) [
        | was_true t r ↦
            let b = bind_ok _ _ q r in
            exprs_from_stand turns i (added all b.val) q
            (added_stands h (is_in_true (slice_get ls all.end) lex.Comma t) (sound.level 11 (all.end + 1) b.val b.first)) b.rest
        | was_false t r ↦ subst (ExprsStand ls i) (ok_one r) h
      ]

  pub exprs_stand : (at : ℕ) (q : Found (List Expr)) → Reading.exprs_of ls below at ≡ Ok q → ExprsStand ls at q
  exprs_stand at q e =
      let b = bind_ok _ _ q e in
      exprs_from_stand (length ls) at (single b.val) q (single_stands (sound.level 11 at b.val b.first)) b.rest

  pub args_stand : (at : ℕ) (q : Found (List Expr)) → Reading.args_of ls below at ≡ Ok q → ArgsStand ls at q
  args_stand at q e =
      let t = past_ok ls at lex.OpenParen _ q e in
      elim (cond_ok (is_at ls (at + 1) lex.CloseParen) _ _ q t.rest) [
        | was_true c r ↦
            subst (ArgsStand ls at) (ok_one r) (record {
              at_least = λ m h. IsArgs.no_args t.here (is_in_true (slice_get ls (at + 1)) lex.CloseParen c);
            })
        | was_false c r ↦
            let b = bind_ok _ _ q r in
            let k = past_ok ls b.val.end lex.CloseParen _ q b.rest in
            let inner = exprs_stand (at + 1) b.val b.first in
            subst (ArgsStand ls at) (ok_one k.rest) (record {
              at_least = λ m h. IsArgs.some_args t.here (inner.at_least m h) k.here;
            })
      ]

  select_by_stands : (at : ℕ) (first : Found Expr) (s : Found Select) (kind : Option Between) →
      At ls at lex.OpenBracket → Stands ls 11 (at + 1) first → between_of (slice_get ls first.end) ≡ kind →
      Reading.select_by ls below at first kind ≡ Ok s → SelectStands ls at s
  select_by_stands at first s None opens h is e =
      let t = past_ok ls first.end lex.CloseBracket _ s e in
      subst (SelectStands ls at) (ok_one t.rest)
      (select_stands ls at (first.end + 1) first.depth (select.Index at first.tree)
      (λ m le. IsSelect.index opens (h.at_least m le) t.here))
  select_by_stands at first s (Some between.Colon) opens h is e =
      let b = bind_ok _ _ s e in
      let t = past_ok ls b.val.end lex.CloseBracket _ s b.rest in
      let second = sound.level 11 (first.end + 1) b.val b.first in
      subst (SelectStands ls at) (ok_one t.rest)
      (select_stands ls at (b.val.end + 1) (max first.depth b.val.depth) (select.Part at first.tree b.val.tree)
      (λ m le. IsSelect.part opens (h.at_least m (max_left first.depth b.val.depth m le)) (between_colon _ is)
      (second.at_least m (max_right first.depth b.val.depth m le)) t.here))
  select_by_stands at first s (Some between.PlusColon) opens h is e =
      let b = bind_ok _ _ s e in
      let t = past_ok ls b.val.end lex.CloseBracket _ s b.rest in
      let second = sound.level 11 (first.end + 1) b.val b.first in
      subst (SelectStands ls at) (ok_one t.rest)
      (select_stands ls at (b.val.end + 1) (max first.depth b.val.depth) (select.Up at first.tree b.val.tree)
      (λ m le. IsSelect.up opens (h.at_least m (max_left first.depth b.val.depth m le)) (between_plus _ is)
      (second.at_least m (max_right first.depth b.val.depth m le)) t.here))
  select_by_stands at first s (Some between.MinusColon) opens h is e =
      let b = bind_ok _ _ s e in
      let t = past_ok ls b.val.end lex.CloseBracket _ s b.rest in
      let second = sound.level 11 (first.end + 1) b.val b.first in
      subst (SelectStands ls at) (ok_one t.rest)
      (select_stands ls at (b.val.end + 1) (max first.depth b.val.depth) (select.Down at first.tree b.val.tree)
      (λ m le. IsSelect.down opens (h.at_least m (max_left first.depth b.val.depth m le)) (between_minus _ is)
      (second.at_least m (max_right first.depth b.val.depth m le)) t.here))

  select_of_stands : (at : ℕ) (s : Found Select) → Reading.select_of ls below at ≡ Ok s → SelectStands ls at s
  select_of_stands at s e =
      let t = past_ok ls at lex.OpenBracket _ s e in
      let b = bind_ok _ _ s t.rest in
      select_by_stands at b.val s (between_of (slice_get ls b.val.end)) t.here (sound.level 11 (at + 1) b.val b.first) refl b.rest

  paren_stands : (at : ℕ) (p : Found Expr) → Reading.paren_of ls below at ≡ Ok p → Parens ls at p
  paren_stands at p e =
      let t = past_ok ls at lex.OpenParen _ p e in
      let b = bind_ok _ _ p t.rest in
      let k = past_ok ls b.val.end lex.CloseParen _ p b.rest in
      let inner = sound.level 11 (at + 1) b.val b.first in
      record {
        opens = t.here;
        inner = b.val;
        stands = inner;
        closes = k.here;
        is = sym (ok_one k.rest);
      }

  replicate_stands : (at : ℕ) (count p : Found Expr) → At ls at lex.OpenBrace → Stands ls 11 (at + 1) count →
      At ls count.end lex.OpenBrace → Reading.replicate_of ls below at count ≡ Ok p → Stands ls 0 at p
  replicate_stands at count p opens h inner_opens e =
      let b = bind_ok _ _ p e in
      let c = bind_ok _ _ p b.rest in
      let k = past_ok ls b.val.end lex.CloseBrace _ c.val c.first in
      let t = past_ok ls c.val.end lex.CloseBrace _ p c.rest in
      let all = exprs_stand (count.end + 1) b.val b.first in
      replicate_made at count b.val p opens h inner_opens all k.here c.val (ok_one k.rest) t.here (ok_one t.rest)

  concat_stands : (at : ℕ) (first p : Found Expr) → At ls at lex.OpenBrace → Stands ls 11 (at + 1) first →
      Reading.concat_of ls below at first ≡ Ok p → Stands ls 0 at p
  concat_stands at first p opens h e =
      let b = bind_ok _ _ p e in
      let t = past_ok ls b.val.end lex.CloseBrace _ p b.rest in
      let all = exprs_from_stand (length ls) (at + 1) (single first) b.val (single_stands h) b.first in
      subst (Stands ls 0 at) (ok_one t.rest)
      (node_stands ls 0 at (b.val.end + 1) b.val.depth (expr.Concat at b.val.tree)
      (λ m le. IsLevel.concat opens (all.at_least m le) t.here))

  braces_stand : (at : ℕ) (p : Found Expr) → At ls at lex.OpenBrace → Reading.braces_of ls below at ≡ Ok p → Stands ls 0 at p
  braces_stand at p opens e =
      let b = bind_ok _ _ p e in
      let first = sound.level 11 (at + 1) b.val b.first in
      elim (cond_ok (is_at ls b.val.end lex.OpenBrace) _ _ p b.rest) [
        | was_true t r ↦ replicate_stands at b.val p opens first (is_in_true (slice_get ls b.val.end) lex.OpenBrace t) r
        | was_false t r ↦ concat_stands at b.val p opens first r
      ]

  second_stands : (at : ℕ) (first : Found Select) (q : Found (List Select)) → SelectStands ls at first →
      Reading.second_of ls below first ≡ Ok q → SelectsStand ls at q
  second_stands at first q h e =
      elim (cond_ok (Reading.is_index first.tree && is_at ls first.end lex.OpenBracket) _ _ q e) [
        | was_true t r ↦
            let b = bind_ok _ _ q r in
            two_stand at first b.val q h (and_parts _ _ t).0 (sound.select first.end b.val b.first) (ok_one b.rest)
        | was_false t r ↦
            subst (SelectsStand ls at) (ok_one r) (record { at_least = λ m le. IsSelects.one_select (h.at_least m le) })
      ]

  pub selects_stand : (at : ℕ) (q : Found (List Select)) → Reading.selects_of ls below at ≡ Ok q → SelectsStand ls at q
  selects_stand at q e =
      elim (cond_ok (is_at ls at lex.OpenBracket) _ _ q e) [
        | was_true t r ↦ let b = bind_ok _ _ q r in second_stands at b.val q (sound.select at b.val b.first) b.rest
        | was_false t r ↦ subst (SelectsStand ls at) (ok_one r) (record { at_least = λ m le. IsSelects.no_select })
      ]

  name_stands : (at : ℕ) (p : Found Expr) (call : Bool) → IsName ls at →
      Reading.name_by ls below at call ≡ Ok p → Stands ls 0 at p
  name_stands at p true n e =
      let b = bind_ok _ _ p e in
      let all = args_stand (at + 1) b.val b.first in
      subst (Stands ls 0 at) (ok_one b.rest)
      (node_stands ls 0 at b.val.end b.val.depth (expr.Call at at b.val.tree) (λ m le. IsLevel.call n (all.at_least m le)))
  name_stands at p false n e =
      let b = bind_ok _ _ p e in
      let all = selects_stand (at + 1) b.val b.first in
      subst (Stands ls 0 at) (ok_one b.rest)
      (node_stands ls 0 at b.val.end b.val.depth (expr.Name at at b.val.tree) (λ m le. IsLevel.name n (all.at_least m le)))

  decimal_stands : (at : ℕ) (b : Bool) → At ls at lex.Decimal → is_at ls (at + 1) lex.Based ≡ b → Stands ls 0 at (Reading.decimal_by at b)
  decimal_stands at true h e =
      node_stands ls 0 at (at + 2) 0 (expr.Based at (Some at) (at + 1))
      (λ m le. IsLevel.sized h (is_in_true (slice_get ls (at + 1)) lex.Based e))
  decimal_stands at false h e = node_stands ls 0 at (at + 1) 0 (expr.Decimal at at) (λ m le. IsLevel.decimal h)

  primary_stands : (at : ℕ) (p : Found Expr) (s : Start) → start_of (slice_get ls at) ≡ s →
      Reading.primary_by ls below at s ≡ Ok p → Stands ls 0 at p
  primary_stands at p start.Decimal is e =
      subst (Stands ls 0 at) (ok_one e) (decimal_stands at (is_at ls (at + 1) lex.Based) (start_decimal _ is) refl)
  primary_stands at p start.Based is e =
      subst (Stands ls 0 at) (ok_one e)
      (node_stands ls 0 at (at + 1) 0 (expr.Based at None at) (λ m le. IsLevel.based (start_based _ is)))
  primary_stands at p start.Name is e = name_stands at p (is_at ls (at + 1) lex.OpenParen) (start_name _ is) e
  primary_stands at p (start.Sign sign.Signed) is e =
      let b = bind_ok _ _ p e in
      let q = paren_stands (at + 1) b.val b.first in
      subst (Stands ls 0 at) (ok_one b.rest) (signed_made at b.val (start_signed _ is) q)
  primary_stands at p (start.Sign sign.Unsigned) is e =
      let b = bind_ok _ _ p e in
      let q = paren_stands (at + 1) b.val b.first in
      subst (Stands ls 0 at) (ok_one b.rest) (unsigned_made at b.val (start_unsigned _ is) q)
  primary_stands at p start.Paren is e =
      let b = bind_ok _ _ p e in
      let q = paren_stands at b.val b.first in
      subst (Stands ls 0 at) (ok_one b.rest) (parens_made at b.val q)
  primary_stands at p start.Brace is e = braces_stand at p (start_brace _ is) e
  primary_stands at p start.Nothing is e = cc

  operand_stands : (at : ℕ) (p : Found Expr) (u : Option UnOp) → unary_of (slice_get ls at) ≡ u →
      Reading.operand_by ls below at u ≡ Ok p → Stands ls 0 at p
  operand_stands at p None is e = primary_stands at p (start_of (slice_get ls at)) refl e
  operand_stands at p (Some op) is e =
      let b = bind_ok _ _ p e in
      let inner = sound.level 0 (at + 1) b.val b.first in
      let u = unary_at (slice_get ls at) op is in
      subst (Stands ls 0 at) (ok_one b.rest)
      (node_stands ls 0 at b.val.end b.val.depth (expr.Unary at op b.val.tree)
      (λ m le. IsLevel.unary_op u.is u.stands_for (inner.at_least m le)))

  choice_stands : (n from : ℕ) (test p : Found Expr) → Stands ls 10 from test → At ls test.end lex.Question →
      Reading.choice_by ls below n from test ≡ Ok p → Stands ls 11 from p
  choice_stands n from test p h asks e =
      let t = test_ok (nat_le test.depth n) _ test.end p e in
      let b = bind_ok _ _ p t.rest in
      let c = past_ok ls b.val.end lex.Colon _ p b.rest in
      let d = bind_ok _ _ p c.rest in
      let first = sound.level 11 (test.end + 1) b.val b.first in
      let second = sound.level 11 (b.val.end + 1) d.val d.first in
      subst (Stands ls 11 from) (ok_one d.rest)
      (node_stands ls 11 from d.val.end (max test.depth (max b.val.depth d.val.depth))
      (expr.Choice from test.tree b.val.tree d.val.tree)
      (λ m le. let inner : max b.val.depth d.val.depth ≤ m = max_right test.depth _ m le in
      IsLevel.choice (h.at_least m (max_left test.depth _ m le)) asks
      (first.at_least m (max_left b.val.depth d.val.depth m inner)) c.here
      (second.at_least m (max_right b.val.depth d.val.depth m inner))))

  binary_stands : (n l from : ℕ) (left p : Found Expr) (op : BinOp) → Stands ls (suc l) from left →
      BinaryAt (slice_get ls left.end) l op → Reading.binary_of below n l from left op ≡ Ok p → Stands ls (suc l) from p
  binary_stands n l from left p op h o e =
      let t = test_ok (nat_le left.depth n) _ left.end p e in
      let b = bind_ok _ _ p t.rest in
      let right = sound.level l (left.end + 1) b.val b.first in
      subst (Stands ls (suc l) from) (ok_one b.rest)
      (node_stands ls (suc l) from b.val.end (max left.depth b.val.depth) (expr.Binary from op left.tree b.val.tree)
      (λ m le. IsLevel.binary_op (h.at_least m (max_left left.depth b.val.depth m le)) o.is o.stands_for
      (right.at_least m (max_right left.depth b.val.depth m le))))

  step_stands : (n l from : ℕ) (more : Found Expr → Reading (Found Expr)) (left p : Found Expr) (o : Option BinOp) →
      Stands ls (suc l) from left → operator_of l (slice_get ls left.end) ≡ o →
      ((q : Found Expr) → Stands ls (suc l) from q → more q ≡ Ok p → Stands ls (suc l) from p) →
      Reading.step_by below n l from more left o ≡ Ok p → Stands ls (suc l) from p
  step_stands n l from more left p None h is rec e = subst (Stands ls (suc l) from) (ok_one e) h
  step_stands n l from more left p (Some op) h is rec e =
      let b = bind_ok _ _ p e in
      rec b.val (binary_stands n l from left b.val op h (binary_at (slice_get ls left.end) l op is) b.first) b.rest

  tail_stands : (n l from turns : ℕ) (left p : Found Expr) → Stands ls (suc l) from left →
      Reading.tail_of ls below n l from turns left ≡ Ok p → Stands ls (suc l) from p
  tail_stands n l from zero left p h e = subst (Stands ls (suc l) from) (ok_one e) h
  tail_stands n l from (suc turns) left p h e =
      step_stands n l from (Reading.tail_of ls below n l from turns) left p (operator_of l (slice_get ls left.end)) h refl
      (λ q s r. tail_stands n l from turns q p s r) e

  rest_stands : (n l from : ℕ) (left p : Found Expr) (last : Bool) → (l == 10) ≡ last → Stands ls l from left →
      Reading.rest_of ls below n l from left last ≡ Ok p → Stands ls (suc l) from p
  rest_stands n l from left p false is h e = tail_stands n l from n left p (raised h) e
  rest_stands n l from left p true is h e =
      let ten : l ≡ 10 = eqb-true l 10 is in
      elim (cond_ok (is_at ls left.end lex.Question) _ _ p e) [
        | was_true t r ↦
            subst (λ k. Stands ls (suc k) from p) (sym ten)
            (choice_stands n from left p (subst (λ k. Stands ls k from left) ten h) (is_in_true (slice_get ls left.end) lex.Question t) r)
        | was_false t r ↦ subst (Stands ls (suc l) from) (ok_one r) (raised h)
      ]

  level_stands : (n l at : ℕ) (p : Found Expr) → Reading.level_of ls below n l at ≡ Ok p → Stands ls l at p
  level_stands n zero at p e = operand_stands at p (unary_of (slice_get ls at)) refl e
  level_stands n (suc l) at p e =
      let b = bind_ok _ _ p e in
      rest_stands n l at b.val p (l == 10) refl (level_stands n l at b.val b.first) b.rest

pub reader_sound : (ls : List Terminal) (n : ℕ) → Sound ls (Reading.reader_of ls n)
reader_sound ls zero = record { level = λ l at p e. cc; select = λ at s e. cc }
reader_sound ls (suc n) = record {
  level = λ l at p e. level_stands ls (Reading.reader_of ls n) (reader_sound ls n) n l at p e;
  select = λ at s e. select_of_stands ls (Reading.reader_of ls n) (reader_sound ls n) at s e;
}
