-- One turn of the loops of the reader, and one step up the levels.
use Rattle.std.proofs.Common.{◌≡◌, ◌≢◌, ◌<◌, ◌==◌, ℕ, zero, suc, ◌+◌, ◌-◌, List, Some, true, Result, Ok, Err, slice_get, refl, sym, ap, subst, ◌∙◌, arith}
use Rattle.vl_tree.specs.declared.terminals.Terminal.{Terminal}
use Rattle.vl_tree.specs.declared.terminals.Terminal.TheVariants as lex
use Rattle.vl_tree.specs.declared.operators.BinOp.{BinOp}
use Rattle.vl_tree.specs.declared.exprs.Expr.{Expr}
use Rattle.vl_expr.specs.declared.found.Found.{Found}
use Rattle.vl_expr.specs.declared.found.ParseError.{ParseError}
use Rattle.vl_expr.specs.declared.found.ParseError.TheVariants as errors
use Rattle.vl_expr.specs.Classes.{operator_of, is_at}
use Rattle.vl_expr.specs.Reading
use Rattle.vl_expr.specs.Reading.{Reading, Reader, Gives, ◌>>=◌, reader_of, level_of, rest_of, tail_of, exprs_from, added}
use Rattle.vl_expr.proofs.Primaries.{bind_at, if_true}

-- a later step that is not come to
pub gives_stuck : {A B : Type 0} (e : ParseError) (r : Reading A) (f : A → Reading B) → Gives (Err e) r → Gives (Err e) (r >>= f)
gives_stuck (errors.NoTree at) r f h = ap (λ s. s >>= f) h
gives_stuck errors.Memory r f h = tt

pub gives_along : {A : Type 0} (e : Result A ParseError) (r s : Reading A) → s ≡ r → Gives e r → Gives e s
gives_along e r s h g = subst (Gives e) (sym h) g

turns_left : (turn d : ℕ) → turn < d → d - turn ≡ suc (d - (turn + 1))
turns_left turn d h = omega arith

module _ (ls : List Terminal) (below : Reader) where
  tail_step : (n l from turn d : ℕ) (left : Found Expr) (op : BinOp) → turn < d → operator_of l (slice_get ls left.end) ≡ Some op →
      tail_of ls below n l from (d - turn) left ≡ (Reading.binary_of below n l from left op >>= tail_of ls below n l from (d - (turn + 1)))
  tail_step n l from turn d left op h o =
      ap (λ k. tail_of ls below n l from k left) (turns_left turn d h)
      ∙ ap (Reading.step_by below n l from (tail_of ls below n l from (d - (turn + 1))) left) o

  pub tail_more : (n l from turn d : ℕ) (left next : Found Expr) (op : BinOp) → turn < d → operator_of l (slice_get ls left.end) ≡ Some op →
      Reading.binary_of below n l from left op ≡ Ok next →
      tail_of ls below n l from (d - turn) left ≡ tail_of ls below n l from (d - (turn + 1)) next
  tail_more n l from turn d left next op h o r = tail_step n l from turn d left op h o ∙ bind_at _ r

  pub tail_stuck : (n l from turn d : ℕ) (left : Found Expr) (op : BinOp) (e : ParseError) → turn < d →
      operator_of l (slice_get ls left.end) ≡ Some op → Gives (Err e) (Reading.binary_of below n l from left op) →
      Gives (Err e) (tail_of ls below n l from (d - turn) left)
  tail_stuck n l from turn d left op e h o g =
      gives_along (Err e) _ _ (tail_step n l from turn d left op h o)
      (gives_stuck e (Reading.binary_of below n l from left op) (tail_of ls below n l from (d - (turn + 1))) g)

  exprs_step : (turn d : ℕ) (all : Found (List Expr)) → turn < d → is_at ls all.end lex.Comma ≡ true →
      exprs_from ls below (d - turn) all ≡ (below.level 11 (all.end + 1) >>= λ p. exprs_from ls below (d - (turn + 1)) (added all p))
  exprs_step turn d all h c = ap (λ k. exprs_from ls below k all) (turns_left turn d h) ∙ if_true _ _ _ c

  pub exprs_more : (turn d : ℕ) (all next : Found (List Expr)) (p : Found Expr) → turn < d → is_at ls all.end lex.Comma ≡ true →
      below.level 11 (all.end + 1) ≡ Ok p → next ≡ added all p →
      exprs_from ls below (d - turn) all ≡ exprs_from ls below (d - (turn + 1)) next
  exprs_more turn d all next p h c r e =
      exprs_step turn d all h c ∙ bind_at _ r ∙ ap (exprs_from ls below (d - (turn + 1))) (sym e)

  pub exprs_stuck : (turn d : ℕ) (all : Found (List Expr)) (e : ParseError) → turn < d → is_at ls all.end lex.Comma ≡ true →
      Gives (Err e) (below.level 11 (all.end + 1)) → Gives (Err e) (exprs_from ls below (d - turn) all)
  exprs_stuck turn d all e h c g =
      gives_along (Err e) _ _ (exprs_step turn d all h c)
      (gives_stuck e (below.level 11 (all.end + 1)) (λ p. exprs_from ls below (d - (turn + 1)) (added all p)) g)

  pub level_up : (n l at : ℕ) (left : Found Expr) (r : Result (Found Expr) ParseError) → l ≢ 0 → level_of ls below n (l - 1) at ≡ Ok left →
      Gives r (rest_of ls below n (l - 1) at left ((l - 1) == 10)) → Gives r (level_of ls below n l at)
  level_up n zero at left r some e g = absurd (some refl)
  level_up n (suc l) at left r some e g = let same : suc l - 1 ≡ l = omega arith in from same e g
    where
      from : suc l - 1 ≡ l → level_of ls below n (suc l - 1) at ≡ Ok left →
          Gives r (rest_of ls below n (suc l - 1) at left ((suc l - 1) == 10)) → Gives r (level_of ls below n (suc l) at)
      from same e g =
          let read : level_of ls below n l at ≡ Ok left = subst (λ k. level_of ls below n k at ≡ Ok left) same e in
          gives_along r _ _ (bind_at _ read) (subst (λ k. Gives r (rest_of ls below n k at left (k == 10))) same g)
