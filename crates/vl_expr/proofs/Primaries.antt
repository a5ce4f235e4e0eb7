-- How reading comes to an operand, from how it comes to its parts.
use Rattle.std.proofs.Common.{◌≡◌, ◌≤◌, ℕ, suc, ◌+◌, List, Option, Some, None, Bool, true, false, cond, Ok, slice_get, refl, sym, ap, subst, ◌∙◌, lit<, arith}
use Rattle.vl_tree.specs.declared.terminals.Terminal.{Terminal}
use Rattle.vl_tree.specs.declared.terminals.Terminal.TheVariants as lex
use Rattle.vl_tree.specs.declared.operators.Sign.{Sign}
use Rattle.vl_tree.specs.declared.operators.UnOp.{UnOp}
use Rattle.vl_tree.specs.declared.exprs.Expr.{Expr}
use Rattle.vl_tree.specs.declared.exprs.Expr.TheVariants as expr
use Rattle.vl_tree.specs.declared.exprs.Select.{Select}
use Rattle.vl_tree.specs.Places.{At, IsName}
use Rattle.vl_tree.specs.Operators.{unary}
use Rattle.vl_expr.specs.declared.classes.Start.{Start}
use Rattle.vl_expr.specs.declared.classes.Start.TheVariants as start
use Rattle.vl_expr.specs.Classes.{start_of, unary_of, is_at, is_in}
use Rattle.vl_expr.specs.Reading
use Rattle.vl_expr.specs.Reading.{Reading, Reader, ◌>>=◌, node, single, added, reader_of}
use Rattle.vl_expr.proofs.Results.{past_at, in_is_true}
use Rattle.vl_expr.proofs.Follow.{Stops, no_base}
use Rattle.vl_expr.proofs.Begins.{named}
use Rattle.vl_expr.proofs.Comes.{found, Reads, Comes, Claim, below_reads}

-- the first of two steps
pub bind_at : {A B : Type 0} {r : Reading A} {x : A} (f : A → Reading B) → r ≡ Ok x → (r >>= f) ≡ f x
bind_at f e = ap (λ r. r >>= f) e

-- a test that is known
pub if_true : {X : Type 0} (b : Bool) (x y : X) → b ≡ true → cond b x y ≡ x
if_true b x y e = rw e

pub if_false : {X : Type 0} (b : Bool) (x y : X) → b ≡ false → cond b x y ≡ y
if_false b x y e = rw e

pub stops_at : {l : ℕ} {o : Option Terminal} {x : Terminal} → o ≡ Some x → Stops l (Some x) → Stops l o
stops_at {l = l} e s = subst (Stops l) (sym e) s

pub not_at : {o : Option Terminal} (x y : Terminal) → o ≡ Some x → is_in (Some x) y ≡ false → is_in o y ≡ false
not_at x y e h = rw e h

module _ (ls : List Terminal) where
  -- an operand is read to its end at once
  operand_comes : {n m i j : ℕ} {e : Expr} → Reads (Reading.operand_of ls (reader_of ls n) i) e j (suc m) →
      ((d : ℕ) → Reading.operand_of ls (reader_of ls n) i ≡ Ok (found e j d) → 1 ≤ d) → Comes ls n (suc m) 0 i j e
  operand_comes {n = n} r least =
      let l = least r.depth r.is in
      record { turns = n; depth = r.depth; least = l; enough = omega arith; fits = r.fits; is = r.is }

  -- a node whose parts were read at a depth
  pub node_comes : {n m i j : ℕ} {e : Expr} (d : ℕ) → d ≤ m → Reading.operand_of ls (reader_of ls n) i ≡ Ok (node e j d) → Comes ls n (suc m) 0 i j e
  node_comes {n = n} d h e = record { turns = n; depth = suc d; least = omega arith; enough = omega arith; fits = omega arith; is = e }

  primary_is : (below : Reader) (at : ℕ) (s : Start) → unary_of (slice_get ls at) ≡ None → start_of (slice_get ls at) ≡ s →
      Reading.operand_of ls below at ≡ Reading.primary_by ls below at s
  primary_is below at s u e = ap (Reading.operand_by ls below at) u ∙ ap (Reading.primary_by ls below at) e

  pub token_is : (below : Reader) (at : ℕ) (x : Terminal) (s : Start) → At ls at x → unary x ≡ None → start_of (Some x) ≡ s →
      Reading.operand_of ls below at ≡ Reading.primary_by ls below at s
  token_is below at x s h u e = primary_is below at s (ap unary_of h ∙ u) (ap start_of h ∙ e)

  name_is : (below : Reader) (at : ℕ) → IsName ls at → Reading.operand_of ls below at ≡ Reading.primary_by ls below at start.Name
  name_is below at h = let n = named (slice_get ls at) h in primary_is below at start.Name n.no_operator n.start

  pub unary_comes : {m i j : ℕ} {x : Terminal} {op : UnOp} {e : Expr} → At ls i x → unary x ≡ Some op →
      Claim ls m 0 (i + 1) j e → Stops 0 (slice_get ls j) → Claim ls (suc m) 0 i j (expr.Unary i op e)
  unary_comes {i = i} {op = op} h u c s = record {
    comes = λ n le.
        let r = below_reads ls c s n (omega arith) in
        node_comes r.depth r.fits
        (ap (Reading.operand_by ls (reader_of ls n) i) (ap unary_of h ∙ u) ∙ bind_at _ r.is);
  }

  pub sized_comes : {m i : ℕ} → At ls i lex.Decimal → At ls (i + 1) lex.Based →
      Claim ls (suc m) 0 i (i + 2) (expr.Based i (Some i) (i + 1))
  sized_comes {i = i} h b = record {
    comes = λ n le. node_comes 0 (omega arith)
        (token_is (reader_of ls n) i lex.Decimal start.Decimal h refl refl
        ∙ ap (λ t. Ok (Reading.decimal_by i t)) (in_is_true (slice_get ls (i + 1)) lex.Based b));
  }

  pub based_comes : {m i : ℕ} → At ls i lex.Based → Claim ls (suc m) 0 i (i + 1) (expr.Based i None i)
  based_comes {i = i} h = record {
    comes = λ n le. node_comes 0 (omega arith) (token_is (reader_of ls n) i lex.Based start.Based h refl refl);
  }

  pub decimal_comes : {m i : ℕ} → At ls i lex.Decimal → Stops 0 (slice_get ls (i + 1)) →
      Claim ls (suc m) 0 i (i + 1) (expr.Decimal i i)
  decimal_comes {i = i} h s = record {
    comes = λ n le. node_comes 0 (omega arith)
        (token_is (reader_of ls n) i lex.Decimal start.Decimal h refl refl
        ∙ ap (λ t. Ok (Reading.decimal_by i t)) (no_base (slice_get ls (i + 1)) s));
  }

  pub name_comes : {m i j : ℕ} {ss : List Select} → IsName ls i → is_at ls (i + 1) lex.OpenParen ≡ false →
      ((n : ℕ) → m ≤ n → Reads (Reading.selects_of ls (reader_of ls n) (i + 1)) ss j m) →
      Claim ls (suc m) 0 i j (expr.Name i i ss)
  name_comes {i = i} h p c = record {
    comes = λ n le.
        let r = c n (omega arith) in
        node_comes r.depth r.fits (name_is (reader_of ls n) i h ∙ ap (Reading.name_by ls (reader_of ls n) i) p ∙ bind_at _ r.is);
  }

  pub call_comes : {m i j : ℕ} {es : List Expr} → IsName ls i → At ls (i + 1) lex.OpenParen →
      ((n : ℕ) → m ≤ n → Reads (Reading.args_of ls (reader_of ls n) (i + 1)) es j m) →
      Claim ls (suc m) 0 i j (expr.Call i i es)
  call_comes {i = i} h p c = record {
    comes = λ n le.
        let r = c n (omega arith) in
        node_comes r.depth r.fits
        (name_is (reader_of ls n) i h ∙ ap (Reading.name_by ls (reader_of ls n) i) (in_is_true (slice_get ls (i + 1)) lex.OpenParen p) ∙ bind_at _ r.is);
  }

  -- an expression in parentheses
  paren_is : (i : ℕ) {m j : ℕ} {e : Expr} → At ls i lex.OpenParen → Claim ls m 11 (i + 1) j e → At ls j lex.CloseParen → (n : ℕ) → m ≤ n →
      Reads (Reading.paren_of ls (reader_of ls n) i) e (j + 1) m
  paren_is i {j = j} {e = e} h c k n le =
      let r = below_reads ls c (stops_at k (record { above = lit< tt })) n le in
      record {
        depth = r.depth;
        fits = r.fits;
        is = past_at ls i lex.OpenParen _ h ∙ bind_at _ r.is ∙ past_at ls j lex.CloseParen _ k;
      }

  pub parens_comes : {m i j : ℕ} {e : Expr} → At ls i lex.OpenParen → Claim ls m 11 (i + 1) j e → At ls j lex.CloseParen →
      Claim ls (suc m) 0 i (j + 1) e
  parens_comes {i = i} h c k = record {
    comes = λ n le.
        let r = paren_is i h c k n (omega arith) in
        node_comes r.depth r.fits (token_is (reader_of ls n) i lex.OpenParen start.Paren h refl refl ∙ bind_at _ r.is);
  }

  plus_two : (i : ℕ) → i + 2 ≡ i + 1 + 1
  plus_two i = omega arith

  pub sign_comes : {m i j : ℕ} {e : Expr} (x : Terminal) (s : Sign) → unary x ≡ None → start_of (Some x) ≡ start.Sign s → At ls i x →
      At ls (i + 1) lex.OpenParen → Claim ls m 11 (i + 2) j e → At ls j lex.CloseParen → Claim ls (suc m) 0 i (j + 1) (expr.Sign i s e)
  sign_comes {m = m} {i = i} {j = j} {e = e} x s u st h p c k = record {
    comes = λ n le.
        let r = paren_is (i + 1) p (subst (λ q. Claim ls m 11 q j e) (plus_two i) c) k n (omega arith) in
        node_comes r.depth r.fits (token_is (reader_of ls n) i x (start.Sign s) h u st ∙ bind_at _ r.is);
  }
