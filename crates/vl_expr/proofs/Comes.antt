-- How reading comes to a part of the grammar, from how it comes to the parts of that part.
use Rattle.std.proofs.Common.{◌≡◌, ◌≤◌, ◌==◌, ℕ, zero, suc, ◌+◌, List, Option, Bool, true, false, Ok, slice_get, refl, ◌∙◌, arith}
use Rattle.std.proofs.lemmas.Bool.{eqb-true}
use Rattle.vl_tree.specs.declared.terminals.Terminal.{Terminal}
use Rattle.vl_tree.specs.declared.exprs.Expr.{Expr}
use Rattle.vl_expr.specs.declared.found.Found.{Found}
use Rattle.vl_expr.specs.Reading.{Reading, reader_of, level_of, tail_of}
use Rattle.vl_expr.proofs.Follow.{Stops, lower, no_operator}

-- what was read
abbrev pub found : {X : Type 0} → X → ℕ → ℕ → Found X
found tree end depth = record { tree = tree; end = end; depth = depth }

-- reading gives this tree and place, at a depth of at most n
pub record Reads {X : Type 0} (r : Reading (Found X)) (tree : X) (end n : ℕ) : Type 0 where
  pub depth : ℕ
  pub fits : depth ≤ n
  pub is : r ≡ Ok (found tree end depth)

-- what is left to read of a level, when a part of the level was read
abbrev pub finish_by : List Terminal → ℕ → ℕ → ℕ → ℕ → Found Expr → Bool → Reading (Found Expr)
finish_by ls n l from turns p true = Ok p
finish_by ls n l from turns p false = tail_of ls (reader_of ls n) n l from turns p

abbrev pub finish : List Terminal → ℕ → ℕ → ℕ → ℕ → Found Expr → Reading (Found Expr)
finish ls n zero from turns p = Ok p
finish ls n (suc l) from turns p = finish_by ls n l from turns p (l == 10)

-- reading a level comes to this tree, and may go on
pub record Comes (ls : List Terminal) (n m l i j : ℕ) (e : Expr) : Type 0 where
  pub turns : ℕ
  pub depth : ℕ
  pub least : 1 ≤ depth
  pub enough : suc n ≤ turns + depth
  pub fits : depth ≤ m
  pub is : level_of ls (reader_of ls n) n l i ≡ finish ls n l i turns (found e j depth)

-- it does so whatever depth is allowed, if it is at least m
pub record Claim (ls : List Terminal) (m l i j : ℕ) (e : Expr) : Type 0 where
  pub comes : (n : ℕ) → m ≤ suc n → Comes ls n m l i j e

-- what may follow a part of a level that may go on
abbrev pub loosest_by : ℕ → Bool → ℕ
loosest_by l true = 11
loosest_by l false = l

abbrev pub loosest : ℕ → ℕ
loosest zero = zero
loosest (suc l) = loosest_by l (l == 10)

pub record Loose (l : ℕ) (o : Option Terminal) : Type 0 where
  pub stops : Stops (loosest l) o

pub loose : (l : ℕ) (o : Option Terminal) → Stops l o → Loose l o
loose zero o s = record { stops = s }
loose (suc l) o s = record { stops = by_ten (l == 10) refl }
  where
    by_ten : (b : Bool) → (l == 10) ≡ b → Stops (loosest_by l b) o
    by_ten true e = let h = s.above in let ten : l ≡ 10 = eqb-true l 10 e in record { above = omega arith }
    by_ten false e = lower l o s

-- what may follow a level may follow the one below
pub loose_below : (l : ℕ) (o : Option Terminal) → Loose (suc l) o → Stops l o
loose_below l o s = by_ten (l == 10) refl s.stops
  where
    by_ten : (b : Bool) → (l == 10) ≡ b → Stops (loosest_by l b) o → Stops l o
    by_ten true e t = let h = t.above in let ten : l ≡ 10 = eqb-true l 10 e in record { above = omega arith }
    by_ten false e t = t

module _ (ls : List Terminal) where
  tail_ends : (n l from turns : ℕ) (p : Found Expr) → Stops (suc l) (slice_get ls p.end) → tail_of ls (reader_of ls n) n l from turns p ≡ Ok p
  tail_ends n l from zero p s = refl
  tail_ends n l from (suc turns) p s = rw (no_operator l (slice_get ls p.end) s) refl

  finish_ends : (n l from turns : ℕ) (p : Found Expr) → Stops l (slice_get ls p.end) → finish ls n l from turns p ≡ Ok p
  finish_ends n zero from turns p s = refl
  finish_ends n (suc l) from turns p s = by_ten (l == 10)
    where
      by_ten : (b : Bool) → finish_by ls n l from turns p b ≡ Ok p
      by_ten true = refl
      by_ten false = tail_ends n l from turns p s

  pub settled : {n m l i j : ℕ} {e : Expr} → (c : Comes ls n m l i j e) → Stops l (slice_get ls j) →
      level_of ls (reader_of ls n) n l i ≡ Ok (found e j c.depth)
  settled {n = n} {l = l} {i = i} {j = j} {e = e} c s = c.is ∙ finish_ends n l i c.turns (found e j c.depth) s

  pub below_reads : {m l i j : ℕ} {e : Expr} → Claim ls m l i j e → Stops l (slice_get ls j) → (n : ℕ) → m ≤ n →
      Reads ((reader_of ls n).level l i) e j m
  below_reads c s zero h = let d = c.comes zero (omega arith) in absurd (omega arith)
  below_reads c s (suc n) h = let d = c.comes n h in record { depth = d.depth; fits = d.fits; is = settled d s }
