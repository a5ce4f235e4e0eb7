-- What is read is an expression of the grammar, what is one is read, and it is the only one there.
use Rattle.std.proofs.Common.{◌≡◌, ◌≤◌, ℕ, max, List, Result, Ok, Err, slice_get, refl, sym, ap, subst, ◌∙◌, arith}
use Rattle.std.specs.Prelude.{IfOk, MatchResult}
use Rattle.vl_tree.specs.declared.terminals.Terminal.{Terminal}
use Rattle.vl_tree.specs.declared.exprs.Expr.{Expr}
use Rattle.vl_tree.specs.Expressions.{IsExpr, IsWholeExpr, ends_expr}
use Rattle.vl_expr.specs.declared.found.Found.{Found}
use Rattle.vl_expr.specs.declared.found.ParseError.{ParseError}
use Rattle.vl_expr.specs.declared.found.ParseError.TheVariants as errors
use Rattle.vl_expr.specs.Reading.{Reading, Gives, expr_of, whole_of}
use Rattle.vl_expr.proofs.Results.{ok_one, bind_ok, test_ok}
use Rattle.vl_expr.proofs.Sound.{reader_sound}
use Rattle.vl_expr.proofs.Fits.{reader_fits}
use Rattle.vl_expr.proofs.Follow.{ends_stops}
use Rattle.vl_expr.proofs.Comes.{found, Reads, loose, below_reads}
use Rattle.vl_expr.proofs.Primaries.{bind_at, if_true}
use Rattle.vl_expr.proofs.Complete.{level_comes}

pub not_read : {X : Type 0} {k : ℕ} {x : X} → ◌≡◌ {A = Reading X} (Err k) (Ok x) → ⊥
not_read e = cc

module _ (ls : List Terminal) where
  -- what is read is an expression
  pub expr_sound : (n at : ℕ) (p : Found Expr) → expr_of ls n at ≡ Ok p → IsExpr ls n at p.end p.tree
  expr_sound n at p e =
      let s = (reader_sound ls n).level 11 at p e in
      s.at_least n ((reader_fits ls n).level 11 at p e)

  -- an expression before one of the tokens that end one is read within each depth from its own on
  expr_read : (n m at j : ℕ) (e : Expr) → n ≤ m → IsWholeExpr ls n at j e → Reads (expr_of ls m at) e j n
  expr_read n m at j e le w =
      let s = ends_stops (slice_get ls j) w.ends in
      below_reads ls (level_comes ls w.expr (loose 11 (slice_get ls j) s)) s m le

  pub expr_complete : (n at j : ℕ) (e : Expr) → IsWholeExpr ls n at j e → Reads (expr_of ls n at) e j n
  expr_complete n at j e w = expr_read n n at j e (omega arith) w

  pub whole_sound : (n at : ℕ) (p : Found Expr) → whole_of ls n at ≡ Ok p → IsWholeExpr ls n at p.end p.tree
  whole_sound n at p e =
      let b = bind_ok _ _ p e in
      let t = test_ok (ends_expr (slice_get ls b.val.end)) (Ok b.val) b.val.end p b.rest in
      subst (λ q. IsWholeExpr ls n at q.end q.tree) (ok_one t.rest) (record { expr = expr_sound n at b.val b.first; ends = t.holds })

  whole_read : (n m at j : ℕ) (e : Expr) → n ≤ m → IsWholeExpr ls n at j e → Reads (whole_of ls m at) e j n
  whole_read n m at j e le w =
      let r = expr_read n m at j e le w in
      record { depth = r.depth; fits = r.fits; is = bind_at _ r.is ∙ if_true (ends_expr (slice_get ls j)) _ _ w.ends }

  pub whole_complete : (n at j : ℕ) (e : Expr) → IsWholeExpr ls n at j e → Reads (whole_of ls n at) e j n
  whole_complete n at j e w = whole_read n n at j e (omega arith) w

  -- what a function of the code answers that gives what reading gives
  pub expr_found : (n at : ℕ) (r : Result (Found Expr) ParseError) → Gives r (expr_of ls n at) → IfOk r (λ p. IsExpr ls n at p.end p.tree)
  expr_found n at (Ok p) g = expr_sound n at p g
  expr_found n at (Err e) g = tt

  pub expr_only : (n at : ℕ) (r : Result (Found Expr) ParseError) → Gives r (expr_of ls n at) → (e : Expr) (j : ℕ) → IsWholeExpr ls n at j e →
      MatchResult r (λ p. (p.tree ≡ e) × (p.end ≡ j)) (λ f. f ≡ errors.Memory)
  expr_only n at (Ok p) g e j w =
      let r = expr_complete n at j e w in
      let same : p ≡ found e j r.depth = ok_one (sym g ∙ r.is) in
      (ap (λ q. q.tree) same, ap (λ q. q.end) same)
  expr_only n at (Err (errors.NoTree k)) g e j w = let r = expr_complete n at j e w in absurd (not_read (sym g ∙ r.is))
  expr_only n at (Err errors.Memory) g e j w = refl

  pub whole_found : (n at : ℕ) (r : Result (Found Expr) ParseError) → Gives r (whole_of ls n at) → IfOk r (λ p. IsWholeExpr ls n at p.end p.tree)
  whole_found n at (Ok p) g = whole_sound n at p g
  whole_found n at (Err e) g = tt

  pub whole_only : (n at : ℕ) (r : Result (Found Expr) ParseError) → Gives r (whole_of ls n at) → (e : Expr) (j : ℕ) → IsWholeExpr ls n at j e →
      MatchResult r (λ p. (p.tree ≡ e) × (p.end ≡ j)) (λ f. f ≡ errors.Memory)
  whole_only n at (Ok p) g e j w =
      let r = whole_complete n at j e w in
      let same : p ≡ found e j r.depth = ok_one (sym g ∙ r.is) in
      (ap (λ q. q.tree) same, ap (λ q. q.end) same)
  whole_only n at (Err (errors.NoTree k)) g e j w = let r = whole_complete n at j e w in absurd (not_read (sym g ∙ r.is))
  whole_only n at (Err errors.Memory) g e j w = refl

  -- an expression within a depth is one within each larger depth
  pub deeper : (n m at j : ℕ) (e : Expr) → n ≤ m → IsWholeExpr ls n at j e → IsWholeExpr ls m at j e
  deeper n m at j e le w = let r = whole_read n m at j e le w in whole_sound m at (found e j r.depth) r.is

  -- two expressions at one place are one
  pub one_expr : (n m at i j : ℕ) (e f : Expr) → IsWholeExpr ls n at i e → IsWholeExpr ls m at j f → (e ≡ f) × (i ≡ j)
  one_expr n m at i j e f v w =
      let p = whole_read n (max n m) at i e (omega arith) v in
      let q = whole_read m (max n m) at j f (omega arith) w in
      let same : found e i p.depth ≡ found f j q.depth = ok_one (sym p.is ∙ q.is) in
      (ap (λ r. r.tree) same, ap (λ r. r.end) same)
