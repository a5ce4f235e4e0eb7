-- Expressions, lists of them and selects, as the crate below reads them.
use Rattle.std.proofs.Common.{◌≡◌, ◌≤◌, ℕ, zero, suc, ◌+◌, List, [], ◌∷◌, Option, Some, None, Bool, true, false, Ok, Err, slice_get, refl, sym, ap, subst, ◌∙◌, lit<, arith}
use Rattle.std.proofs.lemmas.Bool.{both_ways}
use Rattle.vl_tree.specs.declared.terminals.Terminal.{Terminal}
use Rattle.vl_tree.specs.declared.terminals.Terminal.TheVariants as lex
use Rattle.vl_tree.specs.declared.exprs.Expr.{Expr}
use Rattle.vl_tree.specs.declared.exprs.Select.{Select}
use Rattle.vl_tree.specs.Places.{At}
use Rattle.vl_tree.specs.Expressions.{IsExpr, IsExprs, IsArgs, IsSelects, ends_expr}
use Rattle.vl_expr.specs.declared.found.Found.{Found}
use Rattle.vl_expr.specs.Classes.{is_at, is_in}
use Rattle.vl_expr.specs.Reading.{Reading, reader_of}
use Rattle.vl_expr.proofs.Results.{ok_one, bind_ok, past_ok, past_at}
use Rattle.vl_expr.proofs.Primaries.{bind_at, stops_at}
use Rattle.vl_expr.proofs.Sound.{reader_sound, exprs_stand, args_stand, selects_stand}
use Rattle.vl_expr.proofs.Fits.{reader_fits, exprs_fit, args_fit, selects_fit}
use Rattle.vl_expr.proofs.Follow.{Stops, Closes}
use Rattle.vl_expr.proofs.Begins.{level_moves}
use Rattle.vl_expr.proofs.Lists.{exprs_read}
use Rattle.vl_expr.proofs.Complete.{exprs_start, args_read, selects_read}
use Rattle.vl_expr.proofs.Laws.{expr_sound, expr_complete}
use Rattle.vl_parse.specs.declared.part.Part.{Part}
use Rattle.vl_parse.specs.Parts.{part, bare}
use Rattle.vl_parse.specs.Declarations.{expr_at, exprs_at, args_at, selects_at}
use Rattle.vl_parse.proofs.Parts.{Sound, Reads}

module _ (ls : List Terminal) (n : ℕ) where
  pub expr_stands : Sound (IsExpr ls n) (expr_at ls n)
  expr_stands = record {
    stands = λ i q e.
        let b = bind_ok _ _ q e in
        subst (λ r. IsExpr ls n i r.end r.tree) (ok_one b.rest) (expr_sound ls n i b.val b.first);
  }

  pub exprs_stand_at : Sound (IsExprs ls n) (exprs_at ls n)
  exprs_stand_at = record {
    stands = λ i q e.
        let b = bind_ok _ _ q e in
        let s = exprs_stand ls (reader_of ls n) (reader_sound ls n) i b.val b.first in
        let f = exprs_fit ls (reader_of ls n) n (reader_fits ls n) i b.val b.first in
        subst (λ r. IsExprs ls n i r.end r.tree) (ok_one b.rest) (s.at_least n f);
  }

  pub args_stand_at : Sound (IsArgs ls n) (args_at ls n)
  args_stand_at = record {
    stands = λ i q e.
        let b = bind_ok _ _ q e in
        let s = args_stand ls (reader_of ls n) (reader_sound ls n) i b.val b.first in
        let f = args_fit ls (reader_of ls n) n (reader_fits ls n) i b.val b.first in
        subst (λ r. IsArgs ls n i r.end r.tree) (ok_one b.rest) (s.at_least n f);
  }

  pub selects_stand_at : Sound (IsSelects ls n) (selects_at ls n)
  selects_stand_at = record {
    stands = λ i q e.
        let b = bind_ok _ _ q e in
        let s = selects_stand ls (reader_of ls n) (reader_sound ls n) i b.val b.first in
        let f = selects_fit ls (reader_of ls n) n (reader_fits ls n) i b.val b.first in
        subst (λ r. IsSelects ls n i r.end r.tree) (ok_one b.rest) (s.at_least n f);
  }

  pub expr_reads : {i j : ℕ} {e : Expr} → IsExpr ls n i j e → ends_expr (slice_get ls j) ≡ true → expr_at ls n i ≡ Ok (part e j)
  expr_reads {i = i} {j = j} {e = e} a h = bind_at _ (expr_complete ls n i j e (record { expr = a; ends = h })).is

  pub exprs_read_at : {i j : ℕ} {es : List Expr} → IsExprs ls n i j es → Closes (slice_get ls j) → exprs_at ls n i ≡ Ok (part es j)
  exprs_read_at a k = bind_at _ (exprs_read ls (exprs_start ls a k n (omega arith))).is

  pub args_read_at : {i j : ℕ} {es : List Expr} → IsArgs ls n i j es → args_at ls n i ≡ Ok (part es j)
  args_read_at a = bind_at _ (args_read ls a n (omega arith)).is

  pub selects_read_at : {i j : ℕ} {ss : List Select} → IsSelects ls n i j ss → Stops 0 (slice_get ls j) → selects_at ls n i ≡ Ok (part ss j)
  selects_read_at a s = bind_at _ (selects_read ls a s n (omega arith)).is
