-- How reading comes to selects, lists of expressions and what holds such, from how it comes to their parts.
use Rattle.std.proofs.Common.{◌≡◌, ◌≤◌, ℕ, zero, suc, ◌+◌, max, List, [], ◌∷◌, ◌++◌, Some, false, Ok, slice_get, length, refl, ap, ◌∙◌, append_assoc, lit<, arith}
use Rattle.std.proofs.lemmas.Bool.{and_right, and_from}
use Rattle.std.proofs.lemmas.Option.{slice_get_within}
use Rattle.vl_tree.specs.declared.terminals.Terminal.{Terminal}
use Rattle.vl_tree.specs.declared.terminals.Terminal.TheVariants as lex
use Rattle.vl_tree.specs.declared.exprs.Expr.{Expr}
use Rattle.vl_tree.specs.declared.exprs.Expr.TheVariants as expr
use Rattle.vl_tree.specs.declared.exprs.Select.{Select}
use Rattle.vl_tree.specs.declared.exprs.Select.TheVariants as select
use Rattle.vl_tree.specs.Places.{At}
use Rattle.vl_expr.specs.declared.found.Found.{Found}
use Rattle.vl_expr.specs.declared.classes.Start.TheVariants as start
use Rattle.vl_expr.specs.declared.classes.Between.{Between}
use Rattle.vl_expr.specs.declared.classes.Between.TheVariants as between
use Rattle.vl_expr.specs.Classes.{between_of, is_at}
use Rattle.vl_expr.specs.Reading
use Rattle.vl_expr.specs.Reading.{Reading, Reader, ◌>>=◌, node, single, added, reader_of}
use Rattle.vl_expr.proofs.Results.{past_at, in_is_true}
use Rattle.vl_expr.proofs.Tokens.{index_is}
use Rattle.vl_expr.proofs.Follow.{Stops, Closes, no_bracket}
use Rattle.vl_expr.proofs.Comes.{found, Reads, Claim, below_reads}
use Rattle.vl_expr.proofs.Primaries.{bind_at, if_true, if_false, stops_at, not_at, node_comes, token_is}

module _ (ls : List Terminal) where
  -- selects

  pub index_reads : {m i j : ℕ} {e : Expr} → At ls i lex.OpenBracket → Claim ls m 11 (i + 1) j e → At ls j lex.CloseBracket →
      (n : ℕ) → suc m ≤ n → Reads ((reader_of ls n).select i) (select.Index i e) (j + 1) (suc m)
  index_reads h c k zero le = absurd (omega arith)
  index_reads {i = i} {j = j} {e = e} h c k (suc n) le =
      let r = below_reads ls c (stops_at k (record { above = lit< tt })) n (omega arith) in
      record {
        depth = suc r.depth;
        fits = let f = r.fits in omega arith;
        is = past_at ls i lex.OpenBracket _ h ∙ bind_at _ r.is
            ∙ ap (Reading.select_by ls (reader_of ls n) i (found e j r.depth)) (ap between_of k)
            ∙ past_at ls j lex.CloseBracket _ k;
      }

  range_reads : (i : ℕ) {m j k : ℕ} {a b : Expr} (x : Terminal) (kind : Between) → Stops 11 (Some x) → between_of (Some x) ≡ Some kind →
      At ls i lex.OpenBracket → Claim ls m 11 (i + 1) j a → At ls j x → Claim ls m 11 (j + 1) k b → At ls k lex.CloseBracket →
      (n : ℕ) → suc m ≤ n → Reads ((reader_of ls n).select i) (Reading.range_select kind i a b) (k + 1) (suc m)
  range_reads i x kind s w h ca hx cb hk zero le = absurd (omega arith)
  range_reads i {j = j} {k = k} {a = a} {b = b} x kind s w h ca hx cb hk (suc n) le =
      let p = below_reads ls ca (stops_at hx s) n (omega arith) in
      let q = below_reads ls cb (stops_at hk (record { above = lit< tt })) n (omega arith) in
      record {
        depth = suc (max p.depth q.depth);
        fits = let f = p.fits in let g = q.fits in omega arith;
        is = past_at ls i lex.OpenBracket _ h ∙ bind_at _ p.is
            ∙ ap (Reading.select_by ls (reader_of ls n) i (found a j p.depth)) (ap between_of hx ∙ w)
            ∙ bind_at _ q.is ∙ past_at ls k lex.CloseBracket _ hk;
      }

  pub part_reads : {m i j k : ℕ} {a b : Expr} → At ls i lex.OpenBracket → Claim ls m 11 (i + 1) j a → At ls j lex.Colon →
      Claim ls m 11 (j + 1) k b → At ls k lex.CloseBracket → (n : ℕ) → suc m ≤ n →
      Reads ((reader_of ls n).select i) (select.Part i a b) (k + 1) (suc m)
  part_reads {i = i} h ca hx cb hk n le = range_reads i lex.Colon between.Colon (record { above = lit< tt }) refl h ca hx cb hk n le

  pub up_reads : {m i j k : ℕ} {a b : Expr} → At ls i lex.OpenBracket → Claim ls m 11 (i + 1) j a → At ls j lex.PlusColon →
      Claim ls m 11 (j + 1) k b → At ls k lex.CloseBracket → (n : ℕ) → suc m ≤ n →
      Reads ((reader_of ls n).select i) (select.Up i a b) (k + 1) (suc m)
  up_reads {i = i} h ca hx cb hk n le = range_reads i lex.PlusColon between.PlusColon (record { above = lit< tt }) refl h ca hx cb hk n le

  pub down_reads : {m i j k : ℕ} {a b : Expr} → At ls i lex.OpenBracket → Claim ls m 11 (i + 1) j a → At ls j lex.MinusColon →
      Claim ls m 11 (j + 1) k b → At ls k lex.CloseBracket → (n : ℕ) → suc m ≤ n →
      Reads ((reader_of ls n).select i) (select.Down i a b) (k + 1) (suc m)
  down_reads {i = i} h ca hx cb hk n le = range_reads i lex.MinusColon between.MinusColon (record { above = lit< tt }) refl h ca hx cb hk n le

  pub no_select_reads : {m i : ℕ} → Stops 0 (slice_get ls i) → (n : ℕ) → m ≤ n → Reads (Reading.selects_of ls (reader_of ls n) i) [] i m
  no_select_reads {i = i} s n le =
      record { depth = 0; fits = omega arith; is = if_false _ _ _ (no_bracket (slice_get ls i) s) }

  pub one_select_reads : {m i j : ℕ} {t : Select} → At ls i lex.OpenBracket → ((n : ℕ) → m ≤ n → Reads ((reader_of ls n).select i) t j m) →
      Stops 0 (slice_get ls j) → (n : ℕ) → m ≤ n → Reads (Reading.selects_of ls (reader_of ls n) i) (t ∷ []) j m
  one_select_reads {i = i} {j = j} {t = t} h c s n le =
      let r = c n le in
      record {
        depth = r.depth;
        fits = r.fits;
        is = if_true _ _ _ (in_is_true (slice_get ls i) lex.OpenBracket h) ∙ bind_at _ r.is
            ∙ if_false _ _ _ (and_right (Reading.is_index t) (is_at ls j lex.OpenBracket) (no_bracket (slice_get ls j) s));
      }

  pub two_selects_read : {m i j k : ℕ} {e : Expr} {t : Select} → At ls i lex.OpenBracket →
      ((n : ℕ) → m ≤ n → Reads ((reader_of ls n).select i) (select.Index i e) j m) → At ls j lex.OpenBracket →
      ((n : ℕ) → m ≤ n → Reads ((reader_of ls n).select j) t k m) → (n : ℕ) → m ≤ n →
      Reads (Reading.selects_of ls (reader_of ls n) i) (select.Index i e ∷ t ∷ []) k m
  two_selects_read {i = i} {j = j} {e = e} h c hj d n le =
      let r = c n le in
      let q = d n le in
      record {
        depth = max r.depth q.depth;
        fits = let f = r.fits in let g = q.fits in omega arith;
        is = if_true _ _ _ (in_is_true (slice_get ls i) lex.OpenBracket h) ∙ bind_at _ r.is
            ∙ if_true _ _ _ (and_from (Reading.is_index (select.Index i e)) (is_at ls j lex.OpenBracket) (index_is i e) (in_is_true (slice_get ls j) lex.OpenBracket hj))
            ∙ bind_at _ q.is;
      }

  -- lists of expressions

  -- further expressions, when some were read
  pub record Further (n turns m i j : ℕ) (acc : Found (List Expr)) (es : List Expr) : Type 0 where
    pub depth : ℕ
    pub fits : depth ≤ max acc.depth m
    pub is : ((reader_of ls n).level 11 i >>= λ p. Reading.exprs_from ls (reader_of ls n) turns (added acc p)) ≡ Ok (found (acc.tree ++ es) j depth)

  exprs_end : (below : Reader) (turns : ℕ) (all : Found (List Expr)) → is_at ls all.end lex.Comma ≡ false → Reading.exprs_from ls below turns all ≡ Ok all
  exprs_end below zero all e = refl
  exprs_end below (suc turns) all e = if_false _ _ _ e

  pub last_further : {m i j : ℕ} {e : Expr} → Claim ls m 11 i j e → Closes (slice_get ls j) → (n turns : ℕ) (acc : Found (List Expr)) →
      m ≤ n → Further n turns m i j acc (e ∷ [])
  last_further {j = j} {e = e} c k n turns acc le =
      let r = below_reads ls c k.stops n le in
      record {
        depth = max acc.depth r.depth;
        fits = let f = r.fits in omega arith;
        is = bind_at _ r.is ∙ exprs_end (reader_of ls n) turns (added acc (found e j r.depth)) k.comma;
      }

  pub more_further : {m i j k : ℕ} {e : Expr} {es : List Expr} → Claim ls m 11 i j e → At ls j lex.Comma → i ≤ j →
      ((n turns : ℕ) (acc : Found (List Expr)) → m ≤ n → length ls ≤ turns + (j + 1) → Further n turns m (j + 1) k acc es) →
      (n turns : ℕ) (acc : Found (List Expr)) → m ≤ n → length ls ≤ turns + i → Further n turns m i k acc (e ∷ es)
  more_further {i = i} {j = j} c h moves rest n zero acc le room =
      let w = slice_get_within ls j lex.Comma h in absurd (omega arith)
  more_further {i = i} {j = j} {k = k} {e = e} {es = es} c h moves rest n (suc turns) acc le room =
      let r = below_reads ls c (stops_at h (record { above = lit< tt })) n le in
      let w = slice_get_within ls j lex.Comma h in
      let f = rest n turns (added acc (found e j r.depth)) le (omega arith) in
      record {
        depth = f.depth;
        fits = let g = r.fits in let q = f.fits in omega arith;
        is = bind_at _ r.is ∙ if_true _ _ _ (in_is_true (slice_get ls j) lex.Comma h) ∙ f.is
            ∙ ap (λ tree. Ok (found tree k f.depth)) (append_assoc acc.tree (e ∷ []) es);
      }

  -- a list whose first expression was read
  pub record Starts (n m i j : ℕ) (es : List Expr) : Type 0 where
    pub first : Found Expr
    pub is_first : (reader_of ls n).level 11 i ≡ Ok first
    pub brace : is_at ls first.end lex.OpenBrace ≡ false
    pub depth : ℕ
    pub fits : depth ≤ m
    pub is : Reading.exprs_from ls (reader_of ls n) (length ls) (single first) ≡ Ok (found es j depth)

  pub last_starts : {m i j : ℕ} {e : Expr} → Claim ls m 11 i j e → Closes (slice_get ls j) → (n : ℕ) → m ≤ n → Starts n m i j (e ∷ [])
  last_starts {j = j} {e = e} c k n le =
      let r = below_reads ls c k.stops n le in
      record {
        first = found e j r.depth;
        is_first = r.is;
        brace = k.brace;
        depth = r.depth;
        fits = r.fits;
        is = exprs_end (reader_of ls n) (length ls) (single (found e j r.depth)) k.comma;
      }

  -- what follows a first expression with a comma behind it
  record After (n turns m k : ℕ) (p : Found Expr) (es : List Expr) : Type 0 where
    depth : ℕ
    fits : depth ≤ max p.depth m
    is : Reading.exprs_from ls (reader_of ls n) turns (single p) ≡ Ok (found (p.tree ∷ es) k depth)

  after_first : {m k : ℕ} {es : List Expr} (n turns : ℕ) (p : Found Expr) → At ls p.end lex.Comma → length ls ≤ turns →
      ((t : ℕ) → length ls ≤ t + (p.end + 1) → Further n t m (p.end + 1) k (single p) es) → After n turns m k p es
  after_first n zero p h room rest = let w = slice_get_within ls p.end lex.Comma h in absurd (omega arith)
  after_first n (suc turns) p h room rest =
      let f = rest turns (omega arith) in
      record { depth = f.depth; fits = f.fits; is = if_true _ _ _ (in_is_true (slice_get ls p.end) lex.Comma h) ∙ f.is }

  pub more_start : {m i j k : ℕ} {e : Expr} {es : List Expr} → Claim ls m 11 i j e → At ls j lex.Comma →
      ((n turns : ℕ) (acc : Found (List Expr)) → m ≤ n → length ls ≤ turns + (j + 1) → Further n turns m (j + 1) k acc es) →
      (n : ℕ) → m ≤ n → Starts n m i k (e ∷ es)
  more_start {j = j} {e = e} c h rest n le =
      let r = below_reads ls c (stops_at h (record { above = lit< tt })) n le in
      let p = found e j r.depth in
      let f = after_first n (length ls) p h (omega arith) (λ t room. rest n t (single p) le room) in
      record {
        first = p;
        is_first = r.is;
        brace = not_at lex.Comma lex.OpenBrace h refl;
        depth = f.depth;
        fits = let g = r.fits in let q = f.fits in omega arith;
        is = f.is;
      }

  pub exprs_read : {n m i j : ℕ} {es : List Expr} → Starts n m i j es → Reads (Reading.exprs_of ls (reader_of ls n) i) es j m
  exprs_read s = record { depth = s.depth; fits = s.fits; is = bind_at _ s.is_first ∙ s.is }

  -- what holds lists of expressions

  pub no_args_read : (i : ℕ) {m : ℕ} → At ls i lex.OpenParen → At ls (i + 1) lex.CloseParen → (n : ℕ) → m ≤ n →
      Reads (Reading.args_of ls (reader_of ls n) i) [] (i + 2) m
  no_args_read i h k n le = record {
    depth = 0;
    fits = omega arith;
    is = past_at ls i lex.OpenParen _ h ∙ if_true _ _ _ (in_is_true (slice_get ls (i + 1)) lex.CloseParen k);
  }

  pub some_args_read : (i : ℕ) {m j : ℕ} {es : List Expr} → At ls i lex.OpenParen → is_at ls (i + 1) lex.CloseParen ≡ false →
      ((n : ℕ) → m ≤ n → Starts n m (i + 1) j es) → At ls j lex.CloseParen → (n : ℕ) → m ≤ n →
      Reads (Reading.args_of ls (reader_of ls n) i) es (j + 1) m
  some_args_read i {j = j} h first c k n le =
      let r = exprs_read (c n le) in
      record {
        depth = r.depth;
        fits = r.fits;
        is = past_at ls i lex.OpenParen _ h ∙ if_false _ _ _ first ∙ bind_at _ r.is ∙ past_at ls j lex.CloseParen _ k;
      }

  pub concat_comes : {m i j : ℕ} {es : List Expr} → At ls i lex.OpenBrace → ((n : ℕ) → m ≤ n → Starts n m (i + 1) j es) →
      At ls j lex.CloseBrace → Claim ls (suc m) 0 i (j + 1) (expr.Concat i es)
  concat_comes {i = i} {j = j} h c k = record {
    comes = λ n le.
        let s = c n (omega arith) in
        node_comes ls s.depth s.fits
        (token_is ls (reader_of ls n) i lex.OpenBrace start.Brace h refl refl ∙ bind_at _ s.is_first
        ∙ if_false _ _ _ s.brace ∙ bind_at _ s.is ∙ past_at ls j lex.CloseBrace _ k);
  }

  plus_two : (i : ℕ) → i + 1 + 1 ≡ i + 2
  plus_two i = omega arith

  pub replicate_comes : {m i j k : ℕ} {e : Expr} {es : List Expr} → At ls i lex.OpenBrace → Claim ls m 11 (i + 1) j e →
      At ls j lex.OpenBrace → ((n : ℕ) → m ≤ n → Starts n m (j + 1) k es) → At ls k lex.CloseBrace → At ls (k + 1) lex.CloseBrace →
      Claim ls (suc m) 0 i (k + 2) (expr.Replicate i e es)
  replicate_comes {m = m} {i = i} {j = j} {k = k} {e = e} {es = es} h c hj d hk last = record {
    comes = λ n le.
        let r = below_reads ls c (stops_at hj (record { above = lit< tt })) n (omega arith) in
        let s = exprs_read (d n (omega arith)) in
        node_comes ls (max r.depth s.depth) (let f = r.fits in let g = s.fits in omega arith)
        (token_is ls (reader_of ls n) i lex.OpenBrace start.Brace h refl refl ∙ bind_at _ r.is
        ∙ if_true _ _ _ (in_is_true (slice_get ls j) lex.OpenBrace hj) ∙ bind_at _ s.is
        ∙ bind_at _ (past_at ls k lex.CloseBrace _ hk) ∙ past_at ls (k + 1) lex.CloseBrace _ last
        ∙ ap (λ end. Ok (node (expr.Replicate i e es) end (max r.depth s.depth))) (plus_two k));
  }
