-- What is in the grammar is read, and so it is the one tree there.
use Rattle.std.proofs.Common.{◌≡◌, ◌≤◌, ℕ, suc, ◌+◌, ◌==◌, List, Option, Some, Bool, true, false, slice_get, length, refl, lit<, arith}
use Rattle.vl_tree.specs.declared.terminals.Terminal.{Terminal}
use Rattle.vl_tree.specs.declared.terminals.Terminal.TheVariants as lex
use Rattle.vl_tree.specs.declared.operators.Sign.TheVariants as sign
use Rattle.vl_tree.specs.declared.exprs.Expr.{Expr}
use Rattle.vl_tree.specs.declared.exprs.Select.{Select}
use Rattle.vl_tree.specs.declared.operators.BinOp.{BinOp}
use Rattle.vl_tree.specs.Operators.{binary}
use Rattle.std.proofs.lemmas.Bool.{eqb-true}
use Rattle.vl_tree.specs.Expressions.{IsLevel, IsExprs, IsArgs, IsSelects, IsSelect}
use Rattle.vl_expr.specs.declared.found.Found.{Found}
use Rattle.vl_expr.specs.Classes.{is_at}
use Rattle.vl_expr.specs.Reading
use Rattle.vl_expr.specs.Reading.{Reading, reader_of}
use Rattle.vl_expr.proofs.Follow.{Stops, Closes, rank_binary, binary_within, no_paren}
use Rattle.vl_expr.proofs.Begins.{level_moves, exprs_begin, args_open, select_opens, no_close}
use Rattle.vl_expr.proofs.Comes.{Reads, Claim, Loose, loose, loose_below, loosest_by}
use Rattle.vl_expr.proofs.Primaries.{stops_at, not_at, unary_comes, sized_comes, based_comes, decimal_comes, name_comes, call_comes, parens_comes, sign_comes}
use Rattle.vl_expr.proofs.Lists.{index_reads, part_reads, up_reads, down_reads, no_select_reads, one_select_reads, two_selects_read, Further, last_further, more_further, Starts, last_starts, more_start, no_args_read, some_args_read, concat_comes, replicate_comes}
use Rattle.vl_expr.proofs.Layers.{tighter_comes, binary_comes, choice_comes}

loose_at : (l : ℕ) {o : Option Terminal} {x : Terminal} → o ≡ Some x → Stops l (Some x) → Loose l o
loose_at l {o = o} e s = loose l o (stops_at e s)

-- selects don't begin with an opening parenthesis
selects_no_paren : {ls : List Terminal} {n i j : ℕ} {ss : List Select} → IsSelects ls n i j ss → Stops 0 (slice_get ls j) → is_at ls i lex.OpenParen ≡ false
selects_no_paren IsSelects.no_select s = no_paren _ s
selects_no_paren (IsSelects.one_select a) s = not_at lex.OpenBracket lex.OpenParen (select_opens a) refl
selects_no_paren (IsSelects.two_selects a b) s = not_at lex.OpenBracket lex.OpenParen (select_opens a) refl

-- what stands before an operator of a layer may go on with it
below_operator : (l : ℕ) (x : Terminal) (op : BinOp) {o p : Option Terminal} → o ≡ Some x → binary x ≡ Some (suc l, op) → Loose (suc l) p → Loose (suc l) o
below_operator l x op {o = here} h o s = record { stops = by_ten (l == 10) refl }
  where
    by_ten : (b : Bool) → (l == 10) ≡ b → Stops (loosest_by l b) here
    by_ten true e = let ten : l ≡ 10 = eqb-true l 10 e in let w = binary_within x (suc l) op o in absurd (omega arith)
    by_ten false e = stops_at h (let r = rank_binary x (suc l) op o in record { above = omega arith })

moves : {ls : List Terminal} {n l i j : ℕ} {e : Expr} → IsLevel ls n l i j e → i ≤ j
moves a = let m = level_moves a in omega arith

closes_paren : {o : Option Terminal} → o ≡ Some lex.CloseParen → Closes o
closes_paren h = record {
  stops = stops_at h (record { above = lit< tt });
  comma = not_at lex.CloseParen lex.Comma h refl;
  brace = not_at lex.CloseParen lex.OpenBrace h refl;
}

closes_brace : {o : Option Terminal} → o ≡ Some lex.CloseBrace → Closes o
closes_brace h = record {
  stops = stops_at h (record { above = lit< tt });
  comma = not_at lex.CloseBrace lex.Comma h refl;
  brace = not_at lex.CloseBrace lex.OpenBrace h refl;
}

module _ (ls : List Terminal) where
  mutual
    pub level_comes : {n l i j : ℕ} {e : Expr} → IsLevel ls n l i j e → Loose l (slice_get ls j) → Claim ls n l i j e
    level_comes (IsLevel.choice a h b k c) s =
        choice_comes ls (level_comes a (loose_at 10 h (record { above = lit< tt }))) h
        (level_comes b (loose_at 11 k (record { above = lit< tt }))) k (level_comes c s) s
    level_comes (IsLevel.binary_op {l = l} {x = x} {op = op} a h o b) s =
        binary_comes ls (level_comes a (below_operator l x op h o s)) h o (level_comes b (loose l _ (loose_below l _ s))) s
    level_comes (IsLevel.tighter {l = l} a) s = tighter_comes ls (level_comes a (loose l _ (loose_below l _ s))) s
    level_comes (IsLevel.unary_op h u a) s = unary_comes ls h u (level_comes a s) s.stops
    level_comes (IsLevel.sized h b) s = sized_comes ls h b
    level_comes (IsLevel.based h) s = based_comes ls h
    level_comes (IsLevel.decimal h) s = decimal_comes ls h s.stops
    level_comes (IsLevel.name h a) s = name_comes ls h (selects_no_paren a s.stops) (selects_read a s.stops)
    level_comes (IsLevel.call h a) s = call_comes ls h (args_open a) (args_read a)
    level_comes (IsLevel.to_signed h p a k) s =
        sign_comes ls lex.ToSigned sign.Signed refl refl h p (level_comes a (loose_at 11 k (record { above = lit< tt }))) k
    level_comes (IsLevel.to_unsigned h p a k) s =
        sign_comes ls lex.ToUnsigned sign.Unsigned refl refl h p (level_comes a (loose_at 11 k (record { above = lit< tt }))) k
    level_comes (IsLevel.parens h a k) s = parens_comes ls h (level_comes a (loose_at 11 k (record { above = lit< tt }))) k
    level_comes (IsLevel.concat h a k) s = concat_comes ls h (exprs_start a (closes_brace k)) k
    level_comes (IsLevel.replicate h a b c k last) s =
        replicate_comes ls h (level_comes a (loose_at 11 b (record { above = lit< tt }))) b (exprs_start c (closes_brace k)) k last

    pub args_read : {m i j : ℕ} {es : List Expr} → IsArgs ls m i j es → (n : ℕ) → m ≤ n → Reads (Reading.args_of ls (reader_of ls n) i) es j m
    args_read {i = i} (IsArgs.no_args h k) n le = no_args_read ls i h k n le
    args_read {i = i} (IsArgs.some_args h a k) n le =
        some_args_read ls i h (no_close _ (exprs_begin a)) (exprs_start a (closes_paren k)) k n le

    further_exprs : {m i j : ℕ} {es : List Expr} → IsExprs ls m i j es → Closes (slice_get ls j) → (n turns : ℕ) (acc : Found (List Expr)) →
        m ≤ n → length ls ≤ turns + i → Further ls n turns m i j acc es
    further_exprs (IsExprs.last_expr a) k n turns acc le room = last_further ls (level_comes a (loose 11 _ k.stops)) k n turns acc le
    further_exprs (IsExprs.more_exprs a h b) k n turns acc le room =
        more_further ls (level_comes a (loose_at 11 h (record { above = lit< tt }))) h (moves a) (further_exprs b k) n turns acc le room

    pub exprs_start : {m i j : ℕ} {es : List Expr} → IsExprs ls m i j es → Closes (slice_get ls j) → (n : ℕ) → m ≤ n → Starts ls n m i j es
    exprs_start (IsExprs.last_expr a) k n le = last_starts ls (level_comes a (loose 11 _ k.stops)) k n le
    exprs_start (IsExprs.more_exprs a h b) k n le =
        more_start ls (level_comes a (loose_at 11 h (record { above = lit< tt }))) h (further_exprs b k) n le

    pub selects_read : {m i j : ℕ} {ss : List Select} → IsSelects ls m i j ss → Stops 0 (slice_get ls j) → (n : ℕ) → m ≤ n →
        Reads (Reading.selects_of ls (reader_of ls n) i) ss j m
    selects_read IsSelects.no_select s n le = no_select_reads ls s n le
    selects_read (IsSelects.one_select a) s n le = one_select_reads ls (select_opens a) (select_reads a) s n le
    selects_read (IsSelects.two_selects a b) s n le = two_selects_read ls (select_opens a) (select_reads a) (select_opens b) (select_reads b) n le

    pub select_reads : {m i j : ℕ} {t : Select} → IsSelect ls m i j t → (n : ℕ) → m ≤ n → Reads ((reader_of ls n).select i) t j m
    select_reads (IsSelect.index h a k) n le = index_reads ls h (level_comes a (loose_at 11 k (record { above = lit< tt }))) k n le
    select_reads (IsSelect.part h a c b k) n le =
        part_reads ls h (level_comes a (loose_at 11 c (record { above = lit< tt }))) c (level_comes b (loose_at 11 k (record { above = lit< tt }))) k n le
    select_reads (IsSelect.up h a c b k) n le =
        up_reads ls h (level_comes a (loose_at 11 c (record { above = lit< tt }))) c (level_comes b (loose_at 11 k (record { above = lit< tt }))) k n le
    select_reads (IsSelect.down h a c b k) n le =
        down_reads ls h (level_comes a (loose_at 11 c (record { above = lit< tt }))) c (level_comes b (loose_at 11 k (record { above = lit< tt }))) k n le
