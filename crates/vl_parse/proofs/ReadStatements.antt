-- Statements of the grammar are read.
use Rattle.std.proofs.Common.{◌≡◌, ◌≤◌, ◌<◌, ◌&&◌, ◌||◌, ℕ, zero, suc, ◌+◌, List, [], ◌∷◌, ◌++◌, Option, Some, None, Bool, true, false, cond, Ok, Err, slice_get, length, refl, sym, ap, subst, ◌∙◌, append_assoc, lit<, arith, rules}
use Rattle.std.specs.Prelude.{is_some, not}
use Rattle.std.proofs.lemmas.Bool.{and_right, and_from, or_from, or_left, both_ways}
use Rattle.vl_tree.specs.declared.terminals.Terminal.{Terminal}
use Rattle.vl_tree.specs.declared.terminals.Terminal.TheVariants as lex
use Rattle.vl_tree.specs.declared.exprs.Expr.{Expr}
use Rattle.vl_tree.specs.declared.exprs.Lvalue.{Lvalue}
use Rattle.vl_tree.specs.declared.exprs.Select.{Select}
use Rattle.vl_tree.specs.declared.statements.Stmt.{Stmt}
use Rattle.vl_tree.specs.declared.statements.Stmt.TheVariants as stmt
use Rattle.vl_tree.specs.declared.statements.Citem.{Citem}
use Rattle.vl_tree.specs.declared.statements.Citem.TheVariants as citem
use Rattle.vl_tree.specs.declared.statements.Scope.{Scope}
use Rattle.vl_tree.specs.declared.statements.Edge.{Edge}
use Rattle.vl_tree.specs.Places.{At, IsName, name_in}
use Rattle.vl_tree.specs.Lists.{Many, Maybe, Flag, Name}
use Rattle.vl_tree.specs.Expressions.{IsExpr, IsExprs, IsArgs, IsSelects, IsLvalue, ends_expr}
use Rattle.vl_tree.specs.Statements.{IsPath, IsScope, IsEdge, IsStmt, IsStmts, IsCitem, IsCitems}
use Rattle.vl_expr.specs.Classes.{is_at, is_in}
use Rattle.vl_expr.specs.Reading.{Reading, ◌>>=◌}
use Rattle.vl_expr.proofs.Results.{past_at, in_is_true}
use Rattle.vl_expr.proofs.Primaries.{bind_at, if_true, if_false, not_at}
use Rattle.vl_expr.proofs.Begins.{begins, level_begins, exprs_begin, level_moves, exprs_move, args_move, args_open, select_opens}
use Rattle.vl_parse.specs.declared.part.Part.{Part}
use Rattle.vl_parse.specs.declared.classes.Opening.{Opening}
use Rattle.vl_parse.specs.declared.classes.Opening.TheVariants as opening
use Rattle.vl_parse.specs.Parts.{part, single, added, behind, name_of, separated_of, many_of, maybe_of}
use Rattle.vl_parse.specs.Declarations.{args_at, paren_of, opens_local}
use Rattle.vl_parse.specs.Statements
use Rattle.vl_parse.specs.Statements.{opening_of, opens_args, opens_scope, opens_stmt, opens_citem, enables, scope_of, stmt_by, stmt_of, citem_of, next_citem, citems_from}
use Rattle.vl_parse.proofs.Names.{is_same_name}
use Rattle.vl_parse.proofs.Parts.{Separated, Reads, Runs, separated_reads, separated_moves, many_reads, many_moves, named_at}
use Rattle.vl_parse.proofs.Expressions.{expr_reads, exprs_read_at, args_read_at}
use Rattle.vl_parse.proofs.Follow.{not_in, in_class, off_class, there, class_there, ends_target, separates, closes_at, begins_stmt, name_opens, name_begins_stmt, no_else, not_else, else_not}
use Rattle.vl_parse.proofs.ReadDeclarations.{paren_reads, maybe_reads, maybe_begins, maybe_moves, flag_reads, FlagReads, name_reads, lvalue_reads, locals_read, locals_move}
use Rattle.vl_parse.proofs.SoundStatements.{count}

plus_two : (i : ℕ) → i + 1 + 1 ≡ i + 2
plus_two i = omega arith

-- names joined by dots
path_separated : {ls : List Terminal} {i j : ℕ} {names : List ℕ} → IsPath ls i j names → Separated ls lex.Dot (Reads ls (name_of ls) (λ o. true)) i j names
path_separated {ls = ls} {i = i} (IsPath.last_name h) = Separated.only (record { moves = omega arith; is = λ e. named_at ls i _ h })
path_separated {ls = ls} {i = i} {j = j} (IsPath.more_names {names = names} h c more) =
    Separated.before (record { moves = omega arith; is = λ e. named_at ls i _ h }) c
    (subst (λ k. Separated ls lex.Dot (Reads ls (name_of ls) (λ o. true)) k j names) (sym (plus_two i)) (path_separated more))

edge_reads : {ls : List Terminal} {i j : ℕ} {e : Edge} → IsEdge ls i j e → Statements.edge_of (slice_get ls i) ≡ Some e
edge_reads (IsEdge.posedge h) = ap Statements.edge_of h
edge_reads (IsEdge.negedge h) = ap Statements.edge_of h

-- a statement's first token

lvalue_begins : {ls : List Terminal} {n i j : ℕ} {t : Lvalue} → IsLvalue ls n i j t → begins_stmt (slice_get ls i) ≡ true
lvalue_begins {ls = ls} {i = i} (IsLvalue.target h a) = name_begins_stmt (slice_get ls i) h
lvalue_begins (IsLvalue.targets h a c) = in_class begins_stmt lex.OpenBrace h refl

pub stmt_begins : {ls : List Terminal} {names : List (List ℕ)} {n i j : ℕ} {d : Bool} {s : Stmt} → IsStmt ls names n d i j s → begins_stmt (slice_get ls i) ≡ true
stmt_begins (IsStmt.null h) = in_class begins_stmt lex.Semicolon h refl
stmt_begins (IsStmt.blocking a h e c) = lvalue_begins a
stmt_begins (IsStmt.nonblocking a h e c) = lvalue_begins a
stmt_begins (IsStmt.if_alone h o e c s) = in_class begins_stmt lex.If h refl
stmt_begins (IsStmt.if_else h o e c s f t) = in_class begins_stmt lex.If h refl
stmt_begins (IsStmt.case h o e c s f k) = in_class begins_stmt lex.Case h refl
stmt_begins (IsStmt.for h o a b c d e f g k l m p s) = in_class begins_stmt lex.For h refl
stmt_begins (IsStmt.while h o e c s) = in_class begins_stmt lex.While h refl
stmt_begins (IsStmt.repeat h o e c s) = in_class begins_stmt lex.Repeat h refl
stmt_begins (IsStmt.forever h s) = in_class begins_stmt lex.Forever h refl
stmt_begins (IsStmt.block h a s k) = in_class begins_stmt lex.Begin h refl
stmt_begins (IsStmt.wait h o e a c s) = in_class begins_stmt lex.AtSign h refl
stmt_begins {ls = ls} {i = i} (IsStmt.enable h a c) = name_begins_stmt (slice_get ls i) h
stmt_begins (IsStmt.disable h a c) = in_class begins_stmt lex.Disable h refl

-- what holds where a statement begins
pub begun_stmt : (o : Option Terminal) → begins_stmt o ≡ true → opens_stmt o ≡ true
begun_stmt o h = and_from (is_some o) (not (is_in o lex.End)) (class_there begins_stmt refl o h) (not_true (not_in begins_stmt lex.End refl o h))
  where
    not_true : {b : Bool} → b ≡ false → not b ≡ true
    not_true e = rw e refl

pub stmt_follows : (o : Option Terminal) → begins_stmt o ≡ true → no_else o ≡ true
stmt_follows o h = not_else o (not_in begins_stmt lex.Else refl o h)

-- what holds where a case item begins
begun_by : (f : Option Terminal → Bool) → f None ≡ false → f (Some lex.Endcase) ≡ false → (o : Option Terminal) → f o ≡ true → opens_citem o ≡ true
begun_by f e k o h = and_from (is_some o) (not (is_in o lex.Endcase)) (class_there f e o h) (not_true (not_in f lex.Endcase k o h))
  where
    not_true : {b : Bool} → b ≡ false → not b ≡ true
    not_true e = rw e refl

record CitemBegins (o : Option Terminal) (d : ℕ) : Type 0 where
  begun : opens_citem o ≡ true
  follows : no_else o ≡ true
  counts : d ≡ count (is_in o lex.Default)

citem_begins : {ls : List Terminal} {names : List (List ℕ)} {n d i j : ℕ} {c : Citem} → IsCitem ls names n d i j c → CitemBegins (slice_get ls i) d
citem_begins {ls = ls} {i = i} (IsCitem.labels a c s) =
    let b = exprs_begin a in
    record {
      begun = begun_by begins refl refl (slice_get ls i) b;
      follows = not_else (slice_get ls i) (not_in begins lex.Else refl (slice_get ls i) b);
      counts = sym (ap count (not_in begins lex.Default refl (slice_get ls i) b));
    }
citem_begins {ls = ls} {i = i} (IsCitem.default h f s) = record {
  begun = in_class opens_citem lex.Default h refl;
  follows = in_class no_else lex.Default h refl;
  counts = sym (ap count (in_is_true (slice_get ls i) lex.Default h));
}

-- the count of defaults, when there may be one
had_none : (had b : Bool) → count had + count b ≤ 1 → (had && b) ≡ false
had_none true true h = absurd (omega arith)
had_none true false h = refl
had_none false b h = refl

had_counts : (had b : Bool) → (had && b) ≡ false → count (had || b) ≡ count had + count b
had_counts true true e = cc
had_counts true false e = refl
had_counts false true e = refl
had_counts false false e = refl

-- a statement begins here, or `end` stands here
abbrev stmt_or_end : Option Terminal → Bool
stmt_or_end o = begins_stmt o || is_in o lex.End

module _ (ls : List Terminal) (names : List (List ℕ)) where
  scope_reads : {n i j : ℕ} {s : Scope} → IsScope ls n i j s → opens_local (slice_get ls j) ≡ false → scope_of ls n i ≡ Ok (part s j)
  scope_reads {n = n} {i = i} (IsScope.scope h a m) e =
      past_at ls i lex.Colon _ h ∙ named_at ls (i + 1) _ a ∙ bind_at _ (locals_read ls n m e)

  scope_moves : {n i j : ℕ} {s : Scope} → IsScope ls n i j s → i ≤ j
  scope_moves {n = n} (IsScope.scope h a m) = let v = locals_move ls n m in omega arith

  scope_opens : {n i j : ℕ} {s : Scope} → IsScope ls n i j s → opens_scope (slice_get ls i) ≡ true
  scope_opens {i = i} (IsScope.scope h a m) = in_is_true (slice_get ls i) lex.Colon h

  -- a part ends behind where it begins
  mutual
    pub stmt_moves : {n i j : ℕ} {d : Bool} {s : Stmt} → IsStmt ls names n d i j s → i < j
    stmt_moves (IsStmt.null h) = omega arith
    stmt_moves (IsStmt.blocking a h e c) = let p = (lvalue_reads ls a).moves in let q = level_moves e in omega arith
    stmt_moves (IsStmt.nonblocking a h e c) = let p = (lvalue_reads ls a).moves in let q = level_moves e in omega arith
    stmt_moves (IsStmt.if_alone h o e c s) = let p = level_moves e in let q = stmt_moves s in omega arith
    stmt_moves (IsStmt.if_else h o e c s f t) = let p = level_moves e in let q = stmt_moves s in let r = stmt_moves t in omega arith
    stmt_moves (IsStmt.case h o e c s f k) = let p = level_moves e in let q = citems_move s in omega arith
    stmt_moves (IsStmt.for h o a b c d e f g k l m p s) =
        let v = level_moves c in let w = level_moves e in let x = level_moves l in let y = stmt_moves s in omega arith
    stmt_moves (IsStmt.while h o e c s) = let p = level_moves e in let q = stmt_moves s in omega arith
    stmt_moves (IsStmt.repeat h o e c s) = let p = level_moves e in let q = stmt_moves s in omega arith
    stmt_moves (IsStmt.forever h s) = let q = stmt_moves s in omega arith
    stmt_moves (IsStmt.block h a s k) = let p = maybe_moves (λ k x m. scope_moves m) a in let q = stmts_move s in omega arith
    stmt_moves (IsStmt.wait h o e a c s) = let q = stmt_moves s in omega arith
    stmt_moves (IsStmt.enable h a c) = let p = maybe_moves (λ k x b. args_moved b) a in omega arith
      where
        args_moved : {n k j : ℕ} {es : List Expr} → IsArgs ls n k j es → k ≤ j
        args_moved a = let q = args_move a in omega arith
    stmt_moves (IsStmt.disable h a c) = let p = separated_moves ls (name_of ls) (λ o. true) (path_separated a) in omega arith

    pub stmts_move : {n i j : ℕ} {ss : List Stmt} → IsStmts ls names n i j ss → i ≤ j
    stmts_move IsStmts.no_stmt = omega arith
    stmts_move (IsStmts.more_stmts a more) = let p = stmt_moves a in let q = stmts_move more in omega arith

    pub citems_move : {n d i j : ℕ} {cs : List Citem} → IsCitems ls names n d i j cs → i ≤ j
    citems_move (IsCitems.last_citem a) = let p = citem_moves a in omega arith
    citems_move (IsCitems.more_citems a more) = let p = citem_moves a in let q = citems_move more in omega arith

    pub citem_moves : {n d i j : ℕ} {c : Citem} → IsCitem ls names n d i j c → i < j
    citem_moves (IsCitem.labels a c s) = let p = exprs_move a in let q = stmt_moves s in omega arith
    citem_moves (IsCitem.default h f s) = let p = flag_moves f in let q = stmt_moves s in omega arith
      where
        flag_moves : {x : Terminal} {i j : ℕ} {b : Bool} → Flag ls x i j b → i ≤ j
        flag_moves Flag.unset = omega arith
        flag_moves (Flag.set a) = omega arith

  opened : (n i : ℕ) {j : ℕ} {s : Stmt} (x : Terminal) (o : Opening) → At ls i x → opening_of (Some x) ≡ o →
      stmt_by ls names (stmt_of ls names n) n i o ≡ Ok (part s j) → stmt_of ls names (suc n) i ≡ Ok (part s j)
  opened n i x o h e r = ap (stmt_by ls names (stmt_of ls names n) n i) (ap opening_of h ∙ e) ∙ r

  opened_name : (n i : ℕ) {j : ℕ} {s : Stmt} → IsName ls i → Statements.named_of ls n i ≡ Ok (part s j) → stmt_of ls names (suc n) i ≡ Ok (part s j)
  opened_name n i h r = ap (stmt_by ls names (stmt_of ls names n) n i) (name_opens (slice_get ls i) h) ∙ r

  unenabled : {n i j : ℕ} {ss : List Select} → IsSelects ls n i j ss → enables (slice_get ls j) ≡ false → enables (slice_get ls i) ≡ false
  unenabled IsSelects.no_select e = e
  unenabled (IsSelects.one_select a) e = off_class enables lex.OpenBracket (select_opens a) refl
  unenabled (IsSelects.two_selects a b) e = off_class enables lex.OpenBracket (select_opens a) refl

  -- an assignment
  assigns : {n i j k : ℕ} {t : Lvalue} {s : Stmt} → IsLvalue ls n i j t → enables (slice_get ls j) ≡ false →
      Statements.assign_of ls n i ≡ Ok (part s k) → stmt_of ls names (suc n) i ≡ Ok (part s k)
  assigns {i = i} (IsLvalue.target {n = m} h a) e r = opened_name (suc m) i h (if_false _ _ _ (unenabled a e) ∙ r)
  assigns {i = i} (IsLvalue.targets {n = m} h a c) e r = opened (suc m) i lex.OpenBrace opening.Assign h refl r

  header_reads : (i : ℕ) {n j k m : ℕ} {a b c : Expr} → At ls (i + 1) lex.OpenParen → IsName ls (i + 2) → At ls (i + 3) lex.Equals →
      IsExpr ls n (i + 4) j a → At ls j lex.Semicolon → IsExpr ls n (j + 1) k b → At ls k lex.Semicolon → IsName ls (k + 1) →
      At ls (k + 2) lex.Equals → IsExpr ls n (k + 3) m c → At ls m lex.CloseParen → slice_get names (i + 2) ≡ slice_get names (k + 1) →
      Statements.header_of ls names n i ≡ Ok (part (record { first = a; test = b; again = k + 1; next = c }) (m + 1))
  header_reads i {n = n} {j = j} {k = k} {m = m} o p q a d b f g l c e same =
      past_at ls (i + 1) lex.OpenParen _ o ∙ named_at ls (i + 2) _ p ∙ past_at ls (i + 3) lex.Equals _ q
      ∙ bind_at _ (expr_reads ls n a (ap ends_expr d)) ∙ past_at ls j lex.Semicolon _ d
      ∙ bind_at _ (expr_reads ls n b (ap ends_expr f)) ∙ past_at ls k lex.Semicolon _ f
      ∙ named_at ls (k + 1) _ g ∙ if_true _ _ _ (is_same_name names (i + 2) (k + 1) same) ∙ past_at ls (k + 2) lex.Equals _ l
      ∙ bind_at _ (expr_reads ls n c (ap ends_expr e)) ∙ past_at ls m lex.CloseParen _ e

  -- what begins a block's statements, or ends them
  stmts_begin : {n i j : ℕ} {ss : List Stmt} → IsStmts ls names n i j ss → At ls j lex.End → stmt_or_end (slice_get ls i) ≡ true
  stmts_begin IsStmts.no_stmt h = in_class stmt_or_end lex.End h refl
  stmts_begin {i = i} (IsStmts.more_stmts a more) h = or_left (begins_stmt (slice_get ls i)) (is_in (slice_get ls i) lex.End) (stmt_begins a)

  citems_follow : {n d i j : ℕ} {cs : List Citem} → IsCitems ls names n d i j cs → no_else (slice_get ls i) ≡ true
  citems_follow (IsCitems.last_citem a) = (citem_begins a).follows
  citems_follow (IsCitems.more_citems a more) = (citem_begins a).follows

  module _ (below : ℕ → Reading (Part Stmt)) (n : ℕ) where
    none_before : (i : ℕ) {d : ℕ} (had : Bool) → CitemBegins (slice_get ls i) d → count had + d ≤ 1 → (had && is_at ls i lex.Default) ≡ false
    none_before i had b fits = had_none had (is_at ls i lex.Default) (subst (λ k. count had + k ≤ 1) b.counts fits)

    counts_on : (i : ℕ) {d : ℕ} (had : Bool) → CitemBegins (slice_get ls i) d → count had + d ≤ 1 → count (had || is_at ls i lex.Default) ≡ count had + d
    counts_on i had b fits =
        had_counts had (is_at ls i lex.Default) (none_before i had b fits) ∙ ap (λ k. count had + k) (sym b.counts)

    citem_step : (i : ℕ) {k d : ℕ} {c : Citem} (turns : ℕ) (had : Bool) (acc : List Citem) → CitemBegins (slice_get ls i) d →
        citem_of ls below n i ≡ Ok (part c k) → count had + d ≤ 1 →
        citems_from ls below n (suc turns) had (part acc i) ≡ citems_from ls below n turns (had || is_at ls i lex.Default) (part (acc ++ c ∷ []) k)
    citem_step i turns had acc b r fits = if_true _ _ _ b.begun ∙ bind_at _ (if_false _ _ _ (none_before i had b fits) ∙ r)

    citems_done : {j : ℕ} (turns : ℕ) (had : Bool) (acc : List Citem) → At ls j lex.Endcase →
        citems_from ls below n turns had (part acc j) ≡ Ok (part acc j)
    citems_done zero had acc k = refl
    citems_done (suc turns) had acc k = if_false _ _ _ (off_class opens_citem lex.Endcase k refl)

  citem_there : (i : ℕ) {d : ℕ} → CitemBegins (slice_get ls i) d → i < length ls
  citem_there i b = there ls i (class_there opens_citem refl (slice_get ls i) b.begun)

  mutual
    pub stmt_reads : {n i j : ℕ} {d : Bool} {s : Stmt} → IsStmt ls names n d i j s → (d && is_in (slice_get ls j) lex.Else) ≡ false →
        stmt_of ls names n i ≡ Ok (part s j)
    stmt_reads {i = i} (IsStmt.null {n = n} h) x = opened n i lex.Semicolon opening.Null h refl refl
    stmt_reads {i = i} (IsStmt.blocking {n = n} {j = j} {k = k} a h e c) x =
        assigns a (off_class enables lex.Equals h refl)
        (bind_at _ ((lvalue_reads ls a).is (in_class ends_target lex.Equals h refl))
        ∙ if_true _ _ _ (in_is_true (slice_get ls j) lex.Equals h)
        ∙ bind_at _ (expr_reads ls n e (ap ends_expr c)) ∙ past_at ls k lex.Semicolon _ c)
    stmt_reads {i = i} (IsStmt.nonblocking {n = n} {j = j} {k = k} a h e c) x =
        assigns a (off_class enables lex.LessEqual h refl)
        (bind_at _ ((lvalue_reads ls a).is (in_class ends_target lex.LessEqual h refl))
        ∙ if_false _ _ _ (not_at lex.LessEqual lex.Equals h refl) ∙ past_at ls j lex.LessEqual _ h
        ∙ bind_at _ (expr_reads ls n e (ap ends_expr c)) ∙ past_at ls k lex.Semicolon _ c)
    stmt_reads {i = i} (IsStmt.if_alone {n = n} {k = k} {dangling = dangling} h o e c s) x =
        opened n i lex.If opening.If h refl
        (bind_at _ (paren_reads ls n i o e c) ∙ bind_at _ (stmt_reads s (and_right dangling (is_in (slice_get ls k) lex.Else) x)) ∙ if_false _ _ _ x)
    stmt_reads {i = i} (IsStmt.if_else {n = n} {k = k} h o e c s f t) x =
        opened n i lex.If opening.If h refl
        (bind_at _ (paren_reads ls n i o e c) ∙ bind_at _ (stmt_reads s refl) ∙ if_true _ _ _ (in_is_true (slice_get ls k) lex.Else f)
        ∙ bind_at _ (stmt_reads t x))
    stmt_reads {i = i} (IsStmt.case {n = n} {k = k} h o e c cs f g) x =
        opened n i lex.Case opening.Case h refl
        (bind_at _ (paren_reads ls n i o e c) ∙ bind_at _ (citems_read cs g f) ∙ past_at ls k lex.Endcase _ g)
    stmt_reads {i = i} (IsStmt.for {n = n} h o p q a d b f g l c e same s) x =
        opened n i lex.For opening.For h refl (bind_at _ (header_reads i o p q a d b f g l c e same) ∙ bind_at _ (stmt_reads s x))
    stmt_reads {i = i} (IsStmt.while {n = n} h o e c s) x =
        opened n i lex.While opening.While h refl (bind_at _ (paren_reads ls n i o e c) ∙ bind_at _ (stmt_reads s x))
    stmt_reads {i = i} (IsStmt.repeat {n = n} h o e c s) x =
        opened n i lex.Repeat opening.Repeat h refl (bind_at _ (paren_reads ls n i o e c) ∙ bind_at _ (stmt_reads s x))
    stmt_reads {i = i} (IsStmt.forever {n = n} h s) x = opened n i lex.Forever opening.Forever h refl (bind_at _ (stmt_reads s x))
    stmt_reads {i = i} (IsStmt.block {n = n} {j = j} {k = k} h a s e) x =
        let b = stmts_begin s e in
        let no_local = or_from (is_in (slice_get ls j) lex.Reg) (is_in (slice_get ls j) lex.Integer)
        (not_in stmt_or_end lex.Reg refl (slice_get ls j) b) (not_in stmt_or_end lex.Integer refl (slice_get ls j) b) in
        opened n i lex.Begin opening.Block h refl
        (bind_at _ (maybe_reads ls opens_scope (scope_of ls n) (λ k x m. scope_reads m no_local) (λ k x m. scope_opens m) (not_in stmt_or_end lex.Colon refl (slice_get ls j) b) a)
        ∙ bind_at _ (many_reads ls (stmt_of ls names n) opens_stmt no_else (stmts_run s) (off_class opens_stmt lex.End e refl) (in_class no_else lex.End e refl))
        ∙ past_at ls k lex.End _ e)
    stmt_reads {i = i} (IsStmt.wait {n = n} h o e a c s) x =
        opened n i lex.AtSign opening.Wait h refl
        (bind_at _ (past_at ls (i + 1) lex.OpenParen _ o ∙ bind_at _ (ap (Statements.edge_by (i + 2)) (edge_reads e)) ∙ named_at ls (i + 3) _ a
        ∙ past_at ls (i + 4) lex.CloseParen _ c)
        ∙ bind_at _ (stmt_reads s x))
    stmt_reads {i = i} (IsStmt.enable {n = n} {j = j} h a c) x =
        opened_name n i h
        (if_true _ _ _ (maybe_begins ls enables (λ k x b. in_class enables lex.OpenParen (args_open b) refl) (in_class enables lex.Semicolon c refl) a)
        ∙ bind_at _ (maybe_reads ls opens_args (args_at ls n) (λ k x b. args_read_at ls n b) (λ k x b. in_is_true (slice_get ls k) lex.OpenParen (args_open b))
        (not_at lex.Semicolon lex.OpenParen c refl) a)
        ∙ past_at ls j lex.Semicolon _ c)
    stmt_reads {i = i} (IsStmt.disable {n = n} {j = j} h a c) x =
        opened n i lex.Disable opening.Disable h refl
        (bind_at _ (separated_reads ls (name_of ls) (λ o. true) (path_separated a) refl refl (not_at lex.Semicolon lex.Dot c refl))
        ∙ past_at ls j lex.Semicolon _ c)

    stmts_run : {n i j : ℕ} {ss : List Stmt} → IsStmts ls names n i j ss → Many (Runs ls (stmt_of ls names n) opens_stmt no_else) i j ss
    stmts_run IsStmts.no_stmt = Many.end
    stmts_run {i = i} (IsStmts.more_stmts {j = j} {dangling = dangling} a more) =
        Many.next (record {
          begun = begun_stmt (slice_get ls i) (stmt_begins a);
          follows = stmt_follows (slice_get ls i) (stmt_begins a);
          within = there ls i (class_there begins_stmt refl (slice_get ls i) (stmt_begins a));
          moves = stmt_moves a;
          is = λ e. stmt_reads a (and_right dangling (is_in (slice_get ls j) lex.Else) (else_not (slice_get ls j) e));
        }) (stmts_run more)

    citem_reads : {n d i j : ℕ} {c : Citem} → IsCitem ls names n d i j c → no_else (slice_get ls j) ≡ true → citem_of ls (stmt_of ls names n) n i ≡ Ok (part c j)
    citem_reads {i = i} {j = k} (IsCitem.labels {n = n} {j = j} {dangling = dangling} a c s) e =
        if_false _ _ _ (not_in begins lex.Default refl (slice_get ls i) (exprs_begin a))
        ∙ bind_at _ (exprs_read_at ls n a (closes_at lex.Colon c (record { above = lit< tt }) refl refl)) ∙ past_at ls j lex.Colon _ c
        ∙ bind_at _ (stmt_reads s (and_right dangling (is_in (slice_get ls k) lex.Else) (else_not (slice_get ls k) e)))
    citem_reads {i = i} {j = k} (IsCitem.default {n = n} {j = j} {dangling = dangling} {s = s} h f a) e =
        let g = flag_reads f (not_in begins_stmt lex.Colon refl (slice_get ls j) (stmt_begins a)) in
        if_true _ _ _ (in_is_true (slice_get ls i) lex.Default h)
        ∙ bind_at _ (ap (stmt_of ls names n) g.end ∙ stmt_reads a (and_right dangling (is_in (slice_get ls k) lex.Else) (else_not (slice_get ls k) e)))
        ∙ ap (λ b. Ok (part (citem.Default i b s) k)) g.is

    citems_go : {n d i j : ℕ} {cs : List Citem} → IsCitems ls names n d i j cs → At ls j lex.Endcase → (had : Bool) → count had + d ≤ 1 →
        (turns : ℕ) (acc : List Citem) → length ls ≤ turns + i → citems_from ls (stmt_of ls names n) n turns had (part acc i) ≡ Ok (part (acc ++ cs) j)
    citems_go {i = i} (IsCitems.last_citem a) k had fits zero acc room = let w = citem_there i (citem_begins a) in absurd (omega arith)
    citems_go {n = n} {i = i} (IsCitems.last_citem {c = c} a) k had fits (suc turns) acc room =
        citem_step (stmt_of ls names n) n i turns had acc (citem_begins a) (citem_reads a (in_class no_else lex.Endcase k refl)) fits
        ∙ citems_done (stmt_of ls names n) n turns (had || is_at ls i lex.Default) (acc ++ c ∷ []) k
    citems_go {i = i} (IsCitems.more_citems a more) k had fits zero acc room = let w = citem_there i (citem_begins a) in absurd (omega arith)
    citems_go {n = n} {i = i} {j = j} (IsCitems.more_citems {d = d} {m = m} {c = c} {cs = cs} a more) k had fits (suc turns) acc room =
        let b = citem_begins a in
        let v = citem_moves a in
        let one : count had + d ≤ 1 = omega arith in
        let on = counts_on (stmt_of ls names n) n i had b one in
        citem_step (stmt_of ls names n) n i turns had acc b (citem_reads a (citems_follow more)) one
        ∙ citems_go more k (had || is_at ls i lex.Default) (omega arith) turns (acc ++ c ∷ []) (omega arith)
        ∙ ap (λ tree. Ok (part tree j)) (append_assoc acc (c ∷ []) cs)

    citems_read : {n d i j : ℕ} {cs : List Citem} → IsCitems ls names n d i j cs → At ls j lex.Endcase → d ≤ 1 →
        Statements.citems_of ls (stmt_of ls names n) n i ≡ Ok (part cs j)
    citems_read {n = n} {i = i} (IsCitems.last_citem {c = c} a) k le =
        bind_at _ (citem_reads a (in_class no_else lex.Endcase k refl))
        ∙ citems_done (stmt_of ls names n) n (length ls) (is_at ls i lex.Default) (c ∷ []) k
    citems_read {n = n} {i = i} (IsCitems.more_citems {d = d} {m = m} {c = c} a more) k le =
        let b = citem_begins a in
        let on : d ≡ count (is_at ls i lex.Default) = b.counts in
        bind_at _ (citem_reads a (citems_follow more))
        ∙ citems_go more k (is_at ls i lex.Default) (omega arith) (length ls) (c ∷ []) (omega arith)
