-- Tasks, functions and imports of the grammar are read.
use Rattle.std.proofs.Common.{◌≡◌, ◌≤◌, ◌<◌, ◌&&◌, ◌||◌, ℕ, zero, suc, ◌+◌, List, [], ◌∷◌, Option, Some, None, Bool, true, false, cond, Ok, Err, slice_get, length, refl, sym, ap, subst, ◌∙◌, arith, rules}
use Rattle.std.specs.Prelude.{is_some}
use Rattle.std.proofs.lemmas.Bool.{or_from, or_left, or_right, both_ways}
use Rattle.vl_tree.specs.declared.terminals.Terminal.{Terminal}
use Rattle.vl_tree.specs.declared.terminals.Terminal.TheVariants as lex
use Rattle.vl_tree.specs.declared.operators.Sign.{Sign}
use Rattle.vl_tree.specs.declared.operators.Sign.TheVariants as sign
use Rattle.vl_tree.specs.declared.modules.Direction.{Direction}
use Rattle.vl_tree.specs.declared.modules.Direction.TheVariants as direction
use Rattle.vl_tree.specs.declared.routines.Task.{Task}
use Rattle.vl_tree.specs.declared.routines.Function.{Function}
use Rattle.vl_tree.specs.declared.routines.Args.{Args}
use Rattle.vl_tree.specs.declared.routines.Arg.{Arg}
use Rattle.vl_tree.specs.declared.routines.Arg.TheVariants as arg
use Rattle.vl_tree.specs.declared.routines.Formal.{Formal}
use Rattle.vl_tree.specs.declared.routines.Fdir.{Fdir}
use Rattle.vl_tree.specs.declared.routines.Fdir.TheVariants as fdir
use Rattle.vl_tree.specs.declared.routines.Import.{Import}
use Rattle.vl_tree.specs.declared.routines.Rtype.{Rtype}
use Rattle.vl_tree.specs.declared.routines.Itype.{Itype}
use Rattle.vl_tree.specs.declared.routines.IntWord.{IntWord}
use Rattle.vl_tree.specs.declared.routines.IntWord.TheVariants as word
use Rattle.vl_tree.specs.declared.routines.Iarg.{Iarg}
use Rattle.vl_tree.specs.Places.{At, IsName, name_in}
use Rattle.vl_tree.specs.Lists.{Commas, MaybeCommas, Many, Maybe, Flag, Name, first_led}
use Rattle.vl_tree.specs.Declarations.{IsRange, IsPtype, IsLocal}
use Rattle.vl_tree.specs.Statements.{IsStmt}
use Rattle.vl_tree.specs.Routines.{IsDirection, IsFdir, IsFormal, IsArg, IsArgs, IsTask, IsFunction, IsIntWord, IsSign, IsItype, IsRtype, IsIarg, IsImport, is_function_args}
use Rattle.vl_expr.specs.Classes.{is_at, is_in}
use Rattle.vl_expr.specs.Reading.{Reading}
use Rattle.vl_expr.proofs.Results.{past_at, in_is_true}
use Rattle.vl_expr.proofs.Primaries.{bind_at, if_true, if_false, not_at}
use Rattle.vl_parse.specs.declared.part.Part.{Part}
use Rattle.vl_parse.specs.Parts.{part, behind, name_of, listed_of, many_of, maybe_of}
use Rattle.vl_parse.specs.Declarations.{range_of, opens_range, size_of, opens_local, local_of}
use Rattle.vl_parse.specs.Statements.{stmt_of}
use Rattle.vl_parse.specs.Routines
use Rattle.vl_parse.specs.Routines.{direction_of, word_of, sign_of, opens_dir, opens_arg, fdir_of, fdir_by, formal_of, arg_of, args_of, task_of, inputs_of, function_of, itype_of, itype_by, rtype_of, iarg_of, iarg_by, import_head, import_of}
use Rattle.vl_parse.proofs.Parts.{Reads, Runs, many_reads, many_moves, many_runs, named_at}
use Rattle.vl_parse.proofs.Follow.{not_in, in_class, off_class, there, class_there, separates, by_range, by_size, range_by_size, begins_stmt, no_else, else_not}
use Rattle.vl_parse.proofs.ReadDeclarations.{maybe_reads, maybe_begins, maybe_moves, flag_reads, flag_begins, FlagReads, listed_reads, listed_move, name_reads, names_read, names_begin, commas_move, range_reads, range_opens, range_moves, ranges_read, size_reads, SizeReads, ptype_reads, ptype_moves, local_reads, local_opens, local_moves, locals_read, locals_move}
use Rattle.vl_parse.proofs.ReadStatements.{stmt_begins, stmt_reads, stmt_moves}

plus_two : (i : ℕ) → i + 1 + 1 ≡ i + 2
plus_two i = omega arith

-- what begins a name's leading words, or is the name
abbrev pub dir_or_name : Option Terminal → Bool
dir_or_name o = opens_dir o || name_in o

pub direction_reads : {ls : List Terminal} {i j : ℕ} {d : Direction} → IsDirection ls i j d → direction_of (slice_get ls i) ≡ Some d
direction_reads (IsDirection.input h) = ap direction_of h
direction_reads (IsDirection.output h) = ap direction_of h

pub direction_opens : {ls : List Terminal} {i j : ℕ} {d : Direction} → IsDirection ls i j d → opens_dir (slice_get ls i) ≡ true
direction_opens a = ap is_some (direction_reads a)

word_reads : {ls : List Terminal} {i j : ℕ} {w : IntWord} → IsIntWord ls i j w → word_of (slice_get ls i) ≡ Some w
word_reads (IsIntWord.byte h) = ap word_of h
word_reads (IsIntWord.shortint h) = ap word_of h
word_reads (IsIntWord.int h) = ap word_of h
word_reads (IsIntWord.longint h) = ap word_of h

abbrev is_word : Option Terminal → Bool
is_word o = is_some (word_of o)

sign_reads : {ls : List Terminal} {i j : ℕ} {s : Sign} → IsSign ls i j s → sign_of (slice_get ls i) ≡ Some s
sign_reads (IsSign.signed h) = ap sign_of h
sign_reads (IsSign.unsigned h) = ap sign_of h

sign_end : {ls : List Terminal} {i j : ℕ} {s : Sign} → IsSign ls i j s → i + 1 ≡ j
sign_end (IsSign.signed h) = refl
sign_end (IsSign.unsigned h) = refl

-- a name is no sign
no_sign : (o : Option Terminal) → name_in o ≡ true → sign_of o ≡ None
no_sign (Some lex.Signed) e = absurd (both_ways _ refl e)
no_sign (Some lex.Unsigned) e = absurd (both_ways _ refl e)
no_sign (Some _) e = refl
no_sign None e = refl

-- nor is it a direction
pub name_no_dir : (o : Option Terminal) → name_in o ≡ true → opens_dir o ≡ false
name_no_dir (Some lex.Input) e = absurd (both_ways _ refl e)
name_no_dir (Some lex.Output) e = absurd (both_ways _ refl e)
name_no_dir (Some _) e = refl
name_no_dir None e = refl

local_no_dir : (o : Option Terminal) → opens_local o ≡ true → opens_dir o ≡ false
local_no_dir (Some lex.Input) e = absurd (both_ways _ refl e)
local_no_dir (Some lex.Output) e = absurd (both_ways _ refl e)
local_no_dir (Some _) e = refl
local_no_dir None e = refl

stmt_no_dir : (o : Option Terminal) → begins_stmt o ≡ true → opens_dir o ≡ false
stmt_no_dir (Some lex.Input) e = absurd (both_ways _ refl e)
stmt_no_dir (Some lex.Output) e = absurd (both_ways _ refl e)
stmt_no_dir (Some _) e = refl
stmt_no_dir None e = refl

-- an `else` isn't missing where a routine ends
closed_by : (d : Bool) (o : Option Terminal) → no_else o ≡ true → (d && is_in o lex.Else) ≡ false
closed_by true o e = else_not o e
closed_by false o e = refl

-- `reg` or what a size begins with
abbrev reg_or_size : Option Terminal → Bool
reg_or_size o = is_in o lex.Reg || by_size o

-- what begins a declaration, or a statement behind declarations
abbrev arg_or_stmt : Option Terminal → Bool
arg_or_stmt o = opens_arg o || begins_stmt o

module _ (ls : List Terminal) where
  module _ (n : ℕ) where
    pub fdir_reads : {i j : ℕ} {d : Fdir} → IsFdir ls n i j d → name_in (slice_get ls j) ≡ true → fdir_of ls n i ≡ Ok (part d j)
    fdir_reads {i = i} {j = j} (IsFdir.vector_formal {j = k} {d = d} {signed = signed} {range = range} a f g r) h =
        let s = size_reads ls n g r h in
        let w = flag_reads f (not_in by_size lex.Reg refl (slice_get ls k) s.begins) in
        let c = flag_begins reg_or_size refl (or_right (is_in (slice_get ls k) lex.Reg) (by_size (slice_get ls k)) s.begins) f in
        ap (fdir_by ls n i) (direction_reads a) ∙ if_false _ _ _ (not_in reg_or_size lex.Integer refl (slice_get ls (i + 1)) c)
        ∙ bind_at _ (ap (size_of ls n) w.end ∙ s.is)
        ∙ ap (λ b. Ok (part (fdir.Vector i d b signed range) j)) w.is
    fdir_reads {i = i} (IsFdir.integer_formal a b) h =
        ap (fdir_by ls n i) (direction_reads a) ∙ if_true _ _ _ (in_is_true (slice_get ls (i + 1)) lex.Integer b)

    pub fdir_opens : {i j : ℕ} {d : Fdir} → IsFdir ls n i j d → opens_dir (slice_get ls i) ≡ true
    fdir_opens (IsFdir.vector_formal a f g r) = direction_opens a
    fdir_opens (IsFdir.integer_formal a b) = direction_opens a

    pub fdir_moves : {i j : ℕ} {d : Fdir} → IsFdir ls n i j d → name_in (slice_get ls j) ≡ true → i < j
    fdir_moves (IsFdir.vector_formal {j = k} a f g r) h =
        let s = size_reads ls n g r h in
        let w = flag_reads f (not_in by_size lex.Reg refl (slice_get ls k) s.begins) in
        let p = s.moves in let q = w.moves in omega arith
    fdir_moves (IsFdir.integer_formal a b) h = omega arith

    -- leading words and a name
    dirs_read : {i j : ℕ} {d : Option Fdir} → Maybe (IsFdir ls n) i j d → name_in (slice_get ls j) ≡ true →
        maybe_of ls opens_dir (fdir_of ls n) i ≡ Ok (part d j)
    dirs_read {j = j} m h =
        maybe_reads ls opens_dir (fdir_of ls n) (λ k x a. fdir_reads a h) (λ k x a. fdir_opens a) (name_no_dir (slice_get ls j) h) m

    pub formal_reads : {i j : ℕ} {f : Formal} → IsFormal ls n i j f → Reads ls (formal_of ls n) separates i j f
    formal_reads (IsFormal.formal {j = j} m h) = record {
      moves = let p = maybe_moves (λ k x a. moved a) m in omega arith;
      is = λ e. bind_at _ (dirs_read m h) ∙ named_at ls j _ h;
    }
      where
        moved : {k : ℕ} {d : Fdir} → IsFdir ls n k j d → k ≤ j
        moved a = let p = fdir_moves a h in omega arith

    pub formal_begins : {i j : ℕ} {f : Formal} → IsFormal ls n i j f → is_at ls i lex.CloseParen ≡ false
    formal_begins {i = i} (IsFormal.formal {j = j} m h) =
        not_in dir_or_name lex.CloseParen refl (slice_get ls i)
        (maybe_begins ls dir_or_name (λ k x a. or_left (opens_dir (slice_get ls k)) (name_in (slice_get ls k)) (fdir_opens a))
        (or_right (opens_dir (slice_get ls j)) (name_in (slice_get ls j)) h) m)

    pub arg_reads : {i j : ℕ} {a : Arg} → IsArg ls n i j a → arg_of ls n i ≡ Ok (part a j)
    arg_reads (IsArg.formals {k = k} d a c) =
        if_true _ _ _ (fdir_opens d) ∙ bind_at _ (fdir_reads d (names_begin ls a)) ∙ bind_at _ (names_read ls a c) ∙ past_at ls k lex.Semicolon _ c
    arg_reads {i = i} (IsArg.local l) =
        if_false _ _ _ (local_no_dir (slice_get ls i) (local_opens ls n l)) ∙ bind_at _ (local_reads ls n l)

    arg_opens : {i j : ℕ} {a : Arg} → IsArg ls n i j a → opens_arg (slice_get ls i) ≡ true
    arg_opens {i = i} (IsArg.formals d a c) = or_left (opens_dir (slice_get ls i)) (opens_local (slice_get ls i)) (fdir_opens d)
    arg_opens {i = i} (IsArg.local l) = or_right (opens_dir (slice_get ls i)) (opens_local (slice_get ls i)) (local_opens ls n l)

    arg_moves : {i j : ℕ} {a : Arg} → IsArg ls n i j a → i < j
    arg_moves (IsArg.formals d a c) =
        let p = fdir_moves d (names_begin ls a) in let q = commas_move ls (name_of ls) (λ a b t n. name_reads ls n) a in omega arith
    arg_moves (IsArg.local l) = local_moves ls n l

    arg_runs : {i j : ℕ} {a : Arg} → IsArg ls n i j a → Runs ls (arg_of ls n) opens_arg (λ o. true) i j a
    arg_runs {i = i} a =
        let o = arg_opens a in
        record {
          begun = o;
          follows = refl;
          within = there ls i (class_there opens_arg refl (slice_get ls i) o);
          moves = arg_moves a;
          is = λ e. arg_reads a;
        }

    -- arguments before a statement
    pub args_read : {i j : ℕ} {a : Args} → IsArgs ls n i j a → begins_stmt (slice_get ls j) ≡ true → args_of ls n i ≡ Ok (part a j)
    args_read {i = i} {j = m} (IsArgs.listed {j = j} o f c led s l) b =
        let no_local = or_from (is_in (slice_get ls m) lex.Reg) (is_in (slice_get ls m) lex.Integer)
        (not_in begins_stmt lex.Reg refl (slice_get ls m) b) (not_in begins_stmt lex.Integer refl (slice_get ls m) b) in
        if_true _ _ _ (in_is_true (slice_get ls i) lex.OpenParen o)
        ∙ bind_at _ (listed_reads ls (formal_of ls n) (λ a b t f. formal_reads f) (λ a b t f. formal_begins f) c f)
        ∙ past_at ls j lex.CloseParen _ c ∙ if_true _ _ _ led ∙ past_at ls (j + 1) lex.Semicolon _ s
        ∙ bind_at _ (locals_read ls n l no_local)
    args_read {i = i} {j = m} (IsArgs.declared s all) b =
        let no_arg = or_from (opens_dir (slice_get ls m)) (opens_local (slice_get ls m)) (stmt_no_dir (slice_get ls m) b)
        (or_from (is_in (slice_get ls m) lex.Reg) (is_in (slice_get ls m) lex.Integer)
        (not_in begins_stmt lex.Reg refl (slice_get ls m) b) (not_in begins_stmt lex.Integer refl (slice_get ls m) b)) in
        if_false _ _ _ (not_at lex.Semicolon lex.OpenParen s refl) ∙ past_at ls i lex.Semicolon _ s
        ∙ bind_at _ (many_reads ls (arg_of ls n) opens_arg (λ o. true) (many_runs (λ a b t r. arg_runs r) all) no_arg refl)

    pub args_moves : {i j : ℕ} {a : Args} → IsArgs ls n i j a → i ≤ j
    args_moves (IsArgs.listed o f c led s l) =
        let p = listed_move ls (formal_of ls n) (λ a b t f. formal_reads f) f in let q = locals_move ls n l in omega arith
    args_moves (IsArgs.declared s all) = let p = many_moves ls (arg_of ls n) opens_arg (λ o. true) (many_runs (λ a b t r. arg_runs r) all) in omega arith

    itype_reads : {i j : ℕ} {t : Itype} → IsItype ls i j t → name_in (slice_get ls j) ≡ true → itype_of ls i ≡ Ok (part t j)
    itype_reads {i = i} (IsItype.itype {w = w} a Maybe.absent) h =
        ap (itype_by ls i) (word_reads a)
        ∙ ap (λ s. Ok (part (record { at = i; word = w; sign = s }) (cond (is_some s) (i + 2) (i + 1)))) (no_sign (slice_get ls (i + 1)) h)
    itype_reads {i = i} {j = j} (IsItype.itype {w = w} {s = s} a (Maybe.present b)) h =
        ap (itype_by ls i) (word_reads a)
        ∙ ap (λ s. Ok (part (record { at = i; word = w; sign = s }) (cond (is_some s) (i + 2) (i + 1)))) (sign_reads b)
        ∙ ap (λ k. Ok (part (record { at = i; word = w; sign = s }) k)) (sym (plus_two i) ∙ sign_end b)

    itype_moves : {i j : ℕ} {t : Itype} → IsItype ls i j t → i < j
    itype_moves (IsItype.itype a Maybe.absent) = omega arith
    itype_moves (IsItype.itype a (Maybe.present b)) = let p = sign_end b in omega arith

    itype_begins : {i j : ℕ} {t : Itype} → IsItype ls i j t → is_word (slice_get ls i) ≡ true
    itype_begins (IsItype.itype a s) = ap is_some (word_reads a)

    rtype_reads : {i j : ℕ} {t : Rtype} → IsRtype ls i j t → name_in (slice_get ls j) ≡ true → rtype_of ls i ≡ Ok (part t j)
    rtype_reads {i = i} (IsRtype.void h) e = if_true _ _ _ (in_is_true (slice_get ls i) lex.Void h)
    rtype_reads {i = i} (IsRtype.bit h) e = if_false _ _ _ (not_at lex.Bit lex.Void h refl) ∙ if_true _ _ _ (in_is_true (slice_get ls i) lex.Bit h)
    rtype_reads {i = i} (IsRtype.number a) e =
        if_false _ _ _ (not_in is_word lex.Void refl (slice_get ls i) (itype_begins a))
        ∙ if_false _ _ _ (not_in is_word lex.Bit refl (slice_get ls i) (itype_begins a)) ∙ bind_at _ (itype_reads a e)

    rtype_moves : {i j : ℕ} {t : Rtype} → IsRtype ls i j t → i < j
    rtype_moves (IsRtype.void h) = omega arith
    rtype_moves (IsRtype.bit h) = omega arith
    rtype_moves (IsRtype.number a) = itype_moves a

    pub iarg_reads : {i j : ℕ} {a : Iarg} → IsIarg ls n i j a → Reads ls (iarg_of ls n) separates i j a
    iarg_reads {i = i} (IsIarg.bits {j = j} d b r h) = record {
      moves = let p = maybe_moves (λ k x a. range_moves ls n a) r in omega arith;
      is = λ e.
          ap (iarg_by ls n i) (direction_reads d) ∙ if_true _ _ _ (in_is_true (slice_get ls (i + 1)) lex.Bit b)
          ∙ bind_at _ (ranges_read ls n r h) ∙ named_at ls j _ h;
    }
    iarg_reads {i = i} (IsIarg.numbers {j = j} d t h) = record {
      moves = let p = itype_moves t in omega arith;
      is = λ e.
          ap (iarg_by ls n i) (direction_reads d) ∙ if_false _ _ _ (not_in is_word lex.Bit refl (slice_get ls (i + 1)) (itype_begins t))
          ∙ bind_at _ (itype_reads t h) ∙ named_at ls j _ h;
    }

    iarg_begins : {i j : ℕ} {a : Iarg} → IsIarg ls n i j a → is_at ls i lex.CloseParen ≡ false
    iarg_begins {i = i} (IsIarg.bits d b r h) = not_in opens_dir lex.CloseParen refl (slice_get ls i) (direction_opens d)
    iarg_begins {i = i} (IsIarg.numbers d t h) = not_in opens_dir lex.CloseParen refl (slice_get ls i) (direction_opens d)

    pub import_reads : {i j : ℕ} {m : Import} → IsImport ls n i j m → import_of ls n i ≡ Ok (part m j)
    import_reads {i = i} (IsImport.«import» {j = j} {k = k} {m = m} {context = context} {t = t} {all = all} a q f g r h o l c s) =
        let w = flag_reads f (not_at lex.Function lex.Context g refl) in
        bind_at _ (past_at ls i lex.Import _ a ∙ past_at ls (i + 1) lex.Dpi _ q
        ∙ past_at ls (behind ls lex.Context (i + 2)) lex.Function _ (subst (λ k. At ls k lex.Function) (sym w.end) g)
        ∙ ap (λ k. Ok (k + 1)) w.end)
        ∙ bind_at _ (rtype_reads r h) ∙ named_at ls k _ h
        ∙ bind_at _ (past_at ls (k + 1) lex.OpenParen _ o ∙ bind_at _ (listed_reads ls (iarg_of ls n) (λ a b t r. iarg_reads r) (λ a b t r. iarg_begins r) c l)
        ∙ past_at ls m lex.CloseParen _ c ∙ past_at ls (m + 1) lex.Semicolon _ s)
        ∙ ap (λ b. Ok (part (record { at = i; spec = i + 1; context = b; rtype = t; name = k; args = all }) (m + 2))) w.is

    pub import_moves : {i j : ℕ} {m : Import} → IsImport ls n i j m → i < j
    import_moves (IsImport.«import» a q f g r h o l c s) =
        let w = flag_reads f (not_at lex.Function lex.Context g refl) in
        let p = w.moves in let t = rtype_moves r in let u = listed_move ls (iarg_of ls n) (λ a b t r. iarg_reads r) l in omega arith

  module _ (names : List (List ℕ)) (n : ℕ) where
    pub task_reads : {i j : ℕ} {t : Task} → IsTask ls names n i j t → task_of ls names n i ≡ Ok (part t j)
    task_reads {i = i} (IsTask.task {k = k} {dangling = dangling} h m a s e) =
        past_at ls i lex.Task _ h ∙ named_at ls (i + 1) _ m ∙ bind_at _ (args_read n a (stmt_begins s))
        ∙ bind_at _ (stmt_reads ls names s (closed_by dangling (slice_get ls k) (in_class no_else lex.Endtask e refl))) ∙ past_at ls k lex.Endtask _ e

    pub task_moves : {i j : ℕ} {t : Task} → IsTask ls names n i j t → i < j
    task_moves (IsTask.task h m a s e) = let p = args_moves n a in let q = stmt_moves ls names s in omega arith

    pub function_reads : {i j : ℕ} {f : Function} → IsFunction ls names n i j f → function_of ls names n i ≡ Ok (part f j)
    function_reads {i = i} (IsFunction.function {j = j} {m = m} {dangling = dangling} h t b a fit s e) =
        past_at ls i lex.Function _ h ∙ bind_at _ (ptype_reads ls n t b)
        ∙ bind_at _ (named_at ls j _ b ∙ bind_at _ (args_read n a (stmt_begins s)) ∙ if_true _ _ _ fit)
        ∙ bind_at _ (stmt_reads ls names s (closed_by dangling (slice_get ls m) (in_class no_else lex.Endfunction e refl))) ∙ past_at ls m lex.Endfunction _ e

    pub function_moves : {i j : ℕ} {f : Function} → IsFunction ls names n i j f → i < j
    function_moves (IsFunction.function h t b a fit s e) =
        let o = ptype_moves ls n t b in let p = args_moves n a in let q = stmt_moves ls names s in omega arith
