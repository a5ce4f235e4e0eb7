-- Declarations of the grammar are read.
use Rattle.std.proofs.Common.{◌≡◌, ◌≤◌, ◌<◌, ◌&&◌, ◌||◌, ℕ, zero, suc, ◌+◌, List, [], ◌∷◌, Option, Some, None, Bool, true, false, cond, Ok, Err, slice_get, length, refl, sym, ap, subst, ◌∙◌, arith, rules}
use Rattle.vl_tree.specs.declared.terminals.Terminal.{Terminal}
use Rattle.vl_tree.specs.declared.terminals.Terminal.TheVariants as lex
use Rattle.vl_tree.specs.declared.exprs.Expr.{Expr}
use Rattle.vl_tree.specs.declared.exprs.Lvalue.{Lvalue}
use Rattle.vl_tree.specs.declared.modules.Range.{Range}
use Rattle.vl_tree.specs.declared.modules.Ptype.{Ptype}
use Rattle.vl_tree.specs.declared.modules.Ptype.TheVariants as ptype
use Rattle.vl_tree.specs.declared.modules.Binding.{Binding}
use Rattle.vl_tree.specs.declared.routines.Local.{Local}
use Rattle.vl_tree.specs.declared.routines.Local.TheVariants as local
use Rattle.vl_tree.specs.Places.{At, IsName, name_in}
use Rattle.vl_tree.specs.Lists.{Commas, MaybeCommas, Many, Maybe, Flag, Name}
use Rattle.vl_tree.specs.Expressions.{IsExpr, IsLvalue, IsLvalues, ends_expr}
use Rattle.vl_tree.specs.Declarations.{IsRange, IsPtype, IsLocal}
use Rattle.vl_tree.specs.Modules.{IsValue, IsBinding}
use Rattle.vl_expr.specs.Classes.{is_at, is_in}
use Rattle.vl_expr.specs.Reading.{Reading}
use Rattle.vl_expr.proofs.Results.{past_at, in_is_true}
use Rattle.vl_expr.proofs.Primaries.{bind_at, if_true, if_false, not_at}
use Rattle.vl_expr.proofs.Begins.{level_moves, selects_move}
use Rattle.vl_parse.specs.declared.part.Part.{Part}
use Rattle.vl_parse.specs.declared.declarations.Size.{Size}
use Rattle.vl_parse.specs.Parts.{part, behind, name_of, separated_of, listed_of, many_of, maybe_of}
use Rattle.vl_parse.specs.Declarations
use Rattle.vl_parse.specs.Declarations.{expr_at, selects_at, paren_of, value_of, binding_of, target_of, targets_of, lvalue_of, range_of, opens_range, size_of, ptype_of, names_of, opens_local, integers_of, regs_of, local_of}
use Rattle.vl_parse.proofs.Parts.{Separated, Reads, Runs, commas_separated, separated_reads, separated_moves, many_reads, many_moves, many_runs, named_at}
use Rattle.vl_parse.proofs.Expressions.{expr_reads, selects_read_at}
use Rattle.vl_parse.proofs.Follow.{not_in, in_class, off_class, there, class_there, separates, separates_ends, ends_target, target_stops, by_range, by_size, name_by_range, range_by_size}

pub paren_reads : (ls : List Terminal) (n i : ℕ) {j : ℕ} {e : Expr} → At ls (i + 1) lex.OpenParen → IsExpr ls n (i + 2) j e → At ls j lex.CloseParen →
    paren_of ls n i ≡ Ok (part e (j + 1))
paren_reads ls n i {j = j} o a c =
    past_at ls (i + 1) lex.OpenParen _ o ∙ bind_at _ (expr_reads ls n a (ap ends_expr c)) ∙ past_at ls j lex.CloseParen _ c

-- optional parts

pub maybe_reads : {X : Type 0} {P : ℕ → ℕ → X → Type 0} (ls : List Terminal) (begins : Option Terminal → Bool) (p : ℕ → Reading (Part X)) {i j : ℕ} {t : Option X} →
    ((k : ℕ) (x : X) → P k j x → p k ≡ Ok (part x j)) → ((k : ℕ) (x : X) → P k j x → begins (slice_get ls k) ≡ true) →
    begins (slice_get ls j) ≡ false → Maybe P i j t → maybe_of ls begins p i ≡ Ok (part t j)
maybe_reads ls begins p f g h Maybe.absent = if_false _ _ _ h
maybe_reads ls begins p f g h (Maybe.present a) = if_true _ _ _ (g _ _ a) ∙ bind_at _ (f _ _ a)

-- what holds of the first token of a part, and of what follows it, holds where an optional one begins
pub maybe_begins : {X : Type 0} {P : ℕ → ℕ → X → Type 0} (ls : List Terminal) (f : Option Terminal → Bool) {i j : ℕ} {t : Option X} →
    ((k : ℕ) (x : X) → P k j x → f (slice_get ls k) ≡ true) → f (slice_get ls j) ≡ true → Maybe P i j t → f (slice_get ls i) ≡ true
maybe_begins ls f g h Maybe.absent = h
maybe_begins ls f g h (Maybe.present a) = g _ _ a

pub maybe_moves : {X : Type 0} {P : ℕ → ℕ → X → Type 0} {i j : ℕ} {t : Option X} → ((k : ℕ) (x : X) → P k j x → k ≤ j) → Maybe P i j t → i ≤ j
maybe_moves f Maybe.absent = omega arith
maybe_moves f (Maybe.present a) = f _ _ a

pub record FlagReads (ls : List Terminal) (x : Terminal) (i j : ℕ) (b : Bool) : Type 0 where
  pub is : is_at ls i x ≡ b
  pub end : behind ls x i ≡ j
  pub moves : i ≤ j

pub flag_reads : {ls : List Terminal} {x : Terminal} {i j : ℕ} {b : Bool} → Flag ls x i j b → is_at ls j x ≡ false → FlagReads ls x i j b
flag_reads Flag.unset h = record { is = h; end = if_false _ _ _ h; moves = omega arith }
flag_reads {ls = ls} {x = x} {i = i} (Flag.set a) h =
    let t = in_is_true (slice_get ls i) x a in record { is = t; end = if_true _ _ _ t; moves = omega arith }

pub flag_begins : {ls : List Terminal} {x : Terminal} (f : Option Terminal → Bool) {i j : ℕ} {b : Bool} → f (Some x) ≡ true → f (slice_get ls j) ≡ true → Flag ls x i j b →
    f (slice_get ls i) ≡ true
flag_begins f e h Flag.unset = h
flag_begins {x = x} f e h (Flag.set a) = in_class f x a e

-- lists

pub commas_begin : {X : Type 0} {ls : List Terminal} {P : ℕ → ℕ → X → Type 0} (f : Option Terminal → Bool) {i j : ℕ} {ts : List X} →
    ((a b : ℕ) (t : X) → P a b t → f (slice_get ls a) ≡ true) → Commas ls P i j ts → f (slice_get ls i) ≡ true
commas_begin f g (Commas.last a) = g _ _ _ a
commas_begin f g (Commas.more a c b) = g _ _ _ a

-- a list of parts each of which stands before a comma or before what closes the list
pub commas_read : {X : Type 0} {P : ℕ → ℕ → X → Type 0} (ls : List Terminal) (p : ℕ → Reading (Part X)) {i j : ℕ} {ts : List X} →
    ((a b : ℕ) (t : X) → P a b t → Reads ls p separates a b t) → (x : Terminal) → separates (Some x) ≡ true →
    is_in (Some x) lex.Comma ≡ false → At ls j x → Commas ls P i j ts → separated_of ls lex.Comma p i ≡ Ok (part ts j)
commas_read ls p f x s c h a =
    separated_reads ls p separates (commas_separated f a) refl (in_class separates x h s) (not_at x lex.Comma h c)

pub commas_move : {X : Type 0} {P : ℕ → ℕ → X → Type 0} (ls : List Terminal) (p : ℕ → Reading (Part X)) {i j : ℕ} {ts : List X} →
    ((a b : ℕ) (t : X) → P a b t → Reads ls p separates a b t) → Commas ls P i j ts → i ≤ j
commas_move ls p f a = separated_moves ls p separates (commas_separated f a)

-- a list before a closing parenthesis
pub listed_reads : {X : Type 0} {P : ℕ → ℕ → X → Type 0} (ls : List Terminal) (p : ℕ → Reading (Part X)) {i j : ℕ} {ts : List X} →
    ((a b : ℕ) (t : X) → P a b t → Reads ls p separates a b t) → ((a b : ℕ) (t : X) → P a b t → is_at ls a lex.CloseParen ≡ false) →
    At ls j lex.CloseParen → MaybeCommas ls P i j ts → listed_of ls p i ≡ Ok (part ts j)
listed_reads ls p {i = i} f g h MaybeCommas.none = if_true _ _ _ (in_is_true (slice_get ls i) lex.CloseParen h)
listed_reads ls p f g h (MaybeCommas.some (Commas.last a)) = if_false _ _ _ (g _ _ _ a) ∙ commas_read ls p f lex.CloseParen refl refl h (Commas.last a)
listed_reads ls p f g h (MaybeCommas.some (Commas.more a c b)) =
    if_false _ _ _ (g _ _ _ a) ∙ commas_read ls p f lex.CloseParen refl refl h (Commas.more a c b)

pub listed_move : {X : Type 0} {P : ℕ → ℕ → X → Type 0} (ls : List Terminal) (p : ℕ → Reading (Part X)) {i j : ℕ} {ts : List X} →
    ((a b : ℕ) (t : X) → P a b t → Reads ls p separates a b t) → MaybeCommas ls P i j ts → i ≤ j
listed_move ls p f MaybeCommas.none = omega arith
listed_move ls p f (MaybeCommas.some a) = commas_move ls p f a

module _ (ls : List Terminal) where
  pub name_reads : {i j k : ℕ} → Name ls i j k → Reads ls (name_of ls) separates i j k
  name_reads {i = i} (Name.id h) = record { moves = omega arith; is = λ e. named_at ls i _ h }

  pub name_begins : {i j k : ℕ} → Name ls i j k → name_in (slice_get ls i) ≡ true
  name_begins (Name.id h) = h

  pub names_read : {i j : ℕ} {names : List ℕ} → Commas ls (Name ls) i j names → At ls j lex.Semicolon → names_of ls i ≡ Ok (part names j)
  names_read a h = commas_read ls (name_of ls) (λ a b t n. name_reads n) lex.Semicolon refl refl h a

  pub names_begin : {i j : ℕ} {names : List ℕ} → Commas ls (Name ls) i j names → name_in (slice_get ls i) ≡ true
  names_begin a = commas_begin name_in (λ a b t n. name_begins n) a

  -- left sides

  mutual
    pub lvalue_reads : {n i j : ℕ} {t : Lvalue} → IsLvalue ls n i j t → Reads ls (lvalue_of ls n) ends_target i j t
    lvalue_reads {i = i} {j = j} (IsLvalue.target {n = n} h a) = record {
      moves = let m = selects_move a in omega arith;
      is = λ e.
          if_false _ _ _ (not_in name_in lex.OpenBrace refl (slice_get ls i) h) ∙ named_at ls i _ h
          ∙ bind_at _ (selects_read_at ls n a (target_stops (slice_get ls j) e));
    }
    lvalue_reads {i = i} (IsLvalue.targets {n = n} {j = j} h a c) = record {
      moves = let m = separated_moves ls (lvalue_of ls n) ends_target (lvalues_read a) in omega arith;
      is = λ e.
          if_true _ _ _ (in_is_true (slice_get ls i) lex.OpenBrace h)
          ∙ bind_at _ (separated_reads ls (lvalue_of ls n) ends_target (lvalues_read a) refl
          (in_class ends_target lex.CloseBrace c refl) (not_at lex.CloseBrace lex.Comma c refl))
          ∙ past_at ls j lex.CloseBrace _ c;
    }

    lvalues_read : {n i j : ℕ} {ts : List Lvalue} → IsLvalues ls n i j ts → Separated ls lex.Comma (Reads ls (lvalue_of ls n) ends_target) i j ts
    lvalues_read (IsLvalues.last_target a) = Separated.only (lvalue_reads a)
    lvalues_read (IsLvalues.more_targets a c more) = Separated.before (lvalue_reads a) c (lvalues_read more)

  module _ (n : ℕ) where
    pub value_reads : {i j : ℕ} {e : Expr} → IsValue ls n i j e → Reads ls (value_of ls n) separates i j e
    value_reads {i = i} {j = j} (IsValue.value h a) = record {
      moves = let m = level_moves a in omega arith;
      is = λ s. past_at ls i lex.Equals _ h ∙ expr_reads ls n a (separates_ends (slice_get ls j) s);
    }

    pub binding_reads : {i j : ℕ} {b : Binding} → IsBinding ls n i j b → Reads ls (binding_of ls n) separates i j b
    binding_reads {i = i} (IsBinding.binding h a) =
        let v = value_reads a in
        record {
          moves = let m = v.moves in omega arith;
          is = λ s. named_at ls i _ h ∙ bind_at _ (v.is s);
        }

    pub range_reads : {i j : ℕ} {r : Range} → IsRange ls n i j r → range_of ls n i ≡ Ok (part r j)
    range_reads {i = i} (IsRange.range {j = j} {k = k} o a c b d) =
        past_at ls i lex.OpenBracket _ o ∙ bind_at _ (expr_reads ls n a (ap ends_expr c)) ∙ past_at ls j lex.Colon _ c
        ∙ bind_at _ (expr_reads ls n b (ap ends_expr d)) ∙ past_at ls k lex.CloseBracket _ d

    pub range_opens : {i j : ℕ} {r : Range} → IsRange ls n i j r → At ls i lex.OpenBracket
    range_opens (IsRange.range o a c b d) = o

    pub range_moves : {i j : ℕ} {r : Range} → IsRange ls n i j r → i ≤ j
    range_moves (IsRange.range o a c b d) = let p = level_moves a in let q = level_moves b in omega arith

    pub ranges_read : {i j : ℕ} {r : Option Range} → Maybe (IsRange ls n) i j r → name_in (slice_get ls j) ≡ true →
        maybe_of ls opens_range (range_of ls n) i ≡ Ok (part r j)
    ranges_read {j = j} m h =
        maybe_reads ls opens_range (range_of ls n) (λ k x a. range_reads a) (λ k x a. in_is_true (slice_get ls k) lex.OpenBracket (range_opens a))
        (not_in name_in lex.OpenBracket refl (slice_get ls j) h) m

    pub record SizeReads (i j : ℕ) (signed : Bool) (range : Option Range) : Type 0 where
      pub is : size_of ls n i ≡ Ok (part (record { signed = signed; range = range }) j)
      pub begins : by_size (slice_get ls i) ≡ true
      pub moves : i ≤ j

    pub size_reads : {i j k : ℕ} {signed : Bool} {range : Option Range} → Flag ls lex.Signed i j signed → Maybe (IsRange ls n) j k range →
        name_in (slice_get ls k) ≡ true → SizeReads i k signed range
    size_reads {i = i} {j = j} {k = k} {signed = signed} {range = range} f m h =
        let r : by_range (slice_get ls j) ≡ true =
        maybe_begins ls by_range (λ k x a. in_class by_range lex.OpenBracket (range_opens a) refl) (name_by_range (slice_get ls k) h) m in
        let g = flag_reads f (not_in by_range lex.Signed refl (slice_get ls j) r) in
        record {
          is = bind_at _ (ap (maybe_of ls opens_range (range_of ls n)) g.end ∙ ranges_read m h)
              ∙ ap (λ s. Ok (part (record { signed = s; range = range }) k)) g.is;
          begins = flag_begins by_size refl (range_by_size (slice_get ls j) r) f;
          moves = let a = g.moves in let b = maybe_moves (λ k x a. range_moves a) m in omega arith;
        }

    pub ptype_reads : {i j : ℕ} {t : Ptype} → IsPtype ls n i j t → name_in (slice_get ls j) ≡ true → ptype_of ls n i ≡ Ok (part t j)
    ptype_reads {i = i} (IsPtype.vector f m) h =
        let s = size_reads f m h in
        if_false _ _ _ (not_in by_size lex.Integer refl (slice_get ls i) s.begins) ∙ bind_at _ s.is
    ptype_reads {i = i} (IsPtype.integer a) h = if_true _ _ _ (in_is_true (slice_get ls i) lex.Integer a)

    pub ptype_moves : {i j : ℕ} {t : Ptype} → IsPtype ls n i j t → name_in (slice_get ls j) ≡ true → i ≤ j
    ptype_moves (IsPtype.vector f m) h = let s = size_reads f m h in s.moves
    ptype_moves (IsPtype.integer a) h = omega arith

    pub local_reads : {i j : ℕ} {l : Local} → IsLocal ls n i j l → local_of ls n i ≡ Ok (part l j)
    local_reads {i = i} (IsLocal.reg_local {m = m} h f r a c) =
        let s = size_reads f r (names_begin a) in
        if_false _ _ _ (not_at lex.Reg lex.Integer h refl) ∙ past_at ls i lex.Reg _ h ∙ bind_at _ s.is
        ∙ bind_at _ (names_read a c) ∙ past_at ls m lex.Semicolon _ c
    local_reads {i = i} (IsLocal.integer_local {j = j} h a c) =
        if_true _ _ _ (in_is_true (slice_get ls i) lex.Integer h) ∙ bind_at _ (names_read a c) ∙ past_at ls j lex.Semicolon _ c

    pub local_opens : {i j : ℕ} {l : Local} → IsLocal ls n i j l → opens_local (slice_get ls i) ≡ true
    local_opens (IsLocal.reg_local h f r a c) = in_class opens_local lex.Reg h refl
    local_opens (IsLocal.integer_local h a c) = in_class opens_local lex.Integer h refl

    pub local_moves : {i j : ℕ} {l : Local} → IsLocal ls n i j l → i < j
    local_moves (IsLocal.reg_local h f r a c) =
        let s = size_reads f r (names_begin a) in
        let p = s.moves in let q = commas_move ls (name_of ls) (λ a b t n. name_reads n) a in omega arith
    local_moves (IsLocal.integer_local h a c) = let q = commas_move ls (name_of ls) (λ a b t n. name_reads n) a in omega arith

    pub local_runs : {i j : ℕ} {l : Local} → IsLocal ls n i j l → Runs ls (local_of ls n) opens_local (λ o. true) i j l
    local_runs {i = i} a =
        let o = local_opens a in
        record {
          begun = o;
          follows = refl;
          within = there ls i (class_there opens_local refl (slice_get ls i) o);
          moves = local_moves a;
          is = λ e. local_reads a;
        }

    pub locals_read : {i j : ℕ} {all : List Local} → Many (IsLocal ls n) i j all → opens_local (slice_get ls j) ≡ false →
        many_of ls opens_local (local_of ls n) i ≡ Ok (part all j)
    locals_read a h = many_reads ls (local_of ls n) opens_local (λ o. true) (many_runs (λ i j t l. local_runs l) a) h refl

    pub locals_move : {i j : ℕ} {all : List Local} → Many (IsLocal ls n) i j all → i ≤ j
    locals_move a = many_moves ls (local_of ls n) opens_local (λ o. true) (many_runs (λ i j t l. local_runs l) a)
