-- The pieces of a file: their lines never fall, and what each does to the text.
use Rattle.std.proofs.Common.{◌≡◌, ◌≤◌, ◌+◌, ◌&&◌, ℕ, zero, suc, Bool, true, false, cond, List, [], ◌∷◌, length, Result, Ok, Err, Option, Some, None, refl, sym, subst, arith, eqb}
use Rattle.std.specs.Prelude.{IfOk, nat_lt, bytes_eq}
use Rattle.xt_base.specs.Identifiers.{begins_word}
use Rattle.vl_pre.specs.Breaks.{◌>>=◌, Break, breaks, max_text, max_nesting}
use Rattle.vl_pre.specs.Text.{line_after}
use Rattle.vl_pre.specs.Pieces.{Piece, pieces_from, further, kind_at, is_at_word, is_closed}
use Rattle.vl_pre.specs.Directives.{Operand, directive_of, directive_names, listed_under, name_behind, string_behind}
use Rattle.vl_pre.specs.Groups.{is_read, is_conditional, operand_at, Turned}
use Rattle.vl_pre.specs.Macros.{line_from, definition, with_macro}
use Rattle.vl_pre.specs.Uses.{use_of, nested}
use Rattle.vl_pre.specs.Files.{Reading, Taken, Turn, Step, Turns, Includes, added, kept_piece, use_piece, define_piece, undef_piece, nettype_piece, in_groups, passes, conditional_piece, word_piece, read_piece, passed_word, passed_piece, file_piece, setting_of, is_nettype}
use Rattle.vl_places.proofs.Texts.{Open, open_added, line_after_later}

-- The types of groups, kinds and directives are the preprocessor's own: outside they are named as what a function gives, and
-- their cases are those that its definitions list.
abbrev Given : {A B : Type 0} → (A → B) → Type 0
Given {B = B} f = B

abbrev Found : {A B : Type 0} → (A → Option B) → Type 0
Found {B = B} f = B

abbrev pub Groups : Type 0
Groups = Given (λ (turn : Turn). turn.groups)

abbrev Kind : Type 0
Kind = Given (λ (piece : Piece). piece.kind)

abbrev Directive : Type 0
Directive = Found directive_of

-- a piece as it is made of a text
abbrev IsMade : Piece → Type 0
IsMade piece = (byte : ℕ) × (rest : List ℕ) × (piece.kind ≡ kind_at byte rest)

-- the lines of pieces never fall, and none is before this one
abbrev pub Rise : ℕ → List Piece → Type 0
Rise line [] = Unit {0}
Rise line (piece ∷ pieces) = (line ≤ piece.line) × IsMade piece × Rise piece.line pieces

pub rise_before : (a b : ℕ) (pieces : List Piece) → a ≤ b → Rise b pieces → Rise a pieces
rise_before a b [] le rise = tt
rise_before a b (piece ∷ pieces) le rise = (omega (arith, le, rise.0), rise.1, rise.2)

pub pieces_rise : (skip line : ℕ) (bytes : List ℕ) → Rise line (pieces_from skip line bytes)
pieces_rise skip line [] = tt
pieces_rise (suc skip) line (byte ∷ bytes) = pieces_rise skip line bytes
pieces_rise zero line (byte ∷ bytes) =
    let behind = further (kind_at byte bytes) bytes in
    (omega arith, (byte, bytes, refl), rise_before line (line_after byte line) (pieces_from behind (line_after byte line) bytes) (line_after_later byte line) (pieces_rise behind (line_after byte line) bytes))

bound : {A B : Type 0} (P : B → Type 0) (told : Result A Break) (f : A → Result B Break) → ((x : A) → IfOk (f x) P) → IfOk (told >>= f) P
bound P (Ok x) f all = all x
bound P (Err e) f all = tt

either : {A : Type 0} (P : A → Type 0) (b : Bool) (x y : A) → P x → P y → P (cond b x y)
either P true x y l r = l
either P false x y l r = r

-- each of the directives that are listed
abbrev Each : (Directive → Type 0) → List (List ℕ × Directive) → Type 0
Each P [] = Unit {0}
Each P (entry ∷ entries) = P entry.1 × Each P entries

by_name : (P : Option Directive → Type 0) (name : List ℕ) (entries : List (List ℕ × Directive)) → P None → Each (λ directive. P (Some directive)) entries → P (listed_under name entries)
by_name P name [] none each = none
by_name P name (entry ∷ entries) none each = either P (bytes_eq entry.0 name) (Some entry.1) (listed_under name entries) each.0 (by_name P name entries none each.1)

-- a piece at a line leaves the text open there
abbrev OpenTaken : ℕ → Taken → Type 0
OpenTaken line taken = Open taken.reading.text line

abbrev pub OpenStep : ℕ → Step → Type 0
OpenStep line (Turns turn) = OpenTaken line turn.taken
OpenStep line (Includes operand) = Unit {0}

in_groups_open : (line : ℕ) (groups : Groups) (taken : Result Taken Break) → IfOk taken (OpenTaken line) → IfOk (in_groups groups taken) (OpenStep line)
in_groups_open line groups (Ok taken) k = k
in_groups_open line groups (Err broken) k = tt

module _ (reading : Reading) (piece : Piece) (pieces : List Piece) (groups : Groups) (o : Open reading.text piece.line) where
  kept_open : IfOk (in_groups groups (kept_piece piece reading)) (OpenStep piece.line)
  kept_open = in_groups_open piece.line groups (kept_piece piece reading) (go (nat_lt max_text (length reading.text.bytes + length piece.bytes))) where
    go : (b : Bool) → IfOk (cond b (breaks 80 piece.line) (Ok (record { size = 0; reading = record reading { text = added reading.text piece.line piece.bytes } }))) (OpenTaken piece.line)
    go true = tt
    go false = open_added reading.text piece.line piece.bytes o

  use_open : IfOk (in_groups groups (use_piece piece pieces reading)) (OpenStep piece.line)
  use_open = in_groups_open piece.line groups (use_piece piece pieces reading)
      (bound (OpenTaken piece.line) (use_of (nested max_nesting) (setting_of piece.line reading) piece pieces (record { bytes = []; uses = reading.uses }))
      (λ whole. Ok (record { size = whole.size; reading = record reading { uses = whole.done.uses; text = added reading.text piece.line whole.done.bytes } }))
      (λ whole. open_added reading.text piece.line whole.done.bytes o))

  define_open : IfOk (in_groups groups (define_piece piece pieces reading)) (OpenStep piece.line)
  define_open = in_groups_open piece.line groups (define_piece piece pieces reading)
      (bound (OpenTaken piece.line) (definition piece.line (line_from 0 pieces).pieces) (λ d. Ok (record { size = (line_from 0 pieces).size; reading = record reading { macros = with_macro reading.macros d.name (Some d.meaning) } })) (λ d. o))

  undef_open : IfOk (in_groups groups (undef_piece piece pieces reading)) (OpenStep piece.line)
  undef_open = in_groups_open piece.line groups (undef_piece piece pieces reading)
      (bound (OpenTaken piece.line) (operand_at piece.line (name_behind pieces)) (λ name. Ok (record { size = name.size; reading = record reading { macros = with_macro reading.macros name.text None } })) (λ name. o))

  nettype_open : IfOk (in_groups groups (nettype_piece piece pieces reading)) (OpenStep piece.line)
  nettype_open = in_groups_open piece.line groups (nettype_piece piece pieces reading) (bound {A = Operand} (OpenTaken piece.line) _ _ (λ name. go (is_nettype name.text) name.size)) where
    go : (b : Bool) (size : ℕ) → IfOk (cond b (Ok (record { size = size; reading = reading })) (breaks 11 piece.line)) (OpenTaken piece.line)
    go true size = o
    go false size = tt

  turned_open : (told : Result Turned Break) → IfOk (told >>= λ turn. passes turn.size turn.groups reading) (OpenStep piece.line)
  turned_open told = bound (OpenStep piece.line) told (λ turn. passes turn.size turn.groups reading) (λ turn. o)

  include_open : IfOk (operand_at piece.line (string_behind pieces) >>= λ name. Ok (Includes name)) (OpenStep piece.line)
  include_open = bound {A = Operand} (OpenStep piece.line) (operand_at piece.line (string_behind pieces)) (λ name. Ok (Includes name)) (λ name. tt)

  word_open : (name : List ℕ) → IfOk (word_piece (directive_of name) piece pieces groups reading) (OpenStep piece.line)
  unfolding directive_of directive_names
  word_open name = by_name (λ found. IfOk (word_piece found piece pieces groups reading) (OpenStep piece.line)) name directive_names use_open (
    define_open,
    (
      undef_open,
      (
        turned_open _,
        (
          turned_open _,
          (
            turned_open _,
            (
              turned_open _,
              (
                turned_open _,
                (include_open, (o, (nettype_open, (o, (o, (o, tt)))))),
              ),
            ),
          ),
        ),
      ),
    ),
  )

  passed_word_open : (directive : Option Directive) → IfOk (passed_word directive piece pieces groups reading) (OpenStep piece.line)
  passed_word_open None = o
  passed_word_open (Some directive) = go (is_conditional directive) where
    go : (b : Bool) → IfOk (cond b (conditional_piece directive piece pieces groups reading) (passes 0 groups reading)) (OpenStep piece.line)
    go true = turned_open _
    go false = o

-- a piece of a line, whatever its kind
abbrev At : ℕ → List ℕ → Kind → Piece
At line bytes kind = record { line = line; kind = kind; bytes = bytes }

module _ (reading : Reading) (line : ℕ) (bytes : List ℕ) (pieces : List Piece) (groups : Groups) (o : Open reading.text line) where
  abbrev Reads : Kind → Type 0
  Reads kind = IfOk (read_piece (At line bytes kind) pieces groups reading) (OpenStep line)

  abbrev Passes : Kind → Type 0
  Passes kind = IfOk (passed_piece (At line bytes kind) pieces groups reading) (OpenStep line)

  read_open : (byte : ℕ) (rest : List ℕ) → Reads (kind_at byte rest)
  read_open byte rest =
      either Reads (eqb byte 96) _ _ (either Reads (is_at_word rest) _ _ (word_open reading (At line bytes _) pieces groups o _) tt)
      (either Reads (begins_word byte) _ _ kept (either Reads (eqb byte 34 && is_closed rest) _ _ kept kept)) where
        -- whatever the kind is
        kept : IfOk (in_groups groups (kept_piece (At line bytes (kind_at byte rest)) reading)) (OpenStep line)
        kept = kept_open reading (At line bytes (kind_at byte rest)) pieces groups o

  passed_open : (byte : ℕ) (rest : List ℕ) → Passes (kind_at byte rest)
  passed_open byte rest =
      either Passes (eqb byte 96) _ _ (either Passes (is_at_word rest) _ _ (passed_word_open reading (At line bytes _) pieces groups o _) o)
      (either Passes (begins_word byte) _ _ o (either Passes (eqb byte 34 && is_closed rest) _ _ o o))

  made_open : (byte : ℕ) (rest : List ℕ) → IfOk (file_piece (At line bytes (kind_at byte rest)) pieces groups reading) (OpenStep line)
  made_open byte rest = go (is_read groups) where
    go : (b : Bool) → IfOk (cond b (read_piece (At line bytes (kind_at byte rest)) pieces groups reading) (passed_piece (At line bytes (kind_at byte rest)) pieces groups reading)) (OpenStep line)
    go true = read_open byte rest
    go false = passed_open byte rest

-- a piece of a file leaves the text open at its line
pub piece_open : (reading : Reading) (piece : Piece) (pieces : List Piece) (groups : Groups) → IsMade piece → Open reading.text piece.line
    → IfOk (file_piece piece pieces groups reading) (OpenStep piece.line)
piece_open reading piece pieces groups (byte, rest, is) o =
    subst (λ kind. IfOk (file_piece (At piece.line piece.bytes kind) pieces groups reading) (OpenStep piece.line)) (sym is) (made_open reading piece.line piece.bytes pieces groups o byte rest)
