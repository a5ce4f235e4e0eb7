-- The directives (IEEE 1364-2005, 19) and what belongs to them on their line.
use Rattle.std.specs.Prelude.{ℕ, ◌+◌, Bool, true, false, List, [], ◌∷◌, Option, Some, None, bytes_eq, codes, drop, if◌then◌else◌}
use Rattle.std.specs.List.{prefix_len}
use Rattle.vl_pre.specs.Pieces.{Piece, is_blank_piece, is_identifier, is_quoted, is_in_line, word_of, quoted_of}
use Rattle.vl_pre.specs.declared.pieces.Kind.{Kind}
use Rattle.vl_pre.specs.declared.pieces.Kind.TheVariants.{Word, Backquote, Identifier, Quoted, Single}
use Rattle.vl_pre.specs.declared.directives.Directive.{Directive}
use Rattle.vl_pre.specs.declared.directives.Directive.TheVariants as directives

-- the directives by their names (IEEE 1364-2005, 19.1 to 19.6 and 19.8)
unfoldable pub directive_names : List (List ℕ × Directive)
directive_names =
    (codes "define", directives.Define) ∷
    (codes "undef", directives.Undef) ∷
    (codes "ifdef", directives.Ifdef) ∷
    (codes "ifndef", directives.Ifndef) ∷
    (codes "elsif", directives.Elsif) ∷
    (codes "else", directives.Else) ∷
    (codes "endif", directives.Endif) ∷
    (codes "include", directives.Include) ∷
    (codes "timescale", directives.Timescale) ∷
    (codes "default_nettype", directives.DefaultNettype) ∷
    (codes "celldefine", directives.Bare) ∷
    (codes "endcelldefine", directives.Bare) ∷
    (codes "resetall", directives.Bare) ∷
    []

-- the first directive under a name
abbrev pub listed_under : List ℕ → List (List ℕ × Directive) → Option Directive
listed_under name [] = None
listed_under name (directive ∷ others) = if bytes_eq directive.0 name then Some directive.1 else listed_under name others

unfoldable pub directive_of : List ℕ → Option Directive
directive_of name = listed_under name directive_names

abbrev pub is_directive : List ℕ → Bool
is_directive name = is_there (directive_of name) where
  is_there : Option Directive → Bool
  is_there None = false
  is_there (Some directive) = true

-- whether a piece can't stand in a macro's text or argument: a backquote without an identifier, or a directive (this project's own)
abbrev pub is_stray : Piece → Bool
is_stray piece = stray piece.kind where
  stray : Kind → Bool
  stray Word = is_directive (word_of piece)
  stray Backquote = true
  stray Identifier = false
  stray Quoted = false
  stray (Single byte) = false

-- what stands behind a directive on its line, and how many pieces belong to it
pub record Operand : Type 0 where
  pub text : List ℕ
  pub size : ℕ

-- the pieces behind blanks
abbrev pub behind_blanks : List Piece → List Piece
behind_blanks pieces = drop (prefix_len is_blank_piece pieces) pieces

-- an operand, of which the blanks before it are told
abbrev pub name_first : ℕ → List Piece → Option Operand
name_first blanks [] = None
name_first blanks (piece ∷ pieces) = if is_identifier piece then Some (record { text = piece.bytes; size = blanks + 1 }) else None

-- the identifier that stands behind blanks alone
abbrev pub name_behind : List Piece → Option Operand
name_behind pieces = name_first (prefix_len is_blank_piece pieces) (behind_blanks pieces)

abbrev pub string_first : ℕ → List Piece → Option Operand
string_first blanks [] = None
string_first blanks (piece ∷ pieces) = if is_quoted piece then Some (record { text = quoted_of piece; size = blanks + 1 }) else None

-- what stands in the string behind blanks alone
abbrev pub string_behind : List Piece → Option Operand
string_behind pieces = string_first (prefix_len is_blank_piece pieces) (behind_blanks pieces)

-- how much is left of the line, its line feed aside
abbrev pub rest_of_line : List Piece → ℕ
rest_of_line pieces = prefix_len is_in_line pieces
