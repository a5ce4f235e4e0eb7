-- Places in a text that is read, and the pieces that are left there. All of it is this project's own.
use Rattle.std.specs.Prelude.{ℕ, Bool, ◌+◌, ◌-◌, ◌≤◌, List, length, drop}
use Rattle.vl_pre.specs.Pieces.{Piece, pieces_of, is_blank_piece, is_space, is_in_line, is_byte}
use Rattle.vl_pre.specs.Runs.{most}
use Rattle.vl_pre.specs.declared.pieces.Cursor.{Cursor}
use Rattle.vl_pre.specs.declared.pieces.Over.{Over}
use Rattle.vl_pre.specs.declared.pieces.Over.TheVariants.{Blanks, Spaces, Returns, RestOfLine}
use Rattle.vl_pre.specs.declared.pieces.PieceRef.{PieceRef}

-- the pieces from a place on
abbrev pub left : List ℕ → Cursor → List Piece
left text cursor = pieces_of cursor.line (drop cursor.at text)

-- a piece without where its bytes lie
abbrev pub seen : PieceRef → Piece
seen piece = record { line = piece.line; kind = piece.kind; bytes = piece.bytes.now }

-- whether a piece is passed over
abbrev pub passes : Over → Piece → Bool
passes Blanks piece = is_blank_piece piece
passes Spaces piece = is_space piece
passes Returns piece = is_byte 13 piece
passes RestOfLine piece = is_in_line piece

-- the place is in the text, and no line behind it is too far down to be told
pub record IsWithin (text : List ℕ) (cursor : Cursor) : Type 0 where
  pub inside : cursor.at ≤ length text
  pub size : length text ≤ most
  pub told : cursor.line + (length text - cursor.at) ≤ most
