-- Arguments as they are read. This project's own.
use Rattle.std.specs.Prelude.{◌≡◌, ◌≤◌, ◌<◌, ◌+◌, ℕ, Bool, false, List, ◌∷◌, ◌++◌, length, map, drop}
use Rattle.std.specs.List.{All}
use Rattle.vl_pre.specs.Pieces.{Piece, without_back, bytes_of_pieces}
use Rattle.vl_pre.specs.Cursors.{left, IsWithin}
use Rattle.vl_pre.specs.Uses.{Arguments, is_empty}
use Rattle.vl_pre.specs.Expanding.{argument_pieces, IsInside}
use Rattle.vl_pre.specs.declared.pieces.Cursor.{Cursor}
use Rattle.vl_pre.specs.declared.uses.Argument.{Argument}
use Rattle.vl_pre.specs.declared.arguments.Reader.{Reader}

-- a piece of a text stands between two places
pub record IsPiece (text : List ℕ) (before behind : Cursor) (piece : Piece) : Type 0 where
  pub first : left text before ≡ piece ∷ left text behind
  pub within : IsWithin text behind
  pub size : before.at + length piece.bytes ≡ behind.at
  pub forward : before.at < behind.at

-- the reader has these arguments, at a place of the text
pub record IsReader (text : List ℕ) (place : Cursor) (reader : Reader) (given : Arguments) : Type 0 where
  pub came : given.texts ≡ map (argument_pieces text) reader.came.items
  pub inside : All (IsInside text) reader.came.items
  pub begins : IsWithin text reader.start
  pub reached : left text reader.start ≡ given.next ++ left text place
  pub here : reader.start.at + length (bytes_of_pieces given.next) ≡ place.at
  pub ends : reader.start.at + length (bytes_of_pieces (without_back given.next)) ≡ reader.end
  pub some : is_empty given.next ≡ false → reader.start.at < reader.end
  pub depth : reader.depth ≡ given.depth
  pub deep : reader.depth ≤ place.at

-- a turn leaves the reader with these arguments, of which it says whether they are closed
pub record IsTurned (text : List ℕ) (place : Cursor) (reader : Reader) (size : ℕ) (closed : Bool) (turn : Arguments) : Type 0 where
  pub closes : turn.closed ≡ closed
  pub taken : turn.size ≡ size + 1
  pub reads : IsReader text place reader turn

-- these arguments were given, and leave these pieces
pub record Gave (text : List ℕ) (came : List Argument) (pieces rest : List Piece) (given : Arguments) : Type 0 where
  pub texts : given.texts ≡ map (argument_pieces text) came
  pub inside : All (IsInside text) came
  pub behind : rest ≡ drop given.size pieces
