-- What keeps the places of a text from falling.
use Rattle.std.proofs.Common.{◌≡◌, inl, inr, ◌<◌, ◌≤◌, ◌-◌, ◌+◌, ℕ, Bool, true, false, cond, List, [], ◌∷◌, ◌++◌, length, arith, eqb}
use Rattle.std.proofs.lemmas.List.{length_push}
use Rattle.vl_pre.specs.Text.{Expanded, with_byte, with_stretch, with_lines, line_after, begun}
use Rattle.vl_pre.specs.Files.{added}
use Rattle.vl_places.specs.Order.{IsInOrder}
use Rattle.vl_places.proofs.Rows.{Climbs, up_to_later, climbs_push, climbs_more, climbs_at}

-- the text is in its last stretch, at a line or before it
pub record Open (text : Expanded) (line : ℕ) : Type 0 where
  pub some : 0 < length text.names
  pub sized : length text.places ≡ length text.bytes
  pub climbs : Climbs (0, 0) text.places (length text.names - 1, line)

-- no part of the text is behind the stretch that may begin next
pub record Done (text : Expanded) : Type 0 where
  pub sized : length text.places ≡ length text.bytes
  pub climbs : Climbs (0, 0) text.places (length text.names, 0)

pub open_done : (text : Expanded) (line : ℕ) → Open text line → Done text
open_done text line o = record {
  sized = o.sized;
  climbs = climbs_more (0, 0) (length text.names - 1, line) (length text.names, 0) text.places (inl (let some : 0 < length text.names = o.some in omega arith)) o.climbs;
}

pub open_later : (text : Expanded) (a b : ℕ) → a ≤ b → Open text a → Open text b
open_later text a b le o = record {
  some = o.some;
  sized = o.sized;
  climbs = climbs_more (0, 0) (length text.names - 1, a) (length text.names - 1, b) text.places (up_to_later (length text.names - 1) a b le) o.climbs;
}

open_byte : (text : Expanded) (byte line : ℕ) → Open text line → Open (with_byte text byte line) line
open_byte text byte line o = record {
  some = o.some;
  sized = omega (arith, o.sized, length_push text.places (length text.names - 1, line), length_push text.bytes byte);
  climbs = climbs_push (0, 0) (length text.names - 1, line) text.places o.climbs;
}

pub open_added : (text : Expanded) (line : ℕ) (bytes : List ℕ) → Open text line → Open (added text line bytes) line
open_added text line [] o = o
open_added text line (byte ∷ bytes) o = open_added (with_byte text byte line) line bytes (open_byte text byte line o)

-- a stretch may begin at any line
pub open_stretch : (text : Expanded) (name : List ℕ) (line : ℕ) → Done text → Open (with_stretch text name) line
open_stretch text name line done =
    let more : length (text.names ++ name ∷ []) ≡ length text.names + 1 = length_push text.names name in
    record {
      some = omega (arith, more);
      sized = done.sized;
      climbs = climbs_more (0, 0) (length text.names, 0) (length (text.names ++ name ∷ []) - 1, line) text.places (inr (omega (arith, more), omega arith)) done.climbs;
    }

pub line_after_later : (byte line : ℕ) → line ≤ line_after byte line
line_after_later byte line = go (eqb byte 10) where
  go : (b : Bool) → line ≤ cond b (line + 1) line
  go true = omega arith
  go false = omega arith

open_lines : (text : Expanded) (line : ℕ) (bytes : List ℕ) → Open text line → Done (with_lines text line bytes)
open_lines text line [] o = open_done text line o
open_lines text line (byte ∷ bytes) o =
    open_lines (with_byte text byte line) (line_after byte line) bytes
    (open_later (with_byte text byte line) line (line_after byte line) (line_after_later byte line) (open_byte text byte line o))

-- the text of one file
pub plain_done : (name bytes : List ℕ) → Done (with_lines (begun name) 1 bytes)
plain_done name bytes = open_lines (begun name) 1 bytes (record { some = omega arith; sized = omega arith; climbs = up_to_later 0 0 1 (omega arith) })

pub done_in_order : (text : Expanded) → Done text → IsInOrder text
done_in_order text done a b le inside = climbs_at (0, 0) (length text.names, 0) text.places a b done.climbs le (omega (arith, inside, done.sized))
