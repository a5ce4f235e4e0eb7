-- What is known of the pieces of a text: the first one, and what is left behind it.
use Rattle.std.proofs.Common.{◌≡◌, ◌<◌, ◌≤◌, ◌+◌, ◌-◌, ℕ, zero, suc, Bool, true, false, cond, ◌&&◌, List, [], ◌∷◌, length, take, drop, refl, sym, ap, ◌∙◌, arith, eqb, length-drop}
use Rattle.std.proofs.lemmas.List.{drop_more, drop-drop}
use Rattle.std.proofs.lemmas.Bool.{false≢true}
use Rattle.std.specs.List.{prefix_len}
use Rattle.std.specs.Prelude.{slice_range, slice_index}
use Rattle.xt_base.specs.Identifiers.{begins_word, is_in_word}
use Rattle.vl_pre.specs.Clean.{begins}
use Rattle.vl_pre.specs.Text.{line_after}
use Rattle.vl_pre.specs.Pieces.{Piece, pieces_from, pieces_of, kind_at, further, end_at, is_at_word, is_inside, is_closed}
use Rattle.vl_pre.specs.declared.pieces.Kind.TheVariants.{Word, Backquote, Identifier, Quoted, Single}

-- skipped bytes are dropped
pub pieces_from-drop : (skip line : ℕ) (bytes : List ℕ) → pieces_from skip line bytes ≡ pieces_of line (drop skip bytes)
pieces_from-drop zero line bytes = refl
pieces_from-drop (suc skip) line [] = refl
pieces_from-drop (suc skip) line (b ∷ bs) = pieces_from-drop skip line bs

pub prefix_len-le : (p : ℕ → Bool) (bytes : List ℕ) → prefix_len p bytes ≤ length bytes
prefix_len-le p [] = omega arith
prefix_len-le p (b ∷ bs) = go (p b) (prefix_len-le p bs) where
  go : (t : Bool) → prefix_len p bs ≤ length bs → cond t (1 + prefix_len p bs) 0 ≤ suc (length bs)
  go true h = omega arith
  go false h = omega arith

-- a string that is ended has its end in the text
pub closed-within : (bytes : List ℕ) → is_closed bytes ≡ true → prefix_len is_inside bytes + 1 ≤ length bytes
closed-within bytes e = go (drop (prefix_len is_inside bytes) bytes) refl where
  go : (l : List ℕ) → drop (prefix_len is_inside bytes) bytes ≡ l → prefix_len is_inside bytes + 1 ≤ length bytes
  go [] d = absurd (false≢true (sym (ap (begins 34) d) ∙ e))
  go (x ∷ l) d = omega (arith, length-drop (prefix_len is_inside bytes) bytes, ap length d, prefix_len-le is_inside bytes)

-- a piece lies in its text
pub further_within : (byte : ℕ) (bytes : List ℕ) → further (kind_at byte bytes) bytes ≤ length bytes
further_within byte bytes = first (eqb byte 96) where
  quote : (t : Bool) → is_closed bytes ≡ t → (q : Bool) → further (cond (q && t) Quoted (Single byte)) bytes ≤ length bytes
  quote true e true = closed-within bytes e
  quote false e true = omega arith
  quote t e false = omega arith

  letter : (l : Bool) → further (cond l Identifier (cond (eqb byte 34 && is_closed bytes) Quoted (Single byte))) bytes ≤ length bytes
  letter true = prefix_len-le is_in_word bytes
  letter false = quote (is_closed bytes) refl (eqb byte 34)

  word : (w : Bool) → further (cond w Word Backquote) bytes ≤ length bytes
  word true = prefix_len-le is_in_word bytes
  word false = omega arith

  first : (t : Bool) → further (cond t (cond (is_at_word bytes) Word Backquote) (cond (begins_word byte) Identifier (cond (eqb byte 34 && is_closed bytes) Quoted (Single byte)))) bytes ≤ length bytes
  first true = word (is_at_word bytes)
  first false = letter (begins_word byte)

-- the pieces at a place are the one that begins there, and those from its end on
pub first_piece : (text : List ℕ) (at line : ℕ) → at < length text
    → pieces_of line (drop at text)
    ≡ record { line = line; kind = kind_at (slice_index text at) (drop (at + 1) text); bytes = slice_range text at (end_at text at) }
    ∷ pieces_of (line_after (slice_index text at) line) (drop (end_at text at) text)
unfolding end_at
first_piece text at line h =
    let byte = slice_index text at in
    let rest = drop (at + 1) text in
    let more = further (kind_at byte rest) rest in
    let front : drop at text ≡ byte ∷ rest = drop_more text at 0 h in
    let behind : pieces_from more (line_after byte line) rest ≡ pieces_of (line_after byte line) (drop (at + 1 + more) text) =
    pieces_from-drop more (line_after byte line) rest ∙ ap (pieces_of (line_after byte line)) (drop-drop more (at + 1) text) in
    let size : at + 1 + more - at ≡ suc more = omega arith in
    let bytes : byte ∷ take more rest ≡ slice_range text at (at + 1 + more) = sym (rw (front, size) refl) in
    ap (pieces_of line) front ∙ (λ i. record { line = line; kind = kind_at byte rest; bytes = bytes i } ∷ behind i)

pub end_at_within : (text : List ℕ) (at : ℕ) → at < length text → end_at text at ≤ length text
unfolding end_at
end_at_within text at h = omega (arith, further_within (slice_index text at) (drop (at + 1) text), length-drop (at + 1) text)

-- what is passed over belongs to what was to be passed over
pub passed_over : (p : Piece → Bool) (pieces rest : List Piece) (piece : Piece) → pieces ≡ piece ∷ rest → p piece ≡ true → drop (prefix_len p rest) rest ≡ drop (prefix_len p pieces) pieces
passed_over p pieces rest piece e t = sym (rw (e, t) (ap (λ n. drop n (piece ∷ rest)) one)) where
  one : 1 + prefix_len p rest ≡ suc (prefix_len p rest)
  one = omega arith
