-- A definition's text, from the pieces that were read.
use Rattle.std.proofs.Common.{◌≡◌, ◌+◌, ℕ, suc, Bool, true, false, cond, List, [], ◌∷◌, drop, take, refl, sym, ap, ◌∙◌, arith, Some, Ok}
use Rattle.std.specs.List.{prefix_len}
use Rattle.vl_pre.specs.Pieces.{Piece, is_space, without_front, bytes_of_pieces, trimmed}
use Rattle.vl_pre.specs.Breaks.{breaks}
use Rattle.vl_pre.specs.Directives.{is_stray}
use Rattle.vl_pre.specs.Macros.{macro_text, stray_line, unless_stray, line_from}
use Rattle.vl_pre.specs.Lines.{GoesOn}
use Rattle.vl_pre.specs.declared.pieces.Kind.{Kind}
use Rattle.vl_pre.specs.declared.pieces.Kind.TheVariants.{Word, Backquote, Identifier, Quoted, Single}
use Rattle.vl_pre.proofs.TextLemmas.{IsTextSoFar, text_ends}
use Rattle.vl_pre.proofs.LineLemmas.{line_size}

-- a space is not stray
space_not_stray : (line : ℕ) (kind : Kind) (bytes : List ℕ) → is_space (record { line = line; kind = kind; bytes = bytes }) ≡ true → is_stray (record { line = line; kind = kind; bytes = bytes }) ≡ false
space_not_stray line Word bytes e = cc
space_not_stray line Backquote bytes e = cc
space_not_stray line Identifier bytes e = refl
space_not_stray line Quoted bytes e = refl
space_not_stray line (Single byte) bytes e = refl

-- spaces in front aren't stray
pub stray_front : (pieces : List Piece) → stray_line (without_front pieces) ≡ stray_line pieces
stray_front [] = refl
stray_front (piece ∷ pieces) = go (is_space piece) refl (stray_front pieces) where
  go : (t : Bool) → is_space piece ≡ t → stray_line (without_front pieces) ≡ stray_line pieces → stray_line (drop (cond t (1 + prefix_len is_space pieces) 0) (piece ∷ pieces)) ≡ stray_line (piece ∷ pieces)
  go false e rest = refl
  go true e rest =
      let one : 1 + prefix_len is_space pieces ≡ suc (prefix_len is_space pieces) = omega arith in
      let here : is_stray piece ≡ false = space_not_stray piece.line piece.kind piece.bytes e in
      rw (one, here) rest

-- a stray piece breaks the text
pub text_stray : (pieces now rest : List Piece) (bytes : List ℕ) (kept : ℕ) (piece : Piece) → IsTextSoFar (without_front pieces) now bytes kept → now ≡ piece ∷ rest → is_stray piece ≡ true
    → macro_text pieces ≡ breaks 11 piece.line
text_stray pieces now rest bytes kept piece so first stray =
    let found : stray_line pieces ≡ Some piece.line = sym (stray_front pieces) ∙ so.no_stray ∙ ap stray_line first ∙ rw stray refl in
    ap (λ s. unless_stray s (bytes_of_pieces (trimmed pieces))) found

-- the text is what was kept
pub text_whole : (pieces rest : List Piece) (bytes : List ℕ) (kept : ℕ) → IsTextSoFar (without_front pieces) rest bytes kept → rest ≡ [] → macro_text pieces ≡ Ok (take kept bytes)
text_whole pieces rest bytes kept so end =
    let ends = text_ends (without_front pieces) rest bytes kept so end in
    ap (λ s. unless_stray s (bytes_of_pieces (trimmed pieces))) (sym (stray_front pieces) ∙ ends.0) ∙ ap Ok (sym ends.1)

-- the place at the line's end
pub line_taken : (pieces later : List Piece) → GoesOn pieces later → (line_from 0 later).pieces ≡ [] → later ≡ drop (line_from 0 pieces).size pieces
line_taken pieces later goes ended =
    let size : (line_from 0 pieces).size ≡ goes.taken = omega (arith, goes.size, line_size later ended) in
    goes.dropped ∙ ap (λ n. drop n pieces) (sym size)
