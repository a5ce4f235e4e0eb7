-- A cleaned text is ASCII, and so is each name in it.
use Rattle.std.proofs.Common.{◌≡◌, ◌<◌, ℕ, zero, suc, Bool, true, false, cond, List, [], ◌∷◌, Result, Ok, Err, Some, None, refl, arith, ◌&&◌, ◌+◌, eqb, subst}
use Rattle.std.specs.Prelude.{IfOk, IfSome, drop}
use Rattle.std.specs.List.{prefix_len}
use Rattle.std.specs.Str.{IsAscii}
use Rattle.std.proofs.lemmas.Str.{IsAscii-take, IsAscii-drop}
use Rattle.std.proofs.lemmas.Str.Ascii.{IsAscii-cons, IsAscii-nil}
use Rattle.vl_pre.specs.Signs.{is_allowed}
use Rattle.vl_pre.specs.Text.{line_after}
use Rattle.vl_pre.specs.Breaks.{Break}
use Rattle.vl_pre.specs.Clean.{cleaned, kept, begins, clean_file}
use Rattle.vl_pre.specs.Pieces.{Piece, pieces_from, further, kind_at, is_quoted, quoted_of, is_blank_piece}
use Rattle.vl_pre.specs.Directives.{Operand, string_behind, string_first}
use Rattle.vl_pre.specs.declared.clean.Within.{Within}
use Rattle.vl_pre.specs.declared.clean.Within.TheVariants.{Code, LineComment, BlockComment, Quotes}

abbrev Told : Type 0
Told = Result (List ℕ) Break

allowed_ascii : (byte : ℕ) → is_allowed byte ≡ true → byte < 128
allowed_ascii byte is = grind arith

kept_ascii : (byte : ℕ) (told : Told) → byte < 128 → IfOk told IsAscii → IfOk (kept byte told) IsAscii
kept_ascii byte (Ok bytes) low rest = IsAscii-cons byte bytes low rest
kept_ascii byte (Err broken) low rest = tt

either : (b : Bool) (x y : Told) → (b ≡ true → IfOk x IsAscii) → IfOk y IsAscii → IfOk (cond b x y) IsAscii
either true x y l r = l refl
either false x y l r = r

pub cleaned_ascii : (within : Within) (skip line : ℕ) (bytes : List ℕ) → IfOk (cleaned within skip line bytes) IsAscii
cleaned_ascii Code skip line [] = IsAscii-nil
cleaned_ascii LineComment skip line [] = IsAscii-nil
cleaned_ascii (BlockComment opened) skip line [] = tt
cleaned_ascii Quotes skip line [] = tt
cleaned_ascii Code (suc skip) line (byte ∷ bytes) = cleaned_ascii Code skip line bytes
cleaned_ascii LineComment (suc skip) line (byte ∷ bytes) = cleaned_ascii LineComment skip line bytes
cleaned_ascii (BlockComment opened) (suc skip) line (byte ∷ bytes) = cleaned_ascii (BlockComment opened) skip line bytes
cleaned_ascii Quotes (suc skip) line (byte ∷ bytes) = cleaned_ascii Quotes skip line bytes
cleaned_ascii Code zero line (byte ∷ bytes) =
    either (eqb byte 47 && begins 47 bytes) _ _ (λ _. cleaned_ascii LineComment 1 line bytes)
    (either (eqb byte 47 && begins 42 bytes) _ _ (λ _. kept_ascii 32 _ (omega arith) (cleaned_ascii (BlockComment line) 1 line bytes))
    (either (eqb byte 34) _ _ (λ _. kept_ascii 34 _ (omega arith) (cleaned_ascii Quotes 0 line bytes))
    (either (eqb byte 10) _ _ (λ _. kept_ascii 10 _ (omega arith) (cleaned_ascii Code 0 _ bytes))
    (either (is_allowed byte) _ _ (λ is. kept_ascii byte _ (allowed_ascii byte is) (cleaned_ascii Code 0 line bytes)) tt))))
cleaned_ascii LineComment zero line (byte ∷ bytes) =
    either (eqb byte 10) _ _ (λ _. kept_ascii 10 _ (omega arith) (cleaned_ascii Code 0 _ bytes)) (cleaned_ascii LineComment 0 line bytes)
cleaned_ascii (BlockComment opened) zero line (byte ∷ bytes) =
    either (eqb byte 42 && begins 47 bytes) _ _ (λ _. cleaned_ascii Code 1 line bytes)
    (either (eqb byte 10) _ _ (λ _. kept_ascii 10 _ (omega arith) (cleaned_ascii (BlockComment opened) 0 _ bytes)) (cleaned_ascii (BlockComment opened) 0 line bytes))
cleaned_ascii Quotes zero line (byte ∷ bytes) =
    either (eqb byte 34) _ _ (λ _. kept_ascii 34 _ (omega arith) (cleaned_ascii Code 0 line bytes))
    (either (eqb byte 10) _ _ (λ _. tt)
    (either (is_allowed byte) _ _ (λ is. kept_ascii byte _ (allowed_ascii byte is) (cleaned_ascii Quotes 0 line bytes)) tt))

pub clean_ascii : (bytes text : List ℕ) → clean_file bytes ≡ Ok text → IsAscii text
clean_ascii bytes text is = subst (λ told. IfOk told IsAscii) is (cleaned_ascii Code 0 1 bytes)

abbrev AreAscii : List Piece → Type 0
AreAscii [] = Unit {0}
AreAscii (piece ∷ pieces) = IsAscii piece.bytes × AreAscii pieces

pieces_ascii : (skip line : ℕ) (bytes : List ℕ) → IsAscii bytes → AreAscii (pieces_from skip line bytes)
pieces_ascii skip line [] a = tt
pieces_ascii (suc skip) line (byte ∷ bytes) a = pieces_ascii skip line bytes (λ i. a (suc i))
pieces_ascii zero line (byte ∷ bytes) a = (
  IsAscii-cons byte _ (a 0) (IsAscii-take bytes (further (kind_at byte bytes) bytes) (λ i. a (suc i))),
  pieces_ascii (further (kind_at byte bytes) bytes) (line_after byte line) bytes (λ i. a (suc i)),
)

drop_ascii : (n : ℕ) (pieces : List Piece) → AreAscii pieces → AreAscii (drop n pieces)
drop_ascii zero pieces a = a
drop_ascii (suc n) [] a = tt
drop_ascii (suc n) (piece ∷ pieces) a = drop_ascii n pieces a.1

string_first_ascii : (blanks : ℕ) (pieces : List Piece) → AreAscii pieces → IfSome (string_first blanks pieces) (λ o. IsAscii o.text)
string_first_ascii blanks [] a = tt
string_first_ascii blanks (piece ∷ pieces) a = go (is_quoted piece) where
  go : (b : Bool) → IfSome (cond b (Some (record { text = quoted_of piece; size = blanks + 1 })) None) (λ (o : Operand). IsAscii o.text)
  go true = IsAscii-take _ _ (IsAscii-drop _ 1 a.0)
  go false = tt

-- what stands in a string of an ASCII text
pub string_ascii : (line : ℕ) (bytes : List ℕ) (operand : Operand) → IsAscii bytes → string_behind (pieces_from 0 line bytes) ≡ Some operand → IsAscii operand.text
string_ascii line bytes operand a is =
    let pieces = pieces_from 0 line bytes in
    subst (λ o. IfSome o (λ o. IsAscii o.text)) is (string_first_ascii _ _ (drop_ascii (prefix_len is_blank_piece pieces) pieces (pieces_ascii 0 line bytes a)))
