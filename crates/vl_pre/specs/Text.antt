-- The expanded text: what is left of the source when directives and uses of macros are done. All of it is this project's own.
use Rattle.std.specs.Prelude.{◌+◌, ◌-◌, ◌==◌, ℕ, List, [], ◌∷◌, ◌++◌, length, slice_index_or, if◌then◌else◌}
use Rattle.xt_base.specs.declared.refusals.Place.{Place}

-- the bytes, the stretch and line of each byte, and the name of each stretch: a new stretch begins where the text passes into a file or back to one
pub record Expanded : Type 0 where
  pub bytes : List ℕ
  pub places : List (ℕ × ℕ)
  pub names : List (List ℕ)

-- the place of a byte
abbrev pub place_of : Expanded → ℕ → Place
place_of text at = let p = slice_index_or text.places at (0, 0) in record { file = p.0; line = p.1; instance = 0 }

-- no text yet, in the first stretch
abbrev pub begun : List ℕ → Expanded
begun name = record { bytes = []; places = []; names = name ∷ [] }

-- the text passes into a file, or back to one
abbrev pub with_stretch : Expanded → List ℕ → Expanded
with_stretch text name = record text { names = text.names ++ name ∷ [] }

-- one more byte, on a line of the last stretch
abbrev pub with_byte : Expanded → ℕ → ℕ → Expanded
with_byte text byte line = record text { bytes = text.bytes ++ byte ∷ []; places = text.places ++ (length text.names - 1, line) ∷ [] }

-- the line after a byte: a line feed ends its line
abbrev pub line_after : ℕ → ℕ → ℕ
line_after byte line = if byte == 10 then line + 1 else line

-- the bytes of one file follow, each on its line, of which the first is told
abbrev pub with_lines : Expanded → ℕ → List ℕ → Expanded
with_lines text line [] = text
with_lines text line (byte ∷ bytes) = with_lines (with_byte text byte line) (line_after byte line) bytes
