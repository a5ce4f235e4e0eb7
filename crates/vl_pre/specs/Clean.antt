-- A file without its comments (IEEE 1364-2005, 3.3).
use Rattle.std.specs.Prelude.{ℕ, zero, suc, ◌+◌, ◌==◌, ◌&&◌, Bool, false, List, [], ◌∷◌, Result, Ok, Err, if◌then◌else◌}
use Rattle.vl_pre.specs.Signs.{is_allowed}
use Rattle.vl_pre.specs.Breaks.{Break, breaks}
use Rattle.vl_pre.specs.declared.clean.Within.{Within}
use Rattle.vl_pre.specs.declared.clean.Within.TheVariants.{Code, LineComment, BlockComment, Quotes}

-- a byte that stays, before what is left of the bytes behind it
abbrev pub kept : ℕ → Result (List ℕ) Break → Result (List ℕ) Break
kept byte (Ok bytes) = Ok (byte ∷ bytes)
kept byte (Err broken) = Err broken

-- whether the bytes begin with this one
abbrev pub begins : ℕ → List ℕ → Bool
begins sign [] = false
begins sign (byte ∷ bytes) = byte == sign

-- A line comment is dropped up to its line feed. A block comment becomes one blank and its line feeds. A string stays, and ends on its line.
-- What isn't ended is broken at its line, and a byte outside comments must be allowed. Skipped bytes belong to a sign of two bytes. (This project's own.)
abbrev pub cleaned : Within → ℕ → ℕ → List ℕ → Result (List ℕ) Break
cleaned Code skip line [] = Ok []
cleaned LineComment skip line [] = Ok []
cleaned (BlockComment opened) skip line [] = breaks 10 opened
cleaned Quotes skip line [] = breaks 10 line
cleaned within (suc skip) line (byte ∷ bytes) = cleaned within skip line bytes
cleaned Code zero line (byte ∷ bytes) =
    if byte == 47 && begins 47 bytes then cleaned LineComment 1 line bytes
    else if byte == 47 && begins 42 bytes then kept 32 (cleaned (BlockComment line) 1 line bytes)
    else if byte == 34 then kept 34 (cleaned Quotes 0 line bytes)
    else if byte == 10 then kept 10 (cleaned Code 0 (line + 1) bytes)
    else if is_allowed byte then kept byte (cleaned Code 0 line bytes)
    else breaks 10 line
cleaned LineComment zero line (byte ∷ bytes) =
    if byte == 10 then kept 10 (cleaned Code 0 (line + 1) bytes) else cleaned LineComment 0 line bytes
cleaned (BlockComment opened) zero line (byte ∷ bytes) =
    if byte == 42 && begins 47 bytes then cleaned Code 1 line bytes
    else if byte == 10 then kept 10 (cleaned (BlockComment opened) 0 (line + 1) bytes)
    else cleaned (BlockComment opened) 0 line bytes
cleaned Quotes zero line (byte ∷ bytes) =
    if byte == 34 then kept 34 (cleaned Code 0 line bytes)
    else if byte == 10 then breaks 10 line
    else if is_allowed byte then kept byte (cleaned Quotes 0 line bytes)
    else breaks 10 line

-- a whole file
abbrev pub clean_file : List ℕ → Result (List ℕ) Break
clean_file bytes = cleaned Code 0 1 bytes
