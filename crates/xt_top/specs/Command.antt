-- What the words of a command line ask for. All of it is this project's own.
use Rattle.std.specs.Prelude.{ℕ, Bool, false, not, ◌&&◌, ◌||◌, ◌==◌, nat_le, nat_lt, List, [], ◌∷◌, length, Option, Some, None, option_map, option_and_then, codes, bytes_eq, if◌then◌else◌}
use Rattle.std.specs.List.{list_all, position_or_len, before_first, after_first}
use Rattle.xt_base.specs.Identifiers.{is_within, is_word}
use Rattle.vl_pre.specs.Directives.{is_directive}
use Rattle.xt_top.specs.declared.command.Command.{Command}
use Rattle.xt_top.specs.declared.command.SourceWords as kept
use Rattle.xt_top.specs.declared.command.Command.TheVariants.{Compile}

-- a macro that is defined before the source is read: its name and its text
abbrev pub Define : Type 0
Define = List ℕ × List ℕ

-- the words that name a source: its file, the module that is the top, the clock of its processes, and the macros that are defined before it
pub record SourceWords : Type 0 where
  pub file : List ℕ
  pub top : List ℕ
  pub clock : List ℕ
  pub defines : List Define

-- a command and its words
pub data Request : Type 0 where
  compile : SourceWords → Request

-- the source that a command takes, if it takes one
abbrev pub source_of : Request → Option SourceWords
source_of (compile source) = Some source

-- the further files that a command takes, in the order of their loads
abbrev pub files_of : Request → List (List ℕ)
files_of (compile source) = []

-- the sign between a macro's name and its text is `=`, 61
abbrev pub is_equals : ℕ → Bool
is_equals byte = byte == 61

abbrev pub has_equals : List ℕ → Bool
has_equals word = nat_lt (position_or_len is_equals word) (length word)

-- a macro's name: a word, reserved or not, that is no directive's
abbrev pub is_macro_name : List ℕ → Bool
is_macro_name name = is_word name && not (is_directive name)

-- a byte and those behind it begin a comment: `//` or `/*`, of which `/` is 47 and `*` is 42
abbrev pub begins_comment : ℕ → List ℕ → Bool
begins_comment byte [] = false
begins_comment byte (next ∷ bytes) = byte == 47 && (next == 47 || next == 42)

-- a comment begins in a text
abbrev pub has_comment : List ℕ → Bool
has_comment [] = false
has_comment (byte ∷ bytes) = begins_comment byte bytes || has_comment bytes

-- a macro's text: at most 256 printable bytes, without comments
abbrev pub is_macro_text : List ℕ → Bool
is_macro_text text = nat_le (length text) 256 && list_all (is_within 32 126) text && not (has_comment text)

-- the macro that a word NAME=TEXT defines; the first `=` ends the name
abbrev pub define_of : List ℕ → Option Define
define_of word =
    if has_equals word && is_macro_name (before_first is_equals word) && is_macro_text (after_first is_equals word)
    then Some (before_first is_equals word, after_first is_equals word) else None

-- the macros that words define, if each of them defines one
abbrev pub defines_of : List (List ℕ) → Option (List Define)
defines_of [] = Some []
defines_of (word ∷ words) = option_and_then (λ define. option_map (λ defines. define ∷ defines) (defines_of words)) (define_of word)

-- a source, from its words and the macros that further words define
abbrev pub source_words : (file top clock : List ℕ) → List Define → SourceWords
source_words file top clock defines = record { file = file; top = top; clock = clock; defines = defines }

-- what the words ask for, if anything: `compile FILE TOP CLOCK [NAME=TEXT ..]`
abbrev pub request_of : List (List ℕ) → Option Request
request_of (word ∷ file ∷ top ∷ clock ∷ words) =
    if bytes_eq word (codes "compile") then option_map (λ defines. compile (source_words file top clock defines)) (defines_of words) else None
request_of _ = None

-- the same source and the same command, as the program keeps them
abbrev pub source_asked : kept.SourceWords → SourceWords
source_asked s = source_words s.file.now s.top.now s.clock.now s.defines

abbrev pub asked_by : Command → Request
asked_by (Compile source) = compile (source_asked source)
