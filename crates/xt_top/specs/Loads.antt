-- The files that words load, in their order: first those of the source's expansion, then, where it has a text, the further files of the command. This project's own.
use Rattle.std.specs.Prelude.{◌≡◌, ◌||◌, Bool, List, [], ◌∷◌, ◌++◌, length, nat_lt, Option, Some, None, Result, Ok, Err, IsOk, IsSome, IsSomeAnd, IfSome, IsTrue, is_some, All, Contains, if◌then◌else◌, ℕ}
use Rattle.xt_base.specs.Outside.{Held, bytes_of}
use Rattle.vl_pre.specs.Files.{Reading, Stop}
use Rattle.vl_pre.specs.Faults as pre
use Rattle.xt_top.specs.Command.{Request, SourceWords, source_of, files_of}
use Rattle.xt_top.specs.Sources.{expanded}

-- a command takes files: a source, or further files
abbrev pub takes_files : Request → Bool
takes_files r = is_some (source_of r) || nat_lt 0 (length (files_of r))

-- what is asked for loads files
abbrev pub LoadsFiles : Option Request → Type 0
LoadsFiles asked = IsSomeAnd asked (λ r. IsTrue (takes_files r))

-- all that a command takes is held: its source has an expanded text, and its further files are there
pub record AreHeld (h : Held) (r : Request) : Type 0 where
  pub source : IfSome (source_of r) (λ s. IsOk (expanded h s))
  pub files : All (λ name. IsSome (bytes_of h name)) (files_of r)

-- a file that a command takes isn't held: its source's expansion comes to one before a rule is broken, or the source has a text and one of the further files is such
pub data IsMissing (h : Held) (r : Request) : Type 0 where
  of_source : (s : SourceWords) → source_of r ≡ Some s → pre.IsMiss (expanded h s) → IsMissing h r
  of_files : IfSome (source_of r) (λ s. IsOk (expanded h s)) → (name : List ℕ) → Contains (files_of r) name → bytes_of h name ≡ None → IsMissing h r

-- files that are loaded one after the other; one that isn't held is the last
abbrev pub loads_from : Held → List (List ℕ) → List (List ℕ)
loads_from h [] = []
loads_from h (name ∷ names) = name ∷ (if is_some (bytes_of h name) then loads_from h names else [])

-- the loads of a source's expansion, and then those of further files if there is a text
abbrev pub loads_after : Held → List (List ℕ) → Result Reading Stop → List (List ℕ)
loads_after h files (Ok reading) = pre.loads_of (Ok reading) ++ loads_from h files
loads_after h files (Err stop) = pre.loads_of (Err stop)

-- the loads of a command with a source, if it takes one, and with further files
abbrev pub loads_with : Held → Option SourceWords → List (List ℕ) → List (List ℕ)
loads_with h None files = loads_from h files
loads_with h (Some s) files = loads_after h files (expanded h s)

-- the loads of what is asked for; words that are no command load nothing
abbrev pub loads_of : Option Request → Held → List (List ℕ)
loads_of None h = []
loads_of (Some r) h = loads_with h (source_of r) (files_of r)
