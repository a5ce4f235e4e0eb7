-- What files and streams hold, and what a load or a write leaves. All of it is this project's own.
use Rattle.std.specs.Prelude.{◌≡◌, ◌+◌, nat_lt, ◌<◌, ◌≤◌, ◌⊎◌, ℕ, List, [], ◌∷◌, ◌++◌, Option, Some, None, IfSome, IsSome, IsSomeAnd, length, take, bytes_eq, if◌then◌else◌}
use Rattle.xt_base.specs.declared.outside.Load.{Load}
use Rattle.xt_base.specs.declared.outside.Load.TheVariants as answers

-- the files that are held: names with their bytes; of two with one name the first counts
abbrev pub Held : Type 0
Held = List (List ℕ × List ℕ)

-- the bytes that are held under a name
abbrev pub bytes_of : Held → List ℕ → Option (List ℕ)
bytes_of [] name = None
bytes_of (file ∷ files) name = if bytes_eq file.0 name then Some file.1 else bytes_of files name

-- the greatest length of a file that is loaded, in bytes
abbrev pub max_file : ℕ
max_file = 268435456

-- the last value of a count of faults, at which it stays
abbrev pub last_count : ℕ
last_count = 18446744073709551615

-- a count after one more, which stays at its last value
abbrev pub after_one : ℕ → ℕ
after_one count = if nat_lt count last_count then count + 1 else last_count

-- a fault was counted: the count rose, or stands at its last value
abbrev pub HasFault : ℕ → ℕ → Type 0
HasFault old new = (old < new) ⊎ (old ≡ last_count)

-- no fault was counted: the count is as before, and below its last value
abbrev pub HasNoFault : ℕ → ℕ → Type 0
HasNoFault old new = (new ≡ old) × (old < last_count)

-- a load gave a file's bytes, behind what was there: those that are held, where told
pub record Gives (held : Option Held) (name old new : List ℕ) : Type 0 where
  pub bytes : List ℕ
  pub fits : length bytes ≤ max_file
  pub appends : new ≡ old ++ bytes
  pub told : IfSome held (λ h. bytes_of h name ≡ Some bytes)

-- what is held is told, and no file has the name
abbrev pub IsAbsent : Option Held → List ℕ → Type 0
IsAbsent held name = IsSomeAnd held (λ h. bytes_of h name ≡ None)

-- where told, the file is held and longer than a load takes
abbrev pub IsTooLong : Option Held → List ℕ → Type 0
IsTooLong held name = IfSome held (λ h. IsSomeAnd (bytes_of h name) (λ bytes. max_file < length bytes))

-- where told, a load adds its name to those asked for; one for which there was no memory may leave them
abbrev pub IsAsked : Option Held → Load → List (List ℕ) → List ℕ → List (List ℕ) → Type 0
IsAsked held answer old name new = IsSome held → (new ≡ old ++ name ∷ []) ⊎ ((answer ≡ answers.Memory) × (new ≡ old))

-- what stands on a stream after a piece, where told
abbrev pub appended : Option (List ℕ) → List ℕ → Option (List ℕ)
appended None piece = None
appended (Some bytes) piece = Some (bytes ++ piece)

-- a prefix of the piece was appended, where told
abbrev pub AppendsPrefix : Option (List ℕ) → List ℕ → Option (List ℕ) → Type 0
AppendsPrefix old piece new = (n : ℕ) × (n ≤ length piece) × (new ≡ appended old (take n piece))
