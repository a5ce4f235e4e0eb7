-- How places are kept: a run begins where the line isn't the one that the bytes before it lead to. All of it is this project's own.
use Rattle.std.specs.Prelude.{◌≡◌, ◌<◌, ◌≤◌, ◌+◌, ◌-◌, ◌⊎◌, ◌==◌, ℕ, zero, suc, List, [], ◌∷◌, ◌++◌, length, slice_index_or, slice_range, count_by, nat_le, if◌then◌else◌}
use Rattle.vl_pre.specs.declared.text.Run.{Run}

-- the run that stands before all others
abbrev pub no_run : Run
no_run = record { start = 0; file = 0; line = 0 }

-- the last run that begins at a byte or before it
abbrev pub run_at : List Run → ℕ → Run → Run
run_at [] at last = last
run_at (run ∷ runs) at last = run_at runs at (if nat_le run.start at then run else last)

-- the file and line to which a run leads: its own line, and one more for each line feed since
abbrev pub place_after : Run → List ℕ → ℕ → ℕ × ℕ
place_after run bytes at = (run.file, run.line + count_by (λ b. b == 10) (slice_range bytes run.start at))

-- the place of one byte
abbrev pub place_in : List Run → List ℕ → ℕ → ℕ × ℕ
place_in runs bytes at = place_after (run_at runs at no_run) bytes at

-- the places of the first bytes
abbrev pub places_in : List Run → List ℕ → ℕ → List (ℕ × ℕ)
places_in runs bytes zero = []
places_in runs bytes (suc n) = places_in runs bytes n ++ place_in runs bytes n ∷ []

-- the greatest number of bytes of a text, and of lines of a file, that a place can tell
abbrev pub most : ℕ
most = 2147483647

-- the runs are in order and begin with the text, and each is in a stretch
pub record AreRuns (runs : List Run) (bytes : List ℕ) (stretches next : ℕ) : Type 0 where
  pub size : length bytes ≤ most
  pub some : 0 < stretches
  pub ordered : (i j : ℕ) → i ≤ j → j < length runs → (slice_index_or runs i no_run).start ≤ (slice_index_or runs j no_run).start
  pub within : (i : ℕ) → i < length runs → (slice_index_or runs i no_run).start ≤ length bytes
  pub filed : (i : ℕ) → i < length runs → (slice_index_or runs i no_run).file < stretches
  pub lined : (i : ℕ) → i < length runs → (slice_index_or runs i no_run).line ≤ most
  pub first : 0 < length bytes → (0 < length runs) × ((slice_index_or runs 0 no_run).start ≡ 0)
  pub leads : 0 < length runs → next ≡ (place_in runs bytes (length bytes)).1

-- a run was begun at the end, or the last one goes on to the place that it was to have
abbrev pub IsBegun : List Run → List Run → ℕ → Run → Type 0
IsBegun old new next run = (new ≡ old ++ run ∷ []) ⊎ ((new ≡ old) × (0 < length old) × (next ≡ run.line) × ((slice_index_or old (length old - 1) no_run).file ≡ run.file))
