-- A text keeps what it promises when a byte is added, and has that byte at its place.
use Rattle.std.proofs.Common.{◌≡◌, ◌<◌, ◌≤◌, ◌+◌, ◌-◌, ◌⊎◌, inl, inr, ℕ, suc, List, [], ◌∷◌, ◌++◌, length, get_or, refl, sym, ap, ◌∙◌, arith}
use Rattle.std.proofs.lemmas.List.{length_push, get_or_push, get_or_append_left}
use Rattle.std.proofs.lemmas.Bool.{cases_lt}
use Rattle.vl_pre.specs.declared.text.Run.{Run}
use Rattle.vl_pre.specs.Text.{line_after}
use Rattle.vl_pre.specs.Runs.{no_run, place_after, place_in, places_in, most, AreRuns, IsBegun}
use Rattle.vl_pre.proofs.PlaceLemmas.{place_in-more, place_in-before, place_in-begun, places_in-same, run_at-last, place_after-byte}

-- the runs are in order and begin with the text, whatever the next line is
pub record AreSorted (runs : List Run) (bytes : List ℕ) (stretches : ℕ) : Type 0 where
  pub ordered : (i j : ℕ) → i ≤ j → j < length runs → (get_or runs i no_run).start ≤ (get_or runs j no_run).start
  pub within : (i : ℕ) → i < length runs → (get_or runs i no_run).start ≤ length bytes
  pub filed : (i : ℕ) → i < length runs → (get_or runs i no_run).file < stretches
  pub lined : (i : ℕ) → i < length runs → (get_or runs i no_run).line ≤ most
  pub first : (0 < length runs) × ((get_or runs 0 no_run).start ≡ 0)

-- an element of a list with one more is one of the list, or the last
push-cases : {X : Type 0} (P : X → Type 0) (xs : List X) (x d : X) (i : ℕ) → i < length (xs ++ x ∷ []) → (i < length xs → P (get_or xs i d)) → P x → P (get_or (xs ++ x ∷ []) i d)
push-cases P xs x d i h before here = go (cases_lt i (length xs)) where
  go : (i < length xs) ⊎ (length xs ≤ i) → P (get_or (xs ++ x ∷ []) i d)
  go (inl l) = rw (get_or_append_left xs (x ∷ []) d i l) (before l)
  go (inr l) = let last : length xs ≡ i = omega (arith, length_push xs x) in rw (get_or_push xs x d i last) here

pub begun-sorted : (runs : List Run) (run : Run) (bytes : List ℕ) (stretches next : ℕ) → AreRuns runs bytes stretches next
    → run.start ≡ length bytes → run.file < stretches → run.line ≤ most → AreSorted (runs ++ run ∷ []) bytes stretches
begun-sorted runs run bytes stretches next are at file line = record {
  ordered = λ i j h l. push-cases (λ r. (get_or (runs ++ run ∷ []) i no_run).start ≤ r.start) runs run no_run j l
      (λ k. rw (get_or_append_left runs (run ∷ []) no_run i (omega arith)) (are.ordered i j h k))
      (push-cases (λ r. r.start ≤ run.start) runs run no_run i (omega arith) (λ k. omega (arith, are.within i k)) (omega arith));
  within = λ i h. push-cases (λ r. r.start ≤ length bytes) runs run no_run i h (are.within i) (omega arith);
  filed = λ i h. push-cases (λ r. r.file < stretches) runs run no_run i h (are.filed i) file;
  lined = λ i h. push-cases (λ r. r.line ≤ most) runs run no_run i h (are.lined i) line;
  first = (omega (arith, length_push runs run), starts (cases_lt 0 (length runs)));
} where
  starts : (0 < length runs) ⊎ (length runs ≤ 0) → (get_or (runs ++ run ∷ []) 0 no_run).start ≡ 0
  starts (inl l) = rw (get_or_append_left runs (run ∷ []) no_run 0 l) (whole (cases_lt 0 (length bytes))) where
    whole : (0 < length bytes) ⊎ (length bytes ≤ 0) → (get_or runs 0 no_run).start ≡ 0
    whole (inl k) = (are.first k).1
    whole (inr k) = omega (arith, are.within 0 l)
  starts (inr l) = rw (get_or_push runs run no_run 0 (omega arith)) (begins (cases_lt 0 (length bytes))) where
    begins : (0 < length bytes) ⊎ (length bytes ≤ 0) → run.start ≡ 0
    begins (inl k) = absurd (omega (arith, (are.first k).0))
    begins (inr k) = omega arith

pub same-sorted : (runs : List Run) (bytes : List ℕ) (stretches next : ℕ) → AreRuns runs bytes stretches next → 0 < length runs → AreSorted runs bytes stretches
same-sorted runs bytes stretches next are some = record {
  ordered = are.ordered;
  within = are.within;
  filed = are.filed;
  lined = are.lined;
  first = (some, starts (cases_lt 0 (length bytes)));
} where
  starts : (0 < length bytes) ⊎ (length bytes ≤ 0) → (get_or runs 0 no_run).start ≡ 0
  starts (inl k) = (are.first k).1
  starts (inr k) = omega (arith, are.within 0 some)

-- with one more byte the runs are those of the longer text
pub sorted-push : (runs : List Run) (bytes : List ℕ) (stretches line byte : ℕ) → AreSorted runs bytes stretches → length bytes < most → 0 < stretches
    → (place_in runs bytes (length bytes)).1 ≡ line → AreRuns runs (bytes ++ byte ∷ []) stretches (line_after byte line)
sorted-push runs bytes stretches line byte are room some leads = record {
  size = omega (arith, length_push bytes byte);
  some = some;
  ordered = are.ordered;
  within = λ i h. omega (arith, are.within i h, length_push bytes byte);
  filed = are.filed;
  lined = are.lined;
  first = λ _. are.first;
  leads = λ _. sym (rw length_push
      (ap (λ r. (place_after r (bytes ++ byte ∷ []) (length bytes + 1)).1) (run_at-last runs (length bytes + 1) no_run (λ i h. omega (arith, are.within i h)) are.first.0)
      ∙ place_after-byte (get_or runs (length runs - 1) no_run) bytes byte (are.within (length runs - 1) (omega (arith, are.first.0)))
      ∙ ap (λ r. line_after byte (place_after r bytes (length bytes)).1) (sym (run_at-last runs (length bytes) no_run are.within are.first.0))
      ∙ ap (line_after byte) leads));
}

-- the place that a byte at the end gets
pub begun-place : (runs runs' : List Run) (next : ℕ) (run : Run) (bytes : List ℕ) (stretches : ℕ) → AreRuns runs bytes stretches next → IsBegun runs runs' next run
    → run.start ≡ length bytes → place_in runs' bytes (length bytes) ≡ (run.file, run.line)
begun-place runs runs' next run bytes stretches are (inl e) at = rw e (place_in-begun runs run bytes (length bytes) at)
begun-place runs runs' next run bytes stretches are (inr goes) at =
    let last = run_at-last runs (length bytes) no_run are.within goes.1 in
    let file : (place_in runs bytes (length bytes)).0 ≡ run.file = ap (λ r. r.file) last ∙ goes.3 in
    let line : (place_in runs bytes (length bytes)).1 ≡ run.line = sym (are.leads goes.1) ∙ goes.2 in
    rw goes.0 (λ i. (file i, line i))

pub begun-before : (runs runs' : List Run) (next : ℕ) (run : Run) (bytes : List ℕ) (at : ℕ) → IsBegun runs runs' next run → at < run.start → place_in runs' bytes at ≡ place_in runs bytes at
begun-before runs runs' next run bytes at (inl e) h = rw e (place_in-before runs run bytes at h)
begun-before runs runs' next run bytes at (inr goes) h = rw goes.0 refl

pub begun-are : (runs runs' : List Run) (next : ℕ) (run : Run) (bytes : List ℕ) (stretches : ℕ) → AreRuns runs bytes stretches next → IsBegun runs runs' next run
    → run.start ≡ length bytes → run.file < stretches → run.line ≤ most → AreSorted runs' bytes stretches
begun-are runs runs' next run bytes stretches are (inl e) at file line = rw e (begun-sorted runs run bytes stretches next are at file line)
begun-are runs runs' next run bytes stretches are (inr goes) at file line = rw goes.0 (same-sorted runs bytes stretches next are goes.1)

-- what a push keeps
pub push-are : (runs runs' : List Run) (next : ℕ) (run : Run) (bytes : List ℕ) (stretches byte : ℕ) → AreRuns runs bytes stretches next → IsBegun runs runs' next run
    → run.start ≡ length bytes → run.file < stretches → run.line ≤ most → length bytes < most → AreRuns runs' (bytes ++ byte ∷ []) stretches (line_after byte run.line)
push-are runs runs' next run bytes stretches byte are begun at file line room =
    sorted-push runs' bytes stretches run.line byte (begun-are runs runs' next run bytes stretches are begun at file line) room are.some
    (ap (λ (p : ℕ × ℕ). p.1) (begun-place runs runs' next run bytes stretches are begun at))

-- and the places after it
pub push-places : (runs runs' : List Run) (next : ℕ) (run : Run) (bytes : List ℕ) (stretches byte : ℕ) → AreRuns runs bytes stretches next → IsBegun runs runs' next run
    → run.start ≡ length bytes
    → places_in runs' (bytes ++ byte ∷ []) (length (bytes ++ byte ∷ [])) ≡ places_in runs bytes (length bytes) ++ (run.file, run.line) ∷ []
push-places runs runs' next run bytes stretches byte are begun at =
    let before : places_in runs' (bytes ++ byte ∷ []) (length bytes) ≡ places_in runs bytes (length bytes) =
    places_in-same runs runs' bytes (bytes ++ byte ∷ []) (length bytes)
    (λ i h. place_in-more runs' bytes (byte ∷ []) i (omega arith) ∙ begun-before runs runs' next run bytes i begun (omega arith)) in
    let here : place_in runs' (bytes ++ byte ∷ []) (length bytes) ≡ (run.file, run.line) =
    place_in-more runs' bytes (byte ∷ []) (length bytes) (omega arith) ∙ begun-place runs runs' next run bytes stretches are begun at in
    let longer : length (bytes ++ byte ∷ []) ≡ suc (length bytes) = omega (arith, length_push bytes byte) in
    ap (places_in runs' (bytes ++ byte ∷ [])) longer ∙ (λ i. before i ++ here i ∷ [])

-- what a run that was begun keeps, before its first byte
pub begun-keeps : (runs runs' : List Run) (next : ℕ) (run : Run) (bytes : List ℕ) (stretches : ℕ) → AreRuns runs bytes stretches next → IsBegun runs runs' next run
    → run.start ≡ length bytes → run.file < stretches → run.line ≤ most → AreRuns runs' bytes stretches run.line
begun-keeps runs runs' next run bytes stretches are begun at file line =
    let sorted = begun-are runs runs' next run bytes stretches are begun at file line in
    record {
      size = are.size;
      some = are.some;
      ordered = sorted.ordered;
      within = sorted.within;
      filed = sorted.filed;
      lined = sorted.lined;
      first = λ _. sorted.first;
      leads = λ _. sym (ap (λ (p : ℕ × ℕ). p.1) (begun-place runs runs' next run bytes stretches are begun at));
    }

pub begun-places : (runs runs' : List Run) (next : ℕ) (run : Run) (bytes : List ℕ) → IsBegun runs runs' next run → run.start ≡ length bytes
    → places_in runs' bytes (length bytes) ≡ places_in runs bytes (length bytes)
begun-places runs runs' next run bytes begun at = places_in-same runs runs' bytes bytes (length bytes) (λ i h. begun-before runs runs' next run bytes i begun (omega arith))
