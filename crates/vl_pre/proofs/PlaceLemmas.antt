-- What one more byte changes in the places of a text: nothing before it, and its own place is the one that is told.
use Rattle.std.proofs.Common.{◌≡◌, ◌<◌, ◌≤◌, ◌+◌, ◌-◌, ◌⊎◌, inl, inr, ℕ, zero, suc, Bool, true, false, cond, List, [], ◌∷◌, ◌++◌, length, get_or, take, drop, refl, sym, ap, ◌∙◌, subst, arith, count_by, eqb, add-zero, add_assoc, length-drop, length-append}
use Rattle.std.proofs.lemmas.List.{length_push, get_or_push, take-append-le, drop-append-le, get_or_append_left, take_all}
use Rattle.std.proofs.lemmas.List.Sums.{sum_by-append}
use Rattle.std.proofs.lemmas.Bool.{le-leb, lt-leb, cases_lt}
use Rattle.std.specs.Prelude.{nat_le, slice_range, ◌==◌}
use Rattle.vl_pre.specs.declared.text.Run.{Run}
use Rattle.xt_base.specs.declared.refusals.Place.{Place}
use Rattle.vl_pre.specs.Text.{Expanded, place_of, line_after}
use Rattle.vl_pre.specs.Runs.{no_run, run_at, place_after, place_in, places_in}
use Rattle.vl_pre.proofs.RunLemmas.{run_at-push}

-- the bytes up to a place aren't changed by what follows them
pub range-more : (bytes more : List ℕ) (from to : ℕ) → to ≤ length bytes → slice_range (bytes ++ more) from to ≡ slice_range bytes from to
range-more bytes more from to h = go (cases_lt to from) where
  go : (to < from) ⊎ (from ≤ to) → slice_range (bytes ++ more) from to ≡ slice_range bytes from to
  go (inl l) = let none : to - from ≡ 0 = omega arith in rw none refl
  go (inr l) =
      let all : drop from (bytes ++ more) ≡ drop from bytes ++ more = drop-append-le from bytes more (omega arith) in
      rw all (take-append-le (to - from) (drop from bytes) more (omega (arith, length-drop from bytes)))

pub place_in-more : (runs : List Run) (bytes more : List ℕ) (at : ℕ) → at ≤ length bytes → place_in runs (bytes ++ more) at ≡ place_in runs bytes at
place_in-more runs bytes more at h = rw (range-more bytes more (run_at runs at no_run).start at h) refl

pub place_in-before : (runs : List Run) (run : Run) (bytes : List ℕ) (at : ℕ) → at < run.start → place_in (runs ++ run ∷ []) bytes at ≡ place_in runs bytes at
place_in-before runs run bytes at h =
    let same : run_at (runs ++ run ∷ []) at no_run ≡ run_at runs at no_run = rw (run_at-push runs run at no_run, lt-leb run.start at h) refl in
    ap (λ r. place_after r bytes at) same

pub run_at-begun : (runs : List Run) (run : Run) (at : ℕ) → run.start ≤ at → run_at (runs ++ run ∷ []) at no_run ≡ run
run_at-begun runs run at h = rw (run_at-push runs run at no_run, le-leb run.start at h) refl

pub place_in-begun : (runs : List Run) (run : Run) (bytes : List ℕ) (at : ℕ) → run.start ≡ at → place_in (runs ++ run ∷ []) bytes at ≡ (run.file, run.line)
place_in-begun runs run bytes at e =
    let begins : place_in (runs ++ run ∷ []) bytes at ≡ place_after run bytes at = ap (λ r. place_after r bytes at) (run_at-begun runs run at (omega arith)) in
    let none : at - run.start ≡ 0 = omega arith in
    begins ∙ rw (none, add-zero) refl

pub places_in-same : (runs runs' : List Run) (bytes bytes' : List ℕ) (n : ℕ) → ((i : ℕ) → i < n → place_in runs' bytes' i ≡ place_in runs bytes i) → places_in runs' bytes' n ≡ places_in runs bytes n
places_in-same runs runs' bytes bytes' zero same = refl
places_in-same runs runs' bytes bytes' (suc n) same =
    rw (places_in-same runs runs' bytes bytes' n (λ i h. same i (omega arith)), same n (omega arith)) refl

pub length-places_in : (runs : List Run) (bytes : List ℕ) (n : ℕ) → length (places_in runs bytes n) ≡ n
length-places_in runs bytes zero = refl
length-places_in runs bytes (suc n) = rw length_push (omega (arith, length-places_in runs bytes n))

pub get_or-places_in : (runs : List Run) (bytes : List ℕ) (n i : ℕ) (d : ℕ × ℕ) → i < n → get_or (places_in runs bytes n) i d ≡ place_in runs bytes i
get_or-places_in runs bytes zero i d h = absurd (omega arith)
get_or-places_in runs bytes (suc n) i d h = go (cases_lt i n) (get_or-places_in runs bytes n i d) where
  go : (i < n) ⊎ (n ≤ i) → (i < n → get_or (places_in runs bytes n) i d ≡ place_in runs bytes i) → get_or (places_in runs bytes (suc n)) i d ≡ place_in runs bytes i
  go (inl l) rec = get_or_append_left (places_in runs bytes n) (place_in runs bytes n ∷ []) d i (omega (arith, length-places_in runs bytes n)) ∙ rec l
  go (inr l) rec =
      let last : n ≡ i = omega arith in
      subst (λ k. get_or (places_in runs bytes (suc n)) k d ≡ place_in runs bytes k) last (get_or_push (places_in runs bytes n) (place_in runs bytes n) d n (length-places_in runs bytes n))

-- the place of a byte is that to which its run leads
pub place-is : (runs : List Run) (bytes : List ℕ) (names : List (List ℕ)) (text : Expanded) (at : ℕ) (run : Run) (feeds : ℕ)
    → record { bytes = bytes; places = places_in runs bytes (length bytes); names = names } ≡ text
    → at < length bytes → run ≡ run_at runs at no_run → feeds ≡ count_by (λ b. b == 10) (slice_range bytes run.start at)
    → let p : Place = record { file = run.file; line = run.line + feeds; instance = 0 } in p ≡ place_of text at
place-is runs bytes names text at run feeds view inside is fed =
    let reads : get_or (places_in runs bytes (length bytes)) at (0, 0) ≡ place_in runs bytes at = get_or-places_in runs bytes (length bytes) at (0, 0) inside in
    let leads : place_in runs bytes at ≡ (run.file, run.line + feeds) = rw (← is, fed) refl in
    let whole : get_or text.places at (0, 0) ≡ (run.file, run.line + feeds) = ap (λ t. get_or t.places at (0, 0)) (sym view) ∙ reads ∙ leads in
    sym (ap (λ (q : ℕ × ℕ). let p : Place = record { file = q.0; line = q.1; instance = 0 } in p) whole)

-- the run of a place past all beginnings is the last one
pub run_at-last : (runs : List Run) (at : ℕ) (last : Run) → ((i : ℕ) → i < length runs → (get_or runs i no_run).start ≤ at) → 0 < length runs → run_at runs at last ≡ get_or runs (length runs - 1) no_run
run_at-last [] at last within some = absurd (omega arith)
run_at-last (r ∷ []) at last within some = rw (le-leb r.start at (within 0 (omega arith))) refl
run_at-last (r ∷ q ∷ rs) at last within some =
    let here : nat_le r.start at ≡ true = le-leb r.start at (within 0 (omega arith)) in
    let back : length (r ∷ q ∷ rs) - 1 ≡ suc (length (q ∷ rs) - 1) = omega arith in
    rw (here, back) (run_at-last (q ∷ rs) at r (λ i h. within (suc i) (omega arith)) (omega arith))

-- a byte's end is on its own line, or a line feed's on the next
pub range-byte : (bytes : List ℕ) (byte from : ℕ) → from ≤ length bytes → slice_range (bytes ++ byte ∷ []) from (length bytes + 1) ≡ slice_range bytes from (length bytes) ++ byte ∷ []
range-byte bytes byte from h =
    let cut : drop from (bytes ++ byte ∷ []) ≡ drop from bytes ++ byte ∷ [] = drop-append-le from bytes (byte ∷ []) h in
    let whole : take (length bytes + 1 - from) (drop from bytes ++ byte ∷ []) ≡ drop from bytes ++ byte ∷ [] =
    take_all (length bytes + 1 - from) (drop from bytes ++ byte ∷ []) (omega (arith, length-append (drop from bytes) (byte ∷ []), length-drop from bytes)) in
    let before : take (length bytes - from) (drop from bytes) ≡ drop from bytes = take_all (length bytes - from) (drop from bytes) (omega (arith, length-drop from bytes)) in
    ap (take (length bytes + 1 - from)) cut ∙ whole ∙ ap (λ l. l ++ byte ∷ []) (sym before)

pub line-after : (byte line : ℕ) → line + count_by (λ b. b == 10) (byte ∷ []) ≡ line_after byte line
line-after byte line = go (eqb byte 10) where
  go : (b : Bool) → line + (0 + cond b 1 0) ≡ cond b (line + 1) line
  go true = omega arith
  go false = omega arith

pub place_after-byte : (run : Run) (bytes : List ℕ) (byte : ℕ) → run.start ≤ length bytes → (place_after run (bytes ++ byte ∷ []) (length bytes + 1)).1 ≡ line_after byte (place_after run bytes (length bytes)).1
place_after-byte run bytes byte h =
    let split = sum_by-append (λ b. cond (b == 10) 1 0) (slice_range bytes run.start (length bytes)) (byte ∷ []) in
    ap (λ l. run.line + count_by (λ b. b == 10) l) (range-byte bytes byte run.start h)
    ∙ ap (λ n. run.line + n) split
    ∙ sym (add_assoc run.line _ _)
    ∙ line-after byte (run.line + count_by (λ b. b == 10) (slice_range bytes run.start (length bytes)))
