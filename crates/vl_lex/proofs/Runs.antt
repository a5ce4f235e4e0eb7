-- The longest fronts of a text, over lists alone.
use Rattle.std.proofs.Common.{◌≡◌, ℕ, suc, ⊎_elim, ◌+◌, ◌<◌, ◌≤◌, List, [], ◌∷◌, ◌++◌, Bool, true, false, cond, length, take, drop, sym, refl, ap, ◌∙◌, subst, arith, length-append, length-take-le, take-append-drop}
use Rattle.std.specs.List.{AllPass, prefix_len}
use Rattle.std.proofs.lemmas.List.{take_at}
use Rattle.std.proofs.lemmas.List.Folds.{length-prefix_len}
use Rattle.std.proofs.lemmas.List.Elements.{All-nil, All-cons, All-head, All-tail}
use Rattle.std.proofs.str.Laws.{order}
use Rattle.vl_lex.specs.Fronts.{IsLongestFront, HasNoFront}
use Rattle.vl_lex.specs.Spelling.{IsRun}

-- a front is the longest where each front of the form is no longer
pub longest_from : {Has : List ℕ → Type 0} (bytes after : List ℕ) → Has bytes → ((others beyond : List ℕ) → bytes ++ after ≡ others ++ beyond → Has others → length others ≤ length bytes) → IsLongestFront Has (bytes ++ after) (length bytes)
longest_from {Has} bytes after has no_longer = record {
  within = omega (arith, length-append bytes after);
  holds = subst Has (sym (take_at bytes after (length bytes) refl)) has;
  longest = λ n above inside also.
      let short : length (take n (bytes ++ after)) ≤ length bytes = no_longer _ (drop n (bytes ++ after)) (sym (take-append-drop n (bytes ++ after))) also in
      omega (arith, short, length-take-le n (bytes ++ after) inside);
}

-- no front has the form where nothing that the text begins with has it
pub none_from : {Has : List ℕ → Type 0} (rest : List ℕ) → ((others beyond : List ℕ) → rest ≡ others ++ beyond → Has others → ⊥) → HasNoFront Has rest
none_from rest never = record { none = λ n inside has. never _ (drop n rest) (sym (take-append-drop n rest)) has }

-- the bytes that pass, from the front on, all pass
pub passes_front : (p : ℕ → Bool) (xs : List ℕ) → AllPass p (take (prefix_len p xs) xs)
passes_front p [] = All-nil _
passes_front p (x ∷ xs) = go (p x) refl (passes_front p xs) where
  go : (b : Bool) → p x ≡ b → AllPass p (take (prefix_len p xs) xs) → AllPass p (take (cond b (1 + prefix_len p xs) 0) (x ∷ xs))
  go true passes rest =
      let more : 1 + prefix_len p xs ≡ suc (prefix_len p xs) = omega arith in
      rw more (All-cons (λ b. p b ≡ true) x _ passes rest)
  go false fails rest = All-nil _

-- bytes that pass and begin a text are no more than those
pub no_longer_run : (p : ℕ → Bool) (others beyond : List ℕ) → AllPass p others → length others ≤ prefix_len p (others ++ beyond)
no_longer_run p [] beyond pass = omega arith
no_longer_run p (x ∷ others) beyond pass =
    let more = no_longer_run p others beyond (All-tail (λ b. p b ≡ true) x others pass) in
    let passes : p x ≡ true = All-head (λ b. p b ≡ true) x others pass in
    rw passes (omega (arith, more))

-- a first byte that passes, and the bytes behind it that pass, are the longest run
pub run_longest : (first p : ℕ → Bool) (rest : List ℕ) (b : ℕ) (bytes : List ℕ) (n : ℕ) → rest ≡ b ∷ bytes → first b ≡ true → n ≡ prefix_len p bytes → IsLongestFront (IsRun first p) rest (1 + n)
run_longest first p rest b bytes n whole begins counted =
    let run = take (prefix_len p bytes) bytes in
    let len : length run ≡ prefix_len p bytes = length-prefix_len p bytes in
    let split : rest ≡ (b ∷ run) ++ drop (prefix_len p bytes) bytes = whole ∙ ap (λ l. b ∷ l) (sym (take-append-drop (prefix_len p bytes) bytes)) in
    let size : length (b ∷ run) ≡ 1 + n = omega (arith, len, counted) in
    subst (λ l. IsLongestFront (IsRun first p) l (1 + n)) (sym split)
    (subst (λ k. IsLongestFront (IsRun first p) ((b ∷ run) ++ drop (prefix_len p bytes) bytes) k) size
    (longest_from (b ∷ run) (drop (prefix_len p bytes) bytes) (begins, passes_front p bytes)
    (λ others beyond same has. no_longer others beyond (sym whole ∙ split ∙ same) has len))) where
      no_longer : (others beyond : List ℕ) → b ∷ bytes ≡ others ++ beyond → IsRun first p others → length (take (prefix_len p bytes) bytes) ≡ prefix_len p bytes → length others ≤ suc (length (take (prefix_len p bytes) bytes))
      no_longer [] beyond same has len = omega arith
      no_longer (x ∷ others) beyond same has len =
          let tail : bytes ≡ others ++ beyond = cc in
          let short : length others ≤ prefix_len p bytes = rw tail (no_longer_run p others beyond has.1) in
          omega (arith, short, len)

-- no run begins with a byte that doesn't pass
pub no_run : (first p : ℕ → Bool) (rest : List ℕ) (b : ℕ) (bytes : List ℕ) → rest ≡ b ∷ bytes → first b ≡ false → HasNoFront (IsRun first p) rest
no_run first p rest b bytes whole fails = none_from rest (λ others beyond same has. never others beyond (sym whole ∙ same) has) where
  never : (others beyond : List ℕ) → b ∷ bytes ≡ others ++ beyond → IsRun first p others → ⊥
  never [] beyond same has = has
  never (x ∷ others) beyond same has =
      let head : b ≡ x = cc in
      let passes : first b ≡ true = rw head has.0 in
      cc

-- what has the form and begins the text is no longer than the longest
pub front_le : {Has : List ℕ → Type 0} {rest : List ℕ} {len : ℕ} (front : IsLongestFront Has rest len) (others beyond : List ℕ) → rest ≡ others ++ beyond → Has others → length others ≤ len
front_le {Has} {rest} {len} front others beyond whole has = ⊎_elim (λ above. absurd (front.longest (length others) above inside also)) (λ short. short) (order len (length others)) where
  inside : length others ≤ length rest
  inside = omega (arith, ap length whole, length-append others beyond)

  also : Has (take (length others) rest)
  also = rw whole (subst Has (sym (take_at others beyond (length others) refl)) has)

-- where no front has the form, nothing that begins the text has it
pub front_none : {Has : List ℕ → Type 0} {rest : List ℕ} (front : HasNoFront Has rest) (others beyond : List ℕ) → rest ≡ others ++ beyond → Has others → ⊥
front_none {Has} {rest} front others beyond whole has = front.none (length others) inside also where
  inside : length others ≤ length rest
  inside = omega (arith, ap length whole, length-append others beyond)

  also : Has (take (length others) rest)
  also = rw whole (subst Has (sym (take_at others beyond (length others) refl)) has)

-- bytes that pass, and then one that doesn't: the run ends there
pub run_ends : (p : ℕ → Bool) (others : List ℕ) (c : ℕ) (beyond : List ℕ) → AllPass p others → p c ≡ false → prefix_len p (others ++ c ∷ beyond) ≡ length others
run_ends p [] c beyond pass fails = rw fails refl
run_ends p (x ∷ others) c beyond pass fails =
    let more = run_ends p others c beyond (All-tail (λ b. p b ≡ true) x others pass) fails in
    let passes : p x ≡ true = All-head (λ b. p b ≡ true) x others pass in
    rw passes (omega (arith, more))

-- a run by one test alone
pub run_from_all : (p : ℕ → Bool) (bytes : List ℕ) → AllPass p bytes → 0 < length bytes → IsRun p p bytes
run_from_all p [] pass some = absurd (omega arith)
run_from_all p (x ∷ bytes) pass some = (All-head (λ b. p b ≡ true) x bytes pass, All-tail (λ b. p b ≡ true) x bytes pass)

pub all_from_run : (p : ℕ → Bool) (bytes : List ℕ) → IsRun p p bytes → AllPass p bytes
all_from_run p [] run = absurd run
all_from_run p (x ∷ bytes) run = All-cons (λ b. p b ≡ true) x bytes run.0 run.1

pub some_from_run : (first p : ℕ → Bool) (bytes : List ℕ) → IsRun first p bytes → 0 < length bytes
some_from_run first p [] run = absurd run
some_from_run first p (x ∷ bytes) run = omega arith
