-- Strings and names of system functions at the front of a text.
use Rattle.std.proofs.Common.{◌≡◌, ◌≢◌, ℕ, suc, ◌+◌, ◌<◌, ◌≤◌, List, [], ◌∷◌, ◌++◌, length, get_or, take, drop, sym, refl, ap, ◌∙◌, subst, arith, append_assoc, length-append, length-take-le, take-append-drop}
use Rattle.std.specs.List.{AllPass, prefix_len}
use Rattle.std.proofs.lemmas.List.{get_or_at, drop_more}
use Rattle.std.proofs.lemmas.List.Folds.{length-prefix_len}
use Rattle.xt_base.specs.Identifiers.{is_in_word}
use Rattle.vl_lex.specs.Bytes.{is_in_string}
use Rattle.vl_lex.specs.Fronts.{IsLongestFront, HasNoFront}
use Rattle.vl_lex.specs.Spelling.{IsRun, IsSystem, IsQuoted}
use Rattle.vl_lex.proofs.Runs.{longest_from, none_from, passes_front, no_longer_run, run_ends, run_from_all, all_from_run, some_from_run}

-- `$` and the bytes of a word behind it
pub system_longest : (rest : List ℕ) (b : ℕ) (bytes : List ℕ) (n : ℕ) → rest ≡ b ∷ bytes → b ≡ 36 → n ≡ prefix_len is_in_word bytes → n ≢ 0 → IsLongestFront IsSystem rest (1 + n)
system_longest rest b bytes n whole dollar counted some =
    let m = prefix_len is_in_word bytes in
    let run = take m bytes in
    let len : length run ≡ m = length-prefix_len is_in_word bytes in
    let split : rest ≡ (b ∷ run) ++ drop m bytes = whole ∙ ap (λ l. b ∷ l) (sym (take-append-drop m bytes)) in
    let size : length (b ∷ run) ≡ 1 + n = omega (arith, len, counted) in
    let spelled : IsRun is_in_word is_in_word run = run_from_all is_in_word run (passes_front is_in_word bytes) (omega (arith, len, counted, some)) in
    subst (λ l. IsLongestFront IsSystem l (1 + n)) (sym split)
    (subst (λ k. IsLongestFront IsSystem ((b ∷ run) ++ drop m bytes) k) size
    (longest_from (b ∷ run) (drop m bytes) (dollar, spelled) (λ others beyond same has. no_longer others beyond (sym whole ∙ split ∙ same) has len))) where
      no_longer : (others beyond : List ℕ) → b ∷ bytes ≡ others ++ beyond → IsSystem others → length (take (prefix_len is_in_word bytes) bytes) ≡ prefix_len is_in_word bytes → length others ≤ suc (length (take (prefix_len is_in_word bytes) bytes))
      no_longer [] beyond same has len = absurd has
      no_longer (x ∷ others) beyond same has len =
          let tail : bytes ≡ others ++ beyond = cc in
          let short : length others ≤ prefix_len is_in_word bytes = rw tail (no_longer_run is_in_word others beyond (all_from_run is_in_word others has.1)) in
          omega (arith, short, len)

-- a `$` alone
pub no_system : (rest : List ℕ) (b : ℕ) (bytes : List ℕ) (n : ℕ) → rest ≡ b ∷ bytes → n ≡ prefix_len is_in_word bytes → n ≡ 0 → HasNoFront IsSystem rest
no_system rest b bytes n whole counted none = none_from rest (λ others beyond same has. never others beyond (sym whole ∙ same) has) where
  never : (others beyond : List ℕ) → b ∷ bytes ≡ others ++ beyond → IsSystem others → ⊥
  never [] beyond same has = has
  never (x ∷ others) beyond same has =
      let tail : bytes ≡ others ++ beyond = cc in
      let short : length others ≤ prefix_len is_in_word bytes = rw tail (no_longer_run is_in_word others beyond (all_from_run is_in_word others has.1)) in
      omega (arith, short, some_from_run is_in_word is_in_word others has.1)

-- what a string at the front of a text tells: where its inner bytes end, and that a quote stands there
pub record QuotedRead (b : ℕ) (bytes others : List ℕ) : Type 0 where
  pub opens : b ≡ 34
  pub within : prefix_len is_in_string bytes < length bytes
  pub closes : get_or bytes (prefix_len is_in_string bytes) 0 ≡ 34
  pub size : length others ≡ prefix_len is_in_string bytes + 2

pub quoted_read : (b : ℕ) (bytes others beyond : List ℕ) → b ∷ bytes ≡ others ++ beyond → IsQuoted others → QuotedRead b bytes others
quoted_read b bytes others beyond same has =
    let front : b ∷ bytes ≡ 34 ∷ (has.inner ++ (34 ∷ beyond)) = same ∙ ap (λ l. l ++ beyond) has.whole ∙ ap (λ l. 34 ∷ l) (append_assoc has.inner (34 ∷ []) beyond) in
    let tail : bytes ≡ has.inner ++ 34 ∷ beyond = cc in
    let ends : prefix_len is_in_string bytes ≡ length has.inner = ap (prefix_len is_in_string) tail ∙ run_ends is_in_string has.inner 34 beyond has.on_line refl in
    let size : length bytes ≡ length has.inner + suc (length beyond) = ap length tail ∙ length-append has.inner (34 ∷ beyond) in
    let whole : length others ≡ suc (length has.inner + 1) = ap length has.whole ∙ ap suc (length-append has.inner (34 ∷ [])) in
    record {
      opens = cc;
      within = omega (arith, ends, size);
      closes = ap (λ l. get_or l (prefix_len is_in_string bytes) 0) tail ∙ get_or_at has.inner 34 beyond 0 (prefix_len is_in_string bytes) (sym ends);
      size = omega (arith, ends, whole);
    }

-- a quote, the bytes of a line, a quote
pub quoted_longest : (rest : List ℕ) (b : ℕ) (bytes : List ℕ) (n : ℕ) → rest ≡ b ∷ bytes → b ≡ 34 → n ≡ prefix_len is_in_string bytes → n < length bytes → get_or bytes n 0 ≡ 34 → IsLongestFront IsQuoted rest (n + 2)
quoted_longest rest b bytes n whole opens counted inside closes =
    let inner = take n bytes in
    let front : List ℕ = 34 ∷ (inner ++ 34 ∷ []) in
    let after = drop (n + 1) bytes in
    let behind : drop n bytes ≡ 34 ∷ after = drop_more bytes n 0 inside ∙ ap (λ c. c ∷ after) closes in
    let tail : bytes ≡ (inner ++ 34 ∷ []) ++ after = sym (take-append-drop n bytes) ∙ ap (λ l. inner ++ l) behind ∙ sym (append_assoc inner (34 ∷ []) after) in
    let split : rest ≡ front ++ after = whole ∙ ap (λ c. c ∷ bytes) opens ∙ ap (λ l. 34 ∷ l) tail in
    let len : length front ≡ n + 2 = omega (arith, length-append inner (34 ∷ []), length-take-le n bytes (omega (arith, inside))) in
    let passes : AllPass is_in_string inner = subst (λ k. AllPass is_in_string (take k bytes)) (sym counted) (passes_front is_in_string bytes) in
    subst (λ l. IsLongestFront IsQuoted l (n + 2)) (sym split)
    (subst (λ k. IsLongestFront IsQuoted (front ++ after) k) len
    (longest_from front after (record { inner = inner; on_line = passes; whole = refl })
    (λ others beyond same has. let read = quoted_read b bytes others beyond (sym whole ∙ split ∙ same) has in omega (arith, read.size, len, counted))))

-- no quote ends the line's bytes
pub no_quoted : (rest : List ℕ) (b : ℕ) (bytes : List ℕ) (n : ℕ) → rest ≡ b ∷ bytes → n ≡ prefix_len is_in_string bytes → (n < length bytes → get_or bytes n 0 ≡ 34 → ⊥) → HasNoFront IsQuoted rest
no_quoted rest b bytes n whole counted open_end = none_from rest (λ others beyond same has.
    let read = quoted_read b bytes others beyond (sym whole ∙ same) has in
    open_end (omega (arith, read.within, counted)) (ap (λ k. get_or bytes k 0) counted ∙ read.closes))
