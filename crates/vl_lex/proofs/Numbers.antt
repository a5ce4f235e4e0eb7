-- Numbers with a base at the front of a text.
use Rattle.std.proofs.Common.{◌≡◌, ◌≢◌, ℕ, suc, ◌+◌, ◌≤◌, List, [], ◌∷◌, ◌++◌, Bool, true, false, cond, Some, None, length, take, drop, sym, refl, ap, ◌∙◌, subst, arith, append_assoc, length-append, length-take-le, take-append-drop}
use Rattle.std.specs.Char.{is_digit}
use Rattle.std.specs.List.{AllPass, prefix_len}
use Rattle.std.proofs.lemmas.List.{drop_at}
use Rattle.std.proofs.lemmas.List.Sums.{prefix_len-le-length}
use Rattle.std.proofs.lemmas.Bool.Decides.{nat_tests}
use Rattle.vl_lex.specs.Bytes.{is_blank, is_sign, radix_of}
use Rattle.vl_lex.specs.Fronts.{IsLongestFront, HasNoFront}
use Rattle.vl_lex.specs.Spelling.{AreDigits, IsSign, IsBaseWithDigits, IsBased}
use Rattle.vl_lex.proofs.Runs.{longest_from, none_from, front_le, front_none, passes_front, run_ends}

-- no digit is a blank
pub digit_no_blank : (radix b : ℕ) → radix ≤ 36 → is_digit b radix ≡ true → is_blank b ≡ false
digit_no_blank radix b small digit = grind (arith, nat_tests)

-- no base is a sign
base_no_sign : (b radix : ℕ) → radix_of b ≡ Some radix → is_sign b ≡ false
base_no_sign b radix base = grind (arith, nat_tests)

-- a base's radix is small
radix_small : (b radix : ℕ) → radix_of b ≡ Some radix → radix ≤ 36
radix_small b radix base = grind (arith, nat_tests)

-- what a base with its digits at the front of a text tells
pub record NumberRead (b : ℕ) (bytes others beyond : List ℕ) (digits : List ℕ) (radix : ℕ) : Type 0 where
  pub base : radix_of b ≡ Some radix
  pub are : AreDigits radix digits
  pub behind : drop (prefix_len is_blank bytes) bytes ≡ digits ++ beyond
  pub size : length others ≡ 1 + prefix_len is_blank bytes + length digits

pub number_read : (b : ℕ) (bytes others beyond : List ℕ) → b ∷ bytes ≡ others ++ beyond → (has : IsBaseWithDigits others) → NumberRead b bytes others beyond has.digits has.radix
number_read b bytes others beyond same has =
    let front : b ∷ bytes ≡ has.base ∷ (has.blanks ++ (has.digits ++ beyond)) = same ∙ ap (λ l. l ++ beyond) has.whole ∙ ap (λ l. has.base ∷ l) (append_assoc has.blanks has.digits beyond) in
    let tail : bytes ≡ has.blanks ++ (has.digits ++ beyond) = cc in
    let head : b ≡ has.base = cc in
    let ends : prefix_len is_blank bytes ≡ length has.blanks = ap (prefix_len is_blank) tail ∙ blanks_end has.digits has.are_digits in
    let whole : length others ≡ suc (length has.blanks + length has.digits) = ap length has.whole ∙ ap suc (length-append has.blanks has.digits) in
    record {
      base = ap radix_of head ∙ has.is_base;
      are = has.are_digits;
      behind = ap (drop (prefix_len is_blank bytes)) tail ∙ drop_at has.blanks (has.digits ++ beyond) (prefix_len is_blank bytes) (sym ends);
      size = omega (arith, ends, whole);
    } where
      blanks_end : (digits : List ℕ) → AreDigits has.radix digits → prefix_len is_blank (has.blanks ++ (digits ++ beyond)) ≡ length has.blanks
      blanks_end [] are = absurd are
      blanks_end (d ∷ digits) are = run_ends is_blank has.blanks d (digits ++ beyond) has.are_blanks (digit_no_blank has.radix d (radix_small has.base has.radix has.is_base) are.0)

-- a base, the blanks behind it, the longest digits behind these
pub number_longest : (rest : List ℕ) (b : ℕ) (bytes : List ℕ) (radix n len : ℕ) → rest ≡ b ∷ bytes → radix_of b ≡ Some radix → n ≡ prefix_len is_blank bytes → IsLongestFront (AreDigits radix) (drop n bytes) len → IsLongestFront IsBaseWithDigits rest (1 + n + len)
number_longest rest b bytes radix n len whole base counted digits =
    let blanks = take n bytes in
    let number = take len (drop n bytes) in
    let after = drop len (drop n bytes) in
    let front : List ℕ = b ∷ (blanks ++ number) in
    let tail : bytes ≡ (blanks ++ number) ++ after = sym (take-append-drop n bytes) ∙ ap (λ l. blanks ++ l) (sym (take-append-drop len (drop n bytes))) ∙ sym (append_assoc blanks number after) in
    let split : rest ≡ front ++ after = whole ∙ ap (λ l. b ∷ l) tail in
    let inside : n ≤ length bytes = omega (arith, counted, prefix_len-le-length is_blank bytes) in
    let size : length front ≡ 1 + n + len = omega (arith, length-append blanks number, length-take-le n bytes inside, length-take-le len (drop n bytes) digits.within) in
    let passes : AllPass is_blank blanks = subst (λ k. AllPass is_blank (take k bytes)) (sym counted) (passes_front is_blank bytes) in
    subst (λ l. IsLongestFront IsBaseWithDigits l (1 + n + len)) (sym split)
    (subst (λ k. IsLongestFront IsBaseWithDigits (front ++ after) k) size
    (longest_from front after (record { base = b; radix = radix; blanks = blanks; digits = number; is_base = base; are_blanks = passes; are_digits = digits.holds; whole = refl })
    (λ others beyond same has. no_longer others beyond (sym whole ∙ split ∙ same) has size))) where
      no_longer : (others beyond : List ℕ) → b ∷ bytes ≡ others ++ beyond → IsBaseWithDigits others → {size : ℕ} → size ≡ 1 + n + len → length others ≤ size
      no_longer others beyond same has {size} is =
          let read = number_read b bytes others beyond same has in
          let radix_is : has.radix ≡ radix = cc in
          let behind : drop n bytes ≡ has.digits ++ beyond = ap (λ k. drop k bytes) counted ∙ read.behind in
          let short : length has.digits ≤ len = front_le digits has.digits beyond behind (subst (λ r. AreDigits r has.digits) radix_is has.are_digits) in
          omega (arith, read.size, short, counted, is)

-- no base
pub no_base : (rest : List ℕ) (b : ℕ) (bytes : List ℕ) → rest ≡ b ∷ bytes → radix_of b ≡ None → HasNoFront IsBaseWithDigits rest
no_base rest b bytes whole none = none_from rest (λ others beyond same has. let read = number_read b bytes others beyond (sym whole ∙ same) has in let base = read.base in cc)

-- a base, and no digits behind the blanks
pub no_digits : (rest : List ℕ) (b : ℕ) (bytes : List ℕ) (radix n : ℕ) → rest ≡ b ∷ bytes → radix_of b ≡ Some radix → n ≡ prefix_len is_blank bytes → HasNoFront (AreDigits radix) (drop n bytes) → HasNoFront IsBaseWithDigits rest
no_digits rest b bytes radix n whole base counted none = none_from rest (λ others beyond same has.
    let read = number_read b bytes others beyond (sym whole ∙ same) has in
    let also : radix_of b ≡ Some has.radix = read.base in
    let radix_is : has.radix ≡ radix = cc in
    front_none none has.digits beyond (ap (λ k. drop k bytes) counted ∙ read.behind) (subst (λ r. AreDigits r has.digits) radix_is has.are_digits))

-- what a based number at the front of a text tells
pub record BasedRead (b : ℕ) (bytes others beyond number : List ℕ) : Type 0 where
  pub quote : b ≡ 39
  pub behind : drop (prefix_len is_sign (take 1 bytes)) bytes ≡ number ++ beyond
  pub size : length others ≡ 1 + prefix_len is_sign (take 1 bytes) + length number

pub based_read : (b : ℕ) (bytes others beyond : List ℕ) → b ∷ bytes ≡ others ++ beyond → (has : IsBased others) → BasedRead b bytes others beyond has.number
based_read b bytes others beyond same has =
    let number = has.is_number in
    let front : b ∷ bytes ≡ 39 ∷ (has.sign ++ (has.number ++ beyond)) = same ∙ ap (λ l. l ++ beyond) has.whole ∙ ap (λ l. 39 ∷ l) (append_assoc has.sign has.number beyond) in
    let tail : bytes ≡ has.sign ++ (has.number ++ beyond) = cc in
    let ends : prefix_len is_sign (take 1 (has.sign ++ (has.number ++ beyond))) ≡ length has.sign = sign_ends has.sign has.is_sign number.base (number.blanks ++ number.digits) has.number number.whole (base_no_sign number.base number.radix number.is_base) in
    let same_end : prefix_len is_sign (take 1 bytes) ≡ length has.sign = ap (λ l. prefix_len is_sign (take 1 l)) tail ∙ ends in
    let whole : length others ≡ suc (length has.sign + length has.number) = ap length has.whole ∙ ap suc (length-append has.sign has.number) in
    record {
      quote = cc;
      behind = ap (drop (prefix_len is_sign (take 1 bytes))) tail ∙ drop_at has.sign (has.number ++ beyond) (prefix_len is_sign (take 1 bytes)) (sym same_end);
      size = omega (arith, same_end, whole);
    } where
      sign_ends : (sign : List ℕ) → IsSign sign → (base : ℕ) (more number : List ℕ) → number ≡ base ∷ more → is_sign base ≡ false → prefix_len is_sign (take 1 (sign ++ (number ++ beyond))) ≡ length sign
      sign_ends [] signs base more number whole no_sign = rw (whole, no_sign) refl
      sign_ends (s ∷ []) signs base more number whole no_sign = rw signs refl
      sign_ends (s ∷ t ∷ sign) signs base more number whole no_sign = absurd signs

-- a sign or none, as it is counted
sign_front : (bytes : List ℕ) → IsSign (take (prefix_len is_sign (take 1 bytes)) bytes)
sign_front [] = tt
sign_front (s ∷ bytes) = go (is_sign s) refl where
  go : (b : Bool) → is_sign s ≡ b → IsSign (take (cond b (1 + 0) 0) (s ∷ bytes))
  go true signs = signs
  go false signs = tt

-- a quote, a sign or none, the longest number behind it
pub based_longest : (rest : List ℕ) (b : ℕ) (bytes : List ℕ) (n len : ℕ) → rest ≡ b ∷ bytes → b ≡ 39 → n ≡ prefix_len is_sign (take 1 bytes) → n ≤ length bytes → IsLongestFront IsBaseWithDigits (drop n bytes) len → IsLongestFront IsBased rest (1 + n + len)
based_longest rest b bytes n len whole quote counted inside found =
    let sign = take n bytes in
    let number = take len (drop n bytes) in
    let after = drop len (drop n bytes) in
    let front : List ℕ = 39 ∷ (sign ++ number) in
    let tail : bytes ≡ (sign ++ number) ++ after = sym (take-append-drop n bytes) ∙ ap (λ l. sign ++ l) (sym (take-append-drop len (drop n bytes))) ∙ sym (append_assoc sign number after) in
    let split : rest ≡ front ++ after = whole ∙ ap (λ c. c ∷ bytes) quote ∙ ap (λ l. 39 ∷ l) tail in
    let size : length front ≡ 1 + n + len = omega (arith, length-append sign number, length-take-le n bytes inside, length-take-le len (drop n bytes) found.within) in
    let signs : IsSign sign = subst (λ k. IsSign (take k bytes)) (sym counted) (sign_front bytes) in
    subst (λ l. IsLongestFront IsBased l (1 + n + len)) (sym split)
    (subst (λ k. IsLongestFront IsBased (front ++ after) k) size
    (longest_from front after (record { sign = sign; number = number; is_sign = signs; is_number = found.holds; whole = refl })
    (λ others beyond same has. no_longer others beyond (sym whole ∙ split ∙ same) has size))) where
      no_longer : (others beyond : List ℕ) → b ∷ bytes ≡ others ++ beyond → IsBased others → {size : ℕ} → size ≡ 1 + n + len → length others ≤ size
      no_longer others beyond same has {size} is =
          let read = based_read b bytes others beyond same has in
          let short : length has.number ≤ len = front_le found has.number beyond (ap (λ k. drop k bytes) counted ∙ read.behind) has.is_number in
          omega (arith, read.size, short, counted, is)

-- no quote
pub no_quote : (rest : List ℕ) (b : ℕ) (bytes : List ℕ) → rest ≡ b ∷ bytes → b ≢ 39 → HasNoFront IsBased rest
no_quote rest b bytes whole other = none_from rest (λ others beyond same has. other (based_read b bytes others beyond (sym whole ∙ same) has).quote)

-- a quote, and no number behind the sign
pub no_number : (rest : List ℕ) (b : ℕ) (bytes : List ℕ) (n : ℕ) → rest ≡ b ∷ bytes → n ≡ prefix_len is_sign (take 1 bytes) → HasNoFront IsBaseWithDigits (drop n bytes) → HasNoFront IsBased rest
no_number rest b bytes n whole counted none = none_from rest (λ others beyond same has.
    let read = based_read b bytes others beyond (sym whole ∙ same) has in
    front_none none has.number beyond (ap (λ k. drop k bytes) counted ∙ read.behind) has.is_number)
