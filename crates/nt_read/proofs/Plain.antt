-- No line has a line feed in it.
use Rattle.std.proofs.Common.{◌≡◌, ℕ, zero, suc, ◌+◌, ◌-◌, ◌/◌, ◌%◌, ◌^◌, ◌<◌, ◌==◌, Bool, true, false, not, List, [], ◌∷◌, ◌++◌, flat_map, fold, cond, nat_lt, refl, ap, ◌∙◌, arith, append_assoc, codes, decimal, All}
use Rattle.std.specs.List.{list_all, AllByRecursion}
use Rattle.std.specs.Fmt.{digit_glyph}
use Rattle.std.proofs.lemmas.Bool.Decides.{nat_tests}
use Rattle.std.proofs.lemmas.List.Folds.{list_all-append}
use Rattle.std.proofs.lemmas.List.Elements.{All-from_recursion}
use Rattle.std.proofs.lemmas.List.Splits.{slice_split_at}
use Rattle.xt_bits.specs.Word as bits
use Rattle.xt_base.specs.Identifiers.{is_in_word}
use Rattle.nt_core.specs.Text.{range_text, hex_digits, hex_text, constant_text, signed_constant_text, node_name, register_name, memory_name, host_name, ack_name, ret_name, arg_name, infix_text, signed_text, width_texts}
use Rattle.nt_read.specs.Words.{is_digit}
use Rattle.nt_read.specs.Sketch.{lines_in}
use Rattle.nt_read.proofs.Numbers.{both, and_is, decimal_reads}

-- no line feed
abbrev pub inside : ℕ → Bool
inside c = not (c == 10)

pub record Plain (text : List ℕ) : Type 0 where
  pub all : list_all inside text ≡ true

pub piece : {text : List ℕ} → list_all inside text ≡ true → Plain text
piece h = record { all = h }

pub joined : (a b : List ℕ) → Plain a → Plain b → Plain (a ++ b)
joined a b first second = record { all = list_all-append inside a b ∙ and_is _ _ first.all second.all }

-- pieces one after another
pub pieces : (p : List ℕ) (ps : List (List ℕ)) → Plain p → AllByRecursion Plain ps → Plain (fold (λ a b. a ++ b) p ps)
pieces p [] first rest = first
pieces p (q ∷ qs) first rest = pieces (p ++ q) qs (joined p q first rest.0) rest.1

-- what passes one test passes a weaker one
weaker : (p q : ℕ → Bool) → ((c : ℕ) → p c ≡ true → q c ≡ true) → (ds : List ℕ) → list_all p ds ≡ true → list_all q ds ≡ true
weaker p q implies [] all = refl
weaker p q implies (d ∷ ds) all =
    let parts : (p d ≡ true) × (list_all p ds ≡ true) = both (p d) (list_all p ds) all in
    and_is (q d) (list_all q ds) (implies d parts.0) (weaker p q implies ds parts.1)

digit_inside : (c : ℕ) → is_digit c ≡ true → inside c ≡ true
digit_inside c h = grind (arith, nat_tests, h)

digit_in_word : (c : ℕ) → is_digit c ≡ true → is_in_word c ≡ true
digit_in_word c h = grind (arith, nat_tests, h)

word_inside : (c : ℕ) → is_in_word c ≡ true → inside c ≡ true
word_inside c h = grind (arith, nat_tests, h)

pub number_plain : (n : ℕ) → n < 2 ^ 64 → Plain (decimal n)
number_plain n h = piece (weaker is_digit inside digit_inside (decimal n) (decimal_reads n n h).1)

pub number_word : (n : ℕ) → n < 2 ^ 64 → list_all is_in_word (decimal n) ≡ true
number_word n h = weaker is_digit is_in_word digit_in_word (decimal n) (decimal_reads n n h).1

pub name_plain : (name : List ℕ) → list_all is_in_word name ≡ true → Plain name
name_plain name h = piece (weaker is_in_word inside word_inside name h)

glyph_inside : (d : ℕ) → inside (digit_glyph false d) ≡ true
glyph_inside d = go (nat_lt d 10) refl
  where
    go : (b : Bool) → nat_lt d 10 ≡ b → inside (cond b (48 + d) (87 + d)) ≡ true
    go true h = grind (arith, nat_tests)
    go false h = grind (arith, nat_tests)

hex_plain : (count n : ℕ) → Plain (hex_digits count n)
hex_plain zero n = piece refl
hex_plain (suc count) n = joined (hex_digits count (n / 16)) (digit_glyph false (n % 16) ∷ []) (hex_plain count (n / 16)) (piece (and_is _ true (glyph_inside (n % 16)) refl))

pub range_plain : (w : ℕ) → w < 2 ^ 64 → Plain (range_text w)
range_plain w h = go (w == 1)
  where
    go : (b : Bool) → Plain (cond b [] (codes "[" ++ decimal (w - 1) ++ codes ":0] "))
    go true = piece refl
    go false = pieces (codes "[") (decimal (w - 1) ∷ codes ":0] " ∷ []) (piece refl) (number_plain (w - 1) (omega (arith, h)), (piece refl, tt))

pub constant_plain : (k : bits.Word) → k.width < 2 ^ 64 → Plain (constant_text k)
constant_plain k h = pieces (decimal k.width) (codes "'h" ∷ hex_text k ∷ []) (number_plain k.width h) (piece refl, (hex_plain ((k.width + 3) / 4) k.value, tt))

pub signed_constant_plain : (k : bits.Word) → k.width < 2 ^ 64 → Plain (signed_constant_text k)
signed_constant_plain k h = pieces (decimal k.width) (codes "'sh" ∷ hex_text k ∷ []) (number_plain k.width h) (piece refl, (hex_plain ((k.width + 3) / 4) k.value, tt))

pub widths_plain : (ws : List ℕ) → AllByRecursion (λ w. w < 2 ^ 64) ws → Plain (width_texts ws)
widths_plain [] small = piece refl
widths_plain (w ∷ ws) small = joined (codes " " ++ decimal w) (width_texts ws) (joined (codes " ") (decimal w) (piece refl) (number_plain w small.0)) (widths_plain ws small.1)

-- ---- names and forms

pub node_plain : (i : ℕ) → i < 2 ^ 64 → Plain (node_name i)
node_plain i h = joined (codes "xtc_n") (decimal i) (piece refl) (number_plain i h)

pub register_plain : (i : ℕ) → i < 2 ^ 64 → Plain (register_name i)
register_plain i h = joined (codes "xtc_r") (decimal i) (piece refl) (number_plain i h)

pub memory_plain : (i : ℕ) → i < 2 ^ 64 → Plain (memory_name i)
memory_plain i h = joined (codes "xtc_m") (decimal i) (piece refl) (number_plain i h)

pub host_plain : (p : ℕ) → p < 2 ^ 64 → Plain (host_name p)
host_plain p h = joined (codes "xtc_p") (decimal p) (piece refl) (number_plain p h)

pub ack_plain : (p : ℕ) → p < 2 ^ 64 → Plain (ack_name p)
ack_plain p h = joined (host_name p) (codes "_ack") (host_plain p h) (piece refl)

pub ret_plain : (p i : ℕ) → p < 2 ^ 64 → i < 2 ^ 64 → Plain (ret_name p i)
ret_plain p i h k = pieces (host_name p) (codes "_ret" ∷ decimal i ∷ []) (host_plain p h) (piece refl, (number_plain i k, tt))

pub arg_plain : (p i : ℕ) → p < 2 ^ 64 → i < 2 ^ 64 → Plain (arg_name p i)
arg_plain p i h k = pieces (host_name p) (codes "_arg" ∷ decimal i ∷ []) (host_plain p h) (piece refl, (number_plain i k, tt))

pub infix_plain : (operator : List ℕ) (a b : ℕ) → Plain operator → a < 2 ^ 64 → b < 2 ^ 64 → Plain (infix_text operator a b)
infix_plain operator a b plain h k = pieces (node_name a) (operator ∷ node_name b ∷ []) (node_plain a h) (plain, (node_plain b k, tt))

pub signed_plain : (a : ℕ) → a < 2 ^ 64 → Plain (signed_text a)
signed_plain a h = pieces (codes "$signed(") (node_name a ∷ codes ")" ∷ []) (piece refl) (node_plain a h, (piece refl, tt))

-- ---- the lines of a text

pub lines_of_text : (lines : List (List ℕ)) → AllByRecursion Plain lines → lines_in (flat_map (λ line. line ++ codes "\n") lines) ≡ lines ++ [] ∷ []
lines_of_text [] plain = refl
lines_of_text (line ∷ lines) plain =
    ap lines_in (append_assoc line (codes "\n") (flat_map (λ l. l ++ codes "\n") lines))
    ∙ slice_split_at (λ c. c == 10) line 10 (flat_map (λ l. l ++ codes "\n") lines) (each line plain.0) refl
    ∙ ap (λ ls. line ∷ ls) (lines_of_text lines plain.1)
  where
    off : (b : Bool) → not b ≡ true → b ≡ false
    off true h = cc
    off false h = refl

    passes : (xs : List ℕ) → list_all inside xs ≡ true → AllByRecursion (λ c. (c == 10) ≡ false) xs
    passes [] all = tt
    passes (x ∷ xs) all = (off (x == 10) (both (inside x) (list_all inside xs) all).0, passes xs (both (inside x) (list_all inside xs) all).1)

    each : (xs : List ℕ) → Plain xs → All (λ c. (c == 10) ≡ false) xs
    each xs plain = All-from_recursion (λ c. (c == 10) ≡ false) xs (passes xs plain.all)
