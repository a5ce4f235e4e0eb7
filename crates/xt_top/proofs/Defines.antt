-- The macros that words define, one word after another.
use Rattle.std.proofs.Common.{◌≡◌, ◌∙◌, ◌++◌, ◌<◌, ◌+◌, refl, sym, ap, List, [], ◌∷◌, ℕ, length, drop, Option, Some, None, append_assoc}
use Rattle.std.proofs.lemmas.List.{drop_more}
use Rattle.std.proofs.lemmas.Option.{get_or_from_slice_get}
use Rattle.std.specs.Prelude.{option_map, option_and_then, slice_get}
use Rattle.xt_top.specs.Command.{Define, define_of, defines_of}

-- what the words from one on define
here : (words : List (List ℕ)) (i : ℕ) (word : List ℕ) (defined : Option Define) → i < length words → slice_get words i ≡ Some word → define_of word ≡ defined
    → defines_of (drop i words) ≡ option_and_then (λ d. option_map (λ ds. d ∷ ds) (defines_of (drop (i + 1) words))) defined
here words i word defined within is defines =
    ap defines_of (drop_more words i word within ∙ ap (λ w. w ∷ drop (i + 1) words) (get_or_from_slice_get words i word word is))
    ∙ ap (option_and_then (λ d. option_map (λ ds. d ∷ ds) (defines_of (drop (i + 1) words)))) defines

one_more : (defines : List Define) (d : Define) (others : Option (List Define)) → option_map (λ rest. defines ++ rest) (option_map (λ ds. d ∷ ds) others) ≡ option_map (λ rest. (defines ++ d ∷ []) ++ rest) others
one_more defines d None = refl
one_more defines d (Some ds) = ap (λ (x : List Define). Some x) (sym (append_assoc defines (d ∷ []) ds))

pub defined_on : (words : List (List ℕ)) (i : ℕ) (word : List ℕ) (defines : List Define) (d : Define) (all : Option (List Define)) → i < length words → slice_get words i ≡ Some word → define_of word ≡ Some d
    → all ≡ option_map (λ rest. defines ++ rest) (defines_of (drop i words)) → all ≡ option_map (λ rest. (defines ++ d ∷ []) ++ rest) (defines_of (drop (i + 1) words))
defined_on words i word defines d all within is defined so = so ∙ ap (option_map (λ rest. defines ++ rest)) (here words i word (Some d) within is defined) ∙ one_more defines d (defines_of (drop (i + 1) words))

pub undefined_at : (words : List (List ℕ)) (i : ℕ) (word : List ℕ) (defines : List Define) (all : Option (List Define)) → i < length words → slice_get words i ≡ Some word → define_of word ≡ None
    → all ≡ option_map (λ rest. defines ++ rest) (defines_of (drop i words)) → all ≡ None
undefined_at words i word defines all within is none so = so ∙ ap (option_map (λ rest. defines ++ rest)) (here words i word None within is none)
