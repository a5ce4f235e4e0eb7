-- What is cleaned so far, before what is left.
use Rattle.std.proofs.Common.{◌≡◌, ◌+◌, ℕ, Bool, true, false, cond, List, [], ◌∷◌, ◌++◌, length, get_or, drop, refl, sym, ap, ◌∙◌, Ok, Err, Result, Option, Some, None, arith, append_assoc, ◌<◌, ◌≤◌, length-drop, length-append}
use Rattle.std.proofs.lemmas.List.{drop_more, append-nil}
use Rattle.std.specs.Option.{option_to_list}
use Rattle.vl_pre.specs.Breaks.{Break}
use Rattle.vl_pre.specs.Clean.{cleaned}
use Rattle.vl_pre.specs.Cleaning.{kept_if, IsStep}
use Rattle.vl_pre.specs.declared.clean.Step.{Step}
use Rattle.vl_pre.specs.declared.clean.Within.{Within}
use Rattle.vl_pre.specs.declared.clean.Within.TheVariants.{Code, LineComment, BlockComment, Quotes}

-- bytes before what is told
abbrev pub in_front : List ℕ → Result (List ℕ) Break → Result (List ℕ) Break
in_front front (Ok bytes) = Ok (front ++ bytes)
in_front front (Err broken) = Err broken

pub in_front_kept : (front : List ℕ) (byte : Option ℕ) (told : Result (List ℕ) Break) → in_front (front ++ option_to_list byte) told ≡ in_front front (kept_if byte told)
in_front_kept front None (Ok bytes) = rw append-nil refl
in_front_kept front None (Err broken) = refl
in_front_kept front (Some byte) (Ok bytes) = rw append_assoc refl
in_front_kept front (Some byte) (Err broken) = refl

pub in_front_none : (told : Result (List ℕ) Break) → in_front [] told ≡ told
in_front_none (Ok bytes) = refl
in_front_none (Err broken) = refl

-- skipped bytes are dropped, where there are any
pub cleaned_skip : (within : Within) (line byte : ℕ) (bytes : List ℕ) → cleaned within 1 line (byte ∷ bytes) ≡ cleaned within 0 line bytes
cleaned_skip Code line byte bytes = refl
cleaned_skip LineComment line byte bytes = refl
cleaned_skip (BlockComment opened) line byte bytes = refl
cleaned_skip Quotes line byte bytes = refl

-- a step takes a byte of what is left, or two
pub step_told : (bytes text : List ℕ) (at line : ℕ) (within : Within) (step : Step) (whole : Result (List ℕ) Break) → at < length bytes
    → IsStep step line (drop (at + 1) bytes) (cleaned within 0 line (get_or bytes at 0 ∷ drop (at + 1) bytes))
    → in_front text (cleaned within 0 line (drop at bytes)) ≡ whole
    → in_front (text ++ option_to_list step.kept) (cleaned step.within 0 step.line (drop (at + cond step.more 2 1) bytes)) ≡ whole
step_told bytes text at line within step whole inside is told =
    in_front_kept text step.kept _ ∙ ap (λ r. in_front text (kept_if step.kept r)) (rest step.more is.more_is)
    ∙ ap (in_front text) (sym is.told_is) ∙ ap (λ l. in_front text (cleaned within 0 line l)) (sym (drop_more bytes at 0 inside)) ∙ told
  where
    rest : (more : Bool) → (more ≡ true → 0 < length (drop (at + 1) bytes)) → cleaned step.within 0 step.line (drop (at + cond more 2 1) bytes) ≡ cleaned step.within (cond more 1 0) step.line (drop (at + 1) bytes)
    rest false some = refl
    rest true some =
        let second : at + 1 < length bytes = omega (arith, some refl, length-drop (at + 1) bytes) in
        let two : at + 2 ≡ at + 1 + 1 = omega arith in
        rw (drop_more bytes (at + 1) 0 second, two) (sym (cleaned_skip step.within step.line (get_or bytes (at + 1) 0) (drop (at + 1 + 1) bytes)))

-- it stays in the text
pub step_inside : (bytes : List ℕ) (at line : ℕ) (step : Step) (told : Result (List ℕ) Break) → at < length bytes → IsStep step line (drop (at + 1) bytes) told → at + cond step.more 2 1 ≤ length bytes
step_inside bytes at line step told inside is = go step.more is.more_is where
  go : (more : Bool) → (more ≡ true → 0 < length (drop (at + 1) bytes)) → at + cond more 2 1 ≤ length bytes
  go false some = omega arith
  go true some = omega (arith, some refl, length-drop (at + 1) bytes)

pub length_kept : (text : List ℕ) (byte : Option ℕ) → length (text ++ option_to_list byte) ≤ length text + 1
length_kept text None = omega (arith, length-append text [])
length_kept text (Some byte) = omega (arith, length-append text (byte ∷ []))

pub size_positive : (more : Bool) → 1 ≤ cond more 2 1
size_positive true = omega arith
size_positive false = omega arith
