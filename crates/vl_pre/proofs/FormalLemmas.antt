-- The argument of a formal, from a place of the lists on.
use Rattle.std.proofs.Common.{◌≡◌, ◌<◌, ◌+◌, ℕ, zero, suc, true, false, List, [], ◌∷◌, length, get_or, drop, refl, sym, ap, ◌∙◌, Option, Some, None}
use Rattle.std.proofs.lemmas.List.{drop_more, drop-drop}
use Rattle.std.specs.Prelude.{bytes_eq, slice_get}
use Rattle.std.specs.declared.vec.Vec.{Vec}
use Rattle.vl_pre.specs.Macros.{argument_of}
use Rattle.vl_pre.specs.MacroViews.{names_seen}

first_of : List (List ℕ) → Option (List ℕ)
first_of [] = None
first_of (x ∷ xs) = Some x

get_first : {Z : Type 0} (i : ℕ) (given : List (Vec ℕ Z)) → slice_get (names_seen given) i ≡ first_of (names_seen (drop i given))
unfolding first_of
get_first zero [] = refl
get_first zero (g ∷ given) = refl
get_first (suc i) [] = refl
get_first (suc i) (g ∷ given) = get_first i given

no_argument : (formals : List (List ℕ)) (name : List ℕ) → argument_of formals [] name ≡ None
no_argument [] name = refl
no_argument (f ∷ formals) name = refl

pub formal_found : {Y Z : Type 0} (formals : List (Vec ℕ Y)) (given : List (Vec ℕ Z)) (name : List ℕ) (i : ℕ) (formal : Vec ℕ Y) → i < length formals → formal ≡ get_or formals i formal → bytes_eq formal.items name ≡ true
    → argument_of (names_seen (drop i formals)) (names_seen (drop i given)) name ≡ slice_get (names_seen given) i
unfolding first_of
formal_found {Y} {Z} formals given name i formal h is equal =
    ap (λ l. argument_of (names_seen l) (names_seen (drop i given)) name) (drop_more formals i formal h) ∙ ap (λ f. argument_of (f.items ∷ names_seen (drop (i + 1) formals)) (names_seen (drop i given)) name) (sym is)
    ∙ go (drop i given) ∙ sym (get_first i given)
  where
    go : (l : List (Vec ℕ Z)) → argument_of (formal.items ∷ names_seen (drop (i + 1) formals)) (names_seen l) name ≡ first_of (names_seen l)
    go [] = refl
    go (g ∷ l) = rw equal refl

pub formal_other : {Y Z : Type 0} (formals : List (Vec ℕ Y)) (given : List (Vec ℕ Z)) (name : List ℕ) (i : ℕ) (formal : Vec ℕ Y) → i < length formals → formal ≡ get_or formals i formal → bytes_eq formal.items name ≡ false
    → argument_of (names_seen (drop i formals)) (names_seen (drop i given)) name ≡ argument_of (names_seen (drop (i + 1) formals)) (names_seen (drop (i + 1) given)) name
formal_other {Y} {Z} formals given name i formal h is other =
    ap (λ l. argument_of (names_seen l) (names_seen (drop i given)) name) (drop_more formals i formal h) ∙ ap (λ f. argument_of (f.items ∷ names_seen (drop (i + 1) formals)) (names_seen (drop i given)) name) (sym is)
    ∙ go (drop i given) ∙ ap (λ l. argument_of (names_seen (drop (i + 1) formals)) (names_seen l) name) (drop-drop 1 i given)
  where
    go : (l : List (Vec ℕ Z)) → argument_of (formal.items ∷ names_seen (drop (i + 1) formals)) (names_seen l) name ≡ argument_of (names_seen (drop (i + 1) formals)) (names_seen (drop 1 l)) name
    go [] = sym (no_argument (names_seen (drop (i + 1) formals)) name)
    go (g ∷ l) = rw other refl
