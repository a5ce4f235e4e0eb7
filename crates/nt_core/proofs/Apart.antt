-- Lists in which no two pins have one name.
use Rattle.std.proofs.Common.{◌≡◌, ◌≢◌, ℕ, ◌+◌, ◌-◌, ◌<◌, ◌≤◌, List, ◌++◌, length, take, drop, get_or, arith, subst, sym, ap, ◌∙◌, inl, inr, length-append, length-drop}
use Rattle.std.specs.Prelude.{All, AllPairs}
use Rattle.std.proofs.lemmas.Bool.{cases_lt}
use Rattle.std.proofs.lemmas.Option.{slice_get-get_or, get_or_from_slice_get}
use Rattle.std.proofs.lemmas.List.{take_all, get_or-drop, get_or_append_left, get_or-append-add}
use Rattle.nt_core.specs.declared.netlist.Wire.{Wire}

-- no two have one name
abbrev pub AreApart : List Wire → Type 0
AreApart xs = AllPairs (λ a b. a.name ≢ b.name) xs

-- none of these has the pin's name
abbrev pub Differs : List Wire → Wire → Type 0
Differs ys x = All (λ y. x.name ≢ y.name) ys

-- within the list the default isn't asked
same_default : (xs : List Wire) (i : ℕ) (d e : Wire) → i < length xs → get_or xs i d ≡ get_or xs i e
same_default xs i d e h = get_or_from_slice_get xs i (get_or xs i e) d (slice_get-get_or xs i e h)

-- those after a place, as a slice
slice_after : (xs : List Wire) (i : ℕ) → take (length xs - (i + 1)) (drop (i + 1) xs) ≡ drop (i + 1) xs
slice_after xs i = take_all (length xs - (i + 1)) (drop (i + 1) xs) (omega (arith, length-drop (i + 1) xs))

-- a pin against those after it
later_differ_drop : (xs : List Wire) (i : ℕ) (x : Wire) → i < length xs → x ≡ get_or xs i x → AreApart xs → Differs (drop (i + 1) xs) x
later_differ_drop xs i x h is apart k d l e =
    let there : i + 1 + k < length xs = omega (arith, length-drop (i + 1) xs, l) in
    apart i (i + 1 + k) d (omega arith) there
    (ap (λ w. w.name) (same_default xs i d x h ∙ sym is) ∙ e ∙ ap (λ w. w.name) (get_or-drop (i + 1) xs k d))

pub later_differ : (xs : List Wire) (i : ℕ) (x : Wire) → i < length xs → x ≡ get_or xs i x → AreApart xs → Differs (take (length xs - (i + 1)) (drop (i + 1) xs)) x
later_differ xs i x h is apart = subst (λ ys. Differs ys x) (sym (slice_after xs i)) (later_differ_drop xs i x h is apart)

differs_later_drop : (xs : List Wire) (i : ℕ) (x : Wire) → i < length xs → x ≡ get_or xs i x → Differs (drop (i + 1) xs) x
    → (b : ℕ) (d : Wire) → i < b → b < length xs → (get_or xs i d).name ≢ (get_or xs b d).name
differs_later_drop xs i x h is differs b d l m e =
    let place : i + 1 + (b - (i + 1)) ≡ b = omega arith in
    differs (b - (i + 1)) d (omega (arith, length-drop (i + 1) xs))
    (ap (λ w. w.name) (is ∙ same_default xs i x d h) ∙ e
    ∙ ap (λ w. w.name) (sym (get_or-drop (i + 1) xs (b - (i + 1)) d ∙ ap (λ k. get_or xs k d) place)))

-- what is known below a place, and of the place, is known below the next
pub differs_more : (xs : List Wire) (i : ℕ) (x : Wire) → i < length xs → x ≡ get_or xs i x
    → ((a b : ℕ) (d : Wire) → a < i → a < b → b < length xs → (get_or xs a d).name ≢ (get_or xs b d).name)
    → Differs (take (length xs - (i + 1)) (drop (i + 1) xs)) x
    → (a b : ℕ) (d : Wire) → a < i + 1 → a < b → b < length xs → (get_or xs a d).name ≢ (get_or xs b d).name
differs_more xs i x h is before here a b d k l m = elim (cases_lt a i) [
  | inl below ↦ before a b d below l m
  | inr above ↦
      let same : i ≡ a = omega arith in
      subst (λ j. (get_or xs j d).name ≢ (get_or xs b d).name) same
      (differs_later_drop xs i x h is (subst (λ ys. Differs ys x) (slice_after xs i) here) b d (omega arith) m)
]

-- ---- two lists, one after the other

pub apart_left : (xs ys : List Wire) → AreApart (xs ++ ys) → AreApart xs
apart_left xs ys apart i j d h l e =
    apart i j d h (omega (arith, length-append xs ys))
    (ap (λ w. w.name) (get_or_append_left xs ys d i (omega arith)) ∙ e ∙ ap (λ w. w.name) (sym (get_or_append_left xs ys d j l)))

pub apart_right : (xs ys : List Wire) → AreApart (xs ++ ys) → AreApart ys
apart_right xs ys apart i j d h l e =
    apart (length xs + i) (length xs + j) d (omega arith) (omega (arith, length-append xs ys))
    (ap (λ w. w.name) (get_or-append-add xs ys i d) ∙ e ∙ ap (λ w. w.name) (sym (get_or-append-add xs ys j d)))

pub apart_cross : (xs ys : List Wire) → AreApart (xs ++ ys) → All (Differs ys) xs
apart_cross xs ys apart i d h j e l m =
    apart i (length xs + j) d (omega arith) (omega (arith, length-append xs ys))
    (ap (λ w. w.name) (get_or_append_left xs ys d i h) ∙ m ∙ ap (λ w. w.name) (same_default ys j e d l ∙ sym (get_or-append-add xs ys j d)))

-- the element of two lists at a place of the second
get_or_right : (xs ys : List Wire) (j : ℕ) (d : Wire) → length xs ≤ j → get_or (xs ++ ys) j d ≡ get_or ys (j - length xs) d
get_or_right xs ys j d h =
    let place : j ≡ length xs + (j - length xs) = omega arith in
    ap (λ k. get_or (xs ++ ys) k d) place ∙ get_or-append-add xs ys (j - length xs) d

pub apart_both : (xs ys : List Wire) → AreApart xs → AreApart ys → All (Differs ys) xs → AreApart (xs ++ ys)
apart_both xs ys p q r i j d h l e =
    let end : j < length xs + length ys = omega (arith, length-append xs ys, l) in
    elim (cases_lt j (length xs)) [
      | inl low ↦ p i j d h low (ap (λ w. w.name) (sym (get_or_append_left xs ys d i (omega arith))) ∙ e ∙ ap (λ w. w.name) (get_or_append_left xs ys d j low))
      | inr high ↦ elim (cases_lt i (length xs)) [
        | inl left ↦ r i d left (j - length xs) d (omega arith)
            (ap (λ w. w.name) (sym (get_or_append_left xs ys d i left)) ∙ e ∙ ap (λ w. w.name) (get_or_right xs ys j d high))
        | inr right ↦ q (i - length xs) (j - length xs) d (omega arith) (omega arith)
            (ap (λ w. w.name) (sym (get_or_right xs ys i d right)) ∙ e ∙ ap (λ w. w.name) (get_or_right xs ys j d high))
      ]
    ]
