-- Maps that are added to at their ends.
use Rattle.std.proofs.Common.{◌≡◌, ◌++◌, ◌+◌, ◌<◌, length, map, drop, ℕ, Bool, true, false, cond, List, [], ◌∷◌, Option, Some, None, refl, sym, ap, ◌∙◌, is_some, true≢false}
use Rattle.std.specs.Prelude.{slice_index_or}
use Rattle.std.specs.Option.{option_or}
use Rattle.std.specs.List.{find}
use Rattle.std.proofs.lemmas.List.{at_drop_more}
use Rattle.std.specs.Map.{lookup}
use Rattle.indexmap.specs.IndexMap.{IndexMap, get, insert_entry}
use Rattle.indexmap.proofs.CallerLemmas.{insert_entry-new}

pub looked_up : {K X : Type 0} (test : K → Bool) (es : List (K × X)) (k : K) (x : X)
    → lookup test (es ++ (k, x) ∷ []) ≡ option_or (lookup test es) (cond (test k) (Some x) None)
looked_up test [] k x = go (test k)
  where
    go : (b : Bool) → cond b (Some x) None ≡ cond b (Some x) None
    go b = refl
looked_up test (e ∷ es) k x = go (test e.0) (looked_up test es k x)
  where
    go : (b : Bool) → lookup test (es ++ (k, x) ∷ []) ≡ option_or (lookup test es) (cond (test k) (Some x) None)
        → cond b (Some e.1) (lookup test (es ++ (k, x) ∷ [])) ≡ option_or (cond b (Some e.1) (lookup test es)) (cond (test k) (Some x) None)
    go true h = refl
    go false h = h

-- a key that is new goes last
pub added : {K X S : Type 0} (eq : K → K → Bool) (m : IndexMap K X S) (k : K) (v : X) (es : List (K × X))
    → is_some (get eq m k) ≡ false → es ≡ insert_entry eq m.entries k v → es ≡ m.entries ++ (k, v) ∷ []
added eq m k v es none h = h ∙ insert_entry-new eq m k v (go (get eq m k) none)
  where
    go : {Y : Type 0} (o : Option Y) → is_some o ≡ false → o ≡ None
    go None h = refl
    go (Some y) h = absurd (true≢false h)

-- one declaration more is noted: what is known with what is left stays the same
pub one_noted : {X : Type 0} (p : X → Bool) (xs : List X) (i : ℕ) (x : X) (all old new : Option X) (noted : Bool) → i < length xs → x ≡ slice_index_or xs i x
    → all ≡ option_or old (find p (drop i xs)) → noted ≡ p x → new ≡ option_or old (cond noted (Some x) None) → all ≡ option_or new (find p (drop (i + 1) xs))
one_noted {X = X} p xs i x all old new noted lt e h k n =
    h ∙ ap (option_or old) (at_drop_more (find p) xs i x lt ∙ ap (λ y. find p (y ∷ drop (i + 1) xs)) (sym e))
    ∙ go old (p x) ∙ ap (λ b. option_or (option_or old (cond b (Some x) None)) (find p (drop (i + 1) xs))) (sym k)
    ∙ ap (λ o. option_or o (find p (drop (i + 1) xs))) (sym n)
  where
    go : (o : Option X) (b : Bool) → option_or o (cond b (Some x) (find p (drop (i + 1) xs))) ≡ option_or (option_or o (cond b (Some x) None)) (find p (drop (i + 1) xs))
    go None true = refl
    go None false = refl
    go (Some y) b = refl

pub nothing_left : {X : Type 0} (o : Option X) → option_or o None ≡ o
nothing_left None = refl
nothing_left (Some x) = refl

-- the same where what is noted is made of the items of a list
pub one_made : {X Y : Type 0} (f : Y → X) (p : X → Bool) (ys : List Y) (i : ℕ) (y : Y) (x : X) (all old new : Option X) (noted : Bool) → i < length ys → y ≡ slice_index_or ys i y → x ≡ f y
    → all ≡ option_or old (find p (map f (drop i ys))) → noted ≡ p x → new ≡ option_or old (cond noted (Some x) None) → all ≡ option_or new (find p (map f (drop (i + 1) ys)))
one_made {X = X} f p ys i y x all old new noted lt e m h k n =
    h ∙ ap (option_or old) (at_drop_more (λ zs. find p (map f zs)) ys i y lt ∙ ap (λ z. find p (f z ∷ map f (drop (i + 1) ys))) (sym e) ∙ ap (λ z. find p (z ∷ map f (drop (i + 1) ys))) (sym m))
    ∙ go old (p x) ∙ ap (λ b. option_or (option_or old (cond b (Some x) None)) (find p (map f (drop (i + 1) ys)))) (sym k)
    ∙ ap (λ o. option_or o (find p (map f (drop (i + 1) ys)))) (sym n)
  where
    go : (o : Option X) (b : Bool) → option_or o (cond b (Some x) (find p (map f (drop (i + 1) ys)))) ≡ option_or (option_or o (cond b (Some x) None)) (find p (map f (drop (i + 1) ys)))
    go None true = refl
    go None false = refl
    go (Some z) b = refl
