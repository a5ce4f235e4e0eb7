-- Whether two tokens are spelled alike.
use Rattle.std.proofs.Common.{◌≡◌, ℕ, List, Option, Some, None, Bool, true, false, slice_get, refl, sym, ap, subst, ◌∙◌}
use Rattle.std.specs.Prelude.{bytes_eq}
use Rattle.std.proofs.lemmas.Slice.Eq.{bytes_eq-Decides}
use Rattle.vl_parse.specs.Input.{same_bytes, same_name}

same_bytes_is : (a b : Option (List ℕ)) → same_bytes a b ≡ true → a ≡ b
same_bytes_is (Some a) (Some b) e = ap Some ((bytes_eq-Decides a b).0 e)
same_bytes_is None None e = refl
same_bytes_is None (Some b) e = cc
same_bytes_is (Some a) None e = cc

same_bytes_own : (a : Option (List ℕ)) → same_bytes a a ≡ true
same_bytes_own (Some a) = (bytes_eq-Decides a a).1 refl
same_bytes_own None = refl

pub same_name_is : (names : List (List ℕ)) (i j : ℕ) → same_name names i j ≡ true → slice_get names i ≡ slice_get names j
same_name_is names i j e = same_bytes_is (slice_get names i) (slice_get names j) e

pub is_same_name : (names : List (List ℕ)) (i j : ℕ) → slice_get names i ≡ slice_get names j → same_name names i j ≡ true
is_same_name names i j e = subst (λ o. same_bytes (slice_get names i) o ≡ true) e (same_bytes_own (slice_get names i))
