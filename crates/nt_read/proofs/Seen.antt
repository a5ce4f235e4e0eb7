-- Lists whose items are seen by a view, as references are.
use Rattle.std.proofs.Common.{◌≡◌, ℕ, ◌+◌, Bool, true, false, not, ◌||◌, ◌&&◌, List, [], ◌∷◌, ◌++◌, map, length, cond, refl, sym, ap, ◌∙◌, position, nat_lt, bytes_eq, Bor, arith}
use Rattle.std.specs.Prelude.{Some, None, unwrap_or}
use Rattle.std.specs.List.{list_any, position_or_len}
use Rattle.std.proofs.lemmas.List.Sums.{prefix_len-le-length}
use Rattle.std.proofs.lemmas.List.{map-append}
use Rattle.nt_read.specs.Forms.{place_of}
use Rattle.nt_read.specs.Names.{are_new}

pub list_any_seen : {X Y : Type 0} (view : X → Y) (p : Y → Bool) (xs : List X) → list_any p (map view xs) ≡ list_any (λ x. p (view x)) xs
list_any_seen view p [] = refl
list_any_seen view p (x ∷ xs) = ap (λ b. p (view x) || b) (list_any_seen view p xs)

position_seen : {X Y : Type 0} (view : X → Y) (p : Y → Bool) (xs : List X) → position_or_len p (map view xs) ≡ position_or_len (λ x. p (view x)) xs
position_seen view p [] = refl
position_seen view p (x ∷ xs) = ap (λ n. cond (not (p (view x))) (1 + n) 0) (position_seen view p xs)

-- the place that a search gives, and the length where it gives none
position_or : {X : Type 0} (p : X → Bool) (xs : List X) → unwrap_or (position p xs) (length xs) ≡ position_or_len p xs
position_or p xs =
    go (nat_lt (position_or_len p xs) (length xs)) refl
  where
    go : (b : Bool) → nat_lt (position_or_len p xs) (length xs) ≡ b → unwrap_or (cond b (Some (position_or_len p xs)) None) (length xs) ≡ position_or_len p xs
    go true h = refl
    go false h = grind (arith, h, prefix_len-le-length (λ x. not (p x)) xs)

pub place_is : (keys : List (Bor (List ℕ))) (name : List ℕ) → unwrap_or (position (λ k. bytes_eq name k.now) keys) (length keys) ≡ place_of (map (λ k. k.now) keys) name
place_is keys name = position_or (λ k. bytes_eq name k.now) keys ∙ sym (position_seen (λ k. k.now) (λ k. bytes_eq name k) keys)

-- a name that is put behind the known ones
pub new_is : (keys : List (Bor (List ℕ))) (name : Bor (List ℕ)) → are_new (map (λ k. k.now) keys) (name.now ∷ []) ≡ not (list_any (λ k. bytes_eq name.now k.now) keys)
new_is keys name = and_true _ ∙ ap not (list_any_seen (λ k. k.now) (λ k. bytes_eq name.now k) keys)
  where
    and_true : (b : Bool) → (b && true) ≡ b
    and_true true = refl
    and_true false = refl

pub put_is : (keys : List (Bor (List ℕ))) (name : Bor (List ℕ)) → not (list_any (λ k. bytes_eq name.now k.now) keys) ≡ true
    → map (λ k. k.now) (cond (list_any (λ k. bytes_eq name.now k.now) keys) keys (keys ++ name ∷ [])) ≡ map (λ k. k.now) keys ++ name.now ∷ []
put_is keys name fresh = go (list_any (λ k. bytes_eq name.now k.now) keys) fresh
  where
    go : (b : Bool) → not b ≡ true → map (λ k. k.now) (cond b keys (keys ++ name ∷ [])) ≡ map (λ k. k.now) keys ++ name.now ∷ []
    go true h = cc
    go false h = map-append (λ k. k.now) keys (name ∷ [])
