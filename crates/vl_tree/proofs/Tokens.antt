-- Tokens that stand at a place have its number, and lists whose members keep something.
use Rattle.std.proofs.Common.{◌≡◌, ◌<◌, ℕ, List, [], ◌∷◌, Option, Some, None, true, length, map, slice_get, refl, ap}
use Rattle.std.specs.Prelude.{All}
use Rattle.std.proofs.lemmas.Option.{slice_get_within}
use Rattle.std.proofs.lemmas.List.Elements.{All-head, All-tail}
use Rattle.vl_tree.specs.declared.terminals.Terminal.{Terminal}
use Rattle.vl_tree.specs.Places.{At, IsName, name_in}

pub at_within : (ls : List Terminal) (i : ℕ) (l : Terminal) → At ls i l → i < length ls
at_within ls i l h = slice_get_within ls i l h

pub name_within : (ls : List Terminal) (i : ℕ) → IsName ls i → i < length ls
name_within ls i h = by_token (slice_get ls i) refl h
  where
    by_token : (o : Option Terminal) → slice_get ls i ≡ o → name_in o ≡ true → i < length ls
    by_token None e is = cc
    by_token (Some l) e is = slice_get_within ls i l e

-- a list, each member with what it keeps
pub record Together {X : Type 0} (P : X → Type 0) (xs : List X) : Type 0 where
  pub all : List ((x : X) × P x)
  pub is : map (λ p. p.0) all ≡ xs

pub together : {X : Type 0} (P : X → Type 0) (xs : List X) → All P xs → Together P xs
together P [] h = record { all = []; is = refl }
together P (x ∷ xs) h =
    let rest = together P xs (All-tail P x xs h) in
    record { all = (x, All-head P x xs h) ∷ rest.all; is = ap (λ ys. x ∷ ys) rest.is }
