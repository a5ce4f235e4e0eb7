-- Reading optional parts and lists of parts, both ways.
use Rattle.std.proofs.Common.{◌≡◌, ◌≤◌, ◌<◌, ℕ, zero, suc, ◌+◌, List, [], ◌∷◌, ◌++◌, Option, Some, None, Bool, true, false, cond, Result, Ok, Err, slice_get, length, refl, sym, ap, subst, ◌∙◌, append_assoc, append-nil, arith, rules}
use Rattle.std.proofs.lemmas.Option.{slice_get_within}
use Rattle.std.proofs.lemmas.Bool.{both_ways}
use Rattle.vl_tree.specs.declared.terminals.Terminal.{Terminal}
use Rattle.vl_tree.specs.declared.terminals.Terminal.TheVariants as lex
use Rattle.vl_tree.specs.Places.{At, IsName}
use Rattle.vl_tree.specs.Lists
use Rattle.vl_tree.specs.Lists.{Commas, MaybeCommas, Many, Maybe, Flag, Name}
use Rattle.vl_expr.specs.Classes.{is_at, is_in}
use Rattle.vl_expr.specs.Reading.{Reading, ◌>>=◌}
use Rattle.vl_expr.proofs.Results.{ok_one, bind_ok, Bound, cond_ok, Chosen, was_true, was_false, is_in_true, in_is_true, test_ok, Tested}
use Rattle.vl_expr.proofs.Primaries.{bind_at, if_true, if_false, not_at}
use Rattle.vl_parse.specs.declared.part.Part.{Part}
use Rattle.vl_parse.specs.Parts.{part, single, added, behind, named, name_of, separated_of, separated_from, listed_of, many_of, many_from, present, maybe_of}

-- part { separator part }
pub data Separated {X : Type 0} (ls : List Terminal) (x : Terminal) (P : ℕ → ℕ → X → Type 0) : ℕ → ℕ → List X → Type 0 where
  only : {i j : ℕ} {t : X} → P i j t → Separated ls x P i j (t ∷ [])
  before : {i j k : ℕ} {t : X} {ts : List X} → P i j t → At ls j x → Separated ls x P (j + 1) k ts → Separated ls x P i k (t ∷ ts)

pub commas_separated : {X : Type 0} {ls : List Terminal} {P Q : ℕ → ℕ → X → Type 0} {i j : ℕ} {ts : List X} →
    ((a b : ℕ) (t : X) → P a b t → Q a b t) → Commas ls P i j ts → Separated ls lex.Comma Q i j ts
commas_separated f (Commas.last a) = Separated.only (f _ _ _ a)
commas_separated f (Commas.more a c b) = Separated.before (f _ _ _ a) c (commas_separated f b)

pub separated_commas : {X : Type 0} {ls : List Terminal} {P : ℕ → ℕ → X → Type 0} →
    {i j : ℕ} {ts : List X} → Separated ls lex.Comma P i j ts → Commas ls P i j ts
separated_commas (Separated.only a) = Commas.last a
separated_commas (Separated.before a c b) = Commas.more a c (separated_commas b)

-- one more part behind a list
separated_snoc : {X : Type 0} {ls : List Terminal} {x : Terminal} {P : ℕ → ℕ → X → Type 0} {i j k : ℕ} {ts : List X} {t : X} →
    Separated ls x P i j ts → At ls j x → P (j + 1) k t → Separated ls x P i k (ts ++ t ∷ [])
separated_snoc (Separated.only a) c b = Separated.before a c (Separated.only b)
separated_snoc (Separated.before a d more) c b = Separated.before a d (separated_snoc more c b)

many_snoc : {X : Type 0} {P : ℕ → ℕ → X → Type 0} {i j k : ℕ} {ts : List X} {t : X} →
    Many P i j ts → P j k t → Many P i k (ts ++ t ∷ [])
many_snoc Many.end b = Many.next b Many.end
many_snoc (Many.next a more) b = Many.next a (many_snoc more b)

-- what p reads is a part
pub record Sound {X : Type 0} (P : ℕ → ℕ → X → Type 0) (p : ℕ → Reading (Part X)) : Type 0 where
  pub stands : (i : ℕ) (q : Part X) → p i ≡ Ok q → P i q.end q.tree

module _ {X : Type 0} (ls : List Terminal) (P : ℕ → ℕ → X → Type 0) (p : ℕ → Reading (Part X)) (sound : Sound P p) where
  separated_from_stand : (x : Terminal) (turns i : ℕ) (all q : Part (List X)) → Separated ls x P i all.end all.tree →
      separated_from ls x p turns all ≡ Ok q → Separated ls x P i q.end q.tree
  separated_from_stand x zero i all q h e = subst (λ r. Separated ls x P i r.end r.tree) (ok_one e) h
  separated_from_stand x (suc turns) i all q h e =
      elim (cond_ok (is_at ls all.end x) _ _ q e) [
        | was_true t r ↦
            let b = bind_ok _ _ q r in
            separated_from_stand x turns i (added all b.val) q
            (separated_snoc h (is_in_true (slice_get ls all.end) x t) (sound.stands (all.end + 1) b.val b.first)) b.rest
        | was_false t r ↦ subst (λ r. Separated ls x P i r.end r.tree) (ok_one r) h
      ]

  pub separated_stand : (x : Terminal) (i : ℕ) (q : Part (List X)) → separated_of ls x p i ≡ Ok q → Separated ls x P i q.end q.tree
  separated_stand x i q e =
      let b = bind_ok _ _ q e in
      separated_from_stand x (length ls) i (single b.val) q (Separated.only (sound.stands i b.val b.first)) b.rest

  pub commas_stand : (i : ℕ) (q : Part (List X)) → separated_of ls lex.Comma p i ≡ Ok q → Commas ls P i q.end q.tree
  commas_stand i q e = separated_commas (separated_stand lex.Comma i q e)

  pub listed_stand : (i : ℕ) (q : Part (List X)) → listed_of ls p i ≡ Ok q → MaybeCommas ls P i q.end q.tree
  listed_stand i q e =
      elim (cond_ok (is_at ls i lex.CloseParen) _ _ q e) [
        | was_true t r ↦ subst (λ r. MaybeCommas ls P i r.end r.tree) (ok_one r) MaybeCommas.none
        | was_false t r ↦ MaybeCommas.some (commas_stand i q r)
      ]

  many_from_stand : (begins : Option Terminal → Bool) (turns i : ℕ) (all q : Part (List X)) → Many P i all.end all.tree →
      many_from ls begins p turns all ≡ Ok q → Many P i q.end q.tree
  many_from_stand begins zero i all q h e = subst (λ r. Many P i r.end r.tree) (ok_one e) h
  many_from_stand begins (suc turns) i all q h e =
      elim (cond_ok (begins (slice_get ls all.end)) _ _ q e) [
        | was_true t r ↦
            let b = bind_ok _ _ q r in
            many_from_stand begins turns i (added all b.val) q (many_snoc h (sound.stands all.end b.val b.first)) b.rest
        | was_false t r ↦ subst (λ r. Many P i r.end r.tree) (ok_one r) h
      ]

  pub many_stand : (begins : Option Terminal → Bool) (i : ℕ) (q : Part (List X)) → many_of ls begins p i ≡ Ok q → Many P i q.end q.tree
  many_stand begins i q e = many_from_stand begins (length ls) i (part [] i) q Many.end e

  pub maybe_stands : (begins : Option Terminal → Bool) (i : ℕ) (q : Part (Option X)) → maybe_of ls begins p i ≡ Ok q → Maybe P i q.end q.tree
  maybe_stands begins i q e =
      elim (cond_ok (begins (slice_get ls i)) _ _ q e) [
        | was_true t r ↦
            let b = bind_ok _ _ q r in
            subst (λ r. Maybe P i r.end r.tree) (ok_one b.rest) (Maybe.present (sound.stands i b.val b.first))
        | was_false t r ↦ subst (λ r. Maybe P i r.end r.tree) (ok_one r) Maybe.absent
      ]

-- a name
pub record Named {X : Type 0} (ls : List Terminal) (at : ℕ) (f : Reading X) (y : X) : Type 0 where
  pub here : IsName ls at
  pub rest : f ≡ Ok y

pub named_ok : {X : Type 0} (ls : List Terminal) (at : ℕ) (f : Reading X) (y : X) → named ls at f ≡ Ok y → Named ls at f y
named_ok ls at f y e = let t = test_ok _ f at y e in record { here = t.holds; rest = t.rest }

pub named_at : {X : Type 0} (ls : List Terminal) (at : ℕ) (f : Reading X) → IsName ls at → named ls at f ≡ f
named_at ls at f h = if_true _ _ _ h

pub name_sound : (ls : List Terminal) → Sound (Name ls) (name_of ls)
name_sound ls = record {
  stands = λ i q e. let n = named_ok ls i _ q e in subst (λ r. Name ls i r.end r.tree) (ok_one n.rest) (Name.id n.here);
}

-- a token that may be left out
pub flag_stands : (ls : List Terminal) (x : Terminal) (i : ℕ) → Flag ls x i (behind ls x i) (is_at ls i x)
flag_stands ls x i = by_test (is_at ls i x) refl
  where
    by_test : (b : Bool) → is_at ls i x ≡ b → Flag ls x i (cond b (i + 1) i) b
    by_test true e = Flag.set (is_in_true (slice_get ls i) x e)
    by_test false e = Flag.unset

-- a part that p reads, if it stands before such a token
pub record Reads {X : Type 0} (ls : List Terminal) (p : ℕ → Reading (Part X)) (ends : Option Terminal → Bool) (i j : ℕ) (t : X) : Type 0 where
  pub moves : i ≤ j
  pub is : ends (slice_get ls j) ≡ true → p i ≡ Ok (part t j)

module _ {X : Type 0} (ls : List Terminal) (p : ℕ → Reading (Part X)) (ends : Option Terminal → Bool) where
  separated_end : (x : Terminal) (turns : ℕ) (all : Part (List X)) → is_at ls all.end x ≡ false → separated_from ls x p turns all ≡ Ok all
  separated_end x zero all e = refl
  separated_end x (suc turns) all e = if_false _ _ _ e

  -- further parts, when some were read
  separated_further : {x : Terminal} {i j : ℕ} {ts : List X} → Separated ls x (Reads ls p ends) i j ts → ends (Some x) ≡ true →
      ends (slice_get ls j) ≡ true → is_at ls j x ≡ false → (turns : ℕ) (acc : Part (List X)) → length ls ≤ turns + i →
      (p i >>= λ q. separated_from ls x p turns (added acc q)) ≡ Ok (part (acc.tree ++ ts) j)
  separated_further {x = x} {j = j} (Separated.only {t = t} a) s h k turns acc room =
      bind_at _ (a.is h) ∙ separated_end x turns (added acc (part t j)) k
  separated_further (Separated.before {j = m} a c more) s h k zero acc room =
      let w = slice_get_within ls m _ c in let v = a.moves in absurd (omega arith)
  separated_further {x = x} {j = j} (Separated.before {j = m} {t = t} {ts = ts} a c more) s h k (suc turns) acc room =
      let w = slice_get_within ls m _ c in
      let v = a.moves in
      bind_at _ (a.is (subst (λ o. ends o ≡ true) (sym c) s)) ∙ if_true _ _ _ (in_is_true (slice_get ls m) x c)
      ∙ separated_further more s h k turns (added acc (part t m)) (omega arith)
      ∙ ap (λ tree. Ok (part tree j)) (append_assoc acc.tree (t ∷ []) ts)

  first_further : {x : Terminal} {k : ℕ} {ts : List X} (turns : ℕ) (q : Part X) → At ls q.end x → length ls ≤ turns →
      ((left : ℕ) → length ls ≤ left + (q.end + 1) →
      (p (q.end + 1) >>= λ r. separated_from ls x p left (added (single q) r)) ≡ Ok (part (q.tree ∷ ts) k)) →
      separated_from ls x p turns (single q) ≡ Ok (part (q.tree ∷ ts) k)
  first_further zero q c room rest = let w = slice_get_within ls q.end _ c in absurd (omega arith)
  first_further {x = x} (suc turns) q c room rest = if_true _ _ _ (in_is_true (slice_get ls q.end) x c) ∙ rest turns (omega arith)

  pub separated_reads : {x : Terminal} {i j : ℕ} {ts : List X} → Separated ls x (Reads ls p ends) i j ts → ends (Some x) ≡ true →
      ends (slice_get ls j) ≡ true → is_at ls j x ≡ false → separated_of ls x p i ≡ Ok (part ts j)
  separated_reads {x = x} {j = j} (Separated.only {t = t} a) s h k = bind_at _ (a.is h) ∙ separated_end x (length ls) (part (t ∷ []) j) k
  separated_reads (Separated.before {j = m} {t = t} a c more) s h k =
      bind_at _ (a.is (subst (λ o. ends o ≡ true) (sym c) s))
      ∙ first_further (length ls) (part t m) c (omega arith)
      (λ left room. separated_further more s h k left (part (t ∷ []) m) room)

  pub separated_moves : {x : Terminal} {i j : ℕ} {ts : List X} → Separated ls x (Reads ls p ends) i j ts → i ≤ j
  separated_moves (Separated.only a) = a.moves
  separated_moves (Separated.before a c more) = let v = a.moves in let w = separated_moves more in omega arith

-- a part of several, which begins with such a token
pub record Runs {X : Type 0} (ls : List Terminal) (p : ℕ → Reading (Part X)) (begins ends : Option Terminal → Bool) (i j : ℕ) (t : X) : Type 0 where
  pub begun : begins (slice_get ls i) ≡ true
  pub follows : ends (slice_get ls i) ≡ true
  pub within : i < length ls
  pub moves : i < j
  pub is : ends (slice_get ls j) ≡ true → p i ≡ Ok (part t j)

module _ {X : Type 0} (ls : List Terminal) (p : ℕ → Reading (Part X)) (begins ends : Option Terminal → Bool) where
  -- a list is followed by what may follow its parts
  many_follows : {i j : ℕ} {ts : List X} → Many (Runs ls p begins ends) i j ts → ends (slice_get ls j) ≡ true → ends (slice_get ls i) ≡ true
  many_follows Many.end h = h
  many_follows (Many.next a more) h = a.follows

  many_further : {i j : ℕ} {ts : List X} → Many (Runs ls p begins ends) i j ts → begins (slice_get ls j) ≡ false →
      ends (slice_get ls j) ≡ true → (turns : ℕ) (acc : List X) → length ls ≤ turns + i →
      many_from ls begins p turns (part acc i) ≡ Ok (part (acc ++ ts) j)
  many_further {j = j} Many.end k h zero acc room = ap (λ tree. Ok (part tree j)) (sym (append-nil acc))
  many_further {j = j} Many.end k h (suc turns) acc room = if_false _ _ _ k ∙ ap (λ tree. Ok (part tree j)) (sym (append-nil acc))
  many_further (Many.next a more) k h zero acc room = let w = a.within in absurd (omega arith)
  many_further {j = j} (Many.next {j = m} {x = t} {xs = ts} a more) k h (suc turns) acc room =
      let v = a.moves in
      if_true _ _ _ a.begun ∙ bind_at _ (a.is (many_follows more h))
      ∙ many_further more k h turns (acc ++ t ∷ []) (omega arith)
      ∙ ap (λ tree. Ok (part tree j)) (append_assoc acc (t ∷ []) ts)

  pub many_reads : {i j : ℕ} {ts : List X} → Many (Runs ls p begins ends) i j ts → begins (slice_get ls j) ≡ false →
      ends (slice_get ls j) ≡ true → many_of ls begins p i ≡ Ok (part ts j)
  many_reads more k h = many_further more k h (length ls) [] (omega arith)

  pub many_moves : {i j : ℕ} {ts : List X} → Many (Runs ls p begins ends) i j ts → i ≤ j
  many_moves Many.end = omega arith
  many_moves (Many.next a more) = let v = a.moves in let w = many_moves more in omega arith

pub many_runs : {X : Type 0} {P Q : ℕ → ℕ → X → Type 0} {i j : ℕ} {ts : List X} →
    ((a b : ℕ) (t : X) → P a b t → Q a b t) → Many P i j ts → Many Q i j ts
many_runs f Many.end = Many.end
many_runs f (Many.next a more) = Many.next (f _ _ _ a) (many_runs f more)
