use Rattle.std.proofs.Common.{◌≡◌, ◌⊎◌, inl, inr, ℕ, Bool, true, false, List, [], ◌∷◌, Some, refl, sym, arith, subst}
use Rattle.std.specs.Prelude.{Contains, fold, nat_lt}
use Rattle.xt_base.specs.declared.refusals.Refusal.{Refusal}
use Rattle.xt_base.specs.First.{less_or, stands_before, IsFirst, IsNamed, sooner, first, IsFound}
use Rattle.xt_base.proofs.Lists.{contains_nothing, contains_head, contains_tail, contains_cases}

-- nothing stands before itself
pub irreflexive : (a : Refusal) → stands_before a a ≡ false
irreflexive a = grind arith

last_level : (a b c : ℕ) → nat_lt a b ≡ false → nat_lt b c ≡ false → nat_lt a c ≡ false
last_level a b c h k = grind arith

level : (a b c : ℕ) (r s t : Bool) → (r ≡ false → s ≡ false → t ≡ false) → less_or a b r ≡ false → less_or b c s ≡ false → less_or a c t ≡ false
level a b c true s t f h k = grind arith
level a b c false true t f h k = grind arith
level a b c false false true f h k = grind (arith, f refl refl)
level a b c false false false f h k = grind arith

-- what doesn't stand before another that doesn't stand before a third doesn't stand before that
pub transitive : (a b c : Refusal) → stands_before a b ≡ false → stands_before b c ≡ false → stands_before a c ≡ false
transitive a b c h k =
    level a.place.instance b.place.instance c.place.instance _ _ _ (λ h1 k1.
    level a.place.file b.place.file c.place.file _ _ _ (λ h2 k2.
    level a.place.line b.place.line c.place.line _ _ _ (λ h3 k3. last_level a.rule.0 b.rule.0 c.rule.0 h3 k3) h2 k2) h1 k1) h k

flip_level : (a b : ℕ) (r s : Bool) → (r ≡ true → s ≡ false) → less_or a b r ≡ true → less_or b a s ≡ false
flip_level a b true true f h = grind (arith, f refl)
flip_level a b true false f h = grind arith
flip_level a b false s f h = grind arith

flip_last : (a b : ℕ) → nat_lt a b ≡ true → nat_lt b a ≡ false
flip_last a b h = grind arith

pub asymmetric : (a b : Refusal) → stands_before a b ≡ true → stands_before b a ≡ false
asymmetric a b h =
    flip_level a.place.instance b.place.instance _ _ (λ h1.
    flip_level a.place.file b.place.file _ _ (λ h2.
    flip_level a.place.line b.place.line _ _ (λ h3. flip_last a.rule.0 b.rule.0 h3) h2) h1) h

same_level : (a b : ℕ) (r s : Bool) → less_or a b r ≡ false → less_or b a s ≡ false → (a ≡ b) × (r ≡ false) × (s ≡ false)
same_level a b true true h k = grind arith
same_level a b true false h k = grind arith
same_level a b false true h k = grind arith
same_level a b false false h k = grind arith

-- of a break and a list of others, one is kept that none stands before
record Kept (a : Refusal) (bs : List Refusal) : Type 0 where
  kept : Refusal
  is : fold sooner (Some a) bs ≡ Some kept
  among : (a ≡ kept) ⊎ Contains bs kept
  not_first : stands_before a kept ≡ false
  least : (b : Refusal) → Contains bs b → stands_before b kept ≡ false

keeps : (bs : List Refusal) (a : Refusal) → Kept a bs
keeps [] a = record { kept = a; is = refl; among = inl refl; not_first = irreflexive a; least = λ b c. absurd (contains_nothing b c) }
keeps (b ∷ bs) a = go (λ c. keeps bs c) (stands_before b a) refl
  where
    changed : stands_before b a ≡ true → Kept b bs → Kept a (b ∷ bs)
    changed e k = record {
      kept = k.kept;
      is = rw e k.is;
      among = inr (elim k.among as (λ _. Contains (b ∷ bs) k.kept) [ inl i ↦ subst (λ x. Contains (b ∷ bs) x) i (contains_head b bs) | inr i ↦ contains_tail b k.kept bs i ]);
      not_first = transitive a b k.kept (asymmetric b a e) k.not_first;
      least = λ x c. elim (contains_cases b x bs c) as (λ _. stands_before x k.kept ≡ false) [ inl i ↦ subst (λ y. stands_before y k.kept ≡ false) i k.not_first | inr i ↦ k.least x i ];
    }

    same : stands_before b a ≡ false → Kept a bs → Kept a (b ∷ bs)
    same e k = record {
      kept = k.kept;
      is = rw e k.is;
      among = elim k.among as (λ _. (a ≡ k.kept) ⊎ Contains (b ∷ bs) k.kept) [ inl i ↦ inl i | inr i ↦ inr (contains_tail b k.kept bs i) ];
      not_first = k.not_first;
      least = λ x c. elim (contains_cases b x bs c) as (λ _. stands_before x k.kept ≡ false) [ inl i ↦ subst (λ y. stands_before y k.kept ≡ false) i (transitive b a k.kept e k.not_first) | inr i ↦ k.least x i ];
    }

    go : ((c : Refusal) → Kept c bs) → (t : Bool) → stands_before b a ≡ t → Kept a (b ∷ bs)
    go more true e = changed e (more b)
    go more false e = same e (more a)

-- the first of a list of breaks is the one that the definition means
pub first_is : (bs : List Refusal) → IsFound bs (first bs)
first_is [] = refl
first_is (b ∷ bs) = subst (IsFound (b ∷ bs)) (sym k.is) (record {
  broken = elim k.among as (λ _. Contains (b ∷ bs) k.kept) [ inl i ↦ subst (λ x. Contains (b ∷ bs) x) i (contains_head b bs) | inr i ↦ contains_tail b k.kept bs i ];
  least = λ x c. elim (contains_cases b x bs c) as (λ _. stands_before x k.kept ≡ false) [ inl i ↦ subst (λ y. stands_before y k.kept ≡ false) i k.not_first | inr i ↦ k.least x i ];
})
  where
    k : Kept b bs
    k = keeps bs b

refusal_of : ℕ → ℕ → ℕ → ℕ → Refusal
refusal_of r f l i = record { rule = record { 0 = r }; place = record { file = f; line = l; instance = i } }

made : (r f l i r' f' l' i' : ℕ) → r ≡ r' → f ≡ f' → l ≡ l' → i ≡ i' → refusal_of r f l i ≡ refusal_of r' f' l' i'
made r f l i r' f' l' i' a b c d = cc

refusal_same : (a b : Refusal) → a.rule.0 ≡ b.rule.0 → a.place.file ≡ b.place.file → a.place.line ≡ b.place.line → a.place.instance ≡ b.place.instance → a ≡ b
unfolding refusal_of
refusal_same a b r f l i = made _ _ _ _ _ _ _ _ r f l i

last_same : (a b : ℕ) → nat_lt a b ≡ false → nat_lt b a ≡ false → a ≡ b
last_same a b h k = grind arith

-- two breaks of which neither stands before the other are one
pub neither : (a b : Refusal) → stands_before a b ≡ false → stands_before b a ≡ false → a ≡ b
neither a b h k =
    let i = same_level a.place.instance b.place.instance _ _ h k in
    let f = same_level a.place.file b.place.file _ _ i.1 i.2 in
    let l = same_level a.place.line b.place.line _ _ f.1 f.2 in
    refusal_same a b (last_same a.rule.0 b.rule.0 l.1 l.2) f.0 l.0 i.0

-- there is one first break at most
pub one_first : {Broken : Refusal → Type 0} (a b : Refusal) → IsFirst Broken a → IsFirst Broken b → a ≡ b
one_first a b x y = neither a b (y.least a x.broken) (x.least b y.broken)

-- the break that is named over all passes is one, and its pass too
pub one_named : {Broken : ℕ → Refusal → Type 0} (p q : ℕ) (a b : Refusal) → IsNamed Broken p a → IsNamed Broken q b → (p ≡ q) × (a ≡ b)
one_named {Broken = Broken} p q a b x y = passes (nat_lt p q) (nat_lt q p) refl refl
  where
    passes : (less more : Bool) → nat_lt p q ≡ less → nat_lt q p ≡ more → (p ≡ q) × (a ≡ b)
    passes true more h k = absurd (y.clean_before p a (grind (arith, h)) x.first.broken)
    passes false true h k = absurd (x.clean_before q b (grind (arith, k)) y.first.broken)
    passes false false h k =
        let e : p ≡ q = grind (arith, h, k) in
        (e, one_first a b x.first (subst (λ n. IsFirst (Broken n) b) (sym e) y.first))
