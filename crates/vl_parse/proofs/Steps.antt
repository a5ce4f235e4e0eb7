-- Steps of reading: behind one another, behind a token, and what is made of what they give.
use Rattle.std.specs.Prelude.{if◌then◌else◌}
use Rattle.std.proofs.Common.{◌≡◌, ℕ, ◌+◌, List, Bool, true, false, Ok, Err, refl, sym, ap, ◌∙◌}
use Rattle.vl_tree.specs.declared.terminals.Terminal.{Terminal}
use Rattle.vl_expr.specs.Classes.{is_at}
use Rattle.vl_expr.specs.Reading.{Reading, ◌>>=◌, past}
use Rattle.vl_parse.specs.declared.part.Part.{Part}
use Rattle.vl_parse.specs.Parts.{part}
use Rattle.vl_parse.specs.inner.Steps.{pair_of, ended_of, made_of}

-- a step behind two, behind a test and behind a choice
pub bind_bind : {A B C : Type 0} (r : Reading A) (f : A → Reading B) (g : B → Reading C) → ((r >>= f) >>= g) ≡ (r >>= λ x. f x >>= g)
bind_bind (Ok x) f g = refl
bind_bind (Err at) f g = refl

pub test_bind : {A B : Type 0} (b : Bool) (r : Reading A) (at : ℕ) (g : A → Reading B) →
    ((if b then r else Err at) >>= g) ≡ (if b then (r >>= g) else Err at)
test_bind true r at g = refl
test_bind false r at g = refl

pub choice_bind : {A B : Type 0} (b : Bool) (r s : Reading A) (g : A → Reading B) →
    ((if b then r else s) >>= g) ≡ (if b then (r >>= g) else (s >>= g))
choice_bind true r s g = refl
choice_bind false r s g = refl

-- what is made of like parts is alike
pub bind_like : {A B : Type 0} (r : Reading A) (f g : A → Reading B) → ((x : A) → f x ≡ g x) → (r >>= f) ≡ (r >>= g)
bind_like (Ok x) f g same = same x
bind_like (Err at) f g same = refl

pub test_like : {A : Type 0} (b : Bool) (r s : Reading A) (at : ℕ) → r ≡ s → (if b then r else Err at) ≡ (if b then s else Err at)
test_like b r s at same = ap (λ k. if b then k else Err at) same

pub choice_like : {A : Type 0} (b : Bool) (r s q t : Reading A) → r ≡ q → s ≡ t → (if b then r else s) ≡ (if b then q else t)
choice_like true r s q t one two = one
choice_like false r s q t one two = two

module _ {X Y : Type 0} (ls : List Terminal) (x : Terminal) (p : ℕ → Reading (Part X)) where
  -- a step behind a part and a token
  pub ended_bind : (at : ℕ) (k : Part X → Reading Y) → (ended_of ls x p at >>= k) ≡ (p at >>= λ a. past ls a.end x (k (part a.tree (a.end + 1))))
  ended_bind at k =
      bind_bind (p at) (λ a. past ls a.end x (Ok (part a.tree (a.end + 1)))) k
      ∙ bind_like (p at) (λ a. past ls a.end x (Ok (part a.tree (a.end + 1))) >>= k) (λ a. past ls a.end x (k (part a.tree (a.end + 1))))
      (λ a. test_bind (is_at ls a.end x) (Ok (part a.tree (a.end + 1))) a.end k)

module _ {X Y Z : Type 0} (p : ℕ → Reading (Part X)) (q : ℕ → Reading (Part Y)) where
  -- a step behind two parts
  pub pair_bind : (at : ℕ) (k : Part (X × Y) → Reading Z) → (pair_of p q at >>= k) ≡ (p at >>= λ a. q a.end >>= λ b. k (part (a.tree, b.tree) b.end))
  pair_bind at k =
      bind_bind (p at) (λ a. q a.end >>= λ b. Ok (part (a.tree, b.tree) b.end)) k
      ∙ bind_like (p at) (λ a. (q a.end >>= λ b. Ok (part (a.tree, b.tree) b.end)) >>= k) (λ a. q a.end >>= λ b. k (part (a.tree, b.tree) b.end))
      (λ a. bind_bind (q a.end) (λ b. Ok (part (a.tree, b.tree) b.end)) k)

-- a step behind what is made
pub made_bind : {X Y Z : Type 0} (f : X → Y) (r : Reading (Part X)) (k : Part Y → Reading Z) → (made_of f r >>= k) ≡ (r >>= λ p. k (part (f p.tree) p.end))
made_bind f (Ok p) k = refl
made_bind f (Err at) k = refl

-- what is made of a part, or of two, before a token
module _ {X Z : Type 0} (ls : List Terminal) (x : Terminal) (p : ℕ → Reading (Part X)) (f : X → Z) where
  pub one_ended : (at : ℕ) → (p at >>= λ a. past ls a.end x (Ok (part (f a.tree) (a.end + 1)))) ≡ made_of f (ended_of ls x p at)
  one_ended at = sym (ended_bind ls x p at (λ a. Ok (part (f a.tree) a.end)))

module _ {X Y Z : Type 0} (ls : List Terminal) (x : Terminal) (p : ℕ → Reading (Part X)) (q : ℕ → Reading (Part Y)) (f : X × Y → Z) where
  made_last : (a : Part X) (b : Part Y) (t : Bool) →
      made_of f (if t then Ok (part (a.tree, b.tree) (b.end + 1)) else Err b.end) ≡ (if t then Ok (part (f (a.tree, b.tree)) (b.end + 1)) else Err b.end)
  made_last a b true = refl
  made_last a b false = refl

  made_second : (a : Part X) (r : Reading (Part Y)) →
      made_of f ((r >>= λ b. Ok (part (a.tree, b.tree) b.end)) >>= λ c. past ls c.end x (Ok (part c.tree (c.end + 1))))
      ≡ (r >>= λ b. past ls b.end x (Ok (part (f (a.tree, b.tree)) (b.end + 1))))
  made_second a (Err e) = refl
  made_second a (Ok b) = made_last a b (is_at ls b.end x)

  made_first : (r : Reading (Part X)) →
      made_of f ((r >>= λ a. q a.end >>= λ b. Ok (part (a.tree, b.tree) b.end)) >>= λ c. past ls c.end x (Ok (part c.tree (c.end + 1))))
      ≡ (r >>= λ a. q a.end >>= λ b. past ls b.end x (Ok (part (f (a.tree, b.tree)) (b.end + 1))))
  made_first (Err e) = refl
  made_first (Ok a) = made_second a (q a.end)

  pub both_ended : (at : ℕ) →
      (p at >>= λ a. q a.end >>= λ b. past ls b.end x (Ok (part (f (a.tree, b.tree)) (b.end + 1)))) ≡ made_of f (ended_of ls x (pair_of p q) at)
  both_ended at = sym (made_first (p at))
