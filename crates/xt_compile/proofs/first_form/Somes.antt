-- What follows where reading gave something.
use Rattle.std.proofs.Common.{◌≡◌, Option, Some, None, Bool, true, false, cond, refl, ap}
use Rattle.xt_compile.specs.first.Tree.{◌>>=◌}

pub some_one : {X : Type 0} {x y : X} → ◌≡◌ {A = Option X} (Some x) (Some y) → x ≡ y
some_one e = cc

pub none_some : {X : Type 0} {y : X} → ◌≡◌ {A = Option X} None (Some y) → ⊥
none_some e = cc

-- a reading of two steps gave something
pub record Bound {A B : Type 0} (o : Option A) (f : A → Option B) (y : B) : Type 0 where
  pub val : A
  pub first : o ≡ Some val
  pub rest : f val ≡ Some y

pub bind_some : {A B : Type 0} (o : Option A) (f : A → Option B) (y : B) → (o >>= f) ≡ Some y → Bound o f y
bind_some (Some x) f y e = record { val = x; first = refl; rest = e }
bind_some None f y e = absurd (none_some e)

pub bind_at : {A B : Type 0} (o : Option A) (f : A → Option B) (x : A) → o ≡ Some x → (o >>= f) ≡ f x
bind_at o f x e = ap (λ p. p >>= f) e

-- a reading behind a test gave something
pub record Tested {X : Type 0} (b : Bool) (o : Option X) (y : X) : Type 0 where
  pub holds : b ≡ true
  pub rest : o ≡ Some y

pub test_some : {X : Type 0} (b : Bool) (o : Option X) (y : X) → cond b o None ≡ Some y → Tested b o y
test_some true o y e = record { holds = refl; rest = e }
test_some false o y e = absurd (none_some e)

pub test_at : {X : Type 0} (b : Bool) (o : Option X) → b ≡ true → cond b o None ≡ o
test_at b o e = rw e refl
