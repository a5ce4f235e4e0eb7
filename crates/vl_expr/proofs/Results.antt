-- What follows where reading gave something.
use Rattle.std.proofs.Common.{◌≡◌, ℕ, List, Option, Some, None, Bool, true, false, cond, Ok, Err, slice_get, refl, ap}
use denote.Enum.Bare.{same_true, true_same}
use Rattle.vl_tree.specs.contracts.terminals.Terminal.{the_type}
use Rattle.vl_tree.specs.declared.terminals.Terminal.{Terminal}
use Rattle.vl_tree.specs.Places.{At}
use Rattle.vl_expr.specs.Classes.{is_in, is_at}
use Rattle.vl_expr.specs.Reading.{Reading, ◌>>=◌, past}

pub ok_one : {X : Type 0} {x y : X} → ◌≡◌ {A = Reading X} (Ok x) (Ok y) → x ≡ y
ok_one e = cc

-- a reading of two steps gave something
pub record Bound {A B : Type 0} (r : Reading A) (f : A → Reading B) (y : B) : Type 0 where
  pub val : A
  pub first : r ≡ Ok val
  pub rest : f val ≡ Ok y

pub bind_ok : {A B : Type 0} (r : Reading A) (f : A → Reading B) (y : B) → (r >>= f) ≡ Ok y → Bound r f y
bind_ok (Ok x) f y e = record { val = x; first = refl; rest = e }
bind_ok (Err at) f y e = cc

-- a reading behind a test gave something
pub record Tested {X : Type 0} (b : Bool) (f : Reading X) (y : X) : Type 0 where
  pub holds : b ≡ true
  pub rest : f ≡ Ok y

pub test_ok : {X : Type 0} (b : Bool) (f : Reading X) (at : ℕ) (y : X) → cond b f (Err at) ≡ Ok y → Tested b f y
test_ok true f at y e = record { holds = refl; rest = e }
test_ok false f at y e = cc

-- which of two readings gave something, by a test
pub data Chosen {X : Type 0} (b : Bool) (f g : Reading X) (y : X) : Type 0 where
  was_true : b ≡ true → f ≡ Ok y → Chosen b f g y
  was_false : b ≡ false → g ≡ Ok y → Chosen b f g y

pub cond_ok : {X : Type 0} (b : Bool) (f g : Reading X) (y : X) → cond b f g ≡ Ok y → Chosen b f g y
cond_ok true f g y e = was_true refl e
cond_ok false f g y e = was_false refl e

-- a reading behind a token gave something
pub record Past {X : Type 0} (ls : List Terminal) (at : ℕ) (x : Terminal) (f : Reading X) (y : X) : Type 0 where
  pub here : At ls at x
  pub rest : f ≡ Ok y

pub is_in_true : (o : Option Terminal) (x : Terminal) → is_in o x ≡ true → o ≡ Some x
is_in_true None x e = cc
is_in_true (Some l) x e = ap Some (same_true the_type tt l x e)

pub in_is_true : (o : Option Terminal) (x : Terminal) → o ≡ Some x → is_in o x ≡ true
in_is_true o x e = rw e (true_same the_type x x refl)

pub past_ok : {X : Type 0} (ls : List Terminal) (at : ℕ) (x : Terminal) (f : Reading X) (y : X) → past ls at x f ≡ Ok y → Past ls at x f y
past_ok ls at x f y e =
    let t = test_ok (is_at ls at x) f at y e in
    record { here = is_in_true (slice_get ls at) x t.holds; rest = t.rest }

pub past_at : {X : Type 0} (ls : List Terminal) (at : ℕ) (x : Terminal) (f : Reading X) → At ls at x → past ls at x f ≡ f
past_at ls at x f h = rw (in_is_true (slice_get ls at) x h)
