-- The port of a name among ports.
use Rattle.std.proofs.Common.{◌≡◌, ◌≢◌, ◌+◌, ℕ, suc, List, [], ◌∷◌, Option, Some, None, Bool, true, false, cond, slice_get, refl, sym, ap, subst, ◌∙◌, arith}
use Rattle.std.specs.Prelude.{bytes_eq}
use Rattle.std.specs.List.{All}
use Rattle.std.proofs.lemmas.List.Elements.{All-nil, All-cons}
use Rattle.xt_compile.specs.declared.first.source.Port.{Port}
use Rattle.xt_compile.specs.first.Tree.{found_from, found}
use Rattle.xt_compile.proofs.first_form.Somes.{some_one, none_some}
use Rattle.xt_compile.proofs.first_form.Spelled.{bytes_same, same_bytes}

-- a port is at this place among ports, the first of which is at another one
pub record IsAt (at : ℕ) (name : List ℕ) (ps : List Port) (f : ℕ × ℕ) : Type 0 where
  pub place : ℕ
  pub port : Port
  pub there : slice_get ps place ≡ Some port
  pub is : f.0 ≡ at + place
  pub named : port.name ≡ name
  pub width : port.width ≡ f.1

found_if : (at : ℕ) (name : List ℕ) (p : Port) (ps : List Port) (f : ℕ × ℕ) (b : Bool) → bytes_eq p.name name ≡ b → cond b (Some (at, p.width)) (found_from (at + 1) name ps) ≡ Some f →
    (found_from (at + 1) name ps ≡ Some f → IsAt (at + 1) name ps f) → IsAt at name (p ∷ ps) f
found_if at name p ps f true same e more = record {
  place = 0;
  port = p;
  there = refl;
  is = let g : (at, p.width) ≡ f = some_one e in sym (ap (λ (x : ℕ × ℕ). x.0) g) ∙ omega arith;
  named = bytes_same p.name name same;
  width = ap (λ (x : ℕ × ℕ). x.1) (some_one e);
}
found_if at name p ps f false same e more =
    let m = more e in
    record { place = suc m.place; port = m.port; there = m.there; is = m.is ∙ omega arith; named = m.named; width = m.width }

is_found : (at : ℕ) (name : List ℕ) (ps : List Port) (f : ℕ × ℕ) → found_from at name ps ≡ Some f → IsAt at name ps f
is_found at name [] f e = absurd (none_some e)
is_found at name (p ∷ ps) f e = found_if at name p ps f (bytes_eq p.name name) refl e (λ m. is_found (at + 1) name ps f m)

-- what is found is a port of the name
pub found_is : (name : List ℕ) (ps : List Port) (f : ℕ × ℕ) → found name ps ≡ Some f → (port : Port) × (slice_get ps f.0 ≡ Some port) × (port.name ≡ name) × (port.width ≡ f.1)
found_is name ps f e =
    let m = is_found 0 name ps f e in
    let is : m.place ≡ f.0 = omega (arith, m.is) in
    (m.port, subst (λ i. slice_get ps i ≡ Some m.port) is m.there, m.named, m.width)

none_if : (name : List ℕ) (p : Port) (rest : Option (ℕ × ℕ)) (f : ℕ × ℕ) (b : Bool) → bytes_eq p.name name ≡ b → cond b (Some f) rest ≡ None → (p.name ≢ name) × (rest ≡ None)
none_if name p rest f true same e = absurd (none_some (sym e))
none_if name p rest f false same e = ((λ is. let t = same_bytes p.name name is in cc), e)

none_named : (at : ℕ) (name : List ℕ) (ps : List Port) → found_from at name ps ≡ None → All (λ p. p.name ≢ name) ps
none_named at name [] e = All-nil (λ (p : Port). p.name ≢ name)
none_named at name (p ∷ ps) e =
    let parts = none_if name p (found_from (at + 1) name ps) (at, p.width) (bytes_eq p.name name) refl e in
    All-cons (λ (p : Port). p.name ≢ name) p ps parts.0 (none_named (at + 1) name ps parts.1)

-- nothing is found where no port has the name
pub new_from : (name : List ℕ) (ps : List Port) → found name ps ≡ None → All (λ p. p.name ≢ name) ps
new_from name ps e = none_named 0 name ps e
