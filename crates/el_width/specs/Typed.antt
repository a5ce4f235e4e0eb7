-- What clause 5 of IEEE 1364-2005 says of a source expression.
use Rattle.std.specs.Prelude.{ℕ, Bool, List, ℤ}
use Rattle.xt_base.specs.declared.refusals.Refusal.{Refusal}
use Rattle.xt_bits.specs.Word.{Word}
use Rattle.el_design.specs.Plain.{Flat}
use Rattle.el_design.specs.Value.{Scene}
use Rattle.el_width.specs.declared.selects.Taken.{Taken}
use Rattle.el_width.specs.Operands.{Operand}

pub record Typed : Type 0 where
  -- its length and sign, and its typed form at those of a context
  pub operand : Operand
  -- what is broken in it, apart from the divisors that its context brings to a length; the Bool says whether it must be constant
  pub broken : Bool → List Refusal
  -- its value in a design and a scene, at a length and a sign
  pub value : Flat → Scene → ℕ → Bool → Word

-- a select: the lowest bit that it takes, as declared, and how many bits; and the index of a word, for which only a plain index stands
pub record Spanned : Type 0 where
  pub index : Flat → Scene → ℤ
  pub lowest : Flat → Scene → ℤ
  pub width : ℕ

pub record Chosen : Type 0 where
  pub taken : Taken
  pub broken : Bool → List Refusal
  pub span : Spanned
