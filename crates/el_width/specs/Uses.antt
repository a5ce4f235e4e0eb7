-- What the names in an expression are used for, and what they have to stand for in a flat design. All of it is this project's own.
use Rattle.std.specs.Prelude.{◌≡◌, ◌+◌, ℕ, Bool, true, false, List, [], ◌∷◌, ◌++◌, Option, Some, None, All, flat_map, length, slice_get}
use Rattle.xt_bits.specs.Word.{IsKept}
use Rattle.vl_tree.specs.declared.exprs.Expr.{Expr}
use Rattle.vl_tree.specs.declared.exprs.Expr.TheOpen.{Expr-F, Select-F}
use Rattle.vl_tree.specs.declared.exprs.Expr.TheFolds.{fold-Expr}
use Rattle.el_design.specs.declared.designs.Import.{Import}
use Rattle.el_design.specs.declared.designs.Port.{Port}
use Rattle.el_design.specs.Plain.{FlatFunc, Flat}
use Rattle.el_design.specs.Sound.{IsWidth, IsPlainVariable, IsMemory, IsNet}
use Rattle.el_width.specs.declared.environment.Meaning.{Meaning}
use Rattle.el_width.specs.declared.environment.Meaning.TheVariants as meaning
use Rattle.el_width.specs.declared.environment.Object.{Object}
use Rattle.el_width.specs.Environment.{Environment, means}

-- a name in an expression: the token of one that is read, and whether its first select is an index; or of one that is called
pub data Use : Type 0 where
  Read : ℕ → Bool → Use
  Called : ℕ → Use

-- a select: whether it is an index, and the names in it
pub record Within : Type 0 where
  pub is_index : Bool
  pub uses : List Use

abbrev pub begins_with_index : List Within → Bool
begins_with_index [] = false
begins_with_index (t ∷ ts) = t.is_index

abbrev pub all_uses : List (List Use) → List Use
all_uses us = flat_map (λ u. u) us

abbrev pub select_uses : Select-F (List Use) Within → Within
select_uses (Select-F.Index at i) = record { is_index = true; uses = i }
select_uses (Select-F.Part at msb lsb) = record { is_index = false; uses = msb ++ lsb }
select_uses (Select-F.Up at base width) = record { is_index = false; uses = base ++ width }
select_uses (Select-F.Down at base width) = record { is_index = false; uses = base ++ width }

abbrev pub expr_uses : Expr-F (List Use) Within → List Use
expr_uses (Expr-F.Choice at test first second) = test ++ first ++ second
expr_uses (Expr-F.Binary at op left right) = left ++ right
expr_uses (Expr-F.Unary at op a) = a
expr_uses (Expr-F.Based at size number) = []
expr_uses (Expr-F.Decimal at number) = []
expr_uses (Expr-F.Name at name selects) = Read name (begins_with_index selects) ∷ flat_map (λ t. t.uses) selects
expr_uses (Expr-F.Call at name args) = Called name ∷ all_uses args
expr_uses (Expr-F.Sign at sign value) = value
expr_uses (Expr-F.Concat at parts) = all_uses parts
expr_uses (Expr-F.Replicate at count parts) = count ++ all_uses parts

abbrev pub uses_of : Expr → List Use
uses_of = fold-Expr (List Use) Within expr_uses select_uses

-- ---- what they stand for

-- a parameter's value is a vector; a net, variable or memory is that of the design, and of a memory one word is read; a routine's name alone is its result
abbrev pub IsRead : Flat → Meaning → Bool → Type 0
IsRead d (meaning.Parameter value signed) indexed = IsKept value.width value.value
IsRead d (meaning.Net o) indexed = IsWidth o.width × IsNet d o.number o.width
IsRead d (meaning.Variable o) indexed = IsWidth o.width × IsPlainVariable d o.number o.width
IsRead d (meaning.Memory o) indexed = (indexed ≡ true) × IsWidth o.width × IsMemory d o.number o.width
IsRead d (meaning.Routine r) indexed = (o : Object) × (r.result ≡ Some o) × IsWidth o.width × IsPlainVariable d o.number o.width
IsRead d m indexed = ⊥

-- variables, one by one, have these widths
abbrev pub HaveWidths : Flat → List ℕ → List ℕ → Type 0
HaveWidths d [] [] = Unit {0}
HaveWidths d (v ∷ vs) (w ∷ ws) = IsPlainVariable d v w × HaveWidths d vs ws
HaveWidths d [] (w ∷ ws) = ⊥
HaveWidths d (v ∷ vs) [] = ⊥

-- what a call of a number has: the function's variables have these widths, or it is an import
pub data IsRoutine (d : Flat) (w f : ℕ) (formals : List ℕ) : Type 0 where
  of_function : {g : FlatFunc} → slice_get d.funcs f ≡ Some g → IsPlainVariable d g.result w → HaveWidths d g.ins formals → IsRoutine d w f formals
  of_import : (i : ℕ) → {g : Import} {p : Port} → f ≡ length d.funcs + i → slice_get d.imports i ≡ Some g → g.result ≡ Some p → p.width ≡ w → IsRoutine d w f formals
  of_void : (i : ℕ) → {g : Import} → f ≡ length d.funcs + i → slice_get d.imports i ≡ Some g → g.result ≡ None → w ≡ 1 → IsRoutine d w f formals

abbrev pub IsCalled : Flat → Meaning → Type 0
IsCalled d (meaning.Routine r) = IsWidth r.width × All IsWidth r.formals × IsRoutine d r.width r.number r.formals
IsCalled d m = ⊥

abbrev pub FitsUse : Flat → Environment → Use → Type 0
FitsUse d env (Read name indexed) = IsRead d (means env name) indexed
FitsUse d env (Called name) = IsCalled d (means env name)

-- each name in an expression is one of the design
abbrev pub NamesFit : Flat → Environment → Expr → Type 0
NamesFit d env e = All (FitsUse d env) (uses_of e)

-- a context's width is in range
abbrev pub IsContext : Option (ℕ × Bool) → Type 0
IsContext None = Unit {0}
IsContext (Some c) = IsWidth c.0
