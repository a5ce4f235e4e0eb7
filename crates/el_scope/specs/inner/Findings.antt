-- What a pass found. All of it is this project's own.
use Rattle.std.specs.Prelude.{◌≡◌, ◌<◌, Option, Some, None, Result, Ok, Err, IfSome, length}
use Rattle.xt_base.specs.declared.refusals.Refusal.{Refusal}
use Rattle.xt_base.specs.declared.refusals.Fail.{Fail}
use Rattle.xt_base.specs.declared.refusals.Fail.TheVariants as fails
use Rattle.el_scope.specs.Table.{SymbolTable}

-- the first break that was found so far, over a symbol table
pub record Findings : Type 0 where
  pub table : SymbolTable
  pub first : Option Refusal

-- its place is in a file of the text
abbrev pub IsNamed : SymbolTable → Option Refusal → Type 0
IsNamed t first = IfSome first (λ broken. 0 < length t.files → broken.place.file < length t.files)

-- a refusal at the first break, or nothing where there is none
abbrev pub IsAnswer : Findings → Result (Unit {0}) Fail → Type 0
IsAnswer f (Ok done) = f.first ≡ None
IsAnswer f (Err (fails.Refused broken)) = f.first ≡ Some broken
IsAnswer f (Err fails.Memory) = ⊥
