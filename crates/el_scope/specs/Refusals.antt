-- How a pass answers. It is this project's own.
use Rattle.std.specs.Prelude.{◌<◌, List, Contains, length}
use Rattle.xt_base.specs.First.{IsFirst}
use Rattle.xt_base.specs.declared.refusals.Refusal.{Refusal}
use Rattle.xt_base.specs.declared.refusals.Fail.{Fail}
use Rattle.xt_base.specs.declared.refusals.Fail.TheVariants as fails
use Rattle.el_scope.specs.Table.{SymbolTable}

-- it refuses at the first of some breaks, which is in a file of the text, or has no memory
abbrev pub Refuses : SymbolTable → List Refusal → Fail → Type 0
Refuses t breaks (fails.Refused broken) = IsFirst (Contains breaks) broken × (0 < length t.files → broken.place.file < length t.files)
Refuses t breaks fails.Memory = Unit {0}
