-- Macros as they are kept, without where their parts lie. This project's own.
use Rattle.std.specs.Prelude.{ℕ, List, map, Option, Some, None}
use Rattle.std.specs.declared.vec.Vec.{Vec}
use Rattle.vl_pre.specs.Macros.{Meaning, Definition}
use Rattle.vl_pre.specs.declared.macros.Macro.{Macro}
use Rattle.vl_pre.specs.declared.macros.Defined.{Defined}

abbrev pub names_seen : {Z : Type 0} → List (Vec ℕ Z) → List (List ℕ)
names_seen names = map (λ n. n.items) names

abbrev pub formals_seen : {Y Z : Type 0} → Option (Vec (Vec ℕ Z) Y) → Option (List (List ℕ))
formals_seen None = None
formals_seen (Some names) = Some (names_seen names.items)

abbrev pub macro_seen : Macro → Meaning
macro_seen macro = record { formals = formals_seen macro.formals; text = macro.text.items }

abbrev pub defined_seen : Defined → Definition
defined_seen defined = record { name = defined.name.items; meaning = macro_seen defined.meaning }
