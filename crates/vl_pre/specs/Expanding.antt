-- Expansions as they are kept. This project's own.
use Rattle.std.specs.Prelude.{◌≡◌, ◌≤◌, ℕ, List, take, drop, length}
use Rattle.vl_pre.specs.Pieces.{Piece}
use Rattle.vl_pre.specs.Cursors.{left, IsWithin}
use Rattle.vl_pre.specs.MacroViews.{names_seen}
use Rattle.vl_pre.specs.Tables.{table_of}
use Rattle.vl_pre.specs.Uses.{Setting, Expansion, Expander, Used, Given, nested, expansion}
use Rattle.vl_pre.specs.declared.table.Table.{Table}
use Rattle.vl_pre.specs.declared.uses.Context.{Context}
use Rattle.vl_pre.specs.declared.uses.Argument.{Argument}
use Rattle.vl_pre.specs.declared.uses.Progress.{Progress}
use Rattle.std.specs.declared.vec.Vec.{Vec}

-- the pieces of an argument
abbrev pub argument_pieces : List ℕ → Argument → List Piece
argument_pieces text argument = left (take argument.end text) argument.start

-- an argument lies in the text
pub record IsInside (text : List ℕ) (argument : Argument) : Type 0 where
  pub ends : argument.end ≤ length text
  pub begins : IsWithin (take argument.end text) argument.start

abbrev pub setting_seen : Table → Progress → Context → Setting
setting_seen table progress context = record { macros = table_of table; forbidden = names_seen progress.forbidden.items; context = context }

abbrev pub expansion_seen : {Z : Type 0} → Vec ℕ Z → Progress → Expansion
expansion_seen bytes progress = record { bytes = bytes.items; uses = progress.uses }

-- a use leaves this expansion, and these pieces of those before it
abbrev pub Leaves : Expansion → List Piece → List Piece → Used → Type 0
Leaves done pieces rest used = (used.done ≡ done) × (rest ≡ drop used.size pieces)

-- the arguments have these texts, and so many uses were counted
abbrev pub HasTexts : List (List ℕ) → ℕ → Given → Type 0
HasTexts texts uses given = (given.texts ≡ texts) × (given.uses ≡ uses)

-- how a text is expanded in which n uses may stand in one another
abbrev pub expander : ℕ → Expander
expander n setting pieces done = expansion (nested n) setting 0 pieces done
