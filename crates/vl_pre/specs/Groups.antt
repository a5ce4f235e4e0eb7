-- Conditional compilation (IEEE 1364-2005, 19.4): the groups that are open, the innermost first.
use Rattle.std.specs.Prelude.{ℕ, Bool, true, false, not, ◌&&◌, ◌||◌, List, [], ◌∷◌, Option, Some, None, Result, Ok, Err, if◌then◌else◌}
use Rattle.vl_pre.specs.Pieces.{Piece}
use Rattle.vl_pre.specs.Breaks.{◌>>=◌, Break, breaks}
use Rattle.vl_pre.specs.declared.groups.Group.{Group}
use Rattle.vl_pre.specs.Directives.{name_behind, Operand}
use Rattle.vl_pre.specs.declared.directives.Directive.{Directive}
use Rattle.vl_pre.specs.declared.directives.Directive.TheVariants as directives

-- whether what follows is read: of a group in one that isn't read no part is
abbrev pub is_read : List Group → Bool
is_read [] = true
is_read (group ∷ groups) = group.reads

-- a group that opens on a condition
abbrev pub opened : ℕ → ℕ → Bool → List Group → List Group
opened stretch line holds groups =
    record { stretch = stretch; line = line; reads = is_read groups && holds; taken = not (is_read groups) || holds; last = false } ∷ groups

-- the next part of a group, on a condition: read where none was before
abbrev pub next_part : Bool → Group → Group
next_part holds group = record { stretch = group.stretch; line = group.line; reads = not group.taken && holds; taken = group.taken || holds; last = group.last }

-- its last part
abbrev pub last_part : Group → Group
last_part group = record { stretch = group.stretch; line = group.line; reads = not group.taken; taken = true; last = true }

-- the groups after a conditional directive, and how many pieces belong to it
pub record Turned : Type 0 where
  pub groups : List Group
  pub size : ℕ

abbrev pub is_conditional : Directive → Bool
is_conditional directives.Ifdef = true
is_conditional directives.Ifndef = true
is_conditional directives.Elsif = true
is_conditional directives.Else = true
is_conditional directives.Endif = true
is_conditional directives.Define = false
is_conditional directives.Undef = false
is_conditional directives.Include = false
is_conditional directives.Timescale = false
is_conditional directives.DefaultNettype = false
is_conditional directives.Bare = false

-- an operand that must be there
abbrev pub operand_at : ℕ → Option Operand → Result Operand Break
operand_at line None = breaks 11 line
operand_at line (Some operand) = Ok operand

-- `ifdef and `ifndef open a group
abbrev pub if_turn : Bool → (List ℕ → Bool) → ℕ → ℕ → List Piece → List Group → Result Turned Break
if_turn wanted defined stretch line pieces groups =
    operand_at line (name_behind pieces) >>= λ name.
    Ok (record { groups = opened stretch line (if wanted then defined name.text else not (defined name.text)) groups; size = name.size })

-- `elsif isn't behind `else, nor without a group
abbrev pub elsif_groups : ℕ → Bool → List Group → Result (List Group) Break
elsif_groups line holds [] = breaks 11 line
elsif_groups line holds (group ∷ groups) = if group.last then breaks 11 line else Ok (next_part holds group ∷ groups)

abbrev pub elsif_turn : (List ℕ → Bool) → ℕ → List Piece → List Group → Result Turned Break
elsif_turn defined line pieces groups =
    operand_at line (name_behind pieces) >>= λ name.
    elsif_groups line (defined name.text) groups >>= λ after.
    Ok (record { groups = after; size = name.size })

-- nor is a second `else
abbrev pub else_groups : ℕ → List Group → Result (List Group) Break
else_groups line [] = breaks 11 line
else_groups line (group ∷ groups) = if group.last then breaks 11 line else Ok (last_part group ∷ groups)

abbrev pub endif_groups : ℕ → List Group → Result (List Group) Break
endif_groups line [] = breaks 11 line
endif_groups line (group ∷ groups) = Ok groups

abbrev pub bare : Result (List Group) Break → Result Turned Break
bare (Ok groups) = Ok (record { groups = groups; size = 0 })
bare (Err broken) = Err broken

-- what a conditional directive does, with what is defined, its stretch and line, and what follows it
abbrev pub turned : Directive → (List ℕ → Bool) → ℕ → ℕ → List Piece → List Group → Result Turned Break
turned directives.Ifdef defined stretch line pieces groups = if_turn true defined stretch line pieces groups
turned directives.Ifndef defined stretch line pieces groups = if_turn false defined stretch line pieces groups
turned directives.Elsif defined stretch line pieces groups = elsif_turn defined line pieces groups
turned directives.Else defined stretch line pieces groups = bare (else_groups line groups)
turned directives.Endif defined stretch line pieces groups = bare (endif_groups line groups)
turned directives.Define defined stretch line pieces groups = breaks 11 line
turned directives.Undef defined stretch line pieces groups = breaks 11 line
turned directives.Include defined stretch line pieces groups = breaks 11 line
turned directives.Timescale defined stretch line pieces groups = breaks 11 line
turned directives.DefaultNettype defined stretch line pieces groups = breaks 11 line
turned directives.Bare defined stretch line pieces groups = breaks 11 line
