-- Which kinds of names may stand where (IEEE 1364-2005: operands 5.2, `assign` 6.1, procedural assignments 9.2, tasks 10.2, `disable`
-- 10.3, functions 10.4). That the clock of a wait is a net is this project's own.
use Rattle.std.specs.Prelude.{Bool, true, false, ◌||◌, ◌&&◌}
use Rattle.vl_names.specs.declared.kinds.EntityKind.{EntityKind}
use Rattle.vl_names.specs.declared.kinds.EntityKind.TheVariants as kind
use Rattle.vl_names.specs.declared.kinds.Declaration.{Declaration}
use Rattle.vl_names.specs.declared.kinds.Role.{Role}
use Rattle.vl_names.specs.declared.kinds.Role.TheVariants as role
use Rattle.vl_names.specs.declared.kinds.Selects.{Selects}
use Rattle.vl_names.specs.declared.kinds.Selects.TheVariants as selects

abbrev pub is_param : EntityKind → Bool
is_param kind.Param = true
is_param _ = false

abbrev pub is_net : EntityKind → Bool
is_net kind.Net = true
is_net _ = false

abbrev pub is_memory : EntityKind → Bool
is_memory kind.Memory = true
is_memory _ = false

-- a variable that is no memory; in a function its own name is one, its result
abbrev pub is_variable : Bool → EntityKind → Bool
is_variable inside kind.Var = true
is_variable inside kind.Function = inside
is_variable inside _ = false

-- what has a value of its own to select from: `one` says which kinds without words
abbrev pub may_select : Selects → Bool → Bool → Declaration → Bool
may_select selects.Alone alone one d = alone
may_select selects.Index alone one d = is_memory d.entity.kind || one && d.ranged
may_select selects.Part alone one d = one && d.ranged
may_select selects.Two alone one d = is_memory d.entity.kind && d.ranged

-- in an expression: a parameter, net or variable; with a select a net or variable that has bits to select; the word of a memory, and a
-- select of it
abbrev pub may_read : Selects → Bool → Declaration → Bool
may_read ss inside d =
    let k = d.entity.kind in
    may_select ss (is_param k || is_net k || is_variable inside k) (is_net k || is_variable inside k) d

-- on the left of a procedural assignment: a variable, with a select or without; the word of a memory, and a select of it
abbrev pub may_store : Selects → Bool → Declaration → Bool
may_store ss inside d = let k = d.entity.kind in may_select ss (is_variable inside k) (is_variable inside k) d

abbrev pub may_call : EntityKind → Bool
may_call kind.Function = true
may_call kind.Import = true
may_call _ = false

abbrev pub may_enable : EntityKind → Bool
may_enable kind.Task = true
may_enable kind.Import = true
may_enable _ = false

-- what a `disable` ends
abbrev pub may_end : EntityKind → Bool
may_end kind.Block = true
may_end kind.Task = true
may_end _ = false

-- whether a name may stand in a role; `inside` says whether it is the own name of a function in which it stands
abbrev pub may_stand : Role → Bool → Declaration → Bool
may_stand (role.Read ss) inside d = may_read ss inside d
may_stand (role.Stored ss) inside d = may_store ss inside d
may_stand role.Counted inside d = is_variable inside d.entity.kind
may_stand role.Driven inside d = is_net d.entity.kind
may_stand role.Called inside d = may_call d.entity.kind
may_stand role.Enabled inside d = may_enable d.entity.kind
may_stand role.Waited inside d = is_net d.entity.kind
