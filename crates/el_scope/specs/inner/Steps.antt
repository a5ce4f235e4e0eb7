-- Where a name of a path leads. All of it is this project's own.
use Rattle.std.specs.Prelude.{ℕ, Option, Some, None, Result, Ok, Err, if◌then◌else◌}
use Rattle.vl_names.specs.declared.kinds.Declaration.{Declaration}
use Rattle.el_scope.specs.Kinds.{may_end}

-- into the scope of a block or task, or to the rule that it breaks
abbrev pub step_of : Option Declaration → Result ℕ ℕ
step_of None = Err 30
step_of (Some d) = if may_end d.entity.kind then Ok d.entity.at else Err 33
