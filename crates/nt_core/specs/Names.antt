-- Names of pins in a design text.
use Rattle.std.specs.Prelude.{ℕ, Bool, not, ◌&&◌, List, nat_eq, codes}
use Rattle.std.specs.List.{starts_with}
use Rattle.xt_base.specs.Identifiers.{is_identifier}

-- a pin's name: an identifier that doesn't begin as the design's own names do, which is this project's own
abbrev pub is_pin_name : List ℕ → Bool
is_pin_name name = is_identifier name && not (starts_with nat_eq name (codes "xtc_"))
