-- What a function line tells. It is this project's own.
use Rattle.std.specs.Prelude.{ℕ, List}

-- a function of the host: its name, and the widths of its inputs and of the items of its reply
pub record FunctionLine : Type 0 where
  pub name : List ℕ
  pub ins : List ℕ
  pub rets : List ℕ
