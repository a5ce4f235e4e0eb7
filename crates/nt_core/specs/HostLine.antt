-- The pins of a process with host calls. They are this project's own.
use Rattle.std.specs.Prelude.{ℕ, List}

-- a process, and the widths of its reply pins and of its argument pins
pub record HostLine : Type 0 where
  pub process : ℕ
  pub rets : List ℕ
  pub args : List ℕ
