-- Numbers as they are written (IEEE 1364-2005, 3.5.1). That an unsized one has 32 bits, and is refused where it doesn't fit them, is this project's own.
use Rattle.std.specs.Prelude.{ℕ, ◌^◌, Bool, true, nat_lt, Option, Some, None, if◌then◌else◌}
use Rattle.xt_bits.specs.Word.{word}
use Rattle.vl_lex.specs.Numbers.{number_of, based_number}
use Rattle.el_width.specs.declared.numbers.Literal.{Literal}
use Rattle.el_width.specs.Environment.{Environment, spelled}
use Rattle.el_width.specs.Lengths.{in_range, capped}

-- a number without a size
abbrev pub unsized : Bool → ℕ → Literal
unsized signed n = record { width = 32; signed = signed; bits = word 32 n; fits = nat_lt n (2 ^ 32) }

-- a number whose size is out of range has no bits to speak of
abbrev pub kept_width : ℕ → ℕ
kept_width size = if in_range size then size else 1

-- a number behind its size loses the bits past it
abbrev pub sized : Bool → ℕ → ℕ → Literal
sized signed size n = record { width = capped size; signed = signed; bits = word (kept_width size) n; fits = in_range size }

abbrev pub based : Environment → Option ℕ → ℕ → Literal
based env None number = let n = based_number (spelled env number) in unsized n.signed n.value
based env (Some size) number = let n = based_number (spelled env number) in sized n.signed (number_of 10 (spelled env size)) n.value

-- a number without a base is signed
abbrev pub decimal : Environment → ℕ → Literal
decimal env number = unsized true (number_of 10 (spelled env number))
