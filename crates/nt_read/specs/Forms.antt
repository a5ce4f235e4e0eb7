-- Forms, read without looking whether what stands between their words is as it has to be. All of it is this project's own.
use Rattle.std.specs.Prelude.{ℕ, ◌==◌, List, drop, get_or, nat_eq, codes, bytes_eq, min, if◌then◌else◌}
use Rattle.std.specs.List.{starts_with, position_or_len}
use Rattle.xt_base.specs.Identifiers.{begins_word}
use Rattle.nt_core.specs.declared.netlist.Op.{Op}
use Rattle.nt_core.specs.declared.netlist.Op.TheVariants.{Pin, Ack, Ret, Reg, Const, Word, Not, And, Or, Xor, Add, Sub, Mul, Div, Rem, SDiv, SRem, Shl, Shr, Sar, Eq, Lt, SLt, Parity, Choice, Concat, Slice, Copies}
use Rattle.nt_read.specs.Words.{is_digit, number, after_number, word_of, constant}

-- what follows a name of the design's own, `xtc_`, a letter and a number
abbrev pub after_own : List ℕ → List ℕ
after_own text = after_number (drop 5 text)

-- the place of a name, their count where it isn't among them
abbrev pub place_of : List (List ℕ) → List ℕ → ℕ
place_of names name = position_or_len (λ k. bytes_eq name k) names

-- what is read where no number is greater than this
module _ (most : ℕ) where
  -- the number of a name of the design's own, as of node `xtc_n` and its number
  abbrev pub own : List ℕ → ℕ
  own text = number most (drop 5 text)

  -- after node a: a choice, or what compares or shifts, told by the byte at 1, of which 63 is `?`, 62 `>` and 61 `=`, or by the one at 2, 60 for `<`
  abbrev pub comparison_form : ℕ → List ℕ → Op
  comparison_form a text =
      if get_or text 1 0 == 63 then Choice a (own (drop 3 text)) (own (drop 3 (after_own (drop 3 text)))) else
      (if get_or text 1 0 == 62 then Shr a (own (drop 4 text)) else
      (if get_or text 1 0 == 61 then Eq a (own (drop 4 text)) else
      (if get_or text 2 0 == 60 then Shl a (own (drop 4 text)) else
      Lt a (own (drop 3 text)))))

  -- after node a: a slice, told by its first byte, 91 for `[`, or an operator between blanks, told by the byte at 1: 38 is `&`, 124 `|`, 94 `^`, 43 `+`, 45 `-`, 42 `*`, 47 `/` and 37 `%`
  abbrev pub infix_form : ℕ → List ℕ → Op
  infix_form a text =
      if get_or text 0 0 == 91 then Slice a (number most (drop 1 text)) (number most (drop 1 (after_number (drop 1 text)))) else
      (if get_or text 1 0 == 38 then And a (own (drop 3 text)) else
      (if get_or text 1 0 == 124 then Or a (own (drop 3 text)) else
      (if get_or text 1 0 == 94 then Xor a (own (drop 3 text)) else
      (if get_or text 1 0 == 43 then Add a (own (drop 3 text)) else
      (if get_or text 1 0 == 45 then Sub a (own (drop 3 text)) else
      (if get_or text 1 0 == 42 then Mul a (own (drop 3 text)) else
      (if get_or text 1 0 == 47 then Div a (constant most 2 (drop 3 text)) else
      (if get_or text 1 0 == 37 then Rem a (constant most 2 (drop 3 text)) else
      comparison_form a text))))))))

  -- after node a as signed: told by the byte at 1, 47 for `/`, 37 for `%`, 62 for `>`
  abbrev pub signed_form : ℕ → List ℕ → Op
  signed_form a text =
      if get_or text 1 0 == 47 then SDiv a (constant most 3 (drop 3 text)) else
      (if get_or text 1 0 == 37 then SRem a (constant most 3 (drop 3 text)) else
      (if get_or text 1 0 == 62 then Sar a (own (drop 5 text)) else
      SLt a (own (drop 11 text))))

  -- after a process's number: its acknowledgement, told by the byte at 1, 97 for `a`, or an item of its reply
  abbrev pub host_form : ℕ → ℕ → List ℕ → Op
  host_form w p text = if get_or text 1 0 == 97 then Ack p else Ret p (number most (drop 4 text)) w

  -- after `xtc_`: told by the byte that follows, 110 for `n`, 109 for `m`, 114 for `r`
  abbrev pub own_form : ℕ → List ℕ → Op
  own_form w text =
      if get_or text 4 0 == 110 then infix_form (own text) (after_own text) else
      (if get_or text 4 0 == 109 then Word (own text) (own (drop 1 (after_own text))) w else
      (if get_or text 4 0 == 114 then Reg (own text) w else
      host_form w (own text) (after_own text)))

  -- in braces: copies, which begin with their number, or a concatenation
  abbrev pub braced_form : List ℕ → Op
  braced_form text =
      if is_digit (get_or text 1 0) then Copies (own (drop 1 (after_number (drop 1 text)))) (number most (drop 1 text)) else
      Concat (own (drop 1 text)) (own (drop 2 (after_own (drop 1 text))))

  -- what begins with none of a digit and a letter: told by its first byte, 126 for `~`, 94 for `^`, 36 for `$`
  abbrev pub marked_form : List ℕ → Op
  marked_form text =
      if get_or text 0 0 == 126 then Not (own (drop 1 text)) else
      (if get_or text 0 0 == 94 then Parity (own (drop 1 text)) else
      (if get_or text 0 0 == 36 then signed_form (own (drop 8 text)) (drop 1 (after_own (drop 8 text))) else
      braced_form text))

  -- the form of a node of width w, over the names of the pins
  abbrev pub form : List (List ℕ) → ℕ → List ℕ → Op
  form names w text =
      if is_digit (get_or text 0 0) then Const (constant most 2 text) else
      (if starts_with nat_eq text (codes "xtc_") then own_form w text else
      (if begins_word (get_or text 0 0) then Pin (min (place_of names (word_of text)) most) w else
      marked_form text))
