-- A function, of what was read of its line.
use Rattle.std.proofs.Common.{◌≡◌, ℕ, List, drop, refl}
use Rattle.nt_core.specs.FunctionLine.{FunctionLine}
use Rattle.nt_read.specs.Words.{greatest, word_of, after_word, widths, after_widths}
use Rattle.nt_read.specs.Sketch.{function_told}

abbrev pub function : List ℕ → List ℕ → List ℕ → FunctionLine
function name ins rets = record { name = name; ins = ins; rets = rets }

pub function_is : (text name ins s rets t : List ℕ) → name ≡ word_of text → ins ≡ widths greatest 16 s → s ≡ drop 3 (after_word text)
    → rets ≡ widths greatest 16 t → t ≡ drop 4 (after_widths 16 (drop 3 (after_word text))) → function name ins rets ≡ function_told greatest text
unfolding function_told
function_is text name ins s rets t name_is ins_is s_is rets_is t_is = rw (name_is, ins_is, s_is, rets_is, t_is) refl
