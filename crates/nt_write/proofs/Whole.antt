-- The text of a design, of the texts of its parts.
use Rattle.std.proofs.Common.{◌≡◌, ◌++◌, sym, ap, ◌∙◌}
use Rattle.nt_core.specs.Parts.{Parts}
use Rattle.nt_core.specs.Text.{head_lines, input_lines, output_lines, declaration_lines, assign_lines, clock_lines, text_of}
use Rattle.nt_write.specs.Lines.{lines}
use Rattle.nt_write.proofs.LineLists.{lines-append}

-- the text of a design is that of its parts
pub text_parts : (n : Parts) → lines (head_lines n) ++ lines (input_lines n) ++ lines (output_lines n) ++ lines (declaration_lines n) ++ lines (assign_lines n) ++ lines (clock_lines n) ≡ text_of n
text_parts n = sym (
    lines-append (head_lines n ++ input_lines n ++ output_lines n ++ declaration_lines n ++ assign_lines n) (clock_lines n)
    ∙ ap (λ t. t ++ lines (clock_lines n)) (lines-append (head_lines n ++ input_lines n ++ output_lines n ++ declaration_lines n) (assign_lines n)
    ∙ ap (λ t. t ++ lines (assign_lines n)) (lines-append (head_lines n ++ input_lines n ++ output_lines n) (declaration_lines n)
    ∙ ap (λ t. t ++ lines (declaration_lines n)) (lines-append (head_lines n ++ input_lines n) (output_lines n)
    ∙ ap (λ t. t ++ lines (output_lines n)) (lines-append (head_lines n) (input_lines n))))))
