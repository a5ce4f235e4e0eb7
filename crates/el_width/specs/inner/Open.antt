-- What an expression whose context isn't known yet becomes at a length and a sign: the code's form of an operand, for its private contracts. All of it is this project's own.
use Rattle.std.specs.Prelude.{ℕ, Bool, [], ◌++◌}
use Rattle.el_design.specs.declared.expressions.Kind.TheVariants as kind
use Rattle.el_width.specs.declared.made.Made as code
use Rattle.el_width.specs.declared.made.Open.{Open}
use Rattle.el_width.specs.declared.made.Open.TheOpen.{Open-F, Own, Unary, Together, Shifts, Choice}
use Rattle.el_width.specs.declared.made.Open.TheFolds.{fold-Open}
use Rattle.el_width.specs.Operands.{Made, brought, brought_value, made_at, known_unary, known_binary, known_choice, divisor_breaks}

abbrev pub open_step : Open-F (ℕ → Bool → Made) → ℕ → Bool → Made
open_step (Own own) = λ w s. record { form = brought w s own.form; known = brought_value w s own.known; broken = [] }
open_step (Unary op a) = λ w s. made_at w s (kind.Unary op (a w s).form) (known_unary op (a w s).known) (a w s).broken
open_step (Together op a b divisor) = λ w s. made_at w s (kind.Binary op (a w s).form (b w s).form) (known_binary op s (a w s).known (b w s).known)
    ((a w s).broken ++ (b w s).broken ++ divisor_breaks op w divisor.constant (b w s).known divisor.refusal)
open_step (Shifts op a amount) = λ w s. made_at w s (kind.Binary op (a w s).form amount.form) (known_binary op s (a w s).known amount.known) (a w s).broken
open_step (Choice test a b) = λ w s. made_at w s (kind.Choice test.form (a w s).form (b w s).form) (known_choice test.known (a w s).known (b w s).known)
    ((a w s).broken ++ (b w s).broken)

abbrev pub made_of : Open → ℕ → Bool → Made
made_of = fold-Open (ℕ → Bool → Made) open_step

abbrev pub made_view : Made → code.Made
made_view m = record { form = m.form; known = m.known }
