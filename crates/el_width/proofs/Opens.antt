-- What each form of an expression whose context isn't known yet becomes.
use Rattle.std.proofs.Common.{◌≡◌, ℕ, Bool, sym, ◌∙◌, ap}
use Rattle.el_design.specs.declared.expressions.UnOp.{UnOp}
use Rattle.el_design.specs.declared.expressions.BinOp.{BinOp}
use Rattle.el_width.specs.declared.made.Made as code
use Rattle.el_width.specs.declared.made.Divisor.{Divisor}
use Rattle.el_width.specs.declared.made.Open.{Open}
use Rattle.el_width.specs.declared.made.Open.TheVariants as form
use Rattle.el_width.specs.declared.made.Open.TheOpen as layer
use Rattle.el_width.specs.declared.made.Open.TheFolds.{fold-roll-Open}
use Rattle.el_width.specs.Operands.{Made}
use Rattle.el_width.specs.inner.Open.{open_step, made_of}

pub own_is : (own : code.Made) → made_of (form.Own own) ≡ open_step (layer.Own own)
own_is own = ap made_of (sym (form.rolls-Own own)) ∙ fold-roll-Open (ℕ → Bool → Made) open_step (layer.Own own)

pub unary_is : (op : UnOp) (a : Open) → made_of (form.Unary op a) ≡ open_step (layer.Unary op (made_of a))
unary_is op a = ap made_of (sym (form.rolls-Unary op a)) ∙ fold-roll-Open (ℕ → Bool → Made) open_step (layer.Unary op a)

pub together_is : (op : BinOp) (a b : Open) (divisor : Divisor) → made_of (form.Together op a b divisor) ≡ open_step (layer.Together op (made_of a) (made_of b) divisor)
together_is op a b divisor = ap made_of (sym (form.rolls-Together op a b divisor)) ∙ fold-roll-Open (ℕ → Bool → Made) open_step (layer.Together op a b divisor)

pub shifts_is : (op : BinOp) (a : Open) (amount : code.Made) → made_of (form.Shifts op a amount) ≡ open_step (layer.Shifts op (made_of a) amount)
shifts_is op a amount = ap made_of (sym (form.rolls-Shifts op a amount)) ∙ fold-roll-Open (ℕ → Bool → Made) open_step (layer.Shifts op a amount)

pub choice_is : (test : code.Made) (a b : Open) → made_of (form.Choice test a b) ≡ open_step (layer.Choice test (made_of a) (made_of b))
choice_is test a b = ap made_of (sym (form.rolls-Choice test a b)) ∙ fold-roll-Open (ℕ → Bool → Made) open_step (layer.Choice test a b)
