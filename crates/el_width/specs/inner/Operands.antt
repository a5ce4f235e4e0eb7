-- Operands as the code holds them, for its private contracts. All of it is this project's own.
use Rattle.std.specs.Prelude.{◌&&◌, true, List, [], ◌∷◌, ◌++◌, map, fold, Some, None}
use Rattle.el_width.specs.declared.operands.Operand as code
use Rattle.el_width.specs.declared.operands.Alone.{Alone}
use Rattle.el_width.specs.declared.operands.Parts.{Parts}
use Rattle.el_width.specs.Lengths.{plus}
use Rattle.el_width.specs.Operands.{Operand, by_itself, total_length, all_constant, forms_of, known_next}
use Rattle.el_width.specs.inner.Open.{made_of, made_view}

-- the operand that a value of the code stands for
abbrev pub operand_of : code.Operand → Operand
operand_of o = record { token = o.token; length = o.length; signed = o.signed; constant = o.constant; at = made_of o.expr }

-- an operand that stands by itself
abbrev pub alone_view : Operand → Alone
alone_view a = record { length = a.length; signed = a.signed; constant = a.constant; made = made_view (by_itself a) }

-- the same as an operand again
abbrev pub alone_operand : Alone → Operand
alone_operand x = record { token = 0; length = x.length; signed = x.signed; constant = x.constant; at = λ w s. record { form = x.made.form; known = x.made.known; broken = [] } }

-- parts of a concatenation, one after the other
abbrev pub no_parts : Parts
no_parts = record { length = Some 0; constant = true; forms = []; joined = None }

abbrev pub parts_next : Parts → Operand → Parts
parts_next p a = record {
  length = plus p.length a.length;
  constant = p.constant && a.constant;
  forms = p.forms ++ (by_itself a).form ∷ [];
  joined = known_next p.joined (by_itself a).known;
}

-- all of them
abbrev pub parts_of : List Operand → Parts
parts_of ps = record {
  length = total_length ps;
  constant = all_constant ps;
  forms = forms_of ps;
  joined = fold known_next None (map (λ a. (by_itself a).known) ps);
}
