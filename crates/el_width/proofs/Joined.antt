-- Parts that are put together one by one are all of them.
use Rattle.std.proofs.Common.{◌≡◌, ◌&&◌, List, [], ◌∷◌, ◌++◌, map, sym, ◌∙◌, ap}
use Rattle.std.specs.Prelude.{fold}
use Rattle.std.proofs.lemmas.List.{append_assoc, append-nil}
use Rattle.el_width.specs.declared.operands.Parts.{Parts}
use Rattle.el_width.specs.Lengths.{plus}
use Rattle.el_width.specs.Operands.{Operand, by_itself, forms_of, known_next}
use Rattle.el_width.specs.inner.Operands.{no_parts, parts_next, parts_of}

abbrev after : Parts → List Operand → Parts
after p ps = record {
  length = fold plus p.length (map (λ a. a.length) ps);
  constant = fold (λ all a. all && a.constant) p.constant ps;
  forms = p.forms ++ forms_of ps;
  joined = fold known_next p.joined (map (λ a. (by_itself a).known) ps);
}

parts_from : (p : Parts) (ps : List Operand) → fold parts_next p ps ≡ after p ps
parts_from p [] = ap (λ fs. record { length = p.length; constant = p.constant; forms = fs; joined = p.joined }) (sym (append-nil p.forms))
parts_from p (a ∷ ps) = parts_from (parts_next p a) ps ∙ ap (λ fs. record {
  length = fold plus (plus p.length a.length) (map (λ a. a.length) ps);
  constant = fold (λ all a. all && a.constant) (p.constant && a.constant) ps;
  forms = fs;
  joined = fold known_next (known_next p.joined (by_itself a).known) (map (λ a. (by_itself a).known) ps);
}) (append_assoc p.forms ((by_itself a).form ∷ []) (forms_of ps))

pub parts_are : (ps : List Operand) → fold parts_next no_parts ps ≡ parts_of ps
parts_are ps = parts_from no_parts ps
