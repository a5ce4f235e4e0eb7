-- The lines of all bodies of a design, and of its nets' expressions. This project's own.
use Rattle.std.specs.Prelude.{List, [], ◌∷◌, Option, Some, None, map, flat_map}
use Rattle.xt_base.specs.declared.refusals.Place.{Place}
use Rattle.el_design.specs.Plain.{Expr, FlatNet, Flat}
use Rattle.ck_call.specs.declared.lines.Form.TheVariants as form
use Rattle.ck_call.specs.declared.lines.Line.{Line}
use Rattle.ck_call.specs.declared.texts.Texts.{Texts}
use Rattle.ck_call.specs.inner.Nodes.{named}
use Rattle.ck_call.specs.inner.Lines.{lines}

-- a net's expression is a line too, at the place of the net
abbrev pub value_line : Place → Expr → Line
value_line at e = record { at = at; form = form.Other; nodes = named e; stored = []; weight = 0 }

abbrev pub value_lines : Place → Option Expr → List Line
value_lines at None = []
value_lines at (Some e) = value_line at e ∷ []

abbrev pub net_lines : FlatNet → List Line
net_lines n = value_lines n.place n.value

abbrev pub texts_of : Flat → Texts
texts_of d = record {
  procs = map (λ p. lines p.body) d.procs;
  tasks = map (λ t. lines t.body) d.tasks;
  funcs = map (λ f. lines f.body) d.funcs;
  nets = flat_map net_lines d.nets;
}
