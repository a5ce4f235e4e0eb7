-- A text as a list of lines: one for each statement, with what it itself is, names, stores to and weighs. This project's own.
use Rattle.std.specs.Prelude.{ℕ, List, [], ◌∷◌, ◌++◌, true, Option, Some, None, is_some, length}
use Rattle.std.specs.List.{list_any}
use Rattle.el_design.specs.Plain.{Lvalue, Statement, Skip, Seq, Block, Assign, If, Case, Arm, For, While, Repeat, Forever, Wait, Enable, Disable, Host}
use Rattle.el_design.specs.Names.{place_of_statement, target_variables, is_nowhere}
use Rattle.el_design.specs.View.{parts_of, PlainArm}
use Rattle.ck_call.specs.declared.lines.Form.{Form}
use Rattle.ck_call.specs.declared.lines.Form.TheVariants as form
use Rattle.ck_call.specs.declared.lines.Line.{Line}
use Rattle.ck_call.specs.inner.Nodes.{own_named}
use Rattle.ck_call.specs.inner.Weights.{capped, own_weight}

abbrev pub form_of : Statement → Form
form_of (Block at (Some m) body) = form.Named m
form_of (Assign at to e true) = form.Held
form_of (Wait at falling) = form.Wait
form_of (Enable at t ins outs) = form.Enable (record { number = t; ins = length ins; outs = length outs; nowhere = list_any is_nowhere outs })
form_of (Disable at m) = form.Disable m
form_of (Host at f ins result outs) = form.Host (record { number = f; ins = length ins; outs = length outs; nowhere = list_any is_nowhere outs }) (is_some result)
form_of x = form.Other

abbrev pub result_stored : Option Lvalue → List ℕ
result_stored None = []
result_stored (Some t) = target_variables t

abbrev pub own_stored : Statement → List ℕ
own_stored (Assign at to e held) = target_variables to
own_stored (For at v first test next body) = v ∷ []
own_stored (Enable at t ins outs) = target_variables (parts_of outs)
own_stored (Host at f ins result outs) = result_stored result ++ target_variables (parts_of outs)
own_stored x = []

abbrev pub line_of : Statement → Line
line_of x = record { at = place_of_statement x; form = form_of x; nodes = own_named x; stored = own_stored x; weight = capped (own_weight x) }

-- lists and arms have no lines of their own
abbrev pub lines : Statement → List Line
lines Skip = []
lines (Seq a b) = lines a ++ lines b
lines (Arm on labels body others) = lines body ++ lines others
lines (Block at mark body) = line_of (Block at mark body) ∷ lines body
lines (If at test a b) = line_of (If at test a b) ∷ lines a ++ lines b
lines (Case at on arms) = line_of (Case at on arms) ∷ lines arms
lines (For at v first test next body) = line_of (For at v first test next body) ∷ lines body
lines (While at test body) = line_of (While at test body) ∷ lines body
lines (Repeat at count body) = line_of (Repeat at count body) ∷ lines body
lines (Forever at body) = line_of (Forever at body) ∷ lines body
lines x = line_of x ∷ []

abbrev pub arms_lines : List PlainArm → List Line
arms_lines [] = []
arms_lines (a ∷ more) = lines a.body ++ arms_lines more
