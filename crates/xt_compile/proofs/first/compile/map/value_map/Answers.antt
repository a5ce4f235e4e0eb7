use Rattle.std.proofs.Common.{◌∙◌}
use Rattle.xt_compile.specs.first.Form.{var_widths}
use Rattle.xt_compile.proofs.first_form.Growing.{drive_grows, values_grow}
use Rattle.xt_compile.proofs.first.compile.map.value_map.Goals as goal

pub returns-clause-map : goal.returns-clause-map
returns-clause-map c = record { vars = drive_grows _ _ _ _ c.in_ok-nets.ensures.extends.grows c.in_ok-vars.ensures.widths; nets = c.in_ok-nets.ensures.widths }

pub returns-clause-reads : goal.returns-clause-reads
returns-clause-reads c = record {
  vars = λ s. values_grow _ _ c.in_ok-vars.vars.items (var_widths c.args.design.now) c.in_ok-nets.ensures.extends.grows c.in_ok-vars.ensures.widths s ∙ c.in_ok-vars.ensures.values s;
  nets = c.in_ok-nets.ensures.values;
}
