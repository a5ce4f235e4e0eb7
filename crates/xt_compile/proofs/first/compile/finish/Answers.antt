use Rattle.std.proofs.Common.{refl, ap, ◌∙◌}
use Rattle.nt_core.specs.Parts.{Parts}
use Rattle.xt_compile.proofs.first_form.Shells.{shell_of_form}
use Rattle.xt_compile.proofs.first.compile.finish.Goals as goal

pub finish-netlist-requires : goal.finish-netlist-requires
finish-netlist-requires c =
    shell_of_form c.args.design.now _ c.args.map.now c.args.edge c.requires.form
    (record {
      version = refl;
      processes = c.in_ok-processes.ensures ∙ c.len.ensures;
      functions = c.new.ensures.items;
      inputs = c.in_ok-inputs.ensures.pins;
      inputs_few = c.in_ok-inputs.ensures.few;
      outputs = c.in_ok-outputs.ensures.pins;
      outputs_few = c.in_ok-outputs.ensures.few;
      hosts = c.new-2.ensures.items;
      registers = c.in_ok-registers.ensures.values;
      kept = c.in_ok-registers.ensures.kept;
      registers_few = c.in_ok-registers.ensures.few;
      memories = c.new-3.ensures.items;
      writes = c.new-4.ensures.items;
    })
    c.requires.nodes c.requires.map c.requires.edge c.in_ok-drives.ensures c.requires.nexts

pub returns-clause-built : goal.returns-clause-built
returns-clause-built c =
    let is = c.kept.ensures.same ∙ c.finish-netlist.ensures in
    record {
      with_nodes = ap (λ (n : Parts). n.nodes) is;
      outside = record {
        inputs = ap (λ (n : Parts). n.inputs) is ∙ c.in_ok-inputs.ensures.pins;
        outputs = ap (λ (n : Parts). n.outputs) is ∙ c.in_ok-outputs.ensures.pins;
        processes = ap (λ (n : Parts). n.processes) is ∙ c.in_ok-processes.ensures ∙ c.len.ensures;
        functions = ap (λ (n : Parts). n.functions) is ∙ c.new.ensures.items;
        hosts = ap (λ (n : Parts). n.hosts) is ∙ c.new-2.ensures.items;
      };
      registers = ap (λ (n : Parts). n.registers) is ∙ c.in_ok-registers.ensures.values;
      drives = ap (λ (n : Parts). n.drives) is ∙ c.in_ok-drives.ensures;
      with_nexts = ap (λ (n : Parts). n.nexts) is;
    }
