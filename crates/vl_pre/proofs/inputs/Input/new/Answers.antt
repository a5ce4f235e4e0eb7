use Rattle.std.proofs.Common.{rules}
use Rattle.vl_pre.proofs.AsciiLemmas.{clean_ascii}
use Rattle.vl_pre.proofs.inputs.Input.new.Goals as goal

pub returns-in-Ok-clause-input : goal.returns-in-Ok-clause-input
returns-in-Ok-clause-input c =
    record {
      within = search rules;
      ascii = clean_ascii c.args.bytes.now c.in-Ok.text.items c.in-Ok.ensures.exact;
      size = search rules;
    }
