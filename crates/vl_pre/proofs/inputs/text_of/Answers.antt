use Rattle.std.proofs.lemmas.Str.{IsUtf8-from_ascii}
use Rattle.vl_pre.proofs.InputLemmas.{utf8_is_ok}
use Rattle.vl_pre.proofs.inputs.text_of.Goals as goal

pub unwrap-requires : goal.unwrap-requires
unwrap-requires c = utf8_is_ok _ _ _ c.from_utf8.result (IsUtf8-from_ascii c.args.bytes.now c.requires) c.from_utf8.ensures.cases
