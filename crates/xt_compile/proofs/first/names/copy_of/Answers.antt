use Rattle.std.proofs.Common.{refl}
use Rattle.std.proofs.lemmas.Str.{IsUtf8-from_ascii}
use Rattle.vl_pre.proofs.InputLemmas.{utf8_is_ok}
use Rattle.xt_compile.proofs.first_form.NameBytes.{pin_name_is_ascii, ok_part}
use Rattle.xt_compile.proofs.first.names.copy_of.Goals as goal

pub unwrap-text-requires : goal.unwrap-text-requires
unwrap-text-requires c = utf8_is_ok _ _ _ c.from_utf8.result (IsUtf8-from_ascii c.args.word.now (pin_name_is_ascii _ _ refl c.requires)) c.from_utf8.ensures.cases

pub new-requires : goal.new-requires
new-requires c = pin_name_is_ascii _ _ (ok_part _ _ c.from_utf8.result _ c.from_utf8.ensures.cases c.unwrap-text.ensures).0 c.requires
