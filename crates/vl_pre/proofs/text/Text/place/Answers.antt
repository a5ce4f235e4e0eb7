use Rattle.std.proofs.Common.{◌<◌, length, ap, rules}
use Rattle.vl_pre.proofs.PlaceLemmas.{place-is}
use Rattle.vl_pre.proofs.text.Text.place.Goals as goal

pub returns-clause-place : goal.returns-clause-place
returns-clause-place c =
    let inside : c.args.at < length c.self.inside.bytes.items = rw (ap (λ t. length t.bytes) c.self.view_is) c.requires in
    place-is c.self.inside.runs.items c.self.inside.bytes.items _ _ _ c.last_run-run.result _ c.self.view_is inside (search rules) (search rules)
