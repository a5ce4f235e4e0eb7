use Rattle.std.proofs.Common.{rules, ◌≡◌, ◌++◌, ◌∷◌, [], subst, sym, ap, ◌∙◌}
use Rattle.std.specs.Prelude.{string_bytes}
use Rattle.xt_base.specs.Outside.{bytes_of}
use Rattle.vl_pre.specs.Text.{with_stretch}
use Rattle.vl_pre.specs.Tables.{table_of}
use Rattle.vl_pre.specs.Files.{Reading, found}
use Rattle.vl_pre.specs.Faults.{IsFault}
use Rattle.vl_pre.specs.Inputs.{spot_seen}
use Rattle.vl_pre.proofs.SourceLemmas.{err_same, opened_fault}
use Rattle.vl_pre.proofs.source.open.Goals as goal

pub returns-in_err-bytes-clause-fault : goal.returns-in_err-bytes-clause-fault
returns-in_err-bytes-clause-fault g c = λ include.
    let R : Reading = record { macros = table_of c.args.state.now.table; uses = c.args.state.now.uses; loads = c.args.state.now.loads ++ string_bytes c.args.name ∷ []; text = c.args.state.now.text } in
    err_same _ c.in_err-bytes.field-0.0 _ c.from_residual.ensures.1
    (subst (λ n. IsFault c.in_err-bytes.field-0.0 (g.F.Files.held c.args.files.now) (λ h. found (include h) n (spot_seen c.args.spot) (bytes_of h n) R) (g.F.Files.faults c.args.files.now) (g.F.Files.faults c.load.new.files))
    c.as_str.ensures.value (c.in_err-bytes.ensures.fault include R))

pub returns-clause-fault : goal.returns-clause-fault
returns-clause-fault g c = λ include.
    let R : Reading = record { macros = table_of c.args.state.now.table; uses = c.args.state.now.uses; loads = c.args.state.now.loads ++ string_bytes c.args.name ∷ []; text = c.args.state.now.text } in
    let R' : Reading = record { macros = table_of c.args.state.now.table; uses = c.args.state.now.uses; loads = c.load.new.loads; text = c.pass.new.self } in
    let text : with_stretch c.args.state.now.text (string_bytes c.args.name) ≡ c.pass.new.self = ap (with_stretch c.args.state.now.text) (sym c.as_str-2.ensures.value) ∙ sym c.in_ok-pass.ensures.ok in
    let loads : c.args.state.now.loads ++ string_bytes c.args.name ∷ [] ≡ c.load.new.loads = ap (λ n. c.args.state.now.loads ++ n ∷ []) (sym c.as_str.ensures.value) ∙ sym c.in_ok-bytes.ensures.loads in
    opened_fault include (string_bytes c.args.name) (spot_seen c.args.spot) c.in_ok-bytes.bytes.items R R' c.new.result (g.F.Files.held c.args.files.now) (g.F.Files.faults c.args.files.now) (g.F.Files.faults c.load.new.files)
    c.in_ok-bytes.ensures.size c.in_ok-bytes.ensures.counted
    (λ i. record { macros = table_of c.args.state.now.table; uses = c.args.state.now.uses; loads = loads i; text = text i })
    (λ h. search (rules, c.new.ensures.exact (include h) R'))
    (λ h e. ap (bytes_of h) (sym c.as_str.ensures.value) ∙ c.in_ok-bytes.ensures.bytes h e)
