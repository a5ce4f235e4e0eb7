use Rattle.std.proofs.Common.{ℕ, Option, sym, subst}
use Rattle.std.specs.Option.{option_map}
use Rattle.std.proofs.lemmas.List.{nil_from_length}
use Rattle.vl_lex.specs.Fronts.{LongestFront, IsToken}
use Rattle.vl_lex.specs.Spelling.{Spells}
use Rattle.vl_lex.specs.declared.kinds.Kind.{Kind}
use Rattle.vl_lex.proofs.Families.{token_longest, no_token, no_token_in_nothing}
use Rattle.vl_lex.proofs.longest.first_token.Goals as goal

pub returns-clause-longest : goal.returns-clause-longest
returns-clause-longest c =
    token_longest _ _ _ _ _ _ c.in_ok-byte.ensures.cases.0 c.begun_by-form.ensures.kind c.in_ok-len.ensures
    (subst (Spells c.kind_of.result) c.split_at.ensures.front c.kind_of.ensures)

pub returns-in_err-byte-clause-longest : goal.returns-in_err-byte-clause-longest
returns-in_err-byte-clause-longest c =
    let Has : Option (Kind × ℕ) → Type 0 = λ found. LongestFront IsToken c.args.rest.now (option_map (λ token. token.1) found) in
    subst Has (sym c.from_residual.ensures) (no_token_in_nothing _ (nil_from_length _ c.in_err-byte.ensures.cases))

pub returns-in_err-len-clause-longest : goal.returns-in_err-len-clause-longest
returns-in_err-len-clause-longest c =
    let Has : Option (Kind × ℕ) → Type 0 = λ found. LongestFront IsToken c.args.rest.now (option_map (λ token. token.1) found) in
    subst Has (sym c.from_residual-in_err-len.ensures) (no_token _ _ _ _ c.in_ok-byte.ensures.cases.0 c.begun_by-form.ensures.kind c.in_err-len.ensures)
