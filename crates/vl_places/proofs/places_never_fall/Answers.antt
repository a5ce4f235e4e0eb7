use Rattle.vl_pre.specs.Text.{begun, with_lines}
use Rattle.vl_places.proofs.Texts.{plain_done, done_in_order}
use Rattle.vl_places.proofs.Files.{expanded_in_order}
use Rattle.vl_places.proofs.Tokens.{tokens_in_order}
use Rattle.vl_places.proofs.places_never_fall.Goals as goal

pub returns-clause-expanded : goal.returns-clause-expanded
returns-clause-expanded c = expanded_in_order

pub returns-clause-plain : goal.returns-clause-plain
returns-clause-plain c = λ name bytes. done_in_order (with_lines (begun name) 1 bytes) (plain_done name bytes)

pub returns-clause-tokens : goal.returns-clause-tokens
returns-clause-tokens c = tokens_in_order
