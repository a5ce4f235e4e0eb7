-- The line that the program writes about a run that isn't done. It is this project's own.
use Rattle.std.specs.Prelude.{ℕ, List, [], ◌∷◌, codes, decimal, string_bytes}
use Rattle.std.specs.List.{concat, flat_map}
use Rattle.std.specs.Borrow.{Bor}
use Rattle.xt_top.specs.declared.note.Note.{Note}
use Rattle.xt_top.specs.declared.note.Note.TheVariants.{Usage, Refused, BadDesign, BadRecord, Differs, ReadFault}
use Rattle.xt_top.specs.declared.status.Status.{Status}
use Rattle.xt_top.specs.declared.status.Status.TheVariants as statuses

-- the line for a refusal: `refused RULE FILE LINE`
abbrev pub refused_line : ℕ → List ℕ → ℕ → List ℕ
refused_line rule file line = concat (codes "refused " ∷ decimal rule ∷ codes " " ∷ file ∷ codes " " ∷ decimal line ∷ codes "\n" ∷ [])

-- the line for two traces that differ: `differs LINE`
abbrev pub differs_line : ℕ → List ℕ
differs_line line = concat (codes "differs " ∷ decimal line ∷ codes "\n" ∷ [])

-- the line of a note
abbrev pub line_of : Note → List ℕ
line_of Usage = codes "usage\n"
line_of (Refused rule file line) = refused_line rule.0 (string_bytes file) line
line_of BadDesign = codes "bad design\n"
line_of BadRecord = codes "bad record\n"
line_of (Differs line) = differs_line line
line_of ReadFault = codes "read fault\n"

-- the status that a note explains
abbrev pub status_of : Note → Status
status_of Usage = statuses.Usage
status_of (Refused rule file line) = statuses.Refused
status_of BadDesign = statuses.BadDesign
status_of BadRecord = statuses.BadRecord
status_of (Differs line) = statuses.Differs
status_of ReadFault = statuses.ReadFault

-- pieces of a text, end to end
abbrev pub joined : List (Bor (List ℕ)) → List ℕ
joined = flat_map (λ piece. piece.now)
