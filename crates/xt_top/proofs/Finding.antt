-- What the parts of the work find, as the answer to words.
use Rattle.std.proofs.Common.{◌≡◌, ◌⊎◌, inl, inr, ◌<◌, ◌≤◌, refl, subst, sym, ℕ, List, [], append-nil, Option, Some, None}
use Rattle.std.proofs.Math.Nat.{eq-or-lt_of_le}
use Rattle.std.proofs.lemmas.List.Elements.{All-nil}
use Rattle.std.specs.Prelude.{Result, Ok, Err, IfSome, IsErrAnd, IsSomeAnd, slice_get, string_bytes}
use Rattle.xt_base.specs.Outside.{Held, HasFault}
use Rattle.xt_base.specs.declared.refusals.Refusal.{Refusal}
use Rattle.vl_pre.specs.Text.{Expanded}
use Rattle.vl_pre.specs.Files.{Reading, Stop}
use Rattle.vl_pre.specs.Faults as pre
use Rattle.vl_pre.specs.declared.faults.PreFault.{PreFault}
use Rattle.vl_pre.specs.declared.faults.PreFault.TheVariants as faults
use Rattle.xt_compile.specs.Hardware.{IsHardwareOf}
use Rattle.xt_compile.specs.declared.first.source.Source.{Source}
use Rattle.xt_compile.specs.first.Flatten.{design_of}
use Rattle.xt_top.specs.declared.answer.Answer.{Answer}
use Rattle.xt_top.specs.declared.answer.Stop as answers
use Rattle.xt_top.specs.declared.answer.Stop.TheVariants as stops
use Rattle.xt_top.specs.declared.note.Note.{Note}
use Rattle.xt_top.specs.declared.note.Note.TheVariants as notes
use Rattle.xt_top.specs.declared.status.Status.TheVariants as statuses
use Rattle.xt_top.specs.Answer.{Answers, IsDone, not_held, refused, done}
use Rattle.xt_top.specs.Breaks.{FirstBreak, IsBroken, in_expansion, in_text}
use Rattle.xt_top.specs.Command.{SourceWords, compile, request_of}
use Rattle.xt_top.specs.Ends.{FileState, LoadsInOrder}
use Rattle.xt_top.specs.Loads.{AreHeld, IsMissing, loads_after, loads_of, of_source}
use Rattle.xt_top.specs.Sources.{Accepts, expanded}
use Rattle.xt_top.specs.inner.Works.{Finds, IsNamed, IsStopOf, Names, Stops}

-- ---- files that tell what they hold, or not

of_told : {P Q : Held → Type 0} (held : Option Held) → ((h : Held) → P h → Q h) → ((h : Held) → held ≡ Some h → P h) → IfSome held Q
of_told None f p = tt
of_told (Some h) f p = f h (p h refl)

some_of_told : {P Q : Held → Type 0} (held : Option Held) → ((h : Held) → P h → Q h) → IsSomeAnd held P → IsSomeAnd held Q
some_of_told None f p = p
some_of_told (Some h) f p = f h p

module _ (words : List (List ℕ)) (s : SourceWords) (asked : request_of words ≡ Some (compile s)) (held : Option Held) (old new : ℕ) where
  -- ---- a source without a text

  missing : (h : Held) → pre.IsMiss (expanded h s) → IsMissing h (compile s)
  missing h miss = of_source s refl miss

  -- a file that isn't held, or a fault of the files
  read_fault_stops : old ≤ new → IsSomeAnd held (λ h. pre.IsMiss (expanded h s)) ⊎ HasFault old new → Stops words held old new (stops.Note notes.ReadFault)
  read_fault_stops never_falls (inr fault) = inr (rw asked refl, refl, fault)
  read_fault_stops never_falls (inl miss) = by (eq-or-lt_of_le never_falls) where
    by : (old ≡ new) ⊎ (old < new) → Stops words held old new (stops.Note notes.ReadFault)
    by (inl same) = inl (not_held (compile s) asked (some_of_told held missing miss), sym same)
    by (inr rose) = inr (rw asked refl, refl, inl rose)

  pub fault_stops : (fault : PreFault) (stop : answers.Stop) → old ≤ new → pre.IsFault fault held (λ h. expanded h s) old new → IsStopOf fault stop → Stops words held old new stop
  fault_stops (faults.Refused refusal file) stop never_falls (broken, calm) is =
      subst (Stops words held old new) (sym is) (inl (refused (compile s) asked refusal (string_bytes file) (of_told held (λ h b. in_expansion s refl refusal (string_bytes file) b) broken), calm))
  fault_stops faults.ReadFault stop never_falls cause is = subst (Stops words held old new) (sym is) (read_fault_stops never_falls cause)
  fault_stops faults.Memory stop never_falls calm is = subst (Stops words held old new) (sym is) tt

  -- ---- a source with a text

  module _ (text : Expanded) (told : (h : Held) → held ≡ Some h → pre.IsText text (expanded h s)) (calm : new ≡ old) where
    -- the reading of the source whose text it is
    reading_of : (h : Held) → pre.IsText text (expanded h s) → (reading : Reading) × (expanded h s ≡ Ok reading) × (reading.text ≡ text)
    reading_of h is = by (expanded h s) refl is where
      by : (r : Result Reading Stop) → expanded h s ≡ r → pre.IsText text r → (reading : Reading) × (expanded h s ≡ Ok reading) × (reading.text ≡ text)
      by (Ok reading) same is = (reading, same, is)
      by (Err stop) same is = elim is [ ]

    are_held : (h : Held) (reading : Reading) → expanded h s ≡ Ok reading → AreHeld h (compile s)
    are_held h reading same = record { source = rw same refl; files = All-nil _ }

    pub refusal_stops : (refusal : Refusal) (name : List ℕ) (stop : answers.Stop) → FirstBreak text s refusal → slice_get text.names refusal.place.file ≡ Some name → IsNamed refusal name stop → Stops words held old new stop
    refusal_stops refusal name stops.Memory broken named is = tt
    refusal_stops refusal name (stops.Note note) broken named is = by note is where
      broken_in : (h : Held) → pre.IsText text (expanded h s) → IsBroken h (compile s) refusal name
      broken_in h is =
          let (reading, same, same_text) = reading_of h is in
          in_text s refl (are_held h reading same) reading same refusal (subst (λ t. FirstBreak t s refusal) (sym same_text) broken) name
          (subst (λ t. slice_get t.names refusal.place.file ≡ Some name) (sym same_text) named)

      by : (note : Note) → Names refusal name note → Stops words held old new (stops.Note note)
      by (notes.Refused rule file line) (same_rule, same_file, same_line) =
          inl (subst (λ l. Answers words held statuses.Refused l []) (rw (same_rule, same_file, same_line) refl) (refused (compile s) asked refusal name (of_told held broken_in told)), calm)
      by notes.Usage is = elim is [ ]
      by notes.BadDesign is = elim is [ ]
      by notes.BadRecord is = elim is [ ]
      by (notes.Differs line) is = elim is [ ]
      by notes.ReadFault is = elim is [ ]

    pub design_done : (bytes : List ℕ) (source : Source) → Accepts text s source → IsHardwareOf (design_of source) bytes → Answers words held statuses.Done [] bytes
    design_done bytes source accepts is = done (compile s) asked bytes (of_told held done_in told) where
      done_in : (h : Held) → pre.IsText text (expanded h s) → AreHeld h (compile s) × IsDone h (compile s) bytes
      done_in h told =
          let (reading, same, same_text) = reading_of h told in
          (are_held h reading same, (design_of source, record { reading = reading; expands = same; source = source; accepts = subst (λ t. Accepts t s source) (sym same_text) accepts; flat = refl }, is))

-- ---- the loads

loads_of_source : (h : Held) (s : SourceWords) → loads_of (Some (compile s)) h ≡ pre.loads_of (expanded h s)
loads_of_source h s = by (expanded h s) where
  by : (told : Result Reading Stop) → loads_after h [] told ≡ pre.loads_of told
  by (Ok reading) = append-nil reading.loads
  by (Err stop) = refl

pub loaded : (s : SourceWords) (old new : FileState) → ((h : Held) → old.held ≡ Some h → pre.AskedInOrder old.asked new.asked (pre.loads_of (expanded h s))) → new.held ≡ old.held → LoadsInOrder (loads_of (Some (compile s))) old new
loaded s old new asked same = record { asked = λ h told. subst (pre.AskedInOrder old.asked new.asked) (sym (loads_of_source h s)) (asked h told); held = same }

-- a fault of the expansion that is handed on
pub handed_to : (words : List (List ℕ)) (held : Option Held) (old new : ℕ) (result : Result Answer answers.Stop) (fault : PreFault) → IsErrAnd result (λ stop. IsStopOf fault stop)
    → ((stop : answers.Stop) → IsStopOf fault stop → Stops words held old new stop) → Finds words held old new result
handed_to words held old new (Ok answer) fault is stops = elim is [ ]
handed_to words held old new (Err stop) fault is stops = stops stop is
