-- Words have an answer over held files, and it is one.
use Rattle.std.proofs.Common.{◌≡◌, ◌∙◌, ◌⊎◌, inl, inr, refl, subst, sym, ap, true, false, ℕ, List, [], ◌∷◌, Option, Some, None}
use Rattle.std.proofs.lemmas.List.Elements.{All-contains, All-cons, All-nil}
use Rattle.std.proofs.lemmas.Option.{slice_get-get_or}
use Rattle.std.specs.Prelude.{Result, Ok, Err, All, Contains, IfOk, IfSome, IsOk, IsSome, IsSomeAnd, get_or, codes, slice_get}
use Rattle.xt_base.specs.Outside.{Held, bytes_of}
use Rattle.xt_base.specs.declared.refusals.Refusal.{Refusal}
use Rattle.xt_base.proofs.Lists.{contains_head, contains_tail}
use Rattle.vl_pre.specs.Faults as pre
use Rattle.vl_pre.specs.Files.{Reading, Stop, Broken}
use Rattle.vl_pre.proofs.Placed.{Open, source_open}
use Rattle.xt_compile.specs.first.Flatten.{design_of}
use Rattle.xt_compile.proofs.first_form.Somes.{none_some, some_one}
use Rattle.el_design.specs.declared.designs.Design.{Design}
use Rattle.xt_top.specs.declared.status.Status.{Status}
use Rattle.xt_top.specs.declared.status.Status.TheVariants.{Done, Usage, Refused, ReadFault}
use Rattle.xt_top.specs.Answer.{Answers, IsDone, IsReady, no_command, not_held, refused, done}
use Rattle.xt_top.specs.Breaks.{FirstBreak, IsBroken, in_expansion, in_text}
use Rattle.xt_top.specs.Command.{Request, SourceWords, compile, files_of, request_of, source_of}
use Rattle.xt_top.specs.Loads.{AreHeld, IsMissing, of_files, of_source}
use Rattle.xt_top.specs.Note.{refused_line}
use Rattle.xt_top.specs.Sources.{Accepts, IsSourceOf, expanded}
use Rattle.xt_top.proofs.Judgement.{Judged, breaks_none, judged, one_accepted, one_break}

-- ---- the expansion ends in one way

ok_one : {A E : Type 0} {a b : A} → ◌≡◌ {A = Result A E} (Ok a) (Ok b) → a ≡ b
ok_one e = cc

same_refusal : (told : Result Reading Stop) (a b : Refusal) (file other : List ℕ) → pre.IsRefused a file told → pre.IsRefused b other told → (a ≡ b) × (file ≡ other)
same_refusal (Ok reading) a b file other is is' = absurd is
same_refusal (Err stop) a b file other is is' = by stop.broken is is' where
  by : (broken : Option Broken) → IsSomeAnd broken (λ k. (a ≡ pre.refusal_of k) × (file ≡ k.name)) → IsSomeAnd broken (λ k. (b ≡ pre.refusal_of k) × (other ≡ k.name)) → (a ≡ b) × (file ≡ other)
  by None is is' = absurd is
  by (Some k) (is, named) (is', named') = (is ∙ sym is', named ∙ sym named')

missed_unbroken : (told : Result Reading Stop) (refusal : Refusal) (file : List ℕ) → pre.IsMiss told → pre.IsRefused refusal file told → ⊥
missed_unbroken (Ok reading) refusal file miss is = miss
missed_unbroken (Err stop) refusal file miss is = subst (λ broken. IsSomeAnd broken (λ k. (refusal ≡ pre.refusal_of k) × (file ≡ k.name))) miss is

expanded_unbroken : (told : Result Reading Stop) (refusal : Refusal) (file : List ℕ) → IsOk told → pre.IsRefused refusal file told → ⊥
expanded_unbroken (Ok reading) refusal file ok is = is
expanded_unbroken (Err stop) refusal file ok is = let off : false ≡ true = ok in cc

expanded_held : (told : Result Reading Stop) → IsOk told → pre.IsMiss told → ⊥
expanded_held (Ok reading) ok miss = miss
expanded_held (Err stop) ok miss = let off : false ≡ true = ok in cc

of_source_words : (asked : Option SourceWords) (s : SourceWords) (P : SourceWords → Type 0) → asked ≡ Some s → IfSome asked P → P s
of_source_words asked s P is p = subst (λ o. IfSome o P) is p

module _ (h : Held) where
  -- ---- what is held, misses no file

  held_missing : (r : Request) → AreHeld h r → IsMissing h r → ⊥
  held_missing r are (of_source s is miss) = expanded_held (expanded h s) (of_source_words (source_of r) s (λ s. IsOk (expanded h s)) is are.source) miss
  held_missing r are (of_files source name there none) = let off : false ≡ true = subst IsSome none (All-contains (λ name. IsSome (bytes_of h name)) (files_of r) name are.files there) in cc

  pub broken_missing : (r : Request) (refusal : Refusal) (file : List ℕ) → IsBroken h r refusal file → IsMissing h r → ⊥
  broken_missing r refusal file (in_expansion s is broken_refusal name broken) (of_source t is' miss) =
      missed_unbroken (expanded h t) refusal file miss (subst (λ w. pre.IsRefused refusal file (expanded h w)) (some_one (sym is ∙ is')) broken)
  broken_missing r refusal file (in_expansion s is broken_refusal name broken) (of_files source missed there none) =
      expanded_unbroken (expanded h s) refusal file (of_source_words (source_of r) s (λ s. IsOk (expanded h s)) is source) broken
  broken_missing r refusal file (in_text s is are reading same broken_refusal broken name there) missing = held_missing r are missing

  -- ---- the first broken rule is one, and its file too

  pub one_broken : (r : Request) (a b : Refusal) (file other : List ℕ) → IsBroken h r a file → IsBroken h r b other → (a ≡ b) × (file ≡ other)
  one_broken r a b file other (in_expansion s is broken_refusal name broken) (in_expansion t is' broken_refusal' name' broken') =
      same_refusal (expanded h s) a b file other broken (subst (λ w. pre.IsRefused b other (expanded h w)) (some_one (sym is' ∙ is)) broken')
  one_broken r a b file other (in_expansion s is broken_refusal name broken) (in_text t is' are reading same broken_refusal' broken' name' there) =
      absurd (expanded_unbroken (expanded h s) a file (of_source_words (source_of r) s (λ s. IsOk (expanded h s)) is are.source) broken)
  one_broken r a b file other (in_text s is are reading same broken_refusal broken name there) (in_expansion t is' broken_refusal' name' broken') =
      absurd (expanded_unbroken (expanded h t) b other (of_source_words (source_of r) t (λ s. IsOk (expanded h s)) is' are.source) broken')
  one_broken r a b file other (in_text s is are reading same broken_refusal broken name there) (in_text t is' are' reading' same' broken_refusal' broken' name' there') =
      let words : t ≡ s = some_one (sym is' ∙ is) in
      let read : reading' ≡ reading = ok_one (sym same' ∙ ap (expanded h) words ∙ same) in
      let one : a ≡ b = one_break reading.text s a b broken (subst (λ (x : Reading). FirstBreak x.text s b) read (subst (λ w. FirstBreak reading'.text w b) words broken')) in
      let file' : slice_get reading.text.names a.place.file ≡ Some other = subst (λ (x : Refusal). slice_get reading.text.names x.place.file ≡ Some other) (sym one) (subst (λ (x : Reading). slice_get x.text.names b.place.file ≡ Some other) read there') in
      (one, some_one (sym there ∙ file'))

  -- ---- a source has one design, and breaks no rule

  pub one_design : (s : SourceWords) (d e : Design) → IsSourceOf h s d → IsSourceOf h s e → d ≡ e
  one_design s d e is is' =
      let read : is'.reading ≡ is.reading = ok_one (sym is'.expands ∙ is.expands) in
      is.flat ∙ ap design_of (sym (one_accepted is.reading.text s is.source is'.source is.accepts (subst (λ (x : Reading). Accepts x.text s is'.source) read is'.accepts))) ∙ sym is'.flat

  source_unbroken : (s : SourceWords) (d : Design) → IsSourceOf h s d → (refusal : Refusal) (file : List ℕ) → IsBroken h (compile s) refusal file → ⊥
  source_unbroken s d is refusal file (in_expansion t words broken_refusal name broken) =
      expanded_unbroken (Ok is.reading) refusal file refl (subst (pre.IsRefused refusal file) (ap (expanded h) (sym (some_one words)) ∙ is.expands) broken)
  source_unbroken s d is refusal file (in_text t words are reading same broken_refusal broken name there) =
      let source : s ≡ t = some_one words in
      let read : reading ≡ is.reading = ok_one (sym same ∙ ap (expanded h) (sym source) ∙ is.expands) in
      breaks_none is.reading.text s is.source is.accepts refusal (subst (λ (x : Reading). FirstBreak x.text s refusal) read (subst (λ w. FirstBreak reading.text w refusal) (sym source) broken))

  ready_unbroken : (r : Request) → IsReady h r → (refusal : Refusal) (file : List ℕ) → IsBroken h r refusal file → ⊥
  ready_unbroken (compile s) (d, is) = source_unbroken s d is

  ready_held : (r : Request) → IsReady h r → AreHeld h r
  ready_held (compile s) (d, is) = record { source = rw is.expands refl; files = All-nil _ }

  -- ---- a command misses a file, breaks a rule or is ready

  one_more : (name : List ℕ) (names : List (List ℕ)) (bytes : Option (List ℕ)) → bytes_of h name ≡ bytes → All (λ n. IsSome (bytes_of h n)) names ⊎ ((n : List ℕ) × Contains names n × (bytes_of h n ≡ None))
      → All (λ n. IsSome (bytes_of h n)) (name ∷ names) ⊎ ((n : List ℕ) × Contains (name ∷ names) n × (bytes_of h n ≡ None))
  one_more name names None is others = inr (name, contains_head name names, is)
  one_more name names (Some bytes) is (inl held) = inl (All-cons (λ n. IsSome (bytes_of h n)) name names (rw is refl) held)
  one_more name names (Some bytes) is (inr (n, there, none)) = inr (n, contains_tail name n names there, none)

  all_held : (names : List (List ℕ)) → All (λ n. IsSome (bytes_of h n)) names ⊎ ((n : List ℕ) × Contains names n × (bytes_of h n ≡ None))
  all_held [] = inl (All-nil _)
  all_held (name ∷ names) = one_more name names (bytes_of h name) refl (all_held names)

  abbrev BreaksOne : Request → Type 0
  BreaksOne r = (refusal : Refusal) × (file : List ℕ) × IsBroken h r refusal file

  in_reading : (s : SourceWords) (reading : Reading) → expanded h s ≡ Ok reading → Judged reading.text s → BreaksOne (compile s) ⊎ IsReady h (compile s)
  in_reading s reading same (inl (refusal, broken, within)) =
      let file = get_or reading.text.names refusal.place.file [] in
      inl (refusal, file, in_text s refl (record { source = rw same refl; files = All-nil _ }) reading same refusal broken file (slice_get-get_or reading.text.names refusal.place.file [] within))
  in_reading s reading same (inr (source, accepts)) = inr (design_of source, record { reading = reading; expands = same; source = source; accepts = accepts; flat = refl })

  of_told : (s : SourceWords) (told : Result Reading Stop) → expanded h s ≡ told → IfOk told (λ read. Open read.text) → IsMissing h (compile s) ⊎ BreaksOne (compile s) ⊎ IsReady h (compile s)
  of_told s (Ok reading) same o = inr (in_reading s reading same (judged reading.text s o))
  of_told s (Err stop) same o = by stop.broken refl where
    by : (broken : Option Broken) → stop.broken ≡ broken → IsMissing h (compile s) ⊎ BreaksOne (compile s) ⊎ IsReady h (compile s)
    by None is = inl (of_source s refl (subst pre.IsMiss (sym same) is))
    by (Some k) is =
        let refused : pre.IsRefused (pre.refusal_of k) k.name (Err stop) = subst (λ broken. IsSomeAnd broken (λ b. (pre.refusal_of k ≡ pre.refusal_of b) × (k.name ≡ b.name))) (sym is) (refl, refl) in
        inr (inl (pre.refusal_of k, k.name, in_expansion s refl (pre.refusal_of k) k.name (subst (pre.IsRefused (pre.refusal_of k) k.name) (sym same) refused)))

  some_cause : (r : Request) → IsMissing h r ⊎ BreaksOne r ⊎ IsReady h r
  some_cause (compile s) = of_told s (expanded h s) refl (source_open h s.file s.defines)

-- ---- words have an answer

module _ (words : List (List ℕ)) (h : Held) where
  abbrev pub Answered : Type 0
  Answered = ((status : Status) × (note : List ℕ) × Answers words (Some h) status note []) ⊎ ((r : Request) × (request_of words ≡ Some r) × IsReady h r)

  pub some_answer : Answered
  some_answer = by (request_of words) refl where
    of_cause : (r : Request) → request_of words ≡ Some r → IsMissing h r ⊎ BreaksOne h r ⊎ IsReady h r → Answered
    of_cause r asked (inl missing) = inl (ReadFault, codes "read fault\n", not_held r asked missing)
    of_cause r asked (inr (inl (refusal, file, broken))) = inl (Refused, refused_line refusal.rule.0 file refusal.place.line, refused r asked refusal file broken)
    of_cause r asked (inr (inr ready)) = inr (r, asked, ready)

    by : (asked : Option Request) → request_of words ≡ asked → Answered
    by None is = inl (Usage, codes "usage\n", no_command is)
    by (Some r) is = of_cause r is (some_cause h r)

  -- ---- and it is one

  no_request : (r : Request) → request_of words ≡ None → request_of words ≡ Some r → ⊥
  no_request r none some = none_some (sym none ∙ some)

  one_request : (r q : Request) → request_of words ≡ Some r → request_of words ≡ Some q → q ≡ r
  one_request r q is is' = some_one (sym is' ∙ is)

  ready_of : (r : Request) (text : List ℕ) → IsDone h r text → IsReady h r
  ready_of (compile s) text (d, is, written) = (d, is)

  same_line : (a b : Refusal) (file other : List ℕ) → (a ≡ b) × (file ≡ other) → refused_line a.rule.0 file a.place.line ≡ refused_line b.rule.0 other b.place.line
  same_line a b file other (is, named) = ap (λ (x : Refusal). refused_line x.rule.0 file x.place.line) is ∙ ap (λ (f : List ℕ). refused_line b.rule.0 f b.place.line) named

  module _ (r q : Request) (asked : request_of words ≡ Some r) (asked' : request_of words ≡ Some q) where
    missing_broken : IsMissing h r → (refusal : Refusal) (file : List ℕ) → IsBroken h q refusal file → ⊥
    missing_broken missing refusal file broken = broken_missing h r refusal file (subst (λ (x : Request). IsBroken h x refusal file) (one_request r q asked asked') broken) missing

    missing_ready : IsMissing h r → IsReady h q → ⊥
    missing_ready missing ready = held_missing h r (ready_held h r (subst (IsReady h) (one_request r q asked asked') ready)) missing

    broken_ready : (refusal : Refusal) (file : List ℕ) → IsBroken h r refusal file → IsReady h q → ⊥
    broken_ready refusal file broken ready = ready_unbroken h r (subst (IsReady h) (one_request r q asked asked') ready) refusal file broken

    broken_line : (a b : Refusal) (file other : List ℕ) → IsBroken h r a file → IsBroken h q b other → refused_line a.rule.0 file a.place.line ≡ refused_line b.rule.0 other b.place.line
    broken_line a b file other broken broken' = same_line a b file other (one_broken h r a b file other broken (subst (λ (x : Request). IsBroken h x b other) (one_request r q asked asked') broken'))

  pub one_answer : (status other : Status) (note line text bytes : List ℕ) → Answers words (Some h) status note text → Answers words (Some h) other line bytes → (status ≡ other) × (note ≡ line)
  one_answer status other note line text bytes (no_command none) (no_command none') = (refl, refl)
  one_answer status other note line text bytes (no_command none) (not_held q asked' missing') = absurd (no_request q none asked')
  one_answer status other note line text bytes (no_command none) (refused q asked' b file' broken') = absurd (no_request q none asked')
  one_answer status other note line text bytes (no_command none) (done q asked' text' is') = absurd (no_request q none asked')
  one_answer status other note line text bytes (not_held r asked missing) (no_command none') = absurd (no_request r none' asked)
  one_answer status other note line text bytes (not_held r asked missing) (not_held q asked' missing') = (refl, refl)
  one_answer status other note line text bytes (not_held r asked missing) (refused q asked' b file' broken') = absurd (missing_broken r q asked asked' missing b file' broken')
  one_answer status other note line text bytes (not_held r asked missing) (done q asked' text' is') = absurd (missing_ready r q asked asked' missing (ready_of q text' is'.1))
  one_answer status other note line text bytes (refused r asked a file broken) (no_command none') = absurd (no_request r none' asked)
  one_answer status other note line text bytes (refused r asked a file broken) (not_held q asked' missing') = absurd (missing_broken q r asked' asked missing' a file broken)
  one_answer status other note line text bytes (refused r asked a file broken) (refused q asked' b file' broken') = (refl, broken_line r q asked asked' a b file file' broken broken')
  one_answer status other note line text bytes (refused r asked a file broken) (done q asked' text' is') = absurd (broken_ready r q asked asked' a file broken (ready_of q text' is'.1))
  one_answer status other note line text bytes (done r asked text_done is) (no_command none') = absurd (no_request r none' asked)
  one_answer status other note line text bytes (done r asked text_done is) (not_held q asked' missing') = absurd (missing_ready q r asked' asked missing' (ready_of r text_done is.1))
  one_answer status other note line text bytes (done r asked text_done is) (refused q asked' b file' broken') = absurd (broken_ready q r asked' asked b file' broken' (ready_of r text_done is.1))
  one_answer status other note line text bytes (done r asked text_done is) (done q asked' text' is') = (refl, refl)

  pub ready_done : (r : Request) → request_of words ≡ Some r → IsReady h r → (status : Status) (note text : List ℕ) → Answers words (Some h) status note text → status ≡ Done
  ready_done r asked ready status note text (no_command none) = absurd (no_request r none asked)
  ready_done r asked ready status note text (not_held q asked' missing) = absurd (missing_ready q r asked' asked missing ready)
  ready_done r asked ready status note text (refused q asked' a file broken) = absurd (broken_ready q r asked' asked a file broken ready)
  ready_done r asked ready status note text (done q asked' text_done is) = refl
