-- A source that is read file by file.
use Rattle.std.proofs.Common.{◌≡◌, ◌≤◌, ◌<◌, ◌+◌, ◌-◌, ◌∙◌, inl, inr, ℕ, suc, true, false, cond, List, [], ◌∷◌, ◌++◌, length, Result, Ok, Err, Option, Some, None, refl, sym, ap, subst, arith, reverse, length-append}
use Rattle.std.proofs.lemmas.List.{reverse-append, length-reverse}
use Rattle.std.proofs.lemmas.List.Elements.{All-append, All-cons, All-nil}
use Rattle.std.specs.Prelude.{IfErr, IsErrAnd, IsSomeAnd, nat_lt, nat_le, string_bytes}
use Rattle.xt_base.specs.Outside.{Held, bytes_of, max_file}
use Rattle.vl_pre.specs.Breaks.{◌>>=◌, max_includes, max_loads}
use Rattle.vl_pre.specs.Text.{with_stretch, begun}
use Rattle.vl_pre.specs.Macros.{no_macros, with_defines}
use Rattle.vl_pre.specs.Files.{Reading, Include, Stop, Spot, broken_at, stretch_of, spot_of, file_text, found, file_expansion, source_expansion}
use Rattle.vl_pre.specs.Faults.{IsBrokenAt, Refuses, IsRefused, IsMiss, IsFault}
use Rattle.vl_pre.specs.Inputs.{IsInput, IsOpened, input_rest}
use Rattle.vl_pre.specs.Readings.{reading_seen}
use Rattle.vl_pre.specs.declared.source.Source.{Source}
use Rattle.vl_pre.specs.declared.inputs.Included.{Included}
use Rattle.std.specs.List.{All}
use Rattle.vl_pre.specs.Sources.{IsSource, include_in, outer_rest, included_rest, source_rest, outer_of}
use Rattle.vl_pre.specs.declared.faults.PreFault.{PreFault}
use Rattle.vl_pre.specs.declared.faults.PreFault.TheVariants as faults
use Rattle.vl_pre.specs.declared.inputs.Input.{Input}

-- an error that is handed on
pub err_same : {A E : Type 0} (result : Result A E) (x : E) (P : E → Type 0) → IsErrAnd result (λ y. y ≡ x) → P x → IfErr result P
err_same (Ok a) x P e p = tt
err_same (Err y) x P e p = subst P (sym e) p

-- what refuses a part of a file is a fault
pub refuses_fault : (fault : PreFault) (held : Option Held) (told : Held → Result Reading Stop) (some : Result Reading Stop) (old new : ℕ) → new ≡ old → Refuses fault some → ((h : Held) → held ≡ Some h → Refuses fault (told h)) → IsFault fault held told old new
refuses_fault (faults.Refused refusal file) held told some old new same r all = (all, same)
refuses_fault faults.ReadFault held told some old new same r all = absurd r
refuses_fault faults.Memory held told some old new same r all = same

-- a file that isn't too long is read
pub found_bytes : (include : Include) (file : List ℕ) (spot : Spot) (bytes : List ℕ) (reading : Reading) → length bytes ≤ max_file
    → found include file spot (Some bytes) reading ≡ file_text include file bytes (record reading { text = with_stretch reading.text file })
found_bytes include file spot bytes reading fits =
    let short : nat_lt max_file (length bytes) ≡ false = grind arith in
    ap (λ b. cond b (broken_at spot 80 reading) (file_text include file bytes (record reading { text = with_stretch reading.text file }))) short

pub opened_fault : (include : Held → Include) (file : List ℕ) (spot : Spot) (bytes : List ℕ) (reading reading' : Reading) (result : Result Input PreFault) (held : Option Held) (old new : ℕ) → length bytes ≤ max_file → new ≡ old
    → record reading { text = with_stretch reading.text file } ≡ reading' → ((h : Held) → IsOpened (include h) reading' result (file_text (include h) file bytes reading')) → ((h : Held) → held ≡ Some h → bytes_of h file ≡ Some bytes)
    → IfErr result (λ fault. IsFault fault held (λ h. found (include h) file spot (bytes_of h file) reading) old new)
opened_fault include file spot bytes reading reading' (Ok input) held old new fits same is opens bytes_are = tt
opened_fault include file spot bytes reading reading' (Err fault) held old new fits same is opens bytes_are =
    refuses_fault fault held (λ h. found (include h) file spot (bytes_of h file) reading) (file_text (include []) file bytes reading') old new same (opens [])
    (λ h e. subst (Refuses fault) (sym (ap (λ b. found (include h) file spot b reading) (bytes_are h e) ∙ found_bytes (include h) file spot bytes reading fits ∙ ap (file_text (include h) file bytes) is)) (opens h))

-- a file in which others may stand, itself counted, is loaded where not too many are
pub expansion_zero : (held : Held) (file : List ℕ) (spot : Spot) (reading : Reading) → file_expansion held 0 file spot reading ≡ broken_at spot 11 reading
unfolding file_expansion
expansion_zero held file spot reading = refl

pub expansion_full : (held : Held) (n : ℕ) (file : List ℕ) (spot : Spot) (reading : Reading) → max_loads ≤ length reading.loads → file_expansion held (suc n) file spot reading ≡ broken_at spot 80 reading
unfolding file_expansion
expansion_full held n file spot reading full =
    let is : nat_le max_loads (length reading.loads) ≡ true = grind arith in
    ap (λ b. cond b (broken_at spot 80 reading) (found (file_expansion held n) file spot (bytes_of held file) (record reading { loads = reading.loads ++ file ∷ [] }))) is

pub expansion_found : (held : Held) (n : ℕ) (file : List ℕ) (spot : Spot) (reading : Reading) → length reading.loads < max_loads
    → file_expansion held (suc n) file spot reading ≡ found (file_expansion held n) file spot (bytes_of held file) (record reading { loads = reading.loads ++ file ∷ [] })
unfolding file_expansion
expansion_found held n file spot reading few =
    let is : nat_le max_loads (length reading.loads) ≡ false = grind arith in
    ap (λ b. cond b (broken_at spot 80 reading) (found (file_expansion held n) file spot (bytes_of held file) (record reading { loads = reading.loads ++ file ∷ [] }))) is

-- the first file
pub source_found : (held : Held) (file : List ℕ) (defines : List (List ℕ × List ℕ)) → source_expansion held file defines ≡
    found (file_expansion held max_includes) file (record { stretch = 0; line = 0; name = file }) (bytes_of held file)
    (record { macros = with_defines no_macros defines; uses = 0; loads = file ∷ []; text = record { bytes = []; places = []; names = [] } })
unfolding source_expansion
source_found held file defines =
    expansion_found held max_includes file (record { stretch = 0; line = 0; name = file }) (record { macros = with_defines no_macros defines; uses = 0; loads = []; text = record { bytes = []; places = []; names = [] } }) (omega arith)

bind_ok : (told : Result Reading Stop) → (told >>= λ read. Ok read) ≡ told
bind_ok (Ok read) = refl
bind_ok (Err stop) = refl

pub first_rest : (held : Held) (file : List ℕ) (defines : List (List ℕ × List ℕ)) (bytes : List ℕ) (reading : Reading) (input : Input) → length bytes ≤ max_file → bytes_of held file ≡ Some bytes
    → reading ≡ record { macros = with_defines no_macros defines; uses = 0; loads = file ∷ []; text = begun file }
    → file_text (include_in held 0) file bytes reading ≡ input_rest (include_in held 0) input reading
    → source_expansion held file defines ≡ (input_rest (include_in held 0) input reading >>= outer_rest held [])
first_rest held file defines bytes reading input fits is begins opens =
    source_found held file defines
    ∙ ap (λ b. found (file_expansion held max_includes) file (record { stretch = 0; line = 0; name = file }) b (record { macros = with_defines no_macros defines; uses = 0; loads = file ∷ []; text = record { bytes = []; places = []; names = [] } })) is
    ∙ found_bytes (file_expansion held max_includes) file (record { stretch = 0; line = 0; name = file }) bytes (record { macros = with_defines no_macros defines; uses = 0; loads = file ∷ []; text = record { bytes = []; places = []; names = [] } }) fits
    ∙ ap (file_text (include_in held 0) file bytes) (sym begins) ∙ opens ∙ sym (bind_ok _)

-- the same fault, of what comes to the same
pub fault_same : (fault : PreFault) (held : Option Held) (told told' : Held → Result Reading Stop) (old new : ℕ) → ((h : Held) → held ≡ Some h → told h ≡ told' h) → IsFault fault held told old new → IsFault fault held told' old new
fault_same (faults.Refused refusal file) held told told' old new same f = ((λ h e. subst (IsRefused refusal (string_bytes file)) (same h e) (f.0 h e)), f.1)
fault_same faults.Memory held told told' old new same f = f
fault_same faults.ReadFault held told told' old new same (inr counted) = inr counted
fault_same faults.ReadFault held told told' old new same (inl missed) = inl (go held same missed) where
  go : (held : Option Held) → ((h : Held) → held ≡ Some h → told h ≡ told' h) → IsSomeAnd held (λ h. IsMiss (told h)) → IsSomeAnd held (λ h. IsMiss (told' h))
  go None same m = absurd m
  go (Some h) same m = subst IsMiss (same h refl) m

pub first_fault : (file : List ℕ) (defines : List (List ℕ × List ℕ)) (fault : PreFault) (held : Option Held) (old new : ℕ)
    → ((include : Held → Include) (reading : Reading) → IsFault fault held (λ h. found (include h) file (record { stretch = 0; line = 0; name = file }) (bytes_of h file) reading) old new)
    → IsFault fault held (λ h. source_expansion h file defines) old new
first_fault file defines fault held old new all =
    fault_same fault held (λ h. found (file_expansion h max_includes) file (record { stretch = 0; line = 0; name = file }) (bytes_of h file) (record { macros = with_defines no_macros defines; uses = 0; loads = file ∷ []; text = record { bytes = []; places = []; names = [] } }))
    (λ h. source_expansion h file defines) old new (λ h e. sym (source_found h file defines))
    (all (λ h. file_expansion h max_includes) (record { macros = with_defines no_macros defines; uses = 0; loads = file ∷ []; text = record { bytes = []; places = []; names = [] } }))

-- a fault in what comes first is one of the whole
pub refuses_bind : (fault : PreFault) (told : Result Reading Stop) (f : Reading → Result Reading Stop) → Refuses fault told → Refuses fault (told >>= f)
refuses_bind (faults.Refused refusal file) (Ok read) f r = absurd r
refuses_bind (faults.Refused refusal file) (Err stop) f r = r
refuses_bind faults.ReadFault told f r = r
refuses_bind faults.Memory told f r = tt

pub fault_bind : (fault : PreFault) (held : Option Held) (told : Held → Result Reading Stop) (f : Held → Reading → Result Reading Stop) (old new : ℕ) → IsFault fault held told old new → IsFault fault held (λ h. told h >>= f h) old new
fault_bind (faults.Refused refusal file) held told f old new fault = ((λ h e. refuses_bind (faults.Refused refusal file) (told h) (f h) (fault.0 h e)), fault.1)
fault_bind faults.Memory held told f old new fault = fault
fault_bind faults.ReadFault held told f old new (inr counted) = inr counted
fault_bind faults.ReadFault held told f old new (inl missed) = inl (go held missed) where
  misses : (told : Result Reading Stop) (f : Reading → Result Reading Stop) → IsMiss told → IsMiss (told >>= f)
  misses (Ok read) f m = absurd m
  misses (Err stop) f m = m

  go : (held : Option Held) → IsSomeAnd held (λ h. IsMiss (told h)) → IsSomeAnd held (λ h. IsMiss (told h >>= f h))
  go None m = absurd m
  go (Some h) m = misses (told h) (f h) m

-- a rule that is broken at a place refuses what comes to it there
pub broken_refuses : (fault : PreFault) (spot : Spot) (rule : ℕ) (reading : Reading) → IsBrokenAt spot.stretch spot.line spot.name rule fault → Refuses fault (broken_at spot rule reading)
broken_refuses (faults.Refused refusal file) spot rule reading at = at
broken_refuses faults.ReadFault spot rule reading at = absurd at
broken_refuses faults.Memory spot rule reading at = tt

include_deep : (held : Held) (outer : ℕ) (file : List ℕ) (spot : Spot) (reading : Reading) → max_includes ≤ outer → include_in held outer file spot reading ≡ broken_at spot 11 reading
include_deep held outer file spot reading deep =
    let none : max_includes - outer ≡ 0 = omega arith in
    ap (λ n. file_expansion held n file spot reading) none ∙ expansion_zero held file spot reading

include_full : (held : Held) (outer : ℕ) (file : List ℕ) (spot : Spot) (reading : Reading) → outer < max_includes → max_loads ≤ length reading.loads → include_in held outer file spot reading ≡ broken_at spot 80 reading
include_full held outer file spot reading room full =
    let some : max_includes - outer ≡ suc (max_includes - suc outer) = omega arith in
    ap (λ n. file_expansion held n file spot reading) some ∙ expansion_full held (max_includes - suc outer) file spot reading full

include_found : (held : Held) (outer : ℕ) (file : List ℕ) (spot : Spot) (reading : Reading) → outer < max_includes → length reading.loads < max_loads
    → include_in held outer file spot reading ≡ found (include_in held (suc outer)) file spot (bytes_of held file) (record reading { loads = reading.loads ++ file ∷ [] })
include_found held outer file spot reading room few =
    let some : max_includes - outer ≡ suc (max_includes - suc outer) = omega arith in
    ap (λ n. file_expansion held n file spot reading) some ∙ expansion_found held (max_includes - suc outer) file spot reading few

-- where an include stands
abbrev pub include_spot : Source → Included → Spot
include_spot source included = spot_of (string_bytes source.input.name) included.line (reading_seen source.state)

-- how many files are open round the one that is read
pub outer_count : (source : Source) → length (outer_of source) ≡ length source.outer.items
outer_count source = length-reverse source.outer.items

pub included_deep : (fault : PreFault) (held : Option Held) (source : Source) (included : Included) (old : ℕ) → max_includes ≤ length source.outer.items
    → IsBrokenAt (stretch_of (reading_seen source.state)) included.line (string_bytes source.input.name) 11 fault → IsFault fault held (λ h. included_rest h source included) old old
included_deep fault held source included old deep at =
    let is : Refuses fault (broken_at (include_spot source included) 11 (reading_seen source.state)) = broken_refuses fault (include_spot source included) 11 (reading_seen source.state) at in
    refuses_fault fault held (λ h. included_rest h source included) (broken_at (include_spot source included) 11 (reading_seen source.state)) old old refl is
    (λ h e. refuses_bind fault (include_in h (length (outer_of source)) (string_bytes included.name) (include_spot source included) (reading_seen source.state)) (outer_rest h (source.input ∷ outer_of source))
    (subst (Refuses fault) (sym (include_deep h (length (outer_of source)) (string_bytes included.name) (include_spot source included) (reading_seen source.state) (omega (arith, deep, outer_count source)))) is))

pub included_full : (fault : PreFault) (held : Option Held) (source : Source) (included : Included) (old : ℕ) → length source.outer.items < max_includes → max_loads ≤ length source.state.loads
    → IsBrokenAt (stretch_of (reading_seen source.state)) included.line (string_bytes source.input.name) 80 fault → IsFault fault held (λ h. included_rest h source included) old old
included_full fault held source included old room full at =
    let is : Refuses fault (broken_at (include_spot source included) 80 (reading_seen source.state)) = broken_refuses fault (include_spot source included) 80 (reading_seen source.state) at in
    refuses_fault fault held (λ h. included_rest h source included) (broken_at (include_spot source included) 80 (reading_seen source.state)) old old refl is
    (λ h e. refuses_bind fault (include_in h (length (outer_of source)) (string_bytes included.name) (include_spot source included) (reading_seen source.state)) (outer_rest h (source.input ∷ outer_of source))
    (subst (Refuses fault) (sym (include_full h (length (outer_of source)) (string_bytes included.name) (include_spot source included) (reading_seen source.state) (omega (arith, room, outer_count source)) full)) is))

-- what is read once an included file is loaded
abbrev pub loaded : Source → Included → Reading
loaded source included = record (reading_seen source.state) { loads = source.state.loads ++ string_bytes included.name ∷ [] }

abbrev pub inner_of : Held → Source → Include
inner_of held source = include_in held (suc (length (outer_of source)))

pub included_found : (held : Held) (source : Source) (included : Included) → length source.outer.items < max_includes → length source.state.loads < max_loads
    → included_rest held source included ≡ (found (inner_of held source) (string_bytes included.name) (include_spot source included) (bytes_of held (string_bytes included.name)) (loaded source included) >>= outer_rest held (source.input ∷ outer_of source))
included_found held source included room few =
    ap (λ told. told >>= outer_rest held (source.input ∷ outer_of source)) (include_found held (length (outer_of source)) (string_bytes included.name) (include_spot source included) (reading_seen source.state) (omega (arith, room, outer_count source)) few)

-- a fault of the load of an included file is one of the source
pub included_fault : (fault : PreFault) (held : Option Held) (source : Source) (included : Included) (old new : ℕ) → length source.outer.items < max_includes → length source.state.loads < max_loads
    → ((include : Held → Include) → IsFault fault held (λ h. found (include h) (string_bytes included.name) (include_spot source included) (bytes_of h (string_bytes included.name)) (loaded source included)) old new)
    → IsFault fault held (λ h. included_rest h source included) old new
included_fault fault held source included old new room few all =
    fault_same fault held (λ h. found (inner_of h source) (string_bytes included.name) (include_spot source included) (bytes_of h (string_bytes included.name)) (loaded source included) >>= outer_rest h (source.input ∷ outer_of source)) (λ h. included_rest h source included) old new
    (λ h e. sym (included_found h source included room few))
    (fault_bind fault held (λ h. found (inner_of h source) (string_bytes included.name) (include_spot source included) (bytes_of h (string_bytes included.name)) (loaded source included)) (λ h. outer_rest h (source.input ∷ outer_of source)) old new (all (λ h. inner_of h source)))

-- once it is open, the source goes on in it
pub included_opened : (held : Held) (source next : Source) (included : Included) → length source.outer.items < max_includes → length source.state.loads < max_loads → next.outer.items ≡ source.outer.items ++ source.input ∷ []
    → found (inner_of held source) (string_bytes included.name) (include_spot source included) (bytes_of held (string_bytes included.name)) (loaded source included) ≡ input_rest (inner_of held source) next.input (reading_seen next.state)
    → included_rest held source included ≡ source_rest held next
included_opened held source next included room few outer opens =
    let round : outer_of next ≡ source.input ∷ outer_of source = ap reverse outer ∙ reverse-append source.outer.items (source.input ∷ []) in
    included_found held source included room few ∙ ap (λ told. told >>= outer_rest held (source.input ∷ outer_of source)) opens
    ∙ ap (λ l. input_rest (include_in held (length l)) next.input (reading_seen next.state) >>= outer_rest held l) (sym round)

pub opened_source : (source next : Source) (name : List ℕ) → IsSource source → length source.outer.items < max_includes → length source.state.loads < max_loads → next.outer.items ≡ source.outer.items ++ source.input ∷ []
    → next.state.loads ≡ source.state.loads ++ name ∷ [] → length next.state.text.names ≡ length source.state.text.names + 1 → next.state.text.bytes ≡ source.state.text.bytes → IsInput next.input → IsSource next
opened_source source next name is room few outer loads names bytes input =
    let more : length next.state.loads ≡ length source.state.loads + 1 = ap length loads ∙ length-append source.state.loads (name ∷ []) in
    let deeper : length next.outer.items ≡ length source.outer.items + 1 = ap length outer ∙ length-append source.outer.items (source.input ∷ []) in
    record {
      reading = record {
        short = subst (λ b. length b ≤ 4194304) (sym bytes) is.reading.short;
        few = omega (arith, is.count, more, names, is.reading.few);
        loaded = omega (arith, more, few);
      };
      input = input;
      outer = subst (All IsInput) (sym outer) (All-append IsInput source.outer.items (source.input ∷ []) is.outer (All-cons IsInput source.input [] is.input (All-nil IsInput)));
      count = omega (arith, is.count, more, deeper, names);
      deep = omega (arith, deeper, room);
    }

pub first_source : (held : Held) (file : List ℕ) (defines : List (List ℕ × List ℕ)) (bytes : List ℕ) (source : Source) → length bytes ≤ max_file → bytes_of held file ≡ Some bytes
    → reading_seen source.state ≡ record { macros = with_defines no_macros defines; uses = 0; loads = file ∷ []; text = begun file } → source.outer.items ≡ []
    → file_text (include_in held 0) file bytes (reading_seen source.state) ≡ input_rest (include_in held 0) source.input (reading_seen source.state)
    → source_expansion held file defines ≡ source_rest held source
first_source held file defines bytes source fits is begins none opens =
    first_rest held file defines bytes (reading_seen source.state) source.input fits is begins opens
    ∙ ap (λ l. input_rest (include_in held (length (reverse l))) source.input (reading_seen source.state) >>= outer_rest held (reverse l)) (sym none)

pub first_refused : (fault : PreFault) (held : Option Held) (file : List ℕ) (defines : List (List ℕ × List ℕ)) (bytes : List ℕ) (reading : Reading) (old new : ℕ) → length bytes ≤ max_file → new ≡ old
    → reading ≡ record { macros = with_defines no_macros defines; uses = 0; loads = file ∷ []; text = begun file } → ((include : Include) → Refuses fault (file_text include file bytes reading)) → ((h : Held) → held ≡ Some h → bytes_of h file ≡ Some bytes)
    → IsFault fault held (λ h. source_expansion h file defines) old new
first_refused fault held file defines bytes reading old new fits same begins refuses bytes_are =
    refuses_fault fault held (λ h. source_expansion h file defines) (file_text (λ f s r. Ok r) file bytes reading) old new same (refuses (λ f s r. Ok r))
    (λ h e. subst (Refuses fault)
    (ap (file_text (file_expansion h max_includes) file bytes) begins
    ∙ sym (found_bytes (file_expansion h max_includes) file (record { stretch = 0; line = 0; name = file }) bytes (record { macros = with_defines no_macros defines; uses = 0; loads = file ∷ []; text = record { bytes = []; places = []; names = [] } }) fits)
    ∙ ap (λ b. found (file_expansion h max_includes) file (record { stretch = 0; line = 0; name = file }) b (record { macros = with_defines no_macros defines; uses = 0; loads = file ∷ []; text = record { bytes = []; places = []; names = [] } })) (sym (bytes_are h e))
    ∙ sym (source_found h file defines))
    (refuses (file_expansion h max_includes)))
