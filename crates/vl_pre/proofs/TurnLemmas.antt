-- A source that is read piece by piece.
use Rattle.std.proofs.Common.{◌≡◌, ◌<◌, ◌∙◌, ◌⊎◌, inl, inr, ℕ, Bool, true, false, cond, List, [], ◌∷◌, ◌++◌, length, Result, Ok, Err, Option, refl, sym, ap, subst, append_assoc}
use Rattle.std.specs.Prelude.{IsErr, MatchResult, OnOk, string_bytes}
use Rattle.xt_base.specs.Outside.{Held}
use Rattle.vl_pre.specs.Breaks.{◌>>=◌, max_loads, max_includes}
use Rattle.vl_pre.specs.Files.{Reading, Include, Stop, spot_of, source_expansion}
use Rattle.vl_pre.specs.Faults.{Refuses, IsFault, AskedInOrder, loads_of}
use Rattle.vl_pre.specs.Inputs.{input_rest, resumed, IsNext}
use Rattle.vl_pre.specs.Readings.{reading_seen}
use Rattle.vl_pre.specs.Sources.{include_in, outer_rest, outer_of, source_rest, included_rest}
use Rattle.vl_pre.specs.declared.source.Source.{Source}
use Rattle.vl_pre.specs.declared.state.State.{State}
use Rattle.vl_pre.specs.declared.inputs.Input.{Input}
use Rattle.vl_pre.specs.declared.inputs.Included.{Included}
use Rattle.vl_pre.specs.declared.inputs.Next.{Next}
use Rattle.vl_pre.specs.declared.inputs.Next.TheVariants.{Includes}
use Rattle.vl_pre.specs.declared.faults.PreFault.{PreFault}
use Rattle.vl_pre.proofs.SourceLemmas.{refuses_fault, refuses_bind}
use Rattle.vl_pre.proofs.GrowLemmas.{source_grows, included_grows, first_grows, asked_in_order}
use Rattle.std.proofs.lemmas.List.{append-nil}

-- what refuses a piece of the file is a fault of the source
pub step_fault : (fault : PreFault) (held : Option Held) (source : Source) (old : ℕ) → ((include : Include) → Refuses fault (input_rest include source.input (reading_seen source.state))) → IsFault fault held (λ h. source_rest h source) old old
step_fault fault held source old all =
    refuses_fault fault held (λ h. source_rest h source) (input_rest (λ f s r. Ok r) source.input (reading_seen source.state)) old old refl (all (λ f s r. Ok r))
    (λ h e. refuses_bind fault (input_rest (include_in h (length (outer_of source))) source.input (reading_seen source.state)) (outer_rest h (outer_of source)) (all (include_in h (length (outer_of source)))))

pub err_match : {A E : Type 0} (result : Result A E) (Q R : Type 0) → IsErr result → R → MatchResult result (λ _. Q) (λ _. R)
err_match (Ok x) Q R e r = cc
err_match (Err x) Q R e r = r

-- the source after a piece
abbrev after : Source → State → Input → Source
after source state input = record { state = state; input = input; outer = source.outer }

included_is : (held : Held) (source : Source) (state : State) (input : Input) (included : Included)
    → IsNext (include_in held (length (outer_of source))) input (reading_seen state) (Ok (Includes included)) (input_rest (include_in held (length (outer_of source))) source.input (reading_seen source.state))
    → source_rest held source ≡ included_rest held (after source state input) included
included_is held source state input included is =
    ap (λ told. told >>= outer_rest held (outer_of source)) is ∙ assoc (include_in held (length (outer_of source)) (string_bytes included.name) (spot_of (string_bytes input.name) included.line (reading_seen state)) (reading_seen state))
  where
    assoc : (told : Result Reading Stop) → ((told >>= resumed (include_in held (length (outer_of source))) input) >>= outer_rest held (outer_of source)) ≡ (told >>= outer_rest held (input ∷ outer_of source))
    assoc (Ok read) = refl
    assoc (Err stop) = refl

-- the names that were asked for where an include fails
pub include_asked : (E : Type 0) (held : Held) (source : Source) (state : State) (input : Input) (next : Next) (included : Included) (start asked asked' : List (List ℕ)) → next ≡ Includes included
    → IsNext (include_in held (length (outer_of source))) input (reading_seen state) (Ok next) (input_rest (include_in held (length (outer_of source))) source.input (reading_seen source.state))
    → asked ≡ start ++ source.state.loads → state.loads ≡ source.state.loads
    → ((asked' ≡ asked ++ string_bytes included.name ∷ []) × (length source.outer.items < max_includes) × (length state.loads < max_loads)) ⊎ (E × (asked' ≡ asked)) → AskedInOrder start asked' (loads_of (source_rest held source))
include_asked E held source state input next included start asked asked' known is begun same (inr (failed, still)) =
    asked_in_order start asked' source.state.loads (source_rest held source) (still ∙ begun) (source_grows held source)
include_asked E held source state input next included start asked asked' known is begun same (inl (more, room, few)) =
    let next_is : IsNext (include_in held (length (outer_of source))) input (reading_seen state) (Ok (Includes included)) (input_rest (include_in held (length (outer_of source))) source.input (reading_seen source.state))
    = subst (λ n. IsNext (include_in held (length (outer_of source))) input (reading_seen state) (Ok n) (input_rest (include_in held (length (outer_of source))) source.input (reading_seen source.state))) known is in
    let whole : source_rest held source ≡ included_rest held (after source state input) included = included_is held source state input included next_is in
    let names : asked' ≡ start ++ (state.loads ++ string_bytes included.name ∷ []) =
    more ∙ ap (λ l. l ++ string_bytes included.name ∷ []) begun ∙ append_assoc start source.state.loads (string_bytes included.name ∷ []) ∙ ap (λ l. start ++ (l ++ string_bytes included.name ∷ [])) (sym same) in
    subst (λ told. AskedInOrder start asked' (loads_of told)) (sym whole)
    (asked_in_order start asked' (state.loads ++ string_bytes included.name ∷ []) (included_rest held (after source state input) included) names (included_grows held (after source state input) included room few))

pub source_asked : (held : Held) (source : Source) (start asked : List (List ℕ)) → asked ≡ start ++ source.state.loads → AskedInOrder start asked (loads_of (source_rest held source))
source_asked held source start asked begun = asked_in_order start asked source.state.loads (source_rest held source) begun (source_grows held source)

-- where a file ends nothing is asked for
pub leave_asked : {A E : Type 0} (result : Result A E) (start asked loads loads' : List (List ℕ)) (Q : Type 0) → OnOk result (loads' ≡ loads) → asked ≡ start ++ loads → Q → MatchResult result (λ _. asked ≡ start ++ loads') (λ _. Q)
leave_asked (Ok x) start asked loads loads' Q same begun q = begun ∙ ap (λ l. start ++ l) (sym same)
leave_asked (Err x) start asked loads loads' Q same begun q = q

-- the names that were asked for where the first file was opened, or wasn't
pub begun_asked : (E : Type 0) (name : List ℕ) (old asked loads : List (List ℕ)) → ¬ E → loads ≡ name ∷ [] → (asked ≡ old ++ name ∷ []) ⊎ (E × (asked ≡ old)) → asked ≡ old ++ loads
begun_asked E name old asked loads never is (inl more) = more ∙ ap (λ l. old ++ l) (sym is)
begun_asked E name old asked loads never is (inr (failed, still)) = absurd (never failed)

pub first_asked : (E : Type 0) (held : Held) (name : List ℕ) (defines : List (List ℕ × List ℕ)) (old asked : List (List ℕ)) → (asked ≡ old ++ name ∷ []) ⊎ (E × (asked ≡ old)) → AskedInOrder old asked (loads_of (source_expansion held name defines))
first_asked E held name defines old asked (inl more) = asked_in_order old asked (name ∷ []) (source_expansion held name defines) more (first_grows held name defines)
first_asked E held name defines old asked (inr (failed, still)) = record { names = []; rest = loads_of (source_expansion held name defines); asked = still ∙ sym (append-nil old); order = refl }

-- a turn after which the source goes on, and one after which it has ended
pub goes_on : {A : Type 0} (goes : Bool) (told more last : A) → goes ≡ true → told ≡ cond goes more last → told ≡ more
goes_on goes told more last on is = is ∙ ap (λ b. cond b more last) on

pub ended_asked : (held : Held) (source source' : Source) (goes : Bool) (start asked : List (List ℕ)) → goes ≡ false → source_rest held source ≡ cond goes (source_rest held source') (Ok (reading_seen source'.state)) → asked ≡ start ++ source'.state.loads
    → AskedInOrder start asked (loads_of (source_rest held source))
ended_asked held source source' goes start asked off is begun =
    record {
      names = source'.state.loads;
      rest = [];
      asked = begun;
      order = ap loads_of (is ∙ ap (λ b. cond b (source_rest held source') (Ok (reading_seen source'.state))) off) ∙ sym (append-nil source'.state.loads);
    }
