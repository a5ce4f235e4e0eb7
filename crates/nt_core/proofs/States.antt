-- States keep to their netlist.
use Rattle.std.proofs.Common.{◌≡◌, ℕ, zero, suc, List, [], ◌∷◌, map, set, get_or, replicate, arith, refl, subst, sym, ap, ◌∙◌, Bool, true, false, Some}
use Rattle.std.specs.Prelude.{slice_get, fold, if◌then◌else◌, All, IfOk, Result, Ok, Err}
use Rattle.std.proofs.lemmas.Option.{same_Some, none-some, slice_get-get_or}
use Rattle.std.proofs.lemmas.List.{length-map}
use Rattle.std.proofs.Math.Seq.{map-set_same}
use Rattle.xt_bits.specs.Word.{Word, word}
use Rattle.xt_bits.specs.Operators.{any_of}
use Rattle.nt_core.specs.declared.netlist.Memory.{Memory}
use Rattle.nt_core.specs.declared.netlist.MemWrite.{MemWrite}
use Rattle.nt_core.specs.Parts.{Parts}
use Rattle.nt_core.specs.Sources.{State, Inputs}
use Rattle.nt_core.specs.Forms.{widths}
use Rattle.nt_core.specs.Conditions.{IsWrite, IsNetlist}
use Rattle.nt_core.specs.NodeValue.{value_at}
use Rattle.nt_core.specs.Tick.{start, written, next, tick, tick_values}
use Rattle.nt_core.specs.Fitting.{value_widths, IsState, SourcesFit}
use Rattle.nt_core.proofs.Values.{get-width}
use Rattle.nt_core.proofs.Ranges.{values-widths}

-- ---- the state at first

widths-replicate : (k : ℕ) (v : Word) → value_widths (replicate k v) ≡ replicate k v.width
widths-replicate zero v = refl
widths-replicate (suc k) v = ap (λ l. v.width ∷ l) (widths-replicate k v)

start-memories : (ms : List Memory) → map value_widths (map (λ m. replicate m.words (word m.width 0)) ms) ≡ map (λ m. replicate m.words m.width) ms
start-memories [] = refl
start-memories (m ∷ ms) =
    let first : value_widths (replicate m.words (word m.width 0)) ≡ replicate m.words m.width = widths-replicate m.words (word m.width 0) in
    ap (λ x. x ∷ map value_widths (map (λ k. replicate k.words (word k.width 0)) ms)) first
    ∙ ap (λ l. replicate m.words m.width ∷ l) (start-memories ms)

pub start_fits : (n : Parts) → IsState n (start n)
start_fits n = record { registers = refl; memories = start-memories n.memories }

-- ---- the state after a tick

driven-widths : (vs : List Word) (drives wanted : List ℕ) → map (slice_get (value_widths vs)) drives ≡ map Some wanted → value_widths (map (value_at vs) drives) ≡ wanted
driven-widths vs [] [] e = refl
driven-widths vs [] (w ∷ wanted) e = cc
driven-widths vs (a ∷ drives) [] e = cc
driven-widths vs (a ∷ drives) (w ∷ wanted) e =
    let first : (value_at vs a).width ≡ w = get-width vs a w (word 1 0) (cc) in
    let rest : value_widths (map (value_at vs) drives) ≡ wanted = driven-widths vs drives wanted (cc) in
    cc

-- the word at a place, or one of that width where there is none
word-width : (xs : List Word) (k i : ℕ) (v : Word) → value_widths xs ≡ replicate k v.width → (get_or xs i v).width ≡ v.width
word-width [] k i v e = refl
word-width (x ∷ xs) zero i v e = cc
word-width (x ∷ xs) (suc k) zero v e = cc
word-width (x ∷ xs) (suc k) (suc i) v e = word-width xs k i v (cc)

-- the memory at a place
memory-words : (mems : List (List Word)) (ms : List Memory) (m w : ℕ) → map value_widths mems ≡ map (λ k. replicate k.words k.width) ms
    → slice_get (map (λ k. k.width) ms) m ≡ Some w → (count : ℕ) × (value_widths (get_or mems m []) ≡ replicate count w)
memory-words [] ms m w e f = (0, refl)
memory-words (x ∷ mems) [] m w e f = absurd (none-some w f)
memory-words (x ∷ mems) (k ∷ ms) zero w e f =
    let here : value_widths x ≡ replicate k.words k.width = cc in
    (k.words, subst (λ u. value_widths x ≡ replicate k.words u) (same_Some k.width w f) here)
memory-words (x ∷ mems) (k ∷ ms) (suc m) w e f = memory-words mems ms m w (cc) f

if-widths : (b : Bool) (xs ys zs : List (List Word)) → map value_widths xs ≡ map value_widths zs → map value_widths ys ≡ map value_widths zs
    → map value_widths (if b then xs else ys) ≡ map value_widths zs
if-widths true xs ys zs p q = p
if-widths false xs ys zs p q = q

written-widths : (n : Parts) (vs : List Word) (mems : List (List Word)) (w : MemWrite) → value_widths vs ≡ widths n.nodes → IsWrite n w
    → map value_widths mems ≡ map (λ m. replicate m.words m.width) n.memories → map value_widths (written vs mems w) ≡ map value_widths mems
written-widths n vs mems w size is e =
    let width : Memory → ℕ = λ m. m.width in
    let v : Word = value_at vs w.value in
    let there = slice_get-get_or (map width n.memories) w.memory 0 (omega (arith, is.memory, length-map n.memories width)) in
    let same : v.width ≡ get_or (map width n.memories) w.memory 0 =
    get-width vs w.value _ (word 1 0) (ap (λ l. slice_get l w.value) size ∙ is.value ∙ there) in
    let words = memory-words mems n.memories w.memory v.width e (there ∙ ap (λ u. Some u) (sym same)) in
    let old : List Word = get_or mems w.memory [] in
    let kept : value_widths (set old (value_at vs w.index).value v) ≡ value_widths old =
    map-set_same (λ (x : Word). x.width) old (value_at vs w.index).value v v (sym (word-width old words.0 (value_at vs w.index).value v words.1)) in
    if-widths (any_of (value_at vs w.when)) _ mems mems (map-set_same value_widths mems w.memory _ [] kept) refl

writes-widths : (n : Parts) (vs : List Word) (mems : List (List Word)) (ws : List MemWrite) → value_widths vs ≡ widths n.nodes → All (IsWrite n) ws
    → map value_widths mems ≡ map (λ m. replicate m.words m.width) n.memories → map value_widths (fold (written vs) mems ws) ≡ map (λ m. replicate m.words m.width) n.memories
writes-widths n vs mems [] size are e = e
writes-widths n vs mems (w ∷ ws) size are e =
    writes-widths n vs (written vs mems w) ws size (λ k d h. are (suc k) d (omega arith))
    (written-widths n vs mems w size (are 0 w (omega arith)) e ∙ e)

pub next_fits : (n : Parts) (vs : List Word) (s : State) → IsNetlist n → value_widths vs ≡ widths n.nodes → IsState n s → IsState n (next n vs s)
next_fits n vs s is size fits = record {
  registers = driven-widths vs n.nexts (value_widths n.registers) (subst (λ ws. map (slice_get ws) n.nexts ≡ map Some (value_widths n.registers)) (sym size) is.shell.connected.nexts);
  memories = writes-widths n vs s.memories n.writes size is.shell.connected.writes fits.memories;
}

pub tick_fits : (n : Parts) (inputs : Inputs) (state : State) → IsNetlist n → SourcesFit n (record { inputs = inputs; state = state }) → IsState n (tick n inputs state)
tick_fits n inputs state is fits =
    next_fits n (tick_values n inputs state) state is (values-widths n (record { inputs = inputs; state = state }) fits is.nodes is.shell.connected.sources) fits.state

-- registers and memories that were computed apart, each from the values
pub tick_parts : (n : Parts) (inputs : Inputs) (state : State) (vs us : List Word) (nexts : List ℕ) (old : List (List Word)) (registers : List Word) (memories : List (List Word))
    → vs ≡ tick_values n inputs state → us ≡ tick_values n inputs state → nexts ≡ n.nexts → old ≡ state.memories
    → registers ≡ map (value_at vs) nexts → memories ≡ fold (written us) old n.writes → record { registers = registers; memories = memories } ≡ tick n inputs state
tick_parts n inputs state vs us nexts old registers memories v u x o r m =
    let values : List Word = tick_values n inputs state in
    let next_registers : registers ≡ map (value_at values) n.nexts = r ∙ ap (λ l. map (value_at l) nexts) v ∙ ap (map (value_at values)) x in
    let next_memories : memories ≡ fold (written values) state.memories n.writes = m ∙ ap (λ l. fold (written l) old n.writes) u ∙ ap (λ l. fold (written values) l n.writes) o in
    cc

-- ---- as answers of calls

pub start_ok : {E : Type 0} (n : Parts) (r : Result State E) → IfOk r (λ s. s ≡ start n) → IfOk r (λ s. IsState n s)
start_ok n (Ok s) e = subst (IsState n) (sym e) (start_fits n)
start_ok n (Err x) e = tt
