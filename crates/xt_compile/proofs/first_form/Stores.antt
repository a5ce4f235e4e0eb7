-- The store after the updates of a stretch, by the next values of the variables.
use Rattle.std.proofs.Common.{◌≡◌, ◌<◌, ◌++◌, ℕ, zero, suc, Bool, true, false, if◌then◌else◌, List, [], ◌∷◌, Option, Some, None, length, map, get_or, set, refl, sym, ap, ◌∙◌, arith}
use Rattle.std.specs.Prelude.{slice_get, fold, unwrap_or, pos}
use Rattle.std.proofs.lemmas.List.{get_or-map, map-set}
use Rattle.std.proofs.lemmas.Option.{slice_get-map, slice_get_within}
use Rattle.xt_bits.specs.Word.{Word}
use Rattle.xt_bits.specs.Operators.{select_of}
use Rattle.el_design.specs.declared.designs.Var.{Var}
use Rattle.el_design.specs.Plain.{ToVariable, Statement, Assign, Wait, Flat}
use Rattle.el_design.specs.Queue.{scene_of}
use Rattle.el_design.specs.Store.{Store, width_of, put_all}
use Rattle.el_design.specs.Value.{Scene, value}
use Rattle.el_design.specs.View.{seq_of}
use Rattle.xt_compile.specs.first.Form.{IsStatement, AreStatements}
use Rattle.xt_compile.specs.first.Machine.{is_wait, before, behind, from_start, stretch, update, updated}
use Rattle.xt_compile.specs.first.Nodes.{words_of, assigned, all_assigned, rest_at}
use Rattle.xt_compile.proofs.first_form.Fits.{HasFit, Fit, fit_length, fit_set, value_fits, whole_part}
use Rattle.xt_compile.proofs.first_form.Nexts.{some_sum}

-- ---- lists of statements of the form

abbrev pub AreFormal : List ℕ → List ℕ → List Statement → Type 0
AreFormal vars nets ss = AreStatements vars nets (seq_of ss)

formal_append : (vars nets : List ℕ) (xs ys : List Statement) → AreFormal vars nets xs → AreFormal vars nets ys → AreFormal vars nets (xs ++ ys)
formal_append vars nets [] ys h g = g
formal_append vars nets (x ∷ xs) ys h g = (h.0, formal_append vars nets xs ys h.1 g)

formal_before : (vars nets : List ℕ) (ss : List Statement) → AreFormal vars nets ss → AreFormal vars nets (before ss)
formal_before vars nets [] h = tt
formal_before vars nets (s ∷ ss) h = go (is_wait s) (formal_before vars nets ss h.1)
  where
    go : (a : Bool) → AreFormal vars nets (before ss) → AreFormal vars nets (if a then [] else s ∷ before ss)
    go true g = tt
    go false g = (h.0, g)

pub formal_behind : (vars nets : List ℕ) (ss : List Statement) → AreFormal vars nets ss → AreFormal vars nets (unwrap_or (behind ss) [])
formal_behind vars nets [] h = tt
formal_behind vars nets (s ∷ ss) h = go (is_wait s) (formal_behind vars nets ss h.1)
  where
    go : (a : Bool) → AreFormal vars nets (unwrap_or (behind ss) []) → AreFormal vars nets (unwrap_or (if a then Some ss else behind ss) [])
    go true g = h.1
    go false g = g

pub formal_rest : (vars nets : List ℕ) (n : ℕ) (ss : List Statement) → AreFormal vars nets ss → AreFormal vars nets (rest_at n ss)
formal_rest vars nets zero ss h = h
formal_rest vars nets (suc n) ss h = formal_rest vars nets n (unwrap_or (behind ss) []) (formal_behind vars nets ss h)

pub formal_stretch : (vars nets : List ℕ) (ss rest : List Statement) → AreFormal vars nets ss → AreFormal vars nets rest → AreFormal vars nets (stretch ss rest)
formal_stretch vars nets ss rest h g = formal_append vars nets (before rest) (from_start ss (behind rest)) (formal_before vars nets rest g) (go (behind rest))
  where
    go : (o : Option (List Statement)) → AreFormal vars nets (from_start ss o)
    go None = formal_before vars nets ss h
    go (Some k) = tt

-- ---- one update

-- the width of a variable, as its declaration has it
pub width_is : (d : Flat) (vars : List ℕ) (v w : ℕ) → map (λ x. x.width) d.vars ≡ vars → slice_get vars v ≡ Some w → width_of d v ≡ w
width_is d vars v w is there =
    ap (λ (o : Option ℕ). unwrap_or o 0) (sym (slice_get-map (λ (x : Var). x.width) d.vars v) ∙ ap (λ (ws : List ℕ). slice_get ws v) is ∙ there)

-- a write of a whole variable, whose value fits
put_whole : (vs : List Word) (v : ℕ) (b : Word) → v < length vs → set (words_of vs) v (set (get_or (words_of vs) v []) 0 b) ≡ words_of (set vs v b)
put_whole vs v b within =
    ap (λ (ws : List Word). set (words_of vs) v (set ws 0 b)) (get_or-map (λ (x : Word). x ∷ []) vs v b [] within)
    ∙ sym (map-set (λ (x : Word). x ∷ []) vs v b)

pub record Updates (d : Flat) (vars : List ℕ) (sc : Scene) (ss : List Statement) (vs : List Word) : Type 0 where
  pub store : fold put_all (words_of vs) (map (update d sc) ss) ≡ words_of (all_assigned d sc ss vs)
  pub fits : Fit vars (all_assigned d sc ss vs)

one_update : (d : Flat) (vars nets : List ℕ) (vs0 ns : List Word) (s : Statement) (vs : List Word) → map (λ x. x.width) d.vars ≡ vars → Fit vars vs0 → Fit nets ns → IsStatement vars nets s → Fit vars vs
    → Updates d vars (scene_of d (words_of vs0) ns) (s ∷ []) vs
one_update d vars nets vs0 ns (Wait at false) vs widths f0 fn h f = record { store = refl; fits = f }
one_update d vars nets vs0 ns (Assign at (ToVariable v) e true) vs widths f0 fn h f =
    let sum = some_sum vars nets v e h in
    let x : Word = value d (scene_of d (words_of vs0) ns) e in
    let fit : HasFit sum.0 x = value_fits d vars nets vs0 ns sum.0 e f0 fn sum.2 in
    let within = slice_get_within vars v sum.0 sum.1 in
    let size = fit_length vars vs f in
    let part : select_of x (pos 0) (width_of d v) ≡ x = ap (select_of x (pos 0)) (width_is d vars v sum.0 widths sum.1) ∙ whole_part sum.0 x fit in
    record {
      store = put_whole vs v (select_of x (pos 0) (width_of d v)) (omega (arith, within, size)) ∙ ap (λ (b : Word). words_of (set vs v b)) part;
      fits = fit_set vars vs v sum.0 x f sum.1 fit;
    }
one_update d vars nets vs0 ns s vs widths f0 fn h f = absurd h

-- ---- all of them

pub all_updates : (d : Flat) (vars nets : List ℕ) (vs0 ns : List Word) (ss : List Statement) (vs : List Word) → map (λ x. x.width) d.vars ≡ vars → Fit vars vs0 → Fit nets ns → AreFormal vars nets ss → Fit vars vs
    → Updates d vars (scene_of d (words_of vs0) ns) ss vs
all_updates d vars nets vs0 ns [] vs widths f0 fn h f = record { store = refl; fits = f }
all_updates d vars nets vs0 ns (s ∷ ss) vs widths f0 fn h f =
    let sc : Scene = scene_of d (words_of vs0) ns in
    let one = one_update d vars nets vs0 ns s vs widths f0 fn h.0 f in
    let more = all_updates d vars nets vs0 ns ss (assigned d sc vs s) widths f0 fn h.1 one.fits in
    record {
      store = ap (λ (store : Store). fold put_all store (map (update d sc) ss)) one.store ∙ more.store;
      fits = more.fits;
    }

-- the store after a stretch
pub updated_is : (d : Flat) (vars nets : List ℕ) (vs ns : List Word) (ss : List Statement) → map (λ x. x.width) d.vars ≡ vars → Fit vars vs → Fit nets ns → AreFormal vars nets ss
    → updated d ns (words_of vs) ss ≡ words_of (all_assigned d (scene_of d (words_of vs) ns) ss vs)
updated_is d vars nets vs ns ss widths f fn h = (all_updates d vars nets vs ns ss vs widths f fn h f).store
