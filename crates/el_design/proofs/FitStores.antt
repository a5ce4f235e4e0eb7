-- What is stored fits the design: writes fit, and stores fit after them.
use Rattle.std.proofs.Common.{◌≡◌, ◌⊎◌, inl, inr, ℕ, zero, suc, ◌<◌, ◌^◌, ◌==◌, max, Bool, true, false, if◌then◌else◌, List, [], ◌∷◌, Option, Some, None, All, map, set, replicate, slice_get, get_or, length, option_map, unwrap_or, ℤ, refl, sym, ◌∙◌, ap, subst, arith, length-set}
use Rattle.std.proofs.lemmas.List.Elements.{All-nil, All-cons, All-head, All-tail, All-append, All-replicate}
use Rattle.std.proofs.lemmas.Bool.Decides.{eqb_tells}
use Rattle.std.proofs.lemmas.Option.{get_or_from_slice_get, same_Some, slice_get_within, slice_get-map}
use Rattle.xt_base.specs.declared.refusals.Place.{Place}
use Rattle.xt_bits.specs.Word.{Word}
use Rattle.xt_bits.specs.Word as words
use Rattle.xt_bits.specs.Operators.{extend_of, replace_of}
use Rattle.el_design.specs.declared.designs.Var.{Var}
use Rattle.el_design.specs.Plain.{Expr, Range, Lvalue, ToVariable, ToPart, ToWord, ToWordPart, Both, Nowhere, Statement, Null, Skip, Seq, Block, Assign, If, Case, Arm, For, While, Repeat, Forever, Wait, Enable, Disable, Host, FlatTask, Flat}
use Rattle.el_design.specs.Store.{Store, Spot, Whole, Within, Write, width_of, start_word, start_store, empty_store, spot_variable, spot_place, spot_width, total_width, writes_to, written, put_write, put_all}
use Rattle.el_design.specs.Value.{Scene, value, is_up}
use Rattle.el_design.specs.Assign.{range_width, spots, writes_of, copies_to, has_label, count_of}
use Rattle.el_design.specs.Function.{times, while_up, body_scene, assigned, body_store}
use Rattle.el_design.specs.InPlace.{Stands, itself, in_first, in_rest, in_block, in_named, in_then, in_else, in_case, in_arm, in_others, in_for, in_while, in_repeat, in_forever, in_task}
use Rattle.el_design.specs.Sound.{IsRange, IsPlainVariable, IsTarget, variable, part, word, word_part, parts, IsParts, no_part, more_parts, IsOutput, IsStatement, IsVariable, IsSound}
use Rattle.el_design.specs.Fits.{IsWordOf, FitsVariable, FitsStore, IsDeclared, FitsSpot, FitsWrite, IsSoundText}
use Rattle.el_design.proofs.FitWords.{word_is, select_is, replace_is}
use Rattle.el_design.proofs.OrderPlaces.{set_got, set_other}

-- ---- lists and variables

one_all : {X : Type 0} (P : X → Type 0) (x : X) → P x → All P (x ∷ [])
one_all P x p = All-cons P x [] p (All-nil P)

set_all : {X : Type 0} (P : X → Type 0) (xs : List X) (i : ℕ) (a : X) → (i < length xs → P a) → All P xs → All P (set xs i a)
set_all P [] i a p h = h
set_all P (x ∷ xs) zero a p h = All-cons P a xs (p (omega arith)) (All-tail P x xs h)
set_all P (x ∷ xs) (suc i) a p h = All-cons P x (set xs i a) (All-head P x xs h) (set_all P xs i a (λ l. p (omega arith)) (All-tail P x xs h))

width_is : (d : Flat) (v : ℕ) (var : Var) → slice_get d.vars v ≡ Some var → width_of d v ≡ var.width
width_is d v var is = ap (λ o. unwrap_or (option_map (λ x. x.width) o) 0) is

-- what a sound design says of a variable
variable_of : (d : Flat) → IsSound d → (v : ℕ) (var : Var) → slice_get d.vars v ≡ Some var → IsVariable var
variable_of d sound v var is = subst IsVariable (get_or_from_slice_get d.vars v var var is) (sound.vars v var (slice_get_within d.vars v var is))

-- ---- stores

words_of : (d : Flat) (store : Store) (v : ℕ) (var : Var) → FitsStore d store → slice_get d.vars v ≡ Some var → FitsVariable var (get_or store v [])
words_of d store v var f is = go (f v var is)
  where
    go : (words : List Word) × (slice_get store v ≡ Some words) × FitsVariable var words → FitsVariable var (get_or store v [])
    go h = subst (FitsVariable var) (sym (get_or_from_slice_get store v h.0 [] h.1)) h.2

-- other words for a variable
set_fits : (d : Flat) (store : Store) (v : ℕ) (words : List Word) → ((var : Var) → slice_get d.vars v ≡ Some var → FitsVariable var words) → FitsStore d store → FitsStore d (set store v words)
set_fits d store v words h f u var is = go (eqb_tells u v) (f u var is)
  where
    go : ((Rattle.std.proofs.Math.Dec.eqb u v ≡ true) × (u ≡ v)) ⊎ ((Rattle.std.proofs.Math.Dec.eqb u v ≡ false) × (u ≡ v → ⊥)) → (ws : List Word) × (slice_get store u ≡ Some ws) × FitsVariable var ws
        → (ws : List Word) × (slice_get (set store v words) u ≡ Some ws) × FitsVariable var ws
    go (inl e) k =
        (words, subst (λ j. slice_get (set store v words) j ≡ Some words) (sym e.1) (set_got store v words (subst (λ j. j < length store) e.1 (slice_get_within store u k.0 k.1))), h var (subst (λ j. slice_get d.vars j ≡ Some var) e.1 is))
    go (inr n) k = (k.0, set_other store v u words n.1 ∙ k.1, k.2)

written_word : (d : Flat) (p : Spot) (bits : Word) (words : List Word) (var : Var) → slice_get d.vars (spot_variable p) ≡ Some var → FitsSpot d p → IsWordOf (spot_width p) bits → All (IsWordOf var.width) words
    → spot_place p < length words → IsWordOf var.width (written p bits (get_or words (spot_place p) bits))
written_word d (Whole v place n) bits words var is s e all lt = subst (λ k. IsWordOf k bits) (sym s.2 ∙ ap (λ x. x.width) (same_Some s.0 var (sym s.1 ∙ is))) e
written_word d (Within v place low n) bits words var is s e all lt =
    let old : Word = get_or words place bits in
    let was : IsWordOf var.width old = all place bits lt in
    subst (λ k. IsWordOf k (replace_of old low bits)) was.0 (replace_is old low bits)

put_write_fits : (d : Flat) (store : Store) (w : Write) → FitsStore d store → FitsWrite d w → FitsStore d (put_write store w)
put_write_fits d store w f h =
    set_fits d store (spot_variable w.spot) (set (get_or store (spot_variable w.spot) []) (spot_place w.spot) (written w.spot w.bits (get_or (get_or store (spot_variable w.spot) []) (spot_place w.spot) w.bits)))
    (λ var is. let old : FitsVariable var (get_or store (spot_variable w.spot) []) = words_of d store (spot_variable w.spot) var f is in
    record {
      size = length-set (get_or store (spot_variable w.spot) []) (spot_place w.spot) _ ∙ old.size;
      wide = set_all (IsWordOf var.width) (get_or store (spot_variable w.spot) []) (spot_place w.spot) _
          (λ lt. written_word d w.spot w.bits (get_or store (spot_variable w.spot) []) var is h.0 h.1 old.wide lt) old.wide;
    })
    f

pub put_all_fits : (d : Flat) (store : Store) (ws : List Write) → FitsStore d store → All (FitsWrite d) ws → FitsStore d (put_all store ws)
put_all_fits d store [] f h = f
put_all_fits d store (w ∷ ws) f h = put_all_fits d (put_write store w) ws (put_write_fits d store w f (All-head (FitsWrite d) w ws h)) (All-tail (FitsWrite d) w ws h)

-- as many variables stand in the store as before
pub put_all_size : (store : Store) (ws : List Write) → length (put_all store ws) ≡ length store
put_all_size store [] = refl
put_all_size store (w ∷ ws) = put_all_size (put_write store w) ws ∙ length-set store (spot_variable w.spot) _

-- ---- spots of targets

module _ (d : Flat) (s : Scene) where
  module _ (P : Spot → Type 0) (whole : (v place : ℕ) → IsDeclared d v → P (Whole v place (width_of d v))) (within : (v place : ℕ) (low : ℤ) (r : Range) → IsDeclared d v → IsRange r → P (Within v place low (range_width r))) where
    mutual
      target_all : {t : Lvalue} {w : ℕ} → IsTarget d t w → All P (spots d s t)
      target_all (variable {v = v} p) = one_all P _ (whole v 0 (p.var, p.is))
      target_all (part {v = v} w {r = r} p h) = one_all P _ (within v 0 _ r (p.var, p.is) h)
      target_all (word {v = v} p) = one_all P _ (whole v _ (p.var, p.is))
      target_all (word_part {v = v} w {r = r} p h) = one_all P _ (within v _ _ r (p.var, p.is) h)
      target_all (parts {t = t} {more = more} h k) = All-append P (spots d s t) (spots d s more) (target_all h) (parts_all k)

      parts_all : {t : Lvalue} {w : ℕ} → IsParts d t w → All P (spots d s t)
      parts_all no_part = All-nil P
      parts_all (more_parts {t = t} {more = more} h k) = All-append P (spots d s t) (spots d s more) (target_all h) (parts_all k)

    pub output_all : (t : Lvalue) → IsOutput d t → All P (spots d s t)
    output_all t (inr h) = target_all h.1
    output_all Nowhere (inl e) = All-nil P
    output_all (ToVariable v) (inl e) = cc
    output_all (ToPart v r) (inl e) = cc
    output_all (ToWord v i) (inl e) = cc
    output_all (ToWordPart v i r) (inl e) = cc
    output_all (Both a b) (inl e) = cc

-- ---- writes of targets

pub writes_all : (d : Flat) (ps : List Spot) (x : Word) → All (FitsSpot d) ps → All (FitsWrite d) (writes_to ps x)
writes_all d [] x h = All-nil (FitsWrite d)
writes_all d (p ∷ ps) x h = All-cons (FitsWrite d) _ (writes_to ps x) (All-head (FitsSpot d) p ps h, select_is x _ (spot_width p)) (writes_all d ps x (All-tail (FitsSpot d) p ps h))

pub spots_fit : (d : Flat) (s : Scene) (t : Lvalue) → IsOutput d t → All (FitsSpot d) (spots d s t)
spots_fit d s t h = output_all d s (FitsSpot d) (λ v place is. (is.0, is.1, sym (width_is d v is.0 is.1))) (λ v place low r is k. is) t h

pub writes_fit : (d : Flat) → IsSound d → (s : Scene) (t : Lvalue) → IsOutput d t → (x : Word) → All (FitsWrite d) (writes_of d s t x)
writes_fit d sound s t h x = writes_all d (spots d s t) x (spots_fit d s t h)

pub copies_fit : (d : Flat) → IsSound d → (s : Scene) (t : Lvalue) → IsOutput d t → (x : Word) (signed : Bool) → All (FitsWrite d) (copies_to d s t x signed)
copies_fit d sound s t h x signed = writes_all d (spots d s t) (extend_of x (total_width (spots d s t)) signed) (spots_fit d s t h)

pub variable_fits : (d : Flat) → IsSound d → (s : Scene) (v : ℕ) → IsDeclared d v → (x : Word) → All (FitsWrite d) (writes_of d s (ToVariable v) x)
variable_fits d sound s v is x = writes_all d (spots d s (ToVariable v)) x (one_all (FitsSpot d) _ (is.0, is.1, sym (width_is d v is.0 is.1)))

-- ---- stores at the start

length_replicate : {X : Type 0} (n : ℕ) (x : X) → length (replicate n x) ≡ n
length_replicate n x = Rattle.std.proofs.lemmas.List.length-replicate n x

module _ (d : Flat) (first : Var → Word) (fits : (v : ℕ) (var : Var) → slice_get d.vars v ≡ Some var → IsWordOf var.width (first var)) where
  filled_fits : FitsStore d (map (λ v. replicate (max 1 v.words) (first v)) d.vars)
  filled_fits v var is = (
    replicate (max 1 var.words) (first var),
    slice_get-map (λ v. replicate (max 1 v.words) (first v)) d.vars v ∙ ap (option_map (λ v. replicate (max 1 v.words) (first v))) is,
    record { size = length_replicate (max 1 var.words) (first var); wide = All-replicate (IsWordOf var.width) (max 1 var.words) (first var) (fits v var is) },
  )

pub empty_fits : (d : Flat) → FitsStore d (empty_store d)
empty_fits d = filled_fits d (λ v. words.word v.width 0) (λ v var is. word_is var.width 0)

start_word_is : (var : Var) → IsVariable var → IsWordOf var.width (start_word var)
start_word_is var is = go (var.words == 0)
  where
    go : (b : Bool) → IsWordOf var.width (if b then var.start else words.word var.width 0)
    go true = subst (λ w. IsWordOf w var.start) is.start (refl, is.fits)
    go false = word_is var.width 0

pub start_fits : (d : Flat) → IsSound d → FitsStore d (start_store d)
start_fits d sound = filled_fits d start_word (λ v var is. start_word_is var (variable_of d sound v var is))

-- ---- stores of function bodies

pub assigned_fits : (d : Flat) → IsSound d → (call : ℕ → List Word → Word) (v : ℕ) (e : Expr) (store : Store) → IsDeclared d v → FitsStore d store → FitsStore d (assigned d call v e store)
assigned_fits d sound call v e store is f = put_all_fits d store (writes_of d (body_scene call store) (ToVariable v) (value d (body_scene call store) e)) f (variable_fits d sound (body_scene call store) v is (value d (body_scene call store) e))

-- ---- statements in a statement

-- what stands under some marks stands under others too
moved : {tasks : List FlatTask} {marks o : List ℕ} {s x : Statement} (others : List ℕ) → Stands tasks marks s o x → (p : List ℕ) × Stands tasks others s p x
moved others itself = (others, itself)
moved others (in_first h) = let k = moved others h in (k.0, in_first k.1)
moved others (in_rest h) = let k = moved others h in (k.0, in_rest k.1)
moved others (in_block h) = let k = moved others h in (k.0, in_block k.1)
moved others (in_named {m = m} h) = let k = moved (m ∷ others) h in (k.0, in_named k.1)
moved others (in_then h) = let k = moved others h in (k.0, in_then k.1)
moved others (in_else h) = let k = moved others h in (k.0, in_else k.1)
moved others (in_case h) = let k = moved others h in (k.0, in_case k.1)
moved others (in_arm h) = let k = moved others h in (k.0, in_arm k.1)
moved others (in_others h) = let k = moved others h in (k.0, in_others k.1)
moved others (in_for h) = let k = moved others h in (k.0, in_for k.1)
moved others (in_while h) = let k = moved others h in (k.0, in_while k.1)
moved others (in_repeat h) = let k = moved others h in (k.0, in_repeat k.1)
moved others (in_forever h) = let k = moved others h in (k.0, in_forever k.1)
moved others (in_task {task = task} e h) = let k = moved (task.mark ∷ others) h in (k.0, in_task e k.1)

module _ (d : Flat) where
  pub body_self : (s : Statement) → IsSoundText d s → IsStatement d s
  body_self s f = f s ([], itself)

  pub body_seq : (a b : Statement) → IsSoundText d (Seq a b) → IsSoundText d a × IsSoundText d b
  body_seq a b f = (λ x h. f x (h.0, in_first h.1), λ x h. f x (h.0, in_rest h.1))

  pub body_block : (at : Place) (mark : Option ℕ) (body : Statement) → IsSoundText d (Block at mark body) → IsSoundText d body
  body_block at None body f x h = f x (h.0, in_block h.1)
  body_block at (Some m) body f x h = let k = moved (m ∷ []) h.1 in f x (k.0, in_named k.1)

  pub body_if : (at : Place) (test : Expr) (a b : Statement) → IsSoundText d (If at test a b) → IsSoundText d a × IsSoundText d b
  body_if at test a b f = (λ x h. f x (h.0, in_then h.1), λ x h. f x (h.0, in_else h.1))

  pub body_case : (at : Place) (on : Expr) (arms : Statement) → IsSoundText d (Case at on arms) → IsSoundText d arms
  body_case at on arms f x h = f x (h.0, in_case h.1)

  pub body_arm : (on : Expr) (labels : List Expr) (body others : Statement) → IsSoundText d (Arm on labels body others) → IsSoundText d body × IsSoundText d others
  body_arm on labels body others f = (λ x h. f x (h.0, in_arm h.1), λ x h. f x (h.0, in_others h.1))

  pub body_for : (at : Place) (v : ℕ) (first test next : Expr) (body : Statement) → IsSoundText d (For at v first test next body) → IsSoundText d body
  body_for at v first test next body f x h = f x (h.0, in_for h.1)

  pub body_while : (at : Place) (test : Expr) (body : Statement) → IsSoundText d (While at test body) → IsSoundText d body
  body_while at test body f x h = f x (h.0, in_while h.1)

  pub body_repeat : (at : Place) (count : Expr) (body : Statement) → IsSoundText d (Repeat at count body) → IsSoundText d body
  body_repeat at count body f x h = f x (h.0, in_repeat h.1)

  pub body_forever : (at : Place) (body : Statement) → IsSoundText d (Forever at body) → IsSoundText d body
  body_forever at body f x h = f x (h.0, in_forever h.1)

-- ---- the store after a statement of a function's body

times_keep : (P : Store → Type 0) (n : ℕ) (turn : Store → Store) → ((x : Store) → P x → P (turn x)) → (x : Store) → P x → P (times n turn x)
times_keep P zero turn k x p = p
times_keep P (suc n) turn k x p = times_keep P n turn k (turn x) (k x p)

while_keeps : (P : Store → Type 0) (n : ℕ) (test : Store → Bool) (turn : Store → Store) → ((x : Store) → P x → P (turn x)) → (x : Store) → P x → P (while_up n test turn x)
while_keeps P zero test turn k x p = p
while_keeps P (suc n) test turn k x p = go (test x) (while_keeps P n test turn k (turn x) (k x p))
  where
    go : (b : Bool) → P (while_up n test turn (turn x)) → P (elim b [ true ↦ while_up n test turn (turn x) | false ↦ x ])
    go true q = q
    go false q = p

either_fits : (d : Flat) (b : Bool) (x y : Store) → FitsStore d x → FitsStore d y → FitsStore d (if b then x else y)
either_fits d true x y f g = f
either_fits d false x y f g = g

module _ (d : Flat) (sound : IsSound d) (call : ℕ → List Word → Word) where
  pub body_fits : (s : Statement) → IsSoundText d s → (store : Store) → FitsStore d store → FitsStore d (body_store d call s store)
  body_fits Null b store f = f
  body_fits Skip b store f = f
  body_fits (Seq x y) b store f = let k = body_seq d x y b in body_fits y k.1 (body_store d call x store) (body_fits x k.0 store f)
  body_fits (Block at mark body) b store f = body_fits body (body_block d at mark body b) store f
  body_fits (Assign at to e held) b store f =
      put_all_fits d store (writes_of d (body_scene call store) to (value d (body_scene call store) e)) f (writes_fit d sound (body_scene call store) to (All-head (IsOutput d) to [] (body_self d (Assign at to e held) b).outputs) (value d (body_scene call store) e))
  body_fits (If at test x y) b store f = let k = body_if d at test x y b in either_fits d (is_up (value d (body_scene call store) test)) (body_store d call x store) (body_store d call y store) (body_fits x k.0 store f) (body_fits y k.1 store f)
  body_fits (Case at on arms) b store f = body_fits arms (body_case d at on arms b) store f
  body_fits (Arm on labels body others) b store f =
      let k = body_arm d on labels body others b in either_fits d (has_label d (body_scene call store) on labels) (body_store d call body store) (body_store d call others store) (body_fits body k.0 store f) (body_fits others k.1 store f)
  body_fits (For at v first test next body) b store f =
      let fits = (body_self d (For at v first test next body) b).fits in
      let is : IsPlainVariable d v fits.0 = fits.1 in
      while_keeps (FitsStore d) (2 ^ width_of d v) (λ st. is_up (value d (body_scene call st) test)) (λ st. assigned d call v next (body_store d call body st)) (λ x g. assigned_fits d sound call v next (body_store d call body x) (is.var, is.is) (body_fits body (body_for d at v first test next body b) x g))
      (assigned d call v first store) (assigned_fits d sound call v first store (is.var, is.is) f)
  body_fits (Repeat at count body) b store f =
      times_keep (FitsStore d) (count_of d (body_scene call store) count) (body_store d call body) (λ x g. body_fits body (body_repeat d at count body b) x g) store f
  body_fits (While at test body) b store f = f
  body_fits (Forever at body) b store f = f
  body_fits (Wait at falling) b store f = f
  body_fits (Enable at t ins outs) b store f = f
  body_fits (Disable at m) b store f = f
  body_fits (Host at g ins result outs) b store f = f
