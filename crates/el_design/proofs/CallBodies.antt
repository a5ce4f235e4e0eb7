-- The value of a call is its body's: where functions don't lead back to themselves, calls nest no deeper than there are functions.
use Rattle.std.proofs.Common.{◌≡◌, ◌⊎◌, inl, inr, ℕ, zero, suc, ◌^◌, ◌<◌, ◌≤◌, Bool, true, false, if◌then◌else◌, List, [], ◌∷◌, ◌++◌, Option, Some, None, Contains, flat_map, fold, zip, map, slice_get, length, refl, sym, ◌∙◌, ap, ap₂, subst, arith}
use Rattle.std.proofs.lemmas.Option.{slice_get_within}
use Rattle.std.proofs.lemmas.List.Elements.{Contains-append_right, All-contains}
use Rattle.xt_base.specs.declared.refusals.Place.{Place}
use Rattle.xt_bits.specs.Word.{Word, word}
use Rattle.el_design.specs.Plain.{Expr, Statement, Null, Skip, Seq, Block, Assign, If, Case, Arm, For, While, Repeat, Forever, Wait, Enable, Disable, Host, ToVariable, FlatFunc, Flat}
use Rattle.el_design.specs.Store.{Store, empty_store, width_of, stored, put_all}
use Rattle.el_design.specs.Value.{value, is_up}
use Rattle.el_design.specs.Assign.{count_of}
use Rattle.el_design.specs.Function.{times, while_up, body_scene, assigned, body_store, bound, result_of_body, call_to, call_of}
use Rattle.el_design.specs.Names.{calls_in, own_expressions, labels_in}
use Rattle.el_design.specs.InPlace.{Stands, itself, in_first, in_rest, in_block, in_named, in_then, in_else, in_case, in_arm, in_others, in_for, in_repeat}
use Rattle.el_design.specs.Calls.{FunctionOf, BodyIs, function_body, Uses, Leads, leads, Chain, no_more, one_more}
use Rattle.el_design.specs.Calls as use_of
use Rattle.el_design.specs.Rules.{IsFinite}
use Rattle.el_design.specs.Sound.{IsStatement, ChooseBy, arms_fit, bodies_of, IsSound}
use Rattle.el_design.specs.CallLaws.{CallsAreBodies, DeepCallsAgree}
use Rattle.el_design.proofs.OrderPlaces.{con_got, con_map, got_one}
use Rattle.el_design.proofs.OrderRule.{split}
use Rattle.el_design.proofs.OrderDepth.{any}
use Rattle.el_design.proofs.Nesting.{Nests, Comes, at_once, by_way, nests_few, LeadsOn, not_to_itself}
use Rattle.el_design.proofs.CallFoot as foot

-- ---- loops of which tests and turns agree

times_same : (f g : Store → Store) → ((st : Store) → f st ≡ g st) → (n : ℕ) (st : Store) → times n f st ≡ times n g st
times_same f g h zero st = refl
times_same f g h (suc n) st = times_same f g h n (f st) ∙ ap (times n g) (h st)

while_same : (p q : Store → Bool) (f g : Store → Store) → ((st : Store) → p st ≡ q st) → ((st : Store) → f st ≡ g st) → (n : ℕ) (st : Store) → while_up n p f st ≡ while_up n q g st
while_same p q f g h k zero st = refl
while_same p q f g h k (suc n) st = ap₂ (λ (b : Bool) (x : Store). elim b [ true ↦ x | false ↦ st ]) (h st) (while_same p q f g h k n (f st) ∙ ap (while_up n q g) (k st))

-- ---- a body's store depends on what the functions give that are called in it

module _ (d : Flat) (call other : ℕ → List Word → Word) where
  abbrev Agree : ℕ → Type 0
  Agree f = (args : List Word) → call f args ≡ other f args

  abbrev AgreeIn : List Expr → Type 0
  AgreeIn es = (f : ℕ) → Contains (flat_map calls_in es) f → Agree f

  -- of all that stands in a statement, the expressions' calls agree; it is sound, and its arms stand in a `case`
  record Agrees (s : Statement) : Type 0 where
    text : List ℕ
    each : (o : List ℕ) (x : Statement) → Stands [] text s o x → AgreeIn (own_expressions x)
    sound : (o : List ℕ) (x : Statement) → Stands [] text s o x → IsStatement d x

  abbrev Embeds : Statement → Statement → Type 0
  Embeds s t = (marks o : List ℕ) (x : Statement) → Stands [] marks t o x → Stands [] marks s o x

  part : {s t : Statement} → Embeds s t → Agrees s → Agrees t
  part f h = record { text = h.text; each = λ o x st. h.each o x (f h.text o x st); sound = λ o x st. h.sound o x (f h.text o x st) }

  named : {at : Place} {m : ℕ} {body : Statement} → Agrees (Block at (Some m) body) → Agrees body
  named {m = m} h = record { text = m ∷ h.text; each = λ o x st. h.each o x (in_named st); sound = λ o x st. h.sound o x (in_named st) }

  own : {s : Statement} → Agrees s → AgreeIn (own_expressions s)
  own {s} h = h.each h.text s itself

  agreed : (store : Store) (e : Expr) (es : List Expr) → AgreeIn (e ∷ es) → value d (body_scene call store) e ≡ value d (body_scene other store) e
  agreed store e es h = foot.value_agrees d call other [] store e (foot.in_first d call other [] store e es h)

  variable_agrees : (v : ℕ) (e : Expr) (es : List Expr) → AgreeIn (e ∷ es) → (store : Store) → assigned d call v e store ≡ assigned d other v e store
  variable_agrees v e es h store = ap (put_all store) (foot.assigned_agrees d call other [] store (ToVariable v) e (foot.in_first d call other [] store e es h))

  both_parts : (a b : Bool) → Rattle.std.proofs.Common.◌&&◌ a b ≡ true → (a ≡ true) × (b ≡ true)
  both_parts true b e = (refl, e)
  both_parts false b e = cc

  -- what a `case` has: its arms are chosen by its expression
  abbrev Chosen : Bool → Expr → Statement → Type 0
  Chosen inner on s = inner ≡ true → ChooseBy on s × AgreeIn (on ∷ []) × AgreeIn (labels_in s)

  alone : (on : Expr) (s : Statement) → Chosen false on s
  alone on s e = absurd (let f : false ≡ true = e in cc)

  body_agrees : (inner : Bool) (by : Expr) (s : Statement) → Agrees s → arms_fit inner s ≡ true → Chosen inner by s → (store : Store) → body_store d call s store ≡ body_store d other s store
  body_agrees inner by Null h fit c store = refl
  body_agrees inner by Skip h fit c store = refl
  body_agrees inner by (Seq a b) h fit c store =
      let fits = both_parts (arms_fit false a) (arms_fit false b) fit in
      ap (body_store d call b) (body_agrees false by a (part (λ m o x st. in_first st) h) fits.0 (alone by a) store)
      ∙ body_agrees false by b (part (λ m o x st. in_rest st) h) fits.1 (alone by b) (body_store d other a store)
  body_agrees inner by (Block at None body) h fit c store = body_agrees false by body (part (λ m o x st. in_block st) h) fit (alone by body) store
  body_agrees inner by (Block at (Some m) body) h fit c store = body_agrees false by body (named h) fit (alone by body) store
  body_agrees inner by (Assign at to e held) h fit c store = ap (put_all store) (foot.assigned_agrees d call other [] store to e (own h))
  body_agrees inner by (If at test a b) h fit c store =
      let fits = both_parts (arms_fit false a) (arms_fit false b) fit in
      ap₂ (λ (w : Word) (y : Store × Store). if is_up w then y.0 else y.1) (agreed store test [] (own h))
      (ap₂ (λ x y. (x, y)) (body_agrees false by a (part (λ m o x st. in_then st) h) fits.0 (alone by a) store) (body_agrees false by b (part (λ m o x st. in_else st) h) fits.1 (alone by b) store))
  body_agrees inner by (Case at on arms) h fit c store =
      body_agrees true on arms (part (λ m o x st. in_case st) h) fit
      (λ e. (((h.sound h.text (Case at on arms) itself).fits).1, foot.in_first d call other [] store on (labels_in arms) (own h), foot.in_rest d call other [] store on (labels_in arms) (own h))) store
  body_agrees false by (Arm on labels body others) h fit c store = cc
  body_agrees true by (Arm on labels body others) h fit c store =
      let fits = both_parts (arms_fit false body) (arms_fit true others) fit in
      let k : ChooseBy by (Arm on labels body others) × AgreeIn (by ∷ []) × AgreeIn (labels ++ labels_in others) = c refl in
      ap₂ (λ (b : Bool) (y : Store × Store). if b then y.0 else y.1)
      (foot.label_agrees d call other [] store on labels (subst (λ e. AgreeIn (e ∷ [])) (sym k.0.0) k.1) (foot.in_left d call other [] store labels (labels_in others) k.2))
      (ap₂ (λ x y. (x, y)) (body_agrees false by body (part (λ m o x st. in_arm st) h) fits.0 (alone by body) store)
      (body_agrees true by others (part (λ m o x st. in_others st) h) fits.1 (λ e. (k.0.1, k.1, foot.in_right d call other [] store labels (labels_in others) k.2)) store))
  body_agrees inner by (For at v first test next body) h fit c store =
      let es : AgreeIn (first ∷ test ∷ next ∷ []) = own h in
      let tests : AgreeIn (test ∷ next ∷ []) = foot.in_rest d call other [] store first (test ∷ next ∷ []) es in
      let nexts : AgreeIn (next ∷ []) = foot.in_rest d call other [] store test (next ∷ []) tests in
      while_same (λ st. is_up (value d (body_scene call st) test)) (λ st. is_up (value d (body_scene other st) test))
      (λ st. assigned d call v next (body_store d call body st)) (λ st. assigned d other v next (body_store d other body st))
      (λ st. ap is_up (agreed st test (next ∷ []) tests))
      (λ st. ap (assigned d call v next) (body_agrees false by body (part (λ m o x st. in_for st) h) fit (alone by body) st) ∙ variable_agrees v next [] nexts (body_store d other body st))
      (2 ^ width_of d v) (assigned d call v first store)
      ∙ ap (while_up (2 ^ width_of d v) (λ st. is_up (value d (body_scene other st) test)) (λ st. assigned d other v next (body_store d other body st))) (variable_agrees v first (test ∷ next ∷ []) es store)
  body_agrees inner by (Repeat at count body) h fit c store =
      times_same (body_store d call body) (body_store d other body) (body_agrees false by body (part (λ m o x st. in_repeat st) h) fit (alone by body)) (count_of d (body_scene call store) count) store
      ∙ ap (λ n. times n (body_store d other body) store) (foot.count_agrees d call other [] store count (own h))
  body_agrees inner by (While at test body) h fit c store = refl
  body_agrees inner by (Forever at body) h fit c store = refl
  body_agrees inner by (Wait at falling) h fit c store = refl
  body_agrees inner by (Enable at t ins outs) h fit c store = refl
  body_agrees inner by (Disable at m) h fit c store = refl
  body_agrees inner by (Host at f ins result outs) h fit c store = refl

-- ---- calls that nest so deep

abbrev pub IsFunction : Flat → ℕ → Type 0
IsFunction d f = (g : FlatFunc) × (slice_get d.funcs f ≡ Some g)

-- a function calls another
abbrev pub CallsOn : Flat → ℕ → ℕ → Type 0
CallsOn d f h = LeadsOn d (FunctionOf f) (FunctionOf h)

abbrev Deep : Flat → ℕ → ℕ → Type 0
Deep d n f = Nests ℕ (IsFunction d) (CallsOn d) n f

deep_is : (d : Flat) (n f : ℕ) → Deep d n f → IsFunction d f
deep_is d zero f h = h
deep_is d (suc n) f h = h.0

module _ (d : Flat) (sound : IsSound d) where
  function_sound : (g : FlatFunc) → Contains d.funcs g → (o : List ℕ) (x : Statement) → Stands [] [] g.body o x → IsStatement d x
  function_sound g c o x st = sound.statements g.body x
      (Contains-append_right (map (λ p. p.body) d.procs ++ map (λ t. t.body) d.tasks) (map (λ f. f.body) d.funcs) g.body (con_map (λ f. f.body) d.funcs g c)) (o, st)

  function_fits : (g : FlatFunc) → Contains d.funcs g → arms_fit false g.body ≡ true
  function_fits g c = All-contains (λ s. arms_fit false s ≡ true) (bodies_of d) g.body sound.arms
      (Contains-append_right (map (λ p. p.body) d.procs ++ map (λ t. t.body) d.tasks) (map (λ f. f.body) d.funcs) g.body (con_map (λ f. f.body) d.funcs g c))

  -- what calls give agrees where those agree that a function makes
  result_agrees : (f : ℕ) (g : FlatFunc) → slice_get d.funcs f ≡ Some g → (call other : ℕ → List Word → Word) →
      ((h : ℕ) → CallsOn d f h → (args : List Word) → call h args ≡ other h args) → ((h : ℕ) → length d.funcs ≤ h → (args : List Word) → call h args ≡ other h args) →
      (args : List Word) → result_of_body d call g args ≡ result_of_body d other g args
  result_agrees f g is call other made none args =
      ap (λ store. stored store g.result 0 (width_of d g.result))
      (body_agrees d call other false any g.body (record { text = []; each = each; sound = function_sound g (con_got d.funcs f g is) })
      (function_fits g (con_got d.funcs f g is)) (alone d call other any g.body) (fold (bound d) (empty_store d) (zip g.ins args)))
    where
      each : (o : List ℕ) (x : Statement) → Stands [] [] g.body o x → (h : ℕ) → Contains (flat_map calls_in (own_expressions x)) h → (args : List Word) → call h args ≡ other h args
      each o x st h c = go (split (length d.funcs) h)
        where
          go : (length d.funcs ≤ h) ⊎ (h < length d.funcs) → (args : List Word) → call h args ≡ other h args
          go (inl p) = none h p
          go (inr l) = made h (_, leads (function_body is) (o, st) (use_of.calls l c))

  -- what is no function gives nothing
  no_function : (n m h : ℕ) → slice_get d.funcs h ≡ None → (args : List Word) → call_to d n h args ≡ call_to d m h args
  no_function n m h e args = nothing n ∙ sym (nothing m)
    where
      nothing : (k : ℕ) → call_to d k h args ≡ word 1 0
      nothing zero = refl
      nothing (suc k) = ap (λ o. elim o [ None ↦ word 1 0 | Some g ↦ result_of_body d (call_to d k) g args ]) e

  past_functions : (h : ℕ) → length d.funcs ≤ h → slice_get d.funcs h ≡ None
  past_functions h p = go (slice_get d.funcs h) refl
    where
      go : (o : Option FlatFunc) → slice_get d.funcs h ≡ o → slice_get d.funcs h ≡ None
      go None e = e
      go (Some g) e = absurd (let l : h < length d.funcs = slice_get_within d.funcs h g e in omega arith)

  -- where no chain of calls is so long, more depth changes nothing
  deeper_same : (n m f : ℕ) → n ≤ m → (Deep d n f → ⊥) → (args : List Word) → call_to d n f args ≡ call_to d m f args
  deeper_same zero m f l short args = go (slice_get d.funcs f) refl
    where
      go : (o : Option FlatFunc) → slice_get d.funcs f ≡ o → call_to d zero f args ≡ call_to d m f args
      go None e = no_function zero m f e args
      go (Some g) e = absurd (short (g, e))
  deeper_same (suc n) zero f l short args = absurd (omega arith)
  deeper_same (suc n) (suc m) f l short args = go (slice_get d.funcs f) refl (λ h s a. deeper_same n m h (omega arith) s a)
    where
      go : (o : Option FlatFunc) → slice_get d.funcs f ≡ o → ((h : ℕ) → (Deep d n h → ⊥) → (a : List Word) → call_to d n h a ≡ call_to d m h a) → call_to d (suc n) f args ≡ call_to d (suc m) f args
      go None e more = no_function (suc n) (suc m) f e args
      go (Some g) e more =
          ap (λ o. elim o [ None ↦ word 1 0 | Some g ↦ result_of_body d (call_to d n) g args ]) e
          ∙ result_agrees f g e (call_to d n) (call_to d m) (λ h c a. more h (λ deep. short ((g, e), (h, c, deep))) a) (λ h p a. no_function n m h (past_functions h p) a) args
          ∙ sym (ap (λ o. elim o [ None ↦ word 1 0 | Some g ↦ result_of_body d (call_to d m) g args ]) e)

  module _ (finite : IsFinite d) where
    far : {f h : ℕ} → Comes (CallsOn d) f h → Comes (LeadsOn d) (FunctionOf f) (FunctionOf h)
    far (at_once t) = at_once t
    far (by_way t c) = by_way t (far c)

    few_calls : (n f : ℕ) → Deep d n f → n < length d.funcs
    few_calls n f h =
        nests_few ℕ (IsFunction d) (CallsOn d) (λ f. f) (length d.funcs) (λ f i. slice_get_within d.funcs f i.0 i.1) (λ f h i j e. e) (λ f c. not_to_itself d finite (FunctionOf f) (far c)) n f h

    pub calls_are_bodies : CallsAreBodies d
    calls_are_bodies f g args is = go (length d.funcs) refl
      where
        go : (n : ℕ) → length d.funcs ≡ n → call_of d f args ≡ result_of_body d (call_of d) g args
        go zero e = absurd (let l : f < length d.funcs = slice_get_within d.funcs f g is in omega (arith, e))
        go (suc n) e =
            ap (λ k. call_to d k f args) e
            ∙ ap (λ o. elim o [ None ↦ word 1 0 | Some g ↦ result_of_body d (call_to d n) g args ]) is
            ∙ result_agrees f g is (call_to d n) (call_of d)
            (λ h c a. deeper_same n (length d.funcs) h (omega (arith, e)) (λ deep. let k : suc n < length d.funcs = few_calls (suc n) f ((g, is), (h, c, deep)) in omega (arith, e, k)) a)
            (λ h p a. no_function n (length d.funcs) h (past_functions h p) a) args

    -- a chain of functions is a chain of calls
    chain_of : (n f : ℕ) (g : FlatFunc) → slice_get d.funcs f ≡ Some g → Deep d n f → Chain d n g.body
    chain_of zero f g is h = no_more
    chain_of (suc n) f g is (here, (h, (at, led), deep)) =
        let next : IsFunction d h = deep_is d n h deep in
        go led (chain_of n h next.0 next.1 deep) (function_body next.1)
      where
        go : {at : Place} {b : Statement} → Leads d (FunctionOf f) (FunctionOf h) at → Chain d n b → BodyIs d (FunctionOf h) b → Chain d (suc n) g.body
        go (leads (function_body {g = k} e) holds uses) chain body = subst (λ x. Chain d (suc n) x.body) (got_one (slice_get d.funcs f) k g e is) (one_more holds uses body chain)

    pub deep_calls_agree : DeepCallsAgree d
    deep_calls_agree f n g args is short = go (split (length d.funcs) n)
      where
        not_deep : Deep d n f → ⊥
        not_deep h = short (chain_of n f g is h)

        go : (length d.funcs ≤ n) ⊎ (n < length d.funcs) → call_to d n f args ≡ call_of d f args
        go (inr l) = deeper_same n (length d.funcs) f (omega arith) not_deep args
        go (inl l) = sym (deeper_same (length d.funcs) n f l (λ h. let k : length d.funcs < length d.funcs = few_calls (length d.funcs) f h in omega (arith, k)) args)
