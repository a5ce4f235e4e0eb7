-- What an event evaluates, and where it writes, depends on what its statement names alone.
use Rattle.std.proofs.Common.{◌≡◌, ◌⊎◌, inl, inr, ℕ, suc, ◌<◌, ◌≤◌, Bool, false, ◌||◌, if◌then◌else◌, List, [], ◌∷◌, ◌++◌, Option, Some, None, Contains, slice_get, get_or, set, zip, length, flat_map, option_map, unwrap_or, pos, ◌-ℤ◌, refl, sym, ◌∙◌, ap, ap₂, subst, arith, get_or-set_other, get_or-set_same, length-set}
use Rattle.std.proofs.lemmas.Bool.{cases_eq, cases_lt}
use Rattle.std.proofs.lemmas.List.{set_past}
use Rattle.std.proofs.lemmas.List.Elements.{Contains-append_left, Contains-append_right}
use Rattle.std.proofs.lemmas.List.Concat.{flat_map-append}
use Rattle.xt_bits.specs.Word.{Word, word, integer_of}
use Rattle.xt_bits.specs.Operators.{eq_of, extend_of}
use Rattle.xt_bits.specs.Stimulus.{Reply}
use Rattle.el_design.specs.declared.designs.Port.{Port}
use Rattle.el_design.specs.Plain.{Expr, Range, Bit, Part, Up, Down, Lvalue, ToVariable, ToPart, ToWord, ToWordPart, Both, Nowhere, Statement, Arm, Flat}
use Rattle.el_design.specs.Store.{Store, declared, width_of, place_of, stored, Whole, Within, spot_variable, spot_place, Write, total_width, writes_to, written, put_write, put_all}
use Rattle.el_design.specs.Value.{Scene, value, is_signed}
use Rattle.el_design.specs.Assign.{range_width, spots, writes_of, copies_to, after, has_label, arm_chosen, natural, count_of}
use Rattle.el_design.specs.Names.{nodes_of, range_nodes, range_indexes, target_indexes, labels_in, listed}
use Rattle.el_design.specs.Sound.{ChooseBy}
use Rattle.el_design.specs.Act.{copied_in, copied_out, arguments, item_word, import_at, result_written, outputs_written, reply_written}
use Rattle.el_design.proofs.OrderLists.{con_head, con_tail, con_nil}
use Rattle.el_design.proofs.OrderFoot.{NamesAll, Agree, value_same, lowest_same}

-- ---- writes

pub length_write : (store : Store) (w : Write) → length (put_write store w) ≡ length store
length_write store w = length-set store (spot_variable w.spot) _

pub length_all : (store : Store) (ws : List Write) → length (put_all store ws) ≡ length store
length_all store [] = refl
length_all store (w ∷ ws) = length_all (put_write store w) ws ∙ length_write store w

-- what the word of a spot comes to, of the words before
abbrev pub new_words : Write → List Word → List Word
new_words w words = set words (spot_place w.spot) (written w.spot w.bits (get_or words (spot_place w.spot) w.bits))

-- a variable after a write depends on it before
write_same : (a b : Store) (w : Write) (v : ℕ) → length a ≡ length b → get_or a v [] ≡ get_or b v [] → get_or (put_write a w) v [] ≡ get_or (put_write b w) v []
write_same a b w v size h = go (cases_eq v (spot_variable w.spot)) (cases_lt v (length a))
  where
    here : (u : ℕ) → v ≡ u → v < length a → get_or (set a u (new_words w (get_or a u []))) v [] ≡ get_or (set b u (new_words w (get_or b u []))) v []
    here u e n =
        subst (λ x. get_or (set a x (new_words w (get_or a x []))) v [] ≡ get_or (set b x (new_words w (get_or b x []))) v []) e
        (get_or-set_same a v _ [] n ∙ ap (new_words w) h ∙ sym (get_or-set_same b v (new_words w (get_or b v [])) [] (omega arith)))

    past : (u : ℕ) → v ≡ u → length a ≤ v → get_or (set a u (new_words w (get_or a u []))) v [] ≡ get_or (set b u (new_words w (get_or b u []))) v []
    past u e n = ap (λ s. get_or s v []) (set_past a u _ (omega arith)) ∙ h ∙ ap (λ s. get_or s v []) (sym (set_past b u (new_words w (get_or b u [])) (omega arith)))

    go : (v ≡ spot_variable w.spot) ⊎ (v ≡ spot_variable w.spot → ⊥) → (v < length a) ⊎ (length a ≤ v) → get_or (put_write a w) v [] ≡ get_or (put_write b w) v []
    go (inl e) (inr n) = past (spot_variable w.spot) e n
    go (inl e) (inl n) = here (spot_variable w.spot) e n
    go (inr e) n = get_or-set_other a (spot_variable w.spot) v _ [] e ∙ h ∙ sym (get_or-set_other b (spot_variable w.spot) v _ [] e)

pub all_same : (a b : Store) (ws : List Write) (v : ℕ) → length a ≡ length b → get_or a v [] ≡ get_or b v [] → get_or (put_all a ws) v [] ≡ get_or (put_all b ws) v []
all_same a b [] v size h = h
all_same a b (w ∷ ws) v size h = all_same (put_write a w) (put_write b w) ws v (length_write a w ∙ size ∙ sym (length_write b w)) (write_same a b w v size h)

-- ---- scenes that are the same to what is named

pub record Same (A N : ℕ → Type 0) (s t : Scene) : Type 0 where
  pub agree : Agree A N s t
  pub size : length s.store ≡ length t.store

module _ (A N : ℕ → Type 0) (d : Flat) where
  -- the expressions name these alone
  abbrev pub NamesOnly : List Expr → Type 0
  NamesOnly es = (e : Expr) → Contains es e → NamesAll A N (nodes_of e)

  only_first : (e : Expr) (es : List Expr) → NamesOnly (e ∷ es) → NamesAll A N (nodes_of e)
  only_first e es h = h e (con_head e es)

  only_rest : (e : Expr) (es : List Expr) → NamesOnly (e ∷ es) → NamesOnly es
  only_rest e es h x c = h x (con_tail e x es c)

  only_left : (es fs : List Expr) → NamesOnly (es ++ fs) → NamesOnly es
  only_left es fs h x c = h x (Contains-append_left es fs x c)

  only_right : (es fs : List Expr) → NamesOnly (es ++ fs) → NamesOnly fs
  only_right es fs h x c = h x (Contains-append_right es fs x c)

  range_names : (r : Range) → NamesOnly (range_indexes r) → NamesAll A N (range_nodes r)
  range_names (Bit e) h = only_first e [] h
  range_names (Part high low) h = λ x c. absurd (con_nil x c)
  range_names (Up e w) h = only_first e [] h
  range_names (Down e w) h = only_first e [] h

  pub agree_after : (s t : Scene) (ws : List Write) → Same A N s t → Same A N (after s ws) (after t ws)
  agree_after s t ws g = record {
    agree = record { calls = g.agree.calls; words = λ v a. all_same s.store t.store ws v g.size (g.agree.words v a); values = g.agree.values };
    size = length_all s.store ws ∙ g.size ∙ sym (length_all t.store ws);
  }

  module _ (s t : Scene) (g : Agree A N s t) where
    value_is : (e : Expr) → NamesAll A N (nodes_of e) → value d s e ≡ value d t e
    value_is e h = value_same A N d s t g e h

    pub spots_same : (to : Lvalue) → NamesOnly (target_indexes to) → spots d s to ≡ spots d t to
    spots_same (ToVariable v) h = refl
    spots_same (ToPart v r) h = ap (λ z. Within v 0 (z -ℤ pos (declared d v (λ x. x.lsb))) (range_width r) ∷ []) (lowest_same A N d s t g r (range_names r h))
    spots_same (ToWord v i) h = ap (λ w. Whole v (place_of d v (integer_of w (is_signed i))) (width_of d v) ∷ []) (value_is i (only_first i [] h))
    spots_same (ToWordPart v i r) h =
        ap₂ (λ w z. Within v (place_of d v (integer_of w (is_signed i))) (z -ℤ pos (declared d v (λ x. x.lsb))) (range_width r) ∷ []) (value_is i (only_first i (range_indexes r) h))
        (lowest_same A N d s t g r (range_names r (only_rest i (range_indexes r) h)))
    spots_same (Both a b) h = ap₂ (λ x y. x ++ y) (spots_same a (only_left (target_indexes a) (target_indexes b) h)) (spots_same b (only_right (target_indexes a) (target_indexes b) h))
    spots_same Nowhere h = refl

    pub assigned_same : (to : Lvalue) (e : Expr) → NamesOnly (target_indexes to ++ e ∷ []) → writes_of d s to (value d s e) ≡ writes_of d t to (value d t e)
    assigned_same to e h =
        ap₂ (λ ps x. writes_to ps x) (spots_same to (only_left (target_indexes to) (e ∷ []) h)) (value_is e (only_first e [] (only_right (target_indexes to) (e ∷ []) h)))

    pub copies_same : (to : Lvalue) (x y : Word) (signed : Bool) → x ≡ y → NamesOnly (target_indexes to) → copies_to d s to x signed ≡ copies_to d t to y signed
    copies_same to x y signed e h = ap₂ (λ ps z. writes_to ps (extend_of z (total_width ps) signed)) (spots_same to h) e

    label_same : (on : Expr) (labels : List Expr) → NamesAll A N (nodes_of on) → NamesOnly labels → has_label d s on labels ≡ has_label d t on labels
    label_same on [] o h = refl
    label_same on (l ∷ ls) o h =
        ap₂ (λ a b. a || b) (ap₂ (λ x y. eq_of x y) (value_is on o) (value_is l (only_first l ls h))) (label_same on ls o (only_rest l ls h))

    pub arm_same : (on : Expr) (arms : Statement) → ChooseBy on arms → NamesAll A N (nodes_of on) → NamesOnly (labels_in arms) → arm_chosen d s arms ≡ arm_chosen d t arms
    arm_same on (Arm e labels body others) c o h =
        ap₂ (λ b r. if b then body else r) (label_same e labels (subst (λ x. NamesAll A N (nodes_of x)) (sym c.0) o) (only_left labels (labels_in others) h))
        (arm_same on others c.1 o (only_right labels (labels_in others) h))
    arm_same on x c o h = refl

    pub count_same : (e : Expr) → NamesAll A N (nodes_of e) → count_of d s e ≡ count_of d t e
    count_same e h = ap (λ w. natural (integer_of w (is_signed e))) (value_is e h)

    pub arguments_same : (ports : List Port) (es : List Expr) → NamesOnly es → arguments d s (zip ports es) ≡ arguments d t (zip ports es)
    arguments_same [] es h = refl
    arguments_same (p ∷ ps) [] h = refl
    arguments_same (p ∷ ps) (e ∷ es) h = ap₂ (λ w ws. word p.width w.value ∷ ws) (value_is e (only_first e es h)) (arguments_same ps es (only_rest e es h))

    pub entered_same : (formals : List ℕ) (es : List Expr) → NamesOnly es → copied_in d s (zip formals es) ≡ copied_in d t (zip formals es)
    entered_same [] es h = refl
    entered_same (v ∷ vs) [] h = refl
    entered_same (v ∷ vs) (e ∷ es) h = ap₂ (λ w ws. writes_to (Whole v 0 (width_of d v) ∷ []) w ++ ws) (value_is e (only_first e es h)) (entered_same vs es (only_rest e es h))

  -- copies of formals, or items of a reply, to targets, one after another
  pub returned_same : (s t : Scene) (formals : List ℕ) (outs : List Lvalue) → Same A N s t → ((v : ℕ) → Contains formals v → A v) → NamesOnly (flat_map target_indexes outs) →
      copied_out d s (zip formals outs) ≡ copied_out d t (zip formals outs)
  returned_same s t [] outs g f h = refl
  returned_same s t (v ∷ vs) [] g f h = refl
  returned_same s t (v ∷ vs) (o ∷ os) g f h =
      let signed : Bool = unwrap_or (option_map (λ x. x.signed) (slice_get d.vars v)) false in
      let x : Word = stored s.store v 0 (width_of d v) in
      let ws : List Write = copies_to d s o x signed in
      let e : ws ≡ copies_to d t o (stored t.store v 0 (width_of d v)) signed =
      copies_same s t g.agree o x _ signed (ap (λ us. get_or us 0 (word (width_of d v) 0)) (g.agree.words v (f v (con_head v vs)))) (only_left (target_indexes o) (flat_map target_indexes os) h) in
      ap (λ us. ws ++ us) (returned_same (after s ws) (after t ws) vs os (agree_after s t ws g) (λ u c. f u (con_tail v u vs c)) (only_right (target_indexes o) (flat_map target_indexes os) h))
      ∙ ap (λ us. us ++ copied_out d (after t us) (zip vs os)) e

  result_same : (s t : Scene) (r : Reply) (port : Option Port) (result : Option Lvalue) → Same A N s t → NamesOnly (flat_map target_indexes (listed result)) → result_written d s r port result ≡ result_written d t r port result
  result_same s t r None result g h = refl
  result_same s t r (Some port) None g h = refl
  result_same s t r (Some port) (Some to) g h = copies_same s t g.agree to _ _ port.signed refl (only_left (target_indexes to) [] h)

  outputs_same : (s t : Scene) (r : Reply) (i : ℕ) (ports : List Port) (outs : List Lvalue) (port : Option Port) (result : Option Lvalue) → Same A N s t →
      NamesOnly (flat_map target_indexes outs) → NamesOnly (flat_map target_indexes (listed result)) → outputs_written d s r i (zip ports outs) port result ≡ outputs_written d t r i (zip ports outs) port result
  outputs_same s t r i [] outs port result g h k = result_same s t r port result g k
  outputs_same s t r i (p ∷ ps) [] port result g h k = result_same s t r port result g k
  outputs_same s t r i (p ∷ ps) (o ∷ os) port result g h k =
      let ws : List Write = copies_to d s o (item_word r i p) p.signed in
      let e : ws ≡ copies_to d t o (item_word r i p) p.signed = copies_same s t g.agree o _ _ p.signed refl (only_left (target_indexes o) (flat_map target_indexes os) h) in
      ap (λ us. ws ++ us) (outputs_same (after s ws) (after t ws) r (suc i) ps os port result (agree_after s t ws g) (only_right (target_indexes o) (flat_map target_indexes os) h) k)
      ∙ ap (λ us. us ++ outputs_written d (after t us) r (suc i) (zip ps os) port result) e

  indexes_both : (xs ys : List Lvalue) → flat_map target_indexes (xs ++ ys) ≡ flat_map target_indexes xs ++ flat_map target_indexes ys
  indexes_both xs ys = flat_map-append target_indexes xs ys

  pub reply_same : (s t : Scene) (r : Reply) (f : ℕ) (result : Option Lvalue) (outs : List Lvalue) → Same A N s t → NamesOnly (flat_map target_indexes (listed result ++ outs)) →
      reply_written d s r f result outs ≡ reply_written d t r f result outs
  reply_same s t r f result outs g h =
      let k : NamesOnly (flat_map target_indexes (listed result) ++ flat_map target_indexes outs) = subst NamesOnly (indexes_both (listed result) outs) h in
      outputs_same s t r _ (import_at d f [] (λ x. x.outs)) outs _ result g (only_right (flat_map target_indexes (listed result)) (flat_map target_indexes outs) k) (only_left (flat_map target_indexes (listed result)) (flat_map target_indexes outs) k)
