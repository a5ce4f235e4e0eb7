-- Which variables an event writes, and that all others stay.
use Rattle.std.proofs.Common.{◌≡◌, ◌⊎◌, inl, inr, ℕ, suc, Bool, List, [], ◌∷◌, ◌++◌, Option, Some, None, Contains, get_or, zip, flat_map, refl, sym, ◌∙◌, subst, get_or-set_other}
use Rattle.std.proofs.lemmas.List.Elements.{Contains-append_left, Contains-append_right}
use Rattle.xt_bits.specs.Word.{Word}
use Rattle.xt_bits.specs.Stimulus.{Reply}
use Rattle.el_design.specs.declared.designs.Port.{Port}
use Rattle.el_design.specs.Plain.{Expr, Lvalue, ToVariable, ToPart, ToWord, ToWordPart, Both, Nowhere, Flat}
use Rattle.el_design.specs.Store.{Store, Write, Spot, spot_variable, writes_to, put_write, put_all}
use Rattle.el_design.specs.Value.{Scene, value}
use Rattle.el_design.specs.Assign.{spots, writes_of, copies_to, after}
use Rattle.el_design.specs.Names.{target_variables, listed}
use Rattle.el_design.specs.Act.{copied_in, copied_out, result_written, outputs_written, reply_written, import_at}
use Rattle.el_design.proofs.OrderLists.{con_head, con_tail, con_nil}

-- each write is of one of these variables
abbrev pub WritesIn : (ℕ → Type 0) → List Write → Type 0
WritesIn A [] = Unit {0}
WritesIn A (w ∷ ws) = A (spot_variable w.spot) × WritesIn A ws

abbrev SpotsIn : (ℕ → Type 0) → List Spot → Type 0
SpotsIn A [] = Unit {0}
SpotsIn A (p ∷ ps) = A (spot_variable p) × SpotsIn A ps

pub writes_weaken : (A B : ℕ → Type 0) → ((v : ℕ) → A v → B v) → (ws : List Write) → WritesIn A ws → WritesIn B ws
writes_weaken A B f [] h = tt
writes_weaken A B f (w ∷ ws) h = (f _ h.0, writes_weaken A B f ws h.1)

pub writes_both : (A : ℕ → Type 0) (ws us : List Write) → WritesIn A ws → WritesIn A us → WritesIn A (ws ++ us)
writes_both A [] us h k = k
writes_both A (w ∷ ws) us h k = (h.0, writes_both A ws us h.1 k)

spots_both : (A : ℕ → Type 0) (ps qs : List Spot) → SpotsIn A ps → SpotsIn A qs → SpotsIn A (ps ++ qs)
spots_both A [] qs h k = k
spots_both A (p ∷ ps) qs h k = (h.0, spots_both A ps qs h.1 k)

spots_in : (A : ℕ → Type 0) (d : Flat) (s : Scene) (t : Lvalue) → ((v : ℕ) → Contains (target_variables t) v → A v) → SpotsIn A (spots d s t)
spots_in A d s (ToVariable v) h = (h v (con_head v []), tt)
spots_in A d s (ToPart v r) h = (h v (con_head v []), tt)
spots_in A d s (ToWord v i) h = (h v (con_head v []), tt)
spots_in A d s (ToWordPart v i r) h = (h v (con_head v []), tt)
spots_in A d s (Both a b) h =
    spots_both A (spots d s a) (spots d s b) (spots_in A d s a (λ v c. h v (Contains-append_left (target_variables a) (target_variables b) v c)))
    (spots_in A d s b (λ v c. h v (Contains-append_right (target_variables a) (target_variables b) v c)))
spots_in A d s Nowhere h = tt

cut_in : (A : ℕ → Type 0) (ps : List Spot) (x : Word) → SpotsIn A ps → WritesIn A (writes_to ps x)
cut_in A [] x h = tt
cut_in A (p ∷ ps) x h = (h.0, cut_in A ps x h.1)

pub writes_in : (A : ℕ → Type 0) (d : Flat) (s : Scene) (t : Lvalue) (x : Word) → ((v : ℕ) → Contains (target_variables t) v → A v) → WritesIn A (writes_of d s t x)
writes_in A d s t x h = cut_in A (spots d s t) x (spots_in A d s t h)

pub copies_in : (A : ℕ → Type 0) (d : Flat) (s : Scene) (t : Lvalue) (x : Word) (signed : Bool) → ((v : ℕ) → Contains (target_variables t) v → A v) → WritesIn A (copies_to d s t x signed)
copies_in A d s t x signed h = cut_in A (spots d s t) _ (spots_in A d s t h)

pub entered_in : (A : ℕ → Type 0) (d : Flat) (s : Scene) (formals : List ℕ) (ins : List Expr) → ((v : ℕ) → Contains formals v → A v) → WritesIn A (copied_in d s (zip formals ins))
entered_in A d s [] ins h = tt
entered_in A d s (v ∷ vs) [] h = tt
entered_in A d s (v ∷ vs) (e ∷ es) h =
    writes_both A (writes_of d s (ToVariable v) (value d s e)) (copied_in d s (zip vs es)) (writes_in A d s (ToVariable v) (value d s e) (λ u c. h u (Contains-append_left (v ∷ []) vs u c)))
    (entered_in A d s vs es (λ u c. h u (con_tail v u vs c)))

pub left_in : (A : ℕ → Type 0) (d : Flat) (s : Scene) (formals : List ℕ) (outs : List Lvalue) → ((v : ℕ) → Contains (flat_map target_variables outs) v → A v) → WritesIn A (copied_out d s (zip formals outs))
left_in A d s [] outs h = tt
left_in A d s (v ∷ vs) [] h = tt
left_in A d s (v ∷ vs) (t ∷ ts) h =
    writes_both A (copies_to d s t _ _) (copied_out d (after s (copies_to d s t _ _)) (zip vs ts))
    (copies_in A d s t _ _ (λ u c. h u (Contains-append_left (target_variables t) (flat_map target_variables ts) u c)))
    (left_in A d (after s (copies_to d s t _ _)) vs ts (λ u c. h u (Contains-append_right (target_variables t) (flat_map target_variables ts) u c)))

result_in : (A : ℕ → Type 0) (d : Flat) (s : Scene) (r : Reply) (port : Option Port) (result : Option Lvalue) → ((v : ℕ) → Contains (flat_map target_variables (listed result)) v → A v) → WritesIn A (result_written d s r port result)
result_in A d s r None result h = tt
result_in A d s r (Some port) None h = tt
result_in A d s r (Some port) (Some t) h = copies_in A d s t _ _ (λ v c. h v (Contains-append_left (target_variables t) [] v c))

outputs_in : (A : ℕ → Type 0) (d : Flat) (s : Scene) (r : Reply) (i : ℕ) (ports : List Port) (outs : List Lvalue) (port : Option Port) (result : Option Lvalue) →
    ((v : ℕ) → Contains (flat_map target_variables outs) v → A v) → ((v : ℕ) → Contains (flat_map target_variables (listed result)) v → A v) → WritesIn A (outputs_written d s r i (zip ports outs) port result)
outputs_in A d s r i [] outs port result h k = result_in A d s r port result k
outputs_in A d s r i (x ∷ xs) [] port result h k = result_in A d s r port result k
outputs_in A d s r i (x ∷ xs) (t ∷ ts) port result h k =
    writes_both A (copies_to d s t _ _) (outputs_written d (after s (copies_to d s t _ _)) r (suc i) (zip xs ts) port result)
    (copies_in A d s t _ _ (λ u c. h u (Contains-append_left (target_variables t) (flat_map target_variables ts) u c)))
    (outputs_in A d (after s (copies_to d s t _ _)) r (suc i) xs ts port result (λ u c. h u (Contains-append_right (target_variables t) (flat_map target_variables ts) u c)) k)

flat_both : (xs ys : List Lvalue) (v : ℕ) → (Contains (flat_map target_variables xs) v ⊎ Contains (flat_map target_variables ys) v) → Contains (flat_map target_variables (xs ++ ys)) v
flat_both [] ys v (inl c) = absurd (con_nil v c)
flat_both [] ys v (inr c) = c
flat_both (x ∷ xs) ys v (inr c) = Contains-append_right (target_variables x) (flat_map target_variables (xs ++ ys)) v (flat_both xs ys v (inr c))
flat_both (x ∷ xs) ys v (inl c) = go (Rattle.std.proofs.lemmas.List.Elements.Contains-append_cases (target_variables x) (flat_map target_variables xs) v c) (λ k. flat_both xs ys v (inl k))
  where
    go : Contains (target_variables x) v ⊎ Contains (flat_map target_variables xs) v → (Contains (flat_map target_variables xs) v → Contains (flat_map target_variables (xs ++ ys)) v) → Contains (flat_map target_variables ((x ∷ xs) ++ ys)) v
    go (inl a) more = Contains-append_left (target_variables x) (flat_map target_variables (xs ++ ys)) v a
    go (inr b) more = Contains-append_right (target_variables x) (flat_map target_variables (xs ++ ys)) v (more b)

pub replied_in : (A : ℕ → Type 0) (d : Flat) (s : Scene) (r : Reply) (f : ℕ) (result : Option Lvalue) (outs : List Lvalue) →
    ((v : ℕ) → Contains (flat_map target_variables (listed result ++ outs)) v → A v) → WritesIn A (reply_written d s r f result outs)
replied_in A d s r f result outs h =
    outputs_in A d s r _ (import_at d f [] (λ x. x.outs)) outs _ result (λ v c. h v (flat_both (listed result) outs v (inr c))) (λ v c. h v (flat_both (listed result) outs v (inl c)))

-- what isn't written stays
kept_write : (store : Store) (w : Write) (v : ℕ) → (spot_variable w.spot ≡ v → ⊥) → get_or (put_write store w) v [] ≡ get_or store v []
kept_write store w v h = get_or-set_other store (spot_variable w.spot) v _ [] (λ e. h (sym e))

pub kept_all : (A : ℕ → Type 0) (store : Store) (ws : List Write) (v : ℕ) → WritesIn A ws → (A v → ⊥) → get_or (put_all store ws) v [] ≡ get_or store v []
kept_all A store [] v h n = refl
kept_all A store (w ∷ ws) v h n = kept_all A (put_write store w) ws v h.1 n ∙ kept_write store w v (λ e. n (subst A e h.0))
