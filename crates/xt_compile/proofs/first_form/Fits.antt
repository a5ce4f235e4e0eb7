-- Values that fit their widths.
use Rattle.std.proofs.Common.{◌≡◌, ◌<◌, ◌+◌, ◌^◌, ℕ, zero, suc, List, [], ◌∷◌, Some, length, get_or, set, refl, sym, ap, ◌∙◌, subst, arith}
use Rattle.std.specs.Prelude.{slice_get, pos}
use Rattle.std.specs.Int.{bit_at}
use Rattle.std.proofs.lemmas.Nat.{mod_below, pow_pos}
use Rattle.std.proofs.lemmas.Option.{same_Some, none-some, slice_get_within}
use Rattle.xt_bits.specs.Word.{Word, word, bit_of}
use Rattle.xt_bits.specs.Operators.{add_of, select_of, selected_bit}
use Rattle.el_design.specs.Queue.{scene_of}
use Rattle.xt_bits.proofs.Numbers.{mod_small, number_of-bits}
use Rattle.el_design.specs.declared.expressions.BinOp.TheVariants as binary
use Rattle.el_design.specs.Plain.{Expr, Number, NetValue, Variable, Binary, Flat}
use Rattle.el_design.specs.Value.{value}
use Rattle.xt_compile.specs.first.Form.{IsSumOf}
use Rattle.xt_compile.specs.first.Nodes.{words_of}
use Rattle.xt_compile.proofs.first_form.Sums.{word_there}

-- a value has a width, and its bits lie in it
pub record HasFit (w : ℕ) (v : Word) : Type 0 where
  pub width : v.width ≡ w
  pub below : v.value < 2 ^ w

-- so has each of a list
pub data Fit : List ℕ → List Word → Type 0 where
  fit_none : Fit [] []
  fit_more : {w : ℕ} {v : Word} {ws : List ℕ} {vs : List Word} → HasFit w v → Fit ws vs → Fit (w ∷ ws) (v ∷ vs)

pub word_fits : (w n : ℕ) → HasFit w (word w n)
word_fits w n = record { width = refl; below = mod_below n (2 ^ w) (pow_pos w) }

pub fit_length : (ws : List ℕ) (vs : List Word) → Fit ws vs → length vs ≡ length ws
fit_length ws vs fit_none = refl
fit_length ws vs (fit_more {ws = us} {vs = xs} h t) = ap suc (fit_length us xs t)

pub fit_at : (ws : List ℕ) (vs : List Word) (i w : ℕ) (d : Word) → Fit ws vs → slice_get ws i ≡ Some w → HasFit w (get_or vs i d)
fit_at ws vs i w d fit_none e = absurd (none-some w e)
fit_at ws vs zero w d (fit_more {w = u} {v = x} h t) e = subst (λ (k : ℕ). HasFit k x) (same_Some u w e) h
fit_at ws vs (suc i) w d (fit_more {ws = us} {vs = xs} h t) e = fit_at us xs i w d t e

pub fit_set : (ws : List ℕ) (vs : List Word) (i w : ℕ) (x : Word) → Fit ws vs → slice_get ws i ≡ Some w → HasFit w x → Fit ws (set vs i x)
fit_set ws vs i w x fit_none e f = absurd (none-some w e)
fit_set ws vs zero w x (fit_more {w = u} h t) e f = fit_more (subst (λ (k : ℕ). HasFit k x) (sym (same_Some u w e)) f) t
fit_set ws vs (suc i) w x (fit_more {ws = us} {vs = xs} h t) e f = fit_more h (fit_set us xs i w x t e f)

-- ---- expressions

-- a sum over variables and nets that fit fits
add_fits : (w : ℕ) (a b : Word) → HasFit w a → HasFit w (add_of a b)
add_fits w a b h = subst (λ (k : ℕ). HasFit k (add_of a b)) h.width (word_fits a.width (a.value + b.value))

pub value_fits : (d : Flat) (vars nets : List ℕ) (vs ns : List Word) (w : ℕ) (e : Expr) → Fit vars vs → Fit nets ns → IsSumOf vars nets w e → HasFit w (value d (scene_of d (words_of vs) ns) e)
value_fits d vars nets vs ns w (Number s k) v n h = record { width = h.0; below = h.1 }
value_fits d vars nets vs ns w (NetValue s i) v n h = fit_at nets ns i w (word s.width 0) n h
value_fits d vars nets vs ns w (Variable s i) v n h =
    let within = slice_get_within vars i w h in
    let size = fit_length vars vs v in
    subst (HasFit w) (sym (word_there vs i s.width (word s.width 0) (omega (arith, within, size)))) (fit_at vars vs i w (word s.width 0) v h)
value_fits d vars nets vs ns w (Binary s binary.Add a b) v n h = add_fits w (value d (scene_of d (words_of vs) ns) a) (value d (scene_of d (words_of vs) ns) b) (value_fits d vars nets vs ns w a v n h.0)
value_fits d vars nets vs ns w e v n h = absurd h

-- ---- a write of a whole variable

word_same : (a b : Word) → a.width ≡ b.width → a.value ≡ b.value → a ≡ b
word_same a b p q = ap (λ (k : ℕ). record { width = k; value = a.value }) p ∙ ap (λ (k : ℕ). record { width = b.width; value = k }) q

bit_from : (x : Word) (i : ℕ) → bit_at x.value i ≡ selected_bit x (pos 0) i
unfolding bit_of selected_bit
bit_from x i = let e : i ≡ 0 + i = omega arith in ap (bit_at x.value) e

-- a part that is all of a value is the value
pub whole_part : (w : ℕ) (x : Word) → HasFit w x → select_of x (pos 0) w ≡ x
whole_part w x h =
    word_same (select_of x (pos 0) w) x (sym h.width)
    (sym (number_of-bits w x.value (selected_bit x (pos 0)) (λ i lt. bit_from x i)) ∙ mod_small x.value w h.below)
