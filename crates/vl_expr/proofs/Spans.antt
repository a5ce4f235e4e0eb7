-- Tokens in their text: where they stand, and how many there may be.
use Rattle.std.proofs.Common.{◌≡◌, ◌≤◌, ◌<◌, ◌+◌, ◌-◌, ℕ, Some, min, subst, slice_get, List, [], ◌∷◌, length, get_or, suc, Result, Ok, Err, Global, vec_len, ap, refl, ◌∙◌, ◌^◌, arith}
use Rattle.std.specs.Prelude.{IfOk, Vec}
use Rattle.std.proofs.lemmas.List.Elements.{All-get_or}
use Rattle.std.proofs.lemmas.Option.{slice_get-get_or}
use Rattle.vl_pre.specs.Text.{Expanded, place_of}
use Rattle.vl_pre.specs.Runs.{most}
use Rattle.vl_tree.specs.declared.terminals.Terminal.{Terminal}
use Rattle.vl_lex.specs.declared.kinds.Token.{Token}
use Rattle.vl_lex.specs.Tokens.{Reads, AreTokens, AreSpans}
use Rattle.vl_lex.proofs.Readings.{spans}
use Rattle.vl_expr.specs.Terminals.{terminals_of}
use Rattle.vl_expr.specs.Refusals.{IsNoTree}
use Rattle.xt_base.specs.declared.refusals.Place.{Place}

pub start_within : (text : List ℕ) (ts : List Token) (i : ℕ) (d : Token) → AreTokens text ts → i < length ts → (get_or ts i d).start < length text
start_within text ts i d are h =
    let each = All-get_or (λ t. (t.start < t.end) × (t.end ≤ length text)) ts i d h (spans text ts are).each in
    let low = each.0 in
    let high = each.1 in
    omega arith

pub refused_at : (text : Expanded) (ts list : List Token) (stop i : ℕ) (d : Token) (place : Place) → list ≡ ts → i ≡ min stop (length ts - 1) → i < length ts →
    place ≡ place_of text (get_or list i d).start → place.file < length text.names →
    IsNoTree text ts stop (record { rule = record { 0 = 20 }; place = place })
refused_at text ts list stop i d place same at_stop h is named = record {
  token = get_or ts i d;
  there = subst (λ k. slice_get ts k ≡ Some (get_or ts i d)) at_stop (slice_get-get_or ts i d h);
  is = ap (λ p. record { rule = record { 0 = 20 }; place = p }) (is ∙ ap (λ l. place_of text (get_or l i d).start) same);
  named = named;
}

count_to : (text : List ℕ) (from to : ℕ) (ts : List Token) → Reads text from ts to → length ts + from ≤ to
count_to text from to [] are = let o = are.order in omega arith
count_to text from to (t ∷ ts) are =
    let blank = are.0.order in
    let some = are.1.order in
    let rest = count_to text t.end to ts are.2 in
    omega arith

-- there are at most as many tokens as bytes
pub count : (text : List ℕ) (ts : List Token) → AreTokens text ts → length ts ≤ length text
count text ts are = let c = count_to text 0 (length text) ts are in omega arith

pub terminal_count : (text : List ℕ) (ts : List Token) → length (terminals_of text ts) ≡ length ts
terminal_count text [] = refl
terminal_count text (t ∷ ts) = ap suc (terminal_count text ts)

pub spans_along : {text bytes : List ℕ} {ts list : List Token} → bytes ≡ text → list ≡ ts → AreTokens text ts → AreSpans list (length bytes)
spans_along {text = text} {ts = ts} b l are = rw (b, l) (spans text ts are)

pub counted : {text bytes : List ℕ} {ts list : List Token} {F : Type 0} → bytes ≡ text → list ≡ ts → (r : Result (Vec Terminal Global) F) →
    IfOk r (λ all. all.items ≡ terminals_of bytes list) → IfOk r (λ all. vec_len all ≡ length ts)
counted {bytes = bytes} {ts = ts} {list = list} b l (Ok all) is =
    let many : length all.items ≡ length ts = ap length is ∙ terminal_count bytes list ∙ ap length l in
    omega arith
counted b l (Err e) is = tt

pub sized : {text bytes : List ℕ} {ts list : List Token} {F : Type 0} → bytes ≡ text → list ≡ ts → AreTokens text ts → length bytes ≤ most →
    (r : Result (Vec Terminal Global) F) → IfOk r (λ all. all.items ≡ terminals_of bytes list) → IfOk r (λ all. vec_len all < 2 ^ 31)
sized {text = text} {bytes = bytes} {ts = ts} {list = list} b l are h (Ok all) is =
    let c = count text ts are in
    let many : length all.items ≡ length ts = ap length is ∙ terminal_count bytes list ∙ ap length l in
    let len : length bytes ≡ length text = ap length b in
    omega arith
sized b l are h (Err e) is = tt
