-- Places of tokens never fall where those of bytes don't.
use Rattle.std.proofs.Common.{◌≡◌, ◌⊎◌, inl, inr, ◌<◌, ◌≤◌, ℕ, List, Some, length, get_or, sym, ◌∙◌, ap, subst, arith}
use Rattle.std.proofs.lemmas.Bool.{cases_lt}
use Rattle.std.proofs.lemmas.List.{length-map}
use Rattle.std.proofs.lemmas.Option.{slice_get_within, slice_get-get_or, slice_get-map}
use Rattle.std.specs.Prelude.{slice_get, option_map, unwrap_or}
use Rattle.xt_base.specs.declared.refusals.Place.{Place}
use Rattle.vl_pre.specs.Text.{Expanded}
use Rattle.vl_lex.specs.Tokens.{AreSpans}
use Rattle.vl_lex.specs.Views.{token_place, places_of}
use Rattle.vl_lex.specs.declared.kinds.Token.{Token}
use Rattle.vl_lex.specs.declared.kinds.Kind.TheVariants.{Word}
use Rattle.vl_places.specs.Order.{IsNotBehind, IsInOrder, NeverFall}

no_token : Token
no_token = record { kind = Word; start = 0; end = 0 }

abbrev start_of : List Token → ℕ → ℕ
start_of ts k = (get_or ts k no_token).start

within : (text : Expanded) (ts : List Token) (k : ℕ) (p : Place) → slice_get (places_of text ts) k ≡ Some p → k < length ts
within text ts k p got = omega (arith, slice_get_within (places_of text ts) k p got, length-map ts (token_place text))

-- the place of a token is that of its first byte
is_place : (text : Expanded) (ts : List Token) (k : ℕ) (p : Place) → slice_get (places_of text ts) k ≡ Some p → token_place text (get_or ts k no_token) ≡ p
is_place text ts k p got =
    let token : slice_get ts k ≡ Some (get_or ts k no_token) = slice_get-get_or ts k no_token (within text ts k p got) in
    ap (λ o. unwrap_or o p) (sym (ap (option_map (token_place text)) token) ∙ sym (slice_get-map (token_place text) ts k) ∙ got)

-- a token begins no sooner than one before it
begins_later : (ts : List Token) (len a b : ℕ) → AreSpans ts len → a ≤ b → b < length ts → start_of ts a ≤ start_of ts b
begins_later ts len a b spans le inside = go (cases_lt a b) where
  go : (a < b) ⊎ (b ≤ a) → start_of ts a ≤ start_of ts b
  go (inl before) =
      let token : (start_of ts a < (get_or ts a no_token).end) × ((get_or ts a no_token).end ≤ len) = spans.each a no_token (omega (arith, before, inside)) in
      let behind : (get_or ts a no_token).end ≤ start_of ts b = spans.order a b no_token before inside in
      omega (arith, token.0, behind)
  go (inr same) = let equal : a ≡ b = omega (arith, le, same) in subst (λ k. start_of ts a ≤ start_of ts k) equal (omega arith)

pub tokens_in_order : (text : Expanded) (ts : List Token) → IsInOrder text → AreSpans ts (length text.bytes) → NeverFall (places_of text ts)
tokens_in_order text ts ordered spans a b p q le first second =
    let inside : b < length ts = within text ts b q second in
    let end : (start_of ts b < (get_or ts b no_token).end) × ((get_or ts b no_token).end ≤ length text.bytes) = spans.each b no_token inside in
    subst (λ r. IsNotBehind r q) (is_place text ts a p first) (subst (λ r. IsNotBehind (token_place text (get_or ts a no_token)) r) (is_place text ts b q second)
    (ordered (start_of ts a) (start_of ts b) (begins_later ts (length text.bytes) a b spans le inside) (omega (arith, end.0, end.1))))
