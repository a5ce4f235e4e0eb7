-- A text has one list of tokens, or one first byte at which none begins.
use Rattle.std.proofs.Common.{◌≡◌, ℕ, zero, suc, ⊎_elim, ◌+◌, ◌-◌, ◌<◌, ◌≤◌, List, [], ◌∷◌, Bool, false, cond, length, get_or, take, drop, slice_range, sym, refl, ap, ◌∙◌, subst, arith}
use Rattle.std.proofs.lemmas.Bool.{both_ways, cases_order}
use Rattle.std.proofs.lemmas.List.{drop_more}
use Rattle.xt_base.specs.Reserved.{is_reserved}
use Rattle.vl_lex.specs.Bytes.{is_blank}
use Rattle.vl_lex.specs.Spelling.{Spells}
use Rattle.vl_lex.specs.Tokens.{AreBlanks, IsTokenOf, Reads, BeginsNoToken, AreTokens, FailsAt}
use Rattle.vl_lex.specs.declared.kinds.Kind.{Kind}
use Rattle.vl_lex.specs.declared.kinds.Kind.TheVariants.{Word, Reserved, Decimal, Based, Quoted, Operator, System}
use Rattle.vl_lex.specs.declared.kinds.Token.{Token}
use Rattle.vl_lex.proofs.Families.{form_of, begun_by_first, no_blank_first, no_empty_token}

-- the kind of a form, for a word by whether it is reserved
told : Kind → Bool → Kind
told Word reserved = cond reserved Reserved Word
told Reserved reserved = Reserved
told Decimal reserved = Decimal
told Based reserved = Based
told Quoted reserved = Quoted
told Operator reserved = Operator
told System reserved = System

is_told : (kind : Kind) (bytes : List ℕ) → Spells kind bytes → told (form_of kind) (is_reserved bytes) ≡ kind
unfolding told
is_told Word bytes spelled = rw spelled.1 refl
is_told Reserved bytes spelled = rw spelled.1 refl
is_told Decimal bytes spelled = refl
is_told Based bytes spelled = refl
is_told Quoted bytes spelled = refl
is_told Operator bytes spelled = refl
is_told System bytes spelled = refl

-- bytes spell a token of one kind alone
pub same_kind : (a b : Kind) (bytes : List ℕ) → Spells a bytes → Spells b bytes → a ≡ b
same_kind a b [] left right = absurd (no_empty_token a left)
same_kind a b (x ∷ bytes) left right =
    let form : form_of a ≡ form_of b = sym (begun_by_first a x bytes left) ∙ begun_by_first b x bytes right in
    sym (is_told a _ left) ∙ ap (λ f. told f (is_reserved (x ∷ bytes))) form ∙ is_told b _ right

-- no token begins at a blank
token_no_blank : (text : List ℕ) (t : Token) → IsTokenOf text t → is_blank (get_or text t.start 0) ≡ false
token_no_blank text t token = go (t.end - t.start) (omega (arith, token.order)) token.spelled where
  front : drop t.start text ≡ get_or text t.start 0 ∷ drop (t.start + 1) text
  front = drop_more text t.start 0 (omega (arith, token.order, token.within))

  go : (n : ℕ) → 0 < n → Spells t.kind (take n (drop t.start text)) → is_blank (get_or text t.start 0) ≡ false
  go zero some spelled = absurd (omega arith)
  go (suc n) some spelled = no_blank_first t.kind _ _ (rw front at spelled)

-- two tokens behind the same blanks begin at one place
same_start : (text : List ℕ) (from : ℕ) (t u : Token) → AreBlanks text from t.start → AreBlanks text from u.start → IsTokenOf text t → IsTokenOf text u → t.start ≡ u.start
same_start text from t u before_t before_u t_is u_is =
    ⊎_elim (λ same. same)
    (λ apart.
    ⊎_elim
    (λ below. absurd (both_ways _ (token_no_blank text t t_is) (before_u.each t.start before_t.order below)))
    (λ above. absurd (both_ways _ (token_no_blank text u u_is) (before_t.each u.start before_u.order above)))
    apart)
    (cases_order t.start u.start)

-- two tokens that begin at one place are one
same_token : (text : List ℕ) (t u : Token) → t.start ≡ u.start → IsTokenOf text t → IsTokenOf text u → t ≡ u
same_token text t u start t_is u_is =
    let ends = same_end in
    let spelled : Spells u.kind (slice_range text t.start t.end) = rw (start, ends) u_is.spelled in
    let kinds : t.kind ≡ u.kind = same_kind t.kind u.kind _ t_is.spelled spelled in
    λ i. record { kind = kinds i; start = start i; end = ends i } where
      same_end : t.end ≡ u.end
      same_end =
          ⊎_elim (λ same. same)
          (λ apart.
          ⊎_elim
          (λ below. absurd (t_is.longest u.kind u.end below u_is.within (rw start u_is.spelled)))
          (λ above. absurd (u_is.longest t.kind t.end above t_is.within (subst (λ s. Spells t.kind (slice_range text s t.end)) start t_is.spelled)))
          apart)
          (cases_order t.end u.end)

-- tokens go on
pub reads_order : (text : List ℕ) (from : ℕ) (ts : List Token) (to : ℕ) → Reads text from ts to → from ≤ to
reads_order text from [] to reads = reads.order
reads_order text from (t ∷ ts) to reads = omega (arith, reads.0.order, reads.1.order, reads_order text t.end ts to reads.2)

-- between two places stands one list of tokens
pub one_reading : (text : List ℕ) (from : ℕ) (ts us : List Token) (to : ℕ) → Reads text from ts to → Reads text from us to → ts ≡ us
one_reading text from [] [] to left right = refl
one_reading text from [] (u ∷ us) to left right = absurd (both_ways _ (token_no_blank text u right.1) (left.each u.start right.0.order (omega (arith, right.1.order, reads_order text u.end us to right.2))))
one_reading text from (t ∷ ts) [] to left right = absurd (both_ways _ (token_no_blank text t left.1) (right.each t.start left.0.order (omega (arith, left.1.order, reads_order text t.end ts to left.2))))
one_reading text from (t ∷ ts) (u ∷ us) to left right =
    let head : t ≡ u = same_token text t u (same_start text from t u left.0 right.0 left.1 right.1) left.1 right.1 in
    let rest : Reads text t.end us to = subst (λ x. Reads text x.end us to) (sym head) right.2 in
    let tail : ts ≡ us = one_reading text t.end ts us to left.2 rest in
    λ i. head i ∷ tail i

-- no tokens cover a byte at which none begins
pub no_pass : (text : List ℕ) (from : ℕ) (ts us : List Token) (to at : ℕ) → Reads text from ts to → Reads text from us at → BeginsNoToken text at → at < to → ⊥
no_pass text from [] us to at left right stuck below = both_ways _ stuck.no_blank (left.each at (reads_order text from us at right) below)
no_pass text from (t ∷ ts) [] to at left right stuck below =
    ⊎_elim (λ same. stuck.none t.kind t.end (omega (arith, same, left.1.order)) left.1.within (subst (λ s. Spells t.kind (slice_range text s t.end)) same left.1.spelled))
    (λ apart.
    ⊎_elim
    (λ before. both_ways _ (token_no_blank text t left.1) (right.each t.start left.0.order before))
    (λ behind. both_ways _ stuck.no_blank (left.0.each at right.order behind))
    apart)
    (cases_order t.start at)
no_pass text from (t ∷ ts) (u ∷ us) to at left right stuck below =
    let head : t ≡ u = same_token text t u (same_start text from t u left.0 right.0 left.1 right.1) left.1 right.1 in
    no_pass text t.end ts us to at left.2 (subst (λ x. Reads text x.end us at) (sym head) right.2) stuck below

-- a text that is tokens has no such byte
pub no_failure : (text : List ℕ) (ts : List Token) (at : ℕ) → AreTokens text ts → FailsAt text at → ⊥
no_failure text ts at are fails = no_pass text 0 ts fails.before (length text) at are fails.reads fails.stuck fails.stuck.within

-- and another has one first such byte
pub one_failure : (text : List ℕ) (a b : ℕ) → FailsAt text a → FailsAt text b → a ≡ b
one_failure text a b left right =
    ⊎_elim (λ same. same)
    (λ apart.
    ⊎_elim
    (λ below. absurd (no_pass text 0 right.before left.before b a right.reads left.reads left.stuck below))
    (λ above. absurd (no_pass text 0 left.before right.before a b left.reads right.reads right.stuck above))
    apart)
    (cases_order a b)
