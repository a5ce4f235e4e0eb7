-- An expanded text breaks one rule first, at one place, or is one source of the form that waits.
use Rattle.std.proofs.Common.{◌≡◌, ◌∙◌, ◌⊎◌, inl, inr, ◌<◌, ◌-◌, refl, subst, sym, ap, arith, ℕ, min, Bool, true, false, List, [], ◌∷◌, length, Option, Some, None}
use Rattle.std.proofs.lemmas.Option.{slice_get-get_or}
use Rattle.std.specs.Prelude.{Err, Ok, get_or, slice_get}
use Rattle.xt_base.specs.declared.refusals.Refusal.{Refusal}
use Rattle.vl_pre.specs.Text.{Expanded}
use Rattle.vl_pre.proofs.Placed.{Open, open_place}
use Rattle.vl_lex.specs.Refusals.{no_token}
use Rattle.vl_lex.specs.Tokens.{AreTokens, FailsAt}
use Rattle.vl_lex.specs.Views.{places_of, spellings_of}
use Rattle.vl_lex.specs.declared.kinds.Token.{Token}
use Rattle.vl_lex.proofs.Total.{some_reading}
use Rattle.vl_lex.proofs.Unique.{one_reading, no_failure, one_failure}
use Rattle.vl_tree.specs.declared.modules.Tree.{Tree}
use Rattle.vl_expr.specs.Reading as reads
use Rattle.vl_expr.specs.Refusals.{IsNoTree, no_tree}
use Rattle.vl_expr.specs.Terminals.{terminals_of}
use Rattle.vl_expr.proofs.Laws.{not_read}
use Rattle.vl_parse.proofs.Laws.{empty_source, one_tree}
use Rattle.vl_parse.proofs.ReadModules.{source_reads}
use Rattle.vl_parse.proofs.SoundModules.{source_stands}
use Rattle.xt_compile.specs.declared.first.source.Source.{Source}
use Rattle.xt_compile.specs.first.Source.{waits}
use Rattle.xt_compile.specs.first.Tree.{source_of}
use Rattle.xt_compile.proofs.first_form.FormLaws.{one_source}
use Rattle.xt_compile.proofs.first_form.Somes.{none_some, some_one}
use Rattle.xt_top.specs.Breaks.{FirstBreak, at_byte, at_token, out_of_form, no_wait, not_of_form, without_wait}
use Rattle.xt_top.specs.Command.{SourceWords}
use Rattle.xt_top.specs.Sources.{Accepts, HasTree, IsFormOf, IsTreeOf, most_depth, read_from}
use Rattle.xt_top.proofs.Processes.{process_named}

stop_one : {X : Type 0} {a b : ℕ} → ◌≡◌ {A = reads.Reading X} (Err a) (Err b) → a ≡ b
stop_one e = cc

module _ (text : Expanded) (s : SourceWords) where
  -- ---- one list of tokens, one tree

  same_tokens : (ts us : List Token) → AreTokens text.bytes ts → AreTokens text.bytes us → us ≡ ts
  same_tokens ts us a b = one_reading text.bytes 0 us ts (length text.bytes) b a

  -- a tree of some tokens of the text is one of these
  tree_of_these : (ts us : List Token) (tree : Tree) → AreTokens text.bytes ts → HasTree text us tree → IsTreeOf text ts tree
  tree_of_these ts us tree are other = subst (λ (l : List Token). IsTreeOf text l tree) (same_tokens ts us are other.are_tokens) other.is_tree

  same_tree : (ts us : List Token) (tree other : Tree) → HasTree text ts tree → HasTree text us other → other ≡ tree
  same_tree ts us tree other has has' =
      one_tree (terminals_of text.bytes ts) (spellings_of text.bytes ts) most_depth most_depth other tree (tree_of_these ts us other has.are_tokens has') has.is_tree

  -- a source of the form over some tokens and tree of the text is one over these
  form_of_these : (ts us : List Token) (tree other : Tree) (source : Source) → HasTree text ts tree → HasTree text us other → IsFormOf text s us other source → IsFormOf text s ts tree source
  form_of_these ts us tree other source has has' form =
      subst (λ (t : Tree). IsFormOf text s ts t source) (same_tree ts us tree other has has') (subst (λ (l : List Token). IsFormOf text s l other source) (same_tokens ts us has.are_tokens has'.are_tokens) form)

  same_source : (ts us : List Token) (tree other : Tree) (a b : Source) → HasTree text ts tree → HasTree text us other → IsFormOf text s ts tree a → IsFormOf text s us other b → b ≡ a
  same_source ts us tree other a b has has' form form' =
      one_source (terminals_of text.bytes ts) (spellings_of text.bytes ts) (places_of text ts) s.top s.clock tree b a (form_of_these ts us tree other b has has' form') form

  pub one_accepted : (a b : Source) → Accepts text s a → Accepts text s b → b ≡ a
  one_accepted a b it other = same_source it.tokens other.tokens it.tree other.tree a b it.has_tree other.has_tree it.form other.form

  -- ---- a source that waits breaks no rule

  pub breaks_none : (source : Source) → Accepts text s source → (refusal : Refusal) → FirstBreak text s refusal → ⊥
  breaks_none source a refusal (at_byte at fails) = no_failure text.bytes a.tokens at a.has_tree.are_tokens fails
  breaks_none source a refusal (at_token ts are none stop stops other is) = none a.tree (tree_of_these ts a.tokens a.tree are a.has_tree)
  breaks_none source a refusal (out_of_form ts tree has none) = none source (form_of_these ts a.tokens tree a.tree source has a.has_tree a.form)
  breaks_none source a refusal (no_wait ts tree there has form idle) =
      let off : false ≡ true = sym idle ∙ ap waits (same_source a.tokens ts a.tree tree source there a.has_tree has a.form form) ∙ a.waits in
      cc

  -- ---- the first rule that is broken is one, and its place too

  same_stop : (ts us : List Token) (stop other : ℕ) (a b : Refusal) → us ≡ ts → read_from text ts ≡ Err stop → read_from text us ≡ Err other → IsNoTree text ts stop a → IsNoTree text us other b → a ≡ b
  same_stop ts us stop other a b same stops stops' is is' =
      let one : other ≡ stop = stop_one (sym (subst (λ l. read_from text l ≡ Err other) same stops') ∙ stops) in
      let there : slice_get ts (min stop (length ts - 1)) ≡ Some is'.token = subst (λ n. slice_get ts (min n (length ts - 1)) ≡ Some is'.token) one (subst (λ l. slice_get l (min other (length l - 1)) ≡ Some is'.token) same is'.there) in
      is.is ∙ ap (no_tree text) (some_one (sym is.there ∙ there)) ∙ sym is'.is

  pub one_break : (a b : Refusal) → FirstBreak text s a → FirstBreak text s b → a ≡ b
  one_break a b (at_byte i fails) (at_byte j fails') = ap (no_token text) (one_failure text.bytes i j fails fails')
  one_break a b (at_byte i fails) (at_token us are' none' stop' stops' other is') = absurd (no_failure text.bytes us i are' fails)
  one_break a b (at_byte i fails) (out_of_form us tree' has' none') = absurd (no_failure text.bytes us i has'.are_tokens fails)
  one_break a b (at_byte i fails) (no_wait us tree' source' has' form' idle') = absurd (no_failure text.bytes us i has'.are_tokens fails)
  one_break a b (at_token ts are none stop stops refusal is) (at_byte j fails') = absurd (no_failure text.bytes ts j are fails')
  one_break a b (at_token ts are none stop stops refusal is) (at_token us are' none' stop' stops' other is') = same_stop ts us stop stop' refusal other (same_tokens ts us are are') stops stops' is is'
  one_break a b (at_token ts are none stop stops refusal is) (out_of_form us tree' has' none') = absurd (none tree' (tree_of_these ts us tree' are has'))
  one_break a b (at_token ts are none stop stops refusal is) (no_wait us tree' source' has' form' idle') = absurd (none tree' (tree_of_these ts us tree' are has'))
  one_break a b (out_of_form ts tree has none) (at_byte j fails') = absurd (no_failure text.bytes ts j has.are_tokens fails')
  one_break a b (out_of_form ts tree has none) (at_token us are' none' stop' stops' other is') = absurd (none' tree (tree_of_these us ts tree are' has))
  one_break a b (out_of_form ts tree has none) (out_of_form us tree' has' none') = refl
  one_break a b (out_of_form ts tree has none) (no_wait us tree' source' has' form' idle') = absurd (none source' (form_of_these ts us tree tree' source' has has' form'))
  one_break a b (no_wait ts tree source has form idle) (at_byte j fails') = absurd (no_failure text.bytes ts j has.are_tokens fails')
  one_break a b (no_wait ts tree source has form idle) (at_token us are' none' stop' stops' other is') = absurd (none' tree (tree_of_these us ts tree are' has))
  one_break a b (no_wait ts tree source has form idle) (out_of_form us tree' has' none') = absurd (none' source (form_of_these us ts tree' tree source has' has form))
  one_break a b (no_wait ts tree source has form idle) (no_wait us tree' source' has' form' idle') = ap without_wait (sym (same_source ts us tree tree' source source' has has' form form'))

  -- ---- one of them there is

  abbrev pub Judged : Type 0
  Judged = ((refusal : Refusal) × FirstBreak text s refusal × (refusal.place.file < length text.names)) ⊎ ((source : Source) × Accepts text s source)

  module _ (o : Open text) where
    by_waits : (ts : List Token) (tree : Tree) (source : Source) → HasTree text ts tree → IsFormOf text s ts tree source → (b : Bool) → waits source ≡ b → Judged
    by_waits ts tree source has form true waiting = inr (source, record { tokens = ts; tree = tree; has_tree = has; form = form; waits = waiting })
    by_waits ts tree source has form false idle = inl (without_wait source, no_wait ts tree source has form idle, process_named text o s ts tree source form)

    by_form : (ts : List Token) (tree : Tree) → HasTree text ts tree → (found : Option Source) → source_of (terminals_of text.bytes ts) (spellings_of text.bytes ts) (places_of text ts) s.top s.clock tree ≡ found → Judged
    by_form ts tree has (Some source) e = by_waits ts tree source has e (waits source) refl
    by_form ts tree has None e = inl (not_of_form, out_of_form ts tree has (λ source form. none_some (sym e ∙ form)), o.some)

    by_stop : (ts : List Token) → AreTokens text.bytes ts → (stop : ℕ) → read_from text ts ≡ Err stop → (token : Token) → slice_get ts (min stop (length ts - 1)) ≡ Some token → Judged
    by_stop ts are stop e token there =
        let within = open_place text token.start o in
        let none : (tree : Tree) → IsTreeOf text ts tree → ⊥ = λ tree is. not_read (sym e ∙ source_reads (terminals_of text.bytes ts) (spellings_of text.bytes ts) most_depth tree is) in
        inl (no_tree text token, at_token ts are none stop e (no_tree text token) (record { token = token; there = there; is = refl; named = within }), within)

    by_tree : (ts : List Token) → AreTokens text.bytes ts → (found : reads.Reading Tree) → read_from text ts ≡ found → Judged
    by_tree ts are (Ok tree) e =
        by_form ts tree (record { are_tokens = are; is_tree = source_stands (terminals_of text.bytes ts) (spellings_of text.bytes ts) most_depth tree e })
        (source_of (terminals_of text.bytes ts) (spellings_of text.bytes ts) (places_of text ts) s.top s.clock tree) refl
    by_tree [] are (Err stop) e = absurd (not_read (sym e ∙ empty_source text.bytes [] most_depth refl))
    by_tree (t ∷ ts) are (Err stop) e =
        let here : min stop (length (t ∷ ts) - 1) < length (t ∷ ts) = omega arith in
        by_stop (t ∷ ts) are stop e (get_or (t ∷ ts) (min stop (length (t ∷ ts) - 1)) t) (slice_get-get_or (t ∷ ts) (min stop (length (t ∷ ts) - 1)) t here)

    pub judged : Judged
    judged = by_text (some_reading text.bytes) where
      by_text : ((ts : List Token) × AreTokens text.bytes ts) ⊎ ((at : ℕ) × FailsAt text.bytes at) → Judged
      by_text (inl (ts, are)) = by_tree ts are (read_from text ts) refl
      by_text (inr (at, fails)) = inl (no_token text at, at_byte at fails, open_place text at o)
