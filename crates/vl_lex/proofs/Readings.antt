-- Tokens at their places in a text.
use Rattle.std.proofs.Common.{◌≡◌, ℕ, zero, suc, ◌+◌, ◌-◌, ◌<◌, ◌≤◌, List, [], ◌∷◌, ◌++◌, true, false, length, get_or, take, drop, sym, ap, ◌∙◌, subst, arith, length-drop, get_or-drop}
use Rattle.std.specs.Prelude.{All, AllPairs}
use Rattle.std.specs.List.{prefix_len}
use Rattle.std.proofs.lemmas.List.Elements.{All-nil, All-cons, All-weaker}
use Rattle.std.proofs.lemmas.List.Kept.{AllPairs-cons}
use Rattle.std.proofs.lemmas.List.Sums.{prefix_len_passes, prefix_len_stops}
use Rattle.vl_lex.specs.Bytes.{is_blank}
use Rattle.vl_lex.specs.Fronts.{IsLongestFront, HasNoFront, IsToken}
use Rattle.vl_lex.specs.Spelling.{Spells}
use Rattle.vl_lex.specs.Tokens.{AreBlanks, IsTokenOf, Reads, BeginsNoToken, AreTokens, AreSpans}
use Rattle.vl_lex.specs.declared.kinds.Kind.{Kind}
use Rattle.vl_lex.specs.declared.kinds.Token.{Token}
use Rattle.vl_lex.proofs.Families.{no_empty_token}

-- the longest token at the front of what follows a place is a token of the text
pub token_here : (text : List ℕ) (at len : ℕ) (kind : Kind) → at < length text → IsLongestFront IsToken (drop at text) len → Spells kind (take len (drop at text)) → IsTokenOf text (record { kind = kind; start = at; end = at + len })
token_here text at len kind inside front spelled =
    let width : at + len - at ≡ len = omega arith in
    let rest : length (drop at text) ≡ length text - at = length-drop at text in
    record {
      order = omega (arith, some len spelled);
      within = omega (arith, rest, front.within, inside);
      spelled = subst (λ n. Spells kind (take n (drop at text))) (sym width) spelled;
      longest = λ other end above fits also. front.longest (end - at) (omega (arith, above)) (omega (arith, rest, fits)) (other, also);
    } where
      some : (n : ℕ) → Spells kind (take n (drop at text)) → 0 < n
      some zero spells = absurd (no_empty_token kind spells)
      some (suc n) spells = omega arith

-- where nothing at the front of what follows is a token, none begins
pub stuck_here : (text : List ℕ) (at : ℕ) → at < length text → is_blank (get_or text at 0) ≡ false → HasNoFront IsToken (drop at text) → BeginsNoToken text at
stuck_here text at inside no_blank none = record {
  within = inside;
  no_blank = no_blank;
  none = λ kind end above fits spelled. none.none (end - at) (omega (arith, length-drop at text, fits)) (kind, spelled);
}

-- the blanks at the front of what follows a place
pub blanks_here : (text : List ℕ) (from n : ℕ) → n ≡ prefix_len is_blank (drop from text) → AreBlanks text from (from + n)
blanks_here text from n counted = record {
  order = omega arith;
  each = λ at above below.
      let k = at - from in
      let place : from + k ≡ at = omega (arith, above) in
      let passes : is_blank (get_or (drop from text) k 0) ≡ true = prefix_len_passes is_blank (drop from text) k 0 (omega (arith, counted, above, below)) in
      subst (λ i. is_blank (get_or text i 0) ≡ true) place (sym (ap is_blank (get_or-drop from text k 0)) ∙ passes);
}

pub blanks_stop : (text : List ℕ) (from n : ℕ) → n ≡ prefix_len is_blank (drop from text) → from + n < length text → is_blank (get_or text (from + n) 0) ≡ false
blanks_stop text from n counted inside =
    let fails : is_blank (get_or (drop from text) (prefix_len is_blank (drop from text)) 0) ≡ false = prefix_len_stops is_blank (drop from text) 0 (omega (arith, counted, length-drop from text, inside)) in
    ap (λ i. is_blank (get_or text (from + i) 0)) counted ∙ sym (ap is_blank (get_or-drop from text _ 0)) ∙ fails

-- one more token, and blanks behind it
pub reads_more : (text : List ℕ) (from : ℕ) (ts : List Token) (at : ℕ) (t : Token) (next : ℕ) → Reads text from ts at → t.start ≡ at → IsTokenOf text t → AreBlanks text t.end next → Reads text from (ts ++ t ∷ []) next
reads_more text from [] at t next reads start token blanks = (subst (AreBlanks text from) (sym start) reads, token, blanks)
reads_more text from (u ∷ ts) at t next reads start token blanks = (reads.0, reads.1, reads_more text u.end ts at t next reads.2 start token blanks)

-- each token that is read is a token of the text
pub each_token : (text : List ℕ) (from : ℕ) (ts : List Token) (to : ℕ) → Reads text from ts to → All (IsTokenOf text) ts
each_token text from [] to reads = All-nil (IsTokenOf text)
each_token text from (t ∷ ts) to reads = All-cons (IsTokenOf text) t ts reads.1 (each_token text t.end ts to reads.2)

-- and none begins before the place from which they are read
pub each_behind : (text : List ℕ) (from : ℕ) (ts : List Token) (to : ℕ) → Reads text from ts to → (before : ℕ) → before ≤ from → All (λ t. before ≤ t.start) ts
each_behind text from [] to reads before below = All-nil (λ t. before ≤ t.start)
each_behind text from (t ∷ ts) to reads before below =
    All-cons (λ u. before ≤ u.start) t ts (omega (arith, below, reads.0.order)) (each_behind text t.end ts to reads.2 before (omega (arith, below, reads.0.order, reads.1.order)))

-- none is over another
pub all_in_order : (text : List ℕ) (from : ℕ) (ts : List Token) (to : ℕ) → Reads text from ts to → AllPairs (λ t u. t.end ≤ u.start) ts
all_in_order text from [] to reads = λ i j d above inside. absurd (omega arith)
all_in_order text from (t ∷ ts) to reads = AllPairs-cons (λ x y. x.end ≤ y.start) t ts (each_behind text t.end ts to reads.2 t.end (omega arith)) (all_in_order text t.end ts to reads.2)

-- the spans of the tokens of a text
pub spans : (text : List ℕ) (ts : List Token) → AreTokens text ts → AreSpans ts (length text)
spans text ts are = record {
  each = All-weaker (IsTokenOf text) (λ t. (t.start < t.end) × (t.end ≤ length text)) (λ t is. (is.order, is.within)) ts (each_token text 0 ts (length text) are);
  order = all_in_order text 0 ts (length text) are;
}
