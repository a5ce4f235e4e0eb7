-- A token's first byte tells its form, and with it the kind.
use Rattle.std.proofs.Common.{◌≡◌, ◌==◌, ℕ, List, [], ◌∷◌, ◌++◌, Bool, true, false, ◌||◌, not, take, drop, sym, refl, ap, ◌∙◌, subst, arith, take-append-drop}
use Rattle.std.specs.Char.{is_digit}
use Rattle.std.proofs.lemmas.Bool.{both_ways}
use Rattle.std.proofs.lemmas.Bool.Decides.{nat_tests}
use Rattle.xt_base.specs.Identifiers.{begins_word}
use Rattle.vl_lex.specs.Bytes.{is_blank}
use Rattle.vl_lex.specs.Fronts.{IsLongestFront, HasNoFront, HasForm, IsToken, begun_by}
use Rattle.vl_lex.specs.Operators.{operators, is_operator}
use Rattle.vl_lex.specs.Spelling.{Spells}
use Rattle.vl_lex.specs.declared.kinds.Kind.{Kind}
use Rattle.vl_lex.specs.declared.kinds.Kind.TheVariants.{Word, Reserved, Decimal, Based, Quoted, Operator, System}
use Rattle.vl_lex.proofs.Marks.{all_at}
use Rattle.vl_lex.proofs.Numbers.{digit_no_blank}
use Rattle.vl_lex.proofs.Runs.{none_from}

-- reserved words have the form of words
abbrev pub form_of : Kind → Kind
form_of Word = Word
form_of Reserved = Word
form_of Decimal = Decimal
form_of Based = Based
form_of Quoted = Quoted
form_of Operator = Operator
form_of System = System

pub has_form : (kind : Kind) (bytes : List ℕ) → Spells kind bytes → HasForm (form_of kind) bytes
has_form Word bytes spelled = spelled.0
has_form Reserved bytes spelled = spelled.0
has_form Decimal bytes spelled = spelled
has_form Based bytes spelled = spelled
has_form Quoted bytes spelled = spelled
has_form Operator bytes spelled = spelled
has_form System bytes spelled = spelled

-- a byte that begins nothing else and is no blank
abbrev is_mark : ℕ → Bool
is_mark b = not (begins_word b || is_digit b 10 || b == 39 || b == 34 || b == 36 || is_blank b)

abbrev begins_with_mark : List ℕ → Bool
begins_with_mark [] = false
begins_with_mark (b ∷ bytes) = is_mark b

mark_begins : (b : ℕ) → is_mark b ≡ true → begun_by b ≡ Operator
mark_begins b mark = grind (arith, nat_tests)

mark_no_blank : (b : ℕ) → is_mark b ≡ true → is_blank b ≡ false
mark_no_blank b mark = grind (arith, nat_tests)

word_no_blank : (b : ℕ) → begins_word b ≡ true → is_blank b ≡ false
word_no_blank b word = grind (arith, nat_tests)

digit_begins : (b : ℕ) → is_digit b 10 ≡ true → begun_by b ≡ Decimal
digit_begins b digit = grind (arith, nat_tests)

-- the first byte of a token tells its form
pub begun_by_first : (kind : Kind) (b : ℕ) (bytes : List ℕ) → Spells kind (b ∷ bytes) → begun_by b ≡ form_of kind
unfolding operators is_operator
begun_by_first Word b bytes spelled = rw spelled.0.0 refl
begun_by_first Reserved b bytes spelled = rw spelled.0.0 refl
begun_by_first Decimal b bytes spelled = digit_begins b spelled.0
begun_by_first Based b bytes spelled = let e : b ≡ 39 = grind (arith, spelled.whole) in rw e refl
begun_by_first Quoted b bytes spelled = let e : b ≡ 34 = grind (arith, spelled.whole) in rw e refl
begun_by_first Operator b bytes spelled = mark_begins b (all_at begins_with_mark operators (b ∷ bytes) refl spelled)
begun_by_first System b bytes spelled = rw spelled.0 refl

-- which is no blank
pub no_blank_first : (kind : Kind) (b : ℕ) (bytes : List ℕ) → Spells kind (b ∷ bytes) → is_blank b ≡ false
unfolding operators is_operator
no_blank_first Word b bytes spelled = word_no_blank b spelled.0.0
no_blank_first Reserved b bytes spelled = word_no_blank b spelled.0.0
no_blank_first Decimal b bytes spelled = digit_no_blank 10 b (omega arith) spelled.0
no_blank_first Based b bytes spelled = let e : b ≡ 39 = grind (arith, spelled.whole) in rw e refl
no_blank_first Quoted b bytes spelled = let e : b ≡ 34 = grind (arith, spelled.whole) in rw e refl
no_blank_first Operator b bytes spelled = mark_no_blank b (all_at begins_with_mark operators (b ∷ bytes) refl spelled)
no_blank_first System b bytes spelled = rw spelled.0 refl

-- a token has a first byte
pub no_empty_token : (kind : Kind) → Spells kind [] → ⊥
unfolding operators is_operator
no_empty_token Word spelled = spelled.0
no_empty_token Reserved spelled = spelled.0
no_empty_token Decimal spelled = spelled
no_empty_token Based spelled = let e = spelled.whole in cc
no_empty_token Quoted spelled = let e = spelled.whole in cc
no_empty_token Operator spelled = both_ways _ refl spelled
no_empty_token System spelled = spelled

-- a token at the front of a text has the form that the first byte tells
pub front_has_form : (rest : List ℕ) (b : ℕ) (bytes : List ℕ) → rest ≡ b ∷ bytes → (n : ℕ) (kind : Kind) → Spells kind (take n rest) → HasForm (begun_by b) (take n rest)
front_has_form rest b bytes whole n kind spelled = go (take n rest) (drop n rest) (sym whole ∙ sym (take-append-drop n rest)) spelled where
  go : (front beyond : List ℕ) → b ∷ bytes ≡ front ++ beyond → Spells kind front → HasForm (begun_by b) front
  go [] beyond same spells = absurd (no_empty_token kind spells)
  go (x ∷ front) beyond same spells =
      let head : b ≡ x = cc in
      let tells : begun_by b ≡ form_of kind = ap begun_by head ∙ begun_by_first kind x front spells in
      subst (λ form. HasForm form (x ∷ front)) (sym tells) (has_form kind (x ∷ front) spells)

-- the longest front of the form that the first byte tells is the longest token
pub token_longest : (rest : List ℕ) (b : ℕ) (bytes : List ℕ) (form kind : Kind) (len : ℕ) → rest ≡ b ∷ bytes → form ≡ begun_by b → IsLongestFront (HasForm form) rest len → Spells kind (take len rest) → IsLongestFront IsToken rest len
token_longest rest b bytes form kind len whole tells front spelled = record {
  within = front.within;
  holds = (kind, spelled);
  longest = λ n above inside token. front.longest n above inside (subst (λ f. HasForm f (take n rest)) (sym tells) (front_has_form rest b bytes whole n token.0 token.1));
}

pub no_token : (rest : List ℕ) (b : ℕ) (bytes : List ℕ) (form : Kind) → rest ≡ b ∷ bytes → form ≡ begun_by b → HasNoFront (HasForm form) rest → HasNoFront IsToken rest
no_token rest b bytes form whole tells none = record {
  none = λ n inside token. none.none n inside (subst (λ f. HasForm f (take n rest)) (sym tells) (front_has_form rest b bytes whole n token.0 token.1));
}

pub no_token_in_nothing : (rest : List ℕ) → rest ≡ [] → HasNoFront IsToken rest
no_token_in_nothing rest empty = none_from rest (λ others beyond same token. never others beyond (sym empty ∙ same) token) where
  never : (others beyond : List ℕ) → [] ≡ others ++ beyond → IsToken others → ⊥
  never [] beyond same token = no_empty_token token.0 token.1
  never (x ∷ others) beyond same token = cc
