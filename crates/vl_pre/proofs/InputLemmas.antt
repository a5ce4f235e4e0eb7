-- Files that are open.
use Rattle.std.proofs.Common.{◌≡◌, ◌∙◌, ℕ, List, ◌∷◌, Result, Ok, Err, Option, Some, None, refl, sym, subst}
use Rattle.std.specs.Prelude.{IfOk, IsOkAnd, IfSome, ◌≢◌, MatchResult, MatchOption, IsOk}
use Rattle.vl_pre.specs.Breaks.{◌>>=◌}
use Rattle.vl_pre.specs.Text.{with_stretch}
use Rattle.vl_pre.specs.Pieces.{Piece}
use Rattle.vl_pre.specs.Cursors.{left}
use Rattle.vl_pre.specs.declared.pieces.Cursor.{Cursor}
use Rattle.vl_pre.specs.Files.{Reading, Include, Stop, file_piece, file_from, spot_of}
use Rattle.vl_pre.specs.Readings.{IsTurn, IsInclude}
use Rattle.vl_pre.specs.Inputs.{IsEnded}
use Rattle.vl_pre.specs.declared.groups.Group.{Group}
use Rattle.vl_pre.specs.declared.faults.PreFault.{PreFault}
use Rattle.vl_pre.specs.declared.inputs.Next.{Next}
use Rattle.vl_pre.specs.declared.inputs.Next.TheVariants.{Goes, Ends, Includes}
use Rattle.vl_pre.proofs.FileLemmas.{file_include}

pub utf8_is_ok : {A E : Type 0} (P : A → Type 0) (U : Type 0) (Q : E → Type 0) (result : Result A E) → U → MatchResult result P (λ e. ¬ U × Q e) → IsOk result
utf8_is_ok P U Q (Ok x) is m = refl
utf8_is_ok P U Q (Err e) is m = absurd (m.0 is)

pub ended_forward : (reading : Reading) (result : Result Next PreFault) (told : Result Reading Stop) (A : Type 0) → IsEnded reading result told → IfOk result (λ next. next ≢ Ends → A)
ended_forward reading (Ok Goes) told A is = absurd is
ended_forward reading (Ok Ends) told A is = λ no. absurd (no refl)
ended_forward reading (Ok (Includes included)) told A is = absurd is
ended_forward reading (Err fault) told A is = tt

-- an include leaves the groups and what is read as they were
pub include_next : (include : Include) (file name name' : List ℕ) (pieces behind rest : List Piece) (piece : Piece) (line : ℕ) (groups groups' : List Group) (reading reading' : Reading) → pieces ≡ piece ∷ behind
    → IsOkAnd (file_piece piece behind groups reading) (IsInclude name behind rest) → name ≡ name' → piece.line ≡ line → groups' ≡ groups → reading' ≡ reading
    → file_from include file 0 pieces groups reading ≡ (include name' (spot_of file line reading') reading' >>= λ read. file_from include file 0 rest groups' (record read { text = with_stretch read.text file }))
include_next include file name name' pieces behind rest piece line groups groups' reading reading' first included n l g r =
    file_include include file name pieces behind rest piece groups reading first included
    ∙ (λ i. include (n i) (spot_of file (l i) (sym r i)) (sym r i) >>= λ read. file_from include file 0 rest (sym g i) (record read { text = with_stretch read.text file }))

-- what a step of a text was, where its answer is known
abbrev pub Stepped : {X : Type 0} → (X → List ℕ) → Piece → List Group → List Group → Reading → Reading → Cursor → Cursor → List ℕ → Option X → Type 0
Stepped now piece groups groups' reading reading' before behind text answer =
    IsOkAnd (file_piece piece (left text before) groups reading) (λ step. MatchOption answer
    (IsTurn groups' reading' (left text before) (left text behind) step) (λ name. IsInclude (now name) (left text before) (left text behind) step))

pub stepped_turn : {X : Type 0} (now : X → List ℕ) (piece : Piece) (groups groups' : List Group) (reading reading' : Reading) (before behind : Cursor) (text text' : List ℕ) (answer : Option X) → text ≡ text' → answer ≡ None
    → Stepped now piece groups groups' reading reading' before behind text answer → IsOkAnd (file_piece piece (left text' before) groups reading) (IsTurn groups' reading' (left text' before) (left text' behind))
stepped_turn now piece groups groups' reading reading' before behind text text' answer t a s =
    subst (λ t. Stepped now piece groups groups' reading reading' before behind t None) t (subst (λ o. Stepped now piece groups groups' reading reading' before behind text o) a s)

pub stepped_include : {X : Type 0} (now : X → List ℕ) (piece : Piece) (groups groups' : List Group) (reading reading' : Reading) (before behind : Cursor) (text text' : List ℕ) (answer : Option X) (name : X) → text ≡ text' → answer ≡ Some name
    → Stepped now piece groups groups' reading reading' before behind text answer → IsOkAnd (file_piece piece (left text' before) groups reading) (IsInclude (now name) (left text' before) (left text' behind))
stepped_include now piece groups groups' reading reading' before behind text text' answer name t a s =
    subst (λ t. Stepped now piece groups groups' reading reading' before behind t (Some name)) t (subst (λ o. Stepped now piece groups groups' reading reading' before behind text o) a s)

-- what an include leaves, where the answer is known
pub stays_some : {X : Type 0} (A : Type 0) (answer : Option X) (name : X) → answer ≡ Some name → IfSome answer (λ _. A) → A
stays_some A answer name a s = subst (λ o. IfSome o (λ _. A)) a s
