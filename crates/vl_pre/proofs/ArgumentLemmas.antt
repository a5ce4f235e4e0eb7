-- Arguments that are read, piece by piece.
use Rattle.std.proofs.Common.{◌≡◌, ◌<◌, ◌≤◌, ◌+◌, ◌-◌, ◌⊎◌, inl, inr, ℕ, Bool, true, false, cond, ◌&&◌, List, [], ◌∷◌, ◌++◌, length, get_or, take, drop, map, refl, sym, ap, ◌∙◌, arith, eqb, length-append, append_assoc, length-take-le, length-take, length-drop, Result, Ok, Err}
use Rattle.std.proofs.lemmas.Bool.{eqb-true}
use Rattle.std.proofs.lemmas.Bool.Decides.{nat_tests}
use Rattle.std.proofs.lemmas.List.{get_or_append_left, get_or_push, length_push}
use Rattle.std.proofs.lemmas.Bool.{cases_lt, false≢true}
use Rattle.std.specs.List.{All}
use Rattle.vl_pre.specs.Pieces.{Piece, is_single, is_space, is_byte, without_back, bytes_of_pieces}
use Rattle.std.specs.Prelude.{◌==◌, ◌||◌, IsOkAnd, slice_range}
use Rattle.vl_pre.specs.Directives.{is_stray}
use Rattle.vl_pre.specs.declared.arguments.Class.{Class}
use Rattle.vl_pre.specs.declared.arguments.Class.TheVariants.{Passed, Closes, Ends, Belongs}
use Rattle.vl_pre.specs.Cursors.{left, IsWithin}
use Rattle.vl_pre.specs.Uses.{Arguments, is_empty, class_of, turn_by, brackets, with_argument, arguments_turn, arguments_from, no_arguments}
use Rattle.vl_pre.specs.Expanding.{argument_pieces, IsInside}
use Rattle.vl_pre.specs.Arguing.{IsPiece, IsReader, IsTurned, Gave}
use Rattle.vl_pre.specs.declared.pieces.Cursor.{Cursor}
use Rattle.vl_pre.specs.declared.uses.Context.{Context}
use Rattle.vl_pre.specs.declared.arguments.Reader.{Reader}
use Rattle.vl_pre.proofs.TextLemmas.{bytes_of_pieces_append, bytes_of_pieces_push, without_back_front, without_back_push, without_back_space}
use Rattle.vl_pre.specs.Runs.{most}
use Rattle.vl_pre.specs.Breaks.{Break, breaks}
use Rattle.vl_pre.specs.Gives.{Stops}
use Rattle.vl_pre.specs.declared.stopped.Stopped.{Stopped}
use Rattle.vl_pre.proofs.CutLemmas.{cut_at}
use Rattle.vl_pre.proofs.OperandLemmas.{behind_first}
use Rattle.vl_pre.proofs.GivesLemmas.{stops_bind, stops_same}

-- what was read so far leads to what the whole comes to
pub record IsSoFar (context : Context) (text : List ℕ) (first place : Cursor) (reader : Reader) : Type 0 where
  pub given : Arguments
  pub reads : IsReader text place reader given
  pub told : arguments_from context given (left text place) ≡ arguments_from context no_arguments (left text first)
  pub behind : left text place ≡ drop given.size (left text first)

-- nothing came of the next argument exactly where it ends as it begins
pub empty_is : (text : List ℕ) (place : Cursor) (reader : Reader) (given : Arguments) → IsReader text place reader given → eqb reader.end reader.start.at ≡ is_empty given.next
empty_is text place reader given is = go given.next is.ends is.some where
  go : (next : List Piece) → reader.start.at + length (bytes_of_pieces (without_back next)) ≡ reader.end → (is_empty next ≡ false → reader.start.at < reader.end) → eqb reader.end reader.start.at ≡ is_empty next
  go [] ends some = grind (arith, nat_tests, ends)
  go (piece ∷ next) ends some = grind (arith, nat_tests, some refl)

-- a piece in front is passed over
pub passed_turn : (text : List ℕ) (before place : Cursor) (reader : Reader) (given : Arguments) (piece : Piece) → IsPiece text before place piece → IsReader text before reader given
    → is_empty given.next ≡ true → IsReader text place (record reader { start = place; end = place.at }) (record given { size = given.size + 1; closed = false })
passed_turn text before place reader given piece at is none = go given.next none refl where
  go : (next : List Piece) → is_empty next ≡ true → given.next ≡ next → IsReader text place (record reader { start = place; end = place.at }) (record given { size = given.size + 1; closed = false })
  go (p ∷ ps) e n = absurd (false≢true e)
  go [] e n = record {
    came = is.came;
    inside = is.inside;
    begins = at.within;
    reached = sym (ap (λ l. l ++ left text place) n);
    here = rw n (omega arith);
    ends = rw n (omega arith);
    some = λ h. absurd (false≢true (sym h ∙ none));
    depth = is.depth;
    deep = omega (arith, is.deep, at.forward);
  }

-- the argument that came is what its place in the text has
pub argument_is : (text : List ℕ) (place : Cursor) (reader : Reader) (given : Arguments) → IsReader text place reader given
    → argument_pieces text (record { start = reader.start; end = reader.end }) ≡ without_back given.next
argument_is text place reader given is =
    let back = without_back_front given.next in
    let whole : left text reader.start ≡ without_back given.next ++ (back.0 ++ left text place) =
    is.reached ∙ ap (λ l. l ++ left text place) back.1 ∙ append_assoc (without_back given.next) back.0 (left text place) in
    cut_at (without_back given.next) (back.0 ++ left text place) text reader.start.at reader.start.line reader.end whole (sym is.ends)

pub argument_inside : (text : List ℕ) (place : Cursor) (reader : Reader) (given : Arguments) → IsReader text place reader given → place.at ≤ length text → length text ≤ most
    → IsInside text (record { start = reader.start; end = reader.end })
argument_inside text place reader given is within fits =
    let back = without_back_front given.next in
    let size : length (bytes_of_pieces given.next) ≡ length (bytes_of_pieces (without_back given.next)) + length (bytes_of_pieces back.0) =
    ap (λ l. length (bytes_of_pieces l)) back.1 ∙ ap length (bytes_of_pieces_append (without_back given.next) back.0) ∙ length-append (bytes_of_pieces (without_back given.next)) (bytes_of_pieces back.0) in
    let ends : reader.end ≤ length text = omega (arith, is.ends, is.here, size, within) in
    let short : length (take reader.end text) ≡ reader.end = length-take-le reader.end text ends in
    record {
      ends = ends;
      begins = record { inside = omega (arith, short, is.ends); size = omega (arith, short, ends, fits); told = omega (arith, short, is.begins.told, ends) };
    }

All_push : {X : Type 0} (P : X → Type 0) (xs : List X) (x : X) → All P xs → P x → All P (xs ++ x ∷ [])
All_push P xs x all here k d h = go (cases_lt k (length xs)) where
  go : (k < length xs) ⊎ (length xs ≤ k) → P (get_or (xs ++ x ∷ []) k d)
  go (inl l) = rw (get_or_append_left xs (x ∷ []) d k l) (all k d l)
  go (inr l) = let last : length xs ≡ k = omega (arith, length_push xs x) in rw (get_or_push xs x d k last) here

map_push : {X Y : Type 0} (f : X → Y) (xs : List X) (x : X) → map f (xs ++ x ∷ []) ≡ map f xs ++ f x ∷ []
map_push f [] x = refl
map_push f (y ∷ ys) x = ap (λ l. f y ∷ l) (map_push f ys x)

-- an argument comes at a comma or at the parenthesis that closes the list
pub closed_turn : (text : List ℕ) (before place : Cursor) (reader reader' : Reader) (given : Arguments) (piece : Piece) (closed : Bool) → IsPiece text before place piece → IsReader text before reader given
    → reader'.came.items ≡ reader.came.items ++ record { start = reader.start; end = reader.end } ∷ [] → reader'.start ≡ place → reader'.end ≡ place.at → reader'.depth ≡ 0
    → IsReader text place reader' (with_argument given closed)
closed_turn text before place reader reader' given piece closed at is came start end depth = record {
  came = ap (λ l. l ++ without_back given.next ∷ []) is.came
      ∙ ap (λ p. map (argument_pieces text) reader.came.items ++ p ∷ []) (sym (argument_is text before reader given is))
      ∙ sym (map_push (argument_pieces text) reader.came.items (record { start = reader.start; end = reader.end }))
      ∙ sym (ap (map (argument_pieces text)) came);
  inside = rw came (All_push (IsInside text) reader.came.items _ is.inside (argument_inside text before reader given is (omega (arith, at.forward, at.within.inside)) at.within.size));
  begins = rw start at.within;
  reached = ap (left text) start;
  here = rw start (omega arith);
  ends = rw (start, end) (omega arith);
  some = λ h. absurd (false≢true (sym h));
  depth = depth;
  deep = rw depth (omega arith);
}

brackets_more : (depth : ℕ) (piece : Piece) → brackets depth piece ≤ depth + 1
brackets_more depth piece = go (is_single (λ b. b == 40 || b == 91 || b == 123) piece) (is_single (λ b. b == 41 || b == 93 || b == 125) piece) where
  go : (s t : Bool) → cond s (depth + 1) (cond t (depth - 1) depth) ≤ depth + 1
  go true t = omega arith
  go false true = omega arith
  go false false = omega arith

-- a piece belongs to an argument
pub added_turn : (text : List ℕ) (before place : Cursor) (reader : Reader) (given : Arguments) (piece : Piece) → IsPiece text before place piece → IsReader text before reader given
    → (is_empty given.next && is_space piece) ≡ false
    → IsReader text place (record reader { depth = brackets reader.depth piece; end = cond (is_space piece) reader.end place.at })
    (record given { next = given.next ++ piece ∷ []; depth = brackets given.depth piece; size = given.size + 1; closed = false })
added_turn text before place reader given piece at is kept = record {
  came = is.came;
  inside = is.inside;
  begins = is.begins;
  reached = is.reached ∙ ap (λ l. given.next ++ l) at.first ∙ sym (append_assoc given.next (piece ∷ []) (left text place));
  here = omega (arith, is.here, at.size, ap length (bytes_of_pieces_push given.next piece), length-append (bytes_of_pieces given.next) piece.bytes);
  ends = ends (is_space piece) refl;
  some = λ h. some (is_space piece) refl;
  depth = ap (λ d. brackets d piece) is.depth;
  deep = omega (arith, brackets_more reader.depth piece, is.deep, at.forward);
} where
  ends : (t : Bool) → is_space piece ≡ t → reader.start.at + length (bytes_of_pieces (without_back (given.next ++ piece ∷ []))) ≡ cond t reader.end place.at
  ends true e = ap (λ l. reader.start.at + length (bytes_of_pieces l)) (without_back_space given.next piece e) ∙ is.ends
  ends false e = ap (λ l. reader.start.at + length (bytes_of_pieces l)) (without_back_push given.next piece e)
      ∙ omega (arith, is.here, at.size, ap length (bytes_of_pieces_push given.next piece), length-append (bytes_of_pieces given.next) piece.bytes)

  some : (t : Bool) → is_space piece ≡ t → reader.start.at < cond t reader.end place.at
  some true e = is.some (first (is_empty given.next) refl) where
    first : (b : Bool) → is_empty given.next ≡ b → is_empty given.next ≡ false
    first false q = q
    first true q = absurd (false≢true (sym kept ∙ (ap (λ b. b && is_space piece) q ∙ e)))
  some false e = omega (arith, is.here, at.forward)

-- what the class of a piece says
class_rest : (t u : Bool) → Passed ≡ cond t Closes (cond u Ends Belongs) → ⊥
class_rest true u e = cc
class_rest false true e = cc
class_rest false false e = cc

class_empty : (empty : Bool) (depth : ℕ) (piece : Piece) → Passed ≡ class_of empty depth piece → empty ≡ true
class_empty true depth piece e = refl
class_empty false depth piece e = absurd (class_rest (eqb depth 0 && is_byte 41 piece) (eqb depth 0 && is_byte 44 piece) e)

class_outside : (class : Class) (passed close comma : Bool) (depth : ℕ) → (class ≡ Passed → ⊥) → (class ≡ Belongs → ⊥)
    → class ≡ cond passed Passed (cond (eqb depth 0 && close) Closes (cond (eqb depth 0 && comma) Ends Belongs)) → eqb depth 0 ≡ true
class_outside class true close comma depth n m e = absurd (n e)
class_outside class false close comma depth n m e = go (eqb depth 0) e where
  go : (t : Bool) → class ≡ cond (t && close) Closes (cond (t && comma) Ends Belongs) → t ≡ true
  go true h = refl
  go false h = absurd (m h)

class_kept : (empty : Bool) (depth : ℕ) (piece : Piece) → Belongs ≡ class_of empty depth piece → (empty && is_space piece) ≡ false
class_kept empty depth piece e = go (empty && is_space piece) e where
  go : (t : Bool) → Belongs ≡ cond t Passed (cond (eqb depth 0 && is_byte 41 piece) Closes (cond (eqb depth 0 && is_byte 44 piece) Ends Belongs)) → t ≡ false
  go true h = cc
  go false h = refl

-- what the turn of a piece is
pub turn_told : (context : Context) (text : List ℕ) (place : Cursor) (reader : Reader) (given : Arguments) (piece : Piece) (class : Class) → IsReader text place reader given → is_stray piece ≡ false
    → class ≡ class_of (eqb reader.end reader.start.at) reader.depth piece → arguments_turn context given piece ≡ Ok (turn_by class given piece)
turn_told context text place reader given piece class is stray e =
    let same : class_of (is_empty given.next) given.depth piece ≡ class =
    (λ i. class_of (sym (empty_is text place reader given is) i) (sym is.depth i) piece) ∙ sym e in
    rw (stray, same) refl

pub passed_is : (context : Context) (text : List ℕ) (before place : Cursor) (reader : Reader) (given : Arguments) (piece : Piece) → IsPiece text before place piece → IsReader text before reader given
    → is_stray piece ≡ false → Passed ≡ class_of (eqb reader.end reader.start.at) reader.depth piece
    → IsOkAnd (arguments_turn context given piece) (IsTurned text place (record reader { start = place; end = place.at }) given.size false)
passed_is context text before place reader given piece at is stray e =
    let none : is_empty given.next ≡ true = sym (empty_is text before reader given is) ∙ class_empty _ reader.depth piece e in
    rw (turn_told context text before reader given piece Passed is stray e)
    (record { closes = refl; taken = refl; reads = passed_turn text before place reader given piece at is none })

pub closes_is : (context : Context) (text : List ℕ) (before place : Cursor) (reader reader' : Reader) (given : Arguments) (piece : Piece) → IsPiece text before place piece → IsReader text before reader given
    → is_stray piece ≡ false → Closes ≡ class_of (eqb reader.end reader.start.at) reader.depth piece
    → reader'.came.items ≡ reader.came.items ++ record { start = reader.start; end = reader.end } ∷ [] → reader'.start ≡ place → reader'.end ≡ place.at → reader'.depth ≡ reader.depth
    → IsOkAnd (arguments_turn context given piece) (IsTurned text place reader' given.size true)
closes_is context text before place reader reader' given piece at is stray e came start end depth =
    let outside : eqb reader.depth 0 ≡ true = class_outside Closes _ _ _ reader.depth (λ h. cc) (λ h. cc) e in
    rw (turn_told context text before reader given piece Closes is stray e)
    (record { closes = refl; taken = refl; reads = closed_turn text before place reader reader' given piece true at is came start end (depth ∙ eqb-true reader.depth 0 outside) })

pub ends_is : (context : Context) (text : List ℕ) (before place : Cursor) (reader reader' : Reader) (given : Arguments) (piece : Piece) → IsPiece text before place piece → IsReader text before reader given
    → is_stray piece ≡ false → Ends ≡ class_of (eqb reader.end reader.start.at) reader.depth piece
    → reader'.came.items ≡ reader.came.items ++ record { start = reader.start; end = reader.end } ∷ [] → reader'.start ≡ place → reader'.end ≡ place.at → reader'.depth ≡ reader.depth
    → IsOkAnd (arguments_turn context given piece) (IsTurned text place reader' given.size false)
ends_is context text before place reader reader' given piece at is stray e came start end depth =
    let outside : eqb reader.depth 0 ≡ true = class_outside Ends _ _ _ reader.depth (λ h. cc) (λ h. cc) e in
    rw (turn_told context text before reader given piece Ends is stray e)
    (record { closes = refl; taken = refl; reads = closed_turn text before place reader reader' given piece false at is came start end (depth ∙ eqb-true reader.depth 0 outside) })

pub belongs_is : (context : Context) (text : List ℕ) (before place : Cursor) (reader : Reader) (given : Arguments) (piece : Piece) → IsPiece text before place piece → IsReader text before reader given
    → is_stray piece ≡ false → Belongs ≡ class_of (eqb reader.end reader.start.at) reader.depth piece
    → IsOkAnd (arguments_turn context given piece) (IsTurned text place (record reader { depth = brackets reader.depth piece; end = cond (is_space piece) reader.end place.at }) given.size false)
belongs_is context text before place reader given piece at is stray e =
    let kept : (is_empty given.next && is_space piece) ≡ false = ap (λ b. b && is_space piece) (sym (empty_is text before reader given is)) ∙ class_kept _ reader.depth piece e in
    rw (turn_told context text before reader given piece Belongs is stray e)
    (record { closes = refl; taken = refl; reads = added_turn text before place reader given piece at is kept })

pub nothing_read : (context : Context) (text : List ℕ) (first : Cursor) (reader : Reader) → IsWithin text first → reader.came.items ≡ [] → reader.start ≡ first → reader.end ≡ first.at → reader.depth ≡ 0 → IsSoFar context text first first reader
nothing_read context text first reader within came start end depth = record {
  given = no_arguments;
  reads = record {
    came = sym (ap (map (argument_pieces text)) came);
    inside = rw came (λ k d h. absurd (omega arith));
    begins = rw start within;
    reached = ap (left text) start;
    here = rw start (omega arith);
    ends = rw (start, end) (omega arith);
    some = λ h. absurd (false≢true (sym h));
    depth = depth;
    deep = rw depth (omega arith);
  };
  told = refl;
  behind = refl;
}

-- a turn of what was read so far
pub next_read : (context : Context) (text : List ℕ) (first before place : Cursor) (reader reader' : Reader) (piece : Piece) (so : IsSoFar context text first before reader) → left text before ≡ piece ∷ left text place
    → IsOkAnd (arguments_turn context so.given piece) (IsTurned text place reader' so.given.size false) → IsSoFar context text first place reader'
next_read context text first before place reader reader' piece so at turned = go (arguments_turn context so.given piece) refl turned where
  go : (told : Result Arguments Break) → arguments_turn context so.given piece ≡ told → IsOkAnd told (IsTurned text place reader' so.given.size false) → IsSoFar context text first place reader'
  go (Err broken) e t = absurd t
  go (Ok turn) e t = record {
    given = turn;
    reads = t.reads;
    told = sym (sym so.told ∙ ap (arguments_from context so.given) at ∙ rw (e, t.closes) refl);
    behind = behind_first (left text first) (left text place) so.given.size piece (sym so.behind ∙ at) ∙ ap (λ n. drop n (left text first)) (sym t.taken);
  }

-- the turn that closes the list
pub last_read : (context : Context) (text : List ℕ) (first before place : Cursor) (reader reader' : Reader) (piece : Piece) (so : IsSoFar context text first before reader) → left text before ≡ piece ∷ left text place
    → IsOkAnd (arguments_turn context so.given piece) (IsTurned text place reader' so.given.size true)
    → IsOkAnd (arguments_from context no_arguments (left text first)) (Gave text reader'.came.items (left text first) (left text place))
last_read context text first before place reader reader' piece so at turned = go (arguments_turn context so.given piece) refl turned where
  go : (told : Result Arguments Break) → arguments_turn context so.given piece ≡ told → IsOkAnd told (IsTurned text place reader' so.given.size true)
      → IsOkAnd (arguments_from context no_arguments (left text first)) (Gave text reader'.came.items (left text first) (left text place))
  go (Err broken) e t = absurd t
  go (Ok turn) e t =
      let whole : arguments_from context no_arguments (left text first) ≡ Ok turn = sym so.told ∙ ap (arguments_from context so.given) at ∙ rw (e, t.closes) refl in
      rw whole (record {
        texts = t.reads.came;
        inside = t.reads.inside;
        behind = behind_first (left text first) (left text place) so.given.size piece (sym so.behind ∙ at) ∙ ap (λ n. drop n (left text first)) (sym t.taken);
      })

-- a turn that is broken, or an end that comes too early
pub broken_read : (context : Context) (text : List ℕ) (first before place : Cursor) (reader : Reader) (piece : Piece) (stop : Stopped) (so : IsSoFar context text first before reader) → left text before ≡ piece ∷ left text place
    → Stops stop (arguments_turn context so.given piece) → Stops stop (arguments_from context no_arguments (left text first))
broken_read context text first before place reader piece stop so at s =
    stops_same stop _ _ (sym so.told ∙ ap (arguments_from context so.given) at) (stops_bind stop (arguments_turn context so.given piece) _ s)

pub ended_read : (context : Context) (text : List ℕ) (first place : Cursor) (reader : Reader) (so : IsSoFar context text first place reader) → left text place ≡ []
    → arguments_from context no_arguments (left text first) ≡ breaks 13 context.outermost
ended_read context text first place reader so end = sym so.told ∙ ap (arguments_from context so.given) end

-- the next piece stands between two places
pub is_piece : (text : List ℕ) (before behind : Cursor) (piece : Piece) → left text before ≡ piece ∷ left text behind → IsWithin text behind → piece.bytes ≡ slice_range text before.at behind.at → before.at < behind.at
    → IsPiece text before behind piece
is_piece text before behind piece first within bytes forward = record {
  first = first;
  within = within;
  forward = forward;
  size = omega (arith, ap length bytes, length-take (behind.at - before.at) (drop before.at text), length-drop before.at text, within.inside);
}
