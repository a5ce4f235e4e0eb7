-- What variables hold, and what a write does to it (IEEE 1364-2005, 4.2, 4.9, 5.2 and 9.2.1; what is out of range is this project's own).
use Rattle.std.specs.Prelude.{ℕ, ◌+◌, ◌==◌, if◌then◌else◌, max, List, [], ◌∷◌, map, fold, get_or, set, replicate, slice_get, ℤ, pos, negsuc, ◌-ℤ◌, option_map, unwrap_or}
use Rattle.xt_bits.specs.Word.{Word, word}
use Rattle.xt_bits.specs.Operators.{select_of, replace_of}
use Rattle.el_design.specs.declared.designs.Var.{Var}
use Rattle.el_design.specs.Plain.{Flat}

-- per variable its words: all of a memory, from its lowest index on, and one of any other
abbrev pub Store : Type 0
Store = List (List Word)

-- a fact of a variable's declaration, 0 where there is no such variable
abbrev pub declared : Flat → ℕ → (Var → ℕ) → ℕ
declared d v fact = unwrap_or (option_map fact (slice_get d.vars v)) 0

abbrev pub width_of : Flat → ℕ → ℕ
width_of d v = declared d v (λ x. x.width)

-- what each word of a variable holds at the start: its declared value, and 0 in a memory, which has none; this is this project's own
abbrev pub start_word : Var → Word
start_word v = if v.words == 0 then v.start else word v.width 0

abbrev pub start_store : Flat → Store
start_store d = map (λ v. replicate (max 1 v.words) (start_word v)) d.vars

-- each variable at 0
abbrev pub empty_store : Flat → Store
empty_store d = map (λ v. replicate (max 1 v.words) (word v.width 0)) d.vars

-- the word at a place of a variable; 0 where there is none, which is this project's own
abbrev pub stored : Store → ℕ → ℕ → ℕ → Word
stored store v place w = get_or (get_or store v []) place (word w 0)

-- the place of a word that many above the lowest; `none`, which is no place, where it lies below
abbrev pub above : ℕ → ℤ → ℕ
above none (pos k) = k
above none (negsuc k) = none

-- the place of an index in a memory, counted from its lowest index; past the end where the index is out of range
abbrev pub place_of : Flat → ℕ → ℤ → ℕ
place_of d v index = above (declared d v (λ x. x.words)) (index -ℤ pos (declared d v (λ x. x.low)))

-- where bits are written: a whole word of a variable, or so many of its bits from bit `low` on
pub data Spot : Type 0 where
  Whole : ℕ → ℕ → ℕ → Spot
  Within : ℕ → ℕ → ℤ → ℕ → Spot

abbrev pub spot_variable : Spot → ℕ
spot_variable (Whole v place w) = v
spot_variable (Within v place low w) = v

abbrev pub spot_place : Spot → ℕ
spot_place (Whole v place w) = place
spot_place (Within v place low w) = place

abbrev pub spot_width : Spot → ℕ
spot_width (Whole v place w) = w
spot_width (Within v place low w) = w

pub record Write : Type 0 where
  pub spot : Spot
  pub bits : Word

abbrev pub total_width : List Spot → ℕ
total_width [] = 0
total_width (p ∷ ps) = spot_width p + total_width ps

-- a value cut up for the parts of a concatenation, the high bits for the leftmost (IEEE 1364-2005, 5.1.14); the order of storing is this project's own
abbrev pub writes_to : List Spot → Word → List Write
writes_to [] x = []
writes_to (p ∷ ps) x = record { spot = p; bits = select_of x (pos (total_width ps)) (spot_width p) } ∷ writes_to ps x

-- the word after a write
abbrev pub written : Spot → Word → Word → Word
written (Whole v place w) bits old = bits
written (Within v place low w) bits old = replace_of old low bits

-- a write out of range does nothing, which is this project's own
abbrev pub put_write : Store → Write → Store
put_write store w =
    let words = get_or store (spot_variable w.spot) [] in
    let place = spot_place w.spot in
    set store (spot_variable w.spot) (set words place (written w.spot w.bits (get_or words place w.bits)))

-- the writes in order
abbrev pub put_all : Store → List Write → Store
put_all store ws = fold put_write store ws
