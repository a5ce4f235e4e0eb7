-- What an assignment writes (IEEE 1364-2005, 9.2), and what a test, a choice of a `case` and a count come to (9.4 to 9.6).
use Rattle.std.specs.Prelude.{ℕ, suc, ◌-◌, Bool, if◌then◌else◌, List, [], ◌∷◌, ◌++◌, ℤ, pos, negsuc, ◌-ℤ◌}
use Rattle.std.specs.List.{list_any}
use Rattle.xt_bits.specs.Word.{Word, integer_of}
use Rattle.xt_bits.specs.Operators.{eq_of, extend_of}
use Rattle.el_design.specs.Plain.{Expr, Range, Bit, Part, Up, Down, Lvalue, ToVariable, ToPart, ToWord, ToWordPart, Both, Nowhere, Statement, Arm, Flat}
use Rattle.el_design.specs.Store.{declared, width_of, place_of, Spot, Whole, Within, Write, total_width, writes_to, put_all}
use Rattle.el_design.specs.Value.{Scene, value, lowest, is_signed}

abbrev pub range_width : Range → ℕ
range_width (Bit e) = 1
range_width (Part high low) = suc high - low
range_width (Up e w) = w
range_width (Down e w) = w

-- the bit of the word at which a range of a variable begins
abbrev pub range_low : Flat → Scene → ℕ → Range → ℤ
range_low d s v r = lowest d s r -ℤ pos (declared d v (λ x. x.lsb))

abbrev pub place_at : Flat → Scene → ℕ → Expr → ℕ
place_at d s v i = place_of d v (integer_of (value d s i) (is_signed i))

-- the spots of a target, from left to right, with all its indexes evaluated before any is stored, which is this project's own
abbrev pub spots : Flat → Scene → Lvalue → List Spot
spots d s (ToVariable v) = Whole v 0 (width_of d v) ∷ []
spots d s (ToPart v r) = Within v 0 (range_low d s v r) (range_width r) ∷ []
spots d s (ToWord v i) = Whole v (place_at d s v i) (width_of d v) ∷ []
spots d s (ToWordPart v i r) = Within v (place_at d s v i) (range_low d s v r) (range_width r) ∷ []
spots d s (Both a b) = spots d s a ++ spots d s b
spots d s Nowhere = []

-- the writes of a value to a target: what doesn't fit is cut
abbrev pub writes_of : Flat → Scene → Lvalue → Word → List Write
writes_of d s t x = writes_to (spots d s t) x

-- the same of a value that has its own width and sign, as an output argument has: it is extended by its sign, or cut (IEEE 1364-2005, 5.5.3 and 10.2.2)
abbrev pub copies_to : Flat → Scene → Lvalue → Word → Bool → List Write
copies_to d s t x signed = let ps = spots d s t in writes_to ps (extend_of x (total_width ps) signed)

abbrev pub after : Scene → List Write → Scene
after s ws = record s { store = put_all s.store ws }

-- the first arm with an equal label, else the default (IEEE 1364-2005, 9.5)
abbrev pub has_label : Flat → Scene → Expr → List Expr → Bool
has_label d s on labels = list_any (λ l. eq_of (value d s on) (value d s l)) labels

abbrev pub arm_chosen : Flat → Scene → Statement → Statement
arm_chosen d s (Arm on labels body others) = if has_label d s on labels then body else arm_chosen d s others
arm_chosen d s other = other

-- the turns of a `repeat`: none where its count is negative, which is this project's own
abbrev pub natural : ℤ → ℕ
natural (pos n) = n
natural (negsuc n) = 0

abbrev pub count_of : Flat → Scene → Expr → ℕ
count_of d s e = natural (integer_of (value d s e) (is_signed e))
