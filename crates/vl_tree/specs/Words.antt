-- The leading words of parameters, ports and formals. A later member of a list without words of its own takes those before it
-- (IEEE 1364-2005, A.1.3 and A.2.7; 12.3.4).
use Rattle.std.specs.Prelude.{Bool, true, false, List, [], ◌∷◌, Option, Some, None}
use Rattle.vl_tree.specs.declared.modules.Direction.{Direction}
use Rattle.vl_tree.specs.declared.modules.Direction.TheVariants as direction
use Rattle.vl_tree.specs.declared.modules.Range.{Range}
use Rattle.vl_tree.specs.declared.modules.Pdecl.{Pdecl}
use Rattle.vl_tree.specs.declared.modules.Ptype.{Ptype}
use Rattle.vl_tree.specs.declared.modules.Ptype.TheVariants as ptype
use Rattle.vl_tree.specs.declared.modules.Port.{Port}
use Rattle.vl_tree.specs.declared.modules.Dir.{Dir}
use Rattle.vl_tree.specs.declared.modules.Dir.TheVariants as dir
use Rattle.vl_tree.specs.declared.routines.Formal.{Formal}
use Rattle.vl_tree.specs.declared.routines.Fdir.{Fdir}
use Rattle.vl_tree.specs.declared.routines.Fdir.TheVariants as fdir

-- a member's own words, or those before it
abbrev pub own_or : {W : Type 0} → Option W → Option W → Option W
own_or None before = before
own_or (Some words) before = Some words

-- the words that hold at each member of a list, where these stand before it
abbrev pub words_behind : {X W : Type 0} → (X → Option W) → Option W → List X → List (Option W)
words_behind own before [] = []
words_behind own before (x ∷ xs) = own_or (own x) before ∷ words_behind own (own_or (own x) before) xs

-- the words that hold at each parameter of a header
abbrev pub param_words : List Pdecl → List (Option Ptype)
param_words ps = words_behind (λ p. p.ptype) None ps

-- at each port
abbrev pub port_words : List Port → List (Option Dir)
port_words ps = words_behind (λ p. p.dir) None ps

-- at each formal of a list in parentheses
abbrev pub formal_words : List Formal → List (Option Fdir)
formal_words fs = words_behind (λ f. f.fdir) None fs

-- ---- what words say: the direction, `reg`, whether signed, the range, and whether it is an `integer`, which is signed and has 32 bits

abbrev pub ptype_signed : Ptype → Bool
ptype_signed (ptype.Vector at signed range) = signed
ptype_signed (ptype.Integer at) = true

abbrev pub ptype_range : Ptype → Option Range
ptype_range (ptype.Vector at signed range) = range
ptype_range (ptype.Integer at) = None

abbrev pub ptype_integer : Ptype → Bool
ptype_integer (ptype.Vector at signed range) = false
ptype_integer (ptype.Integer at) = true

abbrev pub dir_direction : Dir → Direction
dir_direction (dir.Net at d wire signed range) = d
dir_direction (dir.Reg at signed range) = direction.Output

abbrev pub dir_reg : Dir → Bool
dir_reg (dir.Net at d wire signed range) = false
dir_reg (dir.Reg at signed range) = true

abbrev pub dir_signed : Dir → Bool
dir_signed (dir.Net at d wire signed range) = signed
dir_signed (dir.Reg at signed range) = signed

abbrev pub dir_range : Dir → Option Range
dir_range (dir.Net at d wire signed range) = range
dir_range (dir.Reg at signed range) = range

abbrev pub fdir_direction : Fdir → Direction
fdir_direction (fdir.Vector at d reg signed range) = d
fdir_direction (fdir.Integer at d) = d

abbrev pub fdir_signed : Fdir → Bool
fdir_signed (fdir.Vector at d reg signed range) = signed
fdir_signed (fdir.Integer at d) = true

abbrev pub fdir_range : Fdir → Option Range
fdir_range (fdir.Vector at d reg signed range) = range
fdir_range (fdir.Integer at d) = None

abbrev pub fdir_integer : Fdir → Bool
fdir_integer (fdir.Vector at d reg signed range) = false
fdir_integer (fdir.Integer at d) = true
