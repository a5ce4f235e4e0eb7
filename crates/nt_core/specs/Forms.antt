-- The forms of nodes: the width that each gives, and what its operands have to be. All of it is this project's own.
use Rattle.std.specs.Prelude.{◌≡◌, ◌≢◌, ℕ, ◌+◌, ◌-◌, ◌<◌, ◌≤◌, List, [], ◌∷◌, map, length, slice_index, Option, Some, None, IfSome}
use Rattle.xt_base.specs.declared.TheConstants.{MAX_WIDTH}
use Rattle.xt_bits.specs.Word.{IsKept}
use Rattle.xt_bits.specs.Word as bits
use Rattle.nt_core.specs.declared.netlist.Node.{Node}
use Rattle.nt_core.specs.declared.netlist.Op.{Op}
use Rattle.nt_core.specs.declared.netlist.Op.TheVariants.{Pin, Ack, Ret, Reg, Const, Word, Not, And, Or, Xor, Add, Sub, Mul, Div, Rem, SDiv, SRem, Shl, Shr, Sar, Eq, Lt, SLt, Parity, Choice, Concat, Slice, Copies}

-- a width is in range, in bits
abbrev pub IsWidth : ℕ → Type 0
IsWidth w = (1 ≤ w) × (w ≤ MAX_WIDTH)

-- the widths of nodes, by their number
abbrev pub widths : List Node → List ℕ
widths nodes = map (λ n. n.width) nodes

-- the width that a form gives over earlier nodes of these widths, in bits
abbrev pub form_width : List ℕ → Op → ℕ
form_width ws (Pin p w) = w
form_width ws (Ack p) = 1
form_width ws (Ret p i w) = w
form_width ws (Reg r w) = w
form_width ws (Const k) = k.width
form_width ws (Word m a w) = w
form_width ws (Not a) = slice_index ws a
form_width ws (And a b) = slice_index ws a
form_width ws (Or a b) = slice_index ws a
form_width ws (Xor a b) = slice_index ws a
form_width ws (Add a b) = slice_index ws a
form_width ws (Sub a b) = slice_index ws a
form_width ws (Mul a b) = slice_index ws a
form_width ws (Div a k) = slice_index ws a
form_width ws (Rem a k) = slice_index ws a
form_width ws (SDiv a k) = slice_index ws a
form_width ws (SRem a k) = slice_index ws a
form_width ws (Shl a b) = slice_index ws a
form_width ws (Shr a b) = slice_index ws a
form_width ws (Sar a b) = slice_index ws a
form_width ws (Eq a b) = 1
form_width ws (Lt a b) = 1
form_width ws (SLt a b) = 1
form_width ws (Parity a) = 1
form_width ws (Choice a b c) = slice_index ws b
form_width ws (Concat a b) = slice_index ws a + slice_index ws b
form_width ws (Slice a high low) = high - low + 1
form_width ws (Copies a times) = times

-- the nodes that a form reads
abbrev pub operands : Op → List ℕ
operands (Word m a w) = a ∷ []
operands (Not a) = a ∷ []
operands (And a b) = a ∷ b ∷ []
operands (Or a b) = a ∷ b ∷ []
operands (Xor a b) = a ∷ b ∷ []
operands (Add a b) = a ∷ b ∷ []
operands (Sub a b) = a ∷ b ∷ []
operands (Mul a b) = a ∷ b ∷ []
operands (Div a k) = a ∷ []
operands (Rem a k) = a ∷ []
operands (SDiv a k) = a ∷ []
operands (SRem a k) = a ∷ []
operands (Shl a b) = a ∷ b ∷ []
operands (Shr a b) = a ∷ b ∷ []
operands (Sar a b) = a ∷ b ∷ []
operands (Eq a b) = a ∷ b ∷ []
operands (Lt a b) = a ∷ b ∷ []
operands (SLt a b) = a ∷ b ∷ []
operands (Parity a) = a ∷ []
operands (Choice a b c) = a ∷ b ∷ c ∷ []
operands (Concat a b) = a ∷ b ∷ []
operands (Slice a high low) = a ∷ []
operands (Copies a times) = a ∷ []
operands _ = []

-- two earlier nodes of one width
abbrev pub AreAlike : List ℕ → ℕ → ℕ → Type 0
AreAlike ws a b = (a < length ws) × (b < length ws) × (slice_index ws a ≡ slice_index ws b)

-- an earlier node, and a constant of its width that isn't 0
abbrev pub CanBeDivided : List ℕ → ℕ → bits.Word → Type 0
CanBeDivided ws a k = (a < length ws) × (k.width ≡ slice_index ws a) × (k.value ≢ 0)

-- the operands of a form are earlier nodes of fitting widths; where a form has a width of its own, it is in range; a constant's value is asked of
-- the node
abbrev pub HasOperands : List ℕ → Op → Type 0
HasOperands ws (Pin p w) = IsWidth w
HasOperands ws (Ack p) = Unit {0}
HasOperands ws (Ret p i w) = IsWidth w
HasOperands ws (Reg r w) = IsWidth w
HasOperands ws (Const k) = Unit {0}
HasOperands ws (Word m a w) = (a < length ws) × IsWidth w
HasOperands ws (Not a) = a < length ws
HasOperands ws (And a b) = AreAlike ws a b
HasOperands ws (Or a b) = AreAlike ws a b
HasOperands ws (Xor a b) = AreAlike ws a b
HasOperands ws (Add a b) = AreAlike ws a b
HasOperands ws (Sub a b) = AreAlike ws a b
HasOperands ws (Mul a b) = AreAlike ws a b
HasOperands ws (Div a k) = CanBeDivided ws a k
HasOperands ws (Rem a k) = CanBeDivided ws a k
HasOperands ws (SDiv a k) = CanBeDivided ws a k
HasOperands ws (SRem a k) = CanBeDivided ws a k
HasOperands ws (Shl a b) = (a < length ws) × (b < length ws)
HasOperands ws (Shr a b) = (a < length ws) × (b < length ws)
HasOperands ws (Sar a b) = (a < length ws) × (b < length ws)
HasOperands ws (Eq a b) = AreAlike ws a b
HasOperands ws (Lt a b) = AreAlike ws a b
HasOperands ws (SLt a b) = AreAlike ws a b
HasOperands ws (Parity a) = a < length ws
HasOperands ws (Choice a b c) = (a < length ws) × (slice_index ws a ≡ 1) × AreAlike ws b c
HasOperands ws (Concat a b) = (a < length ws) × (b < length ws) × (slice_index ws a + slice_index ws b ≤ MAX_WIDTH)
HasOperands ws (Slice a high low) = (a < length ws) × (2 ≤ slice_index ws a) × (low ≤ high) × (high < slice_index ws a)
HasOperands ws (Copies a times) = (a < length ws) × (slice_index ws a ≡ 1) × IsWidth times

-- the constant in a form
abbrev pub constant_of : Op → Option bits.Word
constant_of (Const k) = Some k
constant_of (Div a k) = Some k
constant_of (Rem a k) = Some k
constant_of (SDiv a k) = Some k
constant_of (SRem a k) = Some k
constant_of _ = None

-- a node stands after nodes of these widths: its operands fit, its width is its form's, and its constant is in range
pub record IsNode (ws : List ℕ) (n : Node) : Type 0 where
  pub operands : HasOperands ws n.op
  pub width : n.width ≡ form_width ws n.op
  pub constant : IfSome (constant_of n.op) (λ k. IsKept k.width k.value)
