-- The values of nodes, form by form. The operators are those of IEEE 1364-2005, 5.1; the choice of forms is this project's own.
use Rattle.std.specs.Prelude.{ℕ, ◌+◌, ◌-◌, false, true, List, [], ◌∷◌, ◌++◌, get_or, slice_index, fold, pos, if◌then◌else◌}
use Rattle.xt_bits.specs.Word as bits
use Rattle.xt_bits.specs.Word.{word, truth, vector, bit_of}
use Rattle.xt_bits.specs.Operators.{add_of, sub_of, mul_of, div_of, rem_of, eq_of, lt_of, and_of, or_of, xor_of, not_of, any_of, odd_of, shl_of, shr_of, sar_of, concat_of, select_of}
use Rattle.nt_core.specs.declared.netlist.Node.{Node}
use Rattle.nt_core.specs.declared.netlist.Op.{Op}
use Rattle.nt_core.specs.declared.netlist.Op.TheVariants.{Pin, Ack, Ret, Reg, Const, Word, Not, And, Or, Xor, Add, Sub, Mul, Div, Rem, SDiv, SRem, Shl, Shr, Sar, Eq, Lt, SLt, Parity, Choice, Concat, Slice, Copies}
use Rattle.nt_core.specs.Sources.{Sources}

-- the value of a node among those of all; one that there isn't is 0
abbrev pub value_at : List bits.Word → ℕ → bits.Word
value_at vs a = get_or vs a (word 1 0)

-- {T{A}}: each bit is the one bit of A (IEEE 1364-2005, 5.1.14)
abbrev pub copies_of : bits.Word → ℕ → bits.Word
copies_of a times = vector times (λ i. bit_of a (pos 0))

-- the value of a form, over the values of the earlier nodes
abbrev pub value_of : Sources → List bits.Word → Op → bits.Word
value_of s vs (Pin p w) = get_or s.inputs.row p (word w 0)
value_of s vs (Ack p) = truth (get_or s.inputs.acks p false)
value_of s vs (Ret p i w) = word w (slice_index (get_or s.inputs.items p []) i)
value_of s vs (Reg r w) = get_or s.state.registers r (word w 0)
value_of s vs (Const k) = k
value_of s vs (Word m a w) = get_or (get_or s.state.memories m []) (value_at vs a).value (word w 0)
value_of s vs (Not a) = not_of (value_at vs a)
value_of s vs (And a b) = and_of (value_at vs a) (value_at vs b)
value_of s vs (Or a b) = or_of (value_at vs a) (value_at vs b)
value_of s vs (Xor a b) = xor_of (value_at vs a) (value_at vs b)
value_of s vs (Add a b) = add_of (value_at vs a) (value_at vs b)
value_of s vs (Sub a b) = sub_of (value_at vs a) (value_at vs b)
value_of s vs (Mul a b) = mul_of (value_at vs a) (value_at vs b)
value_of s vs (Div a k) = div_of (value_at vs a) k false
value_of s vs (Rem a k) = rem_of (value_at vs a) k false
value_of s vs (SDiv a k) = div_of (value_at vs a) k true
value_of s vs (SRem a k) = rem_of (value_at vs a) k true
value_of s vs (Shl a b) = shl_of (value_at vs a) (value_at vs b).value
value_of s vs (Shr a b) = shr_of (value_at vs a) (value_at vs b).value
value_of s vs (Sar a b) = sar_of (value_at vs a) (value_at vs b).value
value_of s vs (Eq a b) = truth (eq_of (value_at vs a) (value_at vs b))
value_of s vs (Lt a b) = truth (lt_of (value_at vs a) (value_at vs b) false)
value_of s vs (SLt a b) = truth (lt_of (value_at vs a) (value_at vs b) true)
value_of s vs (Parity a) = truth (odd_of (value_at vs a))
value_of s vs (Choice a b c) = if any_of (value_at vs a) then value_at vs b else value_at vs c
value_of s vs (Concat a b) = concat_of (value_at vs a) (value_at vs b)
value_of s vs (Slice a high low) = select_of (value_at vs a) (pos low) (high - low + 1)
value_of s vs (Copies a times) = copies_of (value_at vs a) times

-- the values of all nodes, each over those of the nodes before it
abbrev pub values : List Node → Sources → List bits.Word
values nodes s = fold (λ vs n. vs ++ value_of s vs n.op ∷ []) [] nodes

-- the value of a node
abbrev pub node_value : List Node → Sources → ℕ → bits.Word
node_value nodes s a = value_at (values nodes s) a
