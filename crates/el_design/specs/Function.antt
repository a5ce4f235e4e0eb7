-- The value of a function call: its body, run on its arguments in a store of its own (IEEE 1364-2005, 10.4).
use Rattle.std.specs.Prelude.{ℕ, zero, suc, ◌^◌, Bool, true, false, if◌then◌else◌, List, [], ◌∷◌, fold, length, set, slice_get, Some, None, zip}
use Rattle.xt_bits.specs.Word.{Word, word}
use Rattle.el_design.specs.Plain.{Expr, Statement, Null, Skip, Seq, Block, Assign, If, Case, Arm, For, While, Repeat, Forever, Wait, Enable, Disable, Host, ToVariable, FlatFunc, Flat}
use Rattle.el_design.specs.Store.{Store, empty_store, width_of, stored, put_all}
use Rattle.el_design.specs.Value.{Scene, value, is_up}
use Rattle.el_design.specs.Assign.{writes_of, has_label, count_of}

-- so many turns
abbrev pub times : {S : Type 0} → ℕ → (S → S) → S → S
times zero turn s = s
times (suc n) turn s = times n turn (turn s)

-- turns while the test holds, at most so many
abbrev pub while_up : {S : Type 0} → ℕ → (S → Bool) → (S → S) → S → S
while_up zero test turn s = s
while_up (suc n) test turn s = elim (test s) [ true ↦ while_up n test turn (turn s) | false ↦ s ]

-- a function reads no net
abbrev pub body_scene : (ℕ → List Word → Word) → Store → Scene
body_scene call store = record { call = call; nets = []; store = store }

abbrev pub assigned : Flat → (ℕ → List Word → Word) → ℕ → Expr → Store → Store
assigned d call v e store = let s = body_scene call store in put_all store (writes_of d s (ToVariable v) (value d s e))

-- The store after a statement of a function's body. A `for` of a design that breaks no rule has a test of its variable against a constant and adds or subtracts a constant,
-- so it ends within as many turns as its variable has values. A `while` takes no turn, since only one of the constant 0 is admitted. What else isn't admitted does nothing.
abbrev pub body_store : Flat → (ℕ → List Word → Word) → Statement → Store → Store
body_store d call Null store = store
body_store d call Skip store = store
body_store d call (Seq a b) store = body_store d call b (body_store d call a store)
body_store d call (Block at mark body) store = body_store d call body store
body_store d call (Assign at to e held) store = let s = body_scene call store in put_all store (writes_of d s to (value d s e))
body_store d call (If at test a b) store = if is_up (value d (body_scene call store) test) then body_store d call a store else body_store d call b store
body_store d call (Case at on arms) store = body_store d call arms store
body_store d call (Arm on labels body others) store = if has_label d (body_scene call store) on labels then body_store d call body store else body_store d call others store
body_store d call (For at v first test next body) store =
    while_up (2 ^ width_of d v) (λ st. is_up (value d (body_scene call st) test)) (λ st. assigned d call v next (body_store d call body st)) (assigned d call v first store)
body_store d call (Repeat at count body) store = times (count_of d (body_scene call store) count) (body_store d call body) store
body_store d call (While at test body) store = store
body_store d call (Forever at body) store = store
body_store d call (Wait at falling) store = store
body_store d call (Enable at t ins outs) store = store
body_store d call (Disable at m) store = store
body_store d call (Host at f ins result outs) store = store

-- an argument is an assignment to its formal
abbrev pub bound : Flat → Store → ℕ × Word → Store
bound d store formal = set store formal.0 (word (width_of d formal.0) formal.1.value ∷ [])

abbrev pub result_of_body : Flat → (ℕ → List Word → Word) → FlatFunc → List Word → Word
result_of_body d call f args =
    stored (body_store d call f.body (fold (bound d) (empty_store d) (zip f.ins args))) f.result 0 (width_of d f.result)

-- what the function of a number gives, where calls nest so deep at most; a call that has no value gives 0
abbrev pub call_to : Flat → ℕ → ℕ → List Word → Word
call_to d zero f args = word 1 0
call_to d (suc depth) f args = elim (slice_get d.funcs f) [ None ↦ word 1 0 | Some g ↦ result_of_body d (call_to d depth) g args ]

-- No function of a design that breaks no rule leads back to itself, so no chain of calls is longer than there are functions.
abbrev pub call_of : Flat → ℕ → List Word → Word
call_of d = call_to d (length d.funcs)
