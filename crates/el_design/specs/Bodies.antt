-- A function's body run by its structure, and the same run by the stack. All of it is this project's own.
use Rattle.std.specs.Prelude.{◌≡◌, ℕ, zero, suc, ◌^◌, Bool, true, false, List, [], ◌∷◌, Some, fold, zip, slice_get}
use Rattle.xt_bits.specs.Word.{Word}
use Rattle.el_design.specs.Plain.{Statement, Null, Skip, Seq, Block, Assign, If, Case, Arm, For, While, Repeat, FlatFunc, Flat}
use Rattle.el_design.specs.Store.{Store, width_of, put_all, empty_store}
use Rattle.el_design.specs.Value.{value, is_up}
use Rattle.el_design.specs.Assign.{has_label, count_of}
use Rattle.el_design.specs.Function.{body_scene, assigned, body_store, bound, call_of}
use Rattle.el_design.specs.Stack.{Work, Do, settle}
use Rattle.el_design.specs.Act.{Process, Acted, act}

-- a process that is no more than this stack
abbrev pub alone : List Work → Process
alone k = record { stack = k; updates = []; replies = []; calls = []; delays = [] }

-- so many events of a process that stands alone lead from a stack and a store to others
abbrev pub Events : Flat → (ℕ → List Word → Word) → ℕ → List Work → Store → List Work → Store → Type 0
Events d call zero k store end after = (k ≡ end) × (store ≡ after)
Events d call (suc n) k store end after =
    (a : Acted) × (act d (body_scene call store) (alone k) ≡ Some a) × Events d call n a.process.stack (put_all store a.writes) end after

-- a loop's test fails within so many turns, each of which is fine
abbrev pub EndsWithin : ℕ → (Store → Bool) → (Store → Type 0) → (Store → Store) → Store → Type 0
EndsWithin zero test Fine turn store = test store ≡ false
EndsWithin (suc n) test Fine turn store = test store ≡ true → Fine store × EndsWithin n test Fine turn (turn store)

-- so many turns are fine
abbrev pub Turns : ℕ → (Store → Type 0) → (Store → Store) → Store → Type 0
Turns zero Fine turn store = Unit {0}
Turns (suc n) Fine turn store = Fine store × Turns n Fine turn (turn store)

-- The statement is one that a function's body may hold, each `for` that is come to from this store ends within as many turns as its variable has values,
-- and the test of each such `while` fails.
-- Arms stand inside a `case` alone, where it is the arm that is chosen, or the default, that counts.
abbrev pub Ends : Flat → (ℕ → List Word → Word) → Statement → Bool → Store → Type 0
Ends d call Null in_case store = Unit {0}
Ends d call Skip in_case store = Unit {0}
Ends d call (Seq a b) in_case store = Ends d call a false store × Ends d call b false (body_store d call a store)
Ends d call (Block at mark body) in_case store = Ends d call body false store
Ends d call (Assign at to e held) in_case store = held ≡ false
Ends d call (If at test a b) in_case store =
    (is_up (value d (body_scene call store) test) ≡ true → Ends d call a false store) × (is_up (value d (body_scene call store) test) ≡ false → Ends d call b false store)
Ends d call (Case at on arms) in_case store = Ends d call arms true store
Ends d call (Arm on labels body others) true store =
    (has_label d (body_scene call store) on labels ≡ true → Ends d call body false store) × (has_label d (body_scene call store) on labels ≡ false → Ends d call others true store)
Ends d call (For at v first test next body) in_case store =
    EndsWithin (2 ^ width_of d v) (λ st. is_up (value d (body_scene call st) test)) (Ends d call body false) (λ st. assigned d call v next (body_store d call body st)) (assigned d call v first store)
Ends d call (While at test body) in_case store = is_up (value d (body_scene call store) test) ≡ false
Ends d call (Repeat at count body) in_case store = Turns (count_of d (body_scene call store) count) (Ends d call body false) (body_store d call body) store
Ends d call s in_case store = ⊥

-- In this design every function's body is such a one, whatever its arguments.
abbrev pub FunctionsEnd : Flat → Type 0
FunctionsEnd d = (f : ℕ) (g : FlatFunc) (args : List Word) → slice_get d.funcs f ≡ Some g → Ends d (call_of d) g.body false (fold (bound d) (empty_store d) (zip g.ins args))

-- The events of such a statement, taken off the stack one by one, come to its end with the store that its structure gives.
abbrev pub BodyRuns : Flat → (ℕ → List Word → Word) → Statement → List Work → Store → Type 0
BodyRuns d call s k store = Ends d call s false store → (n : ℕ) × Events d call n (settle (Do s ∷ k)) store (settle k) (body_store d call s store)
