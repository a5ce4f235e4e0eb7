-- Laws of calls and sizes: what stands at a call or an enable is what its body is, in a design in which no task or function leads back to itself.
-- The value of a call is IEEE 1364-2005, 10.4; sizes, and the depth to which calls nest, are this project's own.
use Rattle.std.specs.Prelude.{◌≡◌, ◌+◌, ℕ, List, ◌∷◌, [], Some, slice_get, length}
use Rattle.xt_base.specs.declared.refusals.Place.{Place}
use Rattle.xt_bits.specs.Word.{Word}
use Rattle.el_design.specs.Plain.{Expr, Lvalue, Statement, Enable, FlatTask, FlatFunc, Flat}
use Rattle.el_design.specs.Function.{result_of_body, call_to, call_of}
use Rattle.el_design.specs.Calls.{Chain}
use Rattle.el_design.specs.Sizes.{exprs_size, targets_size, size_of, in_place, Stopping, stops_in, stopping}

-- the value of a call is what the function's body gives of its arguments, with all calls in it at their values
abbrev pub CallsAreBodies : Flat → Type 0
CallsAreBodies d = (f : ℕ) (g : FlatFunc) (args : List Word) → slice_get d.funcs f ≡ Some g → call_of d f args ≡ result_of_body d (call_of d) g args

-- where no chain of n calls begins in the function's body, calls that nest n deep give its value
abbrev pub DeepCallsAgree : Flat → Type 0
DeepCallsAgree d =
    (f n : ℕ) (g : FlatFunc) (args : List Word) → slice_get d.funcs f ≡ Some g → (Chain d n g.body → ⊥) → call_to d n f args ≡ call_of d f args

-- an enable counts the task's body in place, with the task's mark open round it
abbrev pub EnablesCountBodies : Flat → Type 0
EnablesCountBodies d =
    (times : List ℕ → Statement → ℕ) (marks : List ℕ) (at : Place) (t : ℕ) (ins : List Expr) (outs : List Lvalue) (task : FlatTask) → slice_get d.tasks t ≡ Some task →
    let c = in_place d times in size_of c marks (Enable at t ins outs) ≡ 2 + exprs_size c.calls ins + targets_size c.calls outs + size_of c (task.mark ∷ marks) task.body

-- a call counts the function's body
abbrev pub CallsCountBodies : Flat → Type 0
CallsCountBodies d =
    (times : List ℕ → Statement → ℕ) (f : ℕ) (g : FlatFunc) → slice_get d.funcs f ≡ Some g → let c = in_place d times in c.calls f ≡ size_of c [] g.body

-- an enable stops where the task's body does
abbrev pub stops_in_place : Flat → (List ℕ → Statement → ℕ) → Stopping
stops_in_place d often = stopping d often (length d.tasks)

abbrev pub EnablesStopInBodies : Flat → Type 0
EnablesStopInBodies d =
    (often : List ℕ → Statement → ℕ) (marks : List ℕ) (at : Place) (t : ℕ) (ins : List Expr) (outs : List Lvalue) (task : FlatTask) → slice_get d.tasks t ≡ Some task →
    stops_in (stops_in_place d often) marks (Enable at t ins outs) ≡ stops_in (stops_in_place d often) (task.mark ∷ marks) task.body
