-- A statement stands in another exactly where it is in the list of its statements.
use Rattle.std.proofs.Common.{◌≡◌, ◌⊎◌, inl, inr, ℕ, List, [], ◌∷◌, ◌++◌, Some, None, slice_get, subst}
use Rattle.std.specs.Prelude.{Contains}
use Rattle.std.proofs.lemmas.List.Elements.{Contains-append_left, Contains-append_right, Contains-append_cases}
use Rattle.el_design.specs.Plain.{Statement, Null, Skip, Seq, Block, Assign, If, Case, Arm, For, While, Repeat, Forever, Wait, Enable, Disable, Host, FlatTask, Flat}
use Rattle.el_design.specs.InPlace.{Stands, itself, in_first, in_rest, in_block, in_named, in_then, in_else, in_case, in_arm, in_others, in_for, in_while, in_repeat, in_forever, in_task, InPlace, in_text, in_body, HasInPlace, Holds, Meets}
use Rattle.el_design.specs.Turns.{stored_by, IsFreeOf}
use Rattle.el_design.proofs.OrderLists.{con_nil, con_head, con_tail, con_cases}
use Rattle.el_design.proofs.Places.{onward}
use Rattle.el_design.specs.Texts.{texts}

itself_in : (s : Statement) → Contains (texts s) s
itself_in Null = con_head Null []
itself_in Skip = con_head Skip []
itself_in (Seq a b) = con_head (Seq a b) (texts a ++ texts b)
itself_in (Block at mark body) = con_head (Block at mark body) (texts body)
itself_in (Assign at to e held) = con_head (Assign at to e held) []
itself_in (If at test a b) = con_head (If at test a b) (texts a ++ texts b)
itself_in (Case at on arms) = con_head (Case at on arms) (texts arms)
itself_in (Arm on labels body others) = con_head (Arm on labels body others) (texts body ++ texts others)
itself_in (For at v first test next body) = con_head (For at v first test next body) (texts body)
itself_in (While at test body) = con_head (While at test body) (texts body)
itself_in (Repeat at count body) = con_head (Repeat at count body) (texts body)
itself_in (Forever at body) = con_head (Forever at body) (texts body)
itself_in (Wait at falling) = con_head (Wait at falling) []
itself_in (Enable at t ins outs) = con_head (Enable at t ins outs) []
itself_in (Disable at m) = con_head (Disable at m) []
itself_in (Host at f ins result outs) = con_head (Host at f ins result outs) []

left_in : (s x : Statement) (xs ys : List Statement) → Contains xs x → Contains (s ∷ xs ++ ys) x
left_in s x xs ys c = con_tail s x (xs ++ ys) (Contains-append_left xs ys x c)

right_in : (s x : Statement) (xs ys : List Statement) → Contains ys x → Contains (s ∷ xs ++ ys) x
right_in s x xs ys c = con_tail s x (xs ++ ys) (Contains-append_right xs ys x c)

no_task : {X : Type 0} (t : ℕ) (task : FlatTask) → slice_get [] t ≡ Some task → X
no_task t task e = cc

pub stands_in : {marks o : List ℕ} (s x : Statement) → Stands [] marks s o x → Contains (texts s) x
stands_in s x itself = itself_in s
stands_in (Seq a b) x (in_first h) = left_in _ x (texts a) (texts b) (stands_in a x h)
stands_in (Seq a b) x (in_rest h) = right_in _ x (texts a) (texts b) (stands_in b x h)
stands_in (Block at None body) x (in_block h) = con_tail _ x (texts body) (stands_in body x h)
stands_in (Block at (Some m) body) x (in_named h) = con_tail _ x (texts body) (stands_in body x h)
stands_in (If at test a b) x (in_then h) = left_in _ x (texts a) (texts b) (stands_in a x h)
stands_in (If at test a b) x (in_else h) = right_in _ x (texts a) (texts b) (stands_in b x h)
stands_in (Case at on arms) x (in_case h) = con_tail _ x (texts arms) (stands_in arms x h)
stands_in (Arm on labels body others) x (in_arm h) = left_in _ x (texts body) (texts others) (stands_in body x h)
stands_in (Arm on labels body others) x (in_others h) = right_in _ x (texts body) (texts others) (stands_in others x h)
stands_in (For at v first test next body) x (in_for h) = con_tail _ x (texts body) (stands_in body x h)
stands_in (While at test body) x (in_while h) = con_tail _ x (texts body) (stands_in body x h)
stands_in (Repeat at count body) x (in_repeat h) = con_tail _ x (texts body) (stands_in body x h)
stands_in (Forever at body) x (in_forever h) = con_tail _ x (texts body) (stands_in body x h)
stands_in (Enable at t ins outs) x (in_task {task = task} e h) = no_task t task e

-- where a statement stands in another, whatever is open round it
abbrev Found : List FlatTask → List ℕ → Statement → Statement → Type 0
Found ts marks s x = (o : List ℕ) × Stands ts marks s o x

only : (ts : List FlatTask) (marks : List ℕ) (s x : Statement) → Contains (s ∷ []) x → Found ts marks s x
only ts marks s x c = go (con_cases s x [] c)
  where
    go : (s ≡ x) ⊎ Contains [] x → Found ts marks s x
    go (inl e) = subst (Found ts marks s) e (marks, itself)
    go (inr h) = absurd (con_nil x h)

under : (ts : List FlatTask) (marks : List ℕ) (s x : Statement) (xs : List Statement) → (Contains xs x → Found ts marks s x) → Contains (s ∷ xs) x → Found ts marks s x
under ts marks s x xs f c = go (con_cases s x xs c)
  where
    go : (s ≡ x) ⊎ Contains xs x → Found ts marks s x
    go (inl e) = subst (Found ts marks s) e (marks, itself)
    go (inr h) = f h

either : (ts : List FlatTask) (marks : List ℕ) (s x : Statement) (xs ys : List Statement) → (Contains xs x → Found ts marks s x) → (Contains ys x → Found ts marks s x) → Contains (s ∷ xs ++ ys) x → Found ts marks s x
either ts marks s x xs ys f g c = under ts marks s x (xs ++ ys) (λ h. go (Contains-append_cases xs ys x h)) c
  where
    go : Contains xs x ⊎ Contains ys x → Found ts marks s x
    go (inl h) = f h
    go (inr h) = g h

pub in_stands : (ts : List FlatTask) (marks : List ℕ) (s x : Statement) → Contains (texts s) x → Found ts marks s x
in_stands ts marks Null x c = only ts marks Null x c
in_stands ts marks Skip x c = only ts marks Skip x c
in_stands ts marks (Seq a b) x c = either ts marks (Seq a b) x (texts a) (texts b) (λ h. let f = in_stands ts marks a x h in (f.0, in_first f.1)) (λ h. let f = in_stands ts marks b x h in (f.0, in_rest f.1)) c
in_stands ts marks (Block at None body) x c = under ts marks (Block at None body) x (texts body) (λ h. let f = in_stands ts marks body x h in (f.0, in_block f.1)) c
in_stands ts marks (Block at (Some m) body) x c = under ts marks (Block at (Some m) body) x (texts body) (λ h. let f = in_stands ts (m ∷ marks) body x h in (f.0, in_named f.1)) c
in_stands ts marks (Assign at to e held) x c = only ts marks (Assign at to e held) x c
in_stands ts marks (If at test a b) x c = either ts marks (If at test a b) x (texts a) (texts b) (λ h. let f = in_stands ts marks a x h in (f.0, in_then f.1)) (λ h. let f = in_stands ts marks b x h in (f.0, in_else f.1)) c
in_stands ts marks (Case at on arms) x c = under ts marks (Case at on arms) x (texts arms) (λ h. let f = in_stands ts marks arms x h in (f.0, in_case f.1)) c
in_stands ts marks (Arm on labels body others) x c = either ts marks (Arm on labels body others) x (texts body) (texts others) (λ h. let f = in_stands ts marks body x h in (f.0, in_arm f.1)) (λ h. let f = in_stands ts marks others x h in (f.0, in_others f.1)) c
in_stands ts marks (For at v first test next body) x c = under ts marks (For at v first test next body) x (texts body) (λ h. let f = in_stands ts marks body x h in (f.0, in_for f.1)) c
in_stands ts marks (While at test body) x c = under ts marks (While at test body) x (texts body) (λ h. let f = in_stands ts marks body x h in (f.0, in_while f.1)) c
in_stands ts marks (Repeat at count body) x c = under ts marks (Repeat at count body) x (texts body) (λ h. let f = in_stands ts marks body x h in (f.0, in_repeat f.1)) c
in_stands ts marks (Forever at body) x c = under ts marks (Forever at body) x (texts body) (λ h. let f = in_stands ts marks body x h in (f.0, in_forever f.1)) c
in_stands ts marks (Wait at falling) x c = only ts marks (Wait at falling) x c
in_stands ts marks (Enable at t ins outs) x c = only ts marks (Enable at t ins outs) x c
in_stands ts marks (Disable at m) x c = only ts marks (Disable at m) x c
in_stands ts marks (Host at f ins result outs) x c = only ts marks (Host at f ins result outs) x c

-- a text holds exactly the statements of its list
pub holds_is : (s x : Statement) → (Holds s x → Contains (texts s) x) × (Contains (texts s) x → Holds s x)
holds_is s x = (λ h. stands_in s x h.1, λ c. in_stands [] [] s x c)

-- ---- in place

lift : {ts : List FlatTask} {x : Statement} (a s : Statement) → ((y : Statement) → Contains (texts a) y → Contains (texts s) y) → InPlace ts x a → InPlace ts x s
lift a s f (in_text c) = in_text (f _ c)
lift a s f (in_body c e h) = in_body (f _ c) e h

pub stands_in_place : {ts : List FlatTask} {marks o : List ℕ} (s x : Statement) → Stands ts marks s o x → InPlace ts x s
stands_in_place s x itself = in_text (itself_in s)
stands_in_place (Seq a b) x (in_first h) = lift a (Seq a b) (λ y c. left_in _ y (texts a) (texts b) c) (stands_in_place a x h)
stands_in_place (Seq a b) x (in_rest h) = lift b (Seq a b) (λ y c. right_in _ y (texts a) (texts b) c) (stands_in_place b x h)
stands_in_place (Block at None body) x (in_block h) = lift body (Block at None body) (λ y c. con_tail _ y (texts body) c) (stands_in_place body x h)
stands_in_place (Block at (Some m) body) x (in_named h) = lift body (Block at (Some m) body) (λ y c. con_tail _ y (texts body) c) (stands_in_place body x h)
stands_in_place (If at test a b) x (in_then h) = lift a (If at test a b) (λ y c. left_in _ y (texts a) (texts b) c) (stands_in_place a x h)
stands_in_place (If at test a b) x (in_else h) = lift b (If at test a b) (λ y c. right_in _ y (texts a) (texts b) c) (stands_in_place b x h)
stands_in_place (Case at on arms) x (in_case h) = lift arms (Case at on arms) (λ y c. con_tail _ y (texts arms) c) (stands_in_place arms x h)
stands_in_place (Arm on labels body others) x (in_arm h) = lift body (Arm on labels body others) (λ y c. left_in _ y (texts body) (texts others) c) (stands_in_place body x h)
stands_in_place (Arm on labels body others) x (in_others h) = lift others (Arm on labels body others) (λ y c. right_in _ y (texts body) (texts others) c) (stands_in_place others x h)
stands_in_place (For at v first test next body) x (in_for h) = lift body (For at v first test next body) (λ y c. con_tail _ y (texts body) c) (stands_in_place body x h)
stands_in_place (While at test body) x (in_while h) = lift body (While at test body) (λ y c. con_tail _ y (texts body) c) (stands_in_place body x h)
stands_in_place (Repeat at count body) x (in_repeat h) = lift body (Repeat at count body) (λ y c. con_tail _ y (texts body) c) (stands_in_place body x h)
stands_in_place (Forever at body) x (in_forever h) = lift body (Forever at body) (λ y c. con_tail _ y (texts body) c) (stands_in_place body x h)
stands_in_place (Enable at t ins outs) x (in_task {task = task} e h) = in_body (con_head (Enable at t ins outs) []) e (stands_in_place task.body x h)

pub in_place_stands : {ts : List FlatTask} {x : Statement} (marks : List ℕ) (s : Statement) → InPlace ts x s → Found ts marks s x
in_place_stands {ts = ts} {x = x} marks s (in_text c) = in_stands ts marks s x c
in_place_stands {ts = ts} {x = x} marks s (in_body {at = at} {t = t} {ins = ins} {outs = outs} {task = task} c e h) =
    let f = in_stands ts marks s (Enable at t ins outs) c in
    let g = in_place_stands (task.mark ∷ f.0) task.body h in
    (g.0, onward f.1 (in_task e g.1))

-- what a process meets, with whatever marks open, it has in place
pub met_in_place : {d : Flat} {p : ℕ} {marks : List ℕ} {x : Statement} → Meets d p marks x → HasInPlace d p x
met_in_place {x = x} m = record { process = m.process; is = m.is; there = stands_in_place m.process.body x m.stands }

-- what it has in place, it meets
pub in_place_met : {d : Flat} {p : ℕ} {x : Statement} → HasInPlace d p x → (marks : List ℕ) × Meets d p marks x
in_place_met h = let f = in_place_stands [] h.process.body h.there in (f.0, record { process = h.process; is = h.is; stands = f.1 })

-- a variable to which no statement of a body in place stores is stored to by none that stands there
pub free_met : (d : Flat) (v : ℕ) (body : Statement) → IsFreeOf d v body → {marks o : List ℕ} (x : Statement) → Stands d.tasks marks body o x → Contains (stored_by d x) v → ⊥
free_met d v body f x st c = f x (stands_in_place body x st) c

pub free_of : (d : Flat) (v : ℕ) (body : Statement) → ((marks o : List ℕ) (x : Statement) → Stands d.tasks marks body o x → Contains (stored_by d x) v → ⊥) → IsFreeOf d v body
free_of d v body f x h c = let g = in_place_stands [] body h in f [] g.0 x g.1 c
