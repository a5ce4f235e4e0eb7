-- Steps that are no events, and the stack that `settle` gives.
use Rattle.std.proofs.Common.{◌≡◌, ◌⊎◌, inl, inr, ℕ, zero, suc, true, ◌&&◌, List, [], ◌∷◌, Some, None, refl, sym, ◌∙◌, ap, subst}
use Rattle.el_design.specs.Plain.{Statement, Null, Skip, Seq, Block, Assign, If, Case, Arm, For, While, Repeat, Forever, Wait, Enable, Disable, Host}
use Rattle.el_design.specs.Stack.{Work, Do, End, Return, Test, Step, Turns, Await, quiet_step, IsStill, enter, settle}
use Rattle.el_design.specs.Laws.{QuietSteps, is_nothing, is_spinning, StacksSettle}

abbrev Comes : List Work → List Work → Type 0
Comes k end = (n : ℕ) × QuietSteps n k end

first : (k mid end : List Work) → quiet_step k ≡ Some mid → Comes mid end → Comes k end
first k mid end e c = (suc c.0, (mid, e, c.1))

enter_comes : (s : Statement) (below still : List Work) → Comes below still → Comes (Do s ∷ below) (enter s below still)
enter_comes Null below still c = first _ below still refl c
enter_comes Skip below still c = first _ below still refl c
enter_comes (Seq a b) below still c = first _ (Do a ∷ Do b ∷ below) _ refl (enter_comes a (Do b ∷ below) (enter b below still) (enter_comes b below still c))
enter_comes (Block at None body) below still c = first _ (Do body ∷ below) _ refl (enter_comes body below still c)
enter_comes (Block at (Some m) body) below still c = first _ (Do body ∷ End m ∷ below) _ refl (enter_comes body (End m ∷ below) still (first _ below still refl c))
enter_comes (Forever at body) below still c = first _ (Do body ∷ Do (Forever at body) ∷ below) _ refl (enter_comes body (Do (Forever at body) ∷ below) _ (zero, refl))
enter_comes (Assign at to e held) below still c = (zero, refl)
enter_comes (If at e a b) below still c = (zero, refl)
enter_comes (Case at on arms) below still c = (zero, refl)
enter_comes (Arm on labels body others) below still c = (zero, refl)
enter_comes (For at v a b e body) below still c = (zero, refl)
enter_comes (While at e body) below still c = (zero, refl)
enter_comes (Repeat at e body) below still c = (zero, refl)
enter_comes (Wait at falling) below still c = (zero, refl)
enter_comes (Enable at t ins outs) below still c = (zero, refl)
enter_comes (Disable at m) below still c = (zero, refl)
enter_comes (Host at f ins result outs) below still c = (zero, refl)

settle_comes : (k : List Work) → Comes k (settle k)
settle_comes [] = (zero, refl)
settle_comes (Do s ∷ k) = enter_comes s k (settle k) (settle_comes k)
settle_comes (End m ∷ k) = first _ k _ refl (settle_comes k)
settle_comes (Return at m outs ∷ k) = (zero, refl)
settle_comes (Test at v a b body ∷ k) = (zero, refl)
settle_comes (Step at v a b body ∷ k) = (zero, refl)
settle_comes (Turns at n body ∷ k) = (zero, refl)
settle_comes (Await at f result outs ∷ k) = (zero, refl)

abbrev Fine : List Work → Type 0
Fine k = IsStill k ⊎ (is_spinning k ≡ true)

-- A statement is dropped whole, or what it comes to doesn't depend on what lies below.
pub record Lasting (s : Statement) (below : List Work) : Type 0 where
  pub fine : (still : List Work) → Fine (enter s below still)
  pub fixed : (x y : List Work) → enter s below x ≡ enter s below y

abbrev Kept : Statement → List Work → Type 0
Kept s below = ((is_nothing s ≡ true) × ((still : List Work) → enter s below still ≡ still)) ⊎ Lasting s below

stays : (s : Statement) (below : List Work) → ((still : List Work) → enter s below still ≡ Do s ∷ below) → IsStill (Do s ∷ below) → Lasting s below
stays s below e h = record { fine = λ still. inl (subst IsStill (sym (e still)) h); fixed = λ x y. e x ∙ sym (e y) }

kept : (s : Statement) (below : List Work) → Kept s below
kept Null below = inl (refl, λ still. refl)
kept Skip below = inl (refl, λ still. refl)
kept (Seq a b) below = go (kept a (Do b ∷ below)) (kept b below)
  where
    go : Kept a (Do b ∷ below) → Kept b below → Kept (Seq a b) below
    go (inl p) (inl q) = inl (ap (λ x. x && is_nothing b) p.0 ∙ q.0, λ still. p.1 (enter b below still) ∙ q.1 still)
    go (inl p) (inr q) = inr (record { fine = λ still. subst Fine (sym (p.1 (enter b below still))) (q.fine still); fixed = λ x y. p.1 (enter b below x) ∙ q.fixed x y ∙ sym (p.1 (enter b below y)) })
    go (inr p) q = inr (record { fine = λ still. p.fine (enter b below still); fixed = λ x y. p.fixed (enter b below x) (enter b below y) })
kept (Block at None body) below = go (kept body below)
  where
    go : Kept body below → Kept (Block at None body) below
    go (inl p) = inl p
    go (inr p) = inr (record { fine = p.fine; fixed = p.fixed })
kept (Block at (Some m) body) below = go (kept body (End m ∷ below))
  where
    go : Kept body (End m ∷ below) → Kept (Block at (Some m) body) below
    go (inl p) = inl p
    go (inr p) = inr (record { fine = p.fine; fixed = p.fixed })
kept (Forever at body) below = go (kept body (Do (Forever at body) ∷ below))
  where
    go : Kept body (Do (Forever at body) ∷ below) → Kept (Forever at body) below
    go (inl p) = inr (record { fine = λ still. inr (subst (λ k. is_spinning k ≡ true) (sym (p.1 (Do (Forever at body) ∷ below))) p.0); fixed = λ x y. refl })
    go (inr p) = inr (record { fine = λ still. p.fine (Do (Forever at body) ∷ below); fixed = λ x y. refl })
kept (Assign at to e held) below = inr (stays _ below (λ still. refl) refl)
kept (If at e a b) below = inr (stays _ below (λ still. refl) refl)
kept (Case at on arms) below = inr (stays _ below (λ still. refl) refl)
kept (Arm on labels body others) below = inr (stays _ below (λ still. refl) refl)
kept (For at v a b e body) below = inr (stays _ below (λ still. refl) refl)
kept (While at e body) below = inr (stays _ below (λ still. refl) refl)
kept (Repeat at e body) below = inr (stays _ below (λ still. refl) refl)
kept (Wait at falling) below = inr (stays _ below (λ still. refl) refl)
kept (Enable at t ins outs) below = inr (stays _ below (λ still. refl) refl)
kept (Disable at m) below = inr (stays _ below (λ still. refl) refl)
kept (Host at f ins result outs) below = inr (stays _ below (λ still. refl) refl)

settle_fine : (k : List Work) → Fine (settle k)
settle_fine [] = inl refl
settle_fine (Do s ∷ k) = go (kept s k) (settle_fine k)
  where
    go : Kept s k → Fine (settle k) → Fine (enter s k (settle k))
    go (inl p) f = subst Fine (sym (p.1 (settle k))) f
    go (inr p) f = p.fine (settle k)
settle_fine (End m ∷ k) = settle_fine k
settle_fine (Return at m outs ∷ k) = inl refl
settle_fine (Test at v a b body ∷ k) = inl refl
settle_fine (Step at v a b body ∷ k) = inl refl
settle_fine (Turns at n body ∷ k) = inl refl
settle_fine (Await at f result outs ∷ k) = inl refl

-- entering a statement over what it comes to already changes nothing
pub again : (s : Statement) (below x : List Work) → enter s below (enter s below x) ≡ enter s below x
again s below x = go (kept s below)
  where
    go : Kept s below → enter s below (enter s below x) ≡ enter s below x
    go (inl p) = p.1 (enter s below x)
    go (inr p) = p.fixed (enter s below x) x

some_is : (a b : List Work) → Some a ≡ Some b → a ≡ b
some_is a b e = cc

pub settle_step : (k next : List Work) → quiet_step k ≡ Some next → settle next ≡ settle k
settle_step [] next e = cc
settle_step (Do Null ∷ k) next e = ap settle (some_is next k (sym e))
settle_step (Do Skip ∷ k) next e = ap settle (some_is next k (sym e))
settle_step (Do (Seq a b) ∷ k) next e = ap settle (some_is next _ (sym e))
settle_step (Do (Block at None body) ∷ k) next e = ap settle (some_is next _ (sym e))
settle_step (Do (Block at (Some m) body) ∷ k) next e = ap settle (some_is next _ (sym e))
settle_step (Do (Forever at body) ∷ k) next e = ap settle (some_is next _ (sym e)) ∙ again body (Do (Forever at body) ∷ k) (Do (Forever at body) ∷ k)
settle_step (Do (Assign at to v held) ∷ k) next e = cc
settle_step (Do (If at v a b) ∷ k) next e = cc
settle_step (Do (Case at on arms) ∷ k) next e = cc
settle_step (Do (Arm on labels body others) ∷ k) next e = cc
settle_step (Do (For at v a b x body) ∷ k) next e = cc
settle_step (Do (While at v body) ∷ k) next e = cc
settle_step (Do (Repeat at v body) ∷ k) next e = cc
settle_step (Do (Wait at falling) ∷ k) next e = cc
settle_step (Do (Enable at t ins outs) ∷ k) next e = cc
settle_step (Do (Disable at m) ∷ k) next e = cc
settle_step (Do (Host at f ins result outs) ∷ k) next e = cc
settle_step (End m ∷ k) next e = ap settle (some_is next k (sym e))
settle_step (Return at m outs ∷ k) next e = cc
settle_step (Test at v a b body ∷ k) next e = cc
settle_step (Step at v a b body ∷ k) next e = cc
settle_step (Turns at n body ∷ k) next e = cc
settle_step (Await at f result outs ∷ k) next e = cc

pub stacks_settle : (k : List Work) → StacksSettle k
stacks_settle k = (settle_comes k, settle_fine k, settle_step k)
