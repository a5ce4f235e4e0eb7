-- All runs of a design that breaks no rule have one trace.
use Rattle.std.proofs.Common.{◌≡◌, inl, inr, ℕ, suc, ◌+◌, Bool, true, false, List, [], ◌∷◌, length, Some, refl, sym, ◌∙◌, ap, subst, eq-eqb}
use Rattle.std.specs.List.{list_any}
use Rattle.std.proofs.lemmas.Option.{get_or_from_slice_get}
use Rattle.xt_bits.specs.Word.{Word, word}
use Rattle.xt_bits.specs.Stimulus.{Stimulus}
use Rattle.xt_bits.specs.Trace.{Trace}
use Rattle.el_design.specs.Plain.{Flat}
use Rattle.el_design.specs.Store.{Store}
use Rattle.el_design.specs.Act.{Process}
use Rattle.el_design.specs.Queue.{Config, scene_of, net_aim, is_stuck, Event, Run, Follow, Update, ready}
use Rattle.el_design.specs.Run.{IsSettled, Takes, rest_seen, Goes, RunsBy}
use Rattle.el_design.specs.Checked.{IsChecked}
use Rattle.el_design.proofs.OrderDiamond.{Path, Ended}
use Rattle.el_design.proofs.OrderFollows.{one_rest}
use Rattle.el_design.proofs.OrderNets.{Valued, settled_sized, nets_one}
use Rattle.el_design.proofs.OrderDigits.{weight, digits}
use Rattle.el_design.proofs.OrderCommute.{step, Fine, diamond}
use Rattle.el_design.proofs.OrderCore.{taking, core, is_agent, Good, agent, follower}
use Rattle.el_design.proofs.OrderRest.{follows, ready_ended}
use Rattle.el_design.proofs.OrderBegins.{starts_fine, continues_fine, begins_good, good_fine}

pub settled_valued : (d : Flat) (c : Config) → IsSettled d c.row c.store c.nets → Valued d c
settled_valued d c h n net is = eq-eqb _ _ (ap (λ w. w.value) (get_or_from_slice_get c.nets n (net_aim d c.row (scene_of d c.store c.nets) n net) (word net.width 0) (h.each n net is)))

-- the events that a chooser lets pass are events
pub takes_path : (d : Flat) (C : ℕ → List Event → Event → Type 0) (k : ℕ) (c end : Config) (es : List Event) → Takes d C k c es end → Path (taking d) es c end
takes_path d C k c end [] h = h
takes_path d C k c end (e ∷ es) h = (h.1.0, h.1.1, takes_path d C (suc k) h.1.0 end es h.1.2)

pub heads : {X : Type 0} (x y : X) (xs ys : List X) → (x ∷ xs) ≡ (y ∷ ys) → x ≡ y
heads x y xs ys h = cc

pub tails : {X : Type 0} (x y : X) (xs ys : List X) → (x ∷ xs) ≡ (y ∷ ys) → xs ≡ ys
tails x y xs ys h = cc

-- where rows end or a process waits for a reply, no event may be taken
pub goes_ready : (d : Flat) (C : ℕ → List Event → Event → Type 0) (k : ℕ) (last : Config) (rows : List (List Word)) (plays : List (List Event)) (trace : Trace) → Goes d C k last rows plays trace → ready d last ≡ []
goes_ready d C k last rows [] trace (inl h) = h.0.0
goes_ready d C k last rows [] trace (inr h) = h.0.0
goes_ready d C k last rows (es ∷ plays) trace h = h.0.0

pub not_both : {X : Type 0} (b : Bool) → b ≡ true → b ≡ false → X
not_both b h k = absurd (let e : true ≡ false = sym h ∙ k in cc)

pub not_empty : {X Y : Type 0} (xs ys : List X) (x : X) → xs ≡ [] → xs ≡ x ∷ ys → Y
not_empty {X} xs ys x h k = absurd (let e : [] ≡ x ∷ ys = sym h ∙ k in cc)

module _ (d : Flat) (order : List ℕ) (checked : IsChecked d order) where
  -- ---- an edge

  pub begins_one : (a b : Config) → a.edge ≡ b.edge → a.row ≡ b.row → a.store ≡ b.store → a.procs ≡ b.procs → IsSettled d a.row a.store a.nets → IsSettled d b.row b.store b.nets → a ≡ b
  begins_one a b edge row store procs h k =
      let nets : a.nets ≡ b.nets = nets_one d order checked.ordered a b row store (settled_sized d a.row a.nets a.store h) (settled_sized d b.row b.nets b.store k) (settled_valued d a h) (settled_valued d b k) in
      ap (λ x. made x a.row a.store a.nets a.procs) edge
      ∙ ap (λ x. made b.edge x a.store a.nets a.procs) row
      ∙ ap (λ x. made b.edge b.row x a.nets a.procs) store
      ∙ ap (λ x. made b.edge b.row b.store x a.procs) nets
      ∙ ap (λ x. made b.edge b.row b.store b.nets x) procs
    where
      made : ℕ → List Word → Store → List Word → List Process → Config
      made e r s n p = record { edge = e; row = r; store = s; nets = n; procs = p }

  take_good : (row : List Word) (begin : Store) (frozen : List Word) → IsSettled d row begin frozen → (c t : Config) (e : Event) → Good d row begin frozen c → taking d e c ≡ Some t → Good d row begin frozen t
  take_good row begin frozen settled c t (Run i) g h = (agent d order checked row begin frozen settled c t (Run i) g refl h).1
  take_good row begin frozen settled c t (Follow n) g h = (follower d order checked row begin frozen settled c t (Follow n) g refl h).1
  take_good row begin frozen settled c t (Update i) g h = (agent d order checked row begin frozen settled c t (Update i) g refl h).1

  pub path_good : (row : List Word) (begin : Store) (frozen : List Word) → IsSettled d row begin frozen → (c t : Config) (es : List Event) → Good d row begin frozen c → Path (taking d) es c t → Good d row begin frozen t
  path_good row begin frozen settled c t [] g h = subst (Good d row begin frozen) h g
  path_good row begin frozen settled c t (e ∷ es) g h = path_good row begin frozen settled h.0 t es (take_good row begin frozen settled c h.0 e g h.1) h.2

  -- it ends one way
  pub edge_one : (begin s t : Config) (es fs : List Event) → Fine d begin → IsSettled d begin.row begin.store begin.nets → Path (taking d) es begin s → Ended (taking d) s → Path (taking d) fs begin t → Ended (taking d) t → s ≡ t
  edge_one begin s t es fs fine settled run done other finished =
      one_rest Config Config Event (taking d) (step d) (core begin.nets) is_agent (Fine d) (Good d begin.row begin.store begin.nets) (digits d order) (weight order)
      (diamond d checked.sound checked.clean) (follows d order checked begin.row begin.store begin.nets settled) begin s t es fs (begins_good d begin fine settled) run done other finished

  pub path_fine : (begin s : Config) (es : List Event) → Fine d begin → IsSettled d begin.row begin.store begin.nets → Path (taking d) es begin s → Fine d s
  path_fine begin s es fine settled run = good_fine d begin.row begin.store begin.nets s (path_good begin.row begin.store begin.nets settled begin s es (begins_good d begin fine settled) run)

  -- ---- edge after edge

  module _ (C D : ℕ → List Event → Event → Type 0) where
    -- two edges that begin alike: what comes after their ends is the same
    after_edge : (a b s t : Config) (k l m n : ℕ) (es fs : List Event) (rows others : List (List Word)) (plays plans : List (List Event)) (trace other : Trace) →
        Fine d a → a ≡ b → IsSettled d a.row a.store a.nets → rows ≡ others →
        Takes d C k a es s → Goes d C l s rows plays trace → Takes d D m b fs t → Goes d D n t others plans other →
        ((Fine d s) → Goes d D n s rows plans other → trace ≡ other) → trace ≡ other
    after_edge a b s t k l m n es fs rows others plays plans trace other fine same settled more run goes path going next =
        let first : Path (taking d) es a s = takes_path d C k a s es run in
        let second : Path (taking d) fs a t = subst (λ c. Path (taking d) fs c t) (sym same) (takes_path d D m b t fs path) in
        let one : s ≡ t = edge_one a s t es fs fine settled first (ready_ended d s (goes_ready d C l s rows plays trace goes)) second (ready_ended d t (goes_ready d D n t others plans other going)) in
        next (path_fine a s es fine settled first) (subst (λ c. Goes d D n c rows plans other) (sym one) (subst (λ r. Goes d D n t r plans other) (sym more) going))

    goes_one : (k l : ℕ) (last : Config) (rows : List (List Word)) (plays plans : List (List Event)) (trace other : Trace) → Fine d last →
        Goes d C k last rows plays trace → Goes d D l last rows plans other → trace ≡ other
    goes_one k l last rows [] [] trace other fine (inl h) (inl g) = h.1 ∙ sym g.1
    goes_one k l last rows [] [] trace other fine (inl h) (inr g) = not_both (list_any is_stuck last.procs) h.0.1 g.0.1
    goes_one k l last rows [] [] trace other fine (inr h) (inl g) = not_both (list_any is_stuck last.procs) g.0.1 h.0.1
    goes_one k l last rows [] [] trace other fine (inr h) (inr g) = h.2 ∙ sym g.2
    goes_one k l last rows [] (fs ∷ plans) trace other fine (inl h) g = not_both (list_any is_stuck last.procs) h.0.1 g.0.1
    goes_one k l last rows [] (fs ∷ plans) trace other fine (inr h) (rest, (row, more, begin, end, later, rows_are, trace_is, continues, takes, goes)) = not_empty rows more row h.1 rows_are
    goes_one k l last rows (es ∷ plays) [] trace other fine h (inl g) = not_both (list_any is_stuck last.procs) g.0.1 h.0.1
    goes_one k l last rows (es ∷ plays) [] trace other fine (rest, (row, more, begin, end, later, rows_are, trace_is, continues, takes, goes)) (inr g) = not_empty rows more row g.1 rows_are
    goes_one k l last rows (es ∷ plays) (fs ∷ plans) trace other fine
        (rest, (row, more, begin, end, later, rows_are, trace_is, continues, takes, goes))
        (rest', (row', more', begin', end', later', rows_are', trace_is', continues', takes', goes')) =
        let same_rows : (row ∷ more) ≡ (row' ∷ more') = sym rows_are ∙ rows_are' in
        let same : begin ≡ begin' = begins_one begin begin' (continues.edge ∙ sym continues'.edge) (continues.row ∙ heads row row' more more' same_rows ∙ sym continues'.row)
        (continues.store ∙ sym continues'.store) (continues.procs ∙ sym continues'.procs) continues.nets continues'.nets in
        let latest : later ≡ later' = after_edge begin begin' end end' k (k + length es) l (l + length fs) es fs more more' plays plans later later'
        (continues_fine d last row begin fine continues) same continues.nets (tails row row' more more' same_rows) takes goes takes' goes'
        (λ f g. goes_one (k + length es) (l + length fs) end more plays plans later later' f goes g) in
        trace_is ∙ ap (λ t. rest_seen d last ∷ t) latest ∙ sym trace_is'

    -- whatever the choosers are
    pub every_order : (x : Stimulus) (plays plans : List (List Event)) (trace other : Trace) → RunsBy d C x plays trace → RunsBy d D x plans other → trace ≡ other
    every_order x [] plans trace other h g = absurd h
    every_order x (es ∷ plays) [] trace other h g = absurd g
    every_order x (es ∷ plays) (fs ∷ plans) trace other
        (row, more, begin, end, rows_are, starts, takes, goes)
        (row', more', begin', end', rows_are', starts', takes', goes') =
        let same_rows : (row ∷ more) ≡ (row' ∷ more') = sym rows_are ∙ rows_are' in
        let same : begin ≡ begin' = begins_one begin begin' (starts.edge ∙ sym starts'.edge) (starts.row ∙ heads row row' more more' same_rows ∙ sym starts'.row)
        (starts.store ∙ sym starts'.store) (starts.procs ∙ sym starts'.procs) starts.nets starts'.nets in
        after_edge begin begin' end end' 0 (length es) 0 (length fs) es fs more more' plays plans trace other
        (starts_fine d x row begin checked.sound starts) same starts.nets (tails row row' more more' same_rows) takes goes takes' goes'
        (λ f g. goes_one (length es) (length fs) end more plays plans trace other f goes g)
