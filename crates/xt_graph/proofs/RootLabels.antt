-- The circles of a graph, root by root.
use Rattle.std.proofs.Common.{◌≡◌, ◌⊎◌, inl, inr, ◌<◌, ◌≤◌, ◌+◌, ◌-◌, ℕ, zero, suc, false, List, [], ◌∷◌, ◌++◌, length, get_or, set, take, drop, reverse, replicate, fold, Some, refl, sym, ◌∙◌, ap, subst, arith}
use Rattle.std.specs.Prelude.{slice_get}
use Rattle.std.proofs.lemmas.List.{length-set, length-replicate, get_or-set_same, get_or-set_other, reverse-append, take_more, take_all, drop_at}
use Rattle.std.proofs.lemmas.Bool.{cases_eq, cases_lt}
use Rattle.std.proofs.lemmas.Option.{get_or_from_slice_get}
use Rattle.xt_graph.specs.Graph.{Points, Leads, there, onward, AreCircles, IsReverse}
use Rattle.xt_graph.specs.inner.Searching.{find_node}
use Rattle.xt_graph.specs.inner.Finishing.{turn, IsFinishing}
use Rattle.xt_graph.specs.inner.Labelling.{Labelled, label_all, spread_from, labelled}
use Rattle.xt_graph.proofs.Lists.{In, contains_in, in_either, in_right, got_within, got_either, slice_got, Marked, marked_within, none_marked, points_from}
use Rattle.xt_graph.proofs.Turns.{turn_one, turn_within}
use Rattle.xt_graph.proofs.Circle.{then_leads, leads_back, ComesBack, Below, ends, goes, reached_back}
use Rattle.xt_graph.proofs.Spreads.{IsSearch, none_search, Adds, adds_then, find_search, find_adds, find_marks, spread_search, spread_adds, AreDone, spread_done, done_leads}

-- labels that are given, and those that stay
label_size : (labels nodes : List ℕ) (label : ℕ) → length (label_all labels nodes label) ≡ length labels
label_size labels [] label = refl
label_size labels (n ∷ nodes) label = label_size (set labels n label) nodes label ∙ length-set labels n label

label_kept : (labels nodes : List ℕ) (label n : ℕ) → (In n nodes → ⊥) → get_or (label_all labels nodes label) n 0 ≡ get_or labels n 0
label_kept labels [] label n h = refl
label_kept labels (m ∷ nodes) label n h = label_kept (set labels m label) nodes label n (λ i. h (inr i)) ∙ get_or-set_other labels m n label 0 (λ e. h (inl e))

label_has : (labels nodes : List ℕ) (label n : ℕ) → n < length labels → get_or labels n 0 ≡ label → get_or (label_all labels nodes label) n 0 ≡ label
label_has labels [] label n l h = h
label_has labels (m ∷ nodes) label n l h = label_has (set labels m label) nodes label n (subst (λ k. n < k) (sym (length-set labels m label)) l) (elim (cases_eq n m) [
  | inr other ↦ get_or-set_other labels m n label 0 other ∙ h
  | inl e ↦ ap (λ k. get_or (set labels m label) k 0) e ∙ get_or-set_same labels m label 0 (subst (λ k. k < length labels) e l)
])

label_new : (labels nodes : List ℕ) (label n : ℕ) → n < length labels → In n nodes → get_or (label_all labels nodes label) n 0 ≡ label
label_new labels [] label n l i = absurd i
label_new labels (m ∷ nodes) label n l (inl e) =
    label_has (set labels m label) nodes label n (subst (λ k. n < k) (sym (length-set labels m label)) l) (ap (λ k. get_or (set labels m label) k 0) e ∙ get_or-set_same labels m label 0 (subst (λ k. k < length labels) e l))
label_new labels (m ∷ nodes) label n l (inr i) = label_new (set labels m label) nodes label n (subst (λ k. n < k) (sym (length-set labels m label)) l) i

abbrev Both : List (List ℕ) → ℕ → ℕ → Type 0
Both g a b = Leads (Points g) a b × Leads (Points g) b a

both_then : (g : List (List ℕ)) (a b c : ℕ) → Both g a b → Both g b c → Both g a c
both_then g a b c p q = (then_leads p.0 q.0, then_leads q.1 p.1)

both_back : (g : List (List ℕ)) (a b : ℕ) → Both g a b → Both g b a
both_back g a b p = (p.1, p.0)

module _ (g back : List (List ℕ)) (rev : IsReverse g back) (order : List ℕ) (f : IsFinishing g order) where
  -- the nodes from the k-th finished on have their labels, and so has all that leads to them and back
  record AreLabelled (k : ℕ) (l : Labelled) : Type 0 where
    sane : IsSearch back l.search
    size : length l.labels ≡ length g
    done : AreDone back (length l.search.found) l.search
    late : (n : ℕ) → n < length g → k ≤ turn order n → Marked l.search.marks n
    own : (a : ℕ) → Marked l.search.marks a → Both g a (get_or l.labels a 0)
    same : (a b : ℕ) → Marked l.search.marks a → Marked l.search.marks b → Both g a b → get_or l.labels a 0 ≡ get_or l.labels b 0
    closed : (a b : ℕ) → Marked l.search.marks a → Both g a b → Marked l.search.marks b

  comes_back : ComesBack (Points g) (turn order)
  comes_back = record { back = f.back; one = turn_one order }

  -- one more root
  module _ (k : ℕ) (l : Labelled) (r : ℕ) (is : slice_get order k ≡ Some r) (h : AreLabelled (suc k) l) where
    node : r < length g
    node = (f.nodes k r is).0

    at_r : turn order r ≡ k
    at_r = (f.nodes k r is).1

    node_back : r < length back
    node_back = subst (λ j. r < j) (sym rev.size) node

    -- what is added leads to the root past nodes that are finished before it, and wasn't marked
    record IsNew (n : ℕ) : Type 0 where
      way : Below (Points g) (turn order) r n
      fresh : Marked l.search.marks n → ⊥

    found_root : IsSearch back (find_node l.search r)
    found_root = find_search back l.search r h.sane

    at_root : Adds IsNew l.search (find_node l.search r)
    at_root = find_adds back IsNew l.search r h.sane (λ n u. record { way = ends; fresh = u })

    goes_on : (n m : ℕ) → IsNew n → Points back n m → (Marked (find_node l.search r).marks m → ⊥) → IsNew m
    goes_on n m w p u = record { way = goes q earlier w.way; fresh = λ x. u (at_root.keeps m x) }
      where
        q : Points g m n
        q = (rev.each n m).0 p

        root : Marked (find_node l.search r).marks r
        root = find_marks back l.search r h.sane node_back

        earlier : turn order m < turn order r
        earlier = elim (cases_lt (turn order m) (suc k)) [
          | inr a ↦ absurd (u (at_root.keeps m (h.late m (points_from g m n q) a)))
          | inl a ↦ elim (cases_eq (turn order m) k) [
            | inr b ↦ omega (arith, a, b, at_r)
            | inl b ↦ absurd (u (subst (Marked (find_node l.search r).marks) (turn_one order r m (at_r ∙ sym b)) root))
          ]
        ]

    more : Adds IsNew (find_node l.search r) (spread_from back l.search r)
    more = spread_adds back IsNew (find_node l.search r).marks goes_on (length l.search.marks - length l.search.found) (length l.search.found) (find_node l.search r) found_root (λ n m. m) from_root
      where
        from_root : (j n : ℕ) → length l.search.found ≤ j → slice_get (find_node l.search r).found j ≡ Some n → IsNew n
        from_root j n b e = elim (got_either l.search.found at_root.more j n (subst (λ xs. slice_get xs j ≡ Some n) at_root.is e)) [
          | inl a ↦ let w = got_within l.search.found j n a in absurd (omega (arith, w, b))
          | inr a ↦ at_root.each n a.1
        ]

    adds : Adds IsNew l.search (spread_from back l.search r)
    adds = adds_then IsNew l.search (find_node l.search r) (spread_from back l.search r) at_root more

    sane : IsSearch back (spread_from back l.search r)
    sane = spread_search back (length l.search.marks - length l.search.found) (length l.search.found) (find_node l.search r) found_root

    done : AreDone back (length (spread_from back l.search r).found) (spread_from back l.search r)
    done = spread_done back (length l.search.marks - length l.search.found) (length l.search.found) (find_node l.search r) found_root enough before
      where
        enough : length back ≤ length l.search.marks - length l.search.found + length l.search.found
        enough = let z = h.sane.size in omega (arith, z)

        before : AreDone back (length l.search.found) (find_node l.search r)
        before j n m b e p = elim (got_either l.search.found at_root.more j n (subst (λ xs. slice_get xs j ≡ Some n) at_root.is e)) [
          | inl a ↦ at_root.keeps m (h.done j n m b a p)
          | inr a ↦ let c = a.0 in absurd (omega (arith, b, c))
        ]

    root_marked : Marked (spread_from back l.search r).marks r
    root_marked = more.keeps r (find_marks back l.search r h.sane node_back)

    -- all that leads to the root is marked now
    leads_marked : (a : ℕ) → Leads (Points g) a r → Marked (spread_from back l.search r).marks a
    leads_marked a w = done_leads back (spread_from back l.search r) sane done (leads_back (λ x y p. (rev.each y x).1 p) w) root_marked

    way_leads : {a : ℕ} → Below (Points g) (turn order) r a → Leads (Points g) a r
    way_leads ends = there
    way_leads (goes p b w) = onward p (way_leads w)

    new_both : (n : ℕ) → IsNew n → Both g n r
    new_both n w = (way_leads w.way, reached_back (turn order) comes_back (turn order r) n r (omega arith) w.way)

    -- a marked node was so before, or is new
    either : (n : ℕ) → Marked (spread_from back l.search r).marks n → Marked l.search.marks n ⊎ In n adds.more
    either n m = elim (in_either n l.search.found adds.more (subst (In n) adds.is (sane.listed n m))) [ inl i ↦ inl (h.sane.marked n i) | inr i ↦ inr i ]

    given : drop (length l.search.found) (spread_from back l.search r).found ≡ adds.more
    given = ap (drop (length l.search.found)) adds.is ∙ drop_at l.search.found adds.more (length l.search.found) refl

    old_label : (n : ℕ) → Marked l.search.marks n → get_or (labelled back l r).labels n 0 ≡ get_or l.labels n 0
    old_label n m = ap (λ ns. get_or (label_all l.labels ns r) n 0) given ∙ label_kept l.labels adds.more r n (λ i. (adds.each n i).fresh m)

    new_label : (n : ℕ) → In n adds.more → get_or (labelled back l r).labels n 0 ≡ r
    new_label n i = ap (λ ns. get_or (label_all l.labels ns r) n 0) given ∙ label_new l.labels adds.more r n within i
      where
        within : n < length l.labels
        within = let m = marked_within (spread_from back l.search r).marks n (sane.marked n (subst (In n) (sym adds.is) (in_right n l.search.found adds.more i))) in
            let z = sane.size in let y = h.size in let x = rev.size in omega (arith, m, z, y, x)

    closed : (a b : ℕ) → Marked l.search.marks a ⊎ In a adds.more → Both g a b → Marked (spread_from back l.search r).marks b
    closed a b (inl m) p = adds.keeps b (h.closed a b m p)
    closed a b (inr i) p = leads_marked b (then_leads p.1 (new_both a (adds.each a i)).0)

    own : (a : ℕ) → Marked l.search.marks a ⊎ In a adds.more → Both g a (get_or (labelled back l r).labels a 0)
    own a (inl m) = subst (Both g a) (sym (old_label a m)) (h.own a m)
    own a (inr i) = subst (Both g a) (sym (new_label a i)) (new_both a (adds.each a i))

    same : (a b : ℕ) → Marked l.search.marks a ⊎ In a adds.more → Marked l.search.marks b ⊎ In b adds.more → Both g a b → get_or (labelled back l r).labels a 0 ≡ get_or (labelled back l r).labels b 0
    same a b (inl m) (inl n) p = old_label a m ∙ h.same a b m n p ∙ sym (old_label b n)
    same a b (inl m) (inr i) p = absurd ((adds.each b i).fresh (h.closed a b m p))
    same a b (inr i) (inl n) p = absurd ((adds.each a i).fresh (h.closed b a n (both_back g a b p)))
    same a b (inr i) (inr j) p = new_label a i ∙ sym (new_label b j)

    late : (n : ℕ) → n < length g → k ≤ turn order n → Marked (spread_from back l.search r).marks n
    late n b c = elim (cases_eq (turn order n) k) [
      | inr d ↦ adds.keeps n (h.late n b (omega (arith, c, d)))
      | inl d ↦ subst (Marked (spread_from back l.search r).marks) (turn_one order r n (at_r ∙ sym d)) root_marked
    ]

    one_labelled : AreLabelled k (labelled back l r)
    one_labelled = record {
      sane = sane;
      size = label_size l.labels (drop (length l.search.found) (spread_from back l.search r).found) r ∙ h.size;
      done = done;
      late = late;
      own = λ a m. own a (either a m);
      same = λ a b m n p. same a b (either a m) (either b n) p;
      closed = λ a b m p. closed a b (either a m) p;
    }

  -- all roots, from the last on
  all_labelled : (k : ℕ) (l : Labelled) → k ≤ length order → AreLabelled k l → AreLabelled 0 (fold (labelled back) l (reverse (take k order)))
  all_labelled zero l b h = h
  all_labelled (suc k) l b h =
      let r = slice_got order k (omega (arith, b)) in
      subst (λ roots. AreLabelled 0 (fold (labelled back) l roots)) (sym (next r.0 r.1)) (all_labelled k (labelled back l r.0) (omega (arith, b)) (one_labelled k l r.0 r.1 h))
    where
      next : (r : ℕ) → slice_get order k ≡ Some r → reverse (take (suc k) order) ≡ r ∷ reverse (take k order)
      next r is =
          let e : suc k ≡ k + 1 = omega arith in
          let x : get_or order k 0 ≡ r = get_or_from_slice_get order k r 0 is in
          ap (λ j. reverse (take j order)) e ∙ ap reverse (take_more order k 0 (omega (arith, b)) ∙ ap (λ y. take k order ++ y ∷ []) x) ∙ reverse-append (take k order) (r ∷ [])

  none_labelled : AreLabelled (length order) (record { search = record { marks = replicate (length g) false; found = [] }; labels = replicate (length g) 0 })
  none_labelled = record {
    sane = subst (λ n. IsSearch back (record { marks = replicate n false; found = [] })) rev.size (none_search back);
    size = length-replicate (length g) 0;
    done = λ k n m b e p. absurd (omega (arith, b));
    late = λ n b c. let w = turn_within order n (contains_in n order (f.each n b)) in absurd (omega (arith, c, w));
    own = λ a m. absurd (none_marked (length g) a m);
    same = λ a b m n p. absurd (none_marked (length g) a m);
    closed = λ a b m p. absurd (none_marked (length g) a m);
  }

  pub are_circles : (l : Labelled) → l ≡ fold (labelled back) (record { search = record { marks = replicate (length g) false; found = [] }; labels = replicate (length g) 0 }) (reverse order) → AreCircles g l.labels
  are_circles l e = record {
    size = end.size;
    same = λ a b p q. (
      λ s. both_then g a (get_or l.labels a 0) b (end.own a (marked a p)) (subst (λ c. Both g c b) (sym s) (both_back g b (get_or l.labels b 0) (end.own b (marked b q)))),
      λ w. end.same a b (marked a p) (marked b q) (w.0, w.1),
    );
  }
    where
      end : AreLabelled 0 l
      end = subst (AreLabelled 0) (sym e) (subst (λ roots. AreLabelled 0 (fold (labelled back) (record { search = record { marks = replicate (length g) false; found = [] }; labels = replicate (length g) 0 }) roots))
          (ap reverse (take_all (length order) order (omega arith)))
          (all_labelled (length order) (record { search = record { marks = replicate (length g) false; found = [] }; labels = replicate (length g) 0 }) (omega arith) none_labelled))

      marked : (n : ℕ) → n < length g → Marked l.search.marks n
      marked n b = end.late n b (omega arith)
