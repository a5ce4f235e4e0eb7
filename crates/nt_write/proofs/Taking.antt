-- How pieces that are put one after another come to one text.
use Rattle.std.proofs.Common.{◌≡◌, ℕ, ◌+◌, ◌≤◌, List, [], ◌++◌, Option, Some, None, Bool, true, false, length, take, drop, refl, sym, ap, ◌∙◌, subst, append_assoc, append-nil, arith, length-append, length-drop, codes}
use Rattle.std.proofs.lemmas.List.{take-append-le, take-append-drop, take_all, append_cancel_left}
use Rattle.std.proofs.Math.Seq.{take-add}
use Rattle.xt_base.specs.Outside.{appended, AppendsPrefix, HasFault}
use Rattle.nt_write.proofs.LineLists.{lines-append}
use Rattle.nt_write.specs.Lines.{ended, lines}
use Rattle.nt_write.specs.declared.pen.Pen.{Pen}
use Rattle.nt_write.specs.Pen.{Stand, HasTaken, Puts, Takes, stand, fresh}

-- one piece after another
pub appended-then : (old : Option (List ℕ)) (a b : List ℕ) → appended (appended old a) b ≡ appended old (a ++ b)
appended-then None a b = refl
appended-then (Some bytes) a b = ap (λ x. Some x) (append_assoc bytes a b)

pub appended-nil : (old : Option (List ℕ)) → appended old [] ≡ old
appended-nil None = refl
appended-nil (Some bytes) = ap (λ x. Some x) (append-nil bytes)

-- a prefix of a text is one of a longer text
pub prefix_longer : (old new : Option (List ℕ)) (a b : List ℕ) → AppendsPrefix old a new → AppendsPrefix old (a ++ b) new
prefix_longer old new a b (n, within, is) =
    (n, omega (arith, length-append a b), is ∙ ap (λ t. appended old t) (sym (take-append-le n a b within)))

-- the whole is a prefix
pub prefix_whole : (old new : Option (List ℕ)) (a : List ℕ) → new ≡ appended old a → AppendsPrefix old a new
prefix_whole old new a is = (length a, omega arith, is ∙ ap (λ t. appended old t) (sym (take_all (length a) a (omega arith))))

-- what is held back is the rest of the text
rest_of : (start t held : List ℕ) (k : ℕ) → (start ++ take k t) ++ held ≡ start ++ t → held ≡ drop k t
rest_of start t held k whole =
    append_cancel_left (start ++ take k t) held (drop k t) (whole ∙ ap (λ x. start ++ x) (sym (take-append-drop k t)) ∙ sym (append_assoc start (take k t) (drop k t)))

-- what is on the stream, and a prefix of what is held back, are a prefix of the text
prefix_held : (start t bytes held out : List ℕ) (k n : ℕ) → k ≤ length t → bytes ≡ start ++ take k t → bytes ++ held ≡ start ++ t → n ≤ length held → out ≡ bytes ++ take n held → AppendsPrefix (Some start) t (Some out)
prefix_held start t bytes held out k n within begins whole less is =
    let rest : held ≡ drop k t = rest_of start t held k (subst (λ b. b ++ held ≡ start ++ t) begins whole) in
    (k + n, omega (arith, ap length rest, length-drop k t), ap (λ x. Some x) (is ∙ ap (λ b. b ++ take n held) begins ∙ ap (λ h. (start ++ take k t) ++ take n h) rest ∙ append_assoc start (take k t) (take n (drop k t)) ∙ ap (λ x. start ++ x) (sym (take-add k n t))))

pub prefix_more : (w : Option (List ℕ)) (t : List ℕ) (old : Option (List ℕ)) (held : List ℕ) (new : Option (List ℕ)) → AppendsPrefix w t old → appended old held ≡ appended w t → AppendsPrefix old held new → AppendsPrefix w t new
prefix_more None t None held new before whole (n, within, is) = (0, omega arith, is)
prefix_more None t (Some bytes) held new before whole after = cc
prefix_more (Some start) t None held new before whole after = cc
prefix_more (Some start) t (Some bytes) held None before whole (n, within, is) = cc
prefix_more (Some start) t (Some bytes) held (Some out) (k, less, begins) whole (n, within, is) =
    let at : bytes ≡ start ++ take k t = cc in
    let all : bytes ++ held ≡ start ++ t = cc in
    let end : out ≡ bytes ++ take n held = cc in
    prefix_held start t bytes held out k n less at all within end

-- nothing
pub puts_none : (s : Stand) → Puts s s []
puts_none s = record { takes = λ w f t h. rw append-nil h }

-- one piece after another
pub puts_then : (a b c : Stand) (p q : List ℕ) → Puts a b p → Puts b c q → Puts a c (p ++ q)
puts_then a b c p q first then_ = record { takes = λ w f t h. rw (← append_assoc) (then_.takes w f (t ++ p) (first.takes w f t h)) }

-- a piece that goes into the buffer
pub puts_kept : (a b : Stand) (p : List ℕ) → b.written ≡ a.written → b.faults ≡ a.faults → b.failed ≡ a.failed → b.buffer ≡ a.buffer ++ p → Puts a b p
puts_kept a b p written faults failed buffer = record {
  takes = λ w f t h. record {
    cut = subst (λ x. AppendsPrefix w (t ++ p) x) (sym written) (prefix_longer w a.written t p h.cut);
    kept = λ good. ap (λ x. appended x b.buffer) written ∙ ap (λ x. appended a.written x) buffer ∙ sym (appended-then a.written a.buffer p) ∙ ap (λ x. appended x p) (h.kept (sym failed ∙ good)) ∙ appended-then w t p;
    risen = rw faults h.risen;
    calm = λ good. faults ∙ h.calm (sym failed ∙ good);
    fault = λ bad. subst (λ k. HasFault f k) (sym faults) (h.fault (sym failed ∙ bad));
  };
}

-- the buffer was handed over
pub puts_sent : (a b : Stand) → a.failed ≡ false → b.failed ≡ false → b.written ≡ appended a.written a.buffer → b.faults ≡ a.faults → b.buffer ≡ [] → Puts a b []
puts_sent a b good still is same empty = record {
  takes = λ w f t h. rw append-nil (record {
    cut = prefix_whole w b.written t (is ∙ h.kept good);
    kept = λ _. ap (λ x. appended b.written x) empty ∙ appended-nil b.written ∙ is ∙ h.kept good;
    risen = rw same h.risen;
    calm = λ _. same ∙ h.calm good;
    fault = λ bad. cc;
  });
}

-- a write failed
pub puts_cut : (a b : Stand) → a.failed ≡ false → b.failed ≡ true → AppendsPrefix a.written a.buffer b.written → HasFault a.faults b.faults → a.faults ≤ b.faults → Puts a b []
puts_cut a b good bad piece faulty rises = record {
  takes = λ w f t h. rw append-nil (record {
    cut = prefix_more w t a.written a.buffer b.written h.cut (h.kept good) piece;
    kept = λ still. cc;
    risen = omega (arith, h.risen, rises);
    calm = λ still. cc;
    fault = λ _. subst (λ k. HasFault k b.faults) (h.calm good) faulty;
  });
}

-- a write had failed before
pub puts_lost : (a b : Stand) → a.failed ≡ true → b.failed ≡ true → b.written ≡ a.written → b.faults ≡ a.faults → Puts a b []
puts_lost a b bad still is same = record {
  takes = λ w f t h. rw append-nil (record {
    cut = subst (λ x. AppendsPrefix w t x) (sym is) h.cut;
    kept = λ good. cc;
    risen = rw same h.risen;
    calm = λ good. cc;
    fault = λ _. subst (λ k. HasFault f k) (sym same) (h.fault bad);
  });
}

-- one piece after another, by a pen
pub takes_then : {S : Type 0} {W : S → Option (List ℕ)} {F : S → ℕ} (a b c : Pen S) (p q : List ℕ) → Takes W F a b p → Takes W F b c q → Takes W F a c (p ++ q)
takes_then a b c p q first then_ = record { same = then_.same ∙ first.same; puts = puts_then _ _ _ p q first.puts then_.puts }

-- nothing
pub takes_none : {S : Type 0} {W : S → Option (List ℕ)} {F : S → ℕ} (a : Pen S) → Takes W F a a []
takes_none a = record { same = refl; puts = puts_none _ }

-- the same by another name of the piece
pub takes_is : {S : Type 0} {W : S → Option (List ℕ)} {F : S → ℕ} (a b : Pen S) (p q : List ℕ) → Takes W F a b p → p ≡ q → Takes W F a b q
takes_is {W = W} {F = F} a b p q takes is = subst (λ x. Takes W F a b x) is takes

-- several pieces, one after another
pub pieces2 : {S : Type 0} {W : S → Option (List ℕ)} {F : S → ℕ} {a b c : Pen S} {p q : List ℕ} → Takes W F a b p → Takes W F b c q → Takes W F a c (p ++ q)
pieces2 first second = takes_then _ _ _ _ _ first second

pub pieces3 : {S : Type 0} {W : S → Option (List ℕ)} {F : S → ℕ} {a b c d : Pen S} {p q r : List ℕ} → Takes W F a b p → Takes W F b c q → Takes W F c d r → Takes W F a d (p ++ q ++ r)
pieces3 first second third = pieces2 (pieces2 first second) third

pub pieces4 : {S : Type 0} {W : S → Option (List ℕ)} {F : S → ℕ} {a b c d e : Pen S} {p q r s : List ℕ} → Takes W F a b p → Takes W F b c q → Takes W F c d r → Takes W F d e s → Takes W F a e (p ++ q ++ r ++ s)
pieces4 first second third fourth = pieces2 (pieces3 first second third) fourth

pub pieces5 : {S : Type 0} {W : S → Option (List ℕ)} {F : S → ℕ} {a b c d e f : Pen S} {p q r s t : List ℕ} → Takes W F a b p → Takes W F b c q → Takes W F c d r → Takes W F d e s → Takes W F e f t → Takes W F a f (p ++ q ++ r ++ s ++ t)
pieces5 first second third fourth fifth = pieces2 (pieces4 first second third fourth) fifth

pub pieces6 : {S : Type 0} {W : S → Option (List ℕ)} {F : S → ℕ} {a b c d e f g : Pen S} {p q r s t u : List ℕ} → Takes W F a b p → Takes W F b c q → Takes W F c d r → Takes W F d e s → Takes W F e f t → Takes W F f g u → Takes W F a g (p ++ q ++ r ++ s ++ t ++ u)
pieces6 first second third fourth fifth sixth = pieces2 (pieces5 first second third fourth fifth) sixth

-- the end of a line: what it ends with, and the line feed
pub ends : {S : Type 0} {W : S → Option (List ℕ)} {F : S → ℕ} {a b c : Pen S} {p : List ℕ} (x : List ℕ) → Takes W F a b p → Takes W F b c (x ++ codes "\n") → Takes W F a c (ended (p ++ x))
ends {p = p} x first second = takes_is _ _ _ _ (pieces2 first second) (sym (append_assoc p x (codes "\n")))

-- lines after lines
pub lines_then : {S : Type 0} {W : S → Option (List ℕ)} {F : S → ℕ} {a b c : Pen S} (p q : List (List ℕ)) → Takes W F a b (lines p) → Takes W F b c (lines q) → Takes W F a c (lines (p ++ q))
lines_then p q first second = takes_is _ _ _ _ (pieces2 first second) (sym (lines-append p q))

-- nothing was taken yet
pub taken_none : (w : Option (List ℕ)) (f : ℕ) → HasTaken w f [] (fresh w f)
taken_none w f = record {
  cut = (0, omega arith, sym (appended-nil w));
  kept = λ _. refl;
  risen = omega arith;
  calm = λ _. refl;
  fault = λ bad. cc;
}

-- ---- a piece that goes past the buffer

puts_through : (a b : Stand) (p : List ℕ) → a.buffer ≡ [] → Puts (record a { buffer = p }) b [] → Puts a b p
puts_through a b p empty sent =
    let kept : Puts a (record a { buffer = p }) p = puts_kept a (record a { buffer = p }) p refl refl refl (ap (λ x. x ++ p) (sym empty)) in
    subst (λ x. Puts a b x) (append-nil p) (puts_then a (record a { buffer = p }) b p [] kept sent)

-- it was handed over
pub piece_sent : (a b : Stand) (p : List ℕ) → a.buffer ≡ [] → b.buffer ≡ [] → a.failed ≡ false → b.failed ≡ false → b.written ≡ appended a.written p → b.faults ≡ a.faults → Puts a b p
piece_sent a b p empty left good still is same = puts_through a b p empty (puts_sent (record a { buffer = p }) b good still is same left)

-- its write failed
pub piece_cut : (a b : Stand) (p : List ℕ) → a.buffer ≡ [] → a.failed ≡ false → b.failed ≡ true → AppendsPrefix a.written p b.written → HasFault a.faults b.faults → a.faults ≤ b.faults → Puts a b p
piece_cut a b p empty good bad piece faulty rises = puts_through a b p empty (puts_cut (record a { buffer = p }) b good bad piece faulty rises)

-- a write had failed before
pub piece_lost : (a b : Stand) (p : List ℕ) → a.buffer ≡ [] → a.failed ≡ true → b.failed ≡ true → b.written ≡ a.written → b.faults ≡ a.faults → Puts a b p
piece_lost a b p empty bad still is same = puts_through a b p empty (puts_lost (record a { buffer = p }) b bad still is same)
