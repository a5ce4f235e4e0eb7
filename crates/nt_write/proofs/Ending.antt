-- What stands on the stream once a pen has handed all over.
use Rattle.std.proofs.Common.{◌≡◌, ◌≤◌, ℕ, List, [], ◌++◌, Option, true, false, sym, ap, ◌∙◌, subst, append-nil}
use Rattle.xt_base.specs.Outside.{appended, AppendsPrefix, HasFault}
use Rattle.nt_write.specs.declared.pen.Pen.{Pen}
use Rattle.nt_write.specs.Pen.{Stand, HasTaken, Takes, stand, fresh}
use Rattle.nt_write.proofs.Taking.{appended-nil, pieces2, taken_none}

-- the text was taken since the pen was made
taken_all : {S : Type 0} {W : S → Option (List ℕ)} {F : S → ℕ} {a b c : Pen S} {w : Option (List ℕ)} {f : ℕ} {text : List ℕ} → stand W F a ≡ fresh w f → Takes W F a b text → Takes W F b c [] → HasTaken w f text (stand W F c)
taken_all {W = W} {F = F} {a = a} {c = c} {w = w} {f = f} {text = text} start first last =
    let begun : HasTaken w f [] (stand W F a) = subst (λ s. HasTaken w f [] s) (sym start) (taken_none w f) in
    subst (λ t. HasTaken w f t (stand W F c)) (append-nil text) ((pieces2 first last).puts.takes w f [] begun)

-- what a stream took
pub record Took {S : Type 0} (W : S → Option (List ℕ)) (F : S → ℕ) (old new : S) (text : List ℕ) : Type 0 where
  pub never_falls : F old ≤ F new
  pub written : W new ≡ appended (W old) text
  pub same : F new ≡ F old

-- what a stream took until it failed
pub record Lost {S : Type 0} (W : S → Option (List ℕ)) (F : S → ℕ) (old new : S) (text : List ℕ) : Type 0 where
  pub never_falls : F old ≤ F new
  pub cut : AppendsPrefix (W old) text (W new)
  pub fault : HasFault (F old) (F new)

-- no write failed
pub took : {S : Type 0} {W : S → Option (List ℕ)} {F : S → ℕ} {a b c : Pen S} {old : S} {text : List ℕ} (new : S) → stand W F a ≡ fresh (W old) (F old) → Takes W F a b text → Takes W F b c [] → c.buffer.now.items ≡ [] → c.failed ≡ false → new ≡ c.out.now → Took W F old new text
took {W = W} {F = F} {c = c} {old = old} {text = text} new start first last empty good end =
    let all = taken_all start first last in
    let kept : W c.out.now ≡ appended (W old) text = sym (appended-nil (W c.out.now)) ∙ ap (λ x. appended (W c.out.now) x) (sym empty) ∙ all.kept good in
    record {
      never_falls = subst (λ x. F old ≤ F x) (sym end) all.risen;
      written = ap W end ∙ kept;
      same = ap F end ∙ all.calm good;
    }

-- one did
pub lost : {S : Type 0} {W : S → Option (List ℕ)} {F : S → ℕ} {a b c : Pen S} {old : S} {text : List ℕ} (new : S) → stand W F a ≡ fresh (W old) (F old) → Takes W F a b text → Takes W F b c [] → c.failed ≡ true → new ≡ c.out.now → Lost W F old new text
lost {W = W} {F = F} {c = c} {old = old} {text = text} new start first last bad end =
    let all = taken_all start first last in
    record {
      never_falls = subst (λ x. F old ≤ F x) (sym end) all.risen;
      cut = subst (λ x. AppendsPrefix (W old) text (W x)) (sym end) all.cut;
      fault = subst (λ x. HasFault (F old) (F x)) (sym end) (all.fault bad);
    }
