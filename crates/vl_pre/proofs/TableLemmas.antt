-- What a change at one name leaves at every name.
use Rattle.std.proofs.Common.{◌≡◌, ℕ, Bool, true, false, cond, List, ap, sym, subst, ◌∙◌, ⊎_elim, Option, refl}
use Rattle.std.proofs.lemmas.Bool.{cases_Bool, cond-true, cond-false}
use Rattle.std.specs.Prelude.{bytes_eq}
use Rattle.std.specs.Cmp.Lexicographic.{bytes_decides, nat_list_eq_equiv}
use Rattle.std.specs.Option.{option_map}
use Rattle.std.specs.Map.{update, lookup, IsKeyTest, AreApart, KeepsOthers}
use Rattle.std.specs.HashMap as hash
use Rattle.std.specs.HashMap.{HashMap}
use Rattle.std.specs.declared.vec.Vec.{Vec}

apart : (bs cs ks : List ℕ) → bytes_eq bs cs ≡ false → bytes_eq bs ks ≡ true → bytes_eq cs ks ≡ false
apart bs cs ks n y = nat_list_eq_equiv.symm cs ks ∙ sym (nat_list_eq_equiv.congr bs ks cs y) ∙ n

other_entries : {K X : Type 0} (eq : K → K → Bool) (test : K → Bool) (old new : List (K × X)) → KeepsOthers eq test old new → (other : K → Bool) → IsKeyTest eq other → AreApart test other → lookup other new ≡ lookup other old
unfolding KeepsOthers
other_entries eq test old new h = h

-- g is w at bs, and f at other bytes
by_bytes : {W : Type 0} (f g : List ℕ → W) (bs : List ℕ) (w : W) → g bs ≡ w → ((cs : List ℕ) → bytes_eq bs cs ≡ false → g cs ≡ f cs) → (cs : List ℕ) → g cs ≡ cond (bytes_eq bs cs) w (f cs)
by_bytes f g bs w here other cs =
    ⊎_elim
    (λ y. subst (λ l. g l ≡ w) ((bytes_decides bs cs).0 y) here ∙ sym (cond-true (bytes_eq bs cs) w (f cs) y))
    (λ n. other cs n ∙ sym (cond-false (bytes_eq bs cs) w (f cs) n))
    (cases_Bool (bytes_eq bs cs))

-- a map by names after a change at the name bs
pub updates_names : {Z X S : Type 0} (bs : List ℕ) (m n : HashMap (Vec ℕ Z) X S) (w : Option X) → hash.UpdatesBy (λ x y. bytes_eq x.items y.items) (λ k. bytes_eq bs k.items) m n w
    → (cs : List ℕ) → hash.get_by (λ k. bytes_eq cs k.items) n ≡ cond (bytes_eq bs cs) w (hash.get_by (λ k. bytes_eq cs k.items) m)
updates_names bs m n w h =
    by_bytes (λ ds. hash.get_by (λ k. bytes_eq ds k.items) m) (λ ds. hash.get_by (λ k. bytes_eq ds k.items) n) bs w h.1
    (λ cs e. other_entries _ _ _ _ h.3 _ (λ x y. nat_list_eq_equiv.congr cs x.items y.items) (λ k. apart bs cs k.items e))

-- and what is seen of it
pub updates_seen : {Z X S Y : Type 0} (view : X → Y) (bs : List ℕ) (m n : HashMap (Vec ℕ Z) X S) (w : Option X) → hash.UpdatesBy (λ x y. bytes_eq x.items y.items) (λ k. bytes_eq bs k.items) m n w
    → (cs : List ℕ) → option_map view (hash.get_by (λ k. bytes_eq cs k.items) n) ≡ update bytes_eq (λ ds. option_map view (hash.get_by (λ k. bytes_eq ds k.items) m)) bs (option_map view w) cs
updates_seen view bs m n w h cs = ap (option_map view) (updates_names bs m n w h cs) ∙ go (bytes_eq bs cs) where
  go : (t : Bool) → option_map view (cond t w (hash.get_by (λ k. bytes_eq cs k.items) m)) ≡ cond t (option_map view w) (option_map view (hash.get_by (λ k. bytes_eq cs k.items) m))
  go true = refl
  go false = refl
