-- Parts that lead on to the end.
use Rattle.std.specs.Prelude.{◌≡◌, ◌⊎◌, ℕ, Bool, true, false, List, [], ◌∷◌, ◌++◌, Any, refl, reverse, if◌then◌else◌, nat_eq}
use Rattle.std.specs.List.{list_any}
use Rattle.std.proofs.Common.{inl, inr, sym, ap, ◌∙◌, subst, eq-eqb, true≢false}
use Rattle.std.proofs.lemmas.List.{reverse-append}
use Rattle.indexmap.specs.IndexSet.{insert_key}
use Rattle.placed_containers.specs.declared.pieces.Part.{Part}
use Rattle.placed_containers.specs.Ways.{begin_of, end_of, IsStop, LeadsOn, reached}
use Rattle.placed_containers.proofs.Anys.{any-none, any-here, any-there, any-cases}
use Rattle.placed_containers.proofs.Reached.{in-one, put-sides}

module _ {A : Type 0} (n : ℕ) where
  stop-more : (x : Part A) (parts : List (Part A)) (p : ℕ) → IsStop n parts p → IsStop n (x ∷ parts) p
  stop-more x parts p (inl e) = inl e
  stop-more x parts p (inr a) = inr (any-there (λ y. begin_of y ≡ p) x parts a)

  last-first : (parts : List (Part A)) (x : Part A) → x ∷ reverse parts ≡ reverse (parts ++ x ∷ [])
  last-first parts x = sym (reverse-append parts (x ∷ []))

  -- at first the end alone is reached
  pub stops-first : (keys : List ℕ) (parts : List (Part A)) → keys ≡ n ∷ [] → (p : ℕ) → list_any (nat_eq p) keys ≡ true → IsStop n parts p
  stops-first keys parts e p h = inl (in-one n p (subst (λ l. list_any (nat_eq p) l ≡ true) e h))

  -- a part that ends at a stop
  pub leads-more : (parts all : List (Part A)) (x : Part A) → all ≡ parts ++ x ∷ [] → IsStop n (reverse parts) (end_of x) → LeadsOn n (reverse parts) → LeadsOn n (reverse all)
  leads-more parts all x e stop leads = subst (λ l. LeadsOn n (reverse l)) (sym e) (subst (LeadsOn n) (last-first parts x) (stop, leads))

  pub stops-more : (keys more : List ℕ) (parts all : List (Part A)) (x : Part A) → more ≡ insert_key nat_eq keys (begin_of x) → all ≡ parts ++ x ∷ []
      → ((p : ℕ) → list_any (nat_eq p) keys ≡ true → IsStop n (reverse parts) p) → (p : ℕ) → list_any (nat_eq p) more ≡ true → IsStop n (reverse all) p
  stops-more keys more parts all x put e stops p h =
      subst (λ l. IsStop n (reverse l) p) (sym e) (subst (λ l. IsStop n l p) (last-first parts x) (at (put-sides (list_any (nat_eq (begin_of x)) keys) keys p (begin_of x) (subst (λ l. list_any (nat_eq p) l ≡ true) put h))))
    where
      at : (list_any (nat_eq p) keys ≡ true) ⊎ (p ≡ begin_of x) → IsStop n (x ∷ reverse parts) p
      at (inl k) = stop-more x (reverse parts) p (stops p k)
      at (inr same) = inr (any-here (λ y. begin_of y ≡ p) x (reverse parts) (sym same))

  -- the walk: a part is taken where it begins at the end so far
  pub stop-taken : (x : Part A) (rest parts : List (Part A)) (place end : ℕ) → parts ≡ x ∷ rest → end ≡ (if nat_eq place (begin_of x) then end_of x else place) → LeadsOn n parts → IsStop n parts place
      → LeadsOn n rest × IsStop n rest end
  stop-taken x rest parts place end is e leads stop =
      let on : LeadsOn n (x ∷ rest) = subst (LeadsOn n) is leads in
      let here : IsStop n (x ∷ rest) place = subst (λ l. IsStop n l place) is stop in
      (on.1, subst (IsStop n rest) (sym e) (taken (nat_eq place (begin_of x)) refl on.0 here))
    where
      passed : nat_eq place (begin_of x) ≡ false → (begin_of x ≡ place) ⊎ Any (λ y. begin_of y ≡ place) rest → IsStop n rest place
      passed f (inl same) = absurd (true≢false (sym (eq-eqb place (begin_of x) (sym same)) ∙ f))
      passed f (inr a) = inr a

      later : nat_eq place (begin_of x) ≡ false → IsStop n (x ∷ rest) place → IsStop n rest place
      later f (inl at_end) = inl at_end
      later f (inr a) = passed f (any-cases (λ y. begin_of y ≡ place) x rest a)

      taken : (b : Bool) → nat_eq place (begin_of x) ≡ b → IsStop n rest (end_of x) → IsStop n (x ∷ rest) place → IsStop n rest (if b then end_of x else place)
      taken true t next here = next
      taken false f next here = later f here

  pub stop-last : (parts : List (Part A)) (p : ℕ) → parts ≡ [] → IsStop n parts p → p ≡ n
  stop-last parts p e (inl same) = same
  stop-last parts p e (inr a) = absurd (any-none (λ y. begin_of y ≡ p) (subst (Any (λ y. begin_of y ≡ p)) e a))

module _ {A : Type 0} where
  pub reached-more : (keys more : List ℕ) (x : Part A) (rest parts : List (Part A)) (all : List ℕ) → parts ≡ x ∷ rest → more ≡ insert_key nat_eq keys (begin_of x)
      → list_any (nat_eq (end_of x)) keys ≡ true → reached keys parts ≡ all → reached more rest ≡ all
  reached-more keys more x rest parts all is put there goes =
      ap (λ l. reached l rest) put ∙ sym (ap (λ b. reached (if b then insert_key nat_eq keys (begin_of x) else keys) rest) there) ∙ sym (ap (reached keys) is) ∙ goes

  pub reached-less : (keys : List ℕ) (x : Part A) (rest parts : List (Part A)) (all : List ℕ) → parts ≡ x ∷ rest
      → list_any (nat_eq (end_of x)) keys ≡ false → reached keys parts ≡ all → reached keys rest ≡ all
  reached-less keys x rest parts all is there goes =
      sym (ap (λ b. reached (if b then insert_key nat_eq keys (begin_of x) else keys) rest) there) ∙ sym (ap (reached keys) is) ∙ goes
