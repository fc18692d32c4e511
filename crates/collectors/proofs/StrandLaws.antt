-- Strands that are joined side by side.
use Rattle.std.specs.Prelude.{◌≡◌, ℕ, ◌<◌, ◌==◌, Bool, true, false, List, [], ◌∷◌, ◌++◌, fold, All, refl, length, map, take, drop, ◌-◌}
use Rattle.std.proofs.Common.{sym, ap, ap₂, ◌∙◌, arith, get_or, append_assoc}
use Rattle.std.proofs.lemmas.List.{take_all, take-append-drop}
use Rattle.std.proofs.lemmas.List.Elements.{All-head, All-tail}
use Rattle.stages.specs.Operators.{IsAssociative}

module _ {C : Type 0} (is_value : C → Type 0) (join : C → C → C) (joins : (x y : C) → is_value x → is_value y → is_value (join x y)) (associative : IsAssociative is_value join) where
  -- a strand joined to what stands before it
  pub join-strand : (a b : C) (l : List C) → is_value a → is_value b → All is_value l → join a (fold join b l) ≡ fold join (join a b) l
  join-strand a b [] u v w = refl
  join-strand a b (x ∷ l) u v w =
      join-strand a (join b x) l u (joins b x v (All-head is_value x l w)) (All-tail is_value x l w)
      ∙ ap (λ c. fold join c l) (associative a b x u v (All-head is_value x l w))

  pub folded-value : (a : C) (l : List C) → is_value a → All is_value l → is_value (fold join a l)
  folded-value a [] u w = u
  folded-value a (x ∷ l) u w = folded-value (join a x) l (joins a x u (All-head is_value x l w)) (All-tail is_value x l w)

pub is-some : {T : Type 0} (l : List T) (empty : Bool) → empty ≡ (length l == 0) → empty ≡ false → 0 < length l
is-some [] empty is h = absurd (let e : true ≡ false = sym is ∙ h in cc)
is-some (x ∷ l) empty is h = omega arith

module _ {T C : Type 0} (content : T → C) (is_value : C → Type 0) (join : C → C → C) (joins : (x y : C) → is_value x → is_value y → is_value (join x y)) (associative : IsAssociative is_value join) where
  abbrev rest : List T → List T
  rest l = take (length l - 1) (drop 1 l)

  rest-all : (x : T) (l : List T) → rest (x ∷ l) ≡ l
  rest-all x l = take_all (length (x ∷ l) - 1) l (omega arith)

  -- the strand of a slice, joined to what stands before it
  pub strand-next : (a before start strand joined : C) (x : T) (l : List T) → 0 < length l → is_value a → All is_value (map content l)
      → start ≡ content x → x ≡ get_or l 0 x → strand ≡ fold join start (map content (rest l)) → before ≡ a → joined ≡ join before strand → joined ≡ fold join a (map content l)
  strand-next a before start strand joined x [] some v w b i s k j = absurd (omega (arith, some))
  strand-next a before start strand joined x (y ∷ l) some v w b i s k j =
      j ∙ ap (λ c. join c strand) k
      ∙ ap (join a) (s ∙ ap (λ c. fold join c (map content (rest (y ∷ l)))) (b ∙ ap content i) ∙ ap (λ r. fold join (content y) (map content r)) (rest-all y l))
      ∙ join-strand is_value join joins associative a (content y) (map content l) v (All-head is_value (content y) (map content l) w) (All-tail is_value (content y) (map content l) w)

  pub first-strand : (a start strand : C) (x : T) (l : List T) → 0 < length l → start ≡ join a (content x) → x ≡ get_or l 0 x → strand ≡ fold join start (map content (rest l))
      → strand ≡ fold join a (map content l)
  first-strand a start strand x [] some b i s = absurd (omega (arith, some))
  first-strand a start strand x (y ∷ l) some b i s =
      s ∙ ap (λ c. fold join c (map content (rest (y ∷ l)))) (b ∙ ap (λ y. join a (content y)) i) ∙ ap (λ r. fold join (join a (content y)) (map content r)) (rest-all y l)

  over : (a : C) (k l : List T) → fold join a (map content (k ++ l)) ≡ fold join (fold join a (map content k)) (map content l)
  over a [] l = refl
  over a (x ∷ k) l = over (join a (content x)) k l

  -- four slices one after another
  pub four-slices : (a : C) (k l m n : List T) → fold join (fold join (fold join (fold join a (map content k)) (map content l)) (map content m)) (map content n) ≡ fold join a (map content (k ++ l ++ m ++ n))
  four-slices a k l m n = sym (over a (k ++ l ++ m) n ∙ ap (λ s. fold join s (map content n)) (over a (k ++ l) m ∙ ap (λ s. fold join s (map content m)) (over a k l)))

  -- four slices off the front of a list, and what is left, joined in turn
  pub in-slices : (j joined last : C) (q : ℕ) (l a r b s c t d u : List T) → a ≡ take q l → r ≡ drop q l → b ≡ take q r → s ≡ drop q r → c ≡ take q s → t ≡ drop q s → d ≡ take q t → u ≡ drop q t
      → joined ≡ fold join j (map content (a ++ b ++ c ++ d)) → last ≡ fold join joined (map content u) → last ≡ fold join j (map content l)
  in-slices j joined last q l a r b s c t d u a_is r_is b_is s_is c_is t_is d_is u_is first then =
      then ∙ ap (λ k. fold join k (map content u)) first ∙ sym (over j (a ++ b ++ c ++ d) u) ∙ ap (λ l. fold join j (map content l)) whole
    where
      tail : (k m n o : List T) → k ≡ take q n → m ≡ drop q n → (o ++ k) ++ m ≡ o ++ n
      tail k m n o k_is m_is = append_assoc o k m ∙ ap (λ x. o ++ x) (ap₂ (λ x y. x ++ y) k_is m_is ∙ take-append-drop q n)

      whole : ((a ++ b ++ c) ++ d) ++ u ≡ l
      whole = tail d u t (a ++ b ++ c) d_is u_is ∙ tail c t s (a ++ b) c_is t_is ∙ tail b s r a b_is s_is ∙ ap₂ (λ x y. x ++ y) a_is r_is ∙ take-append-drop q l
