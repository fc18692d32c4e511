-- What a keeper was offered, between two states.
use Rattle.std.specs.Prelude.{◌≡◌, List, [], ◌++◌}
use Rattle.std.proofs.Common.{sym, subst, ◌∙◌, append-nil, append_assoc}

-- whatever list was offered before, these items were offered behind it
abbrev pub Offers : {T A : Type 0} → (List T → A → Type 0) → A → List T → A → Type 0
Offers {T} keeps before xs after = (whole : List T) → keeps whole before → keeps (whole ++ xs) after

pub offers-none : {T A : Type 0} (keeps : List T → A → Type 0) (a : A) → Offers keeps a [] a
offers-none {T} keeps a whole kept = subst (λ (l : List T). keeps l a) (sym (append-nil whole)) kept

pub offers-both : {T A : Type 0} (keeps : List T → A → Type 0) (a b c : A) (xs ys : List T) → Offers keeps a xs b → Offers keeps b ys c → Offers keeps a (xs ++ ys) c
offers-both {T} keeps a b c xs ys p q whole kept = subst (λ (l : List T). keeps l c) (append_assoc whole xs ys) (q (whole ++ xs) (p whole kept))

module _ {D N C : Type 0} where
  -- The same between two states of a keeper, whose demand, need and collector stay: the later state has its own names for them.
  pub takes-both : {T A : Type 0} (keeps : D → C → List T → A → Type 0) {d e h : D} {m n o : N} {f g i : C} (a b c : A) (xs ys : List T)
      → (e ≡ d) × (n ≡ m) × (g ≡ f) × Offers (keeps d f) a xs b → (h ≡ e) × (o ≡ n) × (i ≡ g) × Offers (keeps e g) b ys c
      → (h ≡ d) × (o ≡ m) × (i ≡ f) × Offers (keeps d f) a (xs ++ ys) c
  takes-both keeps {d} {e} {h} {m} {n} {o} {f} {g} {i} a b c xs ys p q =
      let P : D → Type 0 = λ z. Offers (keeps z f) b ys c in
      let Q : C → Type 0 = λ z. Offers (keeps e z) b ys c in
      (q.0 ∙ p.0, q.1 ∙ p.1, q.2 ∙ p.2, offers-both (keeps d f) a b c xs ys p.3 (subst P p.0 (subst Q p.2 q.3)))

  pub ready-kept : (ready : D → C → Type 0) (is_need : D → N → Type 0) (d e : D) (m n : N) (f g : C) → e ≡ d → n ≡ m → g ≡ f → ready d f × is_need d m → ready e g × is_need e n
  ready-kept ready is_need d e m n f g h i j r =
      let P : D → Type 0 = λ z. is_need z n in
      let Q : D → Type 0 = λ z. ready z g in
      (subst Q (sym h) (subst (ready d) (sym j) r.0), subst P (sym h) (subst (is_need d) (sym i) r.1))

module _ {B : Type 0} where
  -- The same between two states of a container that is filled, whose collector stays.
  pub fills-both : {T A : Type 0} (keeps : B → List T → A → Type 0) {c d e : B} (f g h : A) (xs ys : List T)
      → (d ≡ c) × Offers (keeps c) f xs g → (e ≡ d) × Offers (keeps d) g ys h → (e ≡ c) × Offers (keeps c) f (xs ++ ys) h
  fills-both keeps {c} {d} {e} f g h xs ys p q =
      let P : B → Type 0 = λ z. Offers (keeps z) g ys h in
      (q.0 ∙ p.0, offers-both (keeps c) f g h xs ys p.1 (subst P p.0 q.1))

  pub fills-ready : (ready : B → Type 0) {c d : B} → d ≡ c → ready c → ready d
  fills-ready ready h r = subst ready (sym h) r
