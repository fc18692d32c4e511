-- The laws of a collector over the members of lists.
use Rattle.std.specs.Prelude.{◌≡◌, List, [], ◌∷◌, ◌++◌, fold, flat_map, All, refl}
use Rattle.std.proofs.Common.{sym, ap, ap₂, ◌∙◌, append_assoc}
use Rattle.std.proofs.lemmas.List.Elements.{All-append, All-head, All-nil, All-tail}
use Rattle.std.proofs.lemmas.List.Sums.{fold-append}
use Rattle.collectors.specs.Laws.{CollectorLaws, merge_folds}

-- The members of an item's image, which is a list. java.util.stream.Collectors, flatMapping, where the image is a stream.
abbrev pub members_of : {X L Y : Type 0} → (X → L) → (L → List Y) → X → List Y
members_of image items = λ x. items (image x)

module _ {X Y A : Type 0} (members : X → List Y) (empty : A) (add : A → Y → A) where
  -- The members of an item's image are added in turn. java.util.stream.Collectors, flatMapping.
  abbrev pub add_members : A → X → A
  add_members a x = fold add a (members x)

  fold-members_from : (a : A) (l : List X) → fold add_members a l ≡ fold add a (flat_map members l)
  fold-members_from a [] = refl
  fold-members_from a (x ∷ l) = fold-members_from (fold add a (members x)) l ∙ sym (fold-append add a (members x) (flat_map members l))

  fold-members : (l : List X) → fold add_members empty l ≡ fold add empty (flat_map members l)
  fold-members l = fold-members_from empty l

  -- what is made of a list is what its members make
  pub made-members : (l : List X) (a : A) → a ≡ fold add_members empty l → a ≡ fold add empty (flat_map members l)
  made-members l a made = made ∙ fold-members l

  module _ (is_value : X → Type 0) (is_value' : Y → Type 0) (values : (x : X) → is_value x → All is_value' (members x)) where
    pub all-members : (l : List X) → All is_value l → All is_value' (flat_map members l)
    all-members [] v = All-nil is_value'
    all-members (x ∷ l) v =
        All-append is_value' (members x) (flat_map members l) (values x (All-head is_value x l v)) (all-members l (All-tail is_value x l v))

    pub flat_mapping_laws : (merge : A → A → A) → CollectorLaws is_value' empty add merge → CollectorLaws is_value empty add_members merge
    flat_mapping_laws merge laws =
        let flat : List X → List Y = λ l. flat_map members l in
        let made : List Y → A = λ l. fold add empty l in
        let merged = merge_folds is_value' empty add merge laws in
        record {
          identity = λ l v. ap (λ a. merge a empty) (fold-members l) ∙ laws.identity (flat l) (all-members l v) ∙ sym (fold-members l);
          associativity = λ l r x v w u.
              let ls = all-members l v in
              let rs = all-members r w in
              ap₂ (λ a b. merge a (fold add b (members x))) (fold-members l) (fold-members r)
              ∙ ap (merge (made (flat l))) (sym (fold-append add empty (flat r) (members x)))
              ∙ merged (flat l) (flat r ++ members x) ls (All-append is_value' (flat r) (members x) rs (values x u))
              ∙ ap made (sym (append_assoc (flat l) (flat r) (members x)))
              ∙ fold-append add empty (flat l ++ flat r) (members x)
              ∙ ap (λ a. fold add a (members x)) (sym (merged (flat l) (flat r) ls rs))
              ∙ sym (ap₂ (λ a b. fold add (merge a b) (members x)) (fold-members l) (fold-members r));
        }

-- the laws where the images of values are values, and the members of a list that is a value are
pub image_members_laws : {X L Y A : Type 0} (image : X → L) (items : L → List Y) (empty : A) (add : A → Y → A)
    → (is_value : X → Type 0) (is_list_value : L → Type 0) (is_member_value : Y → Type 0)
    → ((x : X) → is_value x → is_list_value (image x)) → ((list : L) → is_list_value list → All is_member_value (items list))
    → (merge : A → A → A) → CollectorLaws is_member_value empty add merge
    → CollectorLaws is_value empty (add_members (members_of image items) empty add) merge
image_members_laws image items empty add is_value is_list_value is_member_value images members =
    flat_mapping_laws (members_of image items) empty add is_value is_member_value (λ x value. members (image x) (images x value))
