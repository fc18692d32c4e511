-- What an insertion in a set is to the contents of its items.
use Rattle.std.proofs.Common.{◌≡◌, Bool, true, false, List, [], ◌∷◌, ◌++◌, if◌then◌else◌, ap, map, refl, sym, ◌∙◌}
use Rattle.std.specs.List.{list_any}
use Rattle.indexmap.specs.IndexSet.{insert_key, insert_all}
use Rattle.stages.specs.Tests.{either}
use Rattle.derived_collectors.specs.Sets.{as_keys, set_add, set_merge}

module _ {T C : Type 0} (content : T → C) (eq : T → T → Bool) (same : C → C → Bool) (agree : (x y : T) → eq x y ≡ same (content x) (content y)) where
  pub set_add-insert : (ts : List T) (x : T) → as_keys (map content (insert_key eq ts x)) ≡ set_add same (as_keys (map content ts)) (content x)
  set_add-insert [] x = refl
  set_add-insert (t ∷ ts) x =
      either (eq x t)
      (λ h.
      let h' : same (content x) (content t) ≡ true = sym (agree x t) ∙ h in
      simp (h, h'))
      (λ h.
      let h' : same (content x) (content t) ≡ false = sym (agree x t) ∙ h in
      let rest = ap (λ es. (content t, tt) ∷ es) (set_add-insert ts x) in
      either (list_any (eq x) ts)
      (λ i. simp (h, h', i) (simp i at rest))
      (λ i. simp (h, h', i) (simp i at rest)))

  -- an item of the content of y is put in, as x
  pub set_add-put : (ts now : List T) (x y : T) → now ≡ insert_key eq ts x → content x ≡ content y
      → as_keys (map content now) ≡ set_add same (as_keys (map content ts)) (content y)
  set_add-put ts now x y put alike =
      ap (λ ts. as_keys (map content ts)) put ∙ set_add-insert ts x ∙ ap (set_add same (as_keys (map content ts))) alike

  -- an item that is there changes nothing
  pub set_add-there : (ts : List T) (x : T) (found : Bool) → found ≡ list_any (eq x) ts → found ≡ true
      → as_keys (map content ts) ≡ set_add same (as_keys (map content ts)) (content x)
  set_add-there ts x found is there =
      ap (λ b. as_keys (map content (if b then ts else ts ++ x ∷ []))) (sym there ∙ is) ∙ set_add-insert ts x

  set_merge-insert_all : (ts xs : List T) → as_keys (map content (insert_all eq ts xs)) ≡ set_merge same (as_keys (map content ts)) (as_keys (map content xs))
  set_merge-insert_all ts [] = refl
  set_merge-insert_all ts (x ∷ xs) =
      set_merge-insert_all (insert_key eq ts x) xs
      ∙ ap (λ es. set_merge same es (as_keys (map content xs))) (set_add-insert ts x)

  pub set_merge-put : (ts xs now : List T) → now ≡ insert_all eq ts xs → as_keys (map content now) ≡ set_merge same (as_keys (map content ts)) (as_keys (map content xs))
  set_merge-put ts xs now put = ap (λ ts. as_keys (map content ts)) put ∙ set_merge-insert_all ts xs
