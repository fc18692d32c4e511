use Rattle.std.proofs.Common.{◌≡◌, ◌≢◌, ◌<◌, ◌≤◌, ◌⊎◌, ◌∷◌, [], ◌++◌, All, None, IsSome, length, length-append, reverse, not, inl, inr, ⊎_elim, refl, sym, ap, ◌∙◌, subst, arith, eqb-true}
use Rattle.std.specs.Option.{option_to_list}
use Rattle.std.proofs.lemmas.List.{nil_from_length}
use Rattle.std.proofs.lemmas.List.Elements.{All-nil, All-head}
use Rattle.std.proofs.lemmas.List.Sorted.{All-permutation}
use Rattle.std.proofs.lemmas.Result.{IfOk-weaker}
use Rattle.collectors.specs.Laws.{IsContainerOf}
use Rattle.placed_containers.specs.declared.pieces.Part.{Part}
use Rattle.placed_containers.specs.Parts.{IsPart}
use Rattle.placed_containers.specs.Ways.{HasPart, IsFalling, IsLongestWay, begin_of, end_of}
use Rattle.placed_containers.proofs.Joining.{all-pieces, long-left_out, long-opened, long-permuted, long-reversed, some-pieces}
use Rattle.placed_containers.proofs.Popping.{all-back, all-front, all-reverse, falling-above, falling-front, last-first, below-apart, none-of, some-of}
use Rattle.placed_containers.proofs.pieces.join_parts.Goals as goal
use Rattle.placed_containers.proofs.pieces.join_parts.Goals.{else-is_empty-via-then-is_empty+else-is_none, else-is_empty-via-else-is_empty}

pub loop-part-init : goal.loop-part-init
loop-part-init g c =
    let C = g.C.Collector in
    let it = c.args.collector.now in
    let parts = c.args.parts.items in
    let sorted = c.sort_parts.new.parts.items in
    let moved = c.sort_parts.ensures.permutation in
    let up : Part g.row.C-Acc.Denot → Type 0 = λ part. begin_of part ≤ end_of part in
    let long : Part g.row.C-Acc.Denot → Type 0 = λ part. (begin_of part < end_of part) × (end_of part ≤ 0) in
    let none : c.new.result.items ≡ [] = c.new.ensures.items in record {
      falling = c.sort_parts.ensures.falling;
      made = λ between n joins all.
          let is_part = IsPart (IsContainerOf g.C.Item.Value.is_value (C.content it) (C.empty it) (C.add it)) between n in
          (All-permutation is_part parts sorted moved all, (subst (All is_part) (sym none) (All-nil is_part), tt));
      within = λ all. (All-permutation up parts sorted moved all, λ some. (subst (All long) (sym none) (All-nil long), tt));
      longest = λ all p q h. subst (λ l. IsLongestWay (HasPart (l ++ reverse sorted)) p q) (sym none) (long-reversed sorted p q (long-permuted parts sorted moved p q h));
      some = λ some. inl (subst (λ k. 0 < k) (sym c.sort_parts.ensures.len) some);
    }

pub loop-part-preserved-then-is_none : goal.loop-part-preserved-then-is_none
loop-part-preserved-then-is_none g c =
    let C = g.C.Collector in
    let it = c.args.collector.now in
    let before = c.loop-part.invariant in
    let pieces = c.loop-part.pieces in
    let x = c.in-Some.part in
    let xs = c.pop.new.self.items in
    let up : Part g.row.C-Acc.Denot → Type 0 = λ part. begin_of part ≤ end_of part in
    let is : c.loop-part.parts.items ≡ xs ++ x ∷ [] = c.in-Some.ensures.items in
    let falls : IsFalling (xs ++ x ∷ []) = subst IsFalling is before.falling in
    let empty : xs ≡ [] = nil_from_length _ (sym c.pop.new.self.ok.0 ∙ eqb-true _ 0 (sym c.is_empty.ensures ∙ c.if-is_empty.true)) in
    let none : pieces.open ≡ None = none-of pieces.open (c.is_none.ensures ∙ ap not c.if-is_none.true) in record {
      falling = falling-front xs x falls;
      made = λ between n joins all.
          let is_part = IsPart (IsContainerOf g.C.Item.Value.is_value (C.content it) (C.empty it) (C.add it)) between n in
          let so = before.made between n joins all in
          let whole = subst (All is_part) is so.0 in
          (all-front is_part xs (x ∷ []) whole, (so.1.0, All-head is_part x [] (all-back is_part xs (x ∷ []) whole)));
      within = λ all. (all-front up xs (x ∷ []) (subst (All up) is (before.within all).0), λ some. absurd (let no = subst (λ l. 0 < length l) empty some in omega (arith, no)));
      longest = λ all p q h. long-opened pieces.done.items pieces.open xs c.loop-part.parts.items x none empty is p q (before.longest all p q h);
      some = λ some. inr refl;
    }

pub loop-part-preserved-then-not-tells_nothing_new : goal.loop-part-preserved-then-not-tells_nothing_new
loop-part-preserved-then-not-tells_nothing_new g c =
    let C = g.C.Collector in
    let it = c.args.collector.now in
    let before = c.loop-part.invariant in
    let pieces = c.loop-part.pieces in
    let x = c.in-Some.part in
    let xs = c.pop.new.self.items in
    let up : Part g.row.C-Acc.Denot → Type 0 = λ part. begin_of part ≤ end_of part in
    let is : c.loop-part.parts.items ≡ xs ++ x ∷ [] = c.in-Some.ensures.items in
    let falls : IsFalling (xs ++ x ∷ []) = subst IsFalling is before.falling in
    let above = falling-above xs x falls in
    let long = length-append xs (x ∷ []) in
    let some : 0 < length c.loop-part.parts.items = subst (λ l. 0 < length l) (sym is) (omega (arith, long)) in
    let lent = c.as_slice-then-not-tells_nothing_new.ensures.value in
    let apart : begin_of x ≢ end_of x = c.tells_nothing_new.ensures.length c.if-not-tells_nothing_new.true in record {
      falling = falling-front xs x falls;
      made = λ between n joins all.
          let is_part = IsPart (IsContainerOf g.C.Item.Value.is_value (C.content it) (C.empty it) (C.add it)) between n in
          let so = before.made between n joins all in
          let whole = subst (All is_part) is so.0 in
          (all-front is_part xs (x ∷ []) whole, c.in_ok-pieces.ensures.parts between n joins so.1 (All-head is_part x [] (all-back is_part xs (x ∷ []) whole)));
      within = λ all.
          let so = before.within all in
          let whole = subst (All up) is so.0 in
          let low : begin_of x ≤ end_of x = All-head up x [] (all-back up xs (x ∷ []) whole) in
          (all-front up xs (x ∷ []) whole, λ more. c.in_ok-pieces.ensures.length (so.1 some) (below-apart (begin_of x) (end_of x) low apart));
      longest = λ all p q h.
          let so = before.within all in
          let whole = subst (All up) is so.0 in
          let low : begin_of x ≤ end_of x = All-head up x [] (all-back up xs (x ∷ []) whole) in
          let next = subst (λ l. IsLongestWay (HasPart (pieces.done.items ++ (option_to_list pieces.open ++ l))) p q) (last-first xs c.loop-part.parts.items x is) (before.longest all p q h) in
          c.in_ok-pieces.ensures.longest (so.1 some) (below-apart (begin_of x) (end_of x) low apart) (reverse xs)
          (all-reverse (λ r. begin_of x ≤ begin_of r) xs above) (all-reverse up xs (all-front up xs (x ∷ []) whole))
          (λ alone. all-reverse (λ r. begin_of r ≢ begin_of x) xs (subst (All (λ r. begin_of r ≢ begin_of x)) lent
          (c.begins_alone-begins_alone.ensures (subst IsFalling (sym lent) (falling-front xs x falls)) (subst (All (λ r. begin_of x ≤ begin_of r)) (sym lent) above) alone)))
          p q next;
      some = λ some. inr c.in_ok-pieces.ensures.open;
    }

pub loop-part-preserved : goal.loop-part-preserved
loop-part-preserved g c =
    let C = g.C.Collector in
    let it = c.args.collector.now in
    let before = c.loop-part.invariant in
    let pieces = c.loop-part.pieces in
    let x = c.in-Some.part in
    let xs = c.pop.new.self.items in
    let up : Part g.row.C-Acc.Denot → Type 0 = λ part. begin_of part ≤ end_of part in
    let is : c.loop-part.parts.items ≡ xs ++ x ∷ [] = c.in-Some.ensures.items in
    let falls : IsFalling (xs ++ x ∷ []) = subst IsFalling is before.falling in
    let long = length-append xs (x ∷ []) in
    let some : 0 < length c.loop-part.parts.items = subst (λ l. 0 < length l) (sym is) (omega (arith, long)) in
    let why = subst (λ l. HasPart l (begin_of x) (end_of x) ⊎ (begin_of x ≡ end_of x)) c.as_slice.ensures.value (c.tells_nothing_new.ensures.again c.if-not-tells_nothing_new.false) in record {
      falling = falling-front xs x falls;
      made = λ between n joins all.
          let is_part = IsPart (IsContainerOf g.C.Item.Value.is_value (C.content it) (C.empty it) (C.add it)) between n in
          let so = before.made between n joins all in
          let whole = subst (All is_part) is so.0 in
          (all-front is_part xs (x ∷ []) whole, so.1);
      within = λ all. let so = before.within all in (all-front up xs (x ∷ []) (subst (All up) is so.0), λ more. so.1 some);
      longest = λ all p q h. long-left_out pieces.done.items (option_to_list pieces.open) xs c.loop-part.parts.items x is why p q (before.longest all p q h);
      some = λ some. elim c.else-is_empty.branch [
        | else-is_empty-via-then-is_empty+else-is_none w ↦ inr (w.is_none.ensures ∙ ap not w.if-is_none.false)
        | else-is_empty-via-else-is_empty w ↦ inl (subst (λ k. 0 < k) c.pop.new.self.ok.0 (some-of _ (sym c.is_empty.ensures ∙ w.if-is_empty.false)))
      ];
    }

pub returns-clause-parts : goal.returns-clause-parts
returns-clause-parts g c = λ between n joins all.
    let C = g.C.Collector in
    let it = c.args.collector.now in
    let is_part = IsPart (IsContainerOf g.C.Item.Value.is_value (C.content it) (C.empty it) (C.add it)) between n in
    let so = (c.loop-part.invariant.made between n joins all).1 in
    let pieces = c.loop-part.pieces in
    IfOk-weaker c.close.result _ _ (λ list is. subst (All is_part) (sym is) (all-pieces is_part pieces.done.items pieces.open so.0 so.1)) c.close.ensures

pub returns-clause-longest : goal.returns-clause-longest
returns-clause-longest g c = λ all p q h.
    let pieces = c.loop-part.pieces in
    let over : c.loop-part.parts.items ≡ [] = nil_from_length _ (sym c.loop-part.parts.ok.0 ∙ c.in_default.ensures.cases.0) in
    let led = subst (λ l. IsLongestWay (HasPart (pieces.done.items ++ (option_to_list pieces.open ++ reverse l))) p q) over (c.loop-part.invariant.longest all p q h) in
    IfOk-weaker c.close.result _ _ (λ list is. subst (λ l. IsLongestWay (HasPart l) p q) (sym is) led) c.close.ensures

pub returns-clause-some : goal.returns-clause-some
returns-clause-some g c = λ some.
    let pieces = c.loop-part.pieces in
    let over : c.loop-part.parts.items ≡ [] = nil_from_length _ (sym c.loop-part.parts.ok.0 ∙ c.in_default.ensures.cases.0) in
    let there : IsSome pieces.open = ⊎_elim (λ left. absurd (let no = subst (λ l. 0 < length l) over left in omega (arith, no))) (λ s. s) (c.loop-part.invariant.some some) in
    IfOk-weaker c.close.result _ _ (λ list is. subst (λ l. 0 < length l) (sym is) (some-pieces pieces.done.items pieces.open there)) c.close.ensures
