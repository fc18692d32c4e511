use Rattle.std.proofs.Common.{◌≡◌, ◌∙◌, ap, length, map, pos, ℤ}
use Rattle.std.specs.Int.{int_rem_euclid}
use Rattle.std.proofs.lemmas.List.{length-map}
use Rattle.stream_functions.specs.Lists.{map-flat_map}
use Rattle.stream_functions.proofs.BlockSteps.{written_over}
use Rattle.stream_functions.proofs.blocks.remainders.Goals as goal

pub returns-in-Some : goal.returns-in-Some
returns-in-Some c =
    let f : ℤ → ℤ = λ x. int_rem_euclid x (pos c.args.divisor.number) in
    let new = c.put_natural_remainders.new.items in
    let same = ap (λ n. map (λ x. int_rem_euclid x (pos n)) c.as_mut_slice.result.now) c.in-Some.ensures.same in
    let put : new ≡ map f c.as_mut_slice.result.now = c.put_natural_remainders.ensures ∙ same in
    let count : length new ≡ c.args.items.now.len = ap length put ∙ length-map c.as_mut_slice.result.now f ∙ c.as_mut_slice.ensures.len in
    written_over c.args.items.now.len new _ count ∙ put ∙ ap (map f) c.as_mut_slice.ensures.value ∙ map-flat_map f c.args.items.now.items

pub returns-in-Some-2 : goal.returns-in-Some-2
returns-in-Some-2 c =
    let f : ℤ → ℤ = λ x. int_rem_euclid x (pos c.args.divisor.number) in
    let new = c.put_remainders.new.items in
    let same = ap (λ n. map (λ x. int_rem_euclid x (pos n)) c.as_mut_slice-in-Some-2.result.now) c.in-Some-2.ensures.same in
    let put : new ≡ map f c.as_mut_slice-in-Some-2.result.now = c.put_remainders.ensures ∙ same in
    let count : length new ≡ c.args.items.now.len = ap length put ∙ length-map c.as_mut_slice-in-Some-2.result.now f ∙ c.as_mut_slice-in-Some-2.ensures.len in
    written_over c.args.items.now.len new _ count ∙ put ∙ ap (map f) c.as_mut_slice-in-Some-2.ensures.value ∙ map-flat_map f c.args.items.now.items
