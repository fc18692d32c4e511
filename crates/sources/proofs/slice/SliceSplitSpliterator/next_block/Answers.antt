use Rattle.std.proofs.Common.{◌≡◌, ◌++◌, map, sym, ap, ap₂, ◌∙◌}
use Rattle.std.proofs.lemmas.List.{take-append-drop, map-append}
use Rattle.spliterator.specs.Clones.{clones-tested, clones-contents}
use Rattle.sources.proofs.slice.SliceSplitSpliterator.next_block.Goals as goal

pub returns-clause-moved : goal.returns-clause-moved
returns-clause-moved g c =
    let content = g.T.Value.content in
    let items = c.args.self.now.items.now in
    let block = c.split_at.result.0.now in
    let rest = c.split_at.result.1.now in
    let alike = clones-tested g.T.Value.same g.met.T.Value.same_decides g.T.Clone.is_clone content c.args.self.now.clones_alike in
    let clones = c.in_ok-extend_from_slice.ensures.items in
    let room : c.extend_from_slice.new.self.items ≡ clones.0 = clones.1 ∙ ap (λ l. l ++ clones.0) c.clear.ensures.items in
    let parts : items ≡ block ++ rest = sym (take-append-drop c.min.result items) ∙ ap₂ (λ a b. a ++ b) (sym c.split_at.ensures.front) (sym c.split_at.ensures.back) in
    ap (map content) parts ∙ map-append content block rest
    ∙ ap (λ l. l ++ map content rest) (sym (clones-contents g.T.Clone.is_clone content alike block clones.0 clones.2) ∙ ap (map content) (sym room))
