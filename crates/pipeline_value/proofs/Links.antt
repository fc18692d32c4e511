-- Links, with one more behind them, and stages.
use Rattle.std.proofs.Common.{◌≡◌, ◌<◌, ◌+◌, ◌++◌, ◌∷◌, [], ℕ, List, ap, length, refl, sym, take, ◌∙◌}
use Rattle.std.{specs.List.slice_index_or, proofs.lemmas.List.take_more}
use Rattle.chained_streams.specs.Chains.{through_links}
use Rattle.pipeline_meaning.specs.Walks.{one_after_other, stages-one-more}

pub through-push : {L C : Type 0} (value : L → List C → List C) (links : List L) (link : L) (items : List C)
    → through_links value (links ++ link ∷ []) items ≡ value link (through_links value links items)
through-push value [] link items = refl
through-push value (l ∷ links) link items = through-push value links link (value l items)

-- a stage more
pub stage-more : {S L : Type 0} (stage : S → L → L) (stages : List S) (at : ℕ) (d : S) (kept items : L) → at < length stages
    → kept ≡ one_after_other stage (take at stages) items → stage (slice_index_or stages at d) kept ≡ one_after_other stage (take (at + 1) stages) items
stage-more stage stages at d kept items within is =
    let s = slice_index_or stages at d in
    ap (stage s) is ∙ sym (stages-one-more stage (take at stages) s items) ∙ ap (λ l. one_after_other stage l items) (sym (take_more stages at d within))
