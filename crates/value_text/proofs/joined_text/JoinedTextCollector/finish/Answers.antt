use Rattle.std.proofs.Common.{◌≡◌, ◌++◌, [], ◌∙◌, sym, ap, ap₂, append-nil, ℕ, List, Option, None, map, unwrap_or, fold}
use Rattle.collectors.specs.NestedLaws.{add_image, fold-image}
use Rattle.collectors.specs.Reductions.{delimited, reduce_add}
use Rattle.collectors.specs.Texts.{join_with, joined}
use Rattle.value_text.proofs.joined_text.JoinedTextCollector.finish.Goals as goal
use Rattle.value_text.proofs.joined_text.JoinedTextCollector.finish.Goals.{in-Some+in_ok-append, in_default}

-- the texts that were written are the items' with the one between them
written : {X : Type 0} (spelling : X → List ℕ) (between : List ℕ) (l : List X) (texts : Option (List ℕ))
    → texts ≡ fold (add_image spelling None (reduce_add (join_with between))) None l → unwrap_or texts [] ≡ delimited between (map spelling l)
written spelling between l texts made =
    ap (λ o. unwrap_or o []) (made ∙ fold-image spelling None (reduce_add (join_with between)) l) ∙ joined between (map spelling l)

pub returns : goal.returns
returns g c = λ l values made.
    let front = c.args.self.now.front.now in
    let back = c.args.self.now.back.now in
    let texts = delimited c.args.self.now.between.now (map g.T.Spelled.spelling l) in
    let text : unwrap_or c.args.acc [] ≡ texts = written g.T.Spelled.spelling c.args.self.now.between.now l c.args.acc made in
    let begun : c.of-text.result ≡ front = c.of-text.ensures ∙ c.in_ok-front.ensures.ok in
    let both : c.match-acc-2.text ≡ front ++ texts =
    elim c.match-acc-2.branch [
      | in-Some+in_ok-append w ↦ w.text-is ∙ w.in_ok-append.ensures ∙ ap₂ (λ a b. a ++ b) begun (ap (λ o. unwrap_or o []) (sym w.in-Some.is) ∙ text)
      | in_default w ↦ w.text-is ∙ begun ∙ sym (append-nil front) ∙ ap (λ t. front ++ t) (ap (λ o. unwrap_or o []) (sym w.in_default.is) ∙ text)
    ] in
    c.in_ok-push_str.ensures ∙ ap (λ t. t ++ back) both
