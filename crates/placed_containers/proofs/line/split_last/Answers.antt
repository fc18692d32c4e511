use Rattle.std.proofs.Common.{◌≡◌, ◌∙◌, ◌∷◌, [], map, rules, ap, sym}
use Rattle.std.proofs.lemmas.List.{map-append}
use Rattle.serde_json.specs.Data.{array}
use Rattle.serde_json.specs.View.{view, items_of}
use Rattle.serde_json.proofs.Views.{view-Array}
use Rattle.placed_containers.proofs.Members.{some-items}
use Rattle.placed_containers.proofs.line.split_last.Goals as goal

pub returns-in_err-last-clause-known : goal.returns-in_err-last-clause-known
returns-in_err-last-clause-known c = λ before last told.
    let none : c.in-Array.members.items ≡ [] = search rules in
    absurd (some-items before last (sym told ∙ ap view c.in-Array.is ∙ view-Array c.in-Array.members ∙ ap (λ ms. array (items_of (map view ms))) none))

pub returns-clause-form : goal.returns-clause-form
returns-clause-form c =
    ap view c.in-Array.is ∙ view-Array c.in-Array.members
    ∙ ap (λ ms. array (items_of (map view ms))) c.in_ok-last.ensures.items
    ∙ ap (λ ms. array (items_of ms)) (map-append view c.pop.new.self.items (c.in_ok-last.last ∷ []))
