use Rattle.std.proofs.Common.{◌≡◌, ◌∙◌, ap, refl, rules, ℤ, List, ℕ, to_z, of_z, w64}
use Rattle.std.specs.Prelude.{Option, None}
use Rattle.std.proofs.lemmas.Int.{wraps}
use Rattle.weblog.specs.Log as spec
use Rattle.weblog.proofs.line.RequestsLineFunction.read.Goals as goal

same_parts : (s s' h h' b b' : ℤ) (c c' p p' : List ℕ) → s ≡ s' → h ≡ h' → b ≡ b' → c ≡ c' → p ≡ p'
    → ◌≡◌ {A = spec.Content} (s, (h, (b, (c, p)))) (s', (h', (b', (c', p'))))
same_parts s s' h h' b b' c c' p p' es eh eb ec ep = rw (es, eh, eb, ec, ep) refl

told : (r parts : spec.Content) (lack : Option ℤ) → lack ≡ spec.lacks parts → parts ≡ r → spec.or_fault lack r ≡ spec.or_fault (spec.lacks r) r
told r parts lack lacks same = ap (λ it. spec.or_fault it r) (lacks ∙ ap spec.lacks same)

pub returns-in-Some : goal.returns-in-Some
returns-in-Some c =
    let kept_status : to_z w64 (of_z w64 c.number-status.result) ≡ c.number-status.result = search (rules, wraps) in
    let kept_hour : to_z w64 (of_z w64 c.number-hour.result) ≡ c.number-hour.result = search (rules, wraps) in
    let kept_bytes : to_z w64 (of_z w64 c.number-bytes.result) ≡ c.number-bytes.result = search (rules, wraps) in
    let status = kept_status ∙ c.number-status.ensures ∙ ap spec.number (c.piece_of.ensures ∙ ap (spec.at_space 1) c.pieces.ensures.third) in
    let hour = kept_hour ∙ c.number-hour.ensures ∙ ap spec.number (c.hour.ensures ∙ ap spec.hour c.pieces.ensures.first) in
    let bytes = kept_bytes ∙ c.number-bytes.ensures ∙ ap spec.number (c.sent.ensures ∙ ap spec.sent c.pieces.ensures.third) in
    let same = same_parts _ _ _ _ _ _ _ _ _ _ status hour bytes (c.client-client.ensures ∙ ap spec.client c.pieces.ensures.first) (c.path-path.ensures ∙ ap spec.path c.pieces.ensures.second) in
    told (spec.request c.args.line.now) _ _ c.in-Some.ensures same

pub returns : goal.returns
returns c =
    let kept_status : to_z w64 (of_z w64 c.number-status.result) ≡ c.number-status.result = search (rules, wraps) in
    let kept_hour : to_z w64 (of_z w64 c.number-hour.result) ≡ c.number-hour.result = search (rules, wraps) in
    let kept_bytes : to_z w64 (of_z w64 c.number-bytes.result) ≡ c.number-bytes.result = search (rules, wraps) in
    let status = kept_status ∙ c.number-status.ensures ∙ ap spec.number (c.piece_of.ensures ∙ ap (spec.at_space 1) c.pieces.ensures.third) in
    let hour = kept_hour ∙ c.number-hour.ensures ∙ ap spec.number (c.hour.ensures ∙ ap spec.hour c.pieces.ensures.first) in
    let bytes = kept_bytes ∙ c.number-bytes.ensures ∙ ap spec.number (c.sent.ensures ∙ ap spec.sent c.pieces.ensures.third) in
    let client = c.client-client.ensures ∙ ap spec.client c.pieces.ensures.first in
    let path = c.path-path.ensures ∙ ap spec.path c.pieces.ensures.second in
    let same = same_parts _ _ _ _ _ _ _ _ _ _ status hour bytes client path in
    let owned = same_parts _ _ _ _ _ _ _ _ _ _ status hour bytes (c.in_ok-client.ensures.ok ∙ client) (c.in_ok-path.ensures.ok ∙ path) in
    ap (λ r. spec.or_fault None r) owned ∙ told (spec.request c.args.line.now) _ None c.in_default.ensures same
