use Rattle.std.specs.Prelude.{◌≡◌, Some, drop, IfSome}
use Rattle.std.proofs.Common.{rules, sym, subst}
use Rattle.file_parts.proofs.Found.{between-known}
use Rattle.file_parts.proofs.between.lines_between.Goals as goal

-- src/between.rt:88:1
pub returns : goal.returns
returns g c = λ ordered.
    let known = g.P.PlacedBytes.bytes c.args.bytes.now in
    let left = g.P.Reader.Read.remaining in
    let a = c.in_ok-from.from in
    let reads : IfSome known (λ all. left c.in_ok-read_from.field-0 ≡ Some (drop a all)) = search rules in
    let limited = subst (λ r. IfSome known (λ all. left r ≡ Some (drop a all))) (sym c.take.ensures.inner) reads in
    between-known known (left c.take.result.inner) c.args.places.from c.args.places.to a c.in_ok-to.to c.take.result.limit ordered (search rules) (search rules) limited (search rules)
