-- Steps of a loop that writes copies, some at once.
use Rattle.std.specs.Prelude.{◌≡◌, ℕ, ◌+◌, ◌-◌, ◌*◌, ◌<◌, ◌≤◌, ℤ, pos, List, [], ◌∷◌, ◌++◌, length, take, flat_map}
use Rattle.std.proofs.Common.{sym, ap, ◌∙◌, arith, get_or, append-nil, append_assoc}
use Rattle.std.proofs.Math.ListN.{replicate}
use Rattle.std.proofs.lemmas.List.{replicate-append-replicate, take-replicate, take-take, take_more}
use Rattle.std.proofs.Math.Nat.{mul-le-mul_left}
use Rattle.std.proofs.Math.Seq.{take-append-add}
use Rattle.std.proofs.lemmas.List.Concat.{flat_map-append}
use Rattle.std.proofs.lemmas.Slice.{take-put_mid}
use borrow.Rule.Slice.PartMut.{put_mid}

-- four copies more
pub four-more : (room written front : List ℤ) (place gone : ℕ) (x : ℤ) → gone ≤ place → place ≤ length room → written ≡ replicate 4 x → take place room ≡ front ++ replicate (place - gone) x
    → take (place + 4) (put_mid place (place + 4 - place) room written) ≡ front ++ replicate (place + 4 - gone) x
four-more room written front place gone x since within is before =
    let size : length written ≡ 4 = ap length is in
    let more : place - gone + 4 ≡ place + 4 - gone = omega (arith, since) in
    take-put_mid place (place + 4 - place) room written (place + 4) (omega (arith, size)) within
    ∙ ap (λ l. l ++ written) before ∙ ap (λ l. (front ++ replicate (place - gone) x) ++ l) is
    ∙ append_assoc front (replicate (place - gone) x) (replicate 4 x)
    ∙ ap (λ l. front ++ l) (replicate-append-replicate (place - gone) 4 x ∙ ap (λ n. replicate n x) more)

-- a number more
pub number-more : (number i place end : ℕ) (items room front : List ℤ) (x : ℤ) → i < length items → x ≡ get_or items i (pos 0) → end ≡ number * i + number → end ≤ place
    → front ≡ flat_map (replicate number) (take i items) → length front ≡ number * i → take place room ≡ front ++ replicate (place - number * i) x
    → take end room ≡ flat_map (replicate number) (take (i + 1) items)
number-more number i place end items room front x within is ends past images size before =
    let y = get_or items i (pos 0) in
    let many : number ≤ place - number * i = omega (arith, ends, past) in
    let last : end ≡ length front + number = omega (arith, ends, size) in
    let one : flat_map (replicate number) (y ∷ []) ≡ replicate number y = append-nil (replicate number y) in
    sym (take-take end place room past) ∙ ap (take end) before
    ∙ ap (λ n. take n (front ++ replicate (place - number * i) x)) last ∙ take-append-add front (replicate (place - number * i) x) number
    ∙ ap (λ l. front ++ l) (take-replicate number (place - number * i) x many ∙ ap (replicate number) is ∙ sym one)
    ∙ ap (λ l. l ++ flat_map (replicate number) (y ∷ [])) images
    ∙ sym (flat_map-append (replicate number) (take i items) (y ∷ []))
    ∙ ap (flat_map (replicate number)) (sym (take_more items i (pos 0) within))

pub next-end : (number i : ℕ) → number * i + number ≡ number * (i + 1)
next-end number i = omega arith

-- the room has places for the copies of another number
pub room-left : (number i count size : ℕ) → i < count → number * count + 4 ≤ size → number * i + number + 4 ≤ size
room-left number i count size within enough =
    let less : number * (i + 1) ≤ number * count = mul-le-mul_left number (omega (arith, within)) in
    let next = next-end number i in
    omega (arith, less, next, enough)
