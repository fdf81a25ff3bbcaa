use Rattle.std.proofs.Common.{◌≡◌, ◌∷◌, [], drop, length, arith, ap}
use Rattle.std.proofs.lemmas.List.{drop_all, length-append}
use Rattle.json.specs.Print.{escape}
use Rattle.json_edge.proofs.length.quoted_length.Goals as goal

pub returns : goal.returns
returns c =
    let none_left : drop c.loop-byte.byte-index c.as_bytes-byte-items.result.now ≡ [] = drop_all c.loop-byte.byte-index c.as_bytes-byte-items.result.now c.loop-byte-test.false in
    let nothing = ap (λ bs. length (escape bs)) none_left in
    let same = ap (λ bs. length (escape bs)) c.as_bytes-byte-items.ensures.value in
    omega (arith, nothing, c.loop-byte.invariant.sum, c.loop-byte.invariant.small, length-append (escape c.args.text.now) (34 ∷ []), same)
