use Rattle.std.proofs.Common.{◌≡◌, ◌+◌, ◌*◌, ◌/◌, ◌%◌, ◌∙◌, ap, get_or, arith, refl}
use Rattle.std.specs.Prelude.{min}
use Rattle.std.specs.Int.{bit_at}
use Rattle.std.proofs.lemmas.Nat.Bits.{bit_at_and}
use Rattle.residue_solve.proofs.residue_map.joined.Goals as goal

pub returns : goal.returns
returns c i h =
    let w = c.args.w in
    let e1 : (64 * w + i) / 64 ≡ w = omega (arith, h) in
    let e2 : (64 * w + i) % 64 ≡ i = omega (arith, h) in
    let x = get_or c.args.a.now w 0 in
    bit_at_and x c.shifted_word.result i ∙ ap (λ y. min (bit_at x i) y) (c.shifted_word.ensures i h) ∙ rw (e1, e2) refl
