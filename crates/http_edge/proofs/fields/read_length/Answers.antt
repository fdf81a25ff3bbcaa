use Rattle.std.proofs.Common.{◌-◌, length, get_or, arith, sym, ◌∙◌}
use Rattle.http_edge.proofs.Lengths.{fits, digit_bounds}
use Rattle.http_edge.proofs.fields.read_length.Goals as goal

pub overflow_mul-number : goal.overflow_mul-number
overflow_mul-number c =
    let h = fits c.loop-byte.number c.loop-byte.byte-index (length c.args.value.now) 0 c.loop-byte.invariant.2 c.loop-byte-test.true c.if-value-gt19.false (omega arith) in
    omega (arith, h)

pub overflow_add-number : goal.overflow_add-number
overflow_add-number c =
    let b = digit_bounds (get_or c.args.value.now c.loop-byte.byte-index 0) (sym c.is_ascii_digit.ensures.value ∙ c.if-not-is_ascii_digit.false) in
    let h = fits c.loop-byte.number c.loop-byte.byte-index (length c.args.value.now) (get_or c.args.value.now c.loop-byte.byte-index 0 - 48) c.loop-byte.invariant.2 c.loop-byte-test.true c.if-value-gt19.false (omega (arith, b.0, b.1)) in
    omega (arith, h)
