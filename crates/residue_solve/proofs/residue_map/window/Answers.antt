use Rattle.std.proofs.Common.{◌≡◌, ◌+◌, ◌-◌, ◌/◌, ◌%◌, ◌<◌, ◌^◌, get_or, arith, inl, inr}
use Rattle.std.proofs.lemmas.Bool.{cases_lt}
use Rattle.residue_solve.proofs.Bits.{window_low, window_high}
use Rattle.residue_solve.proofs.residue_map.window.Goals as goal

pub returns : goal.returns
returns c i h =
    let p = c.args.p in
    let lo = get_or c.args.words.now (p / 64) 0 in
    let hi = get_or c.args.words.now (p / 64 + 1) 0 in
    let lo_fits : lo < 2 ^ 64 = (c.type_inv.words (p / 64)).fits in
    let s_some : 0 < p % 64 = omega arith in
    let s_below : p % 64 < 64 = omega arith in
    elim (cases_lt (i + p % 64) 64) [
      | inl below ↦
          let e1 : (p + i) / 64 ≡ p / 64 = omega (arith, below) in
          let e2 : (p + i) % 64 ≡ p % 64 + i = omega (arith, below) in
          rw (e1, e2) (window_low lo hi (p % 64) i s_below below)
      | inr above ↦
          let e1 : (p + i) / 64 ≡ p / 64 + 1 = omega (arith, above, h) in
          let e2 : (p + i) % 64 ≡ i + p % 64 - 64 = omega (arith, above, h) in
          rw (e1, e2) (window_high lo hi (p % 64) i lo_fits s_some s_below h above)
    ]
