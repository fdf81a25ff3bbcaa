-- Why a bit that is clear is met at no shift so far.
use Rattle.std.proofs.Common.{◌≡◌, ℕ, ◌+◌, ◌*◌, ◌∙◌, sym, subst, arith, inl, inr}
use Rattle.std.proofs.lemmas.Bool.{cases_lt}
use Rattle.residue_solve.specs.ResidueMap.{met_bit}
use Rattle.residue_solve.proofs.Bits.{or_clear}
use Rattle.residue_solve.proofs.residue_map.any_met.Goals as goal

pub loop-s-preserved : goal.loop-s-preserved
loop-s-preserved c t i low lt small clear =
    let both = or_clear c.loop-s.found c.met-found.result i clear in
    elim (cases_lt t c.loop-s.s) [
      | inl before ↦ c.loop-s.invariant t i low before small both.0
      | inr here ↦
          let same : c.loop-s.s ≡ t = omega (arith, lt, here) in
          subst (λ (x : ℕ). met_bit c.args.a.now c.args.b x (64 * c.args.w + i) ≡ 0) same (sym (c.met-found.ensures i small) ∙ both.1)
    ]
