-- Why `day_of` gives the number of its date, and none where there is no such date.
use Rattle.std.proofs.Common.{rules, sym, ◌≡◌, ◌<◌, ◌^◌, pos, ◌+ℤ◌, ◌*ℤ◌, w16, w64, FitsSigned, arith}
use Rattle.std.proofs.lemmas.Int.{to_z-of_z, to_z_pos}
use Rattle.std.proofs.lemmas.Bool.{false≢true}
use Rattle.jiff_core.specs.Date.{epoch_day}
use Rattle.jiff_core.specs.Calendar.{IsYear}
use Rattle.jiff_core.proofs.SignedLemmas.{signed_arith, signed_casts}
use Rattle.spec_time.specs.CivilDay.{IsDateOf, cycles_later}
use Rattle.civil_days.proofs.DateLemmas.{day_number_size}
use Rattle.civil_days.proofs.MonthLemmas.{month_length_bound}
use Rattle.civil_days.proofs.JiffLemmas.{IsDateOf_later, IsJiffDate_earlier}
use Rattle.civil_days.proofs.days.day_of.Goals as goal

pub returns-then-month-gt12-clause-exact : goal.returns-then-month-gt12-clause-exact
returns-then-month-gt12-clause-exact c = λ h. omega (arith, c.then-month-gt12.either, month_length_bound c.args.year c.args.month)

pub overflow_mul-result : goal.overflow_mul-result
overflow_mul-result c = omega (arith, signed_arith)

pub overflow_add-result : goal.overflow_add-result
overflow_add-result c =
    let from_fits : FitsSigned w64 c.from.result = search rules in
    let days_fit : FitsSigned w64 (pos 146097 *ℤ c.div_euclid-cycle.result) = omega (arith, signed_arith) in
    simp to_z-of_z (omega (arith, signed_arith))

pub returns-in-Ok : goal.returns-in-Ok
returns-in-Ok c =
    let date = c.in-Ok.date in
    let parts = c.in-Ok.ensures.value in
    let cycle = c.div_euclid-cycle.result in
    let result = c.from.result +ℤ pos 146097 *ℤ cycle in
    let from_fits : FitsSigned w64 c.from.result = search rules in
    let cycle_fits : FitsSigned w64 cycle = omega (arith, signed_arith) in
    let days_fit : FitsSigned w64 (pos 146097 *ℤ cycle) = omega (arith, signed_arith) in
    let result_fits : FitsSigned w64 result = omega (arith, signed_arith) in
    let year : c.args.year ≡ date.year +ℤ cycle *ℤ pos 400 = omega (arith, signed_arith) in
    let month : date.month ≡ c.args.month = omega (arith, signed_casts) in
    let day : date.day ≡ c.args.day = omega (arith, signed_casts) in
    let number : result ≡ cycles_later (epoch_day date) cycle = omega (arith, signed_arith) in
    let found : IsDateOf result c.args.year c.args.month c.args.day =
    rw (← month, ← day) (IsDateOf_later result c.args.year cycle date year number) in
    simp to_z-of_z (record {
      exact = (found.0, sym found.1);
      bound = rw (← found.1) (omega (arith, day_number_size c.args.year c.args.month c.args.day found.0));
    })

pub returns-in-Err-clause-exact : goal.returns-in-Err-clause-exact
returns-in-Err-clause-exact c = λ h.
    let near = c.year_in_cycle.result in
    let cycle = c.div_euclid-cycle.result in
    let year : c.args.year ≡ near +ℤ cycle *ℤ pos 400 = omega (arith, signed_arith) in
    let in_range : IsYear near = omega (arith, signed_arith) in
    let date = IsJiffDate_earlier c.args.year near cycle c.args.month c.args.day year in_range h in
    let near_fits : FitsSigned w16 near = search rules in
    let month_small : c.args.month < 2 ^ 7 = omega arith in
    let day_small : c.args.day < 2 ^ 7 = omega arith in
    false≢true (c.in-Err.ensures.succeeds.1 (simp (to_z-of_z, to_z_pos) date))
