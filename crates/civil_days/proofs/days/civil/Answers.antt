-- Why `civil` gives the date of its day: the date of `jiff` and the whole cycles make up a date with that number.
use Rattle.std.proofs.Common.{◌≡◌, rules, arith, pos, ◌+ℤ◌, ◌*ℤ◌, FitsSigned, w64}
use Rattle.std.proofs.lemmas.Int.{to_z-of_z}
use Rattle.jiff_core.specs.Date.{epoch_day}
use Rattle.jiff_core.proofs.SignedLemmas.{signed_arith}
use Rattle.spec_time.specs.CivilDay.{cycles_later}
use Rattle.civil_days.proofs.DateLemmas.{one_date}
use Rattle.civil_days.proofs.YearLemmas.{year_of_size}
use Rattle.civil_days.proofs.JiffLemmas.{IsDateOf_later}
use Rattle.civil_days.proofs.days.civil.Goals as goal

pub overflow_add-result : goal.overflow_add-result
overflow_add-result c =
    let from_fits : FitsSigned w64 c.from.result = search rules in
    let years_fit : FitsSigned w64 (pos 400 *ℤ c.div_euclid.result) = omega (arith, signed_arith) in
    simp to_z-of_z (omega (arith, signed_arith))

pub returns : goal.returns
returns c =
    let date = c.from_days_since_min-date.result in
    let cycle = c.div_euclid.result in
    let result = c.from.result +ℤ pos 400 *ℤ cycle in
    let from_fits : FitsSigned w64 c.from.result = search rules in
    let cycle_fits : FitsSigned w64 cycle = omega (arith, signed_arith) in
    let years_fit : FitsSigned w64 (pos 400 *ℤ cycle) = omega (arith, signed_arith) in
    let result_fits : FitsSigned w64 result = omega (arith, signed_arith) in
    let year : result ≡ date.year +ℤ cycle *ℤ pos 400 = omega (arith, signed_arith) in
    let day : c.args.day ≡ cycles_later (epoch_day date) cycle = omega (arith, signed_arith) in
    let is = IsDateOf_later c.args.day result cycle date year day in
    let same = (one_date c.args.day).only result date.month date.day is in
    simp to_z-of_z (record { year = same.0; month = same.1; day = same.2; date = is; bound = rw same.0 (year_of_size c.args.day) })
