-- Why the day of a wall second in the years 0 to 9999 lies in these years.
use Rattle.std.proofs.Common.{◌≡◌, refl, rules, FitsSigned, w64}
use Rattle.std.proofs.lemmas.Int.{to_z-of_z}
use Rattle.spec_time.specs.Walls.{day_of_wall}
use Rattle.time_text.proofs.DateLemmas.{day_size, four_digit_year}
use Rattle.time_text.proofs.text.day_of_wall.Goals as goal

pub returns : goal.returns
returns c =
    let fits : FitsSigned w64 c.div_euclid.result = search rules in
    let is : c.div_euclid.result ≡ day_of_wall c.args.wall = search rules in
    let years = four_digit_year c.args.wall c.requires in
    simp to_z-of_z (rw is (record { value = refl; least = years.0; most = years.1; bound = day_size c.args.wall c.requires }))
