-- Why what is read lies in the years that four digits write.
use Rattle.std.proofs.Common.{◌≡◌, ◌==◌, codes, length, sym, ◌∙◌, true}
use Rattle.std.proofs.lemmas.Bool.{and_parts}
use Rattle.spec_time.specs.Forms.{fits_form, fits_marks}
use Rattle.spec_time.specs.LocalTimes.{spaced_wall}
use Rattle.time_text.proofs.DateLemmas.{spaced_in_years}
use Rattle.time_text.proofs.local.read_local.Goals as goal

pub returns-then-fits_form-clause-years : goal.returns-then-fits_form-clause-years
returns-then-fits_form-clause-years c =
    let text = c.args.text.now in
    let fits : fits_form (codes "0000-00-00T00:00:00") text ≡ true = sym c.fits_form.ensures ∙ c.if-fits_form.true in
    let marks = and_parts (length text == length (codes "0000-00-00T00:00:00")) (fits_marks (codes "0000-00-00T00:00:00") text) fits in
    let is : c.wall.result ≡ spaced_wall text =
    let f = c.spaced_fields.ensures in rw (f.year, f.month, f.day, f.hour, f.minute, f.second) at c.wall.ensures in
    rw is (spaced_in_years (codes "-00-00T00:00:00") text marks.1)
