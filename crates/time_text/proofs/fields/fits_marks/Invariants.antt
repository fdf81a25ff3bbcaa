use Rattle.std.proofs.Common.{◌≡◌, drop}
use Rattle.spec_time.specs.Forms.{fits_marks}
use Rattle.time_text.proofs.fields.fits_marks.Given as goal

abbrev pub invariant-loop-i : goal.invariant-loop-i
invariant-loop-i l = fits_marks (drop l.i l.form) (drop l.i l.text) ≡ fits_marks l.form l.text
