-- A text that ends before its form.
use Rattle.std.proofs.Common.{◌≡◌, ◌≤◌, ◌<◌, ℕ, zero, suc, List, [], ◌∷◌, false, drop, length, refl, arith}
use Rattle.std.proofs.lemmas.List.{drop_all}
use Rattle.spec_time.specs.Forms.{fits_marks}

marks_left : (form : List ℕ) (i : ℕ) → i < length form → fits_marks (drop i form) [] ≡ false
marks_left [] i h = absurd (omega arith)
marks_left (f ∷ fs) zero h = refl
marks_left (f ∷ fs) (suc i) h = marks_left fs i (omega arith)

pub too_short : (form text : List ℕ) (i : ℕ) → i < length form → length text ≤ i → fits_marks (drop i form) (drop i text) ≡ false
too_short form text i a b = rw (drop_all i text b) (marks_left form i a)
