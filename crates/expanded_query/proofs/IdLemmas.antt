-- Ids that name other occurrences.
use Rattle.std.proofs.Common.{◌≡◌, ◌≢◌, ◌∙◌, ◌<◌, ◌^◌, ℕ, ℤ, List, Bool, true, false, Some, ap, refl}
use Rattle.std.proofs.lemmas.Slice.Eq.{bytes_eq-Decides}
use Rattle.std.specs.Str.{bytes_eq}
use Rattle.spec_recurrence.proofs.OccurrenceIdLemmas.{id_back}
use Rattle.spec_recurrence.specs.OccurrenceIds.{occurrence_id_in, occurrence_id_text}
use Rattle.spec_time.specs.Walls.{is_in_years}

-- an id that names another occurrence isn't the id of this one
pub another_id : (id own : List ℕ) (n : ℕ) (w : ℤ) → 0 < n → n < 2 ^ 64 → is_in_years w ≡ true → own ≡ occurrence_id_text n w → occurrence_id_in id ≢ Some (n, w) → bytes_eq id own ≡ false
another_id id own n w first small years is other = by_value (bytes_eq id own) refl
  where
    by_value : (b : Bool) → bytes_eq id own ≡ b → bytes_eq id own ≡ false
    by_value false e = e
    by_value true e = absurd (other (ap occurrence_id_in ((bytes_eq-Decides id own).0 e ∙ is) ∙ id_back n w first small years))
