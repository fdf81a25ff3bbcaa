-- An account goes on behind one change more that fits.
use Rattle.std.proofs.Common.{◌≡◌, ◌⊎◌, inl, inr, ◌++◌, ◌∷◌, ◌==◌, ◌&&◌, List, [], true, false, is_some, arith, ap}
use Rattle.std.proofs.lemmas.Bool.{or_left, or_right}
use Rattle.account_core.proofs.ResourceLimit.{resources_more}
use Rattle.account_core.proofs.SoundObjectLemmas.{sound_objects_more}
use Rattle.account_core.specs.Tally.{Tallies}
use Rattle.account_core.specs.declared.tally.Tally.{Tally}
use Rattle.account_rooms.specs.Rooms.{AreRooms, BookedRoom}
use Rattle.cal_model.specs.Fits.{IsFit}
use Rattle.cal_model.specs.GoesOn.{GoesOn}
use Rattle.object_outcomes.proofs.SoundObjects.{none_unsound_where_all_are_sound, sound_where_none_is_unsound}
use Rattle.spec_bookings.proofs.Tables.{number_same}
use Rattle.spec_history.specs.History.{ids_at, live_object, next_number}
use Rattle.spec_history.specs.Pages.{is_in}
use Rattle.spec_history.specs.declared.entry.Change.{Change}
use Rattle.spec_history.specs.declared.entry.Kind.TheVariants.{Calendar}
use Rattle.spec_site.specs.TimeZones.{ZoneText}
use Rattle.spec_snapshots.proofs.NumberedPast.{join_numbered}
use Rattle.spec_snapshots.specs.Numbered.{is_numbered}

numbered_by : (cs : List Change) (c : Change) → (c.id ≡ next_number cs c.kind) ⊎ (is_some (live_object cs c.kind c.id) ≡ true) → is_numbered cs c ≡ true
numbered_by cs c (inl next) = or_left (c.id == next_number cs c.kind) (is_some (live_object cs c.kind c.id)) (number_same c.id (next_number cs c.kind) next)
numbered_by cs c (inr live) = or_right (c.id == next_number cs c.kind) (is_some (live_object cs c.kind c.id)) live

-- by the tally and the rooms of all of them
pub goes_on_more : (zones : List ZoneText) (cs : List Change) (c : Change) (t : Tally) (rs : List BookedRoom) → GoesOn zones cs → IsFit zones cs c → is_in (ids_at cs Calendar) (next_number cs Calendar) ≡ false
    → Tallies t (cs ++ c ∷ []) → AreRooms zones (cs ++ c ∷ []) rs → GoesOn zones (cs ++ c ∷ [])
goes_on_more zones cs c t rs h fit new tallied rooms = record {
  numbered = join_numbered [] cs (c ∷ []) h.numbered (ap (λ b. b && true) (numbered_by cs c fit.number));
  objects = none_unsound_where_all_are_sound zones (cs ++ c ∷ []) (sound_objects_more zones cs c (sound_where_none_is_unsound zones cs h.objects) new fit);
  free = rooms.free;
  few = rooms.few;
  resources = resources_more zones cs c h.resources new fit;
  changes = omega (arith, t.few, tallied.entries);
  live = omega (arith, t.within, tallied.objects);
  size = omega (arith, t.small, tallied.size);
}
