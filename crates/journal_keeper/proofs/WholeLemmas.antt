-- A history of which nothing is forgotten.
use Rattle.std.proofs.Common.{◌≡◌, List, [], inl, refl, sym, ap}
use Rattle.std.specs.List.{range_with_len}
use Rattle.spec_history.specs.declared.entry.Entry.{Entry}
use Rattle.spec_history.specs.declared.entry.Kind.{Kind}
use Rattle.spec_history.specs.declared.entry.Kind.TheVariants.{Calendar, Event}
use Rattle.spec_snapshots.specs.Kept.{IsFloor, IsKeptFrom, floor_of, object_among, rise_within}
use Rattle.spec_snapshots.specs.declared.kept.KeptHistory.{KeptHistory}
use Rattle.spec_snapshots.specs.declared.kept.KindFloor.{KindFloor}

-- the floor in front of all entries
pub record IsFirst (f : KindFloor) : Type 0 where
  pub state : f.state ≡ 0
  pub created : f.created ≡ 0
  pub live : f.live.items ≡ []

first_floor : (kind : Kind) (f : KindFloor) → IsFirst f → IsFloor [] kind f
first_floor kind f h = record {
  state = h.state;
  numbers = sym (ap (range_with_len 1) h.created);
  rising = ap (rise_within 1 f.created) h.live;
  live = λ id. ap (λ ls. object_among ls id) h.live;
}

pub whole_kept : (k : KeptHistory) (told : List Entry) → told ≡ k.behind.items → IsFirst k.calendars → IsFirst k.events → IsKeptFrom told k
whole_kept k told is calendars events = record {
  past = [];
  whole = is;
  numbered = refl;
  own = refl;
  floors = floors;
  forgotten = λ kind. inl (states kind);
}
  where
    floors : (kind : Kind) → IsFloor [] kind (floor_of k kind)
    floors Calendar = first_floor Calendar k.calendars calendars
    floors Event = first_floor Event k.events events

    states : (kind : Kind) → (floor_of k kind).state ≡ 0
    states Calendar = calendars.state
    states Event = events.state
