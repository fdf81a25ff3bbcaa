-- The changes that an account takes behind others: what every accepted operation of a set makes sure of (RFC 8620 section 5.3).
use Rattle.std.specs.Prelude.{◌≡◌, ◌⊎◌, ◌<◌, ℕ, List, false, true, Option, Some, None, is_some, length}
use Rattle.cal_model.specs.EventObject.{has_event, names_missing_calendar}
use Rattle.cal_model.specs.Quota.{exceeds_quota}
use Rattle.cal_model.specs.Sound.{is_sound}
use Rattle.spec_events.specs.Events.{names_calendar}
use Rattle.spec_history.specs.History.{live_object, next_number}
use Rattle.spec_history.specs.declared.entry.Change.{Change}
use Rattle.spec_history.specs.declared.entry.Kind.{Kind}
use Rattle.spec_history.specs.declared.entry.Kind.TheVariants.{Calendar, Event}
use Rattle.spec_json.specs.Data.{Data}
use Rattle.spec_json.specs.TreeData.{data_of}
use Rattle.spec_json.specs.declared.tree.Tree.{Tree}
use Rattle.spec_recurrence.specs.SeriesOf.{series_in}
use Rattle.spec_bookings.specs.BookedResources.{other_bookings}
use Rattle.spec_bookings.specs.Resources.{is_resource, zone_of_resource}
use Rattle.spec_bookings.specs.declared.limits.TheConstants.{MAX_BOOKINGS}
use Rattle.spec_bookings.specs.Clashes.{IsClear}
use Rattle.spec_series.specs.Lengths.{IsWeekLong}
use Rattle.spec_series.specs.declared.series.Series.{Series}
use Rattle.spec_site.specs.TimeZones.{ZoneText}

-- The resource calendar of a number takes the booking of an event: the event is valid (RFC 8984 section 4), no occurrence of it is longer than
-- 7 days, the resource has room, and no second of all days would be covered twice. Resources are this server's own.
pub record IsBookable (zones : List ZoneText) (cs : List Change) (event calendar : ℕ) (d : Data) : Type 0 where
  pub series : Series
  pub valid : series_in zones d ≡ Some series
  pub week : IsWeekLong series
  pub room : length (other_bookings zones cs event calendar) < MAX_BOOKINGS
  pub clear : IsClear (other_bookings zones cs event calendar) series

-- the calendars of an event are live (`calendarIds` of the draft JMAP for Calendars), and each of them that is a resource takes its booking
pub record IsEventFit (zones : List ZoneText) (cs : List Change) (event : ℕ) (d : Data) : Type 0 where
  pub calendars : names_missing_calendar cs d ≡ false
  pub bookings : (calendar : ℕ) → names_calendar calendar d ≡ true → is_resource cs calendar ≡ true → IsBookable zones cs event calendar d

-- A new calendar is of a resource or not, and stays so; none is removed that a live event is in (`calendarHasEvent` of the draft JMAP for
-- Calendars).
abbrev pub IsObjectFit : List ZoneText → List Change → Kind → ℕ → Option Tree → Type 0
IsObjectFit zones cs Calendar n None = has_event cs n ≡ false
IsObjectFit zones cs Calendar n (Some t) = (n ≡ next_number cs Calendar) ⊎ (is_some (zone_of_resource t) ≡ is_resource cs n)
IsObjectFit zones cs Event n None = Unit {0}
IsObjectFit zones cs Event n (Some t) = IsEventFit zones cs n (data_of t)

-- A change that may follow these: the account has room for it, it creates the next object or is one of an object that is there, no second of
-- a resource is covered twice behind it where none was before, and the account would store its object again.
pub record IsFit (zones : List ZoneText) (cs : List Change) (c : Change) : Type 0 where
  pub room : exceeds_quota cs c ≡ false
  pub number : (c.id ≡ next_number cs c.kind) ⊎ (is_some (live_object cs c.kind c.id) ≡ true)
  pub object : IsObjectFit zones cs c.kind c.id c.object
  pub sound : is_sound zones cs c ≡ true
