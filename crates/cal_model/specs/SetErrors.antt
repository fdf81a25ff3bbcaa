-- Why one object of a set was refused, as clients see it (RFC 8620 section 5.3).
use Rattle.std.specs.Prelude.{ℕ, pos, List, [], ◌∷◌, ◌++◌, codes, map}
use Rattle.std.specs.Option.{option_map_or}
use Rattle.spec_history.specs.ObjectId.{id_text}
use Rattle.spec_history.specs.declared.entry.Kind.TheVariants.{Calendar, Event}
use Rattle.spec_json.specs.Data.{Data, Pair, null, text, whole, list, object, items_of, members_of}
use Rattle.cal_model.specs.declared.set_error.SetError.{SetError}
use Rattle.cal_model.specs.declared.set_error.SetError.TheVariants.{NotFound, WillDestroy, InvalidPatch, InvalidProperties, CalendarHasEvent, Forbidden, OverQuota, Clashes}

abbrev pub set_error_type : SetError → List ℕ
set_error_type NotFound = codes "notFound"
set_error_type WillDestroy = codes "willDestroy"
set_error_type (InvalidPatch key) = codes "invalidPatch"
set_error_type (InvalidProperties properties) = codes "invalidProperties"
set_error_type CalendarHasEvent = codes "calendarHasEvent"
set_error_type Forbidden = codes "forbidden"
set_error_type OverQuota = codes "overQuota"
set_error_type (Clashes calendar clash) = codes "clash"

-- the key of a patch that fails; the properties that are bad; or the first second of a clash, by its day and the second of that day, and its calendar
abbrev pub reason : SetError → List Pair
reason (InvalidPatch key) = (codes "key", text key) ∷ []
reason (InvalidProperties properties) = (codes "properties", list (items_of (map text properties))) ∷ []
reason (Clashes calendar clash) =
    (codes "calendarId", text (id_text Calendar calendar)) ∷ (codes "day", whole clash.day) ∷ (codes "second", whole (pos clash.second)) ∷ []
reason NotFound = []
reason WillDestroy = []
reason CalendarHasEvent = []
reason Forbidden = []
reason OverQuota = []

-- the event whose booking covers that second, null where it is the proposed event itself
abbrev pub other_event : SetError → List Pair
other_event (Clashes calendar clash) = (codes "with", option_map_or (λ n. text (id_text Event n)) clash.with null) ∷ []
other_event e = []

abbrev pub set_error : SetError → Data
set_error e = object (members_of (reason e ++ (codes "type", text (set_error_type e)) ∷ other_event e))
