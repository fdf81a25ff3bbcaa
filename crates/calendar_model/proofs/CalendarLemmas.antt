-- What is stored of a calendar is read back.
use Rattle.std.proofs.Common.{◌≡◌, ℕ, List, Option, Some, None, refl}
use Rattle.cal_model.specs.Calendar.{CalendarProperties, calendar_in, stored, text_or_null}
use Rattle.spec_json.specs.Data.{members_of, object}
use Rattle.spec_json.specs.Parts.{as_text}

text_back : (t : Option (List ℕ)) → as_text (text_or_null t) ≡ t
text_back None = refl
text_back (Some s) = refl

pub read_back : (c : CalendarProperties) → calendar_in (object (members_of (stored c))) ≡ c
read_back c = rw (text_back c.description, text_back c.color, text_back c.time_zone, text_back c.resource_zone) refl
