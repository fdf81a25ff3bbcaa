-- The zones at the head of a list of JSON values.
use Rattle.std.specs.Prelude.{List, [], ◌∷◌, Option, Some, None}
use Rattle.spec_json.specs.Data.{Data}
use Rattle.spec_site.specs.Configuration.{zone_text}
use Rattle.spec_site.specs.TimeZones.{ZoneText}

abbrev pub with_zone : Option ZoneText → List ZoneText → List ZoneText
with_zone None zones = []
with_zone (Some zone) zones = zone ∷ zones

-- the names and rules of the items up to the first that isn't of that form
abbrev pub leading_zones : List Data → List ZoneText
leading_zones [] = []
leading_zones (d ∷ ds) = with_zone (zone_text d) (leading_zones ds)
