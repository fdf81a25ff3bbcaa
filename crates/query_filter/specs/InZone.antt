-- Filters whose times are those of a zone.
use Rattle.jiff_tz.specs.PosixText.{TzText}
use Rattle.spec_json.specs.Data.{Data}

-- a filter and the rule of the zone
pub record FilterInZone : Type 0 where
  pub filter : Data
  pub clock : TzText
