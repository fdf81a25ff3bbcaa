use Rattle.std.proofs.Common.{refl}
use Rattle.cal_model.specs.Calendar.{calendar_table}
use Rattle.property_table.proofs.TableLemmas.{unlike}
use Rattle.account_core.proofs.properties.is_calendar_property.Goals as goal

pub returns-in_default : goal.returns-in_default
unfolding calendar_table
returns-in_default c =
    let d = c.in_default in
    rw (unlike d.not-id, unlike d.not-name, unlike d.not-description, unlike d.not-color, unlike d.not-sortOrder, unlike d.not-isSubscribed, unlike d.not-isVisible, unlike d.not-timeZone, unlike d.not-resourceZone) refl
