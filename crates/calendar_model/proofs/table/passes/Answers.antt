use Rattle.std.proofs.Common.{⊎_elim, refl}
use Rattle.property_table.proofs.TableLemmas.{unlike}
use Rattle.cal_model.specs.Calendar.{calendar_table}
use Rattle.calendar_model.proofs.table.passes.Goals as goal

pub returns-in-timeZone : goal.returns-in-timeZone
unfolding calendar_table
returns-in-timeZone c = ⊎_elim (λ e. rw e c.is_zone.ensures) (λ e. rw e c.is_zone.ensures) c.in-timeZone.is

pub returns-in-isSubscribed : goal.returns-in-isSubscribed
unfolding calendar_table
returns-in-isSubscribed c = ⊎_elim (λ e. rw e c.is_truth.ensures) (λ e. rw e c.is_truth.ensures) c.in-isSubscribed.is

pub returns-in-description : goal.returns-in-description
unfolding calendar_table
returns-in-description c = ⊎_elim (λ e. rw e c.is_text.ensures) (λ e. rw e c.is_text.ensures) c.in-description.is

pub returns-in_default : goal.returns-in_default
unfolding calendar_table
returns-in_default c =
    let d = c.in_default in
    rw (unlike d.not-id, unlike d.not-name, unlike d.not-description, unlike d.not-color, unlike d.not-sortOrder, unlike d.not-isSubscribed, unlike d.not-isVisible, unlike d.not-timeZone, unlike d.not-resourceZone) refl
