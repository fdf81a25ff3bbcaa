use Rattle.std.proofs.Common.{⊎_elim, refl}
use Rattle.property_table.proofs.TableLemmas.{unlike}
use Rattle.spec_events.specs.Participants.{participant_table}
use Rattle.participants.proofs.table.passes.Goals as goal

pub returns-in-name : goal.returns-in-name
unfolding participant_table
returns-in-name c = ⊎_elim (λ e. rw e c.is_text.ensures) (λ e. rw e c.is_text.ensures) c.in-name.is

pub returns-in_default : goal.returns-in_default
unfolding participant_table
returns-in_default c =
    let d = c.in_default in
    rw (unlike d.not-text, unlike d.not-roles, unlike d.not-name, unlike d.not-email, unlike d.not-sendTo, unlike d.not-participationStatus) refl
