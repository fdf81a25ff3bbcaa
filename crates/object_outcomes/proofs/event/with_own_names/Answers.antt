use Rattle.std.proofs.Common.{◌∙◌, ap, ap₂, codes}
use Rattle.cal_model.specs.Operations.{with_name_if}
use Rattle.object_outcomes.proofs.event.with_own_names.Goals as goal

pub returns : goal.returns
returns g c =
    c.in_ok-note_if-3.ensures
    ∙ ap (with_name_if c.args.names_id (codes "id")) (c.in_ok-note_if-2.ensures ∙ ap₂ (λ b names. with_name_if b (codes "uid") names) c.has_other_uid.ensures
    (c.in_ok-note_if.ensures ∙ ap₂ (λ b names. with_name_if b (codes "calendarIds") names) c.names_missing_calendar.ensures c.in_ok-note_booking.ensures))
