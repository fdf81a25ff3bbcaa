use Rattle.std.proofs.Common.{◌==◌, ◌&&◌, ◌∙◌, Bool, ap, length, sym}
use Rattle.std.proofs.lemmas.Bool.{and_left, and_right}
use Rattle.cal_model.specs.Calendar.{bad_properties, calendar_in, stored}
use Rattle.cal_model.specs.Sound.{has_own_id}
use Rattle.spec_history.specs.declared.entry.Kind.TheVariants.{Calendar}
use Rattle.spec_json.specs.Data.{members_of, object}
use Rattle.spec_json.specs.SameData.{same_data}
use Rattle.spec_json.specs.TreeData.{data_of}
use Rattle.object_outcomes.proofs.NameLemmas.{not_none}
use Rattle.object_outcomes.proofs.sound.is_sound_calendar.Goals as goal

pub returns-then-not-branch : goal.returns-then-not-branch
returns-then-not-branch c cs =
    let d = data_of c.args.calendar.now in
    sym (and_left _ (same_data (object (members_of (stored (calendar_in d)))) d)
    (and_left (has_own_id Calendar c.args.number d) (length (bad_properties c.args.zones.now d) == 0) (sym c.in_ok-has_own_id.ensures ∙ c.if-not-branch.true)))

pub returns-in-Ok : goal.returns-in-Ok
returns-in-Ok c cs =
    let d = data_of c.args.calendar.now in
    let same = λ (b : Bool). b && same_data (object (members_of (stored (calendar_in d)))) d in
    c.same.ensures ∙ ap (λ t. same_data (data_of t) d) c.in_ok-tree-in-Ok.ensures ∙ ap (λ k. same_data (object (members_of (stored k))) d) c.in-Ok.ensures.value
    ∙ sym (ap (λ b. same (b && (length (bad_properties c.args.zones.now d) == 0))) (sym c.in_ok-has_own_id.ensures ∙ c.if-not-branch.false) ∙ ap (λ ns. same (length ns == 0)) c.in-Ok.ensures.valid)

pub returns-in-Err-BadCalendar : goal.returns-in-Err-BadCalendar
returns-in-Err-BadCalendar c cs =
    let d = data_of c.args.calendar.now in
    let bad = rw c.in-Err-BadCalendar.field-0-is at c.in-Err-BadCalendar.ensures.err in
    sym (and_left _ (same_data (object (members_of (stored (calendar_in d)))) d) (and_right (has_own_id Calendar c.args.number d) _ (not_none (bad_properties c.args.zones.now d) bad.1)))
