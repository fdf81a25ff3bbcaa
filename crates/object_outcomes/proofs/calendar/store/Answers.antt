use Rattle.std.proofs.Common.{◌≡◌, ◌∙◌, [], IfOk, None, Some, ap, option_map, subst, sym, true}
use Rattle.cal_model.specs.Calendar.{bad_properties, calendar_in, stored}
use Rattle.cal_model.specs.Operations.{put, within_quota}
use Rattle.cal_model.specs.Sound.{is_sound}
use Rattle.cal_model.specs.declared.outcome.Outcome.TheVariants.{Accepted}
use Rattle.spec_history.specs.declared.entry.Kind.TheVariants.{Calendar}
use Rattle.spec_json.specs.Data.{members_of, object as object_of}
use Rattle.spec_json.specs.TreeData.{data_of}
use Rattle.spec_json.specs.declared.tree.Tree.TheVariants.{Object}
use Rattle.object_outcomes.proofs.SoundLemmas.{calendar_sound}
use Rattle.object_outcomes.proofs.calendar.store.Goals as goal

pub returns-clause-exact : goal.returns-clause-exact
returns-clause-exact g c =
    let cs = g.V.CalendarsView.changes c.args.view.now in
    let object = c.in_ok-object.ensures ∙ ap (λ p. Object (stored p)) c.requires.calendar in
    subst (λ b. IfOk c.within_quota.result (λ j. j.outcome ≡ within_quota cs b None (put Calendar c.args.number (stored (calendar_in (data_of c.args.tree.now)))))) c.in_ok-exceeds_resources.ensures
    (subst (λ t. IfOk c.within_quota.result (λ j. j.outcome ≡ within_quota cs c.in_ok-exceeds_resources.field-0 None record { kind = Calendar; id = c.args.number; object = Some t }))
    object c.within_quota.ensures.exact)

pub within_quota-requires-clause-sound : goal.within_quota-requires-clause-sound
within_quota-requires-clause-sound g c fits =
    let zones = (g.V.CalendarsView.base c.args.view.now).zones in
    let cs = g.V.CalendarsView.changes c.args.view.now in
    let n = c.args.number in
    let d = data_of c.args.tree.now in
    let object = c.in_ok-object.ensures ∙ ap (λ p. Object (stored p)) c.requires.calendar in
    let valid = subst (λ p. bad_properties zones (object_of (members_of (stored p))) ≡ []) c.requires.calendar c.requires.valid in
    let room = subst (λ b. within_quota cs b None (put Calendar n (stored (calendar_in d))) ≡ Accepted (put Calendar n (stored (calendar_in d)))) c.in_ok-exceeds_resources.ensures
    (subst (λ t. within_quota cs c.in_ok-exceeds_resources.field-0 None record { kind = Calendar; id = n; object = Some t } ≡ Accepted record { kind = Calendar; id = n; object = Some t }) object fits) in
    subst (λ t. is_sound zones cs record { kind = Calendar; id = n; object = Some t } ≡ true) (sym object)
    (calendar_sound zones cs n (option_map (λ t. t.now) c.args.before) d c.requires.before c.requires.id c.requires.same valid room)
