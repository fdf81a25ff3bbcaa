use Rattle.std.proofs.Common.{◌≡◌, ◌∙◌, IfOk, ap, option_map, subst, sym, true}
use Rattle.cal_model.specs.EventObject.{with_server_values}
use Rattle.cal_model.specs.Operations.{stored_event_outcome}
use Rattle.cal_model.specs.Sound.{has_server_values, has_stored_form}
use Rattle.spec_history.specs.declared.entry.Kind.TheVariants.{Event}
use Rattle.spec_json.specs.Data.{members_of, object}
use Rattle.spec_time.specs.Moments.{IsMoment}
use Rattle.object_outcomes.proofs.ServerLemmas.{server_values_stand}
use Rattle.object_outcomes.proofs.SoundLemmas.{before_is}
use Rattle.object_outcomes.proofs.SoundObjects.{live_form}
use Rattle.object_outcomes.proofs.event.event_outcome.Goals as goal

pub stored_outcome-requires-clause-form : goal.stored_outcome-requires-clause-form
stored_outcome-requires-clause-form g c =
    let cs = g.V.CalendarsView.changes c.args.view.now in
    let before = option_map (λ t. t.now) c.args.before in
    let setting = c.args.setting.now in
    let form : has_stored_form Event c.args.number before ≡ true =
    subst (λ o. has_stored_form Event c.args.number o ≡ true) (before_is cs Event c.args.number before c.requires.before) (live_form (g.V.CalendarsView.base c.args.view.now).zones cs Event c.args.number c.has_sound_objects.ensures) in
    let moment = subst IsMoment c.seconds-range.ensures.value c.seconds-range.ensures.range in
    let members = c.in_ok-members.ensures ∙ ap (with_server_values setting.account.now setting.moment c.args.number before) c.in_ok-given.ensures in
    subst (λ ps. has_server_values Event c.args.number (object (members_of ps)) ≡ true) (sym members) (server_values_stand setting.account.now setting.moment c.args.number before c.args.object moment form)

pub returns-clause-exact : goal.returns-clause-exact
returns-clause-exact g c =
    let cs = g.V.CalendarsView.changes c.args.view.now in
    let before = option_map (λ t. t.now) c.args.before in
    subst (λ ps. IfOk c.stored_outcome.result (λ j. j.outcome ≡ stored_event_outcome c.args.setting.now.zones.now cs c.args.number before c.args.names_id ps))
    (c.in_ok-members.ensures ∙ ap (with_server_values c.args.setting.now.account.now c.args.setting.now.moment c.args.number before) c.in_ok-given.ensures)
    c.stored_outcome.ensures.exact
