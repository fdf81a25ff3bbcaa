use Rattle.std.proofs.Common.{◌≡◌, IfOk, option_map, subst, sym, true}
use Rattle.cal_model.specs.Operations.{stored_calendar_outcome}
use Rattle.cal_model.specs.Sound.{has_own_id}
use Rattle.spec_history.specs.declared.entry.Kind.TheVariants.{Calendar}
use Rattle.object_outcomes.proofs.ServerLemmas.{own_id_stands}
use Rattle.object_outcomes.proofs.calendar.calendar_outcome.Goals as goal

pub returns-clause-exact : goal.returns-clause-exact
returns-clause-exact g c =
    subst (λ d. IfOk c.stored_outcome.result (λ j. j.outcome ≡ stored_calendar_outcome c.args.setting.now.zones.now (g.V.CalendarsView.changes c.args.view.now)
    c.args.number (option_map (λ t. t.now) c.args.before) c.args.names_id d)) c.in_ok-tree.ensures c.stored_outcome.ensures.exact

pub stored_outcome-requires-clause-id : goal.stored_outcome-requires-clause-id
stored_outcome-requires-clause-id g c = subst (λ d. has_own_id Calendar c.args.number d ≡ true) (sym c.in_ok-tree.ensures) (own_id_stands Calendar c.args.number c.args.object)
