use Rattle.std.proofs.Common.{◌≡◌, ◌+◌, ◌-◌, ◌||◌, ◌∙◌, ℕ, List, ap, false, flat_map, sym, true}
use Rattle.std.specs.List.{list_any}
use Rattle.account_core.proofs.LiveEvents.{has_event_from, next_event}
use Rattle.account_core.specs.Ledger.{changes}
use Rattle.account_core.specs.Uses.{is_object_in_calendar}
use Rattle.cal_model.specs.EventObject.{has_event}
use Rattle.spec_events.specs.Events.{names_calendar}
use Rattle.spec_history.specs.History.{live_object, some_object}
use Rattle.spec_history.specs.declared.entry.Kind.TheVariants.{Event}
use Rattle.spec_json.specs.TreeData.{data_of}
use Rattle.account_core.proofs.uses.is_any_in_calendar.Goals as goal

pub loop-before-preserved : goal.loop-before-preserved
loop-before-preserved c =
    let cs = changes c.args.ledger.now in
    let before = c.loop-before.before in
    let events = c.args.ledger.now.tally.events in
    let elsewhere : is_object_in_calendar c.args.calendar (live_object cs Event (before + 1)) ≡ false = sym c.is_in_calendar.ensures ∙ c.if-is_in_calendar.false in
    sym (next_event cs c.args.calendar before events c.loop-before-test.true ∙ ap (λ b. b || has_event_from cs c.args.calendar (before + 1 + 1) (events - (before + 1))) elsewhere)
    ∙ c.loop-before.invariant

pub returns-then-is_in_calendar : goal.returns-then-is_in_calendar
returns-then-is_in_calendar c =
    let l = c.args.ledger.now in
    let cs = changes l in
    let before = c.loop-before.before in
    let events = l.tally.events in
    let calendar = c.args.calendar in
    let here : is_object_in_calendar calendar (live_object cs Event (before + 1)) ≡ true = sym c.is_in_calendar.ensures ∙ c.if-is_in_calendar.true in
    let first : has_event_from cs calendar (before + 1) (events - before) ≡ true =
    next_event cs calendar before events c.loop-before-test.true ∙ ap (λ b. b || has_event_from cs calendar (before + 1 + 1) (events - (before + 1))) here in
    let all : has_event_from cs calendar 1 events ≡ has_event cs calendar =
    ap (λ (ids : List ℕ). list_any (λ t. names_calendar calendar (data_of t)) (flat_map (λ id. some_object (live_object cs Event id)) ids)) (sym (l.told.numbers Event)) in
    sym first ∙ c.loop-before.invariant ∙ all
