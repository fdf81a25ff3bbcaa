use Rattle.std.proofs.Common.{ap, length, refl, subst, sym, List, ◌∙◌}
use Rattle.account_store.specs.declared.kept.KeptEvent.{KeptEvent}
use Rattle.event_store.specs.ReadSeries.{AreRead}
use Rattle.object_log.specs.Histories.{Follows}
use Rattle.object_log.specs.declared.put.Put.{Put}
use Rattle.spec_history.specs.History.{changes_of}
use Rattle.spec_history.specs.declared.entry.Kind.TheVariants.{Calendar, Event}
use Rattle.spec_json.specs.declared.tree.Tree.{Tree}
use Rattle.store_opening.proofs.LogLemmas.{follows_by, opens_at}
use Rattle.store_opening.proofs.ReadLemmas.{past_read}
use Rattle.store_opening.specs.Puts.{with_series}
use Rattle.store_opening.proofs.open.at_floors.Goals as goal

pub new-requires-clause-calendars : goal.new-requires-clause-calendars
new-requires-clause-calendars c =
    let cs = changes_of c.args.past.items in
    subst (λ (ps : List (Put Tree)). Follows (λ (t : Tree). t) ps Calendar cs) (sym c.in_ok-calendars.ensures.puts) (follows_by (λ (t : Tree). t) (λ (t : Tree). t) (λ t. refl) Calendar cs)

pub new-requires-clause-events : goal.new-requires-clause-events
new-requires-clause-events c =
    let cs = changes_of c.args.past.items in
    subst (λ (ps : List (Put KeptEvent)). Follows (λ (e : KeptEvent). e.object) ps Event cs) (sym c.in_ok-events.ensures.puts) (follows_by (with_series c.args.zones.now) (λ (e : KeptEvent). e.object) (λ t. refl) Event cs)

pub new-requires-clause-calendars_at : goal.new-requires-clause-calendars_at
new-requires-clause-calendars_at c =
    let at = opens_at (λ (t : Tree). t) (λ (t : Tree). t) (λ t. refl) Calendar (changes_of c.args.past.items) c.args.calendars c.requires.calendars in
    c.in_ok-calendars.ensures.first ∙ sym (ap (λ (ps : List (Put Tree)). length ps) c.in_ok-calendars.ensures.puts ∙ at.state)

pub new-requires-clause-events_at : goal.new-requires-clause-events_at
new-requires-clause-events_at c =
    let at = opens_at (with_series c.args.zones.now) (λ (e : KeptEvent). e.object) (λ t. refl) Event (changes_of c.args.past.items) c.args.events c.requires.events in
    c.in_ok-events.ensures.first ∙ sym (ap (λ (ps : List (Put KeptEvent)). length ps) c.in_ok-events.ensures.puts ∙ at.state)

pub returns-clause-read : goal.returns-clause-read
returns-clause-read c = subst (λ (ps : List (Put KeptEvent)). AreRead c.args.zones.now ps) (sym (c.new.ensures.events ∙ c.in_ok-events.ensures.puts)) (past_read c.args.zones.now (changes_of c.args.past.items))

pub returns-clause-calendars_from : goal.returns-clause-calendars_from
returns-clause-calendars_from c =
    let at = opens_at (λ (t : Tree). t) (λ (t : Tree). t) (λ t. refl) Calendar (changes_of c.args.past.items) c.args.calendars c.requires.calendars in
    c.new.ensures.calendars_from ∙ ap (λ (ps : List (Put Tree)). length ps) c.in_ok-calendars.ensures.puts ∙ at.state

pub returns-clause-events_from : goal.returns-clause-events_from
returns-clause-events_from c =
    let at = opens_at (with_series c.args.zones.now) (λ (e : KeptEvent). e.object) (λ t. refl) Event (changes_of c.args.past.items) c.args.events c.requires.events in
    c.new.ensures.events_from ∙ ap (λ (ps : List (Put KeptEvent)). length ps) c.in_ok-events.ensures.puts ∙ at.state
