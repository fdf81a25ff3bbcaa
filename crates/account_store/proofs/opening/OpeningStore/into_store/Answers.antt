use Rattle.std.proofs.Common.{◌≤◌, arith, length}
use Rattle.account_store.proofs.OpeningLemmas.{known_all}
use Rattle.account_store.specs.declared.kept.KeptEvent.{KeptEvent}
use Rattle.spec_history.specs.History.{changes_of}
use Rattle.spec_history.specs.declared.entry.Kind.TheVariants.{Calendar, Event}
use Rattle.spec_json.specs.declared.tree.Tree.{Tree}
use Rattle.account_store.proofs.opening.OpeningStore.into_store.Goals as goal

pub of-requires-clause-calendars_known : goal.of-requires-clause-calendars_known
of-requires-clause-calendars_known c = λ k.
    let s = c.args.self in
    let within : s.calendars.first ≤ length s.calendars.told.items = omega (arith, s.calendars.counted) in
    known_all (λ (t : Tree). t) s.calendars.told.items Calendar (changes_of s.told.items) s.calendars_follow s.calendars.first s.calendars_from s.calendars_low within (c.requires Calendar) s.calendars_known k

pub of-requires-clause-events_known : goal.of-requires-clause-events_known
of-requires-clause-events_known c = λ k.
    let s = c.args.self in
    let within : s.events.first ≤ length s.events.told.items = omega (arith, s.events.counted) in
    known_all (λ (e : KeptEvent). e.object) s.events.told.items Event (changes_of s.told.items) s.events_follow s.events.first s.events_from s.events_low within (c.requires Event) s.events_known k
