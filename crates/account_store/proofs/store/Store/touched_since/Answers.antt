use Rattle.std.proofs.Common.{◌≡◌, ℕ, List, IfOk, arith, subst}
use Rattle.account_store.proofs.ShownLemmas.{told_from, touched_shown}
use Rattle.account_store.specs.declared.kept.KeptEvent.{KeptEvent}
use Rattle.spec_history.specs.declared.entry.Kind.TheVariants.{Event}
use Rattle.spec_history.specs.History.{changes_of}
use Rattle.account_store.proofs.store.Store.touched_since.Goals as goal

pub touched_between-requires-clause-known : goal.touched_between-requires-clause-known
touched_between-requires-clause-known c =
    let s = c.args.self.now in
    (told_from (λ (e : KeptEvent). e.object) s.events.told.items Event (changes_of s.told.items) s.events_follow s.events.first c.args.since (s.events_known c.args.since) c.requires).0

pub touched_between-requires-clause-order : goal.touched_between-requires-clause-order
touched_between-requires-clause-order c =
    let s = c.args.self.now in
    let reached = (told_from (λ (e : KeptEvent). e.object) s.events.told.items Event (changes_of s.told.items) s.events_follow s.events.first c.args.since (s.events_known c.args.since) c.requires).1 in
    omega (arith, reached, c.count-until.ensures)

pub returns : goal.returns
returns c =
    let s = c.args.self.now in
    subst (λ (ns : List ℕ). IfOk c.touched_between.result (λ ids. ids.items ≡ ns))
    (touched_shown (λ (e : KeptEvent). e.object) s.events.told.items Event (changes_of s.told.items) c.args.since c.count-until.result s.events_follow c.count-until.ensures)
    c.touched_between.ensures
