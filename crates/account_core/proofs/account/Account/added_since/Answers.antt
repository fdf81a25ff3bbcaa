use Rattle.std.proofs.Common.{◌≤◌, ◌∙◌, ℕ, List, Option, Some, ap, drop, length, subst, sym}
use Rattle.account_core.proofs.Trails.{from_place, reaches, sound_from}
use Rattle.account_core.specs.Ledger.{base, ledger_entries}
use Rattle.account_core.specs.Trails.{AreFrom, AreSoundFrom}
use Rattle.spec_history.specs.Base.{Base}
use Rattle.spec_history.specs.declared.entry.Entry.{Entry}
use Rattle.account_core.proofs.account.Account.added_since.Goals as goal

pub since-requires-clause-reached : goal.since-requires-clause-reached
since-requires-clause-reached c =
    let zones = (base c.self.inside.ledger).zones in
    let h = ledger_entries c.self.inside.ledger in
    let es = c.self.inside.trail.entries.items in
    let are : AreFrom zones (Some c.in-Some.first) es h = subst (λ (o : Option ℕ). AreFrom zones o es h) c.in-Some.is c.self.invariant.1 in
    reaches zones c.in-Some.first c.args.place es h are (subst (λ (v : Base × List Entry). c.args.place ≤ length v.1) (sym c.self.view_is) c.requires)

pub returns-in-Some-clause-entries : goal.returns-in-Some-clause-entries
returns-in-Some-clause-entries c =
    let zones = (base c.self.inside.ledger).zones in
    let h = ledger_entries c.self.inside.ledger in
    let es = c.self.inside.trail.entries.items in
    let are : AreFrom zones (Some c.in-Some.first) es h = subst (λ (o : Option ℕ). AreFrom zones o es h) c.in-Some.is c.self.invariant.1 in
    c.since.ensures ∙ from_place zones c.in-Some.first c.args.place es h are c.if-first-place.true ∙ ap (λ (v : Base × List Entry). drop c.args.place v.1) c.self.view_is

pub returns-in-Some-clause-sound : goal.returns-in-Some-clause-sound
returns-in-Some-clause-sound c =
    let zones = (base c.self.inside.ledger).zones in
    let h = ledger_entries c.self.inside.ledger in
    let es = c.self.inside.trail.entries.items in
    let are : AreFrom zones (Some c.in-Some.first) es h = subst (λ (o : Option ℕ). AreFrom zones o es h) c.in-Some.is c.self.invariant.1 in
    subst (λ (v : Base × List Entry). AreSoundFrom v.0.zones c.args.place v.1) c.self.view_is (sound_from zones c.in-Some.first c.args.place h are.2 c.if-first-place.true)
