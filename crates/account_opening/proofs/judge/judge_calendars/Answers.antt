use Rattle.std.proofs.Common.{arith}
use Rattle.account_opening.proofs.JudgeLemmas.{resource_count}
use Rattle.account_store.specs.Store.{entries}
use Rattle.spec_history.specs.History.{changes_of}
use Rattle.account_opening.proofs.judge.judge_calendars.Goals as goal

pub returns-then-len-gt-MAX_RESOURCES-clause-named : goal.returns-then-len-gt-MAX_RESOURCES-clause-named
returns-then-len-gt-MAX_RESOURCES-clause-named c = λ fits.
    let count = resource_count c.args.zones.now (changes_of (entries c.args.store.now)) c.requires c.in_ok-rooms.rooms.rooms c.in_ok-resources.resources.items c.in_ok-rooms.ensures.rooms c.in_ok-resources.ensures in
    absurd (omega (arith, count, fits.resources, c.in_ok-resources.resources.ok, c.len.ensures, c.if-len-gt-MAX_RESOURCES.true))

pub returns-clause-resources : goal.returns-clause-resources
returns-clause-resources c =
    let count = resource_count c.args.zones.now (changes_of (entries c.args.store.now)) c.requires c.in_ok-rooms.rooms.rooms c.in_ok-resources.resources.items c.in_ok-rooms.ensures.rooms c.in_ok-resources.ensures in
    omega (arith, count, c.in_ok-resources.resources.ok, c.len.ensures, c.if-len-gt-MAX_RESOURCES.false)
