use Rattle.std.proofs.Common.{refl}
use Rattle.account_core.proofs.KeptLemmas.{looked}
use Rattle.account_core.specs.Ledger.{base, ledger_entries}
use Rattle.spec_calls.specs.declared.call.Asks.TheVariants.{Availability, Changes, Get, Query, QueryChanges, Slot}
use Rattle.account_core.proofs.account.answer.Goals as goal

pub returns-in-Get-clause-came : goal.returns-in-Get-clause-came
returns-in-Get-clause-came g c =
    looked g.K.EntryKeeper.unkept (base c.args.ledger.now) (ledger_entries c.args.ledger.now) c.args.call.now c.args.stamp.now (Get c.in-Get.arguments) c.get.result c.in-Get.is refl c.get.ensures

pub returns-in-Changes-clause-came : goal.returns-in-Changes-clause-came
returns-in-Changes-clause-came g c =
    looked g.K.EntryKeeper.unkept (base c.args.ledger.now) (ledger_entries c.args.ledger.now) c.args.call.now c.args.stamp.now (Changes c.in-Changes.arguments) c.changes.result c.in-Changes.is refl c.changes.ensures

pub returns-in-Query-clause-came : goal.returns-in-Query-clause-came
returns-in-Query-clause-came g c =
    looked g.K.EntryKeeper.unkept (base c.args.ledger.now) (ledger_entries c.args.ledger.now) c.args.call.now c.args.stamp.now (Query c.in-Query.arguments) c.query.result c.in-Query.is refl c.query.ensures

pub returns-in-QueryChanges-clause-came : goal.returns-in-QueryChanges-clause-came
returns-in-QueryChanges-clause-came g c =
    looked g.K.EntryKeeper.unkept (base c.args.ledger.now) (ledger_entries c.args.ledger.now) c.args.call.now c.args.stamp.now (QueryChanges c.in-QueryChanges.arguments) c.query_changes.result c.in-QueryChanges.is refl
    c.query_changes.ensures

pub returns-in-Availability-clause-came : goal.returns-in-Availability-clause-came
returns-in-Availability-clause-came g c =
    looked g.K.EntryKeeper.unkept (base c.args.ledger.now) (ledger_entries c.args.ledger.now) c.args.call.now c.args.stamp.now (Availability c.in-Availability.arguments) c.availability.result c.in-Availability.is refl
    c.availability.ensures

pub returns-in-Slot-clause-came : goal.returns-in-Slot-clause-came
returns-in-Slot-clause-came g c =
    looked g.K.EntryKeeper.unkept (base c.args.ledger.now) (ledger_entries c.args.ledger.now) c.args.call.now c.args.stamp.now (Slot c.in-Slot.arguments) c.slot.result c.in-Slot.is refl c.slot.ensures
