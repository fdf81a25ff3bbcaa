-- The room of the number that the id tells.
use Rattle.std.proofs.Common.{ap, refl, sym, ◌∙◌}
use Rattle.account_core.proofs.SlotLemmas.{named_none, named_some}
use Rattle.account_core.specs.Ledger.{base, changes, history, staged}
use Rattle.spec_history.specs.ObjectId.{object_number}
use Rattle.spec_history.specs.declared.entry.Kind.TheVariants.{Calendar}
use Rattle.account_core.proofs.slots.room_named.Goals as goal

pub returns-in-Some-clause-none : goal.returns-in-Some-clause-none
returns-in-Some-clause-none c =
    let l = c.args.ledger.now in
    named_none (base l).zones (history l) (changes l) (staged l) refl c.requires c.args.id.now c.in-Some.number c.room_of.result
    (ap (object_number Calendar) (sym c.as_bytes.ensures.value) ∙ (sym c.read_object_id.ensures ∙ c.in-Some.is)) c.room_of.ensures.none

pub returns-in-Some-clause-some : goal.returns-in-Some-clause-some
returns-in-Some-clause-some c =
    let l = c.args.ledger.now in
    named_some (base l).zones (history l) (changes l) (staged l) refl c.requires c.args.id.now c.in-Some.number c.room_of.result
    (ap (object_number Calendar) (sym c.as_bytes.ensures.value) ∙ (sym c.read_object_id.ensures ∙ c.in-Some.is)) c.room_of.ensures.some
