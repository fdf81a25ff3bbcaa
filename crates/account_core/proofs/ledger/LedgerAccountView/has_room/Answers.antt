use Rattle.std.proofs.Common.{arith, ap, is_some, ◌∙◌}
use Rattle.account_core.proofs.Counting.{bytes_counted, object_counted, removal_told, room_told}
use Rattle.account_core.specs.Ledger.{changes}
use Rattle.account_core.proofs.ledger.LedgerAccountView.has_room.Goals as goal

pub has_room-requires-clause-had : goal.has_room-requires-clause-had
has_room-requires-clause-had c =
    let l = c.args.self.now in
    omega (arith, c.load_of-gone.ensures.objects, object_counted l.tally (changes l) c.args.change.now l.told)

pub has_room-requires-clause-had_bytes : goal.has_room-requires-clause-had_bytes
has_room-requires-clause-had_bytes c =
    let l = c.args.self.now in
    omega (arith, c.load_of-gone.ensures.bytes, bytes_counted l.tally (changes l) c.args.change.now.kind c.args.change.now.id l.told)

pub returns-in-Some : goal.returns-in-Some
returns-in-Some c =
    let l = c.args.self.now in
    let g = c.load_of-gone in
    c.has_room.ensures ∙ room_told l.tally (changes l) c.args.change.now g.result.objects g.result.bytes c.args.size l.told g.ensures.objects g.ensures.bytes c.requires (ap is_some c.in-Some.is)

pub returns-in-None : goal.returns-in-None
returns-in-None c =
    let l = c.args.self.now in
    removal_told l.tally (changes l) c.args.change.now l.told (ap is_some c.in-None.is)
