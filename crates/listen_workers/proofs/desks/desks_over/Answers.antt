use Rattle.std.proofs.Common.{ℕ, List, length, map, refl, ap, arith, rules}
use Rattle.std.proofs.lemmas.Iterator.Adapters.{YieldsList-from_vec}
use Rattle.std.proofs.lemmas.Iterator.Consumers.{YieldsList-turn}
use Rattle.std.proofs.lemmas.List.{length-map}
use Rattle.std.proofs.lemmas.Option.{slice_get_read}
use Rattle.account_desk.specs.SharedDesk.{greatest_turn}
use Rattle.account_lock.specs.Passes.{PassState}
use Rattle.listen_workers.proofs.desks.desks_over.Goals as goal

pub new-requires-in-loop-hand-clause-few : goal.new-requires-in-loop-hand-clause-few
new-requires-in-loop-hand-clause-few g c =
    let at = YieldsList-turn (YieldsList-from_vec {s = c.into_iter-hand-iterator.result} c.args.hands.items (search rules) (search rules)) c.loop-hand.yielded c.loop-hand.hand-iterator c.loop-hand.yielded_by c.next.result c.next.new.self c.in-Some.hand c.in-Some.is c.next.ensures.steps in
    let state = g.L.AccountLock.state in
    let n = length c.loop-hand.yielded in
    let hand = slice_get_read c.args.hands.items (length c.args.hands.items) n c.in-Some.hand refl at.0 at.1 in
    let same = ap length (c.requires.of_locks n c.in-Some.hand hand) in
    let passes = length-map c.in-Some.hand.items state in
    let each = length-map (map state c.in-Some.hand.items) (λ (p : PassState). p.lock) in
    let locks = length-map c.args.locks.items g.L.AccountLock.lock in
    let few = c.requires.few in
    omega (arith, same, passes, each, locks, few)

pub push_reserved-requires : goal.push_reserved-requires
push_reserved-requires g c =
    let at = YieldsList-turn (YieldsList-from_vec {s = c.into_iter-hand-iterator.result} c.args.hands.items (search rules) (search rules)) c.loop-hand.yielded c.loop-hand.hand-iterator c.loop-hand.yielded_by c.next.result c.next.new.self c.in-Some.hand c.in-Some.is c.next.ensures.steps in
    let state = g.L.AccountLock.state in
    let few = at.0 in
    let count = ap length c.loop-hand.invariant.desks in
    let made = length-map {B = List PassState × ℕ} c.loop-hand.yielded (λ hand. (map state hand.items, greatest_turn (map state hand.items))) in
    let room = c.loop-hand.invariant.room in
    omega (arith, few, count, made, room)
