use Rattle.std.proofs.Common.{◌≡◌, map, ap, ◌∙◌, arith}
use Rattle.std.proofs.lemmas.List.{length-map}
use Rattle.std.proofs.lemmas.Result.{IfOk-weaker}
use Rattle.account_lock.specs.Passes.{PassState}
use Rattle.account_desk.specs.SharedDesk.{greatest_turn}
use Rattle.listen_workers.proofs.PassLemmas.{passes_locks, share}
use Rattle.listen_workers.specs.Passes.{ShareAccounts}
use Rattle.listen_workers.proofs.desks.open_desks.Goals as goal

pub desks_over-requires-clause-few : goal.desks_over-requires-clause-few
desks_over-requires-clause-few g c =
    let count = c.in_ok-locks.ensures.locks in
    let few = c.requires.few in
    omega (arith, count, few)

pub desks_over-requires-clause-of_locks : goal.desks_over-requires-clause-of_locks
desks_over-requires-clause-of_locks g c w hand at =
    let locks = c.in_ok-locks.locks.items in
    let accounts = c.args.accounts.items in
    let count = c.in_ok-locks.ensures.locks in
    let named = length-map locks g.L.AccountLock.lock in
    let taken = length-map accounts g.L.AccountLock.account in
    ap (map (λ (p : PassState). p.lock)) (c.in_ok-locks.ensures.hands w hand at) ∙ passes_locks (map g.L.AccountLock.lock locks) (map g.L.AccountLock.account accounts) w (omega (arith, count, named, taken))

pub returns-clause-fresh : goal.returns-clause-fresh
returns-clause-fresh g c =
    let locks = c.in_ok-locks.locks.items in
    let hands = c.in_ok-locks.hands.items in
    let accounts = c.args.accounts.items in
    let state = g.L.AccountLock.state in
    let count = c.in_ok-locks.ensures.locks in
    let named = length-map locks g.L.AccountLock.lock in
    let taken = length-map accounts g.L.AccountLock.account in
    IfOk-weaker c.desks_over.result (λ desks. desks.items ≡ map (λ hand. (map state hand.items, greatest_turn (map state hand.items))) hands) (λ desks. ShareAccounts (map g.L.AccountLock.account accounts) desks.items)
    (λ desks is. share (λ hand. map state hand.items) hands (map g.L.AccountLock.lock locks) (map g.L.AccountLock.account accounts) desks.items is (omega (arith, count, named, taken)) c.in_ok-locks.ensures.hands) c.desks_over.ensures
