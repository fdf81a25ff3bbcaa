use Rattle.std.proofs.Common.{◌≡◌, [], ◌∷◌, ◌++◌, length, map, sym, ap, ◌∙◌, arith, length-append}
use Rattle.std.proofs.lemmas.List.{length-map, map-append}
use Rattle.account_lock.specs.Passes.{opened_pass}
use Rattle.listen_workers.proofs.HandLemmas.{hands_more}
use Rattle.listen_workers.proofs.PassLemmas.{one_more}
use Rattle.listen_workers.specs.Passes.{fresh_passes}
use Rattle.listen_workers.proofs.desks.open_locks.Goals as goal

pub loop-account-preserved : goal.loop-account-preserved
loop-account-preserved g c =
    let lock_of = g.L.AccountLock.lock in
    let account_of = g.L.AccountLock.account in
    let i = c.loop-account.invariant in
    let locks = c.loop-account.locks.items in
    let so_far = c.loop-account.yielded in
    let lock = c.in_ok-lock.lock in
    let account = c.in-Some.account in
    let longer = c.in_ok-push.ensures.items in
    let count = i.locks in
    let named = length-map locks lock_of in
    let taken = length-map so_far account_of in
    let even : length (map lock_of locks) ≡ length (map account_of so_far) = omega (arith, count, named, taken) in
    let locks_are = ap (map lock_of) longer ∙ map-append lock_of locks (lock ∷ []) in
    let accounts_are = map-append account_of so_far (account ∷ []) in
    record {
      locks =
          (let one = ap length longer in let other = length-append locks (lock ∷ []) in let more = length-append so_far (account ∷ []) in omega (arith, count, one, other, more));
      workers = c.in_ok-deal.ensures.count ∙ i.workers;
      hands = hands_more g.L.AccountLock.state (λ h. h.items) c.loop-account.hands.items c.deal.new.hands.items c.in_ok-lock.passes.items (fresh_passes (map lock_of locks) (map account_of so_far))
          (fresh_passes (map lock_of c.push.new.self.items) (map account_of (so_far ++ account ∷ []))) (opened_pass (lock_of lock) (account_of account).0 (account_of account).1)
          c.in_ok-deal.ensures.count (c.in_ok-lock.ensures.count ∙ sym i.workers) c.in_ok-deal.ensures.dealt c.in_ok-lock.ensures.each
          (λ n. (λ k. fresh_passes (locks_are k) (accounts_are k) n) ∙ one_more (map lock_of locks) (map account_of so_far) (lock_of lock) (account_of account) n even) i.hands;
    }
