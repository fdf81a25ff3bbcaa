-- A gated account may go to another thread, and so may a desk over such accounts.
use denote.RattleType.{RattleType}
use denote.Param.Send.{IsSend, IsSync, sendable}
use Rattle.std.proofs.Crossing.{crosses}
use Rattle.account_desk.proofs.Crossing.{account_sent}
use Rattle.account_desk.specs.contracts.shared_desk.SharedDesk as desk
use Rattle.account_lock.proofs.locked.Locked.TheSendSync as locked
use Rattle.account_lock.proofs.pass.Pass.TheSendSync as pass
use Rattle.account_lock.specs.contracts.pass.Pass as pass_row
use Rattle.spec_calls.specs.contracts.call.Call as call
use Rattle.spec_calls.specs.contracts.call.Reply as reply
use Rattle.listen_rows.specs.contracts.gated.Gated as gated
use Rattle.listen_rows.specs.contracts.gated.GatedBook.TheImpl as book
use Rattle.listen_rows.specs.contracts.gated.GatedLock as gated_lock
use Rattle.listen_rows.specs.contracts.gated.GatedLockAccountLock.TheImpl as lock

pub gated_sent : IsSend gated.the_row
gated_sent = search (account_sent, crosses, sendable) depth 60 fits 20000

lock_sent : IsSend gated_lock.the_row
lock_sent = search (locked.the_send, gated_sent, crosses, sendable) depth 60 fits 20000

lock_shared : IsSync gated_lock.the_row
lock_shared = search (locked.the_sync, gated_sent, crosses, sendable) depth 60 fits 20000

abbrev lock_pass_row : RattleType
lock_pass_row = pass_row.the_row gated.the_row call.the_row reply.the_row book.ghosts

pass_sent : IsSend lock_pass_row
pass_sent = search (pass.the_send, gated_sent, crosses, sendable) depth 60 fits 20000

pub desk_sent : (W : RattleType) → IsSend W → IsSend (desk.the_row W gated_lock.the_row gated.the_row lock_pass_row lock.ghosts)
desk_sent W w = search (lock_sent, lock_shared, pass_sent, crosses, sendable) depth 60 fits 20000
