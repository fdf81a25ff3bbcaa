-- An account that is kept in a file may go to another thread, and so may a desk over such accounts.
use denote.RattleType.{RattleType}
use denote.Param.Send.{IsSend, IsSync, sendable}
use Rattle.std.proofs.Crossing.{crosses}
use Rattle.account_desk.proofs.Crossing.{account_sent}
use Rattle.account_desk.specs.contracts.shared_desk.SharedDesk as desk
use Rattle.account_lock.proofs.locked.Locked.TheSendSync as locked
use Rattle.account_lock.proofs.pass.Pass.TheSendSync as pass
use Rattle.account_lock.specs.contracts.pass.Pass as pass_row
use Rattle.kept_account.specs.contracts.account.KeptAccount as kept
use Rattle.kept_account.specs.contracts.account.KeptAccountBook.TheImpl as book
use Rattle.spec_calls.specs.contracts.call.Call as call
use Rattle.spec_calls.specs.contracts.call.Reply as reply
use Rattle.spec_json.proofs.Crossing.{text_sent}
use Rattle.sql_keeper.proofs.Crossing.{file_keeper_sent}
use Rattle.sql_keeper.specs.contracts.file_keeper.FileKeeper as file_keeper
use Rattle.sql_keeper.specs.contracts.file_keeper.FileKeeperKeeper.TheImpl as keeper
use Rattle.jmapd.specs.contracts.lock.FileLock as file_lock
use Rattle.jmapd.specs.contracts.lock.FileLockAccountLock.TheImpl as lock

abbrev pub account_row : RattleType
account_row = kept.the_row file_keeper.the_row keeper.ghosts

pub file_account_sent : IsSend account_row
file_account_sent = search (account_sent, text_sent, file_keeper_sent, crosses, sendable) depth 60 fits 20000

lock_sent : IsSend file_lock.the_row
lock_sent = search (locked.the_send, file_account_sent, crosses, sendable) depth 60 fits 20000

lock_shared : IsSync file_lock.the_row
lock_shared = search (locked.the_sync, file_account_sent, crosses, sendable) depth 60 fits 20000

abbrev lock_pass_row : RattleType
lock_pass_row = pass_row.the_row account_row call.the_row reply.the_row (book.ghosts file_keeper.the_row keeper.ghosts book.no_dict book.no_dict)

pass_sent : IsSend lock_pass_row
pass_sent = search (pass.the_send, file_account_sent, crosses, sendable) depth 60 fits 20000

pub desk_sent : (W : RattleType) → IsSend W → IsSend (desk.the_row W file_lock.the_row account_row lock_pass_row lock.ghosts)
desk_sent W w = search (lock_sent, lock_shared, pass_sent, crosses, sendable) depth 60 fits 20000
