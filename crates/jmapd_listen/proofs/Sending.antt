-- A desk over accounts, a worker's job and its answer may go to another thread, whatever listener, accepter, clock and desk the job has that may.
use denote.RattleType.{RattleType}
use denote.Param.Send.{IsSend, IsSync, sendable}
use Rattle.std.proofs.Crossing.{crosses}
use Rattle.account_core.specs.contracts.account.Account as account
use Rattle.account_core.specs.contracts.account.AccountBook as account_book
use Rattle.account_desk.proofs.Crossing.{account_sent}
use Rattle.account_desk.specs.contracts.lock.LockedAccountAccountLock as account_lock
use Rattle.account_desk.specs.contracts.shared_desk.SharedDesk as shared_desk
use Rattle.account_lock.proofs.locked.Locked.TheSendSync as locked_crosses
use Rattle.account_lock.proofs.pass.Pass.TheSendSync as pass_crosses
use Rattle.account_lock.specs.contracts.locked.Locked as locked
use Rattle.account_lock.specs.contracts.pass.Pass as pass
use Rattle.spec_calls.specs.contracts.call.Call as call
use Rattle.spec_calls.specs.contracts.call.Reply as reply
use Rattle.spec_batch.specs.declared.desk.Desk.{Ghosts}
use Rattle.spec_json.proofs.Crossing.{text_sent, text_shared}
use Rattle.spec_json.proofs.tree.TreeList.TheLaws.TheKnot as tree
use Rattle.session_doc.specs.contracts.site.Site as site
use Rattle.jmapd_listen.specs.contracts.job.WorkerBack as back
use Rattle.jmapd_listen.specs.contracts.job.WorkerJob as job

site_sent : IsSend site.the_row
site_sent = search (text_sent, text_shared, crosses, tree.crosses, sendable) depth 60 fits 20000

site_shared : IsSync site.the_row
site_shared = search (text_sent, text_shared, crosses, tree.crosses, sendable) depth 60 fits 20000

pub job_sent : (L A C D : RattleType) (desk : Ghosts D.Denot) → IsSend L → IsSend A → IsSend C → IsSend D → IsSend (job.the_row L A C D desk)
job_sent L A C D desk l a c d = search (site_sent, site_shared, crosses, sendable) depth 60 fits 20000

pub back_sent : (L A C D : RattleType) → IsSend L → IsSend A → IsSend C → IsSend D → IsSend (back.the_row L A C D)
back_sent L A C D l a c d = search (crosses, sendable) depth 60 fits 20000

-- the desks of workers, by the handle with which they wait
abbrev pub desk_row : RattleType → RattleType
desk_row W = shared_desk.the_row W (locked.the_row account.the_row call.the_row reply.the_row account_book.TheImpl.ghosts) account.the_row
    (pass.the_row account.the_row call.the_row reply.the_row account_book.TheImpl.ghosts) account_lock.TheImpl.ghosts

pub desk_sent : (W : RattleType) → IsSend W → IsSend (desk_row W)
desk_sent W w = search (locked_crosses.the_send, locked_crosses.the_sync, pass_crosses.the_send, account_sent, crosses, sendable) depth 60 fits 20000
