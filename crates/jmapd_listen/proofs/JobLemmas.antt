-- A worker whose desk has made no calls has calls enough for all its connections.
use Rattle.std.proofs.Common.{◌≡◌, ℕ, List, ◌*◌, ◌≤◌, length, refl, sym, ap, ◌∙◌, subst, arith}
use Rattle.std.proofs.lemmas.Option.{slice_get-get_or}
use Rattle.std.specs.Prelude.{All}
use mathlib.Core.Logic.{inl, inr}
use Rattle.account_desk.proofs.FreshLemmas.{count_fresh}
use Rattle.account_desk.specs.FreshDesk.{account_rules}
use Rattle.account_desk.specs.SharedDesk.{shown_by_passes}
use Rattle.account_desk.specs.SoleDesk.{fresh_accounts}
use Rattle.account_lock.specs.Passes.{PassState}
use Rattle.command_line.specs.declared.listen.TheConstants.{MAX_CONNECTIONS}
use Rattle.listen_workers.proofs.PassLemmas.{passes_count}
use Rattle.listen_workers.proofs.WorkerLemmas.{each_turns}
use Rattle.listen_workers.specs.Posts.{PostShown, WorksAt, connections, sockets}
use Rattle.listen_workers.specs.SocketWork.{SocketWorkHow}
use Rattle.listen_workers.specs.Working.{MAX_CALLS, Tools, WorkerHow}
use Rattle.jmapd_listen.specs.Listens.{IsUnused, WorksWhole}
use Rattle.listen_edge.specs.Listening.{ListenerShown}
use Rattle.listen_edge.specs.declared.job.WorkerDone.{WorkerDone}
use Rattle.listen_edge.specs.declared.job.WorkerEnd.{WorkerEnd}
use Rattle.listen_edge.specs.declared.job.WorkerEnd.TheVariants.{AcceptFault, All as Whole, PassSpent}
use Rattle.spec_batch.specs.Chain.{Rules, Shown}
use Rattle.spec_history.specs.Base.{Base}
use Rattle.spec_history.specs.declared.entry.Entry.{Entry}
use Rattle.spec_site.specs.Configuration.{Site}
use Rattle.listen_workers.specs.Passes.{ShareAccounts}
use Rattle.listen_workers.specs.Crew.{Ends}

ends_so : (most : ℕ) (l l' : ListenerShown) (u : Tools) (done : WorkerDone) (e : WorkerEnd) → done.end ≡ e → most ≤ MAX_CONNECTIONS → u.desk.turns ≤ MAX_CALLS * done.served
    → WorkerHow most l l' u done.served e → Ends most done
ends_so most l l' u done Whole is few turns how = inl (is, how)
ends_so most l l' u done AcceptFault is few turns how = inr is
ends_so most l l' u done PassSpent is few turns how = absurd (let served = how.1 in let spent = how.2 in omega (arith, few, turns, served, spent))

sockets_end : (most : ℕ) (done : WorkerDone) (e : WorkerEnd) → done.end ≡ e → SocketWorkHow most done.served e → Ends most done
sockets_end most done Whole is how = inl (is, how)
sockets_end most done AcceptFault is how = inr is
sockets_end most done PassSpent is how = absurd how

pub whole : (site : Site) (most : ℕ) (t u : Tools) (done : WorkerDone) (p p' : PostShown) → t.desk.turns ≡ 0 → most ≤ MAX_CONNECTIONS → WorksAt site most p p' t u done → WorksWhole site most p p' t u done
whole site most t u done (connections l) (connections l') none few w =
    let made = each_turns site t u w.visits w.serves in
    let count = ap (λ (n : ℕ). MAX_CALLS * n) w.count in
    let turns : u.desk.turns ≤ MAX_CALLS * done.served = omega (arith, made, none, count) in
    (w, ends_so most l l' u done done.end refl few turns w.how)
whole site most t u done (sockets a) (sockets a') none few w = (w, sockets_end most done done.end refl w.how)
whole site most t u done (connections l) (sockets a') none few w = absurd w
whole site most t u done (sockets a) (connections l') none few w = absurd w

-- a desk over the accounts of the same site
pub unused_of_same : {site site' : Site} (desk : Shown) → site' ≡ site → IsUnused site desk → IsUnused site' desk
unused_of_same desk same unused = subst (λ (s : Site). IsUnused s desk) (sym same) unused

-- desks that share the accounts of a site have made no call
pub all_unused_at : (site : Site) (how : Rules) (accounts : List (Base × List Entry)) (desks : List (List PassState × ℕ)) → length accounts ≡ length site.accounts → ShareAccounts accounts desks
    → All (λ desk. IsUnused site (shown_by_passes how desk)) desks
all_unused_at site how accounts desks count share k d within =
    let is = share.2 k _ (slice_get-get_or desks k d within) in (
      ap (λ (desk : List PassState × ℕ). length desk.0) is ∙ (passes_count share.0 accounts k share.1 ∙ (share.1 ∙ count)),
      ap (λ (desk : List PassState × ℕ). desk.1) is,
    )

pub all_unused : (site : Site) (accounts : List (Base × List Entry)) (desks : List (List PassState × ℕ)) → accounts ≡ fresh_accounts site → ShareAccounts accounts desks
    → All (λ desk. IsUnused site (shown_by_passes account_rules desk)) desks
all_unused site accounts desks fresh share = all_unused_at site account_rules accounts desks (count_fresh site accounts fresh) share
