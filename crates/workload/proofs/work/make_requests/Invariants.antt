use Rattle.std.proofs.Common.{◌≡◌, ◌≤◌, ◌+◌, ◌-◌}
use Rattle.workload.proofs.Steps.{Standing}
use Rattle.workload.proofs.work.make_requests.Given as goal
use Rattle.workload.specs.Generated.{request_calls}
use Rattle.workload.specs.Work.{with_calls, replies}

abbrev pub invariant-requests : goal.invariant-requests
invariant-requests g l = record {
  base : g.B.Book.base l.account ≡ g.B.Book.base l.initial.account;
  stands : Standing g.B.Book.answer g.B.Book.added (g.B.Book.base l.initial.account)
      (replies g.B.Book.answer g.B.Book.added (g.B.Book.base l.initial.account) 2 (g.B.Book.entries l.initial.account) (request_calls 1 l.initial.last l.size))
      (with_calls g.B.Book.answer g.B.Book.added (g.B.Book.base l.initial.account) 2 (g.B.Book.entries l.initial.account) (request_calls 1 l.initial.last l.size))
      (l.done + 2) (g.B.Book.entries l.account) (request_calls (l.done + 1) l.last (l.size - l.done)) l.bookings l.clashes;
  bookings : l.bookings ≤ l.done;
  clashes : l.clashes ≤ l.done;
}
