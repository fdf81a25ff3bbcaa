use Rattle.std.proofs.Common.{◌≡◌, ◌+◌, ap, cond, refl, ◌∙◌, arith, ℕ}
use mir.Val.{bool_byte}
use Rattle.workload.proofs.Steps.{as_number, counts_one, stands_first, stands_next}
use Rattle.workload.proofs.work.make_requests.Goals as goal
use Rattle.workload.specs.Counts.{is_refused_as_clash, has_created}
use Rattle.workload.specs.Generated.{drawn, request_call}

pub requests-init : goal.requests-init
requests-init g c = record {
  base = refl;
  stands = stands_first g.B.Book.answer g.B.Book.added (g.B.Book.base c.args.account.now) c.args.size c.args.number (g.B.Book.entries c.args.account.now);
  bookings = omega arith;
  clashes = omega arith;
}

pub requests-preserved : goal.requests-preserved
requests-preserved g c =
    let l = c.requests in
    let e = c.in_ok-reply.ensures in
    let outcome = c.outcome_of-outcome.ensures in
    let a : c.drawn-a.result ≡ drawn l.last = c.drawn-a.ensures in
    let b : c.drawn-b.result ≡ drawn (drawn l.last) = c.drawn-b.ensures ∙ ap drawn a in
    let x : c.drawn-c.result ≡ drawn (drawn (drawn l.last)) = c.drawn-c.ensures ∙ ap drawn b in
    let call = c.in_ok-call.ensures ∙ (λ i. request_call (l.done + 1) (a i) (b i) (x i)) in
    let turn : c.from.result + 2 ≡ l.done + 2 = ap (λ (n : ℕ). n + 2) c.from.ensures in
    let one : c.from-bookings.result ≡ cond (has_created c.in_ok-reply.reply) 1 0 = c.from-bookings.ensures ∙ (ap bool_byte outcome.created ∙ as_number (has_created c.in_ok-reply.reply)) in
    let other : c.from-clashes.result ≡ cond (is_refused_as_clash c.in_ok-reply.reply) 1 0 = c.from-clashes.ensures ∙ (ap bool_byte outcome.clash ∙ as_number (is_refused_as_clash c.in_ok-reply.reply)) in
    record {
      base = e.base ∙ l.invariant.base;
      stands = stands_next g.B.Book.answer g.B.Book.added (g.B.Book.base c.args.account.now) c.args.size l.done l.last c.drawn-c.result (c.from.result + 2) (g.B.Book.entries l.account) (g.B.Book.entries c.ask.new.account) (g.B.Book.base l.account)
          c.in_ok-call.call c.in_ok-reply.reply l.bookings l.clashes c.from-bookings.result c.from-clashes.result c.requests-test.true l.invariant.base turn x call e.reply e.grown one other l.invariant.stands;
      bookings = counts_one l.bookings c.from-bookings.result l.done (has_created c.in_ok-reply.reply) l.invariant.bookings one;
      clashes = counts_one l.clashes c.from-clashes.result l.done (is_refused_as_clash c.in_ok-reply.reply) l.invariant.clashes other;
    }
