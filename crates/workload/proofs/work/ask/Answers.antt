use Rattle.std.proofs.Common.{ℤ, IfOk, pos, subst}
use Rattle.spec_books.proofs.ActLemmas.{result_answered, result_grown}
use Rattle.spec_books.specs.Acting.{Came}
use Rattle.workload.proofs.work.ask.Goals as goal

pub returns-clause-reply : goal.returns-clause-reply
returns-clause-reply g c =
    let base = g.B.Book.base c.args.account.now in
    let h = g.B.Book.entries c.args.account.now in
    let h' = g.B.Book.entries c.act.new.self in
    let came =
    subst (λ (moment : ℤ). IfOk c.act.result (λ x. Came g.B.Book.answer g.B.Book.added g.B.Book.unkept base h c.args.call (record { author = 0; turn = c.args.turn; moment = moment }) x h'))
    c.new.ensures c.act.ensures.came in
    result_answered g.B.Book.answer g.B.Book.added g.B.Book.unkept base h h' c.args.call (record { author = 0; turn = c.args.turn; moment = pos 0 }) c.requires c.act.result came

pub returns-clause-grown : goal.returns-clause-grown
returns-clause-grown g c =
    let base = g.B.Book.base c.args.account.now in
    let h = g.B.Book.entries c.args.account.now in
    let h' = g.B.Book.entries c.act.new.self in
    let came =
    subst (λ (moment : ℤ). IfOk c.act.result (λ x. Came g.B.Book.answer g.B.Book.added g.B.Book.unkept base h c.args.call (record { author = 0; turn = c.args.turn; moment = moment }) x h'))
    c.new.ensures c.act.ensures.came in
    result_grown g.B.Book.answer g.B.Book.added g.B.Book.unkept base h h' c.args.call (record { author = 0; turn = c.args.turn; moment = pos 0 }) c.requires c.act.result came
