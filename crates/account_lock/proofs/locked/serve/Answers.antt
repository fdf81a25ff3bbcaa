use Rattle.std.proofs.Common.{◌∙◌, ap, drop, length}
use Rattle.account_lock.proofs.ServeLemmas.{serves}
use Rattle.account_lock.proofs.locked.serve.Goals as goal

pub returns-clause-answered : goal.returns-clause-answered
returns-clause-answered g c =
    serves g.B.Book.answer g.B.Book.added g.B.Book.unkept c.args.call.now c.args.stamp.now g.B.Book.entries g.B.Book.base c.act-reply.result
    c.args.seat.now.me.0 c.take_ticket-ticket.new.seat.me.0 c.await_turn.new.seat.me.0 c.take_book-book.new.seat.me.0 c.act-reply.new.seat.me.0 c.return_book.new.seat.me.0 c.give_turn.new.seat.me.0
    c.take_book-book.result c.await_turn.ensures.turn.0 c.take_ticket-ticket.new.seat.me.1 c.await_turn.new.seat.me.1 c.take_ticket-ticket.result c.args.seat.now.table_id c.give_turn.new.seat.table_id
    (drop (length (g.B.Book.entries c.take_book-book.result)) (g.B.Book.entries c.act-reply.new.book))
    c.requires.idle.0 (c.give_turn.ensures.same.0 ∙ (c.return_book.ensures.same.0 ∙ (c.act-reply.ensures.same.0 ∙ (c.take_book-book.ensures.same.0 ∙ (c.await_turn.ensures.same.0 ∙ c.take_ticket-ticket.ensures.same.0)))))
    c.requires.stamp.0 c.requires.stamp.1
    (ap (λ m. m.0) c.take_ticket-ticket.ensures.view) (ap (λ m. m.0) c.await_turn.ensures.turn.1) (ap (λ m. m.1) c.await_turn.ensures.turn.1) c.take_book-book.ensures.book
    c.await_turn.ensures.turn.2 c.await_turn.ensures.turn.3 c.take_book-book.ensures.left.0 c.act-reply.ensures.acts c.act-reply.ensures.added c.return_book.ensures.left.0 (ap (λ m. m.0) c.give_turn.ensures.view)
