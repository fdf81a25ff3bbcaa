use Rattle.std.proofs.Common.{length, drop}
use Rattle.account_lock.proofs.locked.act.Given as goal

abbrev pub ghosts-add_entries : goal.ghosts-add_entries
ghosts-add_entries g a = record { grown = drop (length a.seat.now.me.0.seen) (g.B.Book.entries a.book.now) }
