-- A booking and its way back.
use Rattle.std.proofs.Common.{◌≡◌, remove, insert, arith, ap, ◌∙◌}
use Rattle.std.proofs.lemmas.List.Edits.{length-insert}
use Rattle.resource_book.specs.Rounds.{before_steps}
use Rattle.resource_book.specs.declared.round.Undo.TheVariants.{Booked}
use Rattle.resource_book.proofs.Steps.{fits-more, before-last, remove-inserted}
use Rattle.resource_book.proofs.round.book_at.Goals as goal

pub returns-clause-fits : goal.returns-clause-fits
returns-clause-fits c =
    let bs = c.args.bookings.now.items in
    let i = c.args.index in
    let b = c.args.booking in
    let len = length-insert bs i b (omega (arith, c.args.bookings.now.ok.0, c.requires.index)) in
    let back : remove (insert bs i b) i ≡ bs = remove-inserted bs i b (omega (arith, c.args.bookings.now.ok.0, c.requires.index)) in
    rw (c.in-Ok-push.ensures.items, c.in-Ok.ensures.items)
    (fits-more c.args.steps.now.items (Booked i) (insert bs i b) (omega (arith, len, c.args.bookings.now.ok.0, c.requires.index)) (rw back c.requires.fits))

pub returns-clause-before : goal.returns-clause-before
returns-clause-before c =
    let bs = c.args.bookings.now.items in
    let i = c.args.index in
    let b = c.args.booking in
    let back : remove (insert bs i b) i ≡ bs = remove-inserted bs i b (omega (arith, c.args.bookings.now.ok.0, c.requires.index)) in
    rw (c.in-Ok-push.ensures.items, c.in-Ok.ensures.items)
    (before-last c.args.steps.now.items (Booked i) (insert bs i b) ∙ ap (before_steps c.args.steps.now.items) back)
