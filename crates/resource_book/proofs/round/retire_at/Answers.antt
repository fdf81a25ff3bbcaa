-- A retirement and its way back.
use Rattle.std.proofs.Common.{◌≡◌, remove, insert, arith, ap, ◌∙◌}
use Rattle.std.proofs.lemmas.List.Edits.{length-remove}
use Rattle.resource_book.specs.Rounds.{before_steps}
use Rattle.resource_book.specs.declared.round.Undo.TheVariants.{Retired}
use Rattle.resource_book.proofs.Steps.{fits-more, before-last, insert-removed}
use Rattle.resource_book.proofs.round.retire_at.Goals as goal

pub returns-clause-fits : goal.returns-clause-fits
returns-clause-fits c =
    let bs = c.args.bookings.now.items in
    let us = c.args.steps.now.items in
    let i = c.args.index in
    let b = c.remove-booking.result in
    let len = length-remove bs i (omega (arith, c.args.bookings.now.ok.0, c.requires.index)) in
    let back : insert (remove bs i) i b ≡ bs = ap (insert (remove bs i) i) c.remove-booking.ensures.value ∙ insert-removed bs i b (omega (arith, c.args.bookings.now.ok.0, c.requires.index)) in
    rw (c.in-Ok.ensures.items, c.remove-booking.ensures.items)
    (fits-more us (Retired i b) (remove bs i) (omega (arith, len, c.args.bookings.now.ok.0, c.requires.index)) (rw back c.requires.fits))

pub returns-clause-before : goal.returns-clause-before
returns-clause-before c =
    let bs = c.args.bookings.now.items in
    let us = c.args.steps.now.items in
    let i = c.args.index in
    let b = c.remove-booking.result in
    let back : insert (remove bs i) i b ≡ bs = ap (insert (remove bs i) i) c.remove-booking.ensures.value ∙ insert-removed bs i b (omega (arith, c.args.bookings.now.ok.0, c.requires.index)) in
    rw (c.in-Ok.ensures.items, c.remove-booking.ensures.items)
    (before-last us (Retired i b) (remove bs i) ∙ ap (before_steps us) back)
