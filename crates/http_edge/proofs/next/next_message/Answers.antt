use Rattle.std.proofs.Common.{inl, rules, ◌≡◌, ◌≤◌, ◌∙◌, length, take, sym, ap, arith, refl}
use Rattle.std.proofs.lemmas.List.{length-take-le}
use Rattle.spec_http.specs.Heads.{head_end, ended}
use Rattle.http_edge.specs.Reading.{end_shown}
use Rattle.http_edge.proofs.Ends.{ended_within}
use Rattle.http_edge.proofs.Exits.{Read, head_ended, head_failed, head_refused, head_refused_so, head_wanting, sum_bound, body_ended, body_failed, body_wanting, body_whole}
use Rattle.http_edge.proofs.next.next_message.Goals as goal

pub returns-in-Err-Ended : goal.returns-in-Err-Ended
returns-in-Err-Ended g c = head_ended c.in-Err-Ended.ensures.took c.in-Err-Ended.ensures.asked c.in-Err-Ended.ensures.stop c.in-Err-Ended.field-0-is c.ended.ensures

pub returns-in-Err-Failed : goal.returns-in-Err-Failed
returns-in-Err-Failed g c = head_failed c.in-Err-Failed.ensures.took c.in-Err-Failed.ensures.asked c.in-Err-Failed.ensures.stop c.in-Err-Failed.field-0-is

pub slice_bounds-read_head-end : goal.slice_bounds-read_head-end
slice_bounds-read_head-end g c =
    let e : head_end c.find_head.new.kept ≡ ended c.in-Ok-At.size = c.in-Ok-At.ensures.end ∙ ap end_shown c.in-Ok-At.field-0-is in
    let within : c.in-Ok-At.size ≤ length c.as_slice.result.now = let w = (ended_within c.find_head.new.kept c.in-Ok-At.size e).0 in let l = ap length c.as_slice.ensures in omega (arith, w, l) in
    sym (length-take-le c.in-Ok-At.size c.as_slice.result.now within)

pub overflow_add-size : goal.overflow_add-size
overflow_add-size g c =
    let e : head_end c.find_head.new.kept ≡ ended c.in-Ok-At.size = c.in-Ok-At.ensures.end ∙ ap end_shown c.in-Ok-At.field-0-is in
    let h = sum_bound c.find_head.new.kept c.in-Ok-At.size c.in-Ok.ensures.ok.0 _ c.in-Ok.head e c.in-Ok.ensures.ok.1 in
    omega (arith, h)

pub returns-in-Err-Ended-take_until : goal.returns-in-Err-Ended-take_until
returns-in-Err-Ended-take_until g c =
    let e : head_end c.find_head.new.kept ≡ ended c.in-Ok-At.size = c.in-Ok-At.ensures.end ∙ ap end_shown c.in-Ok-At.field-0-is in
    let read : Read (g.S.Source.shown c.args.source.now) (g.S.Source.shown c.find_head.new.source) (g.S.Source.shown c.take_until.new.source) c.args.kept.now c.find_head.new.kept c.take_until.new.kept (take c.in-Ok-At.size c.as_slice.result.now) c.in-Ok-At.size c.in-Ok.ensures.ok.0 c.in-Ok.head =
    record { first = c.in-Ok-At.ensures.took; asked = c.in-Ok-At.ensures.asked; end = e; slice_is = ap (take c.in-Ok-At.size) c.as_slice.ensures; says = c.in-Ok.ensures.ok.1; second = c.in-Err-Ended-take_until.ensures.took; asked_behind = c.in-Err-Ended-take_until.ensures.asked } in
    body_ended read c.in-Err-Ended-take_until.ensures.stop c.in-Err-Ended-take_until.field-0-is

pub returns-in-Err-Failed-take_until : goal.returns-in-Err-Failed-take_until
returns-in-Err-Failed-take_until g c =
    let e : head_end c.find_head.new.kept ≡ ended c.in-Ok-At.size = c.in-Ok-At.ensures.end ∙ ap end_shown c.in-Ok-At.field-0-is in
    let read : Read (g.S.Source.shown c.args.source.now) (g.S.Source.shown c.find_head.new.source) (g.S.Source.shown c.take_until.new.source) c.args.kept.now c.find_head.new.kept c.take_until.new.kept (take c.in-Ok-At.size c.as_slice.result.now) c.in-Ok-At.size c.in-Ok.ensures.ok.0 c.in-Ok.head =
    record { first = c.in-Ok-At.ensures.took; asked = c.in-Ok-At.ensures.asked; end = e; slice_is = ap (take c.in-Ok-At.size) c.as_slice.ensures; says = c.in-Ok.ensures.ok.1; second = c.in-Err-Failed-take_until.ensures.took; asked_behind = c.in-Err-Failed-take_until.ensures.asked } in
    body_failed read c.in-Err-Failed-take_until.ensures.stop c.in-Err-Failed-take_until.field-0-is

pub returns-in-Err-NoMemory-take_until : goal.returns-in-Err-NoMemory-take_until
returns-in-Err-NoMemory-take_until g c =
    let e : head_end c.find_head.new.kept ≡ ended c.in-Ok-At.size = c.in-Ok-At.ensures.end ∙ ap end_shown c.in-Ok-At.field-0-is in
    let read : Read (g.S.Source.shown c.args.source.now) (g.S.Source.shown c.find_head.new.source) (g.S.Source.shown c.take_until.new.source) c.args.kept.now c.find_head.new.kept c.take_until.new.kept (take c.in-Ok-At.size c.as_slice.result.now) c.in-Ok-At.size c.in-Ok.ensures.ok.0 c.in-Ok.head =
    record { first = c.in-Ok-At.ensures.took; asked = c.in-Ok-At.ensures.asked; end = e; slice_is = ap (take c.in-Ok-At.size) c.as_slice.ensures; says = c.in-Ok.ensures.ok.1; second = c.in-Err-NoMemory-take_until.ensures.took; asked_behind = c.in-Err-NoMemory-take_until.ensures.asked } in
    body_wanting read refl

pub returns-in-Ok-take_message : goal.returns-in-Ok-take_message
returns-in-Ok-take_message g c =
    let e : head_end c.find_head.new.kept ≡ ended c.in-Ok-At.size = c.in-Ok-At.ensures.end ∙ ap end_shown c.in-Ok-At.field-0-is in
    let read : Read (g.S.Source.shown c.args.source.now) (g.S.Source.shown c.find_head.new.source) (g.S.Source.shown c.take_until.new.source) c.args.kept.now c.find_head.new.kept c.take_until.new.kept (take c.in-Ok-At.size c.as_slice.result.now) c.in-Ok-At.size c.in-Ok.ensures.ok.0 c.in-Ok.head =
    record { first = c.in-Ok-At.ensures.took; asked = c.in-Ok-At.ensures.asked; end = e; slice_is = ap (take c.in-Ok-At.size) c.as_slice.ensures; says = c.in-Ok.ensures.ok.1; second = c.in-Ok-take_until.ensures.took; asked_behind = c.in-Ok-take_until.ensures.asked } in
    body_whole read c.in-Ok-take_message.message c.take_message.new.kept c.in-Ok-take_until.ensures.there c.in-Ok-take_message.ensures.body c.in-Ok-take_message.ensures.rest c.in-Ok-take_message.ensures.said

pub returns-in-Err : goal.returns-in-Err
returns-in-Err g c =
    let e : head_end c.find_head.new.kept ≡ ended c.in-Ok-At.size = c.in-Ok-At.ensures.end ∙ ap end_shown c.in-Ok-At.field-0-is in
    let read : Read (g.S.Source.shown c.args.source.now) (g.S.Source.shown c.find_head.new.source) (g.S.Source.shown c.take_until.new.source) c.args.kept.now c.find_head.new.kept c.take_until.new.kept (take c.in-Ok-At.size c.as_slice.result.now) c.in-Ok-At.size c.in-Ok.ensures.ok.0 c.in-Ok.head =
    record { first = c.in-Ok-At.ensures.took; asked = c.in-Ok-At.ensures.asked; end = e; slice_is = ap (take c.in-Ok-At.size) c.as_slice.ensures; says = c.in-Ok.ensures.ok.1; second = c.in-Ok-take_until.ensures.took; asked_behind = c.in-Ok-take_until.ensures.asked } in
    body_wanting read c.in-Err.ensures.err

pub returns-in-Ok-TooLong : goal.returns-in-Ok-TooLong
returns-in-Ok-TooLong g c = head_refused 431 c.in-Ok-TooLong.ensures.took c.in-Ok-TooLong.ensures.asked (inl (refl, c.in-Ok-TooLong.ensures.end ∙ ap end_shown c.in-Ok-TooLong.field-0-is))

pub returns-in-Err-NoMemory : goal.returns-in-Err-NoMemory
returns-in-Err-NoMemory g c = head_wanting c.in-Err-NoMemory.ensures.took c.in-Err-NoMemory.ensures.asked

pub returns-in-Err-Refused : goal.returns-in-Err-Refused
returns-in-Err-Refused g c =
    let e : head_end c.find_head.new.kept ≡ ended c.in-Ok-At.size = c.in-Ok-At.ensures.end ∙ ap end_shown c.in-Ok-At.field-0-is in
    let refusal = head_refused_so (take c.in-Ok-At.size c.as_slice.result.now) c.in-Ok-At.size c.in-Err-Refused.status c.in-Ok-At.ensures.took c.in-Ok-At.ensures.asked e (ap (take c.in-Ok-At.size) c.as_slice.ensures)
    c.in-Err-Refused.ensures.err c.in-Err-Refused.field-0-is in
    search (rules, refusal)

pub returns-in-Err-NoMemory-read_head : goal.returns-in-Err-NoMemory-read_head
returns-in-Err-NoMemory-read_head g c = head_wanting c.in-Ok-At.ensures.took c.in-Ok-At.ensures.asked

pub take_until-requires-clause-most : goal.take_until-requires-clause-most
take_until-requires-clause-most g c =
    let e : head_end c.find_head.new.kept ≡ ended c.in-Ok-At.size = c.in-Ok-At.ensures.end ∙ ap end_shown c.in-Ok-At.field-0-is in
    let h = sum_bound c.find_head.new.kept c.in-Ok-At.size c.in-Ok.ensures.ok.0 _ c.in-Ok.head e c.in-Ok.ensures.ok.1 in
    omega (arith, h)
