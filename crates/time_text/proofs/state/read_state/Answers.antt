use Rattle.std.proofs.Common.{◌≡◌, ◌∙◌, ◌+◌, ◌-◌, ap, arith, drop, length, length-drop, take, option_and_then}
use Rattle.std.proofs.lemmas.List.{take_all}
use Rattle.time_text.specs.State.{state_with, unsigned_in}
use Rattle.time_text.proofs.state.read_state.Goals as goal

pub returns : goal.returns
returns c =
    let text = c.args.text.now in
    let behind = drop (c.in_ok-hyphen.hyphen + 1) text in
    let rest : take (length text - (c.in_ok-hyphen.hyphen + 1)) behind ≡ behind = take_all _ behind (let l = length-drop (c.in_ok-hyphen.hyphen + 1) text in omega arith) in
    c.state_with.ensures ∙ (λ i. state_with (c.read_unsigned.ensures i) ((c.read_unsigned-2.ensures ∙ ap unsigned_in rest) i))
    ∙ ap (option_and_then (λ place. state_with (unsigned_in (take place text)) (unsigned_in (drop (place + 1) text)))) c.in_ok-hyphen.ensures.place
