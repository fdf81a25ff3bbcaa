-- Why the words are a map of the days.
use Rattle.std.proofs.Common.{◌≡◌, ◌∙◌, ◌++◌, take, drop, length, arith}
use Rattle.std.proofs.lemmas.List.{take-append-le, take_all}
use Rattle.std.proofs.lemmas.Option.{same_Some}
use Rattle.residue_clash.proofs.rule_map.DayMap.of.Goals as goal

pub returns : goal.returns
returns c = λ words e.
    let filled = c.fill.new.words in
    let len = c.in_ok-words.ensures.len in
    let all = c.fill.ensures.length in
    let whole : take c.in_ok-words.words.len (filled ++ drop (length filled) c.in_ok-words.words.items) ≡ filled =
    take-append-le c.in_ok-words.words.len filled (drop (length filled) c.in_ok-words.words.items) (omega (arith, len, all)) ∙ take_all c.in_ok-words.words.len filled (omega (arith, len, all)) in
    rw (← same_Some _ words e, whole) c.fill.ensures
