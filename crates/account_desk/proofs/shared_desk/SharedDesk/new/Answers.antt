use Rattle.std.proofs.Common.{◌≡◌, ◌≤◌, ◌<◌, ap, ◌∙◌, arith, length, map, max, rules, take, sym}
use Rattle.std.proofs.lemmas.List.{length-map, get_or-map}
use Rattle.spec_history.specs.MostTurns.{most_turns}
use Rattle.account_desk.specs.SharedDesk.{greatest_turn}
use Rattle.account_desk.proofs.SharedLemmas.{just_shared, turns_so_far}
use Rattle.account_desk.proofs.shared_desk.SharedDesk.new.Goals as goal

pub loop-pass-preserved : goal.loop-pass-preserved
loop-pass-preserved g c =
    let state = g.L.AccountLock.state in
    let passes = c.deref-pass-items.result.now in
    let i = c.loop-pass.pass-index in
    let p = c.pass-item.result in
    let before : c.loop-pass.turns ≤ most_turns = c.loop-pass.invariant.few in
    let more : c.max-turns.result ≡ max c.turns.result c.loop-pass.turns = c.max-turns.ensures in
    let count = length-map passes state in
    let there : i < length passes = c.loop-pass-test.true in
    record {
      greatest = turns_so_far (map state passes) i (state p) c.loop-pass.turns c.max-turns.result (omega (arith, there, count)) (ap state c.pass-item.is ∙ sym (get_or-map state passes i p (state p) there)) c.loop-pass.invariant.greatest
          (more ∙ ap (λ n. max n c.loop-pass.turns) c.turns.ensures.is);
      few = grind (arith, before, more, c.turns.ensures.few);
    }

pub invariant_of-result : goal.invariant_of-result
invariant_of-result g c =
    let state = g.L.AccountLock.state in
    let over : length c.args.passes.items ≤ c.loop-pass.pass-index = search rules in
    let count = length-map c.args.passes.items state in
    let few = c.requires.few in
    just_shared _ _ c.loop-pass.pass-index _ c.requires.of_accounts (omega (arith, few, count)) (omega (arith, over, count))
    (c.loop-pass.invariant.greatest ∙ ap (λ l. greatest_turn (take c.loop-pass.pass-index (map state l))) c.deref-pass-items.ensures.value) c.loop-pass.invariant.few
