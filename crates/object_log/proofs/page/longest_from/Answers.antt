use Rattle.std.proofs.Common.{◌≡◌, ◌≤◌, ◌<◌, ◌+◌, ◌-◌, arith, Some, true, false, length, refl, sym, le-leb}
use Rattle.std.proofs.lemmas.Bool.{lt-leb}
use Rattle.std.proofs.lemmas.Grind.{common_steps}
use Rattle.spec_history.specs.Pages.{is_within, size_of_page}
use Rattle.object_log.proofs.EndLemmas.{greatest_grows, greatest-ge, greatest-le}
use Rattle.object_log.proofs.GrowthLemmas.{size_grows}
use Rattle.object_log.proofs.SizeLemmas.{one_if-le, size_of_page_none}
use Rattle.object_log.proofs.StandingLemmas.{found_more}
use Rattle.object_log.proofs.NoteLemmas.{length-said, mention_at}
use Rattle.object_log.specs.Pasts.{mention_past}
use Rattle.object_log.specs.Puts.{said}
use Rattle.object_log.proofs.page.longest_from.Goals as goal
use Rattle.object_log.proofs.page.longest_from.Goals.{then-size-most, else-size-most}

pub loop-state-init : goal.loop-state-init
loop-state-init g c = record {
  standings = c.in_ok-standings.ensures;
  size = sym (size_of_page_none (said c.args.log.now.told.items) c.args.since);
  small = omega arith;
  end = let none : c.args.since - c.args.since ≡ 0 = omega arith in rw none refl;
}

pub resized-size-requires-clause-listed : goal.resized-size-requires-clause-listed
resized-size-requires-clause-listed g c =
    let ns = c.args.log.now.told.items in
    let ms = said ns in
    let k = c.args.since in
    let j = c.loop-state.state in
    let n = c.past.result.now in
    let m = mention_past n in
    let after : k ≤ j = grind (arith, common_steps) in
    let size_of_all = length-said ns in
    let within : j < length ns = grind (arith, common_steps) in
    let inside : j < length ms = omega (arith, within, size_of_all) in
    let at = mention_at ns j n within c.past.ensures in
    let grows = size_grows ms k j m _ c.in_ok-growth.growth after inside at (c.loop-state.invariant.standings m.id) c.in_ok-growth.ensures.growth in
    omega (arith, grows, c.loop-state.invariant.size)

pub loop-state-preserved : goal.loop-state-preserved
loop-state-preserved g c =
    let ns = c.args.log.now.told.items in
    let ms = said ns in
    let k = c.args.since in
    let j = c.loop-state.state in
    let n = c.past.result.now in
    let m = mention_past n in
    let after : k ≤ j = grind (arith, common_steps) in
    let size_of_all = length-said ns in
    let within : j < length ns = grind (arith, common_steps) in
    let inside : j < length ms = omega (arith, within, size_of_all) in
    let at = mention_at ns j n within c.past.ensures in
    let grows = size_grows ms k j m _ c.in_ok-growth.growth after inside at (c.loop-state.invariant.standings m.id) c.in_ok-growth.ensures.growth in
    let size : c.resized-size.result ≡ size_of_page ms k (j + 1) = omega (arith, grows, c.loop-state.invariant.size, c.resized-size.ensures) in
    record {
      standings = λ id. found_more ms k j m id _ _ after inside at (c.loop-state.invariant.standings id) (c.in_ok-growth.ensures.standings id);
      size = size;
      small = omega (arith, c.resized-size.ensures, c.loop-state.invariant.small, one_if-le c.in_ok-growth.growth.is_listed);
      end = elim c.if-size-most.branch [
        | then-size-most w ↦ greatest_grows (λ i. is_within (Some c.args.most) (size_of_page ms k i)) k j c.loop-state.end _ true after (le-leb _ _ (omega (arith, size, w.if-size-most.true))) c.loop-state.invariant.end w.end-is
        | else-size-most w ↦ greatest_grows (λ i. is_within (Some c.args.most) (size_of_page ms k i)) k j c.loop-state.end _ false after (lt-leb _ _ (omega (arith, size, w.if-size-most.false))) c.loop-state.invariant.end w.end-is
      ];
    }

pub returns-clause-after : goal.returns-clause-after
returns-clause-after g c = omega (arith, c.loop-state.invariant.end, greatest-ge (λ i. is_within (Some c.args.most) (size_of_page (said c.args.log.now.told.items) c.args.since i)) c.args.since (c.loop-state.state - c.args.since))

pub returns-clause-within : goal.returns-clause-within
returns-clause-within g c =
    let ns = c.args.log.now.told.items in
    let size_of_all = length-said ns in
    let after : c.args.since ≤ c.loop-state.state = grind (arith, common_steps) in
    let reached : c.loop-state.state ≤ length ns = grind (arith, common_steps) in
    let within : c.loop-state.state ≤ length (said ns) = omega (arith, reached, size_of_all) in
    omega (arith, c.loop-state.invariant.end, greatest-le (λ i. is_within (Some c.args.most) (size_of_page (said ns) c.args.since i)) c.args.since (c.loop-state.state - c.args.since))
