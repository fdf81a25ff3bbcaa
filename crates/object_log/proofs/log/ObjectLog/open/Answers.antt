use Rattle.std.proofs.Common.{[], ap, arith, length, sym, List, ◌∙◌}
use Rattle.std.specs.List.{range_with_len}
use Rattle.std.proofs.lemmas.List.{drop_all}
use Rattle.object_log.proofs.PutLemmas.{length-pasts}
use Rattle.object_log.specs.Pasts.{pasts}
use Rattle.object_log.specs.Slots.{object_in}
use Rattle.object_log.specs.declared.slots.IdSlot.{IdSlot}
use Rattle.object_log.specs.declared.window.Past.{Past}
use Rattle.object_log.proofs.log.ObjectLog.open.Goals as goal

-- nothing is in the window
pub invariant_of-result : goal.invariant_of-result
invariant_of-result g c =
    let ps = c.args.told.items in
    let long = length-pasts [] ps in
    record {
      kept = c.new.ensures ∙ sym (drop_all c.args.state (pasts ps) (omega (arith, long, c.requires.state)));
      counted = omega (arith, ap (λ (l : List (Past g.row.T.Denot)). length l) c.new.ensures, c.requires.state);
      standing = λ id. ap (λ (ss : List (IdSlot g.row.T.Denot)). object_in ss id) c.of.ensures.items ∙ c.requires.standing id;
      numbered = c.requires.numbered ∙ ap (λ n. range_with_len 1 n) (sym c.of.ensures.created);
      few = omega (arith, c.requires.state, c.requires.few);
    }
