use Rattle.std.proofs.lemmas.List.Filters.{dedup_is}
use Rattle.std.proofs.Common.{nat_eq}
use Rattle.object_log.proofs.NumberLemmas.{once_rise, same_numbers}
use Rattle.object_log.proofs.TouchedLemmas.{touched_are}
use Rattle.object_log.proofs.log.ObjectLog.touched_between.Goals as goal

pub returns : goal.returns
returns g c =
    let t = c.args.self.now in
    let named = c.in_ok-ids.ids.items in
    let sorted = c.sort_unstable.new.self.items in
    let ids = c.dedup.new.self.items in
    let once = dedup_is nat_eq sorted ids c.dedup.ensures.filtered in
    touched_are t.told.items t.slots.created c.args.since c.args.until named ids t.numbered c.in_ok-ids.ensures (once_rise sorted ids c.sort_unstable.ensures.sorted once) (λ q. same_numbers named sorted ids q c.sort_unstable.ensures.permutation once)
