use Rattle.std.proofs.Common.{◌≡◌, filter, take}
use Rattle.object_log.specs.Standing.{is_changed, is_gone, is_new, standing}
use Rattle.object_log.specs.Puts.{said}
use Rattle.object_log.proofs.page.lists_between.Given as goal

abbrev pub invariant-loop-id : goal.invariant-loop-id
invariant-loop-id g l = record {
  created : l.lists.created.items ≡ filter (λ n. is_new (standing (said l.log.told.items) l.since l.until n)) (take l.id-index l.id-items);
  updated : l.lists.updated.items ≡ filter (λ n. is_changed (standing (said l.log.told.items) l.since l.until n)) (take l.id-index l.id-items);
  destroyed : l.lists.destroyed.items ≡ filter (λ n. is_gone (standing (said l.log.told.items) l.since l.until n)) (take l.id-index l.id-items);
}
