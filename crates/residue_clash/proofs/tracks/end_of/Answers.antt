-- Why the last day tells the rule's set by the days of each kind.
use Rattle.std.proofs.Common.{refl}
use Rattle.spec_time.specs.Walls.{day_of_wall}
use Rattle.rule_expand.proofs.Sets.{set_start}
use Rattle.residue_clash.proofs.SetDays.{to_given, from_given}
use Rattle.residue_clash.proofs.tracks.end_of.Goals as goal

pub returns : goal.returns
returns c = λ kind. record {
  to = λ n k p h. rw c.limit.ensures (to_given c.args.rule.now c.args.start c.last_day.result c.last_day.ensures kind n k p h);
  from = λ n g. from_given c.args.rule.now c.args.start c.last_day.result c.last_day.ensures kind n (rw c.limit.ensures at g);
  start_in = set_start c.args.rule.now c.args.start (day_of_wall c.args.start) refl;
}
