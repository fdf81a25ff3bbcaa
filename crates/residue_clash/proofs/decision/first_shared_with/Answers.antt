-- Why the one is shared with the other as the other with the one.
use Rattle.std.proofs.Common.{◌&&◌}
use Rattle.spec_series.specs.Shared.{covers}
use Rattle.residue_clash.proofs.Covering.{shared_by_tests}
use Rattle.residue_clash.proofs.Days.{turned_shared}
use Rattle.residue_clash.proofs.FirstSecond.{first_is}
use Rattle.residue_clash.proofs.decision.first_shared_with.Goals as goal

pub returns-clause-least : goal.returns-clause-least
returns-clause-least c = turned_shared c.args.a.now c.args.b.now c.shared_by.result (rw c.timetable.ensures at c.shared_by.ensures.least)

pub returns-clause-exact : goal.returns-clause-exact
returns-clause-exact c =
    first_is (λ x. covers c.args.a.now x && covers c.args.b.now x) c.shared_by.result (shared_by_tests c.args.a.now c.args.b.now c.shared_by.result (returns-clause-least c)) c.shared_by.ensures.near
