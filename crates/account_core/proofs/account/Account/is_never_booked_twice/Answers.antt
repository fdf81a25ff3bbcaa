use Rattle.std.proofs.Common.{List, subst}
use Rattle.account_rooms.specs.Covered.{AreCoveredOnce}
use Rattle.account_rooms.specs.Rooms.{AreFree}
use Rattle.spec_history.specs.Base.{Base}
use Rattle.spec_history.specs.History.{changes_of}
use Rattle.spec_history.specs.declared.entry.Entry.{Entry}
use Rattle.account_core.proofs.account.Account.is_never_booked_twice.Goals as goal

pub returns-clause-free : goal.returns-clause-free
returns-clause-free c = subst (λ (v : Base × List Entry). AreFree v.0.zones (changes_of v.1)) c.self.view_is c.is_never_booked_twice.ensures.free

pub returns-clause-occurrences : goal.returns-clause-occurrences
returns-clause-occurrences c = subst (λ (v : Base × List Entry). AreCoveredOnce v.0.zones (changes_of v.1)) c.self.view_is c.is_never_booked_twice.ensures.occurrences
