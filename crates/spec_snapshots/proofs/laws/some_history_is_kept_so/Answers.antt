use Rattle.spec_snapshots.proofs.SomeHistory.{kept_of_some, some_history}
use Rattle.spec_snapshots.proofs.laws.some_history_is_kept_so.Goals as goal

pub returns : goal.returns
returns c = λ k h. (some_history k, kept_of_some k h)
