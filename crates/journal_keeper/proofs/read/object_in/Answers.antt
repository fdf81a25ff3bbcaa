use Rattle.std.proofs.Common.{◌∙◌, Some, ap, sym}
use Rattle.journal_keeper.proofs.Finding.{object_back}
use Rattle.spec_json.specs.TreeData.{data_of}
use Rattle.journal_keeper.proofs.read.object_in.Goals as goal

pub returns-then-nests_within-clause-found : goal.returns-then-nests_within-clause-found
returns-then-nests_within-clause-found c = λ o h shallow is. ap Some (sym (object_back c.in-Object.members o (ap data_of (sym c.in-Object.is) ∙ is)))
