use Rattle.std.proofs.Common.{refl}
use Rattle.spec_history.specs.Pages.{is_live}
use Rattle.object_log.proofs.LawLemmas.{gets_on, lists_apart, pages_lead_on}
use Rattle.object_log.proofs.laws.pages_lead.Goals as goal

pub returns-clause-apart : goal.returns-clause-apart
returns-clause-apart c = lists_apart

pub returns-clause-gets_on : goal.returns-clause-gets_on
returns-clause-gets_on c = gets_on

pub returns-clause-leads : goal.returns-clause-leads
returns-clause-leads c = λ ms k js id. pages_lead_on ms js k (is_live ms k) id (λ i. refl)
