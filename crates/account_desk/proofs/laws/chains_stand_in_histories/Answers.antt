use Rattle.spec_batch.proofs.Chains.{summary, turns_counted}
use Rattle.account_desk.proofs.laws.chains_stand_in_histories.Goals as goal

pub returns : goal.returns
returns c = λ s t ms chain. (summary s t ms chain, turns_counted s t ms chain)
