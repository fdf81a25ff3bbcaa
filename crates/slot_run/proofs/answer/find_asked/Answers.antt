use Rattle.slot_run.proofs.AnswerLemmas.{granted_within}
use Rattle.slot_run.proofs.answer.find_asked.Goals as goal

pub find_granted-requires : goal.find_granted-requires
find_granted-requires c = granted_within _ c.grant_of-grant.result _ c.args.grants.now c.grant_of-grant.ensures c.requires
