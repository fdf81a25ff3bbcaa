use Rattle.slot_run.proofs.Faultless as lemmas
use Rattle.slot_run.proofs.laws.faultless_looks_answer.Goals as goal

pub returns : goal.returns
returns c = lemmas.faultless_looks_answer
