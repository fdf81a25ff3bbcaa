use Rattle.jmapd_listen.proofs.FaultlessLemmas as lemmas
use Rattle.jmapd_listen.proofs.laws.faultless_listens_serve.Goals as goal

pub returns : goal.returns
returns c = lemmas.faultless_listens_serve
