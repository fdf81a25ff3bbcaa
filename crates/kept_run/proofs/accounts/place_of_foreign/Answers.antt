use Rattle.std.proofs.Common.{◌==◌, not, rules, tests}
use Rattle.std.proofs.lemmas.Iterator.{YieldsList-from_slice}
use Rattle.std.proofs.lemmas.Iterator.Search.{position_from_yields_List}
use Rattle.kept_run.proofs.accounts.place_of_foreign.Goals as goal

pub returns : goal.returns
returns c = position_from_yields_List (λ e. not (e.author == 0)) _ _ _ c.position.ensures.ran (YieldsList-from_slice c.args.list.now cc) (λ x b q k. search (rules, tests))
