use Rattle.std.proofs.Common.{◌∙◌}
use Rattle.folded_text.proofs.SearchLemmas.{finds}
use Rattle.folded_text.proofs.stands_in.Goals as goal

pub returns : goal.returns
returns c = c.is_some.ensures ∙ finds c.args.text.now c.args.needle.now c.find.result c.find.ensures
