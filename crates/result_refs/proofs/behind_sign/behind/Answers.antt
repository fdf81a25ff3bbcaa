use Rattle.std.proofs.lemmas.Str.Pattern.{strip_prefix_char}
use Rattle.result_refs.proofs.BehindLemmas.{stripped}
use Rattle.result_refs.proofs.behind_sign.behind.Goals as goal

pub returns : goal.returns
returns c = stripped c.args.sign c.args.text.now c.strip_prefix.result (strip_prefix_char c.args.sign c.args.text.now c.strip_prefix.result c.strip_prefix.ensures.cases c.requires)
