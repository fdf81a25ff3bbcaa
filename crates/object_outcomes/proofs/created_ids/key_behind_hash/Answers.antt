use Rattle.std.proofs.Common.{arith}
use Rattle.std.proofs.lemmas.Str.Pattern.{strip_prefix_char}
use Rattle.object_outcomes.proofs.ResolvedLemmas.{hash_cut}
use Rattle.object_outcomes.proofs.created_ids.key_behind_hash.Goals as goal

pub returns : goal.returns
returns c = hash_cut c.args.id.now c.strip_prefix.result (strip_prefix_char 35 c.args.id.now c.strip_prefix.result c.strip_prefix.ensures.cases (omega arith))
