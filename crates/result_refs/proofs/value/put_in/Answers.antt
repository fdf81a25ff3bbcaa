use Rattle.std.proofs.Common.{arith}
use Rattle.std.proofs.lemmas.Grind.{common_steps}
use Rattle.spec_json.specs.Data.{items_back}
use Rattle.result_refs.proofs.value.put_in.Goals as goal

pub returns-in_ok-append-in-List : goal.returns-in_ok-append-in-List
returns-in_ok-append-in-List c = let back = items_back c.in-List.list in grind (arith, common_steps, back)
