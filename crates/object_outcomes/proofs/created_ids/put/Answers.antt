use Rattle.std.proofs.Common.{◌≡◌, ℕ, List, Some, if◌then◌else◌, subst, ◌∙◌}
use Rattle.std.proofs.lemmas.Map.Text.{btree_map_updates_text}
use Rattle.std.specs.BTreeMap.{get_by_text}
use Rattle.std.specs.Str.{bytes_eq}
use Rattle.object_outcomes.proofs.created_ids.put.Goals as goal

pub returns : goal.returns
returns c = λ q. subst (λ (key : List ℕ). get_by_text c.insert.new.self q ≡ (if bytes_eq key q then Some c.args.id else get_by_text c.args.ids.now q)) (c.in_ok-from_str.ensures.ok ∙ c.as_str.ensures)
    (btree_map_updates_text _ c.args.ids.now c.insert.new.self (Some c.args.id) c.in_ok-insert.ensures.updates q)
