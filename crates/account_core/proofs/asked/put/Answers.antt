use Rattle.std.proofs.Common.{◌≡◌, ◌||◌, ◌∙◌, ℕ, List, string_bytes, subst, true}
use Rattle.std.proofs.lemmas.Map.Text.{btree_set_updates_text}
use Rattle.std.specs.BTreeSet.{contains_text}
use Rattle.std.specs.Str.{bytes_eq}
use Rattle.account_core.proofs.AskedLemmas.{either}
use Rattle.account_core.proofs.asked.put.Goals as goal

pub returns : goal.returns
returns c = λ other. subst (λ (name : List ℕ). contains_text c.insert.new.self other ≡ (bytes_eq name other || contains_text c.args.set.now other)) (c.in_ok-from_str.ensures.ok ∙ c.as_str.ensures)
    (btree_set_updates_text _ c.args.set.now c.insert.new.self true c.in_ok-insert.ensures.updates other ∙ either (bytes_eq (string_bytes c.in_ok-from_str.field-0) other) (contains_text c.args.set.now other))
