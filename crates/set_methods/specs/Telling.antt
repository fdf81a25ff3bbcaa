-- What is told of a set is what came of it.
use Rattle.std.specs.Prelude.{◌≡◌, ◌++◌, ℕ, List, map}
use Rattle.cal_model.specs.Operations.{Ground}
use Rattle.cal_model.specs.Sets.{Objects, all_ids, create_outcomes, destroy_outcomes, ids_to_destroy, set_changes, update_outcomes}
use Rattle.spec_history.specs.States.{state_of}
use Rattle.spec_history.specs.declared.entry.Change.{Change}
use Rattle.spec_history.specs.declared.entry.Kind.{Kind}
use Rattle.spec_json.specs.TreeData.{pair_of}
use Rattle.set_methods.specs.declared.run.Creates.{Creates}
use Rattle.set_methods.specs.declared.told.Told.{Told}

pub record Tells (t : Told) (g : Ground) (kind : Kind) (created : List (List ℕ × List ℕ)) (cs : List Change) (s : Objects) : Type 0 where
  pub account : t.account.now ≡ g.base.account_id
  pub old_state : t.old_state ≡ state_of g.base.generation kind cs
  pub new_state : t.new_state ≡ state_of g.base.generation kind (cs ++ set_changes g kind created cs s)
  pub creates : map pair_of t.creates.now ≡ s.creates
  pub create_outcomes : t.create_outcomes.now ≡ create_outcomes g kind created cs s
  pub updates : map pair_of t.updates.now ≡ s.updates
  pub update_outcomes : t.update_outcomes.now ≡ update_outcomes g kind created cs s
  pub destroys : t.destroys.now ≡ ids_to_destroy g kind created cs s
  pub destroy_outcomes : t.destroy_outcomes.now ≡ destroy_outcomes g kind created cs s

-- the creates of a set came to this
pub record IsCreated (c : Creates) (g : Ground) (kind : Kind) (created : List (List ℕ × List ℕ)) (cs : List Change) (s : Objects) : Type 0 where
  pub outcomes : c.outcomes.items ≡ create_outcomes g kind created cs s
  pub ids : c.ids ≡ all_ids g kind created cs s
