use Rattle.std.proofs.Common.{◌≡◌, All, Some, take, true}
use Rattle.account_store.specs.Store.{entries}
use Rattle.cal_model.specs.SoundObjects.{is_sound_object}
use Rattle.spec_history.specs.History.{changes_of, live_object}
use Rattle.spec_history.specs.declared.entry.Kind.TheVariants.{Event}
use Rattle.spec_json.specs.TreeData.{data_of}
use Rattle.spec_json.specs.declared.tree.Tree.{Tree}
use Rattle.account_opening.proofs.judge.judge_events.Given as goal

abbrev pub invariant-loop-id : goal.invariant-loop-id
invariant-loop-id l = record {
  store : l.again.store.now ≡ l.store;
  zones : l.again.zones.now ≡ l.zones;
  events : l.again.events ≡ l.id-index;
  sound : All (λ n. (t : Tree) → live_object (changes_of (entries l.store)) Event n ≡ Some t → is_sound_object l.zones (changes_of (entries l.store)) Event n (data_of t) ≡ true) (take l.id-index l.id-items);
}
