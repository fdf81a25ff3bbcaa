use Rattle.std.proofs.Common.{◌≡◌, All, Some, take, true}
use Rattle.account_opening.specs.Again.{puts_of}
use Rattle.account_rooms.specs.Rooms.{AreRooms}
use Rattle.account_store.specs.Store.{entries}
use Rattle.cal_model.specs.SoundObjects.{is_sound_object}
use Rattle.spec_history.specs.History.{changes_of, live_object}
use Rattle.spec_history.specs.declared.entry.Kind.TheVariants.{Calendar}
use Rattle.spec_json.specs.TreeData.{data_of}
use Rattle.spec_json.specs.declared.tree.Tree.{Tree}
use Rattle.account_opening.proofs.judge.calendar_rooms.Given as goal

abbrev pub invariant-loop-id : goal.invariant-loop-id
invariant-loop-id l = record {
  rooms : AreRooms l.zones (puts_of (changes_of (entries l.store)) Calendar (take l.id-index l.id-items)) l.rooms.rooms;
  sound : All (λ n. (t : Tree) → live_object (changes_of (entries l.store)) Calendar n ≡ Some t → is_sound_object l.zones (changes_of (entries l.store)) Calendar n (data_of t) ≡ true) (take l.id-index l.id-items);
}
