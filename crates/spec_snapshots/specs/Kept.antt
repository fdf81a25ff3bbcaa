-- What is kept of a history in place of all its entries.
use Rattle.std.specs.Prelude.{◌≡◌, ◌⊎◌, ℕ, ◌+◌, ◌-◌, suc, List, [], ◌∷◌, ◌++◌, ◌==◌, ◌&&◌, ◌||◌, not, Bool, true, false, Option, Some, None, if◌then◌else◌, length, nat_le, nat_lt}
use Rattle.std.specs.List.{range_with_len}
use Rattle.spec_history.specs.History.{changes_of, count_of_kind, ids_at, live_object}
use Rattle.spec_history.specs.Pages.{window}
use Rattle.spec_history.specs.Signed.{written_by}
use Rattle.spec_history.specs.declared.entry.Change.{Change}
use Rattle.spec_history.specs.declared.entry.Entry.{Entry}
use Rattle.spec_history.specs.declared.entry.Kind.{Kind}
use Rattle.spec_history.specs.declared.entry.Kind.TheVariants.{Calendar, Event}
use Rattle.spec_json.specs.declared.tree.Tree.{Tree}
use Rattle.spec_sizes.specs.Sizes.{is_answered_from, of_kind, size_of, window_bytes}
use Rattle.spec_snapshots.specs.Numbered.{are_numbered}
use Rattle.spec_snapshots.specs.declared.kept.KeptHistory.{KeptHistory}
use Rattle.spec_snapshots.specs.declared.kept.KindFloor.{KindFloor}
use Rattle.spec_snapshots.specs.declared.kept.LiveObject.{LiveObject}

abbrev pub object_among : List LiveObject → ℕ → Option Tree
object_among [] id = None
object_among (l ∷ ls) id = if l.id == id then Some l.object else object_among ls id

-- the numbers rise, from one on and up to another
abbrev pub rise_within : ℕ → ℕ → List LiveObject → Bool
rise_within low most [] = true
rise_within low most (l ∷ ls) = (nat_le low l.id && nat_le l.id most) && rise_within (suc l.id) most ls

-- what these changes left of a kind: how many there were, which numbers were given, and what is live
pub record IsFloor (past : List Change) (kind : Kind) (f : KindFloor) : Type 0 where
  pub state : f.state ≡ count_of_kind past kind
  pub numbers : ids_at past kind ≡ range_with_len 1 f.created
  pub rising : rise_within 1 f.created f.live.items ≡ true
  pub live : (id : ℕ) → object_among f.live.items id ≡ live_object past kind id

abbrev pub floor_of : KeptHistory → Kind → KindFloor
floor_of k Calendar = k.calendars
floor_of k Event = k.events

-- This is kept of the history: what its first entries left of each kind, and all entries behind them. The first gave the numbers of objects in order;
-- who made them isn't kept, and they count as the first author's. No state up to there is answered from any more (RFC 8620 section 5.2), unless there was none.
pub record IsKeptFrom (h : List Entry) (k : KeptHistory) : Type 0 where
  pub past : List Entry
  pub whole : h ≡ past ++ k.behind.items
  pub numbered : are_numbered [] (changes_of past) ≡ true
  pub own : written_by 0 past ≡ past
  pub floors : (kind : Kind) → IsFloor (changes_of past) kind (floor_of k kind)
  pub forgotten : (kind : Kind) → ((floor_of k kind).state ≡ 0) ⊎ (is_answered_from kind (changes_of h) (floor_of k kind).state ≡ false)

-- Some changes leave this of a kind: each number up to `created` was put once at least, and what is gone of them was removed.
abbrev pub is_floor : KindFloor → Bool
is_floor f = rise_within 1 f.created f.live.items && (nat_le (f.created + (f.created - length f.live.items)) f.state && (not (f.created == 0) || (f.state == 0)))

-- more changes of a kind lie behind its floor than are told from, or more bytes, unless there was nothing up to it
abbrev pub is_old : Kind → KeptHistory → Bool
is_old kind k = ((floor_of k kind).state == 0)
    || (nat_lt window (count_of_kind (changes_of k.behind.items) kind) || nat_lt window_bytes (size_of (of_kind kind (changes_of k.behind.items))))

-- this may be kept of some history
abbrev pub may_be_kept : KeptHistory → Bool
may_be_kept k = (is_floor k.calendars && is_floor k.events) && (is_old Calendar k && is_old Event k)
