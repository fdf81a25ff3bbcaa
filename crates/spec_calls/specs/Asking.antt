-- What methods ask of an account, by their arguments, with the defaults of those that are absent (RFC 8620 section 5, draft JMAP for Calendars).
use Rattle.std.specs.Prelude.{ℕ, ℤ, pos, List, [], Bool, false, Option, option_map, option_and_then, unwrap_or, codes}
use Rattle.spec_json.specs.Data.{Data, Pair, lookup}
use Rattle.spec_json.specs.Parts.{as_text, as_truth, as_whole, as_texts, as_list, as_object}
use Rattle.spec_calls.specs.declared.call.Asks.{Asks}
use Rattle.spec_calls.specs.declared.call.Asks.TheVariants.{Get, Changes, Set, Query, QueryChanges, Availability, Slot}
use Rattle.spec_calls.specs.declared.call.Criteria.{Criteria}
use Rattle.spec_calls.specs.declared.call.Paging.{Paging}
use Rattle.spec_calls.specs.declared.call.SlotArguments.{SlotArguments}
use Rattle.spec_history.specs.declared.entry.Kind.{Kind}
use Rattle.spec_history.specs.declared.entry.Kind.TheVariants.{Calendar}
use Rattle.spec_json.specs.declared.tree.Tree.{Tree}
use Rattle.spec_json.specs.declared.tree.Tree.TheVariants.{List as Listed, Object}

abbrev pub object_tree : Data → Option Tree
object_tree d = option_map (λ ps. Object ps) (as_object d)

abbrev pub list_tree : Data → Option Tree
list_tree d = option_map (λ ds. Listed ds) (as_list d)

module _ (arguments : List Pair) where
  -- what an argument is read as, where it is there
  abbrev pub argument : {X : Type 0} → (Data → Option X) → List ℕ → Option X
  argument read key = option_and_then read (lookup key arguments)

  abbrev pub text_argument : List ℕ → List ℕ
  text_argument key = unwrap_or (argument as_text key) []

  abbrev pub number_argument : List ℕ → ℤ
  number_argument key = unwrap_or (argument as_whole key) (pos 0)

  abbrev pub truth_argument : List ℕ → Bool
  truth_argument key = unwrap_or (argument as_truth key) false

  abbrev pub zone_argument : List ℕ
  zone_argument = unwrap_or (argument as_text (codes "timeZone")) (codes "Etc/UTC")

  abbrev pub get_asks : Kind → Asks
  get_asks kind = Get (record { kind = kind; ids = argument as_texts (codes "ids"); properties = argument as_texts (codes "properties") })

  abbrev pub changes_asks : Kind → Asks
  changes_asks kind = Changes (record { kind = kind; since = text_argument (codes "sinceState"); max = argument as_whole (codes "maxChanges") })

  abbrev pub set_asks : Kind → Option Bool → Asks
  set_asks kind remove_events = Set (record {
    kind = kind;
    if_in_state = argument as_text (codes "ifInState");
    create = argument as_object (codes "create");
    update = argument as_object (codes "update");
    destroy = argument as_texts (codes "destroy");
    remove_events = remove_events;
  })

  abbrev pub calendar_set_asks : Asks
  calendar_set_asks = set_asks Calendar (argument as_truth (codes "onDestroyRemoveEvents"))

  abbrev pub criteria_given : Criteria
  criteria_given = record { filter = argument object_tree (codes "filter"); sort = argument list_tree (codes "sort"); time_zone = zone_argument }

  abbrev pub paging_given : Paging
  paging_given = record {
    position = number_argument (codes "position");
    anchor = argument as_text (codes "anchor");
    anchor_offset = number_argument (codes "anchorOffset");
    limit = argument as_whole (codes "limit");
    calculate_total = truth_argument (codes "calculateTotal");
  }

  abbrev pub query_asks : Asks
  query_asks = Query (record { criteria = criteria_given; expand = truth_argument (codes "expandRecurrences"); paging = paging_given })

  abbrev pub query_changes_asks : Asks
  query_changes_asks = QueryChanges (record {
    criteria = criteria_given;
    expand = truth_argument (codes "expandRecurrences");
    since = text_argument (codes "sinceQueryState");
    max = argument as_whole (codes "maxChanges");
    up_to = argument as_text (codes "upToId");
    calculate_total = truth_argument (codes "calculateTotal");
  })

  abbrev pub availability_asks : Asks
  availability_asks = Availability (record {
    id = text_argument (codes "id");
    utc_start = text_argument (codes "utcStart");
    utc_end = text_argument (codes "utcEnd");
    time_zone = zone_argument;
  })

  abbrev pub slot_given : SlotArguments
  slot_given = record {
    calendar = text_argument (codes "calendarId");
    duration = text_argument (codes "duration");
    after = text_argument (codes "after");
    before = text_argument (codes "before");
    rules = unwrap_or (argument list_tree (codes "recurrenceRules")) (Listed []);
  }

  abbrev pub slot_asks : Asks
  slot_asks = Slot slot_given
