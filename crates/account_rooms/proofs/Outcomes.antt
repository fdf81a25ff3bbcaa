-- What comes of storing an event is a clash exactly where there is one.
use Rattle.std.proofs.Common.{◌≡◌, ◌∙◌, ℕ, ℤ, Bool, true, false, ◌||◌, List, [], ◌∷◌, Option, Some, None, Result, Ok, Err, codes, is_some, option_and_then, option_map, refl, sym, ap, subst}
use Rattle.std.proofs.lemmas.Option.{same_Some}
use Rattle.cal_model.specs.Calendar.{calendar_in, stored}
use Rattle.cal_model.specs.CreatedIds.{object_named, resolved_object, resolved_patch}
use Rattle.cal_model.specs.Occurrences.{occurrence_named}
use Rattle.cal_model.specs.Operations.{Ground, Operation, destroy, update, after_tests, bad_of_calendar, bad_of_event, calendar_outcome, destroyed_outcome, exceeds_resources, has_other_id, is_in_use, outcome_of, patched_outcome, put, removal, if_holds, unless, unless_occurrence, updated_outcome, with_own_id, within_quota}
use Rattle.cal_model.specs.Quota.{exceeds_quota}
use Rattle.cal_model.specs.declared.outcome.Outcome.{Outcome}
use Rattle.cal_model.specs.declared.outcome.Outcome.TheVariants.{Accepted, Refused}
use Rattle.cal_model.specs.declared.set_error.SetError.TheVariants.{CalendarHasEvent, Clashes, OverQuota}
use Rattle.account_rooms.proofs.Resources.{FirstIn, at_resource, first_of_all, resource_at}
use Rattle.account_rooms.specs.Storing.{ClashesAreExact, ClashesAreFirst, ClashesAreOfStoring, IsClashed, IsToldClash, MeetsNoEarlier, OthersAreStored, Stores, WouldClash, outcome, stored_event, stored_members}
use Rattle.account_rooms.specs.Twice.{WouldCoverTwice}
use Rattle.spec_history.specs.declared.entry.Change.{Change}
use Rattle.spec_history.specs.History.{next_number}
use Rattle.spec_history.specs.declared.entry.Kind.{Kind}
use Rattle.spec_history.specs.declared.entry.Kind.TheVariants.{Calendar, Event}
use Rattle.spec_json.proofs.Options.{by_option}
use Rattle.spec_json.specs.Data.{Data, Pair, lookup}
use Rattle.spec_json.specs.Parts.{members_in}
use Rattle.spec_json.specs.Patch.{patched}
use Rattle.spec_json.specs.TreeData.{data_of}
use Rattle.property_table.specs.Table.{given}
use Rattle.spec_json.specs.declared.tree.Tree.{Tree}
use Rattle.spec_recurrence.specs.SeriesOf.{series_in}
use Rattle.spec_bookings.specs.BookedResources.{clash_of_event, first_clash_in, has_full_resource}
use Rattle.spec_bookings.specs.Resources.{resources_of}
use Rattle.spec_bookings.specs.Clashes.{second_of}
use Rattle.spec_bookings.specs.declared.clash.Clash.{Clash}
use Rattle.spec_series.specs.declared.series.Series.{Series}

-- ---- The last of the refusals.

-- what comes where no earlier refusal holds
abbrev unless_clash : Option (ℕ × Clash) → Change → Outcome
unless_clash clash c = unless (option_map (λ q. Clashes q.0 q.1) clash ∷ []) (Accepted c)

unless_earlier : (cs : List Change) (is_full : Bool) (clash : Option (ℕ × Clash)) (c : Change) (names : List (List ℕ)) → names ≡ [] → exceeds_quota cs c ≡ false → is_full ≡ false
    → after_tests cs is_full clash c names ≡ unless_clash clash c
unless_earlier cs is_full clash c names valid fits room = rw (valid, fits, room) refl

-- a clash told is the last refusal
last_of_all : (cs : List Change) (is_full : Bool) (clash : Option (ℕ × Clash)) (c : Change) (names : List (List ℕ)) (calendar : ℕ) (told : Clash)
    → after_tests cs is_full clash c names ≡ Refused (Clashes calendar told)
    → ((names ≡ []) × (exceeds_quota cs c ≡ false)) × ((is_full ≡ false) × (clash ≡ Some (calendar, told)))
last_of_all cs is_full clash c (name ∷ names) calendar told h = absurd (cc h)
last_of_all cs is_full clash c [] calendar told h = let rest = by_cases (exceeds_quota cs c) is_full clash refl refl refl h in ((refl, rest.0), (rest.1, rest.2))
  where
    same : (q : ℕ × Clash) → Refused (Clashes q.0 q.1) ≡ Refused (Clashes calendar told) → Some q ≡ Some (calendar, told)
    same (m, clash) e = cc e

    by_cases : (e f : Bool) (o : Option (ℕ × Clash)) → exceeds_quota cs c ≡ e → is_full ≡ f → clash ≡ o
        → unless (if_holds (e || f) OverQuota ∷ option_map (λ q. Clashes q.0 q.1) o ∷ []) (Accepted c) ≡ Refused (Clashes calendar told)
        → (exceeds_quota cs c ≡ false) × (is_full ≡ false) × (clash ≡ Some (calendar, told))
    by_cases true f o a b d g = absurd (cc g)
    by_cases false true o a b d g = absurd (cc g)
    by_cases false false None a b d g = absurd (cc g)
    by_cases false false (Some q) a b d g = (a, b, d ∙ same q g)

module _ (g : Ground) (cs : List Change) (n : ℕ) (before : Option Tree) (names_id : Bool) (ps : List Pair) where
  abbrev found : Option (ℕ × Clash)
  found = clash_of_event g.base.zones cs n (stored_event g cs n before names_id ps)

  abbrev change : Change
  change = put Event n (stored_members g cs n before names_id ps)

  abbrev Would : Type 0
  Would = (calendar : ℕ) × ((x : ℤ) × WouldClash g cs n before names_id ps calendar x)

  -- a clash that is found is the first
  found_first : (o : Option Series) (q : ℕ × Clash) → series_in g.base.zones (stored_event g cs n before names_id ps) ≡ o
      → option_and_then (λ s. first_clash_in g.base.zones cs n s (resources_of cs (stored_event g cs n before names_id ps))) o ≡ Some q → IsToldClash g cs n before names_id ps q.0 q.1
  found_first None q e h = absurd (cc h)
  found_first (Some s) q e h = (s, (e, subst (FirstIn g.base.zones cs n s (resources_of cs (stored_event g cs n before names_id ps))) h (first_of_all g.base.zones cs n s (resources_of cs (stored_event g cs n before names_id ps)))))

  -- and is one
  told_would : (calendar : ℕ) (clash : Clash) → IsToldClash g cs n before names_id ps calendar clash → WouldClash g cs n before names_id ps calendar (second_of clash)
  told_would calendar clash (s, (e, first)) =
      let at = at_resource cs (stored_event g cs n before names_id ps) first.place calendar first.here in
      record { resource = at.0; there = at.1; series = s; is = e; twice = first.told.twice }

  -- where none is found there is none
  none_would : (o : Option Series) → series_in g.base.zones (stored_event g cs n before names_id ps) ≡ o
      → option_and_then (λ s. first_clash_in g.base.zones cs n s (resources_of cs (stored_event g cs n before names_id ps))) o ≡ None → Would → ⊥
  none_would None e h (calendar, (x, would)) = cc (e, would.is)
  none_would (Some s) e h (calendar, (x, would)) =
      let same : would.series ≡ s = same_Some would.series s (sym would.is ∙ e) in
      let at = resource_at cs (stored_event g cs n before names_id ps) calendar would.resource would.there in
      let none = subst (FirstIn g.base.zones cs n s (resources_of cs (stored_event g cs n before names_id ps))) h (first_of_all g.base.zones cs n s (resources_of cs (stored_event g cs n before names_id ps))) in
      none at.0 calendar x at.1 (subst (λ (t : Series). WouldCoverTwice g.base.zones cs n t calendar x) same would.twice)

  module _ (m : MeetsNoEarlier g cs n before names_id ps) where
    outcome_is : outcome g cs n before names_id ps ≡ unless_clash found change
    outcome_is = unless_earlier cs (has_full_resource g.base.zones cs n (stored_event g cs n before names_id ps)) found change (bad_of_event g.base.zones cs before names_id (stored_event g cs n before names_id ps)) m.valid m.fits m.room

    clashed_would : IsClashed (outcome g cs n before names_id ps) → Would
    clashed_would (calendar, (clash, h)) =
        let last = last_of_all cs (has_full_resource g.base.zones cs n (stored_event g cs n before names_id ps)) found change (bad_of_event g.base.zones cs before names_id (stored_event g cs n before names_id ps)) calendar clash h in
        (calendar, (second_of clash, told_would calendar clash (found_first (series_in g.base.zones (stored_event g cs n before names_id ps)) (calendar, clash) refl last.1.1)))

    would_clashed : Would → IsClashed (outcome g cs n before names_id ps)
    would_clashed would = by_option found
        (λ e. absurd (none_would (series_in g.base.zones (stored_event g cs n before names_id ps)) refl e would))
        (λ q e. (q.0, (q.1, outcome_is ∙ ap (λ o. unless_clash o change) e)))

    not_found : (Would → ⊥) → outcome g cs n before names_id ps ≡ Accepted change
    not_found none = by_option found
        (λ e. outcome_is ∙ ap (λ o. unless_clash o change) e)
        (λ q e. absurd (none (q.0, (second_of q.1, told_would q.0 q.1 (found_first (series_in g.base.zones (stored_event g cs n before names_id ps)) q refl e)))))

pub clashes_are_exact : ClashesAreExact
clashes_are_exact g cs n before names_id ps m = (clashed_would g cs n before names_id ps m, would_clashed g cs n before names_id ps m)

pub clashes_are_first : ClashesAreFirst
clashes_are_first g cs n before names_id ps calendar clash h =
    let last = last_of_all cs (has_full_resource g.base.zones cs n (stored_event g cs n before names_id ps)) (found g cs n before names_id ps) (change g cs n before names_id ps)
    (bad_of_event g.base.zones cs before names_id (stored_event g cs n before names_id ps)) calendar clash h in (
      record { valid = last.0.0; fits = last.0.1; room = last.1.0 },
      found_first g cs n before names_id ps (series_in g.base.zones (stored_event g cs n before names_id ps)) (calendar, clash) refl last.1.1,
    )

pub others_are_stored : OthersAreStored
others_are_stored g cs n before names_id ps m none = not_found g cs n before names_id ps m (λ would. none would.0 would.1.0 would.1.1)

-- ---- Other operations.

module _ (g : Ground) (cs : List Change) where
  calendar_not : (n : ℕ) (before : Option Tree) (names_id : Bool) (ps : List Pair) → IsClashed (calendar_outcome g cs n before names_id ps) → ⊥
  calendar_not n before names_id ps (calendar, (clash, h)) =
      let d = with_own_id Calendar n ps in
      let last = last_of_all cs (exceeds_resources cs n d) None (put Calendar n (stored (calendar_in d))) (bad_of_calendar g.base.zones cs before names_id d) calendar clash h in
      cc last.1.1

  calendar_patched_not : (n : ℕ) (before : Tree) (r : Result Data (List ℕ)) → IsClashed (patched_outcome g cs Calendar n before r) → ⊥
  calendar_patched_not n before (Err key) (calendar, (clash, h)) = cc h
  calendar_patched_not n before (Ok d) h = calendar_not n (Some before) (has_other_id Calendar n (members_in d)) (members_in d) h

  calendar_updated_not : (patch : List Pair) (is_destroyed is_repeated : Bool) (o : Option (ℕ × Tree)) → IsClashed (updated_outcome g cs Calendar patch is_destroyed is_repeated o) → ⊥
  calendar_updated_not patch is_destroyed is_repeated None (calendar, (clash, h)) = cc h
  calendar_updated_not patch true is_repeated (Some q) (calendar, (clash, h)) = cc h
  calendar_updated_not patch false true (Some q) (calendar, (clash, h)) = cc h
  calendar_updated_not patch false false (Some q) h = calendar_patched_not q.0 q.1 (patched (data_of q.1) patch) h

  applied : (n : ℕ) (before : Tree) (r : Result Data (List ℕ)) → IsClashed (patched_outcome g cs Event n before r) → (d : Data) × (r ≡ Ok d)
  applied n before (Err key) (calendar, (clash, h)) = absurd (cc h)
  applied n before (Ok d) h = (d, refl)

  -- what an update is that is refused as a clash
  record IsStored (patch : List Pair) (is_destroyed is_repeated : Bool) (o : Option (ℕ × Tree)) : Type 0 where
    n : ℕ
    before : Tree
    d : Data
    named : o ≡ Some (n, before)
    applies : patched (data_of before) patch ≡ Ok d
    stays : is_destroyed ≡ false
    first : is_repeated ≡ false

  updated_is : (patch : List Pair) (is_destroyed is_repeated : Bool) (o : Option (ℕ × Tree)) → IsClashed (updated_outcome g cs Event patch is_destroyed is_repeated o)
      → IsStored patch is_destroyed is_repeated o
  updated_is patch is_destroyed is_repeated None (calendar, (clash, h)) = absurd (cc h)
  updated_is patch true is_repeated (Some q) (calendar, (clash, h)) = absurd (cc h)
  updated_is patch false true (Some q) (calendar, (clash, h)) = absurd (cc h)
  updated_is patch false false (Some (n, before)) h =
      let made = applied n before (patched (data_of before) patch) h in
      record { n = n; before = before; d = made.0; named = refl; applies = made.1; stays = refl; first = refl }

  destroyed_not : (kind : Kind) (o : Option (ℕ × Tree)) → IsClashed (destroyed_outcome cs kind o) → ⊥
  destroyed_not kind None (calendar, (clash, h)) = cc h
  destroyed_not kind (Some q) h = by_cases (is_in_use cs kind q.0) h
    where
      by_cases : (b : Bool) → IsClashed (unless (if_holds b CalendarHasEvent ∷ []) (within_quota cs false None (removal kind q.0))) → ⊥
      by_cases true (calendar, (clash, e)) = cc e
      by_cases false (calendar, (clash, e)) = let last = last_of_all cs false None (removal kind q.0) [] calendar clash e in cc last.1.1

  whole : (o : Option Tree) (is_destroyed : Bool) (x : Outcome) → IsClashed (unless_occurrence g cs o is_destroyed x) → (o ≡ None) × IsClashed x
  whole None is_destroyed x h = (refl, h)
  whole (Some t) true x (calendar, (clash, h)) = absurd (cc h)
  whole (Some t) false x (calendar, (clash, h)) = absurd (cc h)

  module _ (created : List (List ℕ × List ℕ)) where
    others_store : (o : Operation) → IsClashed (outcome_of g cs Event created o) → (n : ℕ) × ((before : Tree) × ((d : Data) × Stores cs created o n before d))
    others_store (update id patch is_destroyed is_repeated) h =
        let event = whole (occurrence_named cs Event id) is_destroyed (updated_outcome g cs Event (resolved_patch created Event patch) is_destroyed is_repeated (object_named cs Event id)) h in
        let is = updated_is (resolved_patch created Event patch) is_destroyed is_repeated (object_named cs Event id) event.1 in
        (is.n, (is.before, (is.d, (record { whole = event.0; named = is.named; applies = is.applies }, is.stays, is.first))))
    others_store (destroy id) h =
        let event = whole (occurrence_named cs Event id) false (destroyed_outcome cs Event (object_named cs Event id)) h in
        absurd (destroyed_not Event (object_named cs Event id) event.1)

    calendars_not : (o : Operation) → IsClashed (outcome_of g cs Calendar created o) → ⊥
    calendars_not (update id patch is_destroyed is_repeated) h = calendar_updated_not (resolved_patch created Calendar patch) is_destroyed is_repeated (object_named cs Calendar id) h
    calendars_not (destroy id) h = destroyed_not Calendar (object_named cs Calendar id) h

    updates_store : (o : Operation) (n : ℕ) (before : Tree) (d : Data) → Stores cs created o n before d
        → outcome_of g cs Event created o ≡ outcome g cs n (Some before) (has_other_id Event n (members_in d)) (members_in d)
    updates_store (update id patch is_destroyed is_repeated) n before d (is, stays, first) =
        let resolved = resolved_patch created Event patch in
        ap (λ t. unless_occurrence g cs t is_destroyed (updated_outcome g cs Event resolved is_destroyed is_repeated (object_named cs Event id))) is.whole
        ∙ ap (λ b. updated_outcome g cs Event resolved b is_repeated (object_named cs Event id)) stays
        ∙ ap (λ b. updated_outcome g cs Event resolved false b (object_named cs Event id)) first
        ∙ ap (updated_outcome g cs Event resolved false false) is.named
        ∙ ap (patched_outcome g cs Event n before) is.applies
    updates_store (destroy id) n before d h = absurd h

pub clashes_are_of_storing : ClashesAreOfStoring
clashes_are_of_storing g cs created = record {
  creates = λ p. refl;
  updates = updates_store g cs created;
  others = others_store g cs created;
  new_calendars = λ p h.
      let ps = resolved_object created Calendar (members_in p.1) in
      calendar_not g cs (next_number cs Calendar) None (is_some (lookup (codes "id") (given ps))) ps h;
  calendars = calendars_not g cs created;
}
