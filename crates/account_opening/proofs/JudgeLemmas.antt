-- Live objects of a kind, one after the other.
use Rattle.std.proofs.Common.{Option, zero, suc, cond, filter, option_map, if◌then◌else◌, ◌≡◌, ◌∙◌, ◌<◌, ◌≤◌, ◌+◌, ◌==◌, ◌||◌, ◌++◌, All, append-nil, get_or, take, ℕ, List, [], ◌∷◌, Bool, true, false, Some, None, is_some, length, map, refl, sym, ap, subst}
use Rattle.std.proofs.lemmas.Bool.{false≢true}
use Rattle.std.proofs.lemmas.List.{take_all}
use Rattle.std.proofs.lemmas.List.Elements.{All-head, All-more, All-tail}
use Rattle.std.proofs.lemmas.Option.{same_Some, slice_get-get_or}
use Rattle.std.specs.List.{slice_get}
use Rattle.std.specs.Option.{option_map_or, option_or}
use Rattle.account_opening.proofs.NumberedLemmas.{numbers_in_order}
use Rattle.account_opening.proofs.PutAgainLemmas.{are_put_again, live_there, new_put, puts_more, resources_are}
use Rattle.account_opening.proofs.RoomLemmas.{rooms_listed}
use Rattle.account_opening.specs.Again.{AreSound, again_at, put_again, puts_of}
use Rattle.account_opening.specs.Opening.{FitsButForObjects, IsRefusal, NamesUnsound}
use Rattle.account_opening.specs.declared.open.OpeningError.{OpeningError}
use Rattle.account_opening.specs.declared.open.OpeningError.TheVariants.{BadObject, NoMemory}
use Rattle.account_rooms.proofs.CalendarsAgain.{calendar_again}
use Rattle.account_rooms.proofs.RoomsAgain.{same_rooms}
use Rattle.account_rooms.specs.RoomChanges.{rooms_by}
use Rattle.account_rooms.specs.Rooms.{AreRooms, BookedRoom}
use Rattle.account_store.specs.Earlier.{live_ids}
use Rattle.cal_model.specs.GoesOn.{GoesOn}
use Rattle.cal_model.specs.Quota.{live_objects, live_size}
use Rattle.cal_model.specs.SoundObjects.{is_sound_object, unsound_among, unsound_object}
use Rattle.cal_model.specs.declared.limits.TheConstants.{MAX_CHANGES, MAX_OBJECT_BYTES, MAX_OBJECTS}
use Rattle.object_outcomes.proofs.SoundObjects.{AreSoundObjects, live_is_numbered, none_unsound_where_all_are_sound}
use Rattle.spec_bookings.proofs.Numbered.{in_filter}
use Rattle.spec_bookings.proofs.Tables.{same_number}
use Rattle.spec_bookings.specs.Resources.{resources_at}
use Rattle.spec_bookings.specs.declared.limits.TheConstants.{MAX_RESOURCES}
use Rattle.spec_history.specs.History.{ids_at, live_object}
use Rattle.spec_history.specs.Pages.{is_in}
use Rattle.spec_history.specs.declared.entry.Change.{Change}
use Rattle.spec_history.specs.declared.entry.Kind.{Kind}
use Rattle.spec_history.specs.declared.entry.Kind.TheVariants.{Calendar, Event}
use Rattle.spec_json.specs.TreeData.{data_of}
use Rattle.spec_json.specs.declared.tree.Tree.{Tree}
use Rattle.spec_site.specs.TimeZones.{ZoneText}
use Rattle.spec_snapshots.specs.Numbered.{are_numbered}
use Rattle.std.proofs.lemmas.List.MinMax.{IsStrictWeakOrder-by_number}

all_in : (P : ℕ → Type 0) (ns : List ℕ) (n : ℕ) → is_in ns n ≡ true → All P ns → P n
all_in P [] n h all = absurd (false≢true h)
all_in P (m ∷ ns) n h all = by_test (m == n) refl h (λ g. all_in P ns n g (All-tail P m ns all))
  where
    by_test : (t : Bool) → (m == n) ≡ t → (t || is_in ns n) ≡ true → (is_in ns n ≡ true → P n) → P n
    by_test true e g rest = subst P (same_number m n e) (All-head P m ns all)
    by_test false e g rest = rest g

module _ (zones : List ZoneText) (cs : List Change) (kind : Kind) (ids : List ℕ) (are : ids ≡ live_ids cs kind) where
  -- the object of this number is sound, where it is live
  abbrev pub IsSoundAt : ℕ → Type 0
  IsSoundAt n = (t : Tree) → live_object cs kind n ≡ Some t → is_sound_object zones cs kind n (data_of t) ≡ true

  pub at_place : (k : ℕ) → k < length ids → slice_get (live_ids cs kind) k ≡ Some (get_or ids k 0)
  at_place k lt = ap (λ l. slice_get l k) (sym are) ∙ slice_get-get_or ids k 0 lt

  -- there is an object at each of these numbers
  pub object_there : (k : ℕ) → k < length ids → live_object cs kind (get_or ids k 0) ≡ None → ⊥
  object_there k lt none = false≢true (sym (ap is_some none) ∙ live_there cs kind k (get_or ids k 0) (at_place k lt))

  pub sound_more : (k : ℕ) (t : Tree) → k < length ids → All IsSoundAt (take k ids) → live_object cs kind (get_or ids k 0) ≡ Some t
      → is_sound_object zones cs kind (get_or ids k 0) (data_of t) ≡ true → All IsSoundAt (take (k + 1) ids)
  sound_more k t lt before live sound =
      All-more IsSoundAt ids k 0 lt before (λ u e. subst (λ (v : Tree). is_sound_object zones cs kind (get_or ids k 0) (data_of v) ≡ true) (same_Some t u (sym live ∙ e)) sound)

  pub all_sound : (k : ℕ) → length ids ≤ k → All IsSoundAt (take k ids) → AreSound zones cs kind
  all_sound k done all n t live =
      all_in IsSoundAt (live_ids cs kind) n (in_filter (λ m. is_some (live_object cs kind m)) (ids_at cs kind) n (ap is_some live) (live_is_numbered cs kind n (ap is_some live)))
      (subst (All IsSoundAt) (take_all k ids done ∙ are) all) t live

-- ---- The first that isn't sound.

module _ (zones : List ZoneText) (cs : List Change) (kind : Kind) where
  abbrev passes : ℕ → Bool
  passes n = option_map_or (λ t. is_sound_object zones cs kind n (data_of t)) (live_object cs kind n) true

  passes_if : (n : ℕ) → ((t : Tree) → live_object cs kind n ≡ Some t → is_sound_object zones cs kind n (data_of t) ≡ true) → passes n ≡ true
  passes_if n h = by_object (live_object cs kind n) refl
    where
      by_object : (o : Option Tree) → live_object cs kind n ≡ o → option_map_or (λ t. is_sound_object zones cs kind n (data_of t)) o true ≡ true
      by_object None e = refl
      by_object (Some t) e = h t e

  among_live : (ns : List ℕ) → unsound_among zones cs kind (filter (λ n. is_some (live_object cs kind n)) ns) ≡ unsound_among zones cs kind ns
  among_live [] = refl
  among_live (n ∷ ns) = by_object (live_object cs kind n) refl (among_live ns)
    where
      live : List ℕ
      live = filter (λ m. is_some (live_object cs kind m)) ns

      by_object : (o : Option Tree) → live_object cs kind n ≡ o → unsound_among zones cs kind live ≡ unsound_among zones cs kind ns
          → unsound_among zones cs kind (cond (is_some o) (n ∷ live) live) ≡ (if option_map_or (λ t. is_sound_object zones cs kind n (data_of t)) o true then unsound_among zones cs kind ns else Some n)
      by_object None e rest = rest
      by_object (Some t) e rest =
          ap (λ p. if option_map_or (λ u. is_sound_object zones cs kind n (data_of u)) p true then unsound_among zones cs kind live else Some n) e
          ∙ ap (λ o. if is_sound_object zones cs kind n (data_of t) then o else Some n) rest

  first_among : (ns : List ℕ) (k n : ℕ) → slice_get ns k ≡ Some n → passes n ≡ false
      → All (λ m. (t : Tree) → live_object cs kind m ≡ Some t → is_sound_object zones cs kind m (data_of t) ≡ true) (take k ns) → unsound_among zones cs kind ns ≡ Some n
  first_among [] k n e bad before = absurd (cc e)
  first_among (m ∷ ns) zero n e bad before =
      let is : m ≡ n = cc e in
      ap (λ b. if b then unsound_among zones cs kind ns else Some m) (ap passes is ∙ bad) ∙ ap Some is
  first_among (m ∷ ns) (suc k) n e bad before =
      let P : ℕ → Type 0 = λ i. (t : Tree) → live_object cs kind i ≡ Some t → is_sound_object zones cs kind i (data_of t) ≡ true in
      ap (λ b. if b then unsound_among zones cs kind ns else Some m) (passes_if m (All-head P m (take k ns) before)) ∙ first_among ns k n e bad (All-tail P m (take k ns) before)

  none_among : (ns : List ℕ) → AreSound zones cs kind → unsound_among zones cs kind ns ≡ None
  none_among [] sound = refl
  none_among (n ∷ ns) sound = ap (λ b. if b then unsound_among zones cs kind ns else Some n) (passes_if n (sound n)) ∙ none_among ns sound

  first_unsound : (ids : List ℕ) (are : ids ≡ live_ids cs kind) (k : ℕ) (t : Tree) → k < length ids → live_object cs kind (get_or ids k 0) ≡ Some t → is_sound_object zones cs kind (get_or ids k 0) (data_of t) ≡ false
      → All (IsSoundAt zones cs kind ids are) (take k ids) → unsound_among zones cs kind (ids_at cs kind) ≡ Some (get_or ids k 0)
  first_unsound ids are k t lt live bad before =
      sym (among_live (ids_at cs kind)) ∙ ap (unsound_among zones cs kind) (sym are)
      ∙ first_among ids k (get_or ids k 0) (slice_get-get_or ids k 0 lt)
      (ap (λ o. option_map_or (λ u. is_sound_object zones cs kind (get_or ids k 0) (data_of u)) o true) live ∙ bad) before

-- a calendar, where those in front of it are sound
pub unsound_calendar : (zones : List ZoneText) (cs : List Change) (ids : List ℕ) (are : ids ≡ live_ids cs Calendar) (k : ℕ) (t : Tree) → k < length ids → live_object cs Calendar (get_or ids k 0) ≡ Some t
    → is_sound_object zones cs Calendar (get_or ids k 0) (data_of t) ≡ false → All (IsSoundAt zones cs Calendar ids are) (take k ids) → unsound_object zones cs ≡ Some (Calendar, get_or ids k 0)
unsound_calendar zones cs ids are k t lt live bad before =
    ap (λ (o : Option ℕ). option_or {T = Kind × ℕ} (option_map (λ n. (Calendar, n)) o) (option_map (λ n. (Event, n)) (unsound_among zones cs Event (ids_at cs Event))))
    (first_unsound zones cs Calendar ids are k t lt live bad before)

abbrev event_of : Option ℕ → Option (Kind × ℕ)
event_of o = option_map (λ n. (Event, n)) o

-- an event, where all calendars are, and the events in front of it
pub unsound_event : (zones : List ZoneText) (cs : List Change) (ids : List ℕ) (are : ids ≡ live_ids cs Event) (k : ℕ) (t : Tree) → k < length ids → live_object cs Event (get_or ids k 0) ≡ Some t
    → is_sound_object zones cs Event (get_or ids k 0) (data_of t) ≡ false → AreSound zones cs Calendar → All (IsSoundAt zones cs Event ids are) (take k ids) → unsound_object zones cs ≡ Some (Event, get_or ids k 0)
unsound_event zones cs ids are k t lt live bad calendars before =
    ap (λ (o : Option ℕ). option_or {T = Kind × ℕ} (option_map (λ n. (Calendar, n)) o) (option_map (λ n. (Event, n)) (unsound_among zones cs Event (ids_at cs Event))))
    (none_among zones cs Calendar (ids_at cs Calendar) calendars)
    ∙ ap event_of (first_unsound zones cs Event ids are k t lt live bad before)

-- who tells of an object where something else stands against it names none
pub named_where_unfit : (zones : List ZoneText) (cs : List Change) (e : OpeningError) → ((kind : Kind) (id : ℕ) → e ≡ BadObject kind id → FitsButForObjects zones cs → ⊥) → NamesUnsound zones cs e
named_where_unfit zones cs (BadObject kind id) h = λ fits. absurd (h kind id refl fits)
named_where_unfit zones cs NoMemory h = tt

-- who names the first object that isn't sound refuses rightly
pub refused_if_named : (zones : List ZoneText) (cs : List Change) (e : OpeningError) → NamesUnsound zones cs e → IsRefusal zones cs e
refused_if_named zones cs (BadObject kind id) named = λ goes_on. none_some (kind, id) (sym goes_on.objects ∙ named (record {
  numbered = goes_on.numbered;
  free = goes_on.free;
  few = goes_on.few;
  resources = goes_on.resources;
  changes = goes_on.changes;
  live = goes_on.live;
  size = goes_on.size;
}))
  where
    none_some : (q : Kind × ℕ) → None ≡ Some q → ⊥
    none_some q h = cc h
refused_if_named zones cs NoMemory named = tt

-- one calendar more
module _ (zones : List ZoneText) (cs : List Change) (numbered : are_numbered [] cs ≡ true) (ids : List ℕ) (are : ids ≡ live_ids cs Calendar) where
  pub calendar_more : (k : ℕ) (t : Tree) (rs qs : List BookedRoom) → k < length ids → live_object cs Calendar (get_or ids k 0) ≡ Some t → AreRooms zones (puts_of cs Calendar (take k ids)) rs
      → qs ≡ rooms_by Calendar (get_or ids k 0) (Some t) None rs → AreRooms zones (puts_of cs Calendar (take (k + 1) ids)) qs
  calendar_more k t rs qs lt live rooms is =
      let n = get_or ids k 0 in
      let e = at_place zones cs Calendar ids are k lt in
      let before = subst (λ ns. AreRooms zones (puts_of cs Calendar (take k ns)) rs) are rooms in
      let after = calendar_again zones (puts_of cs Calendar (take k (live_ids cs Calendar))) n t rs before (new_put cs (λ q. length (ids_at cs q)) (numbers_in_order cs numbered) Calendar k n e) in
      subst (AreRooms zones (puts_of cs Calendar (take (k + 1) ids))) (sym is)
      (subst (λ ns. AreRooms zones (puts_of cs Calendar (take (k + 1) ns)) (rooms_by Calendar n (Some t) None rs)) (sym are)
      (subst (λ ds. AreRooms zones ds (rooms_by Calendar n (Some t) None rs)) (sym (puts_more cs Calendar k n t e live)) after))

  pub all_calendars : (k : ℕ) (rs : List BookedRoom) → length ids ≤ k → AreRooms zones (puts_of cs Calendar (take k ids)) rs → AreRooms zones (again_at cs 0) rs
  all_calendars k rs done rooms =
      subst (λ ds. AreRooms zones ds rs) (sym (append-nil (puts_of cs Calendar (live_ids cs Calendar)))) (subst (λ ns. AreRooms zones (puts_of cs Calendar ns) rs) (take_all k ids done ∙ are) rooms)

-- once all events are there, the rooms are those of the history
pub all_events : (zones : List ZoneText) (cs : List Change) → are_numbered [] cs ≡ true → (ids : List ℕ) → ids ≡ live_ids cs Event → (k : ℕ) (rs : List BookedRoom) → length ids ≤ k
    → AreRooms zones (again_at cs k) rs → AreRooms zones cs rs
all_events zones cs numbered ids are k rs done rooms =
    same_rooms (IsStrictWeakOrder-by_number (λ n. n)) zones (put_again cs) cs (are_put_again cs (λ q. length (ids_at cs q)) (numbers_in_order cs numbered)) rs
    (subst (λ ns. AreRooms zones (puts_of cs Calendar (live_ids cs Calendar) ++ puts_of cs Event ns) rs) (ap (take k) (sym are) ∙ take_all k ids done ∙ are) rooms)

-- the resources that have rooms are those of the history
pub resource_count : (zones : List ZoneText) (cs : List Change) → are_numbered [] cs ≡ true → (rs : List BookedRoom) (ns : List ℕ) → AreRooms zones (again_at cs 0) rs → ns ≡ map (λ r. r.calendar) rs → length ns ≡ length (resources_at cs)
resource_count zones cs numbered rs ns rooms are =
    ap (λ (l : List ℕ). length l) (are ∙ rooms_listed zones (again_at cs 0) rs rooms ∙ resources_are cs (λ q. length (ids_at cs q)) (numbers_in_order cs numbered) 0)

-- an account goes on from what was judged
pub judged_goes_on : (zones : List ZoneText) (cs : List Change) (rs : List BookedRoom) → are_numbered [] cs ≡ true → AreSound zones cs Calendar → AreSound zones cs Event → AreRooms zones cs rs
    → length (resources_at cs) ≤ MAX_RESOURCES → length cs ≤ MAX_CHANGES → length (live_objects cs) ≤ MAX_OBJECTS → live_size cs ≤ MAX_OBJECT_BYTES → GoesOn zones cs
judged_goes_on zones cs rs numbered calendars events rooms resources changes live size = record {
  numbered = numbered;
  objects = none_unsound_where_all_are_sound zones cs each;
  free = rooms.free;
  few = rooms.few;
  resources = resources;
  changes = changes;
  live = live;
  size = size;
}
  where
    each : AreSoundObjects zones cs
    each Calendar = calendars
    each Event = events
