-- What an account takes it would store again.
use Rattle.std.proofs.Common.{◌≡◌, ◌∙◌, ◌++◌, ◌==◌, ◌||◌, inl, inr, ℕ, List, [], ◌∷◌, Bool, true, false, Option, Some, None, codes, is_some, length, option_map, unwrap_or, if◌then◌else◌, refl, sym, ap, subst}
use Rattle.std.proofs.lemmas.Bool.{and_from, and_parts, false≢true, or_left}
use Rattle.std.specs.Option.{option_map_or}
use Rattle.std.specs.Str.{bytes_eq}
use Rattle.cal_model.specs.Calendar.{bad_properties, calendar_in, stored}
use Rattle.cal_model.specs.Operations.{after_tests, bad_of_calendar, bad_of_event, destroyed_outcome, exceeds_resources, has_other_zone, if_holds, is_in_use, put, removal, stored_calendar_outcome, stored_event_outcome, unless, within_quota, zone_given}
use Rattle.cal_model.specs.Quota.{exceeds_quota}
use Rattle.cal_model.specs.Sound.{first_unsound, has_number, has_own_id, has_server_values, has_stored_form, is_sound, leaves, outcome_again, same_object}
use Rattle.cal_model.specs.declared.outcome.Outcome.{Outcome}
use Rattle.cal_model.specs.declared.outcome.Outcome.TheVariants.{Accepted}
use Rattle.cal_model.specs.declared.set_error.SetError.TheVariants.{CalendarHasEvent, Clashes, OverQuota}
use Rattle.calendar_model.proofs.CalendarLemmas.{read_back}
use Rattle.spec_bookings.proofs.Tables.{number_same, same_number}
use Rattle.spec_bookings.specs.BookedResources.{clash_of_event, has_full_resource}
use Rattle.spec_bookings.specs.declared.clash.Clash.{Clash}
use Rattle.spec_history.specs.History.{is_kind, live_object, names, next_number}
use Rattle.spec_history.specs.ObjectId.{id_text}
use Rattle.spec_history.specs.declared.entry.Change.{Change}
use Rattle.spec_history.specs.declared.entry.Kind.{Kind}
use Rattle.spec_history.specs.declared.entry.Kind.TheVariants.{Calendar, Event}
use Rattle.spec_json.specs.Data.{Data, Pair, members_of, object, pairs_back}
use Rattle.spec_json.specs.Parts.{members_in, text_at}
use Rattle.spec_json.specs.TreeData.{data_of}
use Rattle.spec_json.specs.declared.tree.Tree.{Tree}
use Rattle.spec_json.specs.declared.tree.Tree.TheVariants.{Null, Truth, Whole, Text, List as Listed, Object}
use Rattle.spec_site.specs.TimeZones.{ZoneText}
use Rattle.object_outcomes.specs.Judging.{HasNumber, IsBefore}
use Rattle.object_outcomes.proofs.CalendarLemmas.{stored_zone}
use Rattle.object_outcomes.proofs.NameLemmas.{none_named}
use Rattle.object_outcomes.proofs.SameLemmas.{same_self}

-- What the object of a number was.

pub before_is : (cs : List Change) (kind : Kind) (n : ℕ) (before : Option Tree) → IsBefore cs kind n before → live_object cs kind n ≡ before
before_is cs kind n None h = h.1
before_is cs kind n (Some t) h = h

pub number_of : (cs : List Change) (kind : Kind) (n : ℕ) (before : Option Tree) → IsBefore cs kind n before → HasNumber cs kind n
number_of cs kind n None h = inl h.0
number_of cs kind n (Some t) h = inr (ap is_some h)

some_or : (a b : Bool) → b ≡ true → (a || b) ≡ true
some_or true b h = refl
some_or false b h = h

pub numbered : (zones : List ZoneText) (cs : List Change) (kind : Kind) (n : ℕ) → HasNumber cs kind n → has_number zones cs kind n ≡ true
numbered zones cs kind n (inl next) = some_or (is_some (live_object cs kind n)) (n == next_number cs kind) (number_same n (next_number cs kind) next)
numbered zones cs kind n (inr live) = or_left _ (n == next_number cs kind) live

-- a change is sound where these three hold
pub sound_by : (zones : List ZoneText) (cs : List Change) (c : Change) → has_number zones cs c.kind c.id ≡ true → has_stored_form c.kind c.id c.object ≡ true
    → leaves c.object (outcome_again zones cs c.kind c.id c.object) ≡ true → is_sound zones cs c ≡ true
unfolding is_sound
sound_by zones cs c number form again = and_from _ _ (and_from _ _ number form) again

pub sound_parts : (zones : List ZoneText) (cs : List Change) (c : Change) → is_sound zones cs c ≡ true → ((has_number zones cs c.kind c.id ≡ true) × (has_stored_form c.kind c.id c.object ≡ true))
    × (leaves c.object (outcome_again zones cs c.kind c.id c.object) ≡ true)
unfolding is_sound
sound_parts zones cs c h =
    let all = and_parts _ _ h in
    (and_parts _ _ all.0, all.1)

-- Outcomes that accept.

accepted_by : (cs : List Change) (over : Bool) (clash : Option (ℕ × Clash)) (c b : Change)
    → unless (None ∷ if_holds over OverQuota ∷ option_map (λ q. Clashes q.0 q.1) clash ∷ []) (Accepted c) ≡ Accepted b → c ≡ b
accepted_by cs true clash c b h = absurd (cc h)
accepted_by cs false (Some q) c b h = absurd (cc h)
accepted_by cs false None c b h = cc h

pub accepted_is : (cs : List Change) (is_full : Bool) (clash : Option (ℕ × Clash)) (c b : Change) (ns : List (List ℕ)) → after_tests cs is_full clash c ns ≡ Accepted b → c ≡ b
accepted_is cs is_full clash c b [] h = accepted_by cs (exceeds_quota cs c || is_full) clash c b h
accepted_is cs is_full clash c b (n ∷ ns) h = absurd (cc h)

-- where the outcome accepts this change the object is left
left : (o : Outcome) (c : Change) → o ≡ Accepted c → leaves c.object o ≡ true
left o c h = ap (leaves c.object) h ∙ same c.object
  where
    same : (t : Option Tree) → same_object t t ≡ true
    same None = refl
    same (Some t) = same_self (data_of t)

-- an event in the form in which it is stored is an object
pub is_object : (n : ℕ) (t : Tree) → has_server_values Event n (data_of t) ≡ true → Object (members_in (data_of t)) ≡ t
is_object n Null h = absurd (false≢true h)
is_object n (Truth b) h = absurd (false≢true h)
is_object n (Whole z) h = absurd (false≢true h)
is_object n (Text s) h = absurd (false≢true h)
is_object n (Listed ds) h = absurd (false≢true h)
is_object n (Object ps) h = ap Object (pairs_back ps)

module _ (zones : List ZoneText) (cs : List Change) where
  -- Events.

  -- the properties that are bad where an event is stored again are those that are bad of it
  pub again_valid : (n : ℕ) (before : Option Tree) (names_id : Bool) (d : Data) → IsBefore cs Event n before → bad_of_event zones cs before names_id d ≡ [] → bad_of_event zones cs (live_object cs Event n) false d ≡ []
  again_valid n before names_id d is none =
      let first = none_named names_id (codes "id") (bad_of_event zones cs before false d) none in
      ap (λ o. bad_of_event zones cs o false d) (before_is cs Event n before is) ∙ first.1

  pub event_sound : (n : ℕ) (ps : List Pair) → HasNumber cs Event n → has_server_values Event n (object (members_of ps)) ≡ true
      → bad_of_event zones cs (live_object cs Event n) false (object (members_of ps)) ≡ []
      → within_quota cs (has_full_resource zones cs n (object (members_of ps))) (clash_of_event zones cs n (object (members_of ps))) (put Event n ps) ≡ Accepted (put Event n ps)
      → is_sound zones cs (put Event n ps) ≡ true
  event_sound n ps number form valid fits =
      let again = ap (λ qs. stored_event_outcome zones cs n (live_object cs Event n) false qs) (pairs_back ps)
      ∙ ap (after_tests cs (has_full_resource zones cs n (object (members_of ps))) (clash_of_event zones cs n (object (members_of ps))) (put Event n ps)) valid ∙ fits in
      sound_by zones cs (put Event n ps) (numbered zones cs Event n number) form (left _ (put Event n ps) again)

  -- An event whose form is that of one that is stored is an object.
  pub tree_sound : (n : ℕ) (t : Tree) → HasNumber cs Event n → has_server_values Event n (data_of t) ≡ true → bad_of_event zones cs (live_object cs Event n) false (data_of t) ≡ []
      → within_quota cs (has_full_resource zones cs n (data_of t)) (clash_of_event zones cs n (data_of t)) (record { kind = Event; id = n; object = Some t }) ≡ Accepted (record { kind = Event; id = n; object = Some t })
      → is_sound zones cs (record { kind = Event; id = n; object = Some t }) ≡ true
  tree_sound n t number form = subst (λ u. has_server_values Event n (data_of u) ≡ true → bad_of_event zones cs (live_object cs Event n) false (data_of u) ≡ []
      → within_quota cs (has_full_resource zones cs n (data_of u)) (clash_of_event zones cs n (data_of u)) (record { kind = Event; id = n; object = Some u }) ≡ Accepted (record { kind = Event; id = n; object = Some u })
      → is_sound zones cs (record { kind = Event; id = n; object = Some u }) ≡ true) (is_object n t form) (event_sound n (members_in (data_of t)) number) form

  -- Calendars.

  same_resources : (n : ℕ) (d e : Data) → zone_given d ≡ zone_given e → exceeds_resources cs n d ≡ exceeds_resources cs n e
  same_resources n d e h = rw h refl

  stays_zone : (before : Option Tree) (d e : Data) → zone_given d ≡ zone_given e → has_other_zone before d ≡ has_other_zone before e
  stays_zone None d e h = refl
  stays_zone (Some t) d e h = rw h refl

  id_kept : (n : ℕ) (d : Data) → has_own_id Calendar n d ≡ true → bytes_eq (calendar_in d).id (id_text Calendar n) ≡ true
  id_kept n d h = by_text (text_at (codes "id") d) h
    where
      by_text : (o : Option (List ℕ)) → option_map_or (λ s. bytes_eq s (id_text Calendar n)) o false ≡ true → bytes_eq (unwrap_or o []) (id_text Calendar n) ≡ true
      by_text None e = absurd (false≢true e)
      by_text (Some s) e = e

  pub calendar_sound : (n : ℕ) (before : Option Tree) (d : Data) → IsBefore cs Calendar n before → has_own_id Calendar n d ≡ true → has_other_zone before d ≡ false
      → bad_properties zones (object (members_of (stored (calendar_in d)))) ≡ []
      → within_quota cs (exceeds_resources cs n d) None (put Calendar n (stored (calendar_in d))) ≡ Accepted (put Calendar n (stored (calendar_in d)))
      → is_sound zones cs (put Calendar n (stored (calendar_in d))) ≡ true
  calendar_sound n before d is id same valid fits =
      let kept : Data = object (members_of (stored (calendar_in d))) in
      let zone : zone_given kept ≡ zone_given d = stored_zone d in
      let change = put Calendar n (stored (calendar_in d)) in
      let full : exceeds_resources cs n kept ≡ exceeds_resources cs n d = same_resources n kept d zone in
      let other : has_other_zone (live_object cs Calendar n) kept ≡ false =
      ap (λ o. has_other_zone o kept) (before_is cs Calendar n before is) ∙ stays_zone before kept d zone ∙ same in
      let none : bad_of_calendar zones cs (live_object cs Calendar n) false kept ≡ [] = rw other valid in
      let again : stored_calendar_outcome zones cs n (live_object cs Calendar n) false kept ≡ Accepted change =
      ap (λ p. after_tests cs (exceeds_resources cs n kept) None (put Calendar n (stored p)) (bad_of_calendar zones cs (live_object cs Calendar n) false kept)) (read_back (calendar_in d))
      ∙ ap (after_tests cs (exceeds_resources cs n kept) None change) none ∙ ap (λ b. after_tests cs b None change []) full ∙ fits in
      sound_by zones cs change (numbered zones cs Calendar n (number_of cs Calendar n before is)) (id_kept n d id) (left _ change again)

  -- Removals.

  pub removal_sound : (kind : Kind) (n : ℕ) (t : Tree) → live_object cs kind n ≡ Some t → is_in_use cs kind n ≡ false → within_quota cs false None (removal kind n) ≡ Accepted (removal kind n)
      → is_sound zones cs (removal kind n) ≡ true
  removal_sound kind n t live unused fits =
      let again : destroyed_outcome cs kind (option_map (λ u. (n, u)) (live_object cs kind n)) ≡ Accepted (removal kind n) =
      ap (λ o. destroyed_outcome cs kind (option_map (λ u. (n, u)) o)) live
      ∙ ap (λ b. unless (if_holds b CalendarHasEvent ∷ []) (within_quota cs false None (removal kind n))) unused ∙ fits in
      sound_by zones cs (removal kind n) (numbered zones cs kind n (inr (ap is_some live))) refl (left _ (removal kind n) again)

-- What is live has the form in which it was stored.

same_kind : (k q : Kind) → is_kind k q ≡ true → q ≡ k
same_kind Calendar Calendar e = refl
same_kind Event Event e = refl
same_kind Calendar Event e = absurd (false≢true e)
same_kind Event Calendar e = absurd (false≢true e)

named_form : (kind : Kind) (n : ℕ) (c : Change) (o : Option Tree) (b : Bool) → names kind n c ≡ b → has_stored_form c.kind c.id c.object ≡ true → has_stored_form kind n o ≡ true
    → has_stored_form kind n (if b then c.object else o) ≡ true
named_form kind n c o true e form before =
    let both = and_parts (is_kind kind c.kind) (n == c.id) e in
    subst (λ k. has_stored_form k n c.object ≡ true) (same_kind kind c.kind both.0) (subst (λ m. has_stored_form c.kind m c.object ≡ true) (sym (same_number n c.id both.1)) form)
named_form kind n c o false e form before = before

pub some_place : (zones : List ZoneText) (before cs : List Change) (c : Change) (b : Bool) → is_sound zones before c ≡ b → first_unsound zones before (c ∷ cs) ≡ None
    → (is_sound zones before c ≡ true) × (first_unsound zones (before ++ c ∷ []) cs ≡ None)
some_place zones before cs c true e h = (e, sym (rw e refl) ∙ h)
some_place zones before cs c false e h = let none : first_unsound zones before (c ∷ cs) ≡ Some (length before) = rw e refl in absurd (cc (sym none ∙ h))
