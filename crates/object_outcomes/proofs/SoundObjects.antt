-- Live objects that are all sound.
use Rattle.std.proofs.Common.{◌≡◌, ◌∙◌, ◌==◌, ◌||◌, ℕ, List, [], ◌∷◌, Bool, true, false, Option, Some, None, is_some, option_map, if◌then◌else◌, refl, sym, ap, subst}
use Rattle.std.proofs.lemmas.Bool.{and_parts, false≢true}
use Rattle.std.specs.Option.{option_map_or, option_or}
use Rattle.cal_model.specs.Sound.{has_own_id, has_server_values, has_stored_form}
use Rattle.cal_model.specs.SoundObjects.{is_sound_object, unsound_among, unsound_object}
use Rattle.spec_bookings.proofs.Numbered.{numbered_if_live}
use Rattle.spec_bookings.proofs.Tables.{same_number}
use Rattle.spec_history.specs.History.{ids_at, live_object}
use Rattle.spec_history.specs.Pages.{is_in}
use Rattle.spec_history.specs.declared.entry.Change.{Change}
use Rattle.spec_history.specs.declared.entry.Kind.{Kind}
use Rattle.spec_history.specs.declared.entry.Kind.TheVariants.{Calendar, Event}
use Rattle.spec_json.specs.TreeData.{data_of}
use Rattle.spec_json.specs.declared.tree.Tree.{Tree}
use Rattle.spec_site.specs.TimeZones.{ZoneText}

abbrev pub AreSoundObjects : List ZoneText → List Change → Type 0
AreSoundObjects zones cs = (kind : Kind) (n : ℕ) (t : Tree) → live_object cs kind n ≡ Some t → is_sound_object zones cs kind n (data_of t) ≡ true

pub live_is_numbered : (cs : List Change) (kind : Kind) (n : ℕ) → is_some (live_object cs kind n) ≡ true → is_in (ids_at cs kind) n ≡ true
live_is_numbered cs kind n h = numbered_if_live cs kind n None [] (λ e. absurd (false≢true e)) h

-- ---- No object is unsound.

module _ (zones : List ZoneText) (cs : List Change) where
  sound_by : (kind : Kind) (m : ℕ) (ms : List ℕ) (b : Bool) → option_map_or (λ t. is_sound_object zones cs kind m (data_of t)) (live_object cs kind m) true ≡ b
      → (if b then unsound_among zones cs kind ms else Some m) ≡ None → (b ≡ true) × (unsound_among zones cs kind ms ≡ None)
  sound_by kind m ms true e h = (refl, h)
  sound_by kind m ms false e h = absurd (cc h)

  sound_among : (kind : Kind) (ns : List ℕ) → unsound_among zones cs kind ns ≡ None → (n : ℕ) (t : Tree) → is_in ns n ≡ true → live_object cs kind n ≡ Some t → is_sound_object zones cs kind n (data_of t) ≡ true
  sound_among kind [] h n t there live = absurd (false≢true there)
  sound_among kind (m ∷ ms) h n t there live =
      let first = sound_by kind m ms (option_map_or (λ u. is_sound_object zones cs kind m (data_of u)) (live_object cs kind m) true) refl h in
      by_cases (m == n) refl there first.0 (λ r. sound_among kind ms first.1 n t r live)
    where
      by_cases : (same : Bool) → (m == n) ≡ same → (same || is_in ms n) ≡ true → option_map_or (λ u. is_sound_object zones cs kind m (data_of u)) (live_object cs kind m) true ≡ true
          → (is_in ms n ≡ true → is_sound_object zones cs kind n (data_of t) ≡ true) → is_sound_object zones cs kind n (data_of t) ≡ true
      by_cases true e r first rest =
          let is = same_number m n e in
          sym (ap (λ o. option_map_or (λ u. is_sound_object zones cs kind n (data_of u)) o true) live) ∙ subst (λ (k : ℕ). option_map_or (λ u. is_sound_object zones cs kind k (data_of u)) (live_object cs kind k) true ≡ true) is first
      by_cases false e r first rest = rest r

  none_unsound : (kind : Kind) (ns : List ℕ) → AreSoundObjects zones cs → unsound_among zones cs kind ns ≡ None
  none_unsound kind [] stands = refl
  none_unsound kind (n ∷ ns) stands = by_cases (live_object cs kind n) refl (none_unsound kind ns stands)
    where
      by_cases : (o : Option Tree) → live_object cs kind n ≡ o → unsound_among zones cs kind ns ≡ None → unsound_among zones cs kind (n ∷ ns) ≡ None
      by_cases None e rest = ap (λ p. if option_map_or (λ t. is_sound_object zones cs kind n (data_of t)) p true then unsound_among zones cs kind ns else Some n) e ∙ rest
      by_cases (Some t) e rest =
          ap (λ p. if option_map_or (λ u. is_sound_object zones cs kind n (data_of u)) p true then unsound_among zones cs kind ns else Some n) e
          ∙ ap (λ b. if b then unsound_among zones cs kind ns else Some n) (stands kind n t e) ∙ rest

  neither : (a b : Option ℕ) → option_or {T = Kind × ℕ} (option_map (λ n. (Calendar, n)) a) (option_map (λ n. (Event, n)) b) ≡ None → (a ≡ None) × (b ≡ None)
  neither None None h = (refl, refl)
  neither None (Some b) h = absurd (cc h)
  neither (Some a) b h = absurd (cc h)

  pub sound_where_none_is_unsound : unsound_object zones cs ≡ None → AreSoundObjects zones cs
  sound_where_none_is_unsound h Calendar n t live = sound_among Calendar (ids_at cs Calendar) (neither (unsound_among zones cs Calendar (ids_at cs Calendar)) (unsound_among zones cs Event (ids_at cs Event)) h).0 n t (live_is_numbered cs Calendar n (ap is_some live)) live
  sound_where_none_is_unsound h Event n t live = sound_among Event (ids_at cs Event) (neither (unsound_among zones cs Calendar (ids_at cs Calendar)) (unsound_among zones cs Event (ids_at cs Event)) h).1 n t (live_is_numbered cs Event n (ap is_some live)) live

  pub none_unsound_where_all_are_sound : AreSoundObjects zones cs → unsound_object zones cs ≡ None
  none_unsound_where_all_are_sound stands = rw (none_unsound Calendar (ids_at cs Calendar) stands, none_unsound Event (ids_at cs Event) stands) refl

-- what the server sets of a live object stands in it
pub live_form : (zones : List ZoneText) (cs : List Change) (kind : Kind) (n : ℕ) → unsound_object zones cs ≡ None → has_stored_form kind n (live_object cs kind n) ≡ true
live_form zones cs kind n none = by_object (live_object cs kind n) refl
  where
    formed : (kind : Kind) (t : Tree) → is_sound_object zones cs kind n (data_of t) ≡ true → has_server_values kind n (data_of t) ≡ true
    formed Calendar t h = (and_parts (has_own_id Calendar n (data_of t)) _ (and_parts _ _ h).0).0
    formed Event t h = (and_parts (has_server_values Event n (data_of t)) _ h).0

    by_object : (o : Option Tree) → live_object cs kind n ≡ o → has_stored_form kind n o ≡ true
    by_object None is = refl
    by_object (Some t) is = formed kind t (sound_where_none_is_unsound zones cs none kind n t is)
