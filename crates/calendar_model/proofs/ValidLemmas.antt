-- What is stored of a calendar that is valid is valid.
use Rattle.std.proofs.Common.{◌≡◌, ◌==◌, ◌++◌, ◌∷◌, ℕ, arith, length, List, [], Bool, true, false, not, Option, Some, None, codes, filter, pos, refl, sym, ap, ◌∙◌, unwrap_or, option_and_then, if◌then◌else◌}
use Rattle.std.proofs.lemmas.Bool.{false≢true}
use Rattle.std.proofs.lemmas.Bool.Decides.{nat_tests}
use Rattle.cal_model.specs.Calendar.{CalendarProperties, bad_properties, calendar_in, calendar_table, is_calendar_id, stored, text_or_null}
use Rattle.property_table.proofs.TableLemmas.{given_is, passes as row_passes, value_given}
use Rattle.property_table.specs.Names.{in_byte_order}
use Rattle.property_table.specs.Table.{Table, failing, fails_at, given, keys_of, names_of, optional, required, test_at}
use Rattle.property_table.specs.Values.{is_text, is_text_that, is_truth, is_unsigned_int}
use Rattle.spec_json.proofs.DataLemmas.{field_is}
use Rattle.spec_json.specs.Data.{Data, Pair, field, lookup, members_of, null, object, text, truth, whole, list}
use Rattle.spec_json.specs.ObjectKeys.{keys_rise}
use Rattle.spec_json.specs.Parts.{as_text, as_whole, is_null, members_in}
use Rattle.spec_site.specs.TimeZones.{ZoneText, has_zone}

-- What stands for a value passes where the value does.

text_required : (f : List ℕ → Bool) (o : Option Data) → required (is_text_that f) (value_given o) ≡ true → f (unwrap_or (option_and_then as_text o) []) ≡ true
text_required f None h = absurd (false≢true h)
text_required f (Some null) h = absurd (false≢true h)
text_required f (Some (truth b)) h = absurd (false≢true h)
text_required f (Some (whole n)) h = absurd (false≢true h)
text_required f (Some (text s)) h = h
text_required f (Some (list ds)) h = absurd (false≢true h)
text_required f (Some (object ms)) h = absurd (false≢true h)

text_optional : (f : List ℕ → Bool) (o : Option Data) → optional (is_text_that f) (value_given o) ≡ true
    → optional (is_text_that f) (value_given (Some (text_or_null (option_and_then as_text o)))) ≡ true
text_optional f None h = refl
text_optional f (Some null) h = refl
text_optional f (Some (truth b)) h = refl
text_optional f (Some (whole n)) h = refl
text_optional f (Some (text s)) h = h
text_optional f (Some (list ds)) h = refl
text_optional f (Some (object ms)) h = refl

any_text : (o : Option (List ℕ)) → optional is_text (value_given (Some (text_or_null o))) ≡ true
any_text None = refl
any_text (Some s) = refl

number_optional : (o : Option Data) → optional is_unsigned_int (value_given o) ≡ true → is_unsigned_int (whole (unwrap_or (option_and_then as_whole o) (pos 0))) ≡ true
number_optional None h = refl
number_optional (Some null) h = refl
number_optional (Some (truth b)) h = refl
number_optional (Some (whole n)) h = h
number_optional (Some (text s)) h = refl
number_optional (Some (list ds)) h = refl
number_optional (Some (object ms)) h = refl

-- A table that nothing fails.

filter_by_first : (f : List ℕ → Bool) (n : List ℕ) (ns : List (List ℕ)) (b : Bool) → f n ≡ b → (if b then n ∷ filter f ns else filter f ns) ≡ [] → (f n ≡ false) × (filter f ns ≡ [])
filter_by_first f n ns true e h = absurd (cc h)
filter_by_first f n ns false e h = (e, h)

filter_rest : (f : List ℕ → Bool) (n : List ℕ) (ns : List (List ℕ)) → filter f (n ∷ ns) ≡ [] → (f n ≡ false) × (filter f ns ≡ [])
filter_rest f n ns h = filter_by_first f n ns (f n) refl h

given_more : (f : List ℕ → Bool) (p : Pair) (ps : List Pair) (b : Bool) → is_null p.1 ≡ b → f p.0 ≡ false → filter f (keys_of (given ps)) ≡ [] → filter f (keys_of (given (p ∷ ps))) ≡ []
given_more f p ps true e passes rest = rw e rest
given_more f p ps false e passes rest = rw (e, passes) rest

none_of_given : (f : List ℕ → Bool) (ps : List Pair) → filter f (keys_of ps) ≡ [] → filter f (keys_of (given ps)) ≡ []
none_of_given f [] h = refl
none_of_given f (p ∷ ps) h = let first = filter_rest f p.0 (keys_of ps) h in given_more f p ps (is_null p.1) refl first.0 (none_of_given f ps first.1)

-- no name of these fails
abbrev NoneOf : (List ℕ → Bool) → List (List ℕ) → Type 0
NoneOf f [] = Unit {0}
NoneOf f (n ∷ ns) = (f n ≡ false) × NoneOf f ns

none_of : (f : List ℕ → Bool) (ns : List (List ℕ)) → NoneOf f ns → filter f ns ≡ []
none_of f [] h = refl
none_of f (n ∷ ns) h = rw h.0 (none_of f ns h.1)

filter_both : (f : List ℕ → Bool) (xs ys : List (List ℕ)) → filter f xs ≡ [] → filter f ys ≡ [] → filter f (xs ++ ys) ≡ []
filter_both f [] ys none others = others
filter_both f (x ∷ xs) ys none others = let first = filter_rest f x xs none in rw first.0 (filter_both f xs ys first.1 others)

-- a list that is empty holds no names
pub none_left : (names : List (List ℕ)) → true ≡ (length names == 0) → names ≡ []
none_left [] h = refl
none_left (n ∷ ns) h = absurd (grind (arith, nat_tests))

module _ (zones : List ZoneText) (d : Data) (rise : keys_rise (members_in d) ≡ true) (valid : bad_properties zones d ≡ []) where
  abbrev kept : List Pair
  kept = stored (calendar_in d)

  -- the value at a name passes
  at : (name : List ℕ) → test_at (calendar_table zones) name (lookup name (given (members_in d))) ≡ true → test_at (calendar_table zones) name (value_given (field name d)) ≡ true
  at name h = ap (λ o. test_at (calendar_table zones) name (value_given o)) (field_is name d) ∙ sym (ap (test_at (calendar_table zones) name) (given_is name (members_in d) rise)) ∙ h

  -- and what is stored there
  stored_at : (name : List ℕ) → test_at (calendar_table zones) name (value_given (lookup name kept)) ≡ true → fails_at (calendar_table zones) (given kept) name ≡ false
  stored_at name h = ap (λ o. not (test_at (calendar_table zones) name o)) (given_is name kept refl) ∙ ap not h

  abbrev fails : List ℕ → Bool
  fails name = fails_at (calendar_table zones) (given kept) name

  id : fails (codes "id") ≡ false
  unfolding calendar_table
  id = stored_at (codes "id") (text_required is_calendar_id (field (codes "id") d) (at (codes "id") (row_passes (calendar_table zones) (given (members_in d)) (codes "id") valid refl)))

  own_name : fails (codes "name") ≡ false
  unfolding calendar_table
  own_name = stored_at (codes "name") (text_required _ (field (codes "name") d) (at (codes "name") (row_passes (calendar_table zones) (given (members_in d)) (codes "name") valid refl)))

  description : fails (codes "description") ≡ false
  unfolding calendar_table
  description = stored_at (codes "description") (any_text (calendar_in d).description)

  color : fails (codes "color") ≡ false
  unfolding calendar_table
  color = stored_at (codes "color") (any_text (calendar_in d).color)

  order : fails (codes "sortOrder") ≡ false
  unfolding calendar_table
  order = stored_at (codes "sortOrder") (number_optional (field (codes "sortOrder") d) (at (codes "sortOrder") (row_passes (calendar_table zones) (given (members_in d)) (codes "sortOrder") valid refl)))

  subscribed : fails (codes "isSubscribed") ≡ false
  unfolding calendar_table
  subscribed = stored_at (codes "isSubscribed") refl

  visible : fails (codes "isVisible") ≡ false
  unfolding calendar_table
  visible = stored_at (codes "isVisible") refl

  zone : fails (codes "timeZone") ≡ false
  unfolding calendar_table
  zone = stored_at (codes "timeZone") (text_optional (has_zone zones) (field (codes "timeZone") d) (at (codes "timeZone") (row_passes (calendar_table zones) (given (members_in d)) (codes "timeZone") valid refl)))

  resource : fails (codes "resourceZone") ≡ false
  unfolding calendar_table
  resource = stored_at (codes "resourceZone") (text_optional (has_zone zones) (field (codes "resourceZone") d) (at (codes "resourceZone") (row_passes (calendar_table zones) (given (members_in d)) (codes "resourceZone") valid refl)))

  rows_pass : filter fails (names_of (calendar_table zones).rows) ≡ []
  unfolding calendar_table
  rows_pass = none_of fails (names_of (calendar_table zones).rows) (id, (own_name, (description, (color, (order, (subscribed, (visible, (zone, (resource, tt)))))))))

  keys_pass : filter fails (keys_of kept) ≡ []
  keys_pass = none_of fails (keys_of kept) (color, (description, (id, (subscribed, (visible, (own_name, (resource, (order, (zone, tt)))))))))

  pub stored_is_valid : bad_properties zones (object (members_of (stored (calendar_in d)))) ≡ []
  stored_is_valid = ap in_byte_order (filter_both fails (names_of (calendar_table zones).rows) (keys_of (given kept)) rows_pass (none_of_given fails kept keys_pass))
