-- What the server sets and supplies of an event stands in it.
use Rattle.std.proofs.Common.{◌≡◌, ◌∙◌, ℕ, ℤ, pos, negsuc, List, [], ◌∷◌, ◌&&◌, Bool, true, false, not, Option, Some, None, codes, is_some, option_and_then, unwrap_or, if◌then◌else◌, arith, refl, ap}
use Rattle.std.proofs.lemmas.Bool.{and_from, false≢true}
use Rattle.std.proofs.lemmas.Slice.Eq.{bytes_eq-Decides}
use Rattle.std.specs.Cmp.Lexicographic.{slice_cmp}
use Rattle.std.specs.List.{list_all}
use Rattle.std.specs.Option.{option_map_or}
use Rattle.std.specs.Ordering.{nat_cmp, is_lt}
use Rattle.std.specs.Str.{bytes_eq}
use Rattle.jiff_core.proofs.SignedLemmas.{signed_arith}
use Rattle.civil_days.proofs.Orders.{is_int_le}
use Rattle.cal_model.specs.EventObject.{moment_created, supplied_uid, with_default, with_server_values}
use Rattle.cal_model.specs.Operations.{with_own_id}
use Rattle.cal_model.specs.Sound.{has_moment, has_no_null, has_own_id, has_server_values, has_stored_form, is_moment, is_moment_text}
use Rattle.property_table.specs.Table.{given}
use Rattle.spec_history.specs.ObjectId.{id_text}
use Rattle.spec_history.specs.declared.entry.Kind.{Kind}
use Rattle.spec_history.specs.declared.entry.Kind.TheVariants.{Event}
use Rattle.spec_json.proofs.EditLemmas.{lookup_with}
use Rattle.spec_json.proofs.KeyOrder.{same_key}
use Rattle.spec_json.specs.Data.{Data, Pair, field, list, lookup, members_of, null, object, pairs_back, text, truth, whole}
use Rattle.spec_json.specs.Edit.{with_pair}
use Rattle.spec_json.specs.Parts.{as_text, is_null, text_at}
use Rattle.spec_json.specs.TreeData.{data_of}
use Rattle.spec_json.specs.declared.tree.Tree.{Tree}
use Rattle.spec_time.specs.LocalTimes.{utc_text}
use Rattle.spec_time.specs.Moments.{IsMoment}
use Rattle.spec_time.specs.Walls.{is_in_years}
use Rattle.spec_time.specs.declared.moment.TheConstants.{LAST_MOMENT}
use Rattle.time_text.proofs.WrittenLemmas.{read_back}

-- Moments.

moment_is : (m : ℤ) → IsMoment m → is_moment m ≡ true
moment_is m h = and_from _ _ (is_int_le (pos 0) m h.0) (is_int_le m LAST_MOMENT h.1)

moment_in_years : (m : ℤ) → IsMoment m → is_in_years m ≡ true
moment_in_years m h = and_from _ _ (is_int_le (negsuc 62167219199) m (omega (arith, signed_arith, h.0))) (is_int_le m (pos 253402300799) (omega (arith, signed_arith, h.1)))

text_of_moment : (m : ℤ) → IsMoment m → is_moment_text (utc_text m) ≡ true
text_of_moment m h = ap (λ o. option_map_or is_moment o false) (read_back m (moment_in_years m h)).utc ∙ moment_is m h

-- Members that are put in.

other_step : (j k : List ℕ) (v : Data) (p : Pair) (ps : List Pair) → bytes_eq j k ≡ false → lookup k (with_pair j v ps) ≡ lookup k ps → (below same : Bool) → is_lt (slice_cmp nat_cmp p.0 j) ≡ below → bytes_eq p.0 j ≡ same
    → lookup k (with_pair j v (p ∷ ps)) ≡ lookup k (p ∷ ps)
other_step j k v p ps h e true same b s = rw (b, e) refl
other_step j k v p ps h e false true b s =
    let unlike : bytes_eq p.0 k ≡ false = ap (λ i. bytes_eq i k) ((bytes_eq-Decides p.0 j).0 s) ∙ h in rw (b, s, h, unlike) refl
other_step j k v p ps h e false false b s = rw (b, s, h) refl

other_stays : (j k : List ℕ) (v : Data) (ps : List Pair) → bytes_eq j k ≡ false → lookup k (with_pair j v ps) ≡ lookup k ps
other_stays j k v [] h = rw h refl
other_stays j k v (p ∷ ps) h = other_step j k v p ps h (other_stays j k v ps h) (is_lt (slice_cmp nat_cmp p.0 j)) (bytes_eq p.0 j) refl refl

default_by : (k : List ℕ) (v : Data) (ps : List Pair) (found : Bool) → is_some (lookup k ps) ≡ found → is_some (lookup k (if found then ps else with_pair k v ps)) ≡ true
default_by k v ps true e = e
default_by k v ps false e = ap is_some (lookup_with k v ps)

default_found : (k : List ℕ) (v : Data) (ps : List Pair) → is_some (lookup k (with_default k v ps)) ≡ true
default_found k v ps = default_by k v ps (is_some (lookup k ps)) refl

default_other : (j k : List ℕ) (v : Data) (ps : List Pair) → bytes_eq j k ≡ false → lookup k (with_default j v ps) ≡ lookup k ps
default_other j k v ps h = by_cases (is_some (lookup j ps)) h
  where
    by_cases : (found : Bool) → bytes_eq j k ≡ false → lookup k (if found then ps else with_pair j v ps) ≡ lookup k ps
    by_cases true e = refl
    by_cases false e = other_stays j k v ps e

-- No member is null.

abbrev is_value : Pair → Bool
is_value p = not (is_null p.1)

put_value_step : (k : List ℕ) (v : Data) (p : Pair) (ps : List Pair) (below same : Bool) → is_null v ≡ false → (is_value p && list_all is_value ps) ≡ true → list_all is_value (with_pair k v ps) ≡ true
    → list_all is_value (if below then p ∷ with_pair k v ps else if same then (k, v) ∷ ps else (k, v) ∷ p ∷ ps) ≡ true
put_value_step k v p ps true same e h rest = and_from _ _ (first (is_value p) h) rest
  where
    first : (b : Bool) → (b && list_all is_value ps) ≡ true → b ≡ true
    first true g = refl
    first false g = absurd (false≢true g)
put_value_step k v p ps false true e h rest = and_from _ _ (ap not e) (later (is_value p) h)
  where
    later : (b : Bool) → (b && list_all is_value ps) ≡ true → list_all is_value ps ≡ true
    later true g = g
    later false g = absurd (false≢true g)
put_value_step k v p ps false false e h rest = and_from _ _ (ap not e) h

put_value : (k : List ℕ) (v : Data) (ps : List Pair) → is_null v ≡ false → list_all is_value ps ≡ true → list_all is_value (with_pair k v ps) ≡ true
put_value k v [] e h = and_from _ _ (ap not e) refl
put_value k v (p ∷ ps) e h = put_value_step k v p ps (is_lt (slice_cmp nat_cmp p.0 k)) (bytes_eq p.0 k) e h (put_value k v ps e (rest (is_value p) h))
  where
    rest : (b : Bool) → (b && list_all is_value ps) ≡ true → list_all is_value ps ≡ true
    rest true g = g
    rest false g = absurd (false≢true g)

default_value : (k : List ℕ) (v : Data) (ps : List Pair) → is_null v ≡ false → list_all is_value ps ≡ true → list_all is_value (with_default k v ps) ≡ true
default_value k v ps e h = by_cases (is_some (lookup k ps)) h
  where
    by_cases : (found : Bool) → list_all is_value ps ≡ true → list_all is_value (if found then ps else with_pair k v ps) ≡ true
    by_cases true g = g
    by_cases false g = put_value k v ps e g

given_step : (p : Pair) (ps : List Pair) (b : Bool) → is_value p ≡ b → list_all is_value ps ≡ true → list_all is_value (if b then p ∷ ps else ps) ≡ true
given_step p ps true e h = and_from _ _ e h
given_step p ps false e h = h

given_values : (ps : List Pair) → list_all is_value (given ps) ≡ true
given_values [] = refl
given_values (p ∷ ps) = given_step p (given ps) (is_value p) refl (given_values ps)

-- The moment of the create.

abbrev IsMomentData : Data → Type 0
IsMomentData d = (option_map_or is_moment_text (as_text d) false ≡ true) × (is_null d ≡ false)

kept_moment : (o : Option Data) → option_map_or is_moment_text (option_and_then as_text o) false ≡ true → IsMomentData (unwrap_or o null)
kept_moment None h = absurd (false≢true h)
kept_moment (Some null) h = absurd (false≢true h)
kept_moment (Some (truth b)) h = absurd (false≢true h)
kept_moment (Some (whole n)) h = absurd (false≢true h)
kept_moment (Some (text s)) h = (h, refl)
kept_moment (Some (list ds)) h = absurd (false≢true h)
kept_moment (Some (object ms)) h = absurd (false≢true h)

created_part : (a b c d e : Bool) → ((((a && b) && c) && d) && e) ≡ true → c ≡ true
created_part true true true d e h = refl
created_part true true false d e h = absurd (false≢true h)
created_part true false c d e h = absurd (false≢true h)
created_part false b c d e h = absurd (false≢true h)

created_is : (m : ℤ) (n : ℕ) (before : Option Tree) → IsMoment m → has_stored_form Event n before ≡ true → IsMomentData (moment_created m before)
created_is m n None moment h = (text_of_moment m moment, refl)
created_is m n (Some t) moment h =
    kept_moment (field (codes "created") (data_of t)) (created_part (has_own_id Event n (data_of t)) (is_some (field (codes "@type") (data_of t))) (has_moment (codes "created") (data_of t))
    (has_moment (codes "updated") (data_of t)) (has_no_null (data_of t)) h)

-- what stands in an object of members
text_in : (key : List ℕ) (ps : List Pair) (v : Data) → lookup key ps ≡ Some v → text_at key (object (members_of ps)) ≡ as_text v
text_in key ps v h = ap (λ qs. option_and_then as_text (lookup key qs)) (pairs_back ps) ∙ ap (option_and_then as_text) h

-- an object has the id that is put in it
pub own_id_stands : (kind : Kind) (n : ℕ) (ps : List Pair) → has_own_id kind n (with_own_id kind n ps) ≡ true
own_id_stands kind n ps =
    ap (λ o. option_map_or (λ s. bytes_eq s (id_text kind n)) o false) (text_in (codes "id") (with_pair (codes "id") (text (id_text kind n)) ps) (text (id_text kind n)) (lookup_with (codes "id") (text (id_text kind n)) ps))
    ∙ same_key (id_text kind n)

module _ (account : List ℕ) (m : ℤ) (n : ℕ) (before : Option Tree) (ps : List Pair) (moment : IsMoment m) (form : has_stored_form Event n before ≡ true) where
  abbrev named : List Pair
  named = with_pair (codes "id") (text (id_text Event n)) (given ps)

  abbrev dated : List Pair
  dated = with_pair (codes "created") (moment_created m before) named

  abbrev set : List Pair
  set = with_pair (codes "updated") (text (utc_text m)) dated

  abbrev typed : List Pair
  typed = with_default (codes "@type") (text (codes "Event")) set

  abbrev all : List Pair
  all = with_default (codes "uid") (text (supplied_uid account n)) typed

  stays : (key : List ℕ) → bytes_eq (codes "uid") key ≡ false → bytes_eq (codes "@type") key ≡ false → lookup key all ≡ lookup key set
  stays key a b = default_other (codes "uid") key (text (supplied_uid account n)) typed a ∙ default_other (codes "@type") key (text (codes "Event")) set b

  id_found : lookup (codes "id") all ≡ Some (text (id_text Event n))
  id_found =
      stays (codes "id") refl refl ∙ other_stays (codes "updated") (codes "id") (text (utc_text m)) dated refl ∙ other_stays (codes "created") (codes "id") (moment_created m before) named refl
      ∙ lookup_with (codes "id") (text (id_text Event n)) (given ps)

  created_found : lookup (codes "created") all ≡ Some (moment_created m before)
  created_found = stays (codes "created") refl refl ∙ other_stays (codes "updated") (codes "created") (text (utc_text m)) dated refl ∙ lookup_with (codes "created") (moment_created m before) named

  updated_found : lookup (codes "updated") all ≡ Some (text (utc_text m))
  updated_found = stays (codes "updated") refl refl ∙ lookup_with (codes "updated") (text (utc_text m)) dated

  type_found : is_some (lookup (codes "@type") all) ≡ true
  type_found = ap is_some (default_other (codes "uid") (codes "@type") (text (supplied_uid account n)) typed refl) ∙ default_found (codes "@type") (text (codes "Event")) set

  created : IsMomentData (moment_created m before)
  created = created_is m n before moment form

  no_null : list_all is_value all ≡ true
  no_null = default_value (codes "uid") (text (supplied_uid account n)) typed refl (default_value (codes "@type") (text (codes "Event")) set refl
      (put_value (codes "updated") (text (utc_text m)) dated refl (put_value (codes "created") (moment_created m before) named created.1 (put_value (codes "id") (text (id_text Event n)) (given ps) refl (given_values ps)))))

  pub server_values_stand : has_server_values Event n (object (members_of (with_server_values account m n before (given ps)))) ≡ true
  server_values_stand =
      let d = object (members_of all) in
      let id : has_own_id Event n d ≡ true =
      ap (λ o. option_map_or (λ s. bytes_eq s (id_text Event n)) o false) (text_in (codes "id") all (text (id_text Event n)) id_found) ∙ same_key (id_text Event n) in
      let type : is_some (field (codes "@type") d) ≡ true = ap (λ qs. is_some (lookup (codes "@type") qs)) (pairs_back all) ∙ type_found in
      let made : has_moment (codes "created") d ≡ true = ap (λ o. option_map_or is_moment_text o false) (text_in (codes "created") all (moment_created m before) created_found) ∙ created.0 in
      let changed : has_moment (codes "updated") d ≡ true = ap (λ o. option_map_or is_moment_text o false) (text_in (codes "updated") all (text (utc_text m)) updated_found) ∙ text_of_moment m moment in
      let values : has_no_null d ≡ true = ap (list_all is_value) (pairs_back all) ∙ no_null in
      rw (id, type, made, changed, values) refl
