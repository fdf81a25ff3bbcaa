-- What one pass over an object's members finds is what its table says.
use Rattle.std.proofs.Common.{◌≡◌, ℕ, List, [], ◌∷◌, ◌++◌, ◌&&◌, ◌||◌, Bool, true, false, not, filter, Option, Some, None, is_some, if◌then◌else◌, refl, sym, ap, ◌∙◌}
use Rattle.std.proofs.lemmas.Bool.{and_from, and_parts, or_left}
use Rattle.std.proofs.lemmas.Slice.Eq.{bytes_eq-Decides}
use Rattle.std.specs.Str.{bytes_eq}
use Rattle.spec_json.proofs.EditLemmas.{lookup_below, equal_above}
use Rattle.spec_json.proofs.KeyOrder.{above_later}
use Rattle.spec_json.specs.Data.{Data, Pair, field, lookup}
use Rattle.spec_json.specs.Parts.{is_null, members_in}
use Rattle.spec_json.specs.ObjectKeys.{is_above, keys_rise}
use Rattle.property_table.specs.Names.{has_name, names_rise, put_name}
use Rattle.property_table.specs.OnePass.{fails_given, failing_keys, with_missing}
use Rattle.property_table.specs.Table.{NamesAllFailing, Table, Test, failing, fails_at, given, keys_of, names_of, required_names, test_at}
use Rattle.property_table.proofs.NameLemmas.{has_append, has_filter, has_keys, has_ordered, has_put, rises_ordered, rises_put, unique}
use Rattle.spec_json.proofs.DataLemmas.{field_is}

pub all_failing : (t : Table) (ps : List Pair) → NamesAllFailing t ps
all_failing t ps =
    let names : List (List ℕ) = names_of t.rows ++ keys_of ps in
    record {
      rise = rises_ordered (filter (fails_at t ps) names);
      exact = λ n. has_ordered (filter (fails_at t ps) names) n ∙ has_filter (fails_at t ps) names n;
    }

-- Some of the members of an object.
above_kept : (f : Pair → Bool) (k : List ℕ) (p : Pair) (ps : List Pair) (b : Bool) → f p ≡ b → is_above k (p ∷ ps) ≡ true → is_above k (filter f ps) ≡ true → is_above k (filter f (p ∷ ps)) ≡ true
above_kept f k p ps true e h g = rw e h
above_kept f k p ps false e h g = rw e g

above_filter : (f : Pair → Bool) (k : List ℕ) (ps : List Pair) → is_above k ps ≡ true → keys_rise ps ≡ true → is_above k (filter f ps) ≡ true
above_filter f k [] h rise = refl
above_filter f k (p ∷ ps) h rise =
    let parts = and_parts (is_above p.0 ps) (keys_rise ps) rise in
    above_kept f k p ps (f p) refl h (above_filter f k ps (above_later k p ps h parts.0) parts.1)

rises_kept : (f : Pair → Bool) (p : Pair) (ps : List Pair) (b : Bool) → f p ≡ b → is_above p.0 (filter f ps) ≡ true → keys_rise (filter f ps) ≡ true → keys_rise (filter f (p ∷ ps)) ≡ true
rises_kept f p ps true e above rest = rw e (and_from _ _ above rest)
rises_kept f p ps false e above rest = rw e rest

-- their keys rise as those of all do
pub rises_filter : (f : Pair → Bool) (ps : List Pair) → keys_rise ps ≡ true → keys_rise (filter f ps) ≡ true
rises_filter f [] rise = refl
rises_filter f (p ∷ ps) rise =
    let parts = and_parts (is_above p.0 ps) (keys_rise ps) rise in
    rises_kept f p ps (f p) refl (above_filter f p.0 ps parts.0 parts.1) (rises_filter f ps parts.1)

-- the value at a key, where its member is kept
abbrev pub value_kept : (Pair → Bool) → List ℕ → Option Data → Option Data
value_kept f k None = None
value_kept f k (Some d) = if f (k, d) then Some d else None

lookup_filter_at : (f : Pair → Bool) (k : List ℕ) (p : Pair) (ps : List Pair) → (bytes_eq p.0 k ≡ true → lookup k (filter f ps) ≡ None) → lookup k (filter f ps) ≡ value_kept f k (lookup k ps)
    → (same passes : Bool) → bytes_eq p.0 k ≡ same → f p ≡ passes → lookup k (if passes then p ∷ filter f ps else filter f ps) ≡ value_kept f k (if same then Some p.1 else lookup k ps)
lookup_filter_at f k p ps none h true true e t =
    let is : p.0 ≡ k = (bytes_eq-Decides p.0 k).0 e in let passes : f (k, p.1) ≡ true = sym (ap (λ z. f (z, p.1)) is) ∙ t in rw (e, passes) refl
lookup_filter_at f k p ps none h true false e t =
    let is : p.0 ≡ k = (bytes_eq-Decides p.0 k).0 e in let passes : f (k, p.1) ≡ false = sym (ap (λ z. f (z, p.1)) is) ∙ t in none e ∙ rw passes refl
lookup_filter_at f k p ps none h false true e t = rw e h
lookup_filter_at f k p ps none h false false e t = h

pub lookup_filter : (f : Pair → Bool) (k : List ℕ) (ps : List Pair) → keys_rise ps ≡ true → lookup k (filter f ps) ≡ value_kept f k (lookup k ps)
lookup_filter f k [] r = refl
lookup_filter f k (p ∷ ps) r =
    let rise = and_parts (is_above p.0 ps) (keys_rise ps) r in
    lookup_filter_at f k p ps (λ e. let a = equal_above p.0 k ps e rise.0 in lookup_below k (filter f ps) (above_filter f k ps a rise.1) (rises_filter f ps rise.1)) (lookup_filter f k ps rise.1) (bytes_eq p.0 k) (f p) refl refl

-- The two sides of the one pass, at one name.
abbrev fails_value : Test → Option Data → Bool
fails_value test None = false
fails_value test (Some d) = not (is_null d) && not (test (Some d))

abbrev pub value_given : Option Data → Option Data
value_given None = None
value_given (Some d) = if not (is_null d) then Some d else None

pub given_is : (k : List ℕ) (ps : List Pair) → keys_rise ps ≡ true → lookup k (given ps) ≡ value_given (lookup k ps)
given_is k ps r = lookup_filter (λ p. not (is_null p.1)) k ps r ∙ at (lookup k ps)
  where
    at : (found : Option Data) → value_kept (λ p. not (is_null p.1)) k found ≡ value_given found
    at None = refl
    at (Some d) = refl

choice : (d : Data) (b : Bool) → is_some (if b then Some d else None) ≡ b
choice d true = refl
choice d false = refl

has_failing : (t : Table) (ps : List Pair) (k : List ℕ) → keys_rise ps ≡ true → has_name (failing_keys t ps) k ≡ fails_value (test_at t k) (lookup k ps)
has_failing t ps k r = has_keys (filter (fails_given t) ps) k ∙ ap is_some (lookup_filter (fails_given t) k ps r) ∙ at (lookup k ps)
  where
    at : (found : Option Data) → is_some (value_kept (fails_given t) k found) ≡ fails_value (test_at t k) found
    at None = refl
    at (Some d) = choice d (fails_given t (k, d))

and_none : (rest has : Bool) → ((rest && false) || has) ≡ has
and_none true has = refl
and_none false has = refl

or_some : (rest has : Bool) → ((rest && true) || (true || has)) ≡ true
or_some true has = refl
or_some false has = refl

has_missing_at : (ps : List Pair) (n : List ℕ) (ns names : List (List ℕ)) (k : List ℕ) (there same : Bool) → is_some (lookup n ps) ≡ there → bytes_eq n k ≡ same
    → ((has_name ns k && not (is_some (lookup k ps))) || has_name (if there then names else put_name n names) k) ≡ (((same || has_name ns k) && not (is_some (lookup k ps))) || has_name names k)
has_missing_at ps n ns names k true true m e =
    let there : is_some (lookup k ps) ≡ true = ap (λ z. is_some (lookup z ps)) (sym ((bytes_eq-Decides n k).0 e)) ∙ m in rw there (and_none (has_name ns k) (has_name names k))
has_missing_at ps n ns names k false true m e =
    let missing : is_some (lookup k ps) ≡ false = ap (λ z. is_some (lookup z ps)) (sym ((bytes_eq-Decides n k).0 e)) ∙ m in
    ap (λ b. (has_name ns k && not (is_some (lookup k ps))) || b) (has_put n k names) ∙ rw (e, missing) (or_some (has_name ns k) (has_name names k))
has_missing_at ps n ns names k true false m e = refl
has_missing_at ps n ns names k false false m e = ap (λ b. (has_name ns k && not (is_some (lookup k ps))) || b) (has_put n k names) ∙ rw e refl

has_missing : (ps : List Pair) (ns names : List (List ℕ)) (k : List ℕ) → has_name (with_missing ps ns names) k ≡ ((has_name ns k && not (is_some (lookup k ps))) || has_name names k)
has_missing ps [] names k = refl
has_missing ps (n ∷ ns) names k =
    has_missing ps ns (if is_some (lookup n ps) then names else put_name n names) k ∙ has_missing_at ps n ns names k (is_some (lookup n ps)) (bytes_eq n k) refl refl

rises_either : (b : Bool) (xs ys : List (List ℕ)) → names_rise xs ≡ true → names_rise ys ≡ true → names_rise (if b then xs else ys) ≡ true
rises_either true xs ys r s = r
rises_either false xs ys r s = s

rises_missing : (ps : List Pair) (ns names : List (List ℕ)) → names_rise names ≡ true → names_rise (with_missing ps ns names) ≡ true
rises_missing ps [] names r = r
rises_missing ps (n ∷ ns) names r =
    rises_missing ps ns (if is_some (lookup n ps) then names else put_name n names) (rises_either (is_some (lookup n ps)) names (put_name n names) r (rises_put n names r))

rises_keys : (ps : List Pair) → keys_rise ps ≡ true → names_rise (keys_of ps) ≡ true
rises_keys [] r = refl
rises_keys (p ∷ []) r = refl
rises_keys (p ∷ (q ∷ ps)) r = let rise = and_parts (is_above p.0 (q ∷ ps)) (keys_rise (q ∷ ps)) r in and_from _ _ rise.0 (rises_keys (q ∷ ps) rise.1)

agree_without : (named fails : Bool) → (((named && fails) && true) || false) ≡ ((named || false) && fails)
agree_without true true = refl
agree_without true false = refl
agree_without false fails = refl

agree_with : (named fails bad : Bool) → (((named && fails) && false) || (true && bad)) ≡ ((named || true) && bad)
agree_with true true bad = refl
agree_with true false bad = refl
agree_with false fails bad = refl

agree_given : (named : Bool) (test : Test) (d : Data) (is_it : Bool) → is_null d ≡ is_it
    → (((named && not (test None)) && not (is_some (if not is_it then Some d else None))) || (not is_it && not (test (Some d))))
    ≡ ((named || is_some (if not is_it then Some d else None)) && not (test (if not is_it then Some d else None)))
agree_given named test d true e = agree_without named (not (test None))
agree_given named test d false e = agree_with named (not (test None)) (not (test (Some d)))

agree : (named : Bool) (test : Test) (found : Option Data)
    → (((named && not (test None)) && not (is_some (value_given found))) || fails_value test found) ≡ ((named || is_some (value_given found)) && not (test (value_given found)))
agree named test None = agree_without named (not (test None))
agree named test (Some d) = agree_given named test d (is_null d) refl

-- what is found in one pass is all that fails
pub one_pass : (t : Table) (ps : List Pair) → keys_rise ps ≡ true → with_missing (given ps) (required_names t) (failing_keys t ps) ≡ failing t (given ps)
one_pass t ps r =
    unique _ _ (rises_missing (given ps) (required_names t) (failing_keys t ps) (rises_keys (filter (fails_given t) ps) (rises_filter (fails_given t) ps r)))
    (rises_ordered (filter (fails_at t (given ps)) (names_of t.rows ++ keys_of (given ps))))
    (λ k. has_missing (given ps) (required_names t) (failing_keys t ps) k
    ∙ ap (λ b. (b && not (is_some (lookup k (given ps)))) || has_name (failing_keys t ps) k) (has_filter (λ n. not (test_at t n None)) (names_of t.rows) k)
    ∙ ap (λ b. ((has_name (names_of t.rows) k && not (test_at t k None)) && not (is_some (lookup k (given ps)))) || b) (has_failing t ps k r)
    ∙ ap (λ found. ((has_name (names_of t.rows) k && not (test_at t k None)) && not (is_some found)) || fails_value (test_at t k) (lookup k ps)) (given_is k ps r)
    ∙ agree (has_name (names_of t.rows) k) (test_at t k) (lookup k ps)
    ∙ ap (λ found. (has_name (names_of t.rows) k || is_some found) && not (test_at t k found)) (sym (given_is k ps r))
    ∙ ap (λ b. (has_name (names_of t.rows) k || b) && fails_at t (given ps) k) (sym (has_keys (given ps) k))
    ∙ ap (λ b. b && fails_at t (given ps) k) (sym (has_append (names_of t.rows) (keys_of (given ps)) k))
    ∙ sym ((all_failing t (given ps)).exact k))

-- an object gives a value at a key where it has one that isn't null
abbrev pub is_given : Option Data → Bool
is_given None = false
is_given (Some d) = not (is_null d)

pub value_is : (k : List ℕ) (d : Data) → keys_rise (members_in d) ≡ true → is_some (lookup k (given (members_in d))) ≡ is_given (field k d)
value_is k d r = ap is_some (given_is k (members_in d) r) ∙ at (lookup k (members_in d)) ∙ ap is_given (sym (field_is k d))
  where
    at : (found : Option Data) → is_some (value_given found) ≡ is_given found
    at None = refl
    at (Some d) = choice d (not (is_null d))

-- For the tables themselves.
unlike_at : (k name : List ℕ) (b : Bool) → bytes_eq k name ≡ b → (name ≡ k → ⊥) → bytes_eq k name ≡ false
unlike_at k name true e h = absurd (h (sym ((bytes_eq-Decides k name).0 e)))
unlike_at k name false e h = e

-- a name that isn't one is another
pub unlike : {name k : List ℕ} → (name ≡ k → ⊥) → bytes_eq k name ≡ false
unlike {name} {k} h = unlike_at k name (bytes_eq k name) refl h

pub passes_by : (there test : Bool) → there ≡ true → (there && not test) ≡ false → test ≡ true
passes_by true true t h = refl
passes_by true false t h = cc
passes_by false test t h = cc

-- where nothing fails the value at the name of each row passes
pub passes : (t : Table) (ps : List Pair) (name : List ℕ) → failing t ps ≡ [] → has_name (names_of t.rows) name ≡ true → test_at t name (lookup name ps) ≡ true
passes t ps name none there =
    passes_by (has_name (names_of t.rows ++ keys_of ps) name) (test_at t name (lookup name ps))
    (has_append (names_of t.rows) (keys_of ps) name ∙ or_left (has_name (names_of t.rows) name) (has_name (keys_of ps) name) there)
    (sym ((all_failing t ps).exact name) ∙ ap (λ ns. has_name ns name) none)
