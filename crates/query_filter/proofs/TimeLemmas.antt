-- Filters that don't ask when an event is.
use Rattle.std.proofs.Common.{◌≡◌, List, [], ◌∷◌, ◌||◌, Bool, false, Option, Some, None, refl, ap}
use Rattle.std.specs.Prelude.{codes, unwrap_or}
use Rattle.std.specs.Option.{option_map_or}
use Rattle.std.specs.Str.{bytes_eq}
use Rattle.std.proofs.lemmas.Bool.{or_parts}
use Rattle.jiff_tz.specs.PosixText.{TzText}
use Rattle.spec_filters.specs.Filters.{asks_time, has_time, holding, meaning_of, operator_holds, said, said_at, said_items, said_list, some_true, time}
use Rattle.spec_filters.specs.Matches.{matches_by, meets_condition}
use Rattle.spec_filters.specs.Members.{given_at}
use Rattle.spec_json.proofs.Booleans.{by_bool}
use Rattle.spec_json.specs.Data.{Data, null, truth, whole, text, list, object, Items, no_items, item, Members, no_members, member, Pair, pairs_of}
use Rattle.spec_json.specs.Parts.{as_text}
use Rattle.spec_series.specs.declared.series.Series.{Series}

-- Two tests that agree on conditions without times.
module _ (t u : List Pair → Bool) (same : (ps : List Pair) → asks_time ps ≡ false → t ps ≡ u ps) where
  object_same : (op : Option Data) (ps : List Pair) (times v w : Option (List Bool)) → option_map_or (λ o. false || option_map_or some_true times false) op (asks_time ps) ≡ false
      → (option_map_or some_true times false ≡ false → v ≡ w)
      → option_map_or (λ o. operator_holds (unwrap_or (as_text o) []) (unwrap_or v [])) op (t ps) ≡ option_map_or (λ o. operator_holds (unwrap_or (as_text o) []) (unwrap_or w [])) op (u ps)
  object_same None ps times v w h f = same ps h
  object_same (Some op) ps times v w h f = ap (λ c. operator_holds (unwrap_or (as_text op) []) (unwrap_or c [])) (f h)

  mutual
    data_same : (d : Data) → said (meaning_of time) d ≡ false → said (holding t) d ≡ said (holding u) d
    data_same null h = refl
    data_same (truth b) h = refl
    data_same (whole n) h = refl
    data_same (text s) h = refl
    data_same (list ds) h = refl
    data_same (object ms) h =
        object_same (given_at (codes "operator") (pairs_of ms)) (pairs_of ms) (said_at (meaning_of time) ms) (said_at (holding t) ms) (said_at (holding u) ms) h (λ e. members_same ms e)

    members_same : (ms : Members) → option_map_or some_true (said_at (meaning_of time) ms) false ≡ false → said_at (holding t) ms ≡ said_at (holding u) ms
    members_same no_members h = refl
    members_same (member k d ms) h = by_bool (bytes_eq k (codes "conditions")) (λ e. rw e (list_same d (rw e at h))) (λ e. rw e (members_same ms (rw e at h)))

    list_same : (d : Data) → option_map_or some_true (said_list (meaning_of time) d) false ≡ false → said_list (holding t) d ≡ said_list (holding u) d
    list_same null h = refl
    list_same (truth b) h = refl
    list_same (whole n) h = refl
    list_same (text s) h = refl
    list_same (list ds) h = ap (λ bs. Some bs) (items_same ds h)
    list_same (object ms) h = refl

    items_same : (is : Items) → some_true (said_items (meaning_of time) is) ≡ false → said_items (holding t) is ≡ said_items (holding u) is
    items_same no_items h = refl
    items_same (item d is) h =
        let parts = or_parts (said (meaning_of time) d) (some_true (said_items (meaning_of time) is)) h in
        λ i. data_same d parts.0 i ∷ items_same is parts.1 i

condition_same : (clock : TzText) (s t : Option Series) (r q : Option TzText) (event : Data) (ps : List Pair) → asks_time ps ≡ false → meets_condition clock s r event ps ≡ meets_condition clock t q event ps
unfolding meets_condition
condition_same clock s t r q event ps h = rw h refl

-- series and rules don't matter to them
pub without_time : (filter : Data) → has_time filter ≡ false → (clock : TzText) (s t : Option Series) (r q : Option TzText) (event : Data) → matches_by clock s r filter event ≡ matches_by clock t q filter event
without_time filter h clock s t r q event = data_same (meets_condition clock s r event) (meets_condition clock t q event) (condition_same clock s t r q event) filter h
