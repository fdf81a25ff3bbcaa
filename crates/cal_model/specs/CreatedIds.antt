-- Ids that a call names, and the creation ids among them (RFC 8620 section 5.3).
use Rattle.std.specs.Prelude.{ℕ, List, [], ◌∷◌, ◌++◌, Option, Some, None, codes, drop, fold, map, option_and_then, option_map, take, unwrap_or, if◌then◌else◌}
use Rattle.std.specs.Option.{option_map_or}
use Rattle.std.specs.List.{list_any}
use Rattle.std.specs.Str.{bytes_eq}
use Rattle.spec_history.specs.History.{live_object}
use Rattle.spec_history.specs.ObjectId.{object_number}
use Rattle.spec_json.specs.Data.{Data, Pair, members_of, object}
use Rattle.spec_json.specs.Edit.{put_all}
use Rattle.spec_json.specs.Parts.{as_object, behind_hash}
use Rattle.spec_history.specs.declared.entry.Change.{Change}
use Rattle.spec_history.specs.declared.entry.Kind.{Kind}
use Rattle.spec_history.specs.declared.entry.Kind.TheVariants.{Calendar, Event}
use Rattle.spec_json.specs.declared.tree.Tree.{Tree}

-- the id of the object that was last created under a key
abbrev pub created_id_at : List (List ℕ × List ℕ) → List ℕ → Option (List ℕ)
created_id_at created key = fold (λ found p. if bytes_eq p.0 key then Some p.1 else found) None created

-- the id that a text stands for: `#key` is the created id of that key, where there is one
abbrev pub resolved_id : List (List ℕ × List ℕ) → List ℕ → List ℕ
resolved_id created id = unwrap_or (option_and_then (created_id_at created) (behind_hash id)) id

-- The keys of `calendarIds` with `#key` in place of the ids of calendars that the request created. Of two that stand for one id
-- the later counts.
abbrev pub resolved_calendar_ids : List (List ℕ × List ℕ) → List Pair → List Pair
resolved_calendar_ids created ps = put_all (map (λ p. (resolved_id created p.0, p.1)) ps) []

abbrev pub resolved_value : List (List ℕ × List ℕ) → Data → Data
resolved_value created d = option_map_or (λ ps. object (members_of (resolved_calendar_ids created ps))) (as_object d) d

-- the value of a member, in which ids of calendars are resolved
abbrev pub resolved_member_value : List (List ℕ × List ℕ) → Pair → Data
resolved_member_value created p = if bytes_eq p.0 (codes "calendarIds") then resolved_value created p.1 else p.1

-- what stands behind `calendarIds/` in a pointer that begins with it
abbrev pub below_calendar_ids : List ℕ → Option (List ℕ)
below_calendar_ids key = if bytes_eq (take 12 key) (codes "calendarIds/") then Some (drop 12 key) else None

-- a pointer `calendarIds/#key` names the calendar that the request created under the key
abbrev pub resolved_pointer : List (List ℕ × List ℕ) → List ℕ → List ℕ
resolved_pointer created key = option_map_or (λ id. codes "calendarIds/" ++ resolved_id created id) (below_calendar_ids key) key

-- an object as the client gives it, with created ids in place of `#key`
abbrev pub resolved_object : List (List ℕ × List ℕ) → Kind → List Pair → List Pair
resolved_object created Calendar ps = ps
resolved_object created Event ps = put_all (map (λ p. (p.0, resolved_member_value created p)) ps) []

-- a patch as the client gives it, with created ids in place of `#key`
abbrev pub resolved_patch : List (List ℕ × List ℕ) → Kind → List Pair → List Pair
resolved_patch created Calendar ps = ps
resolved_patch created Event ps = put_all (map (λ p. (resolved_pointer created p.0, resolved_member_value created p)) ps) []

-- the texts with this one, which goes last where it is new
abbrev pub with_text : List (List ℕ) → List ℕ → List (List ℕ)
with_text texts t = if list_any (λ u. bytes_eq u t) texts then texts else texts ++ t ∷ []

-- the different texts, in order of first mention
abbrev pub different : List (List ℕ) → List (List ℕ)
different texts = fold with_text [] texts

-- the live object of an id
abbrev pub object_with_id : List Change → Kind → List ℕ → Option Tree
object_with_id cs kind id = option_and_then (live_object cs kind) (object_number kind id)

-- the number and the object of an id, where the object is live
abbrev pub object_named : List Change → Kind → List ℕ → Option (ℕ × Tree)
object_named cs kind id = option_and_then (λ n. option_map (λ t. (n, t)) (live_object cs kind n)) (object_number kind id)
