-- Pages of changes: what was created, updated and destroyed between two states of a kind (RFC 8620 section 5.2).
use Rattle.std.specs.Prelude.{ℕ, zero, suc, ◌+◌, ◌-◌, List, [], ◌∷◌, ◌==◌, ◌&&◌, not, Bool, true, false, Option, Some, None, length, take, drop, map, filter, if◌then◌else◌, nat_le, is_some}
use Rattle.std.specs.List.{list_any}
use Rattle.std.specs.Option.{option_map_or, option_or}
use Rattle.spec_history.specs.History.{is_kind}
use Rattle.spec_history.specs.declared.entry.Change.{Change}
use Rattle.spec_history.specs.declared.entry.Kind.{Kind}

-- what a change says of ids alone: which one it names, and whether it puts an object
pub record Mention : Type 0 where
  pub id : ℕ
  pub puts : Bool

abbrev pub mention_of : Change → Mention
mention_of c = record { id = c.id; puts = is_some c.object }

-- the mentions of one kind, so that a state counts the first of them (RFC 8620 section 5.1)
abbrev pub mentions : Kind → List Change → List Mention
mentions kind cs = map mention_of (filter (λ c. is_kind kind c.kind) cs)

abbrev pub last : {X : Type 0} → List X → Option X
last [] = None
last (x ∷ xs) = option_or (last xs) (Some x)

-- the last mention of an id puts an object
abbrev pub is_put_last : List Mention → ℕ → Bool
is_put_last ms id = option_map_or (λ m. m.puts) (last (filter (λ m. m.id == id) ms)) false

-- an id is live at state k
abbrev pub is_live : List Mention → ℕ → ℕ → Bool
is_live ms k id = is_put_last (take k ms) id

-- an id is mentioned after state k and up to state j
abbrev pub is_touched : List Mention → ℕ → ℕ → ℕ → Bool
is_touched ms k j id = list_any (λ m. m.id == id) (drop k (take j ms))

abbrev pub is_created : List Mention → ℕ → ℕ → ℕ → Bool
is_created ms k j id = is_live ms j id && not (is_live ms k id)

abbrev pub is_updated : List Mention → ℕ → ℕ → ℕ → Bool
is_updated ms k j id = (is_live ms k id && is_live ms j id) && is_touched ms k j id

abbrev pub is_destroyed : List Mention → ℕ → ℕ → ℕ → Bool
is_destroyed ms k j id = is_live ms k id && not (is_live ms j id)

abbrev pub is_in : List ℕ → ℕ → Bool
is_in ids id = list_any (λ n. n == id) ids

-- each of these numbers once, where it comes first
abbrev pub distinct : List ℕ → List ℕ
distinct [] = []
distinct (n ∷ ns) = n ∷ filter (λ m. not (m == n)) (distinct ns)

-- the ids that are mentioned, in order of creation, which is that of their first mention
abbrev pub ids_of : List Mention → List ℕ
ids_of ms = distinct (map (λ m. m.id) ms)

abbrev pub created : List Mention → ℕ → ℕ → List ℕ
created ms k j = filter (λ id. is_created ms k j id) (ids_of ms)

abbrev pub updated : List Mention → ℕ → ℕ → List ℕ
updated ms k j = filter (λ id. is_updated ms k j id) (ids_of ms)

abbrev pub destroyed : List Mention → ℕ → ℕ → List ℕ
destroyed ms k j = filter (λ id. is_destroyed ms k j id) (ids_of ms)

-- how many ids a page from state k to state j lists
abbrev pub size_of_page : List Mention → ℕ → ℕ → ℕ
size_of_page ms k j = length (created ms k j) + (length (updated ms k j) + length (destroyed ms k j))

abbrev pub is_within : Option ℕ → ℕ → Bool
is_within None n = true
is_within (Some most) n = nat_le n most

-- the greatest of the n numbers above k that passes, k where none does
abbrev pub greatest : (ℕ → Bool) → ℕ → ℕ → ℕ
greatest test k zero = k
greatest test k (suc n) = if test (k + suc n) then k + suc n else greatest test k n

-- the state at which a page from state k ends: the greatest at which it lists at most so many ids
abbrev pub page_end : List Mention → ℕ → Option ℕ → ℕ
page_end ms k most = greatest (λ j. is_within most (size_of_page ms k j)) k (length ms - k)

-- how many changes back a state is still answered from
abbrev pub window : ℕ
window = 4096

-- at state n pages are made from state k: it has been, and lies at most the window back
abbrev pub is_retained : ℕ → ℕ → Bool
is_retained n k = nat_le k n && nat_le (n - k) window
